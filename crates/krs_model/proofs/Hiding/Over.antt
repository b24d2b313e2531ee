-- Results seen through a function, step by step.
use Rattle.std.proofs.Common.{◌≡◌, Bool, cond, Err, false, Ok, refl, Result, true}
use Rattle.krs_types.specs.{Refusing.◌>>=◌, declared.errno.Errno.Errno}
use Rattle.krs_model.specs.Hiding.{over}

-- a step after a result that is seen through g
pub bound : {A B C D : Type 0} (g : A → B) (h : C → D) (r : Result A Errno) (f : A → Result C Errno)
    (k : B → Result D Errno) → ((x : A) → r ≡ Ok x → k (g x) ≡ over h (f x)) → (over g r >>= k) ≡ over h (r >>= f)
bound g h (Ok x) f k each = each x refl
bound g h (Err e) f k each = refl

-- a step after the same result
pub after : {A C D : Type 0} (h : C → D) (r : Result A Errno) (f : A → Result C Errno) (k : A → Result D Errno)
    → ((x : A) → r ≡ Ok x → k x ≡ over h (f x)) → (r >>= k) ≡ over h (r >>= f)
after h (Ok x) f k each = each x refl
after h (Err e) f k each = refl

-- one or the other, by a test
pub either : {A B : Type 0} (g : A → B) (b : Bool) (x y : Result A Errno) (v w : Result B Errno)
    → v ≡ over g x → w ≡ over g y → cond b v w ≡ over g (cond b x y)
either g true x y v w e f = e
either g false x y v w e f = f

-- a step after the same result, where something is known of what is accepted in the end
pub given : {A C D : Type 0} (h : C → D) (known : C → Type 0) (r : Result A Errno) (f : A → Result C Errno)
    (k : A → Result D Errno) → ((x : A) → r ≡ Ok x → ((z : C) → f x ≡ Ok z → known z) → k x ≡ over h (f x))
    → ((z : C) → (r >>= f) ≡ Ok z → known z) → (r >>= k) ≡ over h (r >>= f)
given h known (Ok x) f k each all = each x refl all
given h known (Err e) f k each all = refl
