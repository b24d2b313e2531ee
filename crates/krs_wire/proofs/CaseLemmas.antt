-- What tests and results tell of their cases.
use Rattle.std.proofs.Common.{◌||◌, ◌≡◌, ◌⊎◌, Bool, cond, false, inl, inr, None, Ok, Option, refl, Some, true}
use Rattle.krs_wire.specs.Faulting.{or_bad_body}

pub chosen : {A : Type 0} (b : Bool) (x y z : A) → cond b x y ≡ z → ((b ≡ true) × (x ≡ z)) ⊎ ((b ≡ false) × (y ≡ z))
chosen true x y z e = inl (refl, e)
chosen false x y z e = inr (refl, e)

pub or_false : (a b : Bool) → (a || b) ≡ false → b ≡ false
or_false true b e = absurd cc
or_false false b e = e

pub or_true : (a b : Bool) → (a || b) ≡ true → (a ≡ true) ⊎ (b ≡ true)
or_true true b e = inl refl
or_true false b e = inr e

pub ok_body : {A : Type 0} (o : Option A) (x : A) → or_bad_body o ≡ Ok x → o ≡ Some x
ok_body None x e = absurd cc
ok_body (Some y) x e = cc
