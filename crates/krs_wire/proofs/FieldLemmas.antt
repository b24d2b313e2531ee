-- Each field is exact: what is read is encoded so, and what is encoded is read.
use Rattle.std.proofs.Common.{[], ◌++◌, ◌+◌, ◌<◌, ◌^◌, ◌∙◌, ◌∷◌, ◌≡◌, ◌≤◌, ap, append-nil, append_assoc, arith, Bool}
use Rattle.std.proofs.Common.{cond, drop, drop_at, eqb, eqb-true, false, FitsSigned, get_or, get_or-drop, get_or-take}
use Rattle.std.proofs.Common.{le-ltb, length, length-append, length-take, List, ltb, ltb-false, None, Option}
use Rattle.std.proofs.Common.{option_and_then, refl, Some, subst, suc, sym, take, take-append-drop, take_at, true, w16}
use Rattle.std.proofs.Common.{w32, w64, ℕ, ℤ}
use Rattle.std.specs.Int.{byte_len, cast_signed, cast_unsigned, from_le_bytes, to_le_bytes, Width}
use Rattle.std.proofs.Math.Facts.{Fits-of_z, sfits_to_z}
use Rattle.std.proofs.lemmas.{Bool.cases_lt, Int.{of_z-to_z, to_z-of_z}, List.{get_or_past, nil_from_length}}
use Rattle.std.proofs.lemmas.Nat.{from_le_bytes-to_le_bytes_2, from_le_bytes-to_le_bytes_4, from_le_bytes-to_le_bytes_8}
use Rattle.std.proofs.lemmas.Nat.{le_bytes_2, le_bytes_4, le_bytes_8}
use Rattle.krs_wire.specs.Field.{both, built, Field, flag, nothing, number, signed, sized, whole}
use Rattle.std.proofs.lemmas.Grind.{common_steps}

abbrev pub IsBytes : List ℕ → Type 0
IsBytes bytes = (i : ℕ) → get_or bytes i 0 < 256

IsBytes-drop : (n : ℕ) (bytes : List ℕ) → IsBytes bytes → IsBytes (drop n bytes)
IsBytes-drop n bytes h i = rw get_or-drop (h (n + i))

pub IsBytes-take : (n : ℕ) (bytes : List ℕ) → IsBytes bytes → IsBytes (take n bytes)
IsBytes-take n bytes h i = grind (arith, common_steps, cases_lt, get_or-take, get_or_past, length-take)

-- what a field took from the front
pub record Takes {A : Type 0} (f : Field A) (bytes : List ℕ) (x : A) (more : List ℕ) : Type 0 where
  pub parts : bytes ≡ f.encode x ++ more
  pub fits : f.Fits x
  pub more_fits : IsBytes more

pub record IsExact {A : Type 0} (f : Field A) : Type 0 where
  pub takes : (bytes : List ℕ) (x : A) (more : List ℕ) → IsBytes bytes → f.read bytes ≡ Some (x, more)
      → Takes f bytes x more
  pub again : (x : A) (more : List ℕ) → f.Fits x → f.read (f.encode x ++ more) ≡ Some (x, more)

-- the value of a step that did not fail
pub bind_some : {A B : Type 0} (o : Option A) (f : A → Option B) (y : B) → option_and_then f o ≡ Some y
    → (x : A) × (o ≡ Some x) × (f x ≡ Some y)
bind_some (Some x) f y e = (x, refl, e)
bind_some None f y e = absurd cc

-- a test that did not fail
guard_some : {A : Type 0} (b : Bool) (x y : A) → cond b None (Some x) ≡ Some y → (b ≡ false) × (x ≡ y)
guard_some true x y e = absurd cc
guard_some false x y e = (refl, cc)

abbrev pub done : {A : Type 0} → A → Option A
done x = Some x

pub some_is : {A : Type 0} (x y : A) → done x ≡ done y → x ≡ y
some_is x y e = cc

-- ---- numbers
pub record IsWide (w : Width) : Type 0 where
  pub len : (n : ℕ) → length (to_le_bytes w n) ≡ byte_len w
  pub back : (bytes : List ℕ) → length bytes ≡ byte_len w → IsBytes bytes
      → to_le_bytes w (from_le_bytes w bytes) ≡ bytes
  pub again : (n : ℕ) → n < 256 ^ byte_len w → from_le_bytes w (to_le_bytes w n) ≡ n
  pub below : (bytes : List ℕ) → IsBytes bytes → from_le_bytes w bytes < 256 ^ byte_len w

pub wide16 : IsWide w16
wide16 = grind (arith, common_steps, le_bytes_2, from_le_bytes-to_le_bytes_2)

pub wide32 : IsWide w32
wide32 = record {
  len = λ n. refl;
  back = λ bytes len fits. le_bytes_4 bytes _ len fits refl;
  again = λ n lt. from_le_bytes-to_le_bytes_4 n lt;
  below = λ bytes fits. omega (arith, fits 0, fits 1, fits 2, fits 3);
}

pub wide64 : IsWide w64
wide64 = record {
  len = λ n. refl;
  back = λ bytes len fits. le_bytes_8 bytes _ len fits refl;
  again = λ n lt. from_le_bytes-to_le_bytes_8 n lt;
  below = λ bytes fits. omega (
    arith,
    fits 0,
    fits 1,
    fits 2,
    fits 3,
    fits 4,
    fits 5,
    fits 6,
    fits 7,
  );
}

number_takes : (w : Width) → IsWide w → (bytes : List ℕ) (n : ℕ) (more : List ℕ) → IsBytes bytes
    → (number w).read bytes ≡ Some (n, more) → Takes (number w) bytes n more
number_takes w wide bytes n more fits e =
    let g =
    guard_some (ltb (length bytes) (byte_len w)) (
      from_le_bytes w (take (byte_len w) bytes),
      drop (byte_len w) bytes,
    ) (n, more) e in
    let long : byte_len w ≤ length bytes = ltb-false _ _ g.0 in
    let n-is : from_le_bytes w (take (byte_len w) bytes) ≡ n = ap (λ (p : ℕ × List ℕ). p.0) g.1 in
    let more-is : drop (byte_len w) bytes ≡ more = ap (λ (p : ℕ × List ℕ). p.1) g.1 in
    let front : to_le_bytes w n ≡ take (byte_len w) bytes =
    rw (← n-is) (wide.back (take (byte_len w) bytes) (omega (arith, length-take (byte_len w) bytes))
    (IsBytes-take (byte_len w) bytes fits)) in
    record {
      parts = rw (front, ← more-is) (sym (take-append-drop (byte_len w) bytes));
      fits = rw (← n-is) (wide.below (take (byte_len w) bytes) (IsBytes-take (byte_len w) bytes fits));
      more_fits = rw (← more-is) (IsBytes-drop (byte_len w) bytes fits);
    }

number_again : (w : Width) → IsWide w → (n : ℕ) (more : List ℕ) → n < 256 ^ byte_len w
    → (number w).read (to_le_bytes w n ++ more) ≡ Some (n, more)
number_again w wide n more lt = grind (arith, common_steps, ltb, le-ltb, length-append, take_at, drop_at)

pub number_exact : (w : Width) → IsWide w → IsExact (number w)
number_exact w wide = record { takes = number_takes w wide; again = number_again w wide }

-- ---- signed numbers
signed_takes : (bytes : List ℕ) (z : ℤ) (more : List ℕ) → IsBytes bytes → (signed w32).read bytes ≡ Some (z, more)
    → Takes (signed w32) bytes z more
signed_takes bytes z more fits e =
    let b = bind_some ((number w32).read bytes) (λ n. Some (cast_signed w32 n.0, n.1)) (z, more) e in
    let t = number_takes w32 wide32 bytes b.0.0 b.0.1 fits b.1 in
    let same = some_is {A = ℤ × List ℕ} (cast_signed w32 b.0.0, b.0.1) (z, more) b.2 in
    let back : cast_unsigned w32 (cast_signed w32 b.0.0) ≡ b.0.0 = of_z-to_z w32 b.0.0 t.fits in
    let made : Takes (signed w32) bytes (cast_signed w32 b.0.0) b.0.1 = record {
      parts = t.parts ∙ ap (λ (n : ℕ). to_le_bytes w32 n ++ b.0.1) (sym back);
      fits = sfits_to_z (omega arith);
      more_fits = t.more_fits;
    } in
    subst (λ (p : ℤ × List ℕ). Takes (signed w32) bytes p.0 p.1) same made

signed_again : (z : ℤ) (more : List ℕ) → FitsSigned w32 z → (signed w32).read
    (to_le_bytes w32 (cast_unsigned w32 z) ++ more) ≡ Some (z, more)
signed_again z more fits =
    ap (option_and_then (λ (n : ℕ × List ℕ). Some (cast_signed w32 n.0, n.1)))
    (number_again w32 wide32 (cast_unsigned w32 z) more (let small = Fits-of_z {w = w32} fits in
    omega (arith, small)))
    ∙ ap (λ (y : ℤ). Some (y, more)) (to_z-of_z w32 z fits)

pub signed_exact : IsExact (signed w32)
signed_exact = record { takes = signed_takes; again = signed_again }

-- ---- bytes behind their length
sized_takes : (w : Width) → IsWide w → (bytes text more : List ℕ) → IsBytes bytes
    → (sized w).read bytes ≡ Some (text, more) → Takes (sized w) bytes text more
sized_takes w wide bytes text more fits e =
    let b =
    bind_some ((number w).read bytes) (λ n. cond (ltb (length n.1) n.0) None (Some (take n.0 n.1, drop n.0 n.1)))
    (text, more) e in
    let n = b.0 in
    let t = number_takes w wide bytes n.0 n.1 fits b.1 in
    let g = guard_some (ltb (length n.1) n.0) (take n.0 n.1, drop n.0 n.1) (text, more) b.2 in
    let long : n.0 ≤ length n.1 = ltb-false _ _ g.0 in
    let len : length (take n.0 n.1) ≡ n.0 = omega (arith, length-take n.0 n.1) in
    let small : n.0 < 256 ^ byte_len w = t.fits in
    let fits2 : length (take n.0 n.1) < 256 ^ byte_len w = subst (λ (k : ℕ). k < 256 ^ byte_len w) (sym len) small in
    let whole2 : bytes ≡ (to_le_bytes w (length (take n.0 n.1)) ++ take n.0 n.1) ++ drop n.0 n.1 =
    t.parts ∙ ap (λ (x : List ℕ). to_le_bytes w n.0 ++ x) (sym (take-append-drop n.0 n.1))
    ∙ sym (append_assoc (to_le_bytes w n.0) (take n.0 n.1) (drop n.0 n.1))
    ∙ ap (λ (k : ℕ). (to_le_bytes w k ++ take n.0 n.1) ++ drop n.0 n.1) (sym len) in
    let made : Takes (sized w) bytes (take n.0 n.1) (drop n.0 n.1) =
    record { parts = whole2; fits = fits2; more_fits = IsBytes-drop n.0 n.1 t.more_fits } in
    subst (λ (p : List ℕ × List ℕ). Takes (sized w) bytes p.0 p.1) g.1 made

sized_again : (w : Width) → IsWide w → (text more : List ℕ) → length text < 256 ^ byte_len w
    → (sized w).read ((to_le_bytes w (length text) ++ text) ++ more) ≡ Some (text, more)
sized_again w wide text more lt =
    let long : ltb (length (text ++ more)) (length text) ≡ false =
    le-ltb _ _ (omega (arith, length-append text more)) in
    let then : ℕ × List ℕ → Option (List ℕ × List ℕ) =
    λ n. cond (ltb (length n.1) n.0) None (Some (take n.0 n.1, drop n.0 n.1)) in
    let first = number_again w wide (length text) (text ++ more) lt in
    ap (λ (x : List ℕ). (sized w).read x) (append_assoc (to_le_bytes w (length text)) text more)
    ∙ ap (option_and_then then) first ∙ rw (
      long,
      take_at text more (length text) refl,
      drop_at text more (length text) refl,
    ) refl

pub sized_exact : (w : Width) → IsWide w → IsExact (sized w)
sized_exact w wide = record { takes = sized_takes w wide; again = sized_again w wide }

-- ---- flags
abbrev no_flag : Option (Bool × List ℕ)
no_flag = None

-- a flag and what follows it stand in the bytes that begin with this one
abbrev FlagTaken : ℕ → List ℕ → Bool × List ℕ → Type 0
FlagTaken n bytes flagged = (n ∷ bytes ≡ flag.encode flagged.0 ++ flagged.1) × (bytes ≡ flagged.1)

-- the byte of a flag that is read is 0 or 1
flag_some : (n : ℕ) (bytes : List ℕ) (is_no is_yes b : Bool) (more : List ℕ)
    → cond is_no (Some (false, bytes)) (cond is_yes (Some (true, bytes)) no_flag) ≡ Some (b, more)
    → eqb n 0 ≡ is_no → eqb n 1 ≡ is_yes → FlagTaken n bytes (b, more)
flag_some n bytes true is_yes b more e zero one = grind (arith, common_steps, eqb-true, some_is)
flag_some n bytes false true b more e zero one = grind (arith, common_steps, eqb-true, some_is)
flag_some n bytes false false b more e zero one = absurd cc

flag_takes : (bytes : List ℕ) (b : Bool) (more : List ℕ) → IsBytes bytes → flag.read bytes ≡ Some (b, more)
    → Takes flag bytes b more
flag_takes [] b more fits e = absurd cc
flag_takes (n ∷ bytes) b more fits e =
    let taken = flag_some n bytes (eqb n 0) (eqb n 1) b more e refl refl in
    record { parts = taken.0; fits = tt; more_fits = subst IsBytes taken.1 (λ i. fits (suc i)) }

flag_again : (b : Bool) (more : List ℕ) → flag.read (flag.encode b ++ more) ≡ Some (b, more)
flag_again true more = refl
flag_again false more = refl

pub flag_exact : IsExact flag
flag_exact = record { takes = flag_takes; again = λ b more h. flag_again b more }

-- ---- fields together
pub nothing_exact : IsExact nothing
nothing_exact = grind (arith, common_steps, some_is)

module _ {A B : Type 0} (f : Field A) (g : Field B) (exact_f : IsExact f) (exact_g : IsExact g) where
  both_takes : (bytes : List ℕ) (x : A × B) (more : List ℕ) → IsBytes bytes → (both f g).read bytes ≡ Some (x, more)
      → Takes (both f g) bytes x more
  both_takes bytes x more fits e =
      let a =
      bind_some (f.read bytes) (λ a. option_and_then (λ b. Some ((a.0, b.0), b.1)) (g.read a.1)) (x, more) e in
      let b = bind_some (g.read a.0.1) (λ b. Some ((a.0.0, b.0), b.1)) (x, more) a.2 in
      let t = exact_f.takes bytes a.0.0 a.0.1 fits a.1 in
      let u = exact_g.takes a.0.1 b.0.0 b.0.1 t.more_fits b.1 in
      let made : Takes (both f g) bytes (a.0.0, b.0.0) b.0.1 = record {
        parts = t.parts ∙ ap (λ (y : List ℕ). f.encode a.0.0 ++ y) u.parts
            ∙ sym (append_assoc (f.encode a.0.0) (g.encode b.0.0) b.0.1);
        fits = (t.fits, u.fits);
        more_fits = u.more_fits;
      } in
      subst (λ (p : (A × B) × List ℕ). Takes (both f g) bytes p.0 p.1)
      (some_is ((a.0.0, b.0.0), b.0.1) (x, more) b.2) made

  both_again : (x : A × B) (more : List ℕ) → (both f g).Fits x
      → (both f g).read ((both f g).encode x ++ more) ≡ Some (x, more)
  both_again x more h =
      ap (λ (y : List ℕ). (both f g).read y) (append_assoc (f.encode x.0) (g.encode x.1) more)
      ∙ ap (option_and_then (λ (a : A × List ℕ). option_and_then (λ (b : B × List ℕ). Some ((a.0, b.0), b.1))
      (g.read a.1))) (exact_f.again x.0 (g.encode x.1 ++ more) h.0)
      ∙ ap (option_and_then (λ (b : B × List ℕ). Some ((x.0, b.0), b.1))) (exact_g.again x.1 more h.1)

  pub both_exact : IsExact (both f g)
  both_exact = record { takes = both_takes; again = both_again }

-- ---- a value by its parts
module _ {A B : Type 0} (f : Field A) (make : A → B) (parts_of : B → A) (exact : IsExact f)
    (parts_again : (a : A) → parts_of (make a) ≡ a) (made_again : (b : B) → make (parts_of b) ≡ b) where
  built_takes : (bytes : List ℕ) (x : B) (more : List ℕ) → IsBytes bytes
      → (built f make parts_of).read bytes ≡ Some (x, more) → Takes (built f make parts_of) bytes x more
  built_takes bytes x more fits e =
      let a = bind_some (f.read bytes) (λ a. Some (make a.0, a.1)) (x, more) e in
      let t = exact.takes bytes a.0.0 a.0.1 fits a.1 in
      let same = sym (parts_again a.0.0) in
      let made : Takes (built f make parts_of) bytes (make a.0.0) a.0.1 = record {
        parts = t.parts ∙ ap (λ (y : A). f.encode y ++ a.0.1) same;
        fits = subst (λ (y : A). f.Fits y) same t.fits;
        more_fits = t.more_fits;
      } in
      subst (λ (p : B × List ℕ). Takes (built f make parts_of) bytes p.0 p.1)
      (some_is (make a.0.0, a.0.1) (x, more) a.2) made

  built_again : (x : B) (more : List ℕ) → (built f make parts_of).Fits x
      → (built f make parts_of).read ((built f make parts_of).encode x ++ more) ≡ Some (x, more)
  built_again x more h =
      ap (option_and_then (λ (a : A × List ℕ). Some (make a.0, a.1))) (exact.again (parts_of x) more h)
      ∙ ap (λ (y : B). Some (y, more)) (made_again x)

  pub built_exact : IsExact (built f make parts_of)
  built_exact = record { takes = built_takes; again = built_again }

-- ---- all of the bytes
guard_none : {A : Type 0} (b : Bool) (x y : A) → cond b (Some x) None ≡ Some y → (b ≡ true) × (x ≡ y)
guard_none true x y e = (refl, cc)
guard_none false x y e = absurd cc

module _ {A B : Type 0} (f : Field A) (exact : IsExact f) (make : A → B) where
  pub whole_again : (x : A) → f.Fits x → whole f make (f.encode x) ≡ Some (make x)
  whole_again x h =
      let one : f.read (f.encode x) ≡ Some (x, []) =
      ap (λ (y : List ℕ). f.read y) (sym (append-nil (f.encode x))) ∙ exact.again x [] h in
      ap (option_and_then (λ (a : A × List ℕ). cond (eqb (length a.1) 0) (Some (make a.0)) None)) one

  pub whole_takes : (bytes : List ℕ) (y : B) → IsBytes bytes → whole f make bytes ≡ Some y
      → (x : A) × (bytes ≡ f.encode x) × f.Fits x × (make x ≡ y)
  whole_takes bytes y fits e =
      let a = bind_some (f.read bytes) (λ a. cond (eqb (length a.1) 0) (Some (make a.0)) None) y e in
      let g = guard_none (eqb (length a.0.1) 0) (make a.0.0) y a.2 in
      let t = exact.takes bytes a.0.0 a.0.1 fits a.1 in
      let empty : a.0.1 ≡ [] = nil_from_length a.0.1 (eqb-true _ _ g.0) in
      (a.0.0, t.parts ∙ ap (λ (z : List ℕ). f.encode a.0.0 ++ z) empty ∙ append-nil (f.encode a.0.0), t.fits, g.1)
