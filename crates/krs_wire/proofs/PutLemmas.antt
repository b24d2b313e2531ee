-- Bytes that are put behind others.
use Rattle.std.proofs.Common.{[], ◌++◌, ◌+◌, ◌<◌, ◌∙◌, ◌∷◌, ◌≡◌, ◌≢◌, ◌≤◌, ap, append-nil, append_assoc, arith, Err}
use Rattle.std.proofs.Common.{flat_map, get_or, IfErr, length, length-append, List, min, Ok, OnOk, refl, Result, subst}
use Rattle.std.proofs.Common.{sym, take, ℕ}
use Rattle.std.specs.List.{AllByRecursion}
use Rattle.std.proofs.lemmas.List.{flat_map_more, take_more}
use Rattle.krs_types.specs.Rows.{Value}
use Rattle.krs_wire.specs.{Bodies.{encoded, size_of, written}, Encoding.IsTooLong, Field.Field}
use Rattle.krs_wire.specs.declared.fault.WireFault.{WireFault, TheVariants.{BadLength, Memory}}
use Rattle.std.proofs.lemmas.Grind.{common_steps}

-- the next bytes stand behind all that were put before them
pub then_put : {T E : Type 0} (r : Result T E) (out front next mid new : List ℕ)
    → mid ≡ out ++ front → OnOk r (new ≡ mid ++ next) → OnOk r (new ≡ out ++ (front ++ next))
then_put (Ok x) out front next mid new before put = grind (arith, common_steps, append_assoc)
then_put (Err x) out front next mid new before put = tt

-- what is too long is too long behind other bytes
pub long_behind : {T : Type 0} (r : Result T WireFault) (least : ℕ) (front next : List ℕ)
    → IfErr r (IsTooLong least next) → IfErr r (IsTooLong least (front ++ next))
long_behind (Ok x) least front next long = tt
long_behind (Err fault) least front next long = grind (arith, common_steps, length-append)

all_one : {A : Type 0} (P : A → Type 0) (xs : List A) (x : A) → AllByRecursion P xs → P x
    → AllByRecursion P (xs ++ x ∷ [])
all_one P [] x all last = (last, tt)
all_one P (y ∷ ys) x all last = (all.0, all_one P ys x all.1 last)

module _ {A : Type 0} (f : Field A) (xs : List A) (i : ℕ) (d : A) (low : i < length xs) where
  -- one more of a field stands behind those before it
  pub then_one : (front mid new : List ℕ) → mid ≡ front ++ flat_map f.encode (take i xs)
      → new ≡ mid ++ f.encode (get_or xs i d) → new ≡ front ++ flat_map f.encode (take (i + 1) xs)
  then_one front mid new before put =
      put ∙ ap (λ (bytes : List ℕ). bytes ++ f.encode (get_or xs i d)) before
      ∙ flat_map_more f.encode front (take i xs) (get_or xs i d)
      ∙ ap (λ (ys : List A). front ++ flat_map f.encode ys) (sym (take_more xs i d low))

  -- and the length of their text is greater by its own, up to a greatest number
  pub longer_one : (most least one before now : ℕ) → before ≡ min (least + length (flat_map f.encode (take i xs))) most
      → one ≡ length (f.encode (get_or xs i d)) → now ≡ min (before + one) most
      → now ≡ min (least + length (flat_map f.encode (take (i + 1) xs))) most
  longer_one most least one before now before-is one-is now-is =
      let text = flat_map f.encode (take i xs) in
      let next = f.encode (get_or xs i d) in
      let all : flat_map f.encode (take (i + 1) xs) ≡ text ++ next = sym (then_one [] text (text ++ next) refl refl) in
      omega (arith, ap length all, length-append text next, before-is, one-is, now-is)

  -- and all of them fit
  pub fit_one : AllByRecursion f.Fits (take i xs) → f.Fits (get_or xs i d) → AllByRecursion f.Fits (take (i + 1) xs)
  fit_one all last =
      subst (λ (ys : List A). AllByRecursion f.Fits ys) (sym (take_more xs i d low))
      (all_one f.Fits (take i xs) (get_or xs i d) all last)

-- ---- the fields of a row
-- what is put field by field stands behind the bytes before it
fields_put : (out : List ℕ) (vs : List Value) → written out vs ≡ out ++ flat_map encoded vs
fields_put out [] = sym (append-nil out)
fields_put out (v ∷ vs) = fields_put (out ++ encoded v) vs ∙ append_assoc out (encoded v) (flat_map encoded vs)

pub all_put : {T E : Type 0} (r : Result T E) (out new : List ℕ) (vs : List Value) → OnOk r (new ≡ written out vs)
    → OnOk r (new ≡ out ++ flat_map encoded vs)
all_put (Ok x) out new vs put = put ∙ fields_put out vs
all_put (Err x) out new vs put = tt

-- and its length is the sum of theirs
pub length_fields : (vs : List Value) → length (flat_map encoded vs) ≡ size_of vs
length_fields [] = refl
length_fields (v ∷ vs) = omega (arith, length-append (encoded v) (flat_map encoded vs), length_fields vs)

pub too_long : {T : Type 0} (r : Result T WireFault) (vs : List Value)
    → IfErr r (λ fault. fault ≢ Memory → fault ≡ BadLength) → IfErr r (λ fault. fault ≢ Memory → 65536 ≤ size_of vs)
    → IfErr r (IsTooLong 65536 (flat_map encoded vs))
too_long (Ok x) vs is long = tt
too_long (Err fault) vs is long = λ other. (is other, omega (arith, length_fields vs, long other))
