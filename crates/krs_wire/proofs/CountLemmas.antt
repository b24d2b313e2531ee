-- So many of a field.
use Rattle.std.proofs.Common.{[], ◌*◌, ◌++◌, ◌+◌, ◌-◌, ◌<◌, ◌^◌, ◌∙◌, ◌∷◌, ◌≡◌, ◌≤◌, ap, append-nil, append_assoc}
use Rattle.std.proofs.Common.{arith, Err, flat_map, length, length-append, List, None, Ok, Option, option_and_then}
use Rattle.std.proofs.Common.{refl, Some, subst, suc, sym, w32, zero, ℕ}
use Rattle.std.specs.{Int.to_le_bytes, List.AllByRecursion}
use Rattle.krs_types.specs.declared.note.FilterEntry.{FilterEntry}
use Rattle.krs_wire.specs.Bodies.{entry_field}
use Rattle.krs_wire.specs.{Faulting.or_bad_body, Field.{counted, Field, many_read, number, repeated}}
use Rattle.krs_wire.specs.declared.fault.WireFault.{WireFault, TheVariants.BadBody}
use Rattle.krs_wire.proofs.CaseLemmas.{ok_body}
use Rattle.krs_wire.proofs.FieldLemmas.{bind_some, IsBytes, IsExact, number_exact, some_is, Takes, wide32}
use Rattle.std.proofs.lemmas.Grind.{common_steps}

module _ {A : Type 0} (f : Field A) (exact : IsExact f) where
  record ManyTakes (n : ℕ) (bytes : List ℕ) (xs : List A) (more : List ℕ) : Type 0 where
    pub parts : bytes ≡ flat_map f.encode xs ++ more
    pub len : length xs ≡ n
    pub fits : AllByRecursion f.Fits xs
    pub more_fits : IsBytes more

  many_takes : (n : ℕ) (bytes : List ℕ) (xs : List A) (more : List ℕ) → IsBytes bytes
      → many_read f n bytes ≡ Some (xs, more) → ManyTakes n bytes xs more
  unfolding many_read
  many_takes zero bytes xs more fits e =
      let made : ManyTakes zero bytes [] bytes = record { parts = refl; len = refl; fits = tt; more_fits = fits } in
      subst (λ (p : List A × List ℕ). ManyTakes zero bytes p.0 p.1) (some_is ([], bytes) (xs, more) e) made
  many_takes (suc n) bytes xs more fits e =
      let a =
      bind_some (f.read bytes) (λ a. option_and_then (λ b. Some (a.0 ∷ b.0, b.1)) (many_read f n a.1))
      (xs, more) e in
      let b = bind_some (many_read f n a.0.1) (λ b. Some (a.0.0 ∷ b.0, b.1)) (xs, more) a.2 in
      let t = exact.takes bytes a.0.0 a.0.1 fits a.1 in
      let u = many_takes n a.0.1 b.0.0 b.0.1 t.more_fits b.1 in
      let made : ManyTakes (suc n) bytes (a.0.0 ∷ b.0.0) b.0.1 = record {
        parts = t.parts ∙ ap (λ (y : List ℕ). f.encode a.0.0 ++ y) u.parts
            ∙ sym (append_assoc (f.encode a.0.0) (flat_map f.encode b.0.0) b.0.1);
        len = ap suc u.len;
        fits = (t.fits, u.fits);
        more_fits = u.more_fits;
      } in
      subst (λ (p : List A × List ℕ). ManyTakes (suc n) bytes p.0 p.1)
      (some_is (a.0.0 ∷ b.0.0, b.0.1) (xs, more) b.2) made

  many_again : (xs : List A) (more : List ℕ) → AllByRecursion f.Fits xs
      → many_read f (length xs) (flat_map f.encode xs ++ more) ≡ Some (xs, more)
  unfolding many_read
  many_again [] more h = refl
  many_again (x ∷ xs) more h =
      ap (λ (y : List ℕ). many_read f (suc (length xs)) y) (append_assoc (f.encode x) (flat_map f.encode xs) more)
      ∙ ap (option_and_then (λ (a : A × List ℕ). option_and_then (λ (b : List A × List ℕ). Some (a.0 ∷ b.0, b.1))
      (many_read f (length xs) a.1))) (exact.again x (flat_map f.encode xs ++ more) h.0)
      ∙ ap (option_and_then (λ (b : List A × List ℕ). Some (x ∷ b.0, b.1))) (many_again xs more h.1)

  counted_takes : (bytes : List ℕ) (xs : List A) (more : List ℕ) → IsBytes bytes
      → (counted f).read bytes ≡ Some (xs, more) → Takes (counted f) bytes xs more
  counted_takes bytes xs more fits e =
      let b = bind_some ((number w32).read bytes) (λ n. many_read f n.0 n.1) (xs, more) e in
      let t = (number_exact w32 wide32).takes bytes b.0.0 b.0.1 fits b.1 in
      let m = many_takes b.0.0 b.0.1 xs more t.more_fits b.2 in
      record {
        parts = t.parts ∙ ap (λ (y : List ℕ). to_le_bytes w32 b.0.0 ++ y) m.parts
            ∙ sym (append_assoc (to_le_bytes w32 b.0.0) (flat_map f.encode xs) more)
            ∙ ap (λ (k : ℕ). (to_le_bytes w32 k ++ flat_map f.encode xs) ++ more) (sym m.len);
        fits = (subst (λ (k : ℕ). k < 256 ^ 4) (sym m.len) t.fits, m.fits);
        more_fits = m.more_fits;
      }

  counted_again : (xs : List A) (more : List ℕ) → (counted f).Fits xs
      → (counted f).read ((counted f).encode xs ++ more) ≡ Some (xs, more)
  counted_again xs more h =
      ap (λ (y : List ℕ). (counted f).read y) (append_assoc (to_le_bytes w32 (length xs)) (flat_map f.encode xs) more)
      ∙ ap (option_and_then (λ (n : ℕ × List ℕ). many_read f n.0 n.1))
      ((number_exact w32 wide32).again (length xs) (flat_map f.encode xs ++ more) h.0)
      ∙ many_again xs more h.1

  pub counted_exact : IsExact (counted f)
  counted_exact = record { takes = counted_takes; again = counted_again }

module _ {A : Type 0} (n : ℕ) (f : Field A) (exact : IsExact f) where
  repeated_takes : (bytes : List ℕ) (xs : List A) (more : List ℕ) → IsBytes bytes
      → (repeated n f).read bytes ≡ Some (xs, more) → Takes (repeated n f) bytes xs more
  repeated_takes bytes xs more fits e =
      let m = many_takes f exact n bytes xs more fits e in
      record { parts = m.parts; fits = (m.len, m.fits); more_fits = m.more_fits }

  repeated_again : (xs : List A) (more : List ℕ) → (repeated n f).Fits xs
      → (repeated n f).read ((repeated n f).encode xs ++ more) ≡ Some (xs, more)
  repeated_again xs more h =
      ap (λ (k : ℕ). many_read f k (flat_map f.encode xs ++ more)) (sym h.0) ∙ many_again f exact xs more h.1

  pub repeated_exact : IsExact (repeated n f)
  repeated_exact = record { takes = repeated_takes; again = repeated_again }

-- ---- the loop
module _ {A : Type 0} where
  -- reading goes on behind a front
  abbrev pub with_front : List A → Option (List A × List ℕ) → Option (List A × List ℕ)
  with_front front None = None
  with_front front (Some x) = Some (front ++ x.0, x.1)

  regroup : (front : List A) (x : A) (o : Option (List A × List ℕ))
      → with_front front (option_and_then (λ b. Some (x ∷ b.0, b.1)) o) ≡ with_front (front ++ x ∷ []) o
  regroup front x None = refl
  regroup front x (Some b) = ap (λ (xs : List A). Some (xs, b.1)) (sym (append_assoc front (x ∷ []) b.0))

  is_none_of : (o : Option (A × List ℕ)) (e : WireFault) → or_bad_body o ≡ Err e → o ≡ None
  is_none_of None e h = refl
  is_none_of (Some y) e h = absurd cc

  is_bad : (o : Option (A × List ℕ)) (e : WireFault) → or_bad_body o ≡ Err e → e ≡ BadBody
  is_bad None e h = cc
  is_bad (Some y) e h = absurd cc

  pub many_on : (f : Field A) (front : List A) (count i : ℕ) (bytes : List ℕ) (x : A) (after : List ℕ)
      (total : Option (List A × List ℕ)) → i < count → or_bad_body (f.read bytes) ≡ Ok (x, after)
      → with_front front (many_read f (count - i) bytes) ≡ total
      → with_front (front ++ x ∷ []) (many_read f (count - (i + 1)) after) ≡ total
  unfolding many_read
  many_on f front count i bytes x after total lt h so_far =
      let k : count - i ≡ suc (count - (i + 1)) = omega arith in
      let h2 = ok_body (f.read bytes) (x, after) h in
      let one : with_front front (many_read f (count - i) bytes)
      ≡ with_front (front ++ x ∷ []) (many_read f (count - (i + 1)) after) =
      rw (k, h2) (regroup front x (many_read f (count - (i + 1)) after)) in
      sym one ∙ so_far

  pub many_ends : (f : Field A) (front : List A) (count i : ℕ) (bytes : List ℕ) (e : WireFault)
      (total : Option (List A × List ℕ)) → i < count → or_bad_body (f.read bytes) ≡ Err e
      → with_front front (many_read f (count - i) bytes) ≡ total → or_bad_body total ≡ Err e
  unfolding many_read
  many_ends f front count i bytes e total lt h so_far =
      let k : count - i ≡ suc (count - (i + 1)) = omega arith in
      let h2 = is_none_of (f.read bytes) e h in
      let one : with_front front (many_read f (count - i) bytes) ≡ None = rw (k, h2) refl in
      ap (λ (o : Option (List A × List ℕ)). or_bad_body o) (sym so_far ∙ one)
      ∙ ap (λ (d : WireFault). Err d) (sym (is_bad (f.read bytes) e h))

  pub many_done : (f : Field A) (front : List A) (count i : ℕ) (bytes : List ℕ) (total : Option (List A × List ℕ))
      → count ≤ i → with_front front (many_read f (count - i) bytes) ≡ total → total ≡ Some (front, bytes)
  unfolding many_read
  many_done f front count i bytes total le so_far =
      let k : count - i ≡ 0 = omega arith in
      let one : with_front front (many_read f (count - i) bytes) ≡ Some (front, bytes) =
      rw k (ap (λ (xs : List A). Some (xs, bytes)) (append-nil front)) in
      sym so_far ∙ one

pub length_numbers : (xs : List ℕ) → length (flat_map (λ n. to_le_bytes w32 n) xs) ≡ 4 * length xs
length_numbers [] = refl
length_numbers (x ∷ xs) = omega (arith, length_numbers xs)

-- each entry has a byte at least
pub length_entries : (entries : List FilterEntry) → length entries ≤ length (flat_map entry_field.encode entries)
length_entries [] = omega arith
length_entries (x ∷ xs) = grind (arith, common_steps, length-append, flat_map, length_entries xs)
