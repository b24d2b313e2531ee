-- What the fields of a row make, by the row of its number.
use Rattle.std.proofs.Common.{◌∙◌, ◌≡◌, ap, Bool, cond, eqb, Err, false, length, List, None, Ok, Option}
use Rattle.std.proofs.Common.{arith, option_and_then, refl, Result, Some, sym, true, ℕ}
use Rattle.krs_types.specs.declared.ask.Op.{Op}
use Rattle.krs_wire.specs.Faulting.{after, GivesRead, Makes, or_bad_body}
use Rattle.krs_wire.specs.{Field.{Field, whole}, Frame.op_of, declared.fault.WireFault.WireFault}
use Rattle.std.proofs.lemmas.Grind.{common_steps}

module _ {A : Type 0} (make : A → Op) where
  made_by : (b : Bool) (x : A)
      → or_bad_body (cond b (Some (make x)) None) ≡ after (λ y. Ok (make y)) (or_bad_body (cond b (Some x) None))
  made_by true x = refl
  made_by false x = refl

  -- the ask of the fields, where nothing follows them
  made_of : (o : Option (A × List ℕ)) →
      or_bad_body (option_and_then (λ (a : A × List ℕ). cond (eqb (length a.1) 0) (Some (make a.0)) None) o)
      ≡ after (λ y. Ok (make y))
      (or_bad_body (option_and_then (λ (a : A × List ℕ). cond (eqb (length a.1) 0) (Some a.0) None) o))
  made_of None = refl
  made_of (Some a) = made_by (eqb (length a.1) 0) a.0

  made_gives : (field : Field A) (bytes : List ℕ) (answer : Result Op WireFault)
      → Makes (λ x op. op ≡ make x) answer (or_bad_body (whole field (λ x. x) bytes))
      → GivesRead (λ op. op) answer (or_bad_body (whole field make bytes))
  made_gives field bytes (Ok op) h =
      made_of (field.read bytes) ∙ ap (after (λ y. Ok (make y))) h.1 ∙ ap Ok (sym h.2)
  made_gives field bytes (Err fault) h =
      λ other. made_of (field.read bytes) ∙ ap (after (λ y. Ok (make y))) (h other)

-- what is made so is what the body says for the number of a row
pub row_gives : {A : Type 0} (field : Field A) (make : A → Op) (which no-of : ℕ) (bytes : List ℕ)
    (answer : Result Op WireFault) → which ≡ no-of → op_of no-of bytes ≡ or_bad_body (whole field make bytes)
    → Makes (λ x op. op ≡ make x) answer (or_bad_body (whole field (λ x. x) bytes))
    → GivesRead (λ op. op) answer (op_of which bytes)
row_gives field make which no-of bytes answer is row-is h = grind (arith, common_steps)
