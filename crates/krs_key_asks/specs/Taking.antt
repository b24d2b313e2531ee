-- The answer to an ask whose bytes a taker may have.
use Rattle.std.specs.Prelude.{Bool, Err, false, List, None, Ok, Option, Result, Some, true, ℕ}
use Rattle.krs_types.specs.declared.{ask.Answer.Answer, fault.Fault.Fault}
use Rattle.krs_key_asks.specs.declared.taking.Given.{Given}
use Rattle.krs_key_asks.specs.declared.taking.Given.TheVariants as givens
use Rattle.krs_types.specs.declared.ask.Answer.TheVariants as answers

-- the bytes, where they were taken
abbrev pub taken : Bool → List ℕ → Option (List ℕ)
taken true bytes = Some bytes
taken false bytes = None

-- the answer that was given
abbrev pub answer_of : Given → Answer
answer_of (givens.Answer answer) = answer
answer_of (givens.Taken bytes) = answers.Bytes bytes.value

abbrev pub answered : Result Given Fault → Result Answer Fault
answered (Ok given) = Ok (answer_of given)
answered (Err fault) = Err fault

-- what of it a taker has
abbrev pub taken_of : Result Given Fault → Option (List ℕ)
taken_of (Ok (givens.Taken bytes)) = Some bytes.value
taken_of (Ok (givens.Answer answer)) = None
taken_of (Err fault) = None
