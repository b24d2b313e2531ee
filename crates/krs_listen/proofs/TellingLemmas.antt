-- A text for which there was no memory.
use Rattle.std.proofs.Common.{◌≡◌, inr, List, refl, subst, sym, true, ℕ}
use Rattle.krs_words.specs.Saying.{Heard, Says}
use Rattle.krs_words.proofs.WritingLemmas.{WritesFront-nil}

-- an output that knows that it lacked memory for a text said as much of it as it could
pub says_lacking : (old new : Heard) (text : List ℕ) → new ≡ (old.0, true) → Says old new text
says_lacking old new text is =
    subst (λ (heard : Heard). Says old heard text) (sym is) (inr (WritesFront-nil old.0 text, refl))
