-- A refusal of an ask is no ENOMEM.
use Rattle.std.proofs.Common.{◌∙◌, ◌≡◌, ap, Err, Result, sym, true≢false, ℕ}
use Rattle.krs_types.specs.declared.{ask.{Answer.Answer, Op.Op}, errno.Errno.{Errno, TheVariants.ENOMEM}}
use Rattle.krs_model.specs.{State.State, Step.outcome_of}
use Rattle.krs_model.proofs.Asks.{Laws.law_of, Plain.is_memory}

memory_is : (e : Errno) → ◌≡◌ {A = Result Answer Errno} (Err e) (Err ENOMEM) → e ≡ ENOMEM
memory_is e h = cc

-- a refusal of an ask is not ENOMEM
pub refusal_is_no_memory :
    (s : State) (client context : ℕ) (op : Op) (e : Errno) → outcome_of s client context op ≡ Err e
    → ◌≡◌ {A = Result Answer Errno} (Err e) (Err ENOMEM) → ⊥
refusal_is_no_memory s client context op e h memory =
    true≢false (sym (ap is_memory (memory_is e memory)) ∙ (law_of s client context op).plain.other e h)
