-- Want of memory, of an ask that is accepted.
use Rattle.std.proofs.Common.{◌≡◌, Err, IsErrAnd, IsOk, Ok, refl, Result, subst, sym}
use Rattle.krs_types.specs.declared.{ask.Answer.Answer, errno.Errno.Errno, fault.Fault.{Fault, TheVariants.Memory}}
use Rattle.krs_model.specs.{Outcome.{Leads, Outcome}, State.State}

-- what comes to a state and an answer is accepted
pub accepted : {A : Type 0} (meant : Result A Errno) (x : A) → meant ≡ Ok x → IsOk meant
accepted meant x h = rw h refl

-- want of memory that `?` hands on
pub wanting_as :
    (s new : State) (r : Result Answer Fault) (meant : Outcome) → IsErrAnd r (λ f. f ≡ Memory) → IsOk meant → new ≡ s
    → Leads s r new meant
wanting_as s new (Ok x) meant is h same = absurd is
wanting_as s new (Err f) meant is h same = subst (λ (g : Fault). Leads s (Err g) new meant) (sym is) (h, same)
