-- Of the list that a seat has seen: a key that a uid has to itself is read by it alone.
use Rattle.std.proofs.Common.{List, subst}
use Rattle.krs_types.specs.declared.event.Event.{Event}
use Rattle.krs_model.specs.{History.IsLegal, Sound.IsSound, State.State}
use Rattle.krs_model.proofs.Isolation.Histories.{keeps_to_itself, private_legal}
use Rattle.krs_desk.specs.Confidentiality.{AreReadAlone}
use Rattle.krs_desk.proofs.Seen.{next_step}

pub read_alone : (a end : State) (seen : List Event) → IsSound a → IsLegal a seen end → AreReadAlone a seen
read_alone a end seen sound legal uid private last before rest reading old serial alone is keeps m reads =
    let front = private_legal uid private a before old last keeps in
    let step = next_step a old end before reading rest front (subst (λ (l : List Event). IsLegal a l end) is legal) in
    keeps_to_itself uid private a sound alone before old last keeps reading step.0 serial m step.1 reads
