use Rattle.krs_model.proofs.Sweep.HeldKeys.{closed_held, held_closed}
use Rattle.krs_model.proofs.laws.a_closed_choice_is_the_held_keys.Goals as goal

pub returns : goal.returns
returns c = λ keys attached kept acyclic. (closed_held keys attached kept acyclic, held_closed keys attached kept)
