use Rattle.std.proofs.Common.{subst, sym}
use Rattle.krs_model.specs.Sound.{IsSound}
use Rattle.krs_model.proofs.Sound.Steps.{start_sound}
use Rattle.krs_store.proofs.store.Store.beginning.Goals as goal

pub invariant_of-result : goal.invariant_of-result
invariant_of-result c = subst IsSound (sym c.starting_at.ensures) (start_sound c.args.next)
