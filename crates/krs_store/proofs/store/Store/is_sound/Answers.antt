use Rattle.std.proofs.Common.{subst}
use Rattle.krs_model.specs.Sound.{IsSound}
use Rattle.krs_store.proofs.store.Store.is_sound.Goals as goal

pub returns : goal.returns
returns c = subst IsSound c.self.view_is c.self.invariant
