use Rattle.std.proofs.Common.{◌-◌, ◌^◌}
use Rattle.krs_hold.specs.Told.{tells}
use Rattle.krs_watch.specs.Watched.{AreDue}
use Rattle.krs_watch.proofs.watches.first_gone.Given as goal

abbrev pub invariant-looking : goal.invariant-looking
invariant-looking g l = AreDue (g.K.KeySet.has l.keys) (tells l.told) l.from l.watches.entries

abbrev pub decreases-looking : goal.decreases-looking
decreases-looking g l = 2 ^ 32 - l.from
