use Rattle.std.proofs.Common.{◌-◌, ◌≡◌}
use Rattle.krs_model.specs.Sweep.{uid_roots}
use Rattle.krs_hold.specs.Tally.{times}
use Rattle.krs_tables.proofs.apart.less_uids.Given as goal

abbrev pub invariant-loop-uid : goal.invariant-loop-uid
invariant-loop-uid l =
    l.left - times l.serial (uid_roots l.uid-iterator)
    ≡ l.holders - times l.serial (uid_roots l.uids.entries)
