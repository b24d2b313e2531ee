use Rattle.std.proofs.Common.{◌≡◌}
use Rattle.krs_model.specs.Sweep.{uid_roots}
use Rattle.krs_hold.specs.Tally.{all_less}
use Rattle.krs_ring_asks.specs.Detached.{those}
use Rattle.krs_ring_asks.proofs.invalidating.let_go_uids.Given as goal

abbrev pub invariant-loop-uid : goal.invariant-loop-uid
invariant-loop-uid l =
    all_less (those l.serial (uid_roots l.uid-iterator)) l.holders
    ≡ all_less (those l.serial (uid_roots l.uids.entries)) l.initial.holders
