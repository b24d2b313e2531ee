use Rattle.std.proofs.Common.{◌-◌, ◌≡◌}
use Rattle.krs_model.specs.Sweep.{context_roots}
use Rattle.krs_hold.specs.Tally.{times}
use Rattle.krs_tables.proofs.apart.less_contexts.Given as goal

abbrev pub invariant-loop-number : goal.invariant-loop-number
invariant-loop-number l =
    l.left - times l.serial (context_roots l.number-iterator)
    ≡ l.holders - times l.serial (context_roots l.contexts.entries)
