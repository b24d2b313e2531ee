use Rattle.std.proofs.Common.{◌-◌, ◌≡◌}
use Rattle.krs_model.specs.Sweep.{process_roots}
use Rattle.krs_hold.specs.Tally.{times}
use Rattle.krs_tables.proofs.apart.less_processes.Given as goal

abbrev pub invariant-loop-number : goal.invariant-loop-number
invariant-loop-number l =
    l.left - times l.serial (process_roots l.number-iterator)
    ≡ l.holders - times l.serial (process_roots l.processes.entries)
