use Rattle.std.proofs.Common.{◌==◌, ◌||◌, ◌≡◌, filter, length, not}
use Rattle.krs_ctx.proofs.table.ContextTable.end_others.Given as goal

-- none has ended that was to stay
abbrev pub invariant-ending : goal.invariant-ending
invariant-ending l =
    filter (λ e. not (e.1.process == l.process) || (e.0 == l.number)) l.self
    ≡ filter (λ e. not (e.1.process == l.process) || (e.0 == l.number)) l.fn.self

abbrev pub decreases-ending : goal.decreases-ending
decreases-ending l = length l.self
