use Rattle.std.proofs.Common.{◌*◌, ◌≡◌, ◌≤◌}
use Rattle.std.specs.Io.Buffered.{reader_remaining}
use Rattle.krs_script.proofs.Going.{Going}
use Rattle.krs_script.proofs.running.run_lines.Given as goal

abbrev pub invariant-loop : goal.invariant-loop
invariant-loop g l =
    Going g.C.Carries.acts l.counter (reader_remaining g.R.Read.remaining l.initial.reader)
    (reader_remaining g.R.Read.remaining l.reader)
    (g.C.Carries.state l.initial.client) (g.C.Carries.state l.client)
    (g.W.Write.contents l.initial.writer) l.initial.pending.items
    (g.W.Write.contents l.writer) l.pending.items
    × (g.C.Carries.asked (g.C.Carries.state l.client) ≤ 2 * l.counter)
    × (g.C.Carries.kept l.client ≡ g.C.Carries.kept l.initial.client)
