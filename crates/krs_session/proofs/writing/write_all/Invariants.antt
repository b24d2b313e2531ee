use Rattle.std.proofs.Common.{◌≡◌, length}
use Rattle.krs_session.proofs.JoinLemmas.{Taken}
use Rattle.krs_session.proofs.writing.write_all.Given as goal

abbrev pub invariant-left : goal.invariant-left
invariant-left g l = record {
  so_far : Taken g.W.Sink.took l.initial.writer l.writer l.bytes l.left;
  same : g.W.Sink.failures l.writer ≡ g.W.Sink.failures l.initial.writer;
}

abbrev pub decreases-left : goal.decreases-left
decreases-left g l = length l.left
