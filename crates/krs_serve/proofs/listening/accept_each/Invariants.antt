use Rattle.std.proofs.Common.{◌+◌, ◌≡◌}
use Rattle.krs_listen.specs.Saying.{heard}
use Rattle.krs_serve.proofs.listening.accept_each.Given as goal

-- so many were accepted, for this desk, and given away; none failed, and nothing was told
abbrev pub invariant-accepts : goal.invariant-accepts
invariant-accepts g l = record {
  here : g.A.Acceptor.serves l.acceptor g.N.AtDesk.desk;
  accepted : g.A.Acceptor.accepted l.acceptor ≡ g.A.Acceptor.accepted l.initial.acceptor + l.made;
  hosted : l.hosted.guests ≡ l.initial.hosted.guests + l.made;
  failures : g.A.Acceptor.failures l.acceptor ≡ g.A.Acceptor.failures l.initial.acceptor;
  told : heard g.W.Write.contents l.output ≡ heard g.W.Write.contents l.initial.output;
}
