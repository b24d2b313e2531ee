-- Which of its ends it came to.
use Rattle.std.proofs.Common.{inl, inr, refl, rules}
use Rattle.std.specs.IoError.{raw_os_error}
use Rattle.krs_listen.specs.Saying.{heard}
use Rattle.krs_listen.proofs.EndLemmas.{ends_as}
use Rattle.krs_serve.proofs.daemon.listen_at.Goals as goal

pub returns-in_default : goal.returns-in_default
returns-in_default g c = inl (c.say.ensures, refl, refl)

pub returns-in-Err : goal.returns-in-Err
returns-in-Err g c = inr (inl (
  c.say-in-Err.ensures,
  (raw_os_error c.in-Err.cause, rw c.path-path.ensures at c.tell_cause.ensures),
  refl,
))

pub returns : goal.returns
returns g c = inr (inr (
  heard g.W.Write.contents c.say-2.new.self,
  search rules,
  rw c.connections_for-connections.ensures at (ends_as _ _ _ _ _ _ _ _ c.serve_all-status.ensures),
))
