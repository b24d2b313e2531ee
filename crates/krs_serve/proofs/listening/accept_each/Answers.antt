use Rattle.std.proofs.Common.{codes, subst}
use Rattle.krs_listen.specs.Saying.{Heard, heard, Says}
use Rattle.krs_serve.proofs.listening.accept_each.Goals as goal

-- an accept that failed is told after nothing else
pub returns-in-Err-clause-told : goal.returns-in-Err-clause-told
returns-in-Err-clause-told g c =
    subst (λ (before : Heard). Says before (heard g.W.Write.contents c.say.new.self) (codes "error: accept\n"))
    c.accepts.invariant.told c.say.ensures
