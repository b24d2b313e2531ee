use Rattle.std.proofs.Common.{refl, sym}
use Rattle.krs_keys.proofs.SessionsLemmas.{lists_none, lists_put}
use Rattle.krs_keys.proofs.sessions.Sessions.list.Goals as goal

pub returns-in_default-clause-ok : goal.returns-in_default-clause-ok
returns-in_default-clause-ok c = lists_none c.args.self.now c.args.serial c.args.key.now (sym c.in_default.ensures)

pub returns-clause-ok : goal.returns-clause-ok
returns-clause-ok c =
    lists_put c.args.self.now (record { rings = c.insert.new.self; seed = c.args.self.now.seed }) c.args.serial
    c.in-Some.digest c.args.key.now (sym c.in-Some.ensures) refl
    (λ d q. c.in_ok-insert.ensures.updates.0 (d, q))
