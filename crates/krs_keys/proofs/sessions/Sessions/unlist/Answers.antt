use Rattle.std.proofs.Common.{refl, sym}
use Rattle.krs_keys.proofs.SessionsLemmas.{unlists_none, unlists_put}
use Rattle.krs_keys.proofs.sessions.Sessions.unlist.Goals as goal

pub returns-in-Some : goal.returns-in-Some
returns-in-Some c =
    unlists_put c.args.self.now (record { rings = c.remove.new.self; seed = c.args.self.now.seed }) c.args.serial
    c.in-Some.digest c.args.key.now (sym c.in-Some.ensures) refl
    (λ d q. c.remove.ensures.updates.0 (d, q))

pub returns-in_default : goal.returns-in_default
returns-in_default c = unlists_none c.args.self.now c.args.serial c.args.key.now (sym c.in_default.ensures)
