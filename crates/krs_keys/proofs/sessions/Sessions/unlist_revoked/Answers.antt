use Rattle.std.proofs.Common.{rules, subst, sym}
use Rattle.krs_model.proofs.Tables.Changes.{alter_none}
use Rattle.krs_keys.specs.{Changes.changed, Places.by_place, Sessions.AreSessions}
use Rattle.krs_keys.proofs.{PlacesLemmas.rises_in_slots, SessionsLemmas.{session-changed, sessions_alter}}
use Rattle.krs_keys.proofs.SessionsLemmas.{sessions_revoked}
use Rattle.krs_keys.proofs.sessions.Sessions.unlist_revoked.Goals as goal

pub returns-then-not-revokes : goal.returns-then-not-revokes
returns-then-not-revokes c =
    sessions_alter c.args.self.now (by_place c.args.keys.now) c.args.serial (changed c.args.change.now)
    (session-changed c.args.change.now (search rules)) c.requires

pub returns-in-Some : goal.returns-in-Some
returns-in-Some c =
    let keys = c.args.keys.now in
    let rises = rises_in_slots keys.slots.slots keys.places.entries in
    sessions_revoked c.unlist.new.self (by_place keys) c.args.serial c.args.change.now (search rules) rises
    (c.unlist.ensures (by_place keys) rises (sym c.in-Some.ensures) c.requires)

pub returns-in_default : goal.returns-in_default
returns-in_default c =
    subst (AreSessions c.args.self.now)
    (sym (alter_none (by_place c.args.keys.now) c.args.serial (changed c.args.change.now) (sym c.in_default.ensures)))
    c.requires
