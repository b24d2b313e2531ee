use Rattle.std.proofs.Common.{◌∙◌, subst, sym}
use Rattle.krs_keys.specs.{Places.by_place, Sessions.AreSessions}
use Rattle.krs_keys.proofs.{PlacesLemmas.rises_in_slots, RisingTables.without_absent}
use Rattle.krs_keys.proofs.key_table.take_out.Goals as goal

pub returns-in_err-key-clause-sessions : goal.returns-in_err-key-clause-sessions
returns-in_err-key-clause-sessions c =
    subst (AreSessions c.args.sessions.now)
    (sym (c.remove.ensures.keys ∙ without_absent (by_place c.args.keys.now) c.args.serial
    (sym c.in_err-key.ensures.key)))
    c.requires.sessions

pub returns-clause-sessions : goal.returns-clause-sessions
returns-clause-sessions c =
    subst (AreSessions c.unlist.new.self) (sym c.remove.ensures.keys)
    (c.unlist.ensures (by_place c.args.keys.now)
    (rises_in_slots c.args.keys.now.slots.slots c.args.keys.now.places.entries) (sym c.in_ok-key.ensures.key)
    c.requires.sessions)
