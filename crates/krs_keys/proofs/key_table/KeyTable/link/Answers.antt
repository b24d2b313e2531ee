use Rattle.std.proofs.Common.{◌∙◌, ap, refl, subst, sym}
use Rattle.krs_model.specs.Table.{at}
use Rattle.krs_model.proofs.Tables.Changes.{at_alter_none}
use Rattle.krs_keys.specs.{Keys.{AreOfKind, with_entry}, Places.by_place, Sessions.AreSessions}
use Rattle.krs_keys.proofs.{KindsLemmas.{kinds_alter, linked_kind}, SessionsLemmas.sessions_alter}
use Rattle.krs_keys.proofs.key_table.KeyTable.link.Goals as goal

pub invariant_of-self-2 : goal.invariant_of-self-2
invariant_of-self-2 c =
    let es = by_place c.self.inside.keys in (
      c.in_ok-displaced.ensures.placed,
      record {
        below = λ q h. ap (λ zs. at zs q) c.in_ok-displaced.ensures.ok
            ∙ at_alter_none es _ q _ (c.self.invariant.1.below q h);
        kinds = subst AreOfKind (sym c.in_ok-displaced.ensures.ok) (kinds_alter es _
            (with_entry c.args.name c.args.serial) (linked_kind c.args.name c.args.serial) c.self.invariant.1.kinds);
        sessions = subst (AreSessions c.self.inside.sessions) (sym c.in_ok-displaced.ensures.ok)
            (sessions_alter c.self.inside.sessions es _ (with_entry c.args.name c.args.serial) (λ v. (refl, refl))
            c.self.invariant.1.sessions);
      },
    )
