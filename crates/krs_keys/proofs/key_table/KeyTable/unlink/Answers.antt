use Rattle.std.proofs.Common.{◌∙◌, ap, refl, subst, sym}
use Rattle.krs_model.specs.Table.{at}
use Rattle.krs_model.proofs.Tables.Changes.{at_alter_none}
use Rattle.krs_keys.specs.{Keys.{AreFit, AreOfKind, without_key}, Places.by_place, Sessions.AreSessions, Table.Keys}
use Rattle.krs_keys.proofs.{KindsLemmas.{keyless_kind, kinds_alter}, SessionsLemmas.sessions_alter}
use Rattle.krs_keys.proofs.key_table.KeyTable.unlink.Goals as goal

pub unlink-linked-requires-clause-fit : goal.unlink-linked-requires-clause-fit
unlink-linked-requires-clause-fit c = subst (λ (t : Keys). AreFit t.keys) (sym c.self.view_is) c.requires.fit

pub invariant_of-self : goal.invariant_of-self
invariant_of-self c =
    let es = by_place c.self.inside.keys in (
      c.unlink-linked.ensures.placed,
      record {
        below = λ q h.
            ap (λ zs. at zs q) c.unlink-linked.ensures.keys ∙ at_alter_none es _ q _ (c.self.invariant.1.below q h);
        kinds = subst AreOfKind (sym c.unlink-linked.ensures.keys) (kinds_alter es _ (without_key c.args.serial)
            (keyless_kind c.args.serial) c.self.invariant.1.kinds);
        sessions = subst (AreSessions c.self.inside.sessions) (sym c.unlink-linked.ensures.keys)
            (sessions_alter c.self.inside.sessions es _ (without_key c.args.serial) (λ v. (refl, refl))
            c.self.invariant.1.sessions);
      },
    )
