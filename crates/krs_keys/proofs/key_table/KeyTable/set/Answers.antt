use Rattle.std.proofs.Common.{◌∙◌, ap, rules, subst, sym}
use Rattle.krs_model.specs.Table.{at}
use Rattle.krs_model.proofs.Tables.Changes.{at_alter_none}
use Rattle.krs_keys.specs.{Changes.changed, Keys.AreOfKind, Places.by_place, Sessions.AreSessions}
use Rattle.krs_keys.proofs.KindsLemmas.{changed_kind, kinds_alter}
use Rattle.krs_keys.proofs.key_table.KeyTable.set.Goals as goal

pub invariant_of-self : goal.invariant_of-self
invariant_of-self c =
    let es = by_place c.self.inside.keys in (
      c.change.ensures.placed,
      record {
        below = λ q h.
            ap (λ zs. at zs q) c.change.ensures.keys ∙ at_alter_none es _ q _ (c.self.invariant.1.below q h);
        kinds = subst AreOfKind (sym c.change.ensures.keys) (kinds_alter es _ (changed c.args.change)
            (changed_kind c.args.change) c.self.invariant.1.kinds);
        sessions = subst (AreSessions c.unlist_revoked.new.self) (sym c.change.ensures.keys)
            c.unlist_revoked.ensures;
      },
    )

pub returns : goal.returns
returns c = search rules
