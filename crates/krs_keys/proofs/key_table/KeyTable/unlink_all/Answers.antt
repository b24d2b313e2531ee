use Rattle.std.proofs.Common.{◌∙◌, ap, option_map, refl, subst, sym}
use Rattle.krs_model.specs.Table.{at}
use Rattle.krs_model.proofs.Tables.Changes.{at_map}
use Rattle.krs_keys.specs.{Keys.{AreFit, AreOfKind, without_key}, Places.by_place, Sessions.AreSessions, Table.Keys}
use Rattle.krs_keys.proofs.{SessionsLemmas.sessions_map, Unlinking.kinds-without_key}
use Rattle.krs_keys.proofs.key_table.KeyTable.unlink_all.Goals as goal

pub unlink_all-requires-clause-fit : goal.unlink_all-requires-clause-fit
unlink_all-requires-clause-fit c = subst (λ (t : Keys). AreFit t.keys) (sym c.self.view_is) c.requires.fit

pub invariant_of-self : goal.invariant_of-self
invariant_of-self c =
    let es = by_place c.self.inside.keys in
    let f = without_key c.args.serial in (
      c.unlink_all.ensures.placed,
      record {
        below = λ q h. ap (λ zs. at zs q) c.unlink_all.ensures.keys
            ∙ (at_map f es q ∙ ap (option_map f) (c.self.invariant.1.below q h));
        kinds = subst AreOfKind (sym c.unlink_all.ensures.keys) (kinds-without_key c.args.serial es
            c.self.invariant.1.kinds);
        sessions = subst (AreSessions c.self.inside.sessions) (sym c.unlink_all.ensures.keys)
            (sessions_map c.self.inside.sessions es f (λ v. (refl, refl)) c.self.invariant.1.sessions);
      },
    )
