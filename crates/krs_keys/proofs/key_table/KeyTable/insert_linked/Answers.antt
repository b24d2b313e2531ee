use Rattle.std.proofs.Common.{◌∙◌, ◌≡◌, ap, arith, refl, subst, sym}
use Rattle.krs_model.specs.Table.{at, IsBelow, Table, without}
use Rattle.krs_model.proofs.Tables.Changes.{at_alter_none, below_put, without_put}
use Rattle.krs_keys.specs.{Keys.{AreOfKind, with_entry}, Places.by_place, Sessions.AreSessions, declared.key.Key.Key}
use Rattle.krs_keys.proofs.KindsLemmas.{kinds_alter, kinds_put, linked_kind}
use Rattle.krs_keys.proofs.{SessionsLemmas.sessions_alter, TableLemmas.seen_as}
use Rattle.krs_keys.proofs.key_table.KeyTable.insert_linked.Goals as goal

pub invariant_of-self-in-Ok : goal.invariant_of-self-in-Ok
invariant_of-self-in-Ok c =
    let es = by_place c.self.inside.keys in
    let n = c.self.inside.next in
    let one = by_place c.put_in.new.keys in
    let f = with_entry c.args.name c.new.result in (
      c.in-Ok.ensures.placed,
      record {
        below = λ q h. ap (λ zs. at zs q) c.in-Ok.ensures.ok
            ∙ at_alter_none one _ q f (below_put es one n c.args.key c.in_ok-put_in.ensures.ok
            c.self.invariant.1.below q h);
        kinds = subst AreOfKind (sym c.in-Ok.ensures.ok) (kinds_alter one _ f (linked_kind c.args.name c.new.result)
            (subst AreOfKind (sym c.in_ok-put_in.ensures.ok)
            (kinds_put es n c.args.key c.requires c.self.invariant.1.kinds)));
        sessions = subst (AreSessions c.put_in.new.sessions) (sym c.in-Ok.ensures.ok)
            (sessions_alter c.put_in.new.sessions one _ f (λ v. (refl, refl)) c.put_in.ensures.sessions);
      },
    )

-- the key went out again
back : (c : goal.Joined-take_out) → by_place c.take_out.new.keys ≡ by_place c.self.inside.keys
back c =
    let n = c.self.inside.next in
    c.take_out.ensures.keys
    ∙ (ap (λ (t : Table Key). without t n) (c.in-Err.ensures.err ∙ c.in_ok-put_in.ensures.ok)
    ∙ without_put (by_place c.self.inside.keys) n c.args.key (c.self.invariant.1.below n (omega arith)))

pub invariant_of-self-in-Err : goal.invariant_of-self-in-Err
invariant_of-self-in-Err c = (
  c.take_out.ensures.placed,
  record {
    below = subst (λ (t : Table Key). IsBelow t c.self.inside.next) (sym (back c)) c.self.invariant.1.below;
    kinds = subst AreOfKind (sym (back c)) c.self.invariant.1.kinds;
    sessions = c.take_out.ensures.sessions;
  },
)

pub returns-in-Err-clause-err : goal.returns-in-Err-clause-err
returns-in-Err-clause-err c = ap (seen_as c.self.inside.next) (back c) ∙ c.self.view_is
