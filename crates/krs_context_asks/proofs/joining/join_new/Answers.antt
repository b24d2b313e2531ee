use Rattle.std.proofs.Common.{◌∙◌, ◌≡◌, ◌≤◌, ap, arith, None, option_to_list, Some, subst, sym, ℕ}
use Rattle.krs_model.specs.{Asks.Joining.{joined_to, session_to}, State.State, Sweep.roots, Table.{at, put, Table}}
use Rattle.krs_model.proofs.Tables.Changes.{put_map}
use Rattle.krs_ctx.specs.{Anchors.{anchored, Anchors}, Told.changed}
use Rattle.krs_keys.specs.{Table.Keys}
use Rattle.krs_hold.specs.Tally.{all_less, AreExact, one_more, with_number}
use Rattle.krs_tables.specs.View.{IsConsistent, state_of}
use Rattle.krs_context_asks.specs.Joined.{session_in}
use Rattle.krs_context_asks.proofs.JoinedHolders.{empty_fit, empty_kind, empty_kinds, joined_anew_is}
use Rattle.krs_context_asks.proofs.JoinedHolders.{made_joined_tallied}
use Rattle.krs_context_asks.proofs.joining.join_new.Goals as goal
use Rattle.std.proofs.lemmas.Grind.{common_steps}

pub invariant_of-tables-in-Ok : goal.invariant_of-tables-in-Ok
invariant_of-tables-in-Ok c =
    let s = c.tables.inside in
    let base = state_of s in
    let es = s.keys.keys in
    let n = s.keys.next in
    let key = c.args.key in
    let left = c.args.left in
    let here : n ≤ n = omega arith in
    let none : at es n ≡ None = c.next.ensures.unused n here in
    let own : session_in base c.args.number ≡ Some left =
    subst (λ (t : State). session_in t c.args.number ≡ Some left) (sym c.tables.view_is) c.requires.own in
    let ring : c.in-Ok.ring ≡ n = c.in-Ok.ensures.serial in
    let serial : c.new.result ≡ n = c.new.ensures ∙ c.next.ensures.value in
    let numbers : c.let_go_of.new.self ≡ all_less (option_to_list left) (one_more n (with_number n s.holders)) =
    c.let_go_of.ensures
    ∙ ap (all_less (option_to_list left)) (c.hold.ensures
    ∙ (ap (one_more c.in-Ok.ring) c.in_ok-make_room.ensures.ok
    ∙ (ap (λ k. one_more k (with_number c.new.result s.holders)) ring
    ∙ ap (λ k. one_more n (with_number k s.holders)) serial))) in
    let anchors : c.attach_session.new.self ≡ changed s.contexts c.args.number (session_to n) =
    c.attach_session.ensures ∙ ap (λ k. changed s.contexts c.args.number (session_to k)) ring in
    subst (λ (k : Keys).
    IsConsistent (record s { keys = k; contexts = c.attach_session.new.self; holders = c.let_go_of.new.self }))
    (sym c.in-Ok.ensures.ok)
    (record {
      fit = empty_fit es n key none c.requires.empty c.tables.invariant.fit;
      kinds = empty_kinds es n key c.requires.empty c.tables.invariant.kinds;
      tallied =
          subst (λ (t : Anchors). AreExact (put es n key) c.let_go_of.new.self (roots (anchored base t)))
          (sym anchors)
          (subst (λ (zs : Table ℕ). AreExact (put es n key) zs (roots (joined_to base c.args.number n))) (sym numbers)
          (made_joined_tallied es base c.args.number n left key s.holders none c.requires.empty own
          c.tables.invariant.tallied));
    })

pub returns-in-Ok : goal.returns-in-Ok
returns-in-Ok c = grind (arith, common_steps, joined_anew_is, put_map)

pub insert-requires : goal.insert-requires
insert-requires c = empty_kind c.args.key c.requires.empty
