use Rattle.std.proofs.Common.{◌∙◌, ◌≡◌, ap, arith, IsSome, option_to_list, Some, subst, sym, true≢false, ℕ}
use Rattle.krs_model.specs.{Asks.Joining.joined_to, State.State, Sweep.roots, Table.{at, Table}}
use Rattle.krs_ctx.specs.Anchors.{anchored, Anchors}
use Rattle.krs_keys.specs.Keys.{shown}
use Rattle.krs_hold.specs.Tally.{all_less, AreExact, one_more}
use Rattle.krs_tables.specs.{View.state_of}
use Rattle.krs_tables.proofs.CountRoom.{room_told}
use Rattle.krs_context_asks.specs.Joined.{session_in}
use Rattle.krs_context_asks.proofs.JoinedHolders.{joined_tallied}
use Rattle.krs_context_asks.proofs.joining.join_found.Goals as goal
use Rattle.std.proofs.lemmas.Grind.{common_steps}

pub invariant_of-tables : goal.invariant_of-tables
invariant_of-tables c =
    let base = state_of c.tables.inside in
    let keys = c.tables.inside.keys.keys in
    let number = c.args.number in
    let ring = c.args.ring in
    let left = c.args.left in
    let own : session_in base number ≡ Some left =
    subst (λ (s : State). session_in s number ≡ Some left) (sym c.tables.view_is) c.requires.own in
    let there : IsSome (at (shown keys) ring) =
    subst (λ (s : State). IsSome (at s.keys ring)) (sym c.tables.view_is) c.requires.there in
    let numbers : c.let_go_of.new.self ≡ all_less (option_to_list left) (one_more ring c.tables.inside.holders) =
    c.let_go_of.ensures ∙ ap (all_less (option_to_list left)) c.hold.ensures in
    record {
      fit = c.tables.invariant.fit;
      kinds = c.tables.invariant.kinds;
      tallied =
          subst (λ (t : Anchors). AreExact keys c.let_go_of.new.self (roots (anchored base t)))
          (sym c.attach_session.ensures)
          (subst (λ (zs : Table ℕ). AreExact keys zs (roots (joined_to base number ring))) (sym numbers)
          (joined_tallied (shown keys) base number ring left c.tables.inside.holders own
          (c.tables.invariant.tallied.counted ring there) c.tables.invariant.tallied));
    }

pub returns-in_err-check_room-clause-room : goal.returns-in_err-check_room-clause-room
returns-in_err-check_room-clause-room c = grind (arith, common_steps, true≢false, room_told)
