use Rattle.std.proofs.Common.{◌∙◌, ◌≡◌, ap, arith, option_to_list, Some, subst, sym, true≢false, ℕ}
use Rattle.krs_model.specs.Asks.Adding.{IsKeyringAt}
use Rattle.krs_model.specs.{State.State, Sweep.roots, Table.Table}
use Rattle.krs_keys.proofs.KindsLemmas.{kinds_alter, linked_kind}
use Rattle.krs_hold.specs.Tally.{all_less, AreExact}
use Rattle.krs_tables.specs.{Linked.{name_in}, View.state_of}
use Rattle.krs_tables.proofs.CountRoom.{room_told}
use Rattle.krs_tables.proofs.{Links.{displaced_told, fit_linked, name_kept, shown_linked}, OwedHolders.linked_tallied}
use Rattle.krs_ring_asks.proofs.linking.put_named.Goals as goal
use Rattle.std.proofs.lemmas.Grind.{common_steps}

pub invariant_of-tables : goal.invariant_of-tables
invariant_of-tables c =
    let s = c.tables.inside in
    let es = s.keys.keys in
    let there =
    name_kept s c.args.serial c.args.name (subst (λ (t : State). name_in t c.args.serial ≡ Some c.args.name)
    (sym c.tables.view_is) c.requires.named) in
    let ring = subst (λ (t : State). IsKeyringAt t c.args.ring) (sym c.tables.view_is) c.requires.ring in
    record {
      fit = rw c.in-Ok.ensures.ok (fit_linked es c.args.ring c.args.serial c.args.name c.tables.invariant.fit there);
      kinds = rw c.in-Ok.ensures.ok (kinds_alter es c.args.ring _ (linked_kind c.args.name c.args.serial)
          c.tables.invariant.kinds);
      tallied = subst (λ (zs : Table ℕ). AreExact c.link.new.self.keys zs (roots (state_of s)))
          (sym (c.let_go_of.ensures ∙ ap (all_less (option_to_list c.in-Ok.displaced)) c.hold.ensures))
          (rw (c.in-Ok.ensures.ok, c.in-Ok.ensures.displaced) (linked_tallied s (roots (state_of s)) c.args.ring
          c.args.serial c.args.name there ring c.tables.invariant.tallied));
    }

pub returns-in-Ok-clause-ok : goal.returns-in-Ok-clause-ok
returns-in-Ok-clause-ok c = grind (arith, common_steps, shown_linked)

pub returns-in_err-check_room-clause-in_place : goal.returns-in_err-check_room-clause-in_place
returns-in_err-check_room-clause-in_place c = grind (arith, common_steps, true≢false, room_told)

pub returns-in-Err-clause-in_place : goal.returns-in-Err-clause-in_place
returns-in-Err-clause-in_place c = grind (arith, common_steps, true≢false, displaced_told)
