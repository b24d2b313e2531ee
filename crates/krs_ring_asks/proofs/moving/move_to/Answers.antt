use Rattle.std.proofs.Common.{◌==◌, ◌∙◌, ◌≡◌, ap, arith, Ok, rules, Some, sym, w32, ℕ}
use Rattle.std.proofs.lemmas.{Int.to_z-of_z, Result.err_from_is_err_and}
use Rattle.krs_types.specs.{Rights.WRITE, declared.{errno.Errno.TheVariants.EEXIST, rights.Want.TheVariants.Granted}}
use Rattle.krs_model.specs.Asks.Adding.{IsKeyringAt}
use Rattle.krs_model.specs.{Lookup.look_up, Reach.links_of_key_at, State.Key, Table.at}
use Rattle.krs_keys.specs.Keys.{seen}
use Rattle.krs_ring_asks.proofs.LinkAndUnlink.{found_is_ring, found_ring, not_refused, open_ring, ring_at_hand}
use Rattle.krs_ring_asks.proofs.MovedLinks.{free_told, linked_is, MayMove, move_done, move_failed}
use Rattle.krs_ring_asks.proofs.moving.move_to.Goals.{After-move_over, After-new-into}
use Rattle.krs_ring_asks.proofs.moving.move_to.Goals as goal
use Rattle.std.proofs.lemmas.Grind.{common_steps}

-- the destination is a keyring
is_ring : (c : After-new-into) → IsKeyringAt c.args.tables.now c.new-into.result
is_ring c =
    let ring : ℕ × Key = (c.in_ok-into.into, seen c.in_ok-into.ring.now) in
    rw c.new-into.ensures (found_is_ring c.args.tables.now ring
    (found_ring c.args.tables.now c.in_ok-context.context.now _ ring _ c.in_ok-into.ensures.found
    c.in_ok-links_of-2.ensures))

pub check_nesting-requires-clause-ring : goal.check_nesting-requires-clause-ring
check_nesting-requires-clause-ring c = is_ring (goal.at.check_nesting-requires-clause-ring c).After-new-into

pub move_over-requires-clause-ring : goal.move_over-requires-clause-ring
move_over-requires-clause-ring c = is_ring (goal.at.move_over-requires-clause-ring c).After-new-into

-- the key may be moved
may : (c : After-move_over) → MayMove c.args.tables.now c.args.client c.args.number c.args.link.serial c.args.link.from
    c.args.to c.args.flags c.in_ok-context.context.now (seen c.in_ok-key.key.now) (seen c.in_ok-source.source.now)
    (c.in_ok-into.into, seen c.in_ok-into.ring.now)
may c =
    let s = c.args.tables.now in
    let moved = c.args.link.serial in
    let from = c.args.link.from in
    let x = c.in_ok-context.context.now in
    let into : ℕ × Key = (c.in_ok-into.into, seen c.in_ok-into.ring.now) in
    let source_there : at s.keys from ≡ Some (seen c.in_ok-source.source.now) = search rules in
    let ring_found : look_up s x c.args.to (Granted WRITE) ≡ Ok into =
    ap (λ id. look_up s x id (Granted WRITE)) (sym (to_z-of_z w32 c.args.to c.ranges.to)) ∙ c.in_ok-into.ensures.found
    in
    let ring = found_ring s x c.args.to into _ ring_found c.in_ok-links_of-2.ensures in
    record {
      own = c.in_ok-context.ensures;
      there = search rules;
      is_source = ring_at_hand s (from, seen c.in_ok-source.source.now) _ source_there c.in_ok-links_of.ensures;
      ring_found = ring_found;
      is_ring = ring;
      linked = linked_is moved (links_of_key_at s.keys from) moved c.in_ok-check_linked.ensures;
      apart = search rules;
      free = free_told s into.0 c.in_ok-into.ring.now c.in_ok-key.key.now.name (c.args.flags == 1) ring.there
          c.in_ok-into.ensures.named (not_refused _ EEXIST (tt {0}) c.in_ok-check_free.ensures);
      unclosed = open_ring into.1 c.in_ok-check_open.ensures;
      nests = rw (sym c.new-into.ensures) c.in_ok-check_nesting.ensures;
    }

pub returns-in_err-move_over : goal.returns-in_err-move_over
returns-in_err-move_over c = grind (arith, common_steps, move_failed, may, err_from_is_err_and)

pub returns : goal.returns
returns c = grind (arith, common_steps, move_done, may)
