use Rattle.std.proofs.Common.{◌+◌, ◌∙◌, ap, refl, set, Some, true}
use Rattle.krs_types.specs.declared.errno.Errno.TheVariants.{ENOSPC}
use Rattle.krs_world.specs.{Kept.turn_by, declared.{lane.Lane.Lane, step.Kind.TheVariants.Take}}
use Rattle.krs_world.proofs.Answering.{Comes, greatest, lane_at, lanes_same, moves, none_there, refuses}
use Rattle.krs_world.proofs.Moves.{takes}
use Rattle.krs_world.proofs.world.World.take.Goals as goal

pub returns-in_default-get-clause-moved : goal.returns-in_default-get-clause-moved
returns-in_default-get-clause-moved c = none_there c.self.invariant c.args.lane c.self.view_is
    c.deref.result.now Take c.deref.ensures.value c.in_default-get.ensures.lookup.3

pub returns-in_default-checked_add-clause-refused : goal.returns-in_default-checked_add-clause-refused
returns-in_default-checked_add-clause-refused c = let w = c.self.inside in let x = c.in-Some.seat.now in
    refuses c.self.invariant c.args.lane c.self.view_is
    (lane_at w.lanes.items c.deref.result.now c.args.lane x c.deref.ensures.value c.in-Some.ensures.lookup.0
    c.in-Some.ensures.lookup.1) Take ENOSPC
    (refl, greatest x.taken c.in_default-checked_add.ensures, (w.store, ap (turn_by w.store) c.in-None.is))

-- the seat has the turn
made : (c : goal.After-self-2-1) → Comes c.args.self.now c.args.lane Take c.self.inside.store (Some c.args.lane)
    c.self.inside.serving c.self.inside.log.items (set c.self.inside.lanes.items c.args.lane
    (record c.index_mut-seat.result.now {
      base = c.len-seat.result;
      holding = true;
      taken = c.in-Some-checked_add.taken;
      checked = c.clear.new.self;
    }))
made c = let w = c.self.inside in let x = c.index_mut-seat.result.now in
    let t = lanes_same w.lanes.items c.deref.result.now c.args.lane c.in-Some.seat.now x c.deref.ensures.value
    c.in-Some.ensures.lookup.0 c.in-Some.ensures.lookup.1 c.index_mut-seat.ensures.value in
    moves c.self.invariant c.args.lane c.self.view_is t.0 Take (takes c.args.lane c.self.invariant t.0 c.len-seat.result
    c.in-Some-checked_add.taken c.clear.new.self c.in-None.is (c.len-seat.ensures ∙ w.log.ok.0)
    (c.in-Some-checked_add.ensures.1 ∙ ap (λ (z : Lane). z.taken + 1) t.1) c.clear.ensures.items)

pub invariant_of-self : goal.invariant_of-self
invariant_of-self c = (made c).0

pub returns-clause-moved : goal.returns-clause-moved
returns-clause-moved c = (made c).1
