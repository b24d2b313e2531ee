use Rattle.std.proofs.Common.{◌+◌, ◌∙◌, ap, refl, set}
use Rattle.krs_types.specs.declared.errno.Errno.TheVariants.{ENOSPC}
use Rattle.krs_world.specs.{Kept.turn_by, declared.{lane.Lane.Lane, step.Kind.TheVariants.TakeFound}}
use Rattle.krs_world.proofs.Answering.{Comes, greatest, lane_at, lanes_same, moves, none_there, refuses}
use Rattle.krs_world.proofs.Moves.{misses}
use Rattle.krs_world.proofs.world.World.take_found.Goals as goal

pub returns-in_default-get-clause-moved : goal.returns-in_default-get-clause-moved
returns-in_default-get-clause-moved c = none_there c.self.invariant c.args.lane c.self.view_is
    c.deref.result.now TakeFound c.deref.ensures.value c.in_default-get.ensures.lookup.3

pub returns-in_default-checked_add-clause-refused : goal.returns-in_default-checked_add-clause-refused
returns-in_default-checked_add-clause-refused c = let w = c.self.inside in let x = c.in-Some-get.seat.now in
    refuses c.self.invariant c.args.lane c.self.view_is
    (lane_at w.lanes.items c.deref.result.now c.args.lane x c.deref.ensures.value c.in-Some-get.ensures.lookup.0
    c.in-Some-get.ensures.lookup.1) TakeFound ENOSPC (
      refl,
      greatest x.found c.in_default-checked_add.ensures,
      (c.in-Some.holder, ap (turn_by w.store) c.in-Some.is, c.if-holder-lane.false),
    )

-- the turn was found out
made : (c : goal.After-self-1) → Comes c.args.self.now c.args.lane TakeFound c.self.inside.store c.self.inside.out
    c.self.inside.serving c.self.inside.log.items (set c.self.inside.lanes.items c.args.lane
    (record c.index_mut.result.now { found = c.in-Some-checked_add.found }))
made c = let w = c.self.inside in let x = c.index_mut.result.now in
    let t = lanes_same w.lanes.items c.deref.result.now c.args.lane c.in-Some-get.seat.now x c.deref.ensures.value
    c.in-Some-get.ensures.lookup.0 c.in-Some-get.ensures.lookup.1 c.index_mut.ensures.value in
    moves c.self.invariant c.args.lane c.self.view_is t.0 TakeFound (misses c.args.lane c.self.invariant t.0
    c.in-Some-checked_add.found c.in-Some.holder c.in-Some.is c.if-holder-lane.false
    (c.in-Some-checked_add.ensures.1 ∙ ap (λ (z : Lane). z.found + 1) t.1))

pub invariant_of-self : goal.invariant_of-self
invariant_of-self c = (made c).0

pub returns-clause-moved : goal.returns-clause-moved
returns-clause-moved c = (made c).1
