use Rattle.std.proofs.Common.{◌∙◌, ap, arith, false, List, None, refl, set, Some, subst}
use Rattle.krs_types.specs.declared.{errno.Errno.TheVariants.ENOMEM, event.Event.Event}
use Rattle.krs_world.specs.{Kept.{MayPut, world_of}, declared.{lane.Lane.Lane, step.Kind.TheVariants.Put}}
use Rattle.krs_world.proofs.Answering.{Comes, idle_here, may_now, moves, own_not, own_refused, refuses}
use Rattle.krs_world.proofs.{KeptHistory.in_bounds, Moves.puts_at}
use Rattle.krs_world.proofs.world.World.put.Goals as goal
use Rattle.std.proofs.lemmas.Grind.{common_steps}

pub returns-then-not-may_put-clause-moved : goal.returns-then-not-may_put-clause-moved
returns-then-not-may_put-clause-moved c = let w = c.self.inside in
    own_not c.self.invariant c.args.lane c.self.view_is
    (Put (Some (c.args.moment, c.args.ask))) (λ p other steps. (steps.0, steps.3))
    (subst (λ (l : List Lane). MayPut w.out w.serving l c.args.lane → ⊥) c.deref.ensures.value
    (c.if-not-may_put.ensures.not refl))

pub returns-in_default-clause-refused : goal.returns-in_default-clause-refused
returns-in_default-clause-refused c = let w = c.self.inside in
    let may = may_now w.out w.serving w.lanes.items c.deref.result.now c.args.lane c.deref.ensures.value
    (c.if-not-may_put.ensures.may refl) in
    let refused = refuses c.self.invariant c.args.lane c.self.view_is may.2.1
    (Put (Some (c.args.moment, c.args.ask))) ENOMEM
    (own_refused c.args.lane c.self.invariant may.2.1 may.0 may.1 may.2.2) in (
      ap (λ (l : List Event). world_of w.store w.out w.serving l w.lanes.items) c.copy_with_room.ensures.same
          ∙ c.self.view_is,
      refused.1,
    )

pub index_mut-seat-requires : goal.index_mut-seat-requires
index_mut-seat-requires c = grind (arith, common_steps, may_now, in_bounds)

-- the call is served, and the store at home
made : (c : goal.After-self-2-1) → Comes c.args.self.now c.args.lane (Put (Some (c.args.moment, c.args.ask)))
    c.serve.new.store None c.self.inside.serving c.serve.new.log.items (set c.self.inside.lanes.items c.args.lane
    (record c.index_mut-seat.result.now { seen = c.len-seat.result; holding = false }))
made c = let w = c.self.inside in let x = c.index_mut-seat.result.now in
    let may = may_now w.out w.serving w.lanes.items c.deref.result.now c.args.lane c.deref.ensures.value
    (c.if-not-may_put.ensures.may refl) in
    let here = idle_here w.lanes.items c.args.lane x may.2 c.index_mut-seat.ensures.value in
    moves c.self.invariant c.args.lane c.self.view_is here.0 (Put (Some (c.args.moment, c.args.ask)))
    (puts_at c.args.lane c.self.invariant here.0 c.len-seat.result
    c.args.moment c.args.ask c.serve.new.store c.copy_with_room.new.log.items c.serve.new.log.items may.0 may.1 here.1
    c.copy_with_room.ensures.same c.serve.ensures (c.len-seat.ensures ∙ c.serve.new.log.ok.0))

pub invariant_of-self-2 : goal.invariant_of-self-2
invariant_of-self-2 c = (made c).0

pub returns-clause-moved : goal.returns-clause-moved
returns-clause-moved c = (made c).1
