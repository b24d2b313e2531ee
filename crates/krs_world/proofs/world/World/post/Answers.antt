use Rattle.std.proofs.Common.{arith, false, List, refl, set, subst}
use Rattle.krs_world.specs.{Kept.IsIdle, declared.{lane.Lane.Lane, step.Kind.TheVariants.Post}}
use Rattle.krs_world.proofs.{Answering.{Comes, idle_here, moves, posts_not}, KeptHistory.in_bounds, PostedMoves.posts}
use Rattle.krs_world.proofs.world.World.post.Goals as goal
use Rattle.krs_world.specs.declared.lane.Slot.TheVariants as slots
use Rattle.std.proofs.lemmas.Grind.{common_steps}

pub returns-then-not-is_idle : goal.returns-then-not-is_idle
returns-then-not-is_idle c = posts_not c.self.invariant c.args.lane c.self.view_is c.args.moment c.args.ask
    (subst (λ (l : List Lane). IsIdle l c.args.lane → ⊥) c.deref.ensures.value (c.if-not-is_idle.ensures.not refl))

pub index_mut-seat-requires : goal.index_mut-seat-requires
index_mut-seat-requires c = grind (arith, common_steps, in_bounds)

-- the call is in the cell
made : (c : goal.Joined-seat) → Comes c.args.self.now c.args.lane (Post c.args.moment c.args.ask) c.self.inside.store
    c.self.inside.out c.self.inside.serving c.self.inside.log.items (set c.self.inside.lanes.items c.args.lane
    (record c.index_mut-seat.result.now {
      after = c.index_mut-seat.result.now.seen;
      slot = slots.Posted c.args.moment c.args.ask;
      done = false;
    }))
made c = let w = c.self.inside in let x = c.index_mut-seat.result.now in
    let here = idle_here w.lanes.items c.args.lane x
    (subst (λ (l : List Lane). IsIdle l c.args.lane) c.deref.ensures.value (c.if-not-is_idle.ensures.idle refl))
    c.index_mut-seat.ensures.value in
    moves c.self.invariant c.args.lane c.self.view_is here.0 (Post c.args.moment c.args.ask)
    (posts c.args.lane c.self.invariant here.0 c.args.moment c.args.ask here.1)

pub invariant_of-self : goal.invariant_of-self
invariant_of-self c = (made c).0

pub returns : goal.returns
returns c = (made c).1
