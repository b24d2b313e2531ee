use Rattle.std.proofs.Common.{◌<◌, ◌∙◌, ◌≡◌, ◌≤◌, arith, inl, inr, set, subst, ℕ}
use lib.ListN.{get_elem?}
use mathlib.Core.Option.{some}
use Rattle.krs_world.specs.declared.{lane.Lane.Lane, step.Kind.TheVariants.Load}
use Rattle.krs_world.proofs.Answering.{Comes, lane_at, lanes_same, moves, moves_not, none_there}
use Rattle.krs_world.proofs.Moves.{loads, no_load}
use Rattle.krs_world.proofs.world.World.load.Goals.{In-Some}
use Rattle.krs_world.proofs.world.World.load.Goals as goal
use Rattle.std.proofs.lemmas.Grind.{common_steps}

pub returns-in_default : goal.returns-in_default
returns-in_default c = none_there c.self.invariant c.args.lane c.self.view_is
    c.deref.result.now (Load c.args.seen) c.deref.ensures.value c.in_default.ensures.lookup.3

-- the lane at its place
there : (c : In-Some) → get_elem? c.self.inside.lanes.items c.args.lane ≡ some c.in-Some.seat.now
there c = grind (arith, common_steps, lane_at)

pub returns-then-seen-seat : goal.returns-then-seen-seat
returns-then-seen-seat c = moves_not c.self.invariant c.args.lane c.self.view_is
    (Load c.args.seen) (no_load c.args.lane c.self.invariant (there (goal.at.returns-then-seen-seat c).In-Some)
    c.args.seen (inl c.if-seen-seat.true))

pub returns-then-len-seen : goal.returns-then-len-seen
returns-then-len-seen c = let w = c.self.inside in
    moves_not c.self.invariant c.args.lane c.self.view_is
    (Load c.args.seen) (no_load c.args.lane c.self.invariant (there (goal.at.returns-then-len-seen c).In-Some)
    c.args.seen
    (inr (subst (λ (n : ℕ). n < c.args.seen) (c.len.ensures ∙ w.log.ok.0) c.if-len-seen.true)))

-- the seat has seen so much
made : (c : goal.After-self-1) → Comes c.args.self.now c.args.lane (Load c.args.seen) c.self.inside.store
    c.self.inside.out c.self.inside.serving c.self.inside.log.items
    (set c.self.inside.lanes.items c.args.lane (record c.index_mut.result.now { seen = c.args.seen }))
made c = let w = c.self.inside in let x = c.index_mut.result.now in
    let t = lanes_same w.lanes.items c.deref.result.now c.args.lane c.in-Some.seat.now x c.deref.ensures.value
    c.in-Some.ensures.lookup.0 c.in-Some.ensures.lookup.1 c.index_mut.ensures.value in
    moves c.self.invariant c.args.lane c.self.view_is t.0 (Load c.args.seen)
    (loads c.args.lane c.self.invariant t.0 c.args.seen
    (subst (λ (z : Lane). z.seen ≤ c.args.seen) t.1 c.if-seen-seat.false)
    (subst (λ (n : ℕ). c.args.seen ≤ n) (c.len.ensures ∙ w.log.ok.0) c.if-len-seen.false))

pub invariant_of-self : goal.invariant_of-self
invariant_of-self c = (made c).0

pub returns : goal.returns
returns c = (made c).1
