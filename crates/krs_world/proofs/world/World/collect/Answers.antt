use Rattle.std.proofs.Common.{◌<◌, ◌∙◌, ◌≤◌, ◌⊎◌, ap, false, inl, inr, length, set, subst, sym, ℕ}
use Rattle.krs_world.specs.{World.MovesBy, declared.{lane.Lane.Lane, step.Kind.TheVariants.Collect}}
use Rattle.krs_world.proofs.Answering.{Comes, lane_at, lanes_same, moves, moves_not, none_there}
use Rattle.krs_world.proofs.PostedMoves.{collects, no_collect, no_reply}
use Rattle.krs_world.proofs.world.World.collect.Goals.{In-Answered}
use Rattle.krs_world.proofs.world.World.collect.Goals as goal
use Rattle.krs_world.specs.declared.lane.Slot.TheVariants as slots

pub returns-in_default : goal.returns-in_default
returns-in_default c = none_there c.self.invariant c.args.lane c.self.view_is
    c.deref.result.now (Collect c.args.seen) c.deref.ensures.value c.in_default.ensures.lookup.3

pub returns-in_default-slot : goal.returns-in_default-slot
returns-in_default-slot c = let w = c.self.inside in
    moves_not c.self.invariant c.args.lane c.self.view_is
    (Collect c.args.seen) (no_reply c.args.lane c.self.invariant
    (lane_at w.lanes.items c.deref.result.now c.args.lane c.in-Some.seat.now c.deref.ensures.value
    c.in-Some.ensures.lookup.0 c.in-Some.ensures.lookup.1) c.args.seen c.in_default-slot.not-Answered)

-- the length isn't one that the seat may have seen
not : (c : In-Answered) → (c.args.seen ≤ c.in-Answered.place)
    ⊎ ((c.args.seen < c.in-Some.seat.now.seen) ⊎ (length c.self.inside.log.items < c.args.seen))
    → MovesBy c.args.self.now c.args.lane (Collect c.args.seen) false c.args.self.now
not c outside = let w = c.self.inside in
    moves_not c.self.invariant c.args.lane c.self.view_is
    (Collect c.args.seen) (no_collect c.args.lane c.self.invariant
    (lane_at w.lanes.items c.deref.result.now c.args.lane c.in-Some.seat.now c.deref.ensures.value
    c.in-Some.ensures.lookup.0 c.in-Some.ensures.lookup.1) c.in-Answered.place c.args.seen c.in-Answered.is outside)

pub returns-then-seen-place : goal.returns-then-seen-place
returns-then-seen-place c = not (goal.at.returns-then-seen-place c).In-Answered (inl c.if-seen-place.true)

pub returns-then-seen-seat : goal.returns-then-seen-seat
returns-then-seen-seat c = not (goal.at.returns-then-seen-seat c).In-Answered (inr (inl c.if-seen-seat.true))

pub returns-then-len-seen : goal.returns-then-len-seen
returns-then-len-seen c = not (goal.at.returns-then-len-seen c).In-Answered (inr (inr
    (subst (λ (n : ℕ). n < c.args.seen) (c.len.ensures ∙ c.self.inside.log.ok.0) c.if-len-seen.true)))

-- the reply is collected
made : (c : goal.Joined-seat-2) → Comes c.args.self.now c.args.lane (Collect c.args.seen) c.self.inside.store
    c.self.inside.out c.self.inside.serving c.self.inside.log.items (set c.self.inside.lanes.items c.args.lane
    (record c.index_mut-seat.result.now { seen = c.args.seen; slot = slots.Empty; done = false }))
made c = let w = c.self.inside in let x = c.index_mut-seat.result.now in
    let t = lanes_same w.lanes.items c.deref.result.now c.args.lane c.in-Some.seat.now x c.deref.ensures.value
    c.in-Some.ensures.lookup.0 c.in-Some.ensures.lookup.1 c.index_mut-seat.ensures.value in
    moves c.self.invariant c.args.lane c.self.view_is t.0 (Collect c.args.seen)
    (collects c.args.lane c.self.invariant t.0 c.in-Answered.place
    c.args.seen (ap (λ (z : Lane). z.slot) (sym t.1) ∙ c.in-Answered.is) c.if-seen-place.false
    (subst (λ (z : Lane). z.seen ≤ c.args.seen) t.1 c.if-seen-seat.false)
    (subst (λ (n : ℕ). c.args.seen ≤ n) (c.len.ensures ∙ w.log.ok.0) c.if-len-seen.false))

pub invariant_of-self : goal.invariant_of-self
invariant_of-self c = (made c).0

pub returns : goal.returns
returns c = (made c).1
