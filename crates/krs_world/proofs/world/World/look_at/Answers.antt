use Rattle.std.proofs.Common.{◌<◌, ◌==◌, ◌∙◌, ◌≡◌, ap, Bool, cond, false, refl, set, Some, subst, sym, true, ℕ}
use lib.ListN.{get_elem?}
use mathlib.Core.Option.{some}
use Rattle.krs_types.specs.declared.errno.Errno.TheVariants.{ENOMEM}
use Rattle.krs_world.specs.{Kept.{lane_cell, turn_by}, declared.step.Kind.TheVariants.LookAt}
use Rattle.krs_world.proofs.Answering.{Comes, lane_at, moves, moves_not, no_cell, out_here, refuses}
use Rattle.krs_world.proofs.{KeptHistory.{out_at, out_within}, ServedMoves.{looks, no_look, room_refused, unposted}}
use Rattle.krs_world.proofs.Worlds.{get_map}
use Rattle.krs_world.proofs.world.World.look_at.Goals as goal

pub returns-in_default-get-clause-moved : goal.returns-in_default-get-clause-moved
returns-in_default-get-clause-moved c = no_cell c.self.invariant c.args.lane c.self.view_is
    c.deref.result.now c.args.other (LookAt c.args.other) c.deref.ensures.value c.in_default-get.ensures.lookup.3
    (λ p new steps. (steps.0, steps.2))

pub returns-in-Posted-clause-moved : goal.returns-in-Posted-clause-moved
returns-in-Posted-clause-moved c = let w = c.self.inside in let z = c.in-Some-get.posted.now in
    let x = out_at c.self.invariant (c.in-Some.is ∙ ap (λ (n : ℕ). Some n) c.if-holder-lane.false) in
    let there : get_elem? w.lanes.items c.args.other ≡ some z =
    lane_at w.lanes.items c.deref.result.now c.args.other z c.deref.ensures.value c.in-Some-get.ensures.lookup.0
    c.in-Some-get.ensures.lookup.1 in
    moves_not c.self.invariant c.args.lane c.self.view_is
    (LookAt c.args.other) (λ p new e steps. no_look c.args.lane c.self.invariant x.1 c.args.other z _ _ there
    c.in-Posted.is p new steps)

pub index_mut-seat-requires : goal.index_mut-seat-requires
index_mut-seat-requires c = let w = c.self.inside in
    subst (λ (n : ℕ). c.args.lane < n) (sym w.lanes.ok.0) (out_within c.self.invariant
    (c.in-Some.is ∙ ap (λ (n : ℕ). Some n) c.if-holder-lane.false))

pub invariant_of-self : goal.invariant_of-self
invariant_of-self c = (room_refused c.args.lane c.self.invariant (out_here c.self.invariant
    (c.in-Some.is ∙ ap (λ (n : ℕ). Some n) c.if-holder-lane.false) c.index_mut-seat.ensures.value) c.push.new.self
    c.in_default-push.ensures.items).0

pub returns-in_default-push-clause-refused : goal.returns-in_default-push-clause-refused
returns-in_default-push-clause-refused c = let w = c.self.inside in
    let z = c.in-Some-get.posted.now in
    let here : w.out ≡ Some c.args.lane = c.in-Some.is ∙ ap (λ (n : ℕ). Some n) c.if-holder-lane.false in
    let at = out_here c.self.invariant here c.index_mut-seat.ensures.value in
    let there : get_elem? w.lanes.items c.args.other ≡ some z =
    lane_at w.lanes.items c.deref.result.now c.args.other z c.deref.ensures.value c.in-Some-get.ensures.lookup.0
    c.in-Some-get.ensures.lookup.1 in
    let refused = refuses c.self.invariant c.args.lane c.self.view_is at (LookAt c.args.other) ENOMEM (
      refl,
      ap (turn_by w.store) here,
      (
        lane_cell w.log.items w.serving z,
        get_map (lane_cell w.log.items w.serving) w.lanes.items c.args.other z there,
        unposted w.serving w.log.items z.slot c.in_default-slot.not-Posted,
      ),
    ) in
    let room = room_refused c.args.lane c.self.invariant at c.push.new.self c.in_default-push.ensures.items in
    (room.1 ∙ c.self.view_is, refused.1)

-- the cell is among those that were looked at
made : (c : goal.After-self-2-1) → Comes c.args.self.now c.args.lane (LookAt c.args.other) c.self.inside.store
    c.self.inside.out c.self.inside.serving c.self.inside.log.items (set c.self.inside.lanes.items c.args.lane
    (record c.index_mut-seat.result.now { checked = c.push.new.self; done = c.is_done-seat.result }))
made c = let w = c.self.inside in let x = c.index_mut-seat.result.now in let z = c.in-Some-get.posted.now in
    let here : w.out ≡ Some c.args.lane = c.in-Some.is ∙ ap (λ (n : ℕ). Some n) c.if-holder-lane.false in
    let at = out_here c.self.invariant here c.index_mut-seat.ensures.value in
    moves c.self.invariant c.args.lane c.self.view_is at (LookAt c.args.other)
    (looks c.args.lane c.self.invariant at c.args.other z c.push.new.self c.is_done-seat.result here
    (lane_at w.lanes.items c.deref.result.now c.args.other z c.deref.ensures.value c.in-Some-get.ensures.lookup.0
    c.in-Some-get.ensures.lookup.1) c.in_default-slot.not-Posted c.in-Ok.ensures.items
    (c.is_done-seat.ensures ∙ ap (λ (b : Bool). cond (cond (c.args.other == c.args.lane) b false) true x.done)
    c.has_reply-reply.ensures))

pub invariant_of-self-2 : goal.invariant_of-self-2
invariant_of-self-2 c = (made c).0

pub returns-clause-moved : goal.returns-clause-moved
returns-clause-moved c = (made c).1
