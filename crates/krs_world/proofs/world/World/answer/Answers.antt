use Rattle.std.proofs.Common.{[], ◌++◌, ◌<◌, ◌∙◌, ◌∷◌, ◌≡◌, ap, length, length-set, List, refl, set, Some, subst}
use Rattle.std.proofs.Common.{arith, sym, ℕ}
use lib.ListN.{get_elem?}
use mathlib.Core.Option.{some}
use Rattle.krs_types.specs.declared.{errno.Errno.TheVariants.ENOMEM, event.Event.Event}
use Rattle.krs_model.specs.{History.event_of, Step.Step}
use Rattle.krs_world.specs.{Kept.{IsKept, world_of}, World.RefusedBy}
use Rattle.krs_world.specs.declared.{lane.{Lane.Lane, Slot.TheVariants.Answered}, step.Kind.TheVariants.Answer}
use Rattle.krs_world.specs.declared.view.Service.{Service}
use Rattle.krs_world.proofs.AnsweredMoves.{answers_at, server}
use Rattle.krs_world.proofs.Answering.{Comes, lane_here, moves, out_here, refuses, serves_none}
use Rattle.krs_world.proofs.KeptHistory.{in_bounds, out_within}
use Rattle.krs_world.proofs.ServedMoves.{room_refused}
use Rattle.krs_world.proofs.world.World.answer.Goals.{After-reserve}
use Rattle.krs_world.proofs.world.World.answer.Goals as goal
use Rattle.std.proofs.lemmas.Grind.{common_steps}

one_call : (a b : Service) → Some a ≡ Some b → a ≡ b
one_call a b is = cc

pub returns-in_default-serving-clause-moved : goal.returns-in_default-serving-clause-moved
returns-in_default-serving-clause-moved c = serves_none c.self.invariant c.args.lane c.self.view_is
    c.in_default-serving.is

pub index_mut-seat-requires : goal.index_mut-seat-requires
index_mut-seat-requires c = let w = c.self.inside in
    subst (λ (n : ℕ). c.args.lane < n) (sym w.lanes.ok.0) (out_within c.self.invariant
    (c.in-Some.is ∙ ap (λ (n : ℕ). Some n) c.if-holder-lane.false))

-- there is no memory, and nothing is changed but the room
no_room : (c : After-reserve) → let w = c.self.inside in let x = c.index_mut-seat.result.now in
    let lanes = set w.lanes.items c.args.lane (record x { checked = c.reserve.new.self }) in
    IsKept w.store w.out w.serving w.log.items lanes
    × RefusedBy c.args.self.now c.args.lane Answer ENOMEM (world_of w.store w.out w.serving w.log.items lanes)
no_room c = let w = c.self.inside in
    let here : w.out ≡ Some c.args.lane = c.in-Some.is ∙ ap (λ (n : ℕ). Some n) c.if-holder-lane.false in
    let at = out_here c.self.invariant here c.index_mut-seat.ensures.value in
    let refused = refuses c.self.invariant c.args.lane c.self.view_is at Answer ENOMEM (
      refl,
      server c.args.lane c.self.invariant at c.in-Some-serving.call here c.in-Some-serving.is,
    ) in
    let room = room_refused c.args.lane c.self.invariant at c.reserve.new.self c.reserve.ensures.items in
    (room.0, (room.1 ∙ c.self.view_is, refused.1))

pub invariant_of-self : goal.invariant_of-self
invariant_of-self c = (no_room (goal.at.invariant_of-self c).After-reserve).0

pub returns-in_default-reserve-clause-refused : goal.returns-in_default-reserve-clause-refused
returns-in_default-reserve-clause-refused c = (no_room (goal.at.returns-in_default-reserve-clause-refused
    c).After-reserve).1

pub invariant_of-self-in_default-copy_with_room : goal.invariant_of-self-in_default-copy_with_room
invariant_of-self-in_default-copy_with_room c = let w = c.self.inside in
    subst (λ (l : List Event). IsKept w.store w.out w.serving l
    (set w.lanes.items c.args.lane (record c.index_mut-seat.result.now { checked = c.reserve.new.self })))
    (sym c.copy_with_room.ensures.same) (no_room (goal.at.invariant_of-self-in_default-copy_with_room
    c).After-reserve).0

pub returns-in_default-copy_with_room-clause-refused : goal.returns-in_default-copy_with_room-clause-refused
returns-in_default-copy_with_room-clause-refused c = let w = c.self.inside in
    subst (λ (l : List Event). RefusedBy c.args.self.now c.args.lane Answer ENOMEM (world_of w.store w.out w.serving l
    (set w.lanes.items c.args.lane (record c.index_mut-seat.result.now { checked = c.reserve.new.self }))))
    (sym c.copy_with_room.ensures.same) (no_room (goal.at.returns-in_default-copy_with_room-clause-refused
    c).After-reserve).1

pub index_mut-requires : goal.index_mut-requires
index_mut-requires c = grind (arith, common_steps, in_bounds)

pub serve-requires-clause-copy : goal.serve-requires-clause-copy
serve-requires-clause-copy c = grind (arith, common_steps, one_call)

-- the call is answered
made : (c : goal.After-serve) → let w = c.self.inside in
    Comes c.args.self.now c.args.lane Answer c.serve.new.store w.out c.take.new.self c.serve.new.log.items
    (set (set w.lanes.items c.args.lane (record c.index_mut-seat.result.now {
      checked = c.push_reserved.new.self;
      done = c.is_done-seat.result;
    })) c.in-Some-serving.call.lane (record c.index_mut.result.now { slot = Answered c.len.result }))
made c = let w = c.self.inside in let x = c.index_mut-seat.result.now in
    let here : w.out ≡ Some c.args.lane = c.in-Some.is ∙ ap (λ (n : ℕ). Some n) c.if-holder-lane.false in
    let at = out_here c.self.invariant here c.index_mut-seat.ensures.value in
    let call = c.in-Some-serving.call in let reply = c.serve.ensures.0 in
    let same : c.in-Some-take.call ≡ call =
    one_call c.in-Some-take.call call (sym c.in-Some-take.is ∙ (c.take.ensures.value ∙ c.in-Some-serving.is)) in
    let step : Step w.store (event_of call.lane call.moment call.ask reply) c.serve.new.store =
    subst (λ (v : Service). Step w.store (event_of call.lane v.moment v.ask reply) c.serve.new.store) same
    c.serve.ensures.1 in
    let longer : c.serve.new.log.items ≡ w.log.items ++ event_of call.lane call.moment call.ask reply ∷ [] =
    c.serve.ensures.2
    ∙ (λ j. c.copy_with_room.ensures.same j ++ event_of call.lane (same j).moment (same j).ask reply ∷ []) in
    let size : c.len.result ≡ length w.log.items =
    c.len.ensures ∙ c.copy_with_room.new.log.ok.0 ∙ ap length c.copy_with_room.ensures.same in
    let y : Lane = record x { checked = c.push_reserved.new.self; done = c.is_done-seat.result } in
    let k = c.self.invariant.served call c.in-Some-serving.is in
    let there : get_elem? (set w.lanes.items c.args.lane y) call.lane ≡ some c.index_mut.result.now =
    lane_here (set w.lanes.items c.args.lane y) call.lane c.index_mut.result.now
    (subst (λ (n : ℕ). call.lane < n) (sym (length-set w.lanes.items c.args.lane y))
    (in_bounds w.lanes.items call.lane k.0 k.1)) c.index_mut.ensures.value in
    moves c.self.invariant c.args.lane c.self.view_is at Answer (answers_at c.args.lane c.self.invariant at call reply
    c.push_reserved.new.self c.is_done-seat.result c.index_mut.result.now here c.in-Some-serving.is
    (c.push_reserved.ensures.items ∙ ap (λ (l : List ℕ). l ++ call.lane ∷ []) c.reserve.ensures.items)
    c.is_done-seat.ensures there c.serve.new.store c.take.new.self c.serve.new.log.items c.len.result step
    c.take.ensures.after longer size)

pub invariant_of-self-2 : goal.invariant_of-self-2
invariant_of-self-2 c = (made c).0

pub returns-clause-moved : goal.returns-clause-moved
returns-clause-moved c = (made c).1
