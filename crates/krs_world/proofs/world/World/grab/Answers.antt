use Rattle.std.proofs.Common.{◌∙◌, ◌≡◌, ap, set, Some, sym, ℕ}
use lib.ListN.{get_elem?}
use mathlib.Core.Option.{some, some-injective}
use Rattle.krs_world.specs.{Knowing.service, declared.{lane.Lane.Lane, step.Kind.TheVariants.Grab}}
use Rattle.krs_world.specs.declared.view.Cell.TheVariants.{Posted}
use Rattle.krs_world.proofs.Answering.{busy, Comes, lane_at, lanes_same, moves, moves_not, no_cell}
use Rattle.krs_world.proofs.{KeptHistory.out_at, ServedMoves.{grabs_at, no_grab}}
use Rattle.krs_world.proofs.world.World.grab.Goals as goal

pub returns-in_default-serving : goal.returns-in_default-serving
returns-in_default-serving c = busy c.self.invariant c.args.lane c.self.view_is
    (Grab c.args.other) c.in_default-serving.not-None (λ p other steps. steps.0)

pub returns-in_default-get : goal.returns-in_default-get
returns-in_default-get c = no_cell c.self.invariant c.args.lane c.self.view_is
    c.deref.result.now c.args.other (Grab c.args.other) c.deref.ensures.value c.in_default-get.ensures.lookup.3
    (λ p new steps. (Posted steps.1 steps.2, steps.3))

pub returns-in_default-slot : goal.returns-in_default-slot
returns-in_default-slot c = let w = c.self.inside in let z = c.in-Some-get.posted.now in
    let x = out_at c.self.invariant (c.in-Some.is ∙ ap (λ (n : ℕ). Some n) (sym c.if-lane-holder.false)) in
    let there : get_elem? w.lanes.items c.args.other ≡ some z =
    lane_at w.lanes.items c.deref.result.now c.args.other z c.deref.ensures.value c.in-Some-get.ensures.lookup.0
    c.in-Some-get.ensures.lookup.1 in
    moves_not c.self.invariant c.args.lane c.self.view_is (Grab c.args.other)
    (λ p new e steps. no_grab c.args.lane c.self.invariant x.1
    c.args.other (λ y m ask found is. c.in_default-slot.not-Posted m ask
    (ap (λ (l : Lane). l.slot) (some-injective z y (sym there ∙ found)) ∙ is)) p new steps)

-- the holder serves the call
made : (c : goal.Joined-self-3) → Comes c.args.self.now c.args.lane (Grab c.args.other) c.self.inside.store
    c.self.inside.out
    (Some (service c.args.other c.in-Posted-replace.moment c.in-Posted-replace.ask)) c.self.inside.log.items
    (set c.self.inside.lanes.items c.args.other (record c.index_mut.result.now { slot = c.replace.new.dest }))
made c = let w = c.self.inside in let here : w.out ≡ Some c.args.lane =
    c.in-Some.is ∙ ap (λ (n : ℕ). Some n) (sym c.if-lane-holder.false) in
    let x = out_at c.self.invariant here in
    let t = lanes_same w.lanes.items c.deref.result.now c.args.other c.in-Some-get.posted.now c.index_mut.result.now
    c.deref.ensures.value c.in-Some-get.ensures.lookup.0 c.in-Some-get.ensures.lookup.1 c.index_mut.ensures.value in
    moves c.self.invariant c.args.lane c.self.view_is x.1 (Grab c.args.other)
    (grabs_at c.args.lane c.self.invariant x.1 c.args.other
    c.index_mut.result.now c.in-Posted-replace.moment c.in-Posted-replace.ask c.replace.new.dest here c.in-None.is t.0
    (sym c.replace.ensures.value ∙ c.in-Posted-replace.is) c.replace.ensures.after)

pub invariant_of-self : goal.invariant_of-self
invariant_of-self c = (made c).0

pub returns : goal.returns
returns c = (made c).1
