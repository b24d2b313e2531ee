use Rattle.std.proofs.Common.{◌<◌, ◌∙◌, ◌≡◌, ap, false, None, set, Some, subst, sym, ℕ}
use Rattle.krs_world.specs.declared.step.Kind.TheVariants.{Put}
use Rattle.krs_world.proofs.{Answering.{busy, Comes, moves, out_here}, KeptHistory.out_within, Moves.puts_none}
use Rattle.krs_world.proofs.world.World.put_none.Goals as goal

pub returns-in_default-serving : goal.returns-in_default-serving
returns-in_default-serving c = busy c.self.invariant c.args.lane c.self.view_is
    (Put None) c.in_default-serving.not-None (λ p other steps. steps.0)

pub index_mut-seat-requires : goal.index_mut-seat-requires
index_mut-seat-requires c = let w = c.self.inside in
    subst (λ (n : ℕ). c.args.lane < n) (sym w.lanes.ok.0) (out_within c.self.invariant
    (c.in-Some.is ∙ ap (λ (n : ℕ). Some n) c.if-holder-lane.false))

-- the store is brought home
made : (c : goal.After-self-2-1) → Comes c.args.self.now c.args.lane (Put None) c.self.inside.store None
    c.self.inside.serving c.self.inside.log.items (set c.self.inside.lanes.items c.args.lane
    (record c.index_mut-seat.result.now { seen = c.len-seat.result; holding = false }))
made c = let w = c.self.inside in
    let here : w.out ≡ Some c.args.lane = c.in-Some.is ∙ ap (λ (n : ℕ). Some n) c.if-holder-lane.false in
    let at = out_here c.self.invariant here c.index_mut-seat.ensures.value in
    moves c.self.invariant c.args.lane c.self.view_is at (Put None)
    (puts_none c.args.lane c.self.invariant at c.len-seat.result here c.in-None.is (c.len-seat.ensures ∙ w.log.ok.0))

pub invariant_of-self : goal.invariant_of-self
invariant_of-self c = (made c).0

pub returns : goal.returns
returns c = (made c).1
