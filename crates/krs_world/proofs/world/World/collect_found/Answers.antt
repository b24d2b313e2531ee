use Rattle.std.proofs.Common.{◌≡◌, Bool, not, subst, sym, true}
use lib.ListN.{get_elem?}
use mathlib.Core.Option.{some}
use Rattle.krs_world.specs.{World.{MovesBy, World}, declared.step.Kind.TheVariants.CollectFound}
use Rattle.krs_world.proofs.{Answering.{lane_at, moves, moves_not, none_there}, PostedMoves.{finds, no_finds}}
use Rattle.krs_world.proofs.world.World.collect_found.Goals.{in-Answered, in_default-matches}
use Rattle.krs_world.proofs.world.World.collect_found.Goals as goal

pub returns-in_default : goal.returns-in_default
returns-in_default c = none_there c.self.invariant c.args.lane c.self.view_is
    c.deref.result.now CollectFound c.deref.ensures.value c.in_default.ensures.lookup.3

pub returns : goal.returns
returns c = let w = c.self.inside in let x = c.in-Some.seat.now in
    let at : get_elem? w.lanes.items c.args.lane ≡ some x =
    lane_at w.lanes.items c.deref.result.now c.args.lane x c.deref.ensures.value c.in-Some.ensures.lookup.0
    c.in-Some.ensures.lookup.1 in
    elim c.match-matches.branch [
      | in-Answered y ↦ subst (λ (b : Bool). MovesBy c.args.self.now c.args.lane CollectFound (not b) c.args.self.now)
          (sym y.matches-is) (moves_not c.self.invariant c.args.lane c.self.view_is CollectFound
          (no_finds c.args.lane c.self.invariant at _ y.in-Answered.is))
      | in_default-matches y ↦ subst (λ (b : Bool). MovesBy c.args.self.now c.args.lane CollectFound (not b)
          c.args.self.now)
          (sym y.matches-is) (subst (λ (z : World). MovesBy c.args.self.now c.args.lane CollectFound true z)
          c.self.view_is (moves c.self.invariant c.args.lane c.self.view_is at CollectFound (
            c.self.invariant,
            finds c.args.lane c.self.invariant at y.in_default-matches.not-Answered,
          )).1)
    ]
