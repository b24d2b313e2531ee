use Rattle.std.proofs.Common.{◌+◌, ◌∙◌, arith, List, None, refl, subst, sym}
use Rattle.krs_types.specs.declared.event.Event.{Event}
use Rattle.krs_model.specs.State.{State}
use Rattle.krs_world.specs.{Kept.{AreFreshLanes, IsKept}}
use Rattle.krs_world.proofs.Beginning.{fresh_more, new_is, new_kept}
use Rattle.krs_world.proofs.world.World.new.Goals as goal
use Rattle.std.proofs.lemmas.Grind.{common_steps}

pub loop-lane-preserved : goal.loop-lane-preserved
loop-lane-preserved c = record {
  room = c.push_reserved.ensures.capacity ∙ c.loop-lane.invariant.room;
  fresh = subst (AreFreshLanes (c.loop-lane.lane + 1)) (sym c.push_reserved.ensures.items)
      (fresh_more _ _ _ c.loop-lane.invariant.fresh record {
        lane = refl;
        seen = refl;
        base = refl;
        holding = refl;
        taken = refl;
        found = refl;
        after = refl;
        slot = refl;
        checked = c.new.ensures.items;
        done = refl;
      });
}

pub invariant_of-result : goal.invariant_of-result
invariant_of-result c = subst (λ (z : State × List Event). IsKept z.0 None None z.1 c.loop-lane.seats.items)
    (λ i. (sym c.new-2.ensures i, sym c.new-3.ensures.items i))
    (new_kept c.loop-lane.seats.items c.loop-lane.lane c.loop-lane.invariant.fresh)

pub returns : goal.returns
returns c = grind (arith, common_steps, new_is)
