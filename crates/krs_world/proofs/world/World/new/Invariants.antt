use Rattle.std.proofs.Common.{◌≡◌, vec_capacity}
use Rattle.krs_world.specs.Kept.{AreFreshLanes}
use Rattle.krs_world.proofs.world.World.new.Given as goal

abbrev pub invariant-loop-lane : goal.invariant-loop-lane
invariant-loop-lane l = record {
  room : vec_capacity l.seats ≡ vec_capacity l.initial.seats;
  fresh : AreFreshLanes l.lane l.seats.items;
}
