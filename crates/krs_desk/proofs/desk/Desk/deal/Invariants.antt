use Rattle.std.proofs.Common.{[], ◌≡◌, false, length, vec_capacity}
use Rattle.krs_world.specs.{Knowing.view, declared.view.Standing.TheVariants.Opening}
use Rattle.krs_desk.specs.{Parts.sight, Sitting.fresh_seats}
use Rattle.krs_desk.proofs.desk.Desk.deal.Given as goal

abbrev pub invariant-loop-lane : goal.invariant-loop-lane
invariant-loop-lane l = record {
  table : l.opener.table_id ≡ l.initial.opener.table_id;
  opens : l.opener.me ≡ (sight (view l.about.value (Opening l.lane)) false, []);
  room : vec_capacity l.seats ≡ vec_capacity l.initial.seats;
  count : length l.seats.items ≡ l.lane;
  dealt : l.seats.items ≡ fresh_seats l.self l.about.value l.lane;
}
