use Rattle.std.proofs.Common.{◌∷◌, ◌≡◌, replicate, vec_capacity}
use Rattle.krs_desk.specs.declared.slot.SlotValue.TheVariants.{Empty, Home}
use Rattle.krs_desk.proofs.desk.Desk.open_within.Given as goal

abbrev pub invariant-loop : goal.invariant-loop
invariant-loop l = record {
  room : vec_capacity l.slots ≡ vec_capacity l.initial.slots;
  items : l.slots.items ≡ Home l.about.value ∷ replicate l.counter Empty;
}
