use Rattle.std.proofs.Common.{take}
use Rattle.krs_keys.specs.{Keys.AreFit, Places.{HavePlaces, in_slots}}
use Rattle.krs_keys.proofs.RingsLemmas.{AreUnlinked}
use Rattle.krs_keys.proofs.slots.unlink_all.Given as goal

-- each serial has its place still, each link its key's name, and the keyrings so far are without the key
abbrev pub invariant-loop-ring : goal.invariant-loop-ring
invariant-loop-ring l = record {
  places : HavePlaces l.slots.slots l.places.entries;
  fit : AreFit (in_slots l.slots.slots l.places.entries);
  unlinked : AreUnlinked l.serial (take l.ring-index l.rings) (in_slots l.fn.slots.slots l.places.entries)
      (in_slots l.slots.slots l.places.entries);
}
