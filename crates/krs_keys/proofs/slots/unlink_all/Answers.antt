use Rattle.std.proofs.Common.{subst, sym, take_all}
use Rattle.krs_keys.specs.{Keys.{AreFit, without_key}, Places.in_slots}
use Rattle.krs_keys.proofs.{PlacesLemmas.rises_in_slots, RingsLemmas.{all_unlinked, AreUnlinked, one_unlinked}}
use Rattle.krs_keys.proofs.{RisingTables.rises_map, Unlinking.fit-keyless}
use Rattle.krs_keys.proofs.slots.unlink_all.Goals as goal

pub loop-ring-preserved : goal.loop-ring-preserved
loop-ring-preserved c =
    let places = c.args.places.now.entries in
    record {
      places = c.unlink_in.ensures.places;
      fit = subst AreFit (sym c.unlink_in.ensures.keys)
          (fit-keyless c.args.serial (in_slots c.loop-ring.slots.slots places) _ c.loop-ring.invariant.fit);
      unlinked = one_unlinked c.args.serial c.args.rings.now c.loop-ring.ring-index 0
          (in_slots c.args.slots.now.slots places) (in_slots c.loop-ring.slots.slots places)
          (in_slots c.unlink_in.new.slots.slots places) c.loop-ring-test.true
          c.loop-ring.invariant.unlinked c.unlink_in.ensures.keys;
    }

pub returns-clause-keys : goal.returns-clause-keys
returns-clause-keys c =
    let places = c.args.places.now.entries in
    let old = in_slots c.args.slots.now.slots places in
    let new = in_slots c.loop-ring.slots.slots places in
    all_unlinked c.args.serial c.args.rings.now old new (rises_in_slots c.loop-ring.slots.slots places)
    (rises_map (without_key c.args.serial) old (rises_in_slots c.args.slots.now.slots places)) c.requires.rings
    c.requires.kinds
    (subst (λ rings. AreUnlinked c.args.serial rings old new) (take_all c.loop-ring.ring-index c.args.rings.now
    c.loop-ring-test.false) c.loop-ring.invariant.unlinked)
