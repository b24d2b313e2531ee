use Rattle.std.proofs.Common.{refl, subst, sym}
use Rattle.krs_model.specs.Table.{Table}
use Rattle.krs_keys.specs.{Keys.without_key, Places.{AreRings, by_place}, declared.key.Key.Key}
use Rattle.krs_keys.proofs.RingsLemmas.{rings_alter}
use Rattle.krs_keys.proofs.placed.PlacedKeys.unlink.Goals as goal

pub returns-clause-placed : goal.returns-clause-placed
returns-clause-placed c = record {
  places = c.unlink_in.ensures.places;
  rings = subst (λ (t : Table Key). AreRings t c.args.self.now.rings.keys) (sym c.unlink_in.ensures.keys)
      (rings_alter (by_place c.args.self.now) c.args.self.now.rings.keys c.args.ring (without_key c.args.serial)
      (λ v. refl) c.requires.placed.rings);
}
