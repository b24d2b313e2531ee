use Rattle.std.proofs.Common.{◌∙◌, ap, refl, subst, sym}
use Rattle.krs_model.specs.Table.{Table}
use Rattle.krs_keys.specs.{Keys.without_key, Places.{AreRings, by_place, is_among}, declared.key.Key.Key}
use Rattle.krs_keys.proofs.RingsLemmas.{rings_map}
use Rattle.krs_keys.proofs.placed.PlacedKeys.unlink_all.Goals as goal

pub unlink_all-requires-clause-rings : goal.unlink_all-requires-clause-rings
unlink_all-requires-clause-rings c q =
    ap (λ rings. is_among rings q) c.as_slice.ensures.keys ∙ c.requires.placed.rings q

pub returns-clause-placed : goal.returns-clause-placed
returns-clause-placed c = record {
  places = c.unlink_all.ensures.places;
  rings = subst (λ (t : Table Key). AreRings t c.args.self.now.rings.keys) (sym c.unlink_all.ensures.keys)
      (rings_map (by_place c.args.self.now) c.args.self.now.rings.keys (without_key c.args.serial) (λ v. refl)
      c.requires.placed.rings);
}
