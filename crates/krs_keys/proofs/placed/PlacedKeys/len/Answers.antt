use Rattle.std.proofs.Common.{◌∙◌, sym}
use Rattle.krs_keys.proofs.PlacesLemmas.{length_in_slots}
use Rattle.krs_keys.proofs.placed.PlacedKeys.len.Goals as goal

pub returns : goal.returns
returns c =
    c.len.ensures.len
    ∙ sym (length_in_slots c.args.self.now.slots.slots c.args.self.now.places.entries c.len.ensures.unique
    c.requires.places.holds)
