use Rattle.std.proofs.Common.{◌∙◌, ap, length}
use Rattle.krs_keys.specs.Places.{keyrings_in}
use Rattle.krs_keys.proofs.key_table.KeyTable.ring_count.Goals as goal

pub returns : goal.returns
returns c = c.ring_count.ensures ∙ ap (λ t. length (keyrings_in t.keys)) c.self.view_is
