use Rattle.std.proofs.Common.{◌∙◌, ap, length, nat_cmp, subst}
use Rattle.std.specs.{List.Sorted.IsStrictlySortedBy, Map.keys_of}
use Rattle.krs_keys.specs.Table.{Keys}
use Rattle.krs_keys.proofs.PlacesLemmas.{rises_in_slots}
use Rattle.krs_keys.proofs.key_table.KeyTable.len.Goals as goal

pub returns-clause-len : goal.returns-clause-len
returns-clause-len c = c.len.ensures ∙ ap (λ t. length t.keys) c.self.view_is

pub returns-clause-ordered : goal.returns-clause-ordered
returns-clause-ordered c =
    subst (λ (t : Keys). IsStrictlySortedBy nat_cmp (keys_of t.keys)) c.self.view_is
    (rises_in_slots c.self.inside.keys.slots.slots c.self.inside.keys.places.entries)
