use Rattle.krs_keys.proofs.{KindsLemmas.{keyless_kind, kinds_alter}, Unlinking.{fit-keyless, shown-keyless}}
use Rattle.krs_tables.proofs.{Links.linked_told, OwedHolders.unlinked_tallied}
use Rattle.krs_ring_asks.proofs.linking.take_link.Goals as goal
use Rattle.std.proofs.Common.{arith}
use Rattle.std.proofs.lemmas.Grind.{common_steps}

pub returns-then-not-unlink : goal.returns-then-not-unlink
returns-then-not-unlink c = grind (arith, common_steps, linked_told)

pub invariant_of-tables : goal.invariant_of-tables
invariant_of-tables c = rw (c.unlink.ensures.stays c.if-not-unlink.true) c.tables.invariant

pub invariant_of-tables-2 : goal.invariant_of-tables-2
invariant_of-tables-2 c =
    grind (arith, common_steps, fit-keyless, kinds_alter, keyless_kind, unlinked_tallied, linked_told)

pub returns : goal.returns
returns c = grind (arith, common_steps, linked_told, shown-keyless)
