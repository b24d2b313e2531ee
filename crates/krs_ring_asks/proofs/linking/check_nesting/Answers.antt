use Rattle.krs_model.specs.{Asks.{Linked.nestable}}
use Rattle.krs_tables.proofs.Links.{is_keyring}
use Rattle.krs_ring_asks.proofs.PayloadLinks.{payload_nests}
use Rattle.krs_ring_asks.proofs.linking.check_nesting.Goals as goal
use Rattle.std.proofs.Common.{arith}
use Rattle.std.proofs.lemmas.Grind.{common_steps}

pub would_cycle-requires-clause-ring : goal.would_cycle-requires-clause-ring
would_cycle-requires-clause-ring c = grind (arith, common_steps, is_keyring)

pub returns-in-Payload : goal.returns-in-Payload
returns-in-Payload c = grind (arith, common_steps, payload_nests)

pub returns : goal.returns
unfolding nestable
returns c = grind (arith, common_steps)
