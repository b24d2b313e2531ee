use Rattle.std.proofs.Common.{refl}
use Rattle.krs_rows.specs.Answers.{each_definition}
use Rattle.krs_rows.proofs.rows.rows_of_keyrings.Goals as goal

pub returns-clause-cycles : goal.returns-clause-cycles
unfolding each_definition
returns-clause-cycles c = refl

pub returns-clause-nesting : goal.returns-clause-nesting
unfolding each_definition
returns-clause-nesting c = refl

pub returns-clause-displacement : goal.returns-clause-displacement
unfolding each_definition
returns-clause-displacement c = refl

pub returns-clause-keyring_refusals : goal.returns-clause-keyring_refusals
unfolding each_definition
returns-clause-keyring_refusals c = refl

pub returns-clause-revoked_keyring : goal.returns-clause-revoked_keyring
unfolding each_definition
returns-clause-revoked_keyring c = refl

pub returns-clause-order_of_a_link : goal.returns-clause-order_of_a_link
unfolding each_definition
returns-clause-order_of_a_link c = refl

pub returns-clause-order_of_an_unlink : goal.returns-clause-order_of_an_unlink
unfolding each_definition
returns-clause-order_of_an_unlink c = refl

pub returns-clause-closed : goal.returns-clause-closed
unfolding each_definition
returns-clause-closed c = refl

pub returns-clause-moves : goal.returns-clause-moves
unfolding each_definition
returns-clause-moves c = refl

pub returns-clause-order_of_a_move : goal.returns-clause-order_of_a_move
unfolding each_definition
returns-clause-order_of_a_move c = refl
