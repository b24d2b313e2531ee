use Rattle.std.proofs.Common.{refl}
use Rattle.krs_rows.specs.Answers.{each_definition}
use Rattle.krs_rows.proofs.rows.rows_of_records.Goals as goal

pub returns-clause-removals : goal.returns-clause-removals
unfolding each_definition
returns-clause-removals c = refl

pub returns-clause-watch_ids : goal.returns-clause-watch_ids
unfolding each_definition
returns-clause-watch_ids c = refl

pub returns-clause-loss : goal.returns-clause-loss
unfolding each_definition
returns-clause-loss c = refl

pub returns-clause-loss_in_one_read : goal.returns-clause-loss_in_one_read
unfolding each_definition
returns-clause-loss_in_one_read c = refl

pub returns-clause-invalidation : goal.returns-clause-invalidation
unfolding each_definition
returns-clause-invalidation c = refl

pub returns-clause-filters : goal.returns-clause-filters
unfolding each_definition
returns-clause-filters c = refl

pub returns-clause-keyring_notes : goal.returns-clause-keyring_notes
unfolding each_definition
returns-clause-keyring_notes c = refl

pub returns-clause-notes_of_each_ask : goal.returns-clause-notes_of_each_ask
unfolding each_definition
returns-clause-notes_of_each_ask c = refl

pub returns-clause-revocation_notes : goal.returns-clause-revocation_notes
unfolding each_definition
returns-clause-revocation_notes c = refl

pub returns-clause-removals_by_key : goal.returns-clause-removals_by_key
unfolding each_definition
returns-clause-removals_by_key c = refl

pub returns-clause-queues_at_most : goal.returns-clause-queues_at_most
unfolding each_definition
returns-clause-queues_at_most c = refl
