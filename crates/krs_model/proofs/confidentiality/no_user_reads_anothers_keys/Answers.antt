use Rattle.krs_model.proofs.Isolation.Histories.{end_alone, keeps_from_nothing, keeps_to_itself}
use Rattle.krs_model.proofs.confidentiality.no_user_reads_anothers_keys.Goals as goal

pub returns-clause-sound : goal.returns-clause-sound
returns-clause-sound c = keeps_to_itself

pub returns-clause-kept : goal.returns-clause-kept
returns-clause-kept c = end_alone

pub returns-clause-empty : goal.returns-clause-empty
returns-clause-empty c = keeps_from_nothing
