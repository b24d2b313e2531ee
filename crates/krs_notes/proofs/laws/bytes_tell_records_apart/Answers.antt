use Rattle.krs_model.proofs.Notes.Bytes.{spelled_once}
use Rattle.krs_notes.proofs.SpellingLemmas.{each_is_spelled, none_begins_another, one_spelling}
use Rattle.krs_notes.proofs.laws.bytes_tell_records_apart.Goals as goal

pub returns-clause-spelled : goal.returns-clause-spelled
returns-clause-spelled c = each_is_spelled

pub returns-clause-one_spelling : goal.returns-clause-one_spelling
returns-clause-one_spelling c = one_spelling

pub returns-clause-apart : goal.returns-clause-apart
returns-clause-apart c = none_begins_another

pub returns-clause-lists : goal.returns-clause-lists
returns-clause-lists c = spelled_once
