use Rattle.std.proofs.Common.{refl}
use Rattle.krs_rows.specs.Answers.{each_definition}
use Rattle.krs_rows.proofs.rows.rows_of_keys.Goals as goal

pub returns-clause-alpha : goal.returns-clause-alpha
unfolding each_definition
returns-clause-alpha c = refl

pub returns-clause-longest_texts : goal.returns-clause-longest_texts
unfolding each_definition
returns-clause-longest_texts c = refl

pub returns-clause-logon_keys : goal.returns-clause-logon_keys
unfolding each_definition
returns-clause-logon_keys c = refl

pub returns-clause-one_class_byte : goal.returns-clause-one_class_byte
unfolding each_definition
returns-clause-one_class_byte c = refl

pub returns-clause-timeouts : goal.returns-clause-timeouts
unfolding each_definition
returns-clause-timeouts c = refl

pub returns-clause-revoked_keys : goal.returns-clause-revoked_keys
unfolding each_definition
returns-clause-revoked_keys c = refl

pub returns-clause-timeouts_owners_masks : goal.returns-clause-timeouts_owners_masks
unfolding each_definition
returns-clause-timeouts_owners_masks c = refl

pub returns-clause-revoked_before_expired : goal.returns-clause-revoked_before_expired
unfolding each_definition
returns-clause-revoked_before_expired c = refl

pub returns-clause-owners : goal.returns-clause-owners
unfolding each_definition
returns-clause-owners c = refl

pub returns-clause-reading_by_possession : goal.returns-clause-reading_by_possession
unfolding each_definition
returns-clause-reading_by_possession c = refl

pub returns-clause-adding_over : goal.returns-clause-adding_over
unfolding each_definition
returns-clause-adding_over c = refl
