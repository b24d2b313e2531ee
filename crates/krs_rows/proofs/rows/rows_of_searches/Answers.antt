use Rattle.std.proofs.Common.{refl}
use Rattle.krs_rows.specs.Answers.{each_definition}
use Rattle.krs_rows.proofs.rows.rows_of_searches.Goals as goal

pub returns-clause-nearest_match : goal.returns-clause-nearest_match
unfolding each_definition
returns-clause-nearest_match c = refl

pub returns-clause-search_depth : goal.returns-clause-search_depth
unfolding each_definition
returns-clause-search_depth c = refl

pub returns-clause-requests_in_turn : goal.returns-clause-requests_in_turn
unfolding each_definition
returns-clause-requests_in_turn c = refl

pub returns-clause-faults_of_a_search : goal.returns-clause-faults_of_a_search
unfolding each_definition
returns-clause-faults_of_a_search c = refl

pub returns-clause-keyrings_that_are_not_entered : goal.returns-clause-keyrings_that_are_not_entered
unfolding each_definition
returns-clause-keyrings_that_are_not_entered c = refl

pub returns-clause-possession : goal.returns-clause-possession
unfolding each_definition
returns-clause-possession c = refl

pub returns-clause-found_and_linked : goal.returns-clause-found_and_linked
unfolding each_definition
returns-clause-found_and_linked c = refl
