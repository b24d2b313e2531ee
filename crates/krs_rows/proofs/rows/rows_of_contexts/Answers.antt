use Rattle.std.proofs.Common.{refl}
use Rattle.krs_rows.specs.Answers.{each_definition}
use Rattle.krs_rows.proofs.rows.rows_of_contexts.Goals as goal

pub returns-clause-contexts_of_processes : goal.returns-clause-contexts_of_processes
unfolding each_definition
returns-clause-contexts_of_processes c = refl

pub returns-clause-sessions_by_name : goal.returns-clause-sessions_by_name
unfolding each_definition
returns-clause-sessions_by_name c = refl

pub returns-clause-joined_as_others : goal.returns-clause-joined_as_others
unfolding each_definition
returns-clause-joined_as_others c = refl

pub returns-clause-contexts_at_most : goal.returns-clause-contexts_at_most
unfolding each_definition
returns-clause-contexts_at_most c = refl

pub returns-clause-callers : goal.returns-clause-callers
unfolding each_definition
returns-clause-callers c = refl

pub returns-clause-others_contexts : goal.returns-clause-others_contexts
unfolding each_definition
returns-clause-others_contexts c = refl

pub returns-clause-others_stay : goal.returns-clause-others_stay
unfolding each_definition
returns-clause-others_stay c = refl

pub returns-clause-last_link : goal.returns-clause-last_link
unfolding each_definition
returns-clause-last_link c = refl

pub returns-clause-last_context : goal.returns-clause-last_context
unfolding each_definition
returns-clause-last_context c = refl

pub returns-clause-last_of_a_process : goal.returns-clause-last_of_a_process
unfolding each_definition
returns-clause-last_of_a_process c = refl

pub returns-clause-leaving : goal.returns-clause-leaving
unfolding each_definition
returns-clause-leaving c = refl

pub returns-clause-invalidated : goal.returns-clause-invalidated
unfolding each_definition
returns-clause-invalidated c = refl

pub returns-clause-made_and_refused : goal.returns-clause-made_and_refused
unfolding each_definition
returns-clause-made_and_refused c = refl
