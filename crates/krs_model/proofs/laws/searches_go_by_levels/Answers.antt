use Rattle.krs_model.proofs.Reach.Searches.{found_is_first, refused_faults, refused_has_none}
use Rattle.krs_model.proofs.laws.searches_go_by_levels.Goals as goal

pub returns-clause-found : goal.returns-clause-found
returns-clause-found c = found_is_first

pub returns-clause-refused : goal.returns-clause-refused
returns-clause-refused c = refused_has_none

pub returns-clause-fault : goal.returns-clause-fault
returns-clause-fault c = refused_faults
