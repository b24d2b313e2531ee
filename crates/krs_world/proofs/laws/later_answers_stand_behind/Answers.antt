use Rattle.krs_world.proofs.Between.{collected_between, posted_between}
use Rattle.krs_world.proofs.laws.later_answers_stand_behind.Goals as goal

pub returns-clause-answered : goal.returns-clause-answered
returns-clause-answered c = posted_between

pub returns-clause-collected : goal.returns-clause-collected
returns-clause-collected c = collected_between
