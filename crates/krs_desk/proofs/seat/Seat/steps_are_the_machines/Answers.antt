use Rattle.krs_desk.proofs.{Adding.steps_as_named, Agreeing.{one_world, some_world}, Happening.steps_happen}
use Rattle.krs_desk.proofs.{Leading.{begins_as, follows_steps, runs_as}, Making.steps_as}
use Rattle.krs_desk.proofs.seat.Seat.steps_are_the_machines.Goals as goal

pub returns-clause-named : goal.returns-clause-named
returns-clause-named c = steps_as_named _

pub returns-clause-world : goal.returns-clause-world
returns-clause-world c = some_world _

pub returns-clause-one : goal.returns-clause-one
returns-clause-one c = one_world _

pub returns-clause-steps : goal.returns-clause-steps
returns-clause-steps c = steps_as _

pub returns-clause-runs : goal.returns-clause-runs
returns-clause-runs c = runs_as _

pub returns-clause-begins : goal.returns-clause-begins
returns-clause-begins c = begins_as _

pub returns-clause-follows : goal.returns-clause-follows
returns-clause-follows c = follows_steps _

pub returns-clause-happens : goal.returns-clause-happens
returns-clause-happens c = steps_happen _
