use Rattle.krs_model.proofs.History.Belongings.{step_leaves}
use Rattle.krs_laws.proofs.{Belonging.{contexts_are, readers_are}, Opened.queues_are}
use Rattle.krs_desk.proofs.seat.Seat.contexts_are_their_clients.Goals as goal

pub returns-clause-left : goal.returns-clause-left
returns-clause-left c = step_leaves

pub returns-clause-contexts : goal.returns-clause-contexts
returns-clause-contexts c = contexts_are _

pub returns-clause-queues : goal.returns-clause-queues
returns-clause-queues c = queues_are _

pub returns-clause-readers : goal.returns-clause-readers
returns-clause-readers c = readers_are _
