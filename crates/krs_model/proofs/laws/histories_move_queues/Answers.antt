use Rattle.krs_model.proofs.History.Determined.{legal_moves, moves_legal, one_moves}
use Rattle.krs_model.proofs.laws.histories_move_queues.Goals as goal

pub returns-clause-some : goal.returns-clause-some
returns-clause-some c = legal_moves

pub returns-clause-one : goal.returns-clause-one
returns-clause-one c = one_moves

pub returns-clause-legal : goal.returns-clause-legal
returns-clause-legal c = moves_legal
