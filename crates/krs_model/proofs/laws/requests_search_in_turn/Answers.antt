use Rattle.krs_model.proofs.Reach.Searches.{request_in_turn}
use Rattle.krs_model.proofs.laws.requests_search_in_turn.Goals as goal

pub returns : goal.returns
returns c = request_in_turn
