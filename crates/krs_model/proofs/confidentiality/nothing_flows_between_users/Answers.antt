use Rattle.krs_model.proofs.Isolation.Flows.{tells_no_stranger}
use Rattle.krs_model.proofs.confidentiality.nothing_flows_between_users.Goals as goal

pub returns : goal.returns
returns c = tells_no_stranger
