use Rattle.krs_model.proofs.Hiding.Clients.{blinded_alike, differ_in_reads, ends_alike}
use Rattle.krs_model.proofs.secrets.hidden_payloads_flow_nowhere.Goals as goal

pub returns : goal.returns
returns c = record { replies = blinded_alike; reads = differ_in_reads; ends = ends_alike }
