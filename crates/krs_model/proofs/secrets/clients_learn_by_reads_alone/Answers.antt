use Rattle.krs_model.proofs.Hiding.Told.{tells_by_reads_alone}
use Rattle.krs_model.proofs.secrets.clients_learn_by_reads_alone.Goals as goal

pub returns : goal.returns
returns c = tells_by_reads_alone
