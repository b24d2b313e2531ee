use Rattle.krs_model.proofs.History.Revocations.{read_of_key, revoke_of_key}
use Rattle.krs_model.proofs.laws.revokes_and_reads_name_a_key.Goals as goal

pub returns-clause-revokes : goal.returns-clause-revokes
returns-clause-revokes c = revoke_of_key

pub returns-clause-reads : goal.returns-clause-reads
returns-clause-reads c = read_of_key
