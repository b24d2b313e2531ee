use Rattle.krs_model.proofs.Hiding.Sets.{alike, bare, hides}
use Rattle.krs_model.proofs.secrets.payloads_of_any_keys_may_be_hidden.Goals as goal

pub returns : goal.returns
returns c = record { lawful = hides; alike = alike; others = bare }
