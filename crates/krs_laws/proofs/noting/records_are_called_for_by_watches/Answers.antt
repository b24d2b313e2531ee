use Rattle.krs_laws.proofs.Callers.{all_called}
use Rattle.krs_laws.proofs.noting.records_are_called_for_by_watches.Goals as goal

pub returns : goal.returns
returns c = all_called
