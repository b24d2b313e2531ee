use Rattle.krs_model.proofs.Hiding.Readers.{reads_by_right}
use Rattle.krs_store.proofs.store.Store.keys_are_read_by_right.Goals as goal

pub returns : goal.returns
returns c = reads_by_right _
