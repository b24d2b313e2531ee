use Rattle.krs_laws.proofs.Dropping.{short_drop_one}
use Rattle.krs_laws.proofs.marks.short_asks_drop_one_key_at_most.Goals as goal

pub returns : goal.returns
returns c = short_drop_one
