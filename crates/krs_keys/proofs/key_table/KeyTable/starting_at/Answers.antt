use Rattle.std.proofs.Common.{rules}
use Rattle.krs_keys.proofs.key_table.KeyTable.starting_at.Goals as goal

pub returns : goal.returns
returns c = search rules
