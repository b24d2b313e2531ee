use Rattle.std.proofs.Common.{option_map, string_bytes}
use Rattle.krs_listen.proofs.choice.choice_of.Goals as goal

pub returns-in-Err-clause-told : goal.returns-in-Err-clause-told
returns-in-Err-clause-told c = rw c.in-Err.is (option_map string_bytes c.ok.result, c.told.ensures)
