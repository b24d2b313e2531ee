use Rattle.std.proofs.{Common.arith, lemmas.Grind.common_steps}
use Rattle.krs_commands.proofs.keyrings.move_link.Goals as goal

pub returns-in_err-key : goal.returns-in_err-key
returns-in_err-key c = grind (arith, common_steps)

pub returns-in_err-from : goal.returns-in_err-from
returns-in_err-from c = grind (arith, common_steps)

pub returns-in_err-to : goal.returns-in_err-to
returns-in_err-to c = grind (arith, common_steps)

pub returns-in_err-flags : goal.returns-in_err-flags
returns-in_err-flags c = grind (arith, common_steps)

pub returns : goal.returns
returns c = grind (arith, common_steps)
