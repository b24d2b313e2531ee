use Rattle.krs_ctx.proofs.MembersLemmas.{first_listed, nothing_listed}
use Rattle.krs_ctx.proofs.members.Members.first.Goals as goal
use Rattle.std.proofs.Common.{arith}
use Rattle.std.proofs.lemmas.Grind.{common_steps}

pub returns-in-Some-clause-listed : goal.returns-in-Some-clause-listed
returns-in-Some-clause-listed c = grind (arith, common_steps, first_listed)

pub returns-in-None-clause-none : goal.returns-in-None-clause-none
returns-in-None-clause-none c = grind (arith, common_steps, nothing_listed)
