use Rattle.std.proofs.Common.{arith}
use Rattle.std.proofs.lemmas.List.{take_rest}
use Rattle.krs_wire.proofs.CutLemmas.{past_front}
use Rattle.krs_wire.proofs.feed.drop_front.Goals as goal
use Rattle.std.proofs.lemmas.Grind.{common_steps}

pub returns : goal.returns
returns c = grind (arith, common_steps, take_rest, past_front)
