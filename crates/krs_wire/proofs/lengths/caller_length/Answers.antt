use Rattle.std.proofs.Common.{ap, arith, length}
use Rattle.krs_wire.proofs.CountLemmas.{length_numbers}
use Rattle.krs_wire.proofs.lengths.caller_length.Goals as goal

pub returns : goal.returns
returns c = omega (arith, length_numbers c.args.caller.now.groups, ap length c.as_slice.ensures)
