use Rattle.std.proofs.Common.{arith, length-take}
use Rattle.krs_script.proofs.telling.push_quoted.Goals as goal

pub slice_bounds-front-end : goal.slice_bounds-front-end
slice_bounds-front-end c = let taken = length-take 64 c.args.word.now in grind arith
