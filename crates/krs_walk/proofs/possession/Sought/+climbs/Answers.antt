use Rattle.std.proofs.Common.{◌+◌, ◌-◌, ◌≤◌, arith}
use Rattle.krs_walk.specs.Seeking.{heads, links_it, nested}
use Rattle.krs_walk.proofs.HintLemmas.{from_nested, within_more}
use Rattle.krs_walk.proofs.possession.Sought.+climbs.Goals as goal

pub returns-then-is_reached : goal.returns-then-is_reached
returns-then-is_reached t c = λ _ depth linked.
    let s = c.args.self.now in
    let up : depth + 1 ≤ depth + (c.args.others + 1) = omega arith in
    within_more (links_it s) (nested s) (heads s) (depth + 1) (depth + (c.args.others + 1)) up
    (c.is_reached.ensures c.if-is_reached.true depth linked)

pub returns-in-Some : goal.returns-in-Some
returns-in-Some t c = λ climbed depth linked.
    let s = c.args.self.now in
    let higher = depth + 1 + (c.args.others - 1 + 1) in
    let up : depth + 1 + (c.args.others - 1 + 1) ≤ depth + (c.args.others + 1) = omega (arith, c.if-others-eq0.false) in
    within_more (links_it s) (nested s) (heads s) higher (depth + (c.args.others + 1)) up
    (c.climbs.ensures climbed (depth + 1)
    (from_nested (links_it s) (nested s) c.in-Some.above c.args.ring depth c.in-Some.ensures linked))
