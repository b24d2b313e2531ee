use Rattle.std.proofs.Common.{◌∙◌, ◌≡◌, ap, arith, cond, option_to_list, sym}
use Rattle.krs_hold.specs.Tally.{times}
use Rattle.krs_tables.proofs.OutOfReach.{attached_once}
use Rattle.krs_tables.proofs.apart.less_one.Goals as goal

pub returns-then-is_of : goal.returns-then-is_of
returns-then-is_of c =
    let one : times c.args.serial (option_to_list c.args.attached) ≡ 1 =
    attached_once c.args.serial c.args.attached ∙ ap (λ b. cond b 1 0) (sym c.is_of.ensures ∙ c.if-is_of.true) in
    let less = c.saturating_sub.ensures in
    omega (arith, one, less)

pub returns : goal.returns
returns c =
    let none : times c.args.serial (option_to_list c.args.attached) ≡ 0 =
    attached_once c.args.serial c.args.attached ∙ ap (λ b. cond b 1 0) (sym c.is_of.ensures ∙ c.if-is_of.false) in
    omega (arith, none)
