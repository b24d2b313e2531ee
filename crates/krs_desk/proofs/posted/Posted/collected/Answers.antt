use Rattle.std.proofs.Common.{false, rules}
use Rattle.krs_desk.proofs.Calls.{called_collected, waits_helped, waits_still}
use Rattle.krs_desk.proofs.posted.Posted.collected.Goals as goal

pub returns-in-Some-clause-some : goal.returns-in-Some-clause-some
returns-in-Some-clause-some c = λ s moment ask w.
    called_collected false w c.in-Some.ensures.some (search rules)

pub returns-in-Some-collect-clause-some : goal.returns-in-Some-collect-clause-some
returns-in-Some-collect-clause-some c = λ s moment ask w.
    called_collected false
    (waits_helped c.args.desk.now s c.collect.new.seat c.help-helped.new.seat moment ask c.help-helped.result
    (waits_still c.args.desk.now s c.args.self.now.seat.now c.collect.new.seat moment ask w (search rules))
    c.help-helped.ensures.helped)
    c.in-Some-collect.ensures.some (search rules)
