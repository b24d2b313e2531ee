use Rattle.krs_context_asks.proofs.LeftStates.{exit_fewer, exit_keeps, none_ended}
use Rattle.krs_context_asks.proofs.leaving.end_contexts.Goals as goal
use Rattle.std.proofs.Common.{arith}
use Rattle.std.proofs.lemmas.Grind.{common_steps}

pub ending-init : goal.ending-init
ending-init c = none_ended c.args.client c.args.tables.now

pub ending-preserved-in-Some : goal.ending-preserved-in-Some
ending-preserved-in-Some c =
    exit_keeps c.args.client c.in-Some.number c.args.tables.now c.ending.tables c.exit.new.tables c.exit.result
    c.ending.invariant c.in-Some.ensures.there c.exit.ensures.step c.exit.ensures.memory

pub ending-smaller-in-Some : goal.ending-smaller-in-Some
ending-smaller-in-Some c = grind (arith, common_steps, exit_fewer)

pub ending-preserved-in-Some-2 : goal.ending-preserved-in-Some-2
ending-preserved-in-Some-2 c =
    exit_keeps c.args.client c.in-Some.number c.args.tables.now c.ending.tables c.exit.new.tables c.exit.result
    c.ending.invariant c.in-Some.ensures.there c.exit.ensures.step c.exit.ensures.memory

pub ending-smaller-in-Some-2 : goal.ending-smaller-in-Some-2
ending-smaller-in-Some-2 c = grind (arith, common_steps, exit_fewer)

pub ending-smaller : goal.ending-smaller
ending-smaller c = grind (arith, common_steps, exit_fewer)
