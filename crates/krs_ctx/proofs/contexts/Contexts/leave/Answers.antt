use Rattle.std.proofs.Common.{◌==◌, arith, not}
use Rattle.krs_ctx.proofs.LeavingLemmas.{ended_fewer, leaving_one, left_idle, whole_left}
use Rattle.krs_ctx.proofs.contexts.Contexts.leave.Goals as goal
use Rattle.std.proofs.lemmas.Grind.{common_steps}

pub ending-preserved : goal.ending-preserved
ending-preserved c =
    leaving_one c.args.client c.args.self.now c.ending.self _ c.in-Some.number c.ending.invariant
    c.in-Some.ensures.there c.end.ensures

pub ending-smaller : goal.ending-smaller
ending-smaller c =
    ended_fewer c.ending.self c.end.new.self c.in-Some.number (λ e. not (e.1.client == c.args.client))
    c.in-Some.ensures.there c.end.ensures

pub returns-then-not-is_whole : goal.returns-then-not-is_whole
returns-then-not-is_whole c =
    left_idle c.args.client c.args.self.now c.ending.self c.end_idle.new.self c.ending.invariant
    c.in_default.ensures.none c.end_idle.ensures

pub returns-else-not-is_whole : goal.returns-else-not-is_whole
returns-else-not-is_whole c = grind (arith, common_steps, whole_left)
