use Rattle.std.proofs.Common.{take}
use Rattle.krs_model.specs.State.{starting_at}
use Rattle.krs_world.specs.Replay.{ReplaysTo}
use Rattle.krs_world.proofs.replay.replay_check.Given as goal

abbrev pub invariant-loop-event : goal.invariant-loop-event
invariant-loop-event l = ReplaysTo (starting_at 3) (take l.event-index l.events) l.store
