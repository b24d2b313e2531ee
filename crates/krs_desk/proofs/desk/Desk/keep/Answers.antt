use Rattle.std.proofs.Common.{rules}
use Rattle.krs_desk.specs.Steps.{event_in}
use Rattle.krs_desk.proofs.TurnSteps.{keeps_at}
use Rattle.krs_desk.proofs.desk.Desk.keep.Goals as goal

pub load-requires : goal.load-requires
load-requires g c =
    let held = c.requires.held in (
      search rules,
      search rules,
      rw c.requires.event.0
          (keeps_at _ _ _ c.args.token.now.me (event_in c.args.call) held.0 held.1 c.requires.event.1),
    )

pub returns-clause-kept : goal.returns-clause-kept
returns-clause-kept g c = λ log held. (c.load.ensures.2 log (event_in c.args.call) held c.requires.event.0).0

pub returns-clause-mine : goal.returns-clause-mine
returns-clause-mine g c = λ log held. (c.load.ensures.2 log (event_in c.args.call) held c.requires.event.0).1
