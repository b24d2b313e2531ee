use Rattle.std.proofs.Common.{rules}
use Rattle.krs_desk.specs.Steps.{event_in}
use Rattle.krs_desk.proofs.TurnSteps.{puts_at}
use Rattle.krs_desk.proofs.desk.Desk.put_back.Goals as goal

pub compare_exchange-requires : goal.compare_exchange-requires
compare_exchange-requires g c =
    let held = c.requires.held in (
      search rules,
      search rules,
      rw c.requires.event.0 (puts_at _ _ _ c.args.token.now.me (event_in c.args.call) held.0 held.1 c.requires.event.1),
    )

pub returns-clause-mine : goal.returns-clause-mine
returns-clause-mine g c =
    λ log held. (c.compare_exchange.ensures.2 log (event_in c.args.call) held c.requires.event.0).1
