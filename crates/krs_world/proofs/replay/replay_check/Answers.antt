use Rattle.std.proofs.Common.{◌<◌, ◌≡◌, arith, Bool, false, length, rules, subst}
use Rattle.std.proofs.{Common.true, lemmas.List.take_more}
use Rattle.krs_model.specs.State.{starting_at, State}
use Rattle.krs_world.specs.Replay.{IsReplayedBy, Replayed}
use Rattle.krs_world.proofs.Replays.{further, stops}
use Rattle.krs_world.proofs.replay.replay_check.Goals as goal
use Rattle.std.proofs.lemmas.Grind.{common_steps}

pub returns-then-not-happened-clause-replayed : goal.returns-then-not-happened-clause-replayed
returns-then-not-happened-clause-replayed c = let events = c.args.events.now in let i = c.loop-event.event-index in
    let event = c.event-item.result in let within : i < length events = omega arith in
    let not : c.in_ok-happened.happened ≡ false = search rules in
    let never : (other : State) → Replayed c.loop-event.store event other → ⊥ =
    subst (λ (b : Bool). IsReplayedBy c.loop-event.store event b c.replay.new.store) not
    c.in_ok-happened.ensures.replayed in (
      λ holds. absurd (let both : false ≡ true = holds in cc),
      λ all. absurd
          (stops (starting_at 3) c.loop-event.store events i event within c.event-item.is c.loop-event.invariant never
          all),
    )

pub loop-event-preserved : goal.loop-event-preserved
loop-event-preserved c = grind (arith, common_steps, take_more, further)
