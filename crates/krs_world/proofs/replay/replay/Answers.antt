use Rattle.std.proofs.Common.{◌≢◌, Err, subst}
use Rattle.krs_types.specs.declared.{ask.Ask.Ask, errno.Errno.TheVariants.ENOMEM}
use Rattle.krs_model.specs.{History.event_of, Step.Step}
use Rattle.krs_world.specs.Replay.{FoundNoMemory}
use Rattle.krs_world.proofs.Replays.{answered_else, no_both}
use Rattle.krs_world.proofs.replay.replay.Goals as goal

pub returns-clause-replayed : goal.returns-clause-replayed
returns-clause-replayed c = let event = c.args.event.now in let reply = c.apply-reply.result in
    let step : Step c.args.store.now (event_of event.lane event.moment event.ask reply) c.apply-reply.new.self =
    subst (λ (a : Ask). Step c.args.store.now (event_of event.lane event.moment a reply) c.apply-reply.new.self)
    c.in-Ok.ensures c.apply-reply.ensures.step in
    let differs : reply ≢ event.reply = λ is. no_both _ (c.is_same_reply.ensures.1 is) c.if-is_same_reply.false in
    let memory : reply ≢ Err ENOMEM = λ is. no_both _ (c.is_no_memory.ensures.1 is) c.if-is_no_memory.false in
    let found : FoundNoMemory event → ⊥ = λ is. no_both _ (c.found_no_memory.ensures.1 is) c.if-found_no_memory.false in
    λ other replayed.
    answered_else c.args.store.now c.apply-reply.new.self other event reply step differs memory found replayed
