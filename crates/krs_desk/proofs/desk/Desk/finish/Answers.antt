use Rattle.std.proofs.Common.{◌∙◌, ap, refl, subst, sym}
use Rattle.krs_model.specs.History.{event_of}
use Rattle.krs_store.specs.Told.{reply_of}
use Rattle.krs_desk.specs.Seated.{HoldsBefore, Me, part}
use Rattle.krs_desk.proofs.{Seats.front, Turns.{finished, holds_before, serves_is}}
use Rattle.krs_desk.proofs.desk.Desk.finish.Goals as goal

pub serve_into-told-requires-clause-has : goal.serve_into-told-requires-clause-has
serve_into-told-requires-clause-has g c =
    (c.requires.turn.held.last, front (ap (λ (k : Me). k.1) c.requires.turn.held.has))

pub put-requires-clause-held : goal.put-requires-clause-held
put-requires-clause-held g c =
    let after = c.serve_into-told.new.token.me in (
      c.requires.turn.held.log,
      subst (HoldsBefore after c.requires.turn.held.log)
          (λ i. event_of c.args.lane c.args.moment (sym c.of-asked.ensures i) (reply_of (sym c.of.ensures i)))
          (holds_before c.args.token.now.me after _ c.requires.turn.idle c.requires.turn.held
          c.serve_into-told.ensures.served),
    )

pub put-requires-clause-event : goal.put-requires-clause-event
put-requires-clause-event g c = (
  refl,
  c.requires.turn.own ∙ sym (ap (λ (k : Me). (part k).lane)
      (serves_is c.args.token.now.me _ _ c.requires.turn.held c.serve_into-told.ensures.served)),
)

pub returns-clause-finished : goal.returns-clause-finished
returns-clause-finished g c = finished c.args.token.now.me c.serve_into-told.new.token.me c.put.new.token.me _
    (event_of c.args.lane c.args.moment c.args.ask (reply_of c.serve_into-told.result))
    (λ i. event_of c.args.lane c.args.moment (c.of-asked.ensures i) (reply_of (c.of.ensures i))) c.requires.turn.held
    c.serve_into-told.ensures.served c.put.ensures.put c.put.ensures.mine
