use Rattle.std.proofs.Common.{◌∙◌, ap, refl, subst, sym}
use Rattle.krs_model.specs.History.{event_of}
use Rattle.krs_store.specs.Told.{reply_of}
use Rattle.krs_desk.specs.Seated.{HoldsBefore, Me, part}
use Rattle.krs_desk.proofs.{KeptTurns.goes_on, Seats.front, Turns.{holds_before, serves_is}}
use Rattle.krs_desk.proofs.desk.Desk.go_on.Goals as goal

pub serve_into-told-requires-clause-has : goal.serve_into-told-requires-clause-has
serve_into-told-requires-clause-has g c =
    (c.requires.turn.held.last, front (ap (λ (k : Me). k.1) c.requires.turn.held.has))

pub keep-requires-clause-held : goal.keep-requires-clause-held
keep-requires-clause-held g c =
    let after = c.serve_into-told.new.token.me in (
      c.requires.turn.held.log,
      subst (HoldsBefore after c.requires.turn.held.log)
          (λ i. event_of c.args.lane c.args.moment (sym c.of-asked.ensures i) (reply_of (sym c.of.ensures i)))
          (holds_before c.args.token.now.me after _ c.requires.turn.idle c.requires.turn.held
          c.serve_into-told.ensures.served),
    )

pub keep-requires-clause-event : goal.keep-requires-clause-event
keep-requires-clause-event g c = (
  refl,
  c.requires.turn.own ∙ sym (ap (λ (k : Me). (part k).lane)
      (serves_is c.args.token.now.me _ _ c.requires.turn.held c.serve_into-told.ensures.served)),
)

pub returns-clause-gone : goal.returns-clause-gone
returns-clause-gone g c = goes_on c.args.token.now.me c.serve_into-told.new.token.me c.keep.new.token.me _
    (event_of c.args.lane c.args.moment c.args.ask (reply_of c.serve_into-told.result))
    (λ i. event_of c.args.lane c.args.moment (c.of-asked.ensures i) (reply_of (c.of.ensures i))) c.requires.turn.held
    c.serve_into-told.ensures.served c.keep.ensures.kept c.keep.ensures.mine
