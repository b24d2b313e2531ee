use Rattle.std.proofs.Common.{◌∙◌, ap, refl, rules, subst, sym}
use Rattle.krs_desk.specs.{Helping.LooksAtLane, Seated.{is_free, Me, part}}
use Rattle.krs_desk.proofs.{Helps.{answers_none, held_on}, Serves.glances_at}
use Rattle.krs_desk.proofs.desk.Desk.look_at_lane.Goals as goal

pub load-requires : goal.load-requires
load-requires c = (
  search rules,
  search rules,
  glances_at _ _ _ c.args.lane c.args.token.now.me c.requires.held,
)

pub returns-then-load-ne-POSTED-clause-looked : goal.returns-then-load-ne-POSTED-clause-looked
returns-then-load-ne-POSTED-clause-looked c =
    let t = (c.load.ensures.2 c.args.lane refl).1 c.if-load-ne-POSTED.true in
    answers_none c.args.token.now.me c.args.lane c.load.result c.load.new.seat.me c.requires.held t.0 t.1

pub answer_lane-requires-clause-held : goal.answer_lane-requires-clause-held
answer_lane-requires-clause-held c =
    held_on c.args.token.now.me c.load.new.seat.me ((c.load.ensures.2 c.args.lane refl).0 c.if-load-ne-POSTED.false)
    c.requires.held

pub answer_lane-requires-clause-hand : goal.answer_lane-requires-clause-hand
answer_lane-requires-clause-hand c = c.requires.hand
    ∙ sym (ap (λ (k : Me). is_free (part k).flight) ((c.load.ensures.2 c.args.lane refl).0 c.if-load-ne-POSTED.false))

pub returns-clause-looked : goal.returns-clause-looked
returns-clause-looked c = subst (λ (z : Me). LooksAtLane z c.args.lane c.answer_lane.result c.answer_lane.new.token.me)
    ((c.load.ensures.2 c.args.lane refl).0 c.if-load-ne-POSTED.false) c.answer_lane.ensures.looked
