use Rattle.std.proofs.Common.{ap, inl, inr}
use Rattle.krs_words.specs.Saying.{heard}
use Rattle.krs_ctl.specs.Telling.{no_place_text}
use Rattle.krs_ctl.proofs.connecting.tell_stopped.Goals as goal

-- a guard that has no place is told of the path
pub returns-then-is_turned_away-clause-told : goal.returns-then-is_turned_away-clause-told
returns-then-is_turned_away-clause-told g c status usage = inl (no_place_text, c.tell_of.ensures)

pub returns-clause-told : goal.returns-clause-told
returns-clause-told g c status usage = inr (
  c.args.place.now.number,
  c.args.place.now.line.items,
  c.args.stopped,
  c.tell.ensures.exact,
  λ is. ap (heard g.E.Write.contents) (c.tell.ensures.ended is),
  usage,
)
