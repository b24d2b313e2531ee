-- The choice that the words lead to is the one that is answered.
use Rattle.krs_ctl.proofs.program.run_program.Goals as goal

pub returns : goal.returns
returns g c = (
  c.choose-choice.result,
  c.choose-choice.ensures.read,
  c.choose-choice.ensures.unread,
  c.answer.ensures,
)
