-- The choice that the words lead to is the one that is answered.
use Rattle.krs_serve.proofs.daemon.run_daemon.Goals as goal

pub answer-requires-clause-told : goal.answer-requires-clause-told
answer-requires-clause-told g c = let lead = c.choose-choice.ensures in
    λ _ _. (c.words-words.result, c.words-words.ensures, (lead.read, lead.unread))

pub returns : goal.returns
returns g c = let lead = c.choose-choice.ensures in (
  c.choose-choice.result,
  (c.words-words.result, c.words-words.ensures, (lead.read, lead.unread)),
  c.answer.ensures,
)
