-- What is served is as told.
use Rattle.krs_serve.proofs.daemon.answer.Goals as goal

pub listen-requires-clause-told : goal.listen-requires-clause-told
listen-requires-clause-told g c = λ _ _. rw c.in-Serve.is at c.requires.told
