use Rattle.std.proofs.Common.{None, Option, Some}
use Rattle.std.specs.Prelude.{IsSomeAnd, Result}
use Rattle.atomic_table.specs.Seated.{TableId}
use Rattle.krs_types.specs.declared.{ask.Answer.Answer, errno.Errno.Errno}
use Rattle.krs_desk.specs.{Helping.{AnswersWaiting, StillWaits}, Sitting.Sitting}
use Rattle.krs_desk.proofs.awaiting.AnyAwaits.await_reply.Goals as goal

-- what still waits is what is answered
still_answers : (desk : TableId) (s t u : Sitting) (reply : Option (Result Answer Errno)) → StillWaits desk s t
    → IsSomeAnd reply (λ r. AnswersWaiting desk t r u) → IsSomeAnd reply (λ r. AnswersWaiting desk s r u)
still_answers desk s t u (Some reply) waits is = λ v moment ask w. is v moment ask (waits v moment ask w)
still_answers desk s t u None waits is = absurd is

pub returns-then-look-clause-answered : goal.returns-then-look-clause-answered
returns-then-look-clause-answered g c =
    still_answers _ _ _ _ _ c.loop.invariant.waits (c.look.ensures.answered c.if-look.true)
