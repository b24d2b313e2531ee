-- What the system says of the error is some text.
use Rattle.std.proofs.lemmas.Result.{IfOk-weaker}
use Rattle.krs_listen.proofs.telling.text_of.Goals as goal

pub returns : goal.returns
returns c =
    IfOk-weaker c.text_with.result _ _
    (λ text h. (c.as_str.result.now, rw c.next_for.ensures at h)) c.text_with.ensures
