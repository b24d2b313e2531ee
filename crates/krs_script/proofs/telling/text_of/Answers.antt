use Rattle.std.proofs.{Common.{◌∙◌, ap}, lemmas.Result.IfOk-weaker}
use Rattle.krs_script.specs.Telling.{hint_text, hinted_text}
use Rattle.krs_script.proofs.telling.text_of.Goals as goal

pub returns : goal.returns
returns c =
    let how = c.in_ok-hint.ensures.0 in
    IfOk-weaker c.text_with.result _ _
    (λ text is. (
      how,
      is ∙ ap (hinted_text c.args.place.now.number c.args.place.now.line.items c.args.cause)
          (c.as_slice-2.ensures.value
          ∙ (c.in_ok-hint.ensures.1 ∙ ap (λ line. hint_text c.args.cause line how) c.as_slice.ensures.value)),
    )) c.text_with.ensures
