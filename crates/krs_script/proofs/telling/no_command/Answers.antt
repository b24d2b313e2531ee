use Rattle.std.proofs.{Common.{◌∙◌, ap, map}, lemmas.Result.IfOk-weaker}
use Rattle.krs_script.specs.Telling.{hinted_refusal}
use Rattle.krs_script.proofs.telling.no_command.Goals as goal

pub returns : goal.returns
returns c = IfOk-weaker c.no_command_with.result _ _
    (λ text is. (
      c.in_ok-hint.ensures.0,
      is ∙ ap (hinted_refusal (map (λ word. word.now) c.args.words.now))
          (c.as_slice.ensures.value ∙ c.in_ok-hint.ensures.1),
    )) c.no_command_with.ensures
