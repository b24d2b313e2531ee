use Rattle.std.proofs.Common.{◌∙◌, sym}
use Rattle.krs_admission.proofs.Lawful.{for_others}
use Rattle.krs_admission.proofs.whose.begins_alone.Goals as goal

pub returns-clause-lawful : goal.returns-clause-lawful
returns-clause-lawful c = λ e. for_others c.args.process.now c.args.has_name (sym c.is_alone.ensures ∙ e)
