use Rattle.std.proofs.Common.{◌∙◌, sym}
use Rattle.krs_admission.proofs.Lawful.{entered}
use Rattle.krs_admission.proofs.admitting.keeps.Goals as goal

pub returns-clause-lawful : goal.returns-clause-lawful
returns-clause-lawful c = λ e. entered c.args.process.now c.args.session.now (sym c.may_enter.ensures ∙ e)
