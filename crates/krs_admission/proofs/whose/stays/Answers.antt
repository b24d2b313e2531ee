use Rattle.std.proofs.Common.{◌∙◌, sym}
use Rattle.krs_admission.proofs.Lawful.{still_its}
use Rattle.krs_admission.proofs.whose.stays.Goals as goal

pub returns-clause-lawful : goal.returns-clause-lawful
returns-clause-lawful c =
    λ e. still_its c.args.process.now c.args.uid c.args.revokes (sym c.is_still_its.ensures ∙ e)
