use Rattle.std.proofs.Common.{◌∙◌, sym}
use Rattle.krs_admission.proofs.Lawful.{known_again}
use Rattle.krs_admission.proofs.admitting.knows_again.Goals as goal

pub returns-clause-lawful : goal.returns-clause-lawful
returns-clause-lawful c = λ e. known_again c.args.arrival.now (sym c.has_its_tag.ensures ∙ e)
