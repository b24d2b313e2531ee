use Rattle.std.proofs.Common.{◌∙◌, sym}
use Rattle.krs_admission.proofs.Lawful.{given}
use Rattle.krs_admission.proofs.giving.may_be_given.Goals as goal

pub returns-clause-lawful : goal.returns-clause-lawful
returns-clause-lawful c =
    λ e. given c.args.parent.now c.args.uids.now c.args.gids.now c.args.session.now (sym c.is_its_user.ensures ∙ e)
