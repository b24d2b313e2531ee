use Rattle.std.proofs.Common.{subst, sym}
use Rattle.krs_admission.specs.Law.{IsLawful}
use Rattle.krs_admission.proofs.Lawful.{lawful}
use Rattle.krs_admission.proofs.admitting.admit.Goals as goal

pub returns-clause-lawful : goal.returns-clause-lawful
returns-clause-lawful c =
    subst (λ p. IsLawful c.args.arrival.now p) (sym c.place_of.ensures) (lawful c.args.arrival.now)
