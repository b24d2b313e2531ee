use Rattle.krs_ctl.proofs.ListingLemmas.{links_are_listed}
use Rattle.krs_ctl.proofs.laws.listed_keys.Goals as goal

pub returns-clause-rings : goal.returns-clause-rings
returns-clause-rings c = links_are_listed
