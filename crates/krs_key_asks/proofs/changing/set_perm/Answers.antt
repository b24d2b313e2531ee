use Rattle.std.proofs.{Common.rules, lemmas.Int.ints}
use Rattle.krs_model.specs.Asks.Changing.{set_perm}
use Rattle.krs_key_asks.proofs.changing.set_perm.Goals as goal

pub returns-in_err-check_owner-clause-step : goal.returns-in_err-check_owner-clause-step
unfolding set_perm
returns-in_err-check_owner-clause-step c = search (ints, rules)
