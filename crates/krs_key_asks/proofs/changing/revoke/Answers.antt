use Rattle.std.proofs.{Common.rules, lemmas.Int.ints}
use Rattle.krs_model.specs.Asks.Changing.{revoke}
use Rattle.krs_key_asks.proofs.changing.revoke.Goals as goal

pub returns-clause-step : goal.returns-clause-step
unfolding revoke
returns-clause-step c = search (ints, rules)
