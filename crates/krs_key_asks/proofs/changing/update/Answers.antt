use Rattle.std.proofs.{Common.rules, lemmas.Int.ints}
use Rattle.krs_model.specs.Asks.Changing.{update}
use Rattle.krs_key_asks.proofs.changing.update.Goals as goal

pub returns-in_err-check_payload : goal.returns-in_err-check_payload
unfolding update
returns-in_err-check_payload c = search (ints, rules)

pub returns : goal.returns
unfolding update
returns c = search (ints, rules)
