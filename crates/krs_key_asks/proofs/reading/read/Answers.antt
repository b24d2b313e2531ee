use Rattle.std.proofs.{Common.rules, lemmas.Int.ints}
use Rattle.krs_model.specs.Asks.Reading.{read}
use Rattle.krs_key_asks.proofs.reading.read.Goals as goal

pub returns-in_err-copy-in-ItsPayload-Payload : goal.returns-in_err-copy-in-ItsPayload-Payload
unfolding read
returns-in_err-copy-in-ItsPayload-Payload c = search (ints, rules)

pub returns-in_ok-copy-in-ItsPayload-Payload : goal.returns-in_ok-copy-in-ItsPayload-Payload
unfolding read
returns-in_ok-copy-in-ItsPayload-Payload c = search (ints, rules)
