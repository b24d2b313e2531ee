use Rattle.std.proofs.Common.{◌≡◌, map, rules, string_bytes}
use Rattle.krs_listen.proofs.CommandLineLemmas.{leads_of_read}
use Rattle.krs_listen.proofs.choice.choice_of_all.Goals as goal

pub returns-in-Ok-clause-words : goal.returns-in-Ok-clause-words
returns-in-Ok-clause-words c =
    let leads = leads_of_read c.options_in.result (map string_bytes c.as_slice.result.now) c.choice_of.result
    c.options_in.ensures.spelled c.options_in.ensures.faults c.choice_of.ensures.read c.choice_of.ensures.told in
    let same : map string_bytes c.as_slice.result.now ≡ map string_bytes c.in-Ok.words.items = search rules in
    rw c.in-Ok.is (rw same at leads)
