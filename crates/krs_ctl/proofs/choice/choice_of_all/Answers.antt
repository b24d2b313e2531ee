use Rattle.std.proofs.Common.{◌≡◌, map, rules, string_bytes}
use Rattle.krs_ctl.proofs.choice.choice_of_all.Goals as goal

pub returns-in-Ok-clause-words : goal.returns-in-Ok-clause-words
returns-in-Ok-clause-words c =
    let same : map string_bytes c.as_slice.result.now ≡ map string_bytes c.in-Ok.words.items = search rules in
    rw c.in-Ok.is (rw same at c.choice_of.ensures)
