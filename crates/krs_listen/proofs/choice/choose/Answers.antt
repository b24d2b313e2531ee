use Rattle.std.proofs.Common.{ap, map, refl, string_bytes}
use Rattle.std.specs.Vec.Iter.{into_iter_items}
use Rattle.std.proofs.lemmas.{Iterator.{items_from_collect, Adapters.YieldsList-from_vec}, Result.IfOk-weaker}
use Rattle.krs_listen.proofs.CommandLineLemmas.{leads_of_all}
use Rattle.krs_listen.proofs.choice.choose.Goals as goal

pub returns-in-Ok-clause-read : goal.returns-in-Ok-clause-read
returns-in-Ok-clause-read c =
    let words = c.in-Ok.words in
    let all = into_iter_items words in
    let items = items_from_collect c.collect.result c.collect.ensures.ran
    (YieldsList-from_vec all refl words.rest.ok.0) in
    let same = IfOk-weaker c.collect.result _ _ (λ v h. ap (λ xs. map string_bytes xs) h) items in
    rw c.in-Ok.is (leads_of_all c.collect.result _ (map string_bytes all) c.choice_of_all.result
    c.choice_of_all.ensures.words
    c.choice_of_all.ensures.memory same)
