-- What is kept of the pieces is those that are not empty.
use Rattle.std.proofs.{Common.{◌==◌, length, not, refl, rules, tests}, lemmas.List.Elements.filter_from_retain}
use Rattle.krs_words.proofs.WordsLemmas.{map-filter}
use Rattle.krs_words.proofs.line.words.Goals as goal

pub returns : goal.returns
returns c =
    let kept = filter_from_retain _ (λ w. not (length w.now == 0)) (λ p x b q k. search
    (rules, tests)) _ _ _ c.retain.ensures.filtered in
    rw (
      kept,
      map-filter (λ w. w.now) (λ w. not
          (length w == 0)) c.in_ok-words.words.items,
      c.in_ok-words.ensures,
    ) refl
