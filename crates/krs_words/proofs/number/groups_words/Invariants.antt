use Rattle.std.proofs.Common.{◌≡◌, filter_map, is_some, take, true}
use Rattle.std.specs.List.{list_all}
use Rattle.krs_words.specs.Number.{u32_of}
use Rattle.krs_words.proofs.number.groups_words.Given as goal

-- the words so far are numbers, and these are the groups
abbrev pub invariant-loop-word : goal.invariant-loop-word
invariant-loop-word l =
    (list_all (λ w. is_some (u32_of w.now)) (take l.word-index l.words) ≡ true)
    × (l.gids.items ≡ filter_map (λ w. u32_of w.now) (take l.word-index l.words))
