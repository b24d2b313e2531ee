use Rattle.std.proofs.Common.{◌≡◌, filter_map, is_some, take, true}
use Rattle.std.specs.List.{list_all}
use Rattle.krs_commands.specs.Entry.{entry_of}
use Rattle.krs_commands.proofs.entry.entries_words.Given as goal

-- the words so far are entries, and these are they
abbrev pub invariant-loop-word : goal.invariant-loop-word
invariant-loop-word l =
    (list_all (λ w. is_some (entry_of w.now)) (take l.word-index l.words) ≡ true)
    × (l.entries.items ≡ filter_map (λ w. entry_of w.now) (take l.word-index l.words))
