use Rattle.std.proofs.Common.{[], ◌||◌, ◌∷◌, ◌≡◌, bytes_eq, cond, false, is_some, List, refl, Some, true, ℕ}
use Rattle.std.specs.List.{list_any}
use Rattle.krs_commands.specs.Command.{change_commands, commands, context_commands, key_commands, link_commands}
use Rattle.krs_commands.specs.Command.{queue_commands, Row, row_in}
use Rattle.krs_commands.proofs.words.is_command.Goals as goal

-- there is a row of a word where the word is one of them
is_some-row_in : (word : List ℕ) (rows : List Row) → list_any (λ r. bytes_eq word r.word) rows
    ≡ is_some (row_in rows word)
is_some-row_in word [] = refl
is_some-row_in word (r ∷ rows) =
    elim (bytes_eq word r.word) as (λ b. (b || list_any (λ r. bytes_eq word r.word) rows)
    ≡ is_some (cond b (Some r) (row_in rows word))) [
      | true ↦ refl
      | false ↦ is_some-row_in word rows
    ]

pub returns : goal.returns
unfolding context_commands key_commands change_commands link_commands queue_commands
returns c = rw c.is_among.ensures (is_some-row_in c.args.word.now commands)
