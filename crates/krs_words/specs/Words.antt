-- The words of a line: keyretain(1), "Lines"; profile, script lines.
use Rattle.std.specs.Prelude.{◌==◌, Bool, codes, filter, length, List, nat_eq, not, ℕ}
use Rattle.std.specs.List.{slice_split, starts_with}

-- the pieces between its spaces, without the empty ones
abbrev pub words_of : List ℕ → List (List ℕ)
words_of line = filter (λ word. not (length word == 0)) (slice_split (λ b. b == 32) line)

-- a comment begins with `#` in its very first byte
abbrev pub is_comment : List ℕ → Bool
is_comment line = starts_with nat_eq line (codes "#")
