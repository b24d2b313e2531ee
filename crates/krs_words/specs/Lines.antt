-- The lines of a script: keyretain(1), "Lines"; profile, script lines.
use Rattle.std.specs.Prelude.{[], ⊤, ◌++◌, ◌==◌, ◌∷◌, ◌≡◌, if◌then◌else◌, List, None, Option, Some, ℕ}
use Rattle.std.specs.List.{onto_first}

-- the lines of bytes: a newline (byte 10) ends each, and a last one needs none
abbrev pub lines_of : List ℕ → List (List ℕ)
lines_of [] = []
lines_of (b ∷ bs) = if b == 10 then [] ∷ lines_of bs else onto_first b (lines_of bs)

-- From what a reader had left to what it has left these lines were read. Of a reader that does not tell its bytes
-- this says nothing.
abbrev pub ReadsLines : Option (List ℕ) → Option (List ℕ) → List (List ℕ) → Type 0
ReadsLines None left lines = ⊤
ReadsLines (Some bytes) None lines = ⊥
ReadsLines (Some bytes) (Some left) lines = lines_of bytes ≡ lines ++ lines_of left
