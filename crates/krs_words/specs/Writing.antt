-- What was printed: what a writer holds, and what still waits to be written to it.
use Rattle.std.specs.{Prelude.{◌++◌, ◌≡◌, List, Option, ℕ}, Io.KnownBytes.Appends}

-- From one writer and what waits for it to another this text was printed: what waited and then the text is what was
-- written and then what waits now.
abbrev pub Prints : Option (List ℕ) → List ℕ → Option (List ℕ) → List ℕ → List ℕ → Type 0
Prints old waiting new waits text = (written : List ℕ) × Appends old new written × (waiting ++ text ≡ written ++ waits)

-- a beginning of this text was written, and this is the rest
abbrev pub WritesSome : Option (List ℕ) → Option (List ℕ) → List ℕ → List ℕ → Type 0
WritesSome old new text rest = (written : List ℕ) × Appends old new written × (text ≡ written ++ rest)

-- a beginning of this text was written, and nothing else
abbrev pub WritesFront : Option (List ℕ) → Option (List ℕ) → List ℕ → Type 0
WritesFront old new text = (rest : List ℕ) × WritesSome old new text rest
