-- The list of a walk, which has no serial twice.
use Rattle.std.specs.Prelude.{[], ◌++◌, ◌∷◌, cond, List, ℕ}
use Rattle.krs_model.specs.Levels.{is_in}

-- the first list, and behind it what the second has that does not stand there yet, each once
abbrev pub join : List ℕ → List ℕ → List ℕ
join seen [] = seen
join seen (x ∷ xs) = join (cond (is_in x seen) seen (seen ++ x ∷ [])) xs
