-- In which order an ask's records go out: profile, order of notes.
use Rattle.std.specs.Prelude.{[], ◌<◌, ◌∷◌, List, ℕ}
use Rattle.krs_model.specs.Notes.Posting.{Post}

-- for queues above this one
abbrev pub AreAbove : ℕ → List Post → Type 0
AreAbove number [] = Unit {0}
AreAbove number (p ∷ ps) = (number < p.0) × AreAbove number ps

-- by rising queue
abbrev pub GoByQueue : List Post → Type 0
GoByQueue [] = Unit {0}
GoByQueue (p ∷ ps) = AreAbove p.0 ps × GoByQueue ps
