-- A table that a hash map keeps, whose entries stand in no order.
use Rattle.std.specs.Prelude.{[], ◌∷◌, List, ℕ}
use Rattle.krs_model.specs.Table.{put, Table}

-- the entries of a hash map, by rising serial
abbrev pub by_serial : {X : Type 0} → List (ℕ × X) → Table X
by_serial [] = []
by_serial (e ∷ es) = put (by_serial es) e.0 e.1
