use Rattle.std.proofs.Common.{[], ◌∷◌}
use Rattle.krs_desk.specs.Steps.{event_in}
use Rattle.krs_desk.proofs.desk.Desk.go_on.Given as goal

abbrev pub ghosts-keep : goal.ghosts-keep
ghosts-keep g a = record { events = event_in a.call ∷ [] }
