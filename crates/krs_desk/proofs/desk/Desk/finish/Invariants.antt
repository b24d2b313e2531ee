use Rattle.std.proofs.Common.{[], ◌∷◌}
use Rattle.krs_desk.specs.Steps.{event_in}
use Rattle.krs_desk.proofs.desk.Desk.finish.Given as goal

abbrev pub ghosts-put : goal.ghosts-put
ghosts-put g a = record { events = event_in a.call ∷ [] }
