use Rattle.krs_keys.specs.Hints.{AreHints}
use Rattle.krs_keys.proofs.places.fill.Given as goal

-- the hints are right so far
abbrev pub invariant-loop-at : goal.invariant-loop-at
invariant-loop-at l = AreHints l.hints l.index.entries
