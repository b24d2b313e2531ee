use Rattle.std.proofs.Common.{◌<◌, ℕ}
use Rattle.krs_links.specs.Indexed.{behind, StandsNot}
use Rattle.krs_links.proofs.index.LinkIndex.place_of.Given as goal

-- no link of the name stands fewer steps behind the digest
abbrev pub invariant-loop-steps : goal.invariant-loop-steps
invariant-loop-steps l =
    (s : ℕ) → s < l.steps → StandsNot l.name l.self.entries.entries (behind l.digest s)
