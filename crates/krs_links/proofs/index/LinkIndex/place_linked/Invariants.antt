use Rattle.std.proofs.Common.{◌<◌, ℕ}
use Rattle.krs_links.specs.Indexed.{behind, LinksNot}
use Rattle.krs_links.proofs.index.LinkIndex.place_linked.Given as goal

-- no link to the serial stands fewer steps behind the digest
abbrev pub invariant-loop-steps : goal.invariant-loop-steps
invariant-loop-steps l =
    (s : ℕ) → s < l.steps → LinksNot l.serial l.self.entries.entries (behind l.digest s)
