use Rattle.std.proofs.Common.{◌-◌, ◌≤◌, length}
use Rattle.krs_links.proofs.FreeLemmas.{AreTaken}
use Rattle.krs_links.proofs.index.free_steps.Given as goal

-- each number fewer steps behind the digest is taken
abbrev pub invariant-taken : goal.invariant-taken
invariant-taken l = record {
  most : l.steps ≤ length l.entries.entries;
  each : AreTaken l.digest l.steps l.entries.entries;
}

abbrev pub decreases-taken : goal.decreases-taken
decreases-taken l = length l.entries.entries - l.steps
