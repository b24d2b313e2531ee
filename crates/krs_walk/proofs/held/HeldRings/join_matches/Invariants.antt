use Rattle.std.proofs.Common.{◌≡◌, flat_map, take}
use Rattle.krs_walk.specs.{Lists.join, Searching.matches_by}
use Rattle.krs_walk.proofs.held.HeldRings.join_matches.Given as goal

abbrev pub invariant-loop-place : goal.invariant-loop-place
invariant-loop-place l = l.matches ≡ join l.fn.matches (flat_map (matches_by l.search) (take l.place l.self.seen))
