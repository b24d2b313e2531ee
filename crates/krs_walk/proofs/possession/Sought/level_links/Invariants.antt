use Rattle.std.proofs.Common.{◌≡◌, drop}
use Rattle.std.specs.List.{list_any}
use Rattle.krs_walk.specs.Seeking.{links_it}
use Rattle.krs_walk.proofs.possession.Sought.level_links.Given as goal

abbrev pub invariant-loop-place : goal.invariant-loop-place
invariant-loop-place l =
    list_any (links_it l.self) (drop l.place l.seen) ≡ list_any (links_it l.self) (drop l.start l.seen)
