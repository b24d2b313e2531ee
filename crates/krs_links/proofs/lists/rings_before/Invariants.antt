use Rattle.std.proofs.Common.{◌≡◌, ◌≤◌, length, take}
use Rattle.krs_links.specs.{Indexed.linked, Links.nested}
use Rattle.krs_links.proofs.lists.rings_before.Given as goal

-- the keyrings so far are counted, and they are no more than the links so far
abbrev pub invariant-loop-before : goal.invariant-loop-before
invariant-loop-before l =
    (l.count ≡ length (nested (take l.before (linked l.index)))) × (l.count ≤ l.before)
