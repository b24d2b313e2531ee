use Rattle.std.proofs.Common.{◌&&◌, ◌≡◌, List, not, ℕ}
use Rattle.krs_keys.specs.{Hashed.by_serial, Kept.KeepsAll}
use Rattle.krs_hold.specs.{Chain.{IsChained, numbers_of, Spares, total_weight}, Tally.AreExact, Told.tells}
use Rattle.krs_hold.proofs.cascade.sweep.Given as goal

-- the counts stay exact, each count of 0 waits, and no key has gone that was anchored by one that stays
abbrev pub invariant-dropping : goal.invariant-dropping
invariant-dropping g l = record {
  chained : IsChained (by_serial l.counts.entries) l.first;
  exact : (attached : List ℕ) → AreExact l.fn.keys.keys (numbers_of (by_serial l.fn.counts.entries)) attached
      → AreExact l.keys.keys (numbers_of (by_serial l.counts.entries)) attached;
  spared : (attached : List ℕ) → AreExact l.fn.keys.keys (numbers_of (by_serial l.fn.counts.entries)) attached
      → Spares attached l.fn.keys.keys l.keys.keys;
  watched : KeepsAll (λ k. g.W.KeySet.has l.watched k && not (tells l.told k)) l.fn.keys.keys l.keys.keys;
  next : l.keys.next ≡ l.fn.keys.next;
}

abbrev pub decreases-dropping : goal.decreases-dropping
decreases-dropping g l = total_weight (by_serial l.counts.entries)
