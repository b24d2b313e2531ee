-- The counts as they are kept, and which of them wait for a look.
use Rattle.std.specs.Prelude.{[], ◌&&◌, ◌*◌, ◌+◌, ◌-◌, ◌==◌, ◌∷◌, ◌≡◌, Bool, cond, false, filter, IsSome, List, nat_lt}
use Rattle.std.specs.Prelude.{None, not, Option, Some, true, ℕ}
use Rattle.krs_model.specs.{Anchored.IsAnchored, Levels.is_in, Table.{alter, at, map_values, Table}}
use Rattle.krs_keys.specs.{Keys.shown, declared.key.Key.Key}
use Rattle.krs_hold.specs.declared.counts.Count.{Count}

-- the numbers of holders: what a caller sees of the counts
abbrev pub numbers_of : Table Count → Table ℕ
numbers_of counts = map_values (λ c. c.holders) counts

abbrev pub holders_at : Option Count → ℕ
holders_at None = 0
holders_at (Some c) = c.holders

abbrev pub is_waiting : Option Count → Bool
is_waiting None = false
is_waiting (Some c) = c.waiting

abbrev pub next_at : Option Count → Option ℕ
next_at None = None
next_at (Some c) = c.next

-- the counts that wait, from the first on, each naming the next
abbrev pub IsChain : Table Count → Option ℕ → List ℕ → Type 0
IsChain counts first [] = first ≡ None
IsChain counts first (k ∷ ks) =
    (first ≡ Some k) × ((is_waiting (at counts k) ≡ true) × ((is_in k ks ≡ false) × IsChain counts (next_at
    (at counts k)) ks))

-- just the counts in the chain wait, and each count of 0 does
pub record IsChained (counts : Table Count) (first : Option ℕ) : Type 0 where
  pub chain : List ℕ
  pub linked : IsChain counts first chain
  pub whole : (k : ℕ) → is_waiting (at counts k) ≡ true → is_in k chain ≡ true
  pub due : (k : ℕ) → IsSome (at counts k) → holders_at (at counts k) ≡ 0 → is_waiting (at counts k) ≡ true

-- this is its last holder, and it does not wait
abbrev pub falls : Count → Bool
falls c = (c.holders == 1) && not c.waiting

abbrev pub falls_at : Option Count → Bool
falls_at None = false
falls_at (Some c) = falls c

-- the count of a key that nothing holds, before the first of the chain
abbrev pub unheld : Option ℕ → Count
unheld first = record { holders = 0; waiting = true; next = first }

-- one holder less: a count that comes to 0 goes before the first of the chain
abbrev pub lowered : Option ℕ → Count → Count
lowered first c = cond (falls c) (unheld first) (record c { holders = c.holders - 1 })

-- it has holders, and does not wait
abbrev pub empties : Count → Bool
empties c = nat_lt 0 c.holders && not c.waiting

-- no holder any more: a count that comes to 0 goes before the first of the chain
abbrev pub emptied : Option ℕ → Count → Count
emptied first c = cond (empties c) (unheld first) (record c { holders = 0 })

-- the counts, and the first of the chain
pub record Chained : Type 0 where
  pub counts : Table Count
  pub first : Option ℕ

abbrev pub gone : Chained → ℕ → Chained
gone t k = record {
  counts = alter t.counts k (lowered t.first);
  first =
      cond (falls_at (at t.counts k)) (Some k) t.first;
}

-- one holder less for each of these
abbrev pub gone_all : Chained → List ℕ → Chained
gone_all t [] = t
gone_all t (k ∷ ks) = gone_all (gone t k) ks

-- one holder more
abbrev pub raised : Count → Count
raised c = record c { holders = c.holders + 1 }

-- out of the chain
abbrev pub rested : Count → Count
rested c = record c { waiting = false }

-- what is left to do for a count: each look, and each holder that goes, takes some of it
abbrev pub weight : Count → ℕ
weight c = 2 * c.holders + (cond c.waiting 1 0 + 1)

abbrev pub total_weight : Table Count → ℕ
total_weight [] = 0
total_weight (e ∷ es) = weight e.1 + total_weight es

-- no key that goes is anchored by an attachment or by a key that stays
pub record Spares (attached : List ℕ) (old new : Table Key) : Type 0 where
  pub kept : ℕ → Bool
  pub each : (k : ℕ) → IsSome (at (shown old) k) → IsAnchored (shown old) attached kept k → kept k ≡ true
  pub keys : new ≡ filter (λ e. kept e.0) old
