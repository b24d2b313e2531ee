-- How many links and attachments hold each key: keyrings(7), "Anchoring keys".
use Rattle.std.specs.Prelude.{[], ◌+◌, ◌-◌, ◌==◌, ◌∷◌, ◌≡◌, count_by, flat_map, if◌then◌else◌, is_some, IsSome, List}
use Rattle.std.specs.Prelude.{unwrap_or, ℕ}
use Rattle.krs_model.specs.{Possession.links_of_content, State.Key, Table.{alter, at, put, Table}}
use Rattle.krs_keys.specs.Keys.{shown}
use Rattle.krs_keys.specs.declared.key.Key as kept

-- how often a serial stands in a list
abbrev pub times : ℕ → List ℕ → ℕ
times k serials = count_by (λ q. q == k) serials

-- what the keys of a table link, keyring by keyring
abbrev pub all_links : Table Key → List ℕ
all_links keys = flat_map (λ e. links_of_content e.1.content) keys

-- the number of a serial, 0 where it has none
abbrev pub number_at : Table ℕ → ℕ → ℕ
number_at numbers k = unwrap_or (at numbers k) 0

-- The numbers are exact: each key has one, and the number of a serial is how often it is attached or linked. What is
-- owed counts too: holders that were counted and are not there yet, or are gone and are still counted.
pub record IsTallied (keys : Table Key) (attached owed : List ℕ) (numbers : Table ℕ) : Type 0 where
  pub counted : (k : ℕ) → IsSome (at keys k) → IsSome (at numbers k)
  pub exact : (k : ℕ) → number_at numbers k ≡ times k owed + (times k attached + times k (all_links keys))

-- the numbers of a key table are exact, and nothing is owed
abbrev pub AreExact : Table kept.Key → Table ℕ → List ℕ → Type 0
AreExact keys numbers attached = IsTallied (shown keys) attached [] numbers

-- with a number for this serial, which is 0 where it had none
abbrev pub with_number : ℕ → Table ℕ → Table ℕ
with_number k numbers = if is_some (at numbers k) then numbers else put numbers k 0

-- one holder more, and one less
abbrev pub one_more : ℕ → Table ℕ → Table ℕ
one_more k numbers = alter numbers k (λ n. n + 1)

abbrev pub one_less : ℕ → Table ℕ → Table ℕ
one_less k numbers = alter numbers k (λ n. n - 1)

-- one less for each of these serials
abbrev pub all_less : List ℕ → Table ℕ → Table ℕ
all_less [] numbers = numbers
all_less (k ∷ serials) numbers = all_less serials (one_less k numbers)
