-- Watches, and what is kept of them beside.
use Rattle.std.specs.Prelude.{◌&&◌, ◌==◌, ◌≡◌, ◌≤◌, Bool, false, filter, is_some, IsSome, List, not, true, ℕ}
use Rattle.std.specs.{BTreeMap.is_at, List.list_any}
use Rattle.krs_model.specs.{Orderly.Each, Queues.{place_cmp, Watch, watch_at}, State.Queue, Table.{at, Table}}
use Rattle.krs_watch.specs.declared.watches.Watches.TheInside.{Inside}

-- the place of a queue and a key is listed
abbrev pub is_listed : List (ℕ × ℕ) → ℕ → ℕ → Bool
is_listed places number key = list_any (is_at (place_cmp (number, key))) places

-- just the watches are listed, by queue, then key
abbrev pub AreListed : List Watch → List (ℕ × ℕ) → Type 0
AreListed watches places = (key number : ℕ) → is_listed places number key ≡ is_some (watch_at watches key number)

abbrev pub AreListedInside : Inside → Type 0
AreListedInside w = AreListed w.by_key.entries w.by_queue.keys

-- the queue of a watch is there
abbrev pub IsQueued : Table Queue → Watch → Type 0
IsQueued queues w = IsSome (at queues w.0.1)

-- that of each watch is
abbrev pub AreQueued : Table Queue → List Watch → Type 0
AreQueued queues watches = Each (IsQueued queues) watches

-- a queue of that number is the client's
abbrev pub owns : ℕ → ℕ → Table Queue → Bool
owns client number queues = list_any (λ e. (e.0 == number) && (e.1.client == client)) queues

-- the watches of keys that are not there
abbrev pub gone_watches : (ℕ → Bool) → List Watch → List Watch
gone_watches has watches = filter (λ w. not (has w.0.0)) watches

-- each of them is of this key or a later one, and of one that is told
abbrev pub AreDue : (ℕ → Bool) → (ℕ → Bool) → ℕ → List Watch → Type 0
AreDue has told from watches = Each (λ w. has w.0.0 ≡ false → (from ≤ w.0.0) × (told w.0.0 ≡ true)) watches
