-- How what a method gives and leaves is compared to the definitions.
use Rattle.std.specs.Prelude.{[], ◌∷◌, ◌≡◌, Bool, Err, filter, IsOk, map, not, Ok, Result, ℕ}
use Rattle.krs_types.specs.Refusing.{◌>>=◌}
use Rattle.krs_types.specs.declared.{errno.Errno.Errno, fault.Fault.Fault, note.Record.TheVariants.Removal}
use Rattle.krs_model.specs.{Asks.Watching.{Change, unwatched}, Notes.Posting.{posted, removal_for}, Outcome.Fails}
use Rattle.krs_model.specs.{Queues.{queue_of, Queues}, State.Queue, Table.Table}

-- from old, this result and these queues are what is meant; a fault leaves them as they were
abbrev pub LeadsQueues : {A : Type 0} → Queues → Result A Fault → Queues → Change A → Type 0
LeadsQueues old (Ok x) new meant = meant ≡ Ok (new, x)
LeadsQueues old (Err e) new meant = Fails e meant × (new ≡ old)

-- the same of what takes no memory
abbrev pub LeadsAlways : {A : Type 0} → Queues → Result A Errno → Queues → Change A → Type 0
LeadsAlways old (Ok x) new meant = meant ≡ Ok (new, x)
LeadsAlways old (Err e) new meant = (meant ≡ Err e) × (new ≡ old)

-- the queue is the client's, or the refusal
abbrev pub OwnsQueue : Table Queue → ℕ → ℕ → Result (Unit {0}) Errno → Type 0
OwnsQueue queues client number (Ok x) = IsOk (queue_of queues client number)
OwnsQueue queues client number (Err e) = queue_of queues client number ≡ Err e

-- a watch ends, and its queue gets a removal record
abbrev pub watch_ended : Queues → ℕ → ℕ → ℕ → Change (Unit {0})
watch_ended s client number key = do
  ended ← unwatched s client number key
  Ok (posted ((number, Removal ended.1 key) ∷ []) ended.0, tt)

-- the watches of keys that are not there end, and their queues get removal records, by rising key, then queue
abbrev pub swept : (ℕ → Bool) → Queues → Queues
swept has s =
    posted (map removal_for (filter (λ w. not (has w.0.0)) s.watches))
    (record s { watches = filter (λ w. has w.0.0) s.watches })
