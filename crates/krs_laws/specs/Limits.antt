-- What a store never holds more of: profile, limits. The form is this project's own.
use Rattle.std.specs.Prelude.{◌≡◌, ◌≤◌, length, List, Some, ℕ}
use Rattle.krs_types.specs.declared.{context.Context.Context, event.Event.Event, note.FilterEntry.FilterEntry}
use Rattle.krs_model.specs.{Asks.Hello.context_count, History.IsLegal, Notes.Waiting.total_room}
use Rattle.krs_model.specs.{State.{Content, Key, Links, Payload, Queue, State}, Table.at}

-- a payload has at most 32767 bytes, and a keyring links at most 65535 keys: keyrings(7), "Key types"; profile, full
-- keyrings
abbrev pub IsShort : Content → Type 0
IsShort (Payload bytes) = length bytes ≤ 32767
IsShort (Links serials) = length serials ≤ 65535

-- what a store is within
pub record IsWithinLimits (s : State) : Type 0 where
  pub keys : (serial : ℕ) (key : Key) → at s.keys serial ≡ Some key → IsShort key.content
  -- a description has at most 4095 bytes: add_key(2), "EINVAL"
  pub descs : (serial : ℕ) (key : Key) → at s.keys serial ≡ Some key → length key.desc ≤ 4095
  -- a client has at most 64 contexts: profile, contexts per client
  pub contexts : (client : ℕ) → context_count client s.contexts ≤ 64
  -- and its caller at most 32 groups: profile, limits
  pub groups : (number : ℕ) (c : Context) → at s.contexts number ≡ Some c → length c.caller.groups ≤ 32
  -- 256 queues are open at most: profile, queue numbers
  pub queues : length s.queues ≤ 256
  -- and each holds at most as many records as its capacity, and none more than 4096; losses take no room:
  -- profile, exact rings; profile, loss records take no room
  pub waiting : (number : ℕ) (queue : Queue) → at s.queues number ≡ Some queue
      → (total_room queue.waiting ≤ queue.capacity) × (queue.capacity ≤ 4096)
  -- a filter has at most 16 entries: profile, limits
  pub filters : (number : ℕ) (queue : Queue) (entries : List FilterEntry) → at s.queues number ≡ Some queue
      → queue.filter ≡ Some entries → length entries ≤ 16

-- in each history from this state on the store is within them
abbrev pub StaysWithinLimits : State → Type 0
StaysWithinLimits start = (events : List Event) (end : State) → IsLegal start events end → IsWithinLimits end
