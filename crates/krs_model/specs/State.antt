-- What a store is: keyrings(7), core.rst "Key overview"; queues and watches: core-api/watch_queue.rst.
use Rattle.std.specs.Prelude.{[], Bool, List, max, Option, ℕ}
use Rattle.krs_types.specs.declared.context.{Context.Context, UidRings.UidRings}
use Rattle.krs_types.specs.declared.{kind.Kind.Kind, note.{FilterEntry.FilterEntry, Record.Record}}
use Rattle.krs_model.specs.Table.{Table}

-- what a key holds: a payload, or the serials that a keyring links, in link order
pub data Content : Type 0 where
  Payload : List ℕ → Content
  Links : List ℕ → Content

-- a key: its type, description, owner and mask; when its time is over, in seconds; whether it was revoked; whether
-- KEYCTL_JOIN_SESSION_KEYRING made it; whether it takes no further link: profile, closed keyrings; what it holds
pub record Key : Type 0 where
  pub kind : Kind
  pub desc : List ℕ
  pub uid : ℕ
  pub gid : ℕ
  pub perm : ℕ
  pub expiry : Option ℕ
  pub revoked : Bool
  pub joined : Bool
  pub closed : Bool
  pub content : Content

-- a note queue: whose it is, how many records it holds, its filter, and the records that wait in it, oldest first
pub record Queue : Type 0 where
  pub client : ℕ
  pub capacity : ℕ
  pub filter : Option (List FilterEntry)
  pub waiting : List Record

-- A store. Contexts, processes (each with its process keyring) and uids (each with its two keyrings) attach keys; a
-- process has the number of the context that it was made with. A watch is at a key and a queue, and has an id. The
-- clock is the greatest moment handed in so far, in seconds.
pub record State : Type 0 where
  pub keys : Table Key
  pub contexts : Table Context
  pub processes : Table (Option ℕ)
  pub uids : Table UidRings
  pub queues : Table Queue
  pub watches : List ((ℕ × ℕ) × ℕ)
  pub next_serial : ℕ
  pub next_context : ℕ
  pub next_queue : ℕ
  pub clock : ℕ

-- an empty store that gives this serial next
abbrev pub starting_at : ℕ → State
starting_at n = record {
  keys = [];
  contexts = [];
  processes = [];
  uids = [];
  queues = [];
  watches = [];
  next_serial = n;
  next_context = 1;
  next_queue = 1;
  clock = 0;
}

-- the clock is at least at this moment: profile, one clock
abbrev pub raised : State → ℕ → State
raised s moment = record s { clock = max s.clock moment }
