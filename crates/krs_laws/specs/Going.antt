-- What goes, and what comes with it, is by right: contexts and what they attach, queues and watches. keyrings(7),
-- "Anchoring keys"; keyctl(2); core-api/watch_queue.rst. The form is this project's own.
use Rattle.std.specs.Prelude.{◌≡◌, ◌≢◌, ◌⊎◌, List, negsuc, None, Ok, Option, Some, zero, ℕ, ℤ}
use Rattle.krs_types.specs.{Rights.SEARCH, declared.ask.Op.Op}
use Rattle.krs_types.specs.declared.ask.Op.TheVariants.{CloseQueue, Exec, Exit, Fork, Hello, Invalidate, Join}
use Rattle.krs_types.specs.declared.ask.Op.TheVariants.{Leave, OpenQueue, SetFilter, Thread, Watch}
use Rattle.krs_types.specs.declared.{context.{Context.Context, UidRings.UidRings}}
use Rattle.krs_types.specs.declared.{event.Event.Event, note.FilterEntry.FilterEntry, rights.Want.TheVariants.Granted}
use Rattle.krs_model.specs.{History.IsLegal, Joined.MayBeJoined, Lookup.{context_of, user_session_ring}}
use Rattle.krs_model.specs.{Revocation.Names, State.{Queue, raised, State}}
use Rattle.krs_model.specs.{Step.Step, Table.{at}}
use Rattle.krs_laws.specs.{Integrity.HasRight, Noting.{IsWatched, OwnsQueue}}
use Rattle.krs_model.specs.Queues as queues

-- ---- attachments
-- the key went out of the attachment, as the ask invalidates it, by SEARCH
pub record IsInvalidated (s : State) (client context : ℕ) (op : Op) (before after : Option ℕ) : Type 0 where
  pub id : ℤ
  pub asked : op ≡ Invalidate id
  pub gone : ℕ
  pub names : Names s client context id gone
  pub right : HasRight s client context (Granted SEARCH) gone
  pub was : before ≡ Some gone
  pub now : after ≡ None

-- it stays, or the key was invalidated
abbrev pub Stays : State → ℕ → ℕ → Op → Option ℕ → Option ℕ → Type 0
Stays s client context op before after = (after ≡ before) ⊎ IsInvalidated s client context op before after

-- a key that wasn't there is attached
abbrev pub IsNew : State → Option ℕ → Type 0
IsNew s ring = (serial : ℕ) × (ring ≡ Some serial) × (at s.keys serial ≡ None)

-- The thread keyring of the context that asks: EXEC takes it away, and where there is none one is made
abbrev pub ThreadChanges : State → Op → Option ℕ → Option ℕ → Type 0
ThreadChanges s op before after = ((op ≡ Exec) × (after ≡ None)) ⊎ ((before ≡ None) × IsNew s after)

-- the session keyring of the context that asks: JOIN makes one, or takes one that may be joined
pub record SessionChanges (s : State) (c : Context) (op : Op) (after : Option ℕ) : Type 0 where
  pub name : List ℕ
  pub asked : op ≡ Join name
  pub serial : ℕ
  pub joined : after ≡ Some serial
  pub may : (at s.keys serial ≡ None) ⊎ MayBeJoined s c name serial

-- a context that stays is whose it was; what it attaches changes by its own asks alone, or by INVALIDATE
pub record ContextStays (s : State) (client context : ℕ) (op : Op) (number : ℕ) (before after : Context) : Type 0
  where
    pub same_client : after.client ≡ before.client
    pub same_process : after.process ≡ before.process
    pub same_caller : after.caller ≡ before.caller
    pub thread : Stays s client context op before.thread after.thread
        ⊎ ((number ≡ context) × (context_of s client context ≡ Ok before)
        × ThreadChanges s op before.thread after.thread)
    pub session : Stays s client context op before.session after.session
        ⊎ ((number ≡ context) × (context_of s client context ≡ Ok before) × SessionChanges s before op after.session)

-- a context ends by LEAVE or EXIT of its own client, or by EXEC of another context of its process
pub data ContextEnds (s : State) (client context : ℕ) (op : Op) (number : ℕ) (before : Context) : Type 0 where
  Left : op ≡ Leave → before.client ≡ client → ContextEnds s client context op number before
  Exited : op ≡ Exit → number ≡ context → before.client ≡ client → ContextEnds s client context op number before
  Execed :
      (c : Context) → op ≡ Exec → context_of s client context ≡ Ok c → before.process ≡ c.process
      → ContextEnds s client context op number before

-- a new context has no thread keyring, and its session keyring is that of the context that made it, or that of its
-- uid, which HELLO makes where there is none
pub data ContextBegins (s : State) (client context : ℕ) (op : Op) (new : Context) : Type 0 where
  Greeted :
      op ≡ Hello new.caller → (new.session ≡ user_session_ring (at s.uids new.caller.uid)) ⊎ IsNew s new.session
      → ContextBegins s client context op new
  Entered :
      (c : Context) → (op ≡ Thread) ⊎ (op ≡ Fork) → context_of s client context ≡ Ok c → new.caller ≡ c.caller
      → new.session ≡ c.session → ContextBegins s client context op new

-- no context is of the process, or of the uid
abbrev pub HasNone : (Context → ℕ) → State → ℕ → Type 0
HasNone whose s n = (number : ℕ) (c : Context) → at s.contexts number ≡ Some c → whose c ≢ n

-- what an event does to attachments it does by right, told by the state as the ask meets it
pub record AttachesByRight (s : State) (event : Event) (new : State) : Type 0 where
  pub stays : (number : ℕ) (before after : Context) → at s.contexts number ≡ Some before
      → at new.contexts number ≡ Some after
      → ContextStays s event.lane event.ask.context event.ask.op number before after
  pub ends : (number : ℕ) (before : Context) → at s.contexts number ≡ Some before → at new.contexts number ≡ None
      → ContextEnds s event.lane event.ask.context event.ask.op number before
  pub begins : (number : ℕ) (c : Context) → at s.contexts number ≡ None → at new.contexts number ≡ Some c
      → (c.client ≡ event.lane) × (c.thread ≡ None) × ContextBegins s event.lane event.ask.context event.ask.op c
  -- a process keyring goes by EXEC in a context of the process, and comes new; a process goes with its last context
  pub process : (number : ℕ) (before after : Option ℕ) → at s.processes number ≡ Some before
      → at new.processes number ≡ Some after
      → Stays s event.lane event.ask.context event.ask.op before after
      ⊎ ((c : Context) × (context_of s event.lane event.ask.context ≡ Ok c) × (c.process ≡ number)
      × ThreadChanges s event.ask.op before after)
  pub process_begins : (number : ℕ) (ring : Option ℕ) → at s.processes number ≡ None
      → at new.processes number ≡ Some ring → ring ≡ None
  pub process_ends : (number : ℕ) → at new.processes number ≡ None → HasNone (λ c. c.process) new number
  -- the keyrings of a uid go with its last context
  pub user : (uid : ℕ) (before after : UidRings) → at s.uids uid ≡ Some before → at new.uids uid ≡ Some after
      → Stays s event.lane event.ask.context event.ask.op before.user after.user
      × Stays s event.lane event.ask.context event.ask.op before.session after.session
  pub user_ends : (uid : ℕ) → at new.uids uid ≡ None → HasNone (λ c. c.caller.uid) new uid
  pub user_begins : (uid : ℕ) (rings : UidRings) → at s.uids uid ≡ None → at new.uids uid ≡ Some rings
      → IsNew s rings.user × IsNew s rings.session

-- ---- queues and watches
-- A queue that stays is whose it was, and holds as many. Its filter stays, or its own client sets this one
pub record QueueStays (client : ℕ) (op : Op) (number : ℕ) (before after : Queue) : Type 0 where
  pub same_client : after.client ≡ before.client
  pub same_capacity : after.capacity ≡ before.capacity
  pub filter : (after.filter ≡ before.filter)
      ⊎ ((before.client ≡ client)
      × ((entries : List FilterEntry) × (op ≡ SetFilter number entries) × (after.filter ≡ Some entries)))

-- a new queue is of the client that opens it, holds as many as asked, and has no filter
pub record QueueBegins (client : ℕ) (op : Op) (queue : Queue) : Type 0 where
  pub own : queue.client ≡ client
  pub asked : op ≡ OpenQueue queue.capacity
  pub filter : queue.filter ≡ None

-- what an event does to queues and watches it does by right
pub record QueuesByRight (s : State) (event : Event) (new : State) : Type 0 where
  -- a queue ends by CLOSE_QUEUE or LEAVE of its own client
  pub ends : (number : ℕ) (queue : Queue) → at s.queues number ≡ Some queue → at new.queues number ≡ None
      → (queue.client ≡ event.lane) × ((event.ask.op ≡ CloseQueue number) ⊎ (event.ask.op ≡ Leave))
  pub stays : (number : ℕ) (before after : Queue) → at s.queues number ≡ Some before
      → at new.queues number ≡ Some after → QueueStays event.lane event.ask.op number before after
  pub begins : (number : ℕ) (queue : Queue) → at s.queues number ≡ None → at new.queues number ≡ Some queue
      → QueueBegins event.lane event.ask.op queue
  -- a watch ends with its queue, with its key, or by WATCH with -1 of the owner of its queue
  pub watches : (w : queues.Watch) → IsWatched w s.watches
      → IsWatched w new.watches ⊎ (at new.queues w.0.1 ≡ None) ⊎ (at new.keys w.0.0 ≡ None)
      ⊎ ((id : ℤ) × (event.ask.op ≡ Watch id w.0.1 (negsuc zero))
      × Names s event.lane event.ask.context id w.0.0 × OwnsQueue s event.lane w.0.1)

-- so it is of each event in each history from this state on, at the moment of the event
abbrev pub AllAttachesByRight : State → Type 0
AllAttachesByRight start =
    (before : List Event) (old : State) → IsLegal start before old
    → (event : Event) (new : State) → Step old event new → AttachesByRight (raised old event.moment) event new

abbrev pub AllQueuesAreByRight : State → Type 0
AllQueuesAreByRight start =
    (before : List Event) (old : State) → IsLegal start before old
    → (event : Event) (new : State) → Step old event new → QueuesByRight (raised old event.moment) event new
