-- What an accepted ask does to contexts, processes and uids.
use Rattle.std.proofs.Common.{◌+◌, ◌≡◌, List, None, Ok, Option, refl, Result, Some, subst, ℕ, ℤ}
use Rattle.krs_types.specs.declared.ask.Op.{Op, TheVariants.{Exec, Exit, Fork, Hello, Invalidate, Join}}
use Rattle.krs_types.specs.declared.ask.Op.TheVariants.{Leave, Thread}
use Rattle.krs_types.specs.declared.{caller.Caller.Caller, context.{Context.Context, UidRings.UidRings}}
use Rattle.krs_types.specs.declared.{errno.Errno.Errno, key_id.KeyId.KeyId, rights.Want.TheVariants.Granted}
use Rattle.krs_types.specs.{KeyId.key_id_of, Rights.SEARCH}
use Rattle.krs_model.specs.Asks.{Entering.{execed, without_thread}, Hello.has_context_left}
use Rattle.krs_model.specs.Asks.Joining.{joinable, session_to}
use Rattle.krs_model.specs.Asks.{Invalidating.{context_without, detached, rings_without}, Leaving.{exited, left}}
use Rattle.krs_model.specs.{Asks.Linked.linked_into, Lookup.{context_of, look_up}, Making.{made_for, thread_to}}
use Rattle.krs_model.specs.{Possession.process_ring}
use Rattle.krs_model.specs.{Search.found, State.{Key, State}, Table.{alter, at, map_values, put, Table}}
use Rattle.krs_model.proofs.{Asks.LaterByAsk.linked_into_is, MadeKeyring.Which.{IsMade, made_for_is, NoneMade}}
use Rattle.krs_model.proofs.MadeKeyring.Which.{ProcessMade, ThreadMade}

-- a context in a process of its own
abbrev pub entering : State → ℕ → Caller → Option ℕ → Context
entering s client c session =
    record { client = client; process = s.next_context; caller = c; thread = None; session = session }

-- another context in the place of one, of the same client, process and caller
pub record StaysWhose (f : Context → Context) : Type 0 where
  pub client : (v : Context) → (f v).client ≡ v.client
  pub process : (v : Context) → (f v).process ≡ v.process
  pub caller : (v : Context) → (f v).caller ≡ v.caller

-- HELLO names the caller, who is known, and FORK's is that of the context that asks, with its session keyring
pub data EntersAs (s : State) (client context : ℕ) (op : Op) : Caller → Option ℕ → Type 0 where
  Named :
      (c : Caller) (rings : UidRings) → op ≡ Hello c → at s.uids c.uid ≡ Some rings
      → EntersAs s client context op c rings.session
  Forked : (d : Context) → op ≡ Fork → context_of s client context ≡ Ok d
      → EntersAs s client context op d.caller d.session

-- the asking context gets a thread keyring, where it has none; or JOIN changes its session keyring
pub data Altering (s : State) (c : Context) (op : Op) : (Context → Context) → Type 0 where
  GetsThread : c.thread ≡ None → Altering s c op (thread_to s.next_serial)
  JoinsFound : (name : List ℕ) (found : ℕ × Key) → op ≡ Join name → joinable s c.caller name ≡ Some found
      → Altering s c op (session_to found.0)
  JoinsNew : (name : List ℕ) → op ≡ Join name → Altering s c op (session_to s.next_serial)

-- the keyrings of a uid that had none
abbrev pub first_rings : State → UidRings
first_rings s = record { user = Some s.next_serial; session = Some (s.next_serial + 1) }

-- what an accepted ask does to contexts, processes and uids
pub data Houses (s : State) (client context : ℕ) (op : Op)
    : Table Context → Table (Option ℕ) → Table UidRings → Type 0 where
  Same : Houses s client context op s.contexts s.processes s.uids
  Begins :
      (c : Caller) (session : Option ℕ) (rings : UidRings) (room : Unit {0}) → op ≡ Hello c → at s.uids c.uid ≡ None
      → has_context_left s client ≡ Ok room → (session ≡ rings.session) × (rings ≡ first_rings s)
      → Houses s client context op (put s.contexts s.next_context (entering s client c session))
      (put s.processes s.next_context None) (put s.uids c.uid rings)
  Enters :
      (c : Caller) (session : Option ℕ) (room : Unit {0}) → EntersAs s client context op c session
      → has_context_left s client ≡ Ok room
      → Houses s client context op (put s.contexts s.next_context (entering s client c session))
      (put s.processes s.next_context None) s.uids
  Threads :
      (c : Context) (room : Unit {0}) → op ≡ Thread → context_of s client context ≡ Ok c
      → has_context_left s client ≡ Ok room
      → Houses s client context op (put s.contexts s.next_context (without_thread c)) s.processes s.uids
  Alters :
      (c : Context) (f : Context → Context) → context_of s client context ≡ Ok c → StaysWhose f → Altering s c op f
      → Houses s client context op (alter s.contexts context f) s.processes s.uids
  Rings :
      (c : Context) (n : ℕ) → context_of s client context ≡ Ok c
      → (process_ring s c.process ≡ None) × (n ≡ s.next_serial)
      → Houses s client context op s.contexts (alter s.processes c.process (λ none. Some n)) s.uids
  Execs :
      (c : Context) → op ≡ Exec → context_of s client context ≡ Ok c
      → Houses s client context op (execed s context c).contexts (execed s context c).processes s.uids
  Detaches :
      (c : Context) (id : ℤ) (gone : ℕ × Key) → op ≡ Invalidate id → context_of s client context ≡ Ok c
      → look_up s c id (Granted SEARCH) ≡ Ok gone
      → Houses s client context op (map_values (context_without gone.0) s.contexts)
      (map_values (detached gone.0) s.processes) (map_values (rings_without gone.0) s.uids)
  Exits :
      (c : Context) → op ≡ Exit → context_of s client context ≡ Ok c
      → Houses s client context op (exited s context c).contexts (exited s context c).processes
      (exited s context c).uids
  Departs :
      op ≡ Leave
      → Houses s client context op (left s client).contexts (left s client).processes (left s client).uids

-- what the state that an ask comes to has of them
abbrev pub HousesIn : State → ℕ → ℕ → Op → State → Type 0
HousesIn s client context op new = Houses s client context op new.contexts new.processes new.uids

is_made_houses :
    (s : State) (client number : ℕ) (op : Op) (c : Context) (id : Result KeyId Errno) (made : State × Context)
    → context_of s client number ≡ Ok c → IsMade s number c id made → HousesIn s client number op made.0
is_made_houses s client number op c id _ own NoneMade = Same
is_made_houses s client number op c id _ own (ThreadMade is none) =
    Alters c (thread_to s.next_serial) own (record { client = λ v. refl; process = λ v. refl; caller = λ v. refl })
    (GetsThread none)
is_made_houses s client number op c id _ own (ProcessMade is none) = Rings c s.next_serial own (none, refl)

pub made_houses :
    (s : State) (client number : ℕ) (op : Op) (c : Context) (id : ℤ) → context_of s client number ≡ Ok c
    → HousesIn s client number op (made_for s number c id).0
made_houses s client number op c id own =
    is_made_houses s client number op c (key_id_of id) (made_for s number c id) own (made_for_is s number c id)

-- a link is of no account
pub linked_houses :
    (s t : State) (client context : ℕ) (op : Op) (into found : ℕ × Key) (new : State)
    → linked_into t into found ≡ Ok new → HousesIn s client context op t → HousesIn s client context op new
linked_houses s t client context op into found new is h =
    subst (HousesIn s client context op) (linked_into_is t into found new is).is h
