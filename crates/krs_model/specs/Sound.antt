-- What holds of a store between asks: keyrings(7), "Keyrings" and "Anchoring keys"; keyctl(2), KEYCTL_LINK.
use Rattle.std.specs.Prelude.{◌≡◌, ◌≤◌, Bool, count_by, false, IsSome, List, map, Option, Some, true, ℕ}
use Rattle.krs_types.specs.{Kind.same_kind, declared.context.Context.Context}
use Rattle.krs_types.specs.declared.{context.UidRings.UidRings, kind.Kind.TheVariants.Keyring, name.Name.Name}
use Rattle.krs_model.specs.{Levels.is_in, Linking.is_named, Orderly.AreOrderly, Queues.queues_of}
use Rattle.krs_model.specs.{Reach.{IsAcyclic, links_of_key_at}, State.{Content, Key, Links, Payload, State}}
use Rattle.krs_model.specs.{Sweep.{IsSwept, roots}, Table.{at, IsBelow, Rises, Table}}

-- every link is to a key that is there
abbrev pub AllLinked : Table Key → Type 0
AllLinked keys = (j k : ℕ) → is_in k (links_of_key_at keys j) ≡ true → IsSome (at keys k)

-- every attachment is of a key that is there
abbrev pub AllAttached : State → Type 0
AllAttached s = (k : ℕ) → is_in k (roots s) ≡ true → IsSome (at s.keys k)

-- the processes of contexts
abbrev pub processes_of : Table Context → List ℕ
processes_of es = map (λ e. e.1.process) es

-- the process of every context is there
abbrev pub AllPlaced : State → Type 0
AllPlaced s = (process : ℕ) → is_in process (processes_of s.contexts) ≡ true → IsSome (at s.processes process)

-- the uids of contexts
abbrev pub uids_of : Table Context → List ℕ
uids_of es = map (λ e. e.1.caller.uid) es

-- the uid of every context is there
abbrev pub AllOwned : Table Context → Table UidRings → Type 0
AllOwned contexts uids = (uid : ℕ) → is_in uid (uids_of contexts) ≡ true → IsSome (at uids uid)

-- what holds of contexts, processes and uids between asks, where this is the next number of a context
pub record AreHoused (contexts : Table Context) (processes : Table (Option ℕ)) (uids : Table UidRings) (next : ℕ)
    : Type 0 where
  -- no context's number is given twice: profile, context numbers
  pub unused : IsBelow contexts next
  -- nor a process's, which is that of its first context: profile, context numbers
  pub no_process : IsBelow processes next
  -- a uid is there while it has a context: user-keyring(7); profile, user keyrings stay
  pub owned : AllOwned contexts uids
  -- a number is of one context: profile, context numbers
  pub contexts_rise : Rises contexts
  -- a process has one process keyring: process-keyring(7)
  pub processes_rise : Rises processes
  -- a uid has one user keyring and one user-session keyring: user-keyring(7), user-session-keyring(7)
  pub uids_rise : Rises uids

-- a context of which this holds is there
pub record HasContext (contexts : Table Context) (holds : Context → Type 0) : Type 0 where
  pub number : ℕ
  pub context : Context
  pub there : at contexts number ≡ Some context
  pub so : holds context

-- what holds of contexts, and of processes and uids, which end with them
pub record AreInUse (contexts : Table Context) (processes : Table (Option ℕ)) (uids : Table UidRings) : Type 0 where
  -- a process ends with its last context: process-keyring(7)
  pub process : (number : ℕ) → IsSome (at processes number) → HasContext contexts (λ c. c.process ≡ number)
  -- the keyrings of a uid are let go of with its last context: user-keyring(7); profile, user keyrings stay
  pub owner : (uid : ℕ) → IsSome (at uids uid) → HasContext contexts (λ c. c.caller.uid ≡ uid)
  -- the contexts of a process are of one uid: credentials(7); profile, believed caller
  pub alike : (m n : ℕ) (c d : Context) → at contexts m ≡ Some c → at contexts n ≡ Some d → c.process ≡ d.process
      → c.caller.uid ≡ d.caller.uid

-- it is links, and no payload
abbrev pub is_links : Content → Bool
is_links (Payload bytes) = false
is_links (Links serials) = true

-- a keyring has links, and any other key a payload
abbrev pub IsFitting : Key → Type 0
IsFitting key = is_links key.content ≡ same_kind key.kind Keyring

-- every key is so
abbrev pub AllFitting : Table Key → Type 0
AllFitting keys = (serial : ℕ) (key : Key) → at keys serial ≡ Some key → IsFitting key

-- a keyring links at most one key of a name
abbrev pub HasOneOfEach : Table Key → Type 0
HasOneOfEach keys = (ring : ℕ) (name : Name) → count_by (λ k. is_named name (at keys k)) (links_of_key_at keys ring) ≤ 1

-- a store between asks
pub record IsSound (s : State) : Type 0 where
  -- no keyring reaches itself: keyctl(2), KEYCTL_LINK, "EDEADLK"
  pub acyclic : IsAcyclic (links_of_key_at s.keys)
  -- a link anchors its key: keyrings(7), "Anchoring keys"
  pub linked : AllLinked s.keys
  -- and so does an attachment: keyrings(7), "Anchoring keys"
  pub attached : AllAttached s
  -- a process is there while it has a context: process-keyring(7)
  pub placed : AllPlaced s
  -- contexts, processes and uids have numbers of their own, and a uid stands with its contexts: user-keyring(7)
  pub housed : AreHoused s.contexts s.processes s.uids s.next_context
  -- and a process and a uid end with their last context: process-keyring(7), user-keyring(7)
  pub used : AreInUse s.contexts s.processes s.uids
  -- a keyring has links, and any other key a payload: keyrings(7), "Keyrings"
  pub fitting : AllFitting s.keys
  -- a serial is of one key: profile, rising serials
  pub rising : Rises s.keys
  -- a link displaces that to a key of equal type and description: keyctl(2), KEYCTL_LINK
  pub once : HasOneOfEach s.keys
  -- no serial is given twice: profile, rising serials
  pub unused : IsBelow s.keys s.next_serial
  -- and none above the last one: profile, serials run out
  pub few : IsBelow s.keys 2147483648
  -- what no attachment reaches is gone: keyrings(7), "Anchoring keys"; profile, dropped at once
  pub swept : IsSwept s
  -- watches are of queues, of which each has a number of its own: core-api/watch_queue.rst
  pub orderly : AreOrderly (queues_of s)
