-- Which keys a user has to itself, when one of them is given away, and what nobody else does to them: keyrings(7),
-- "Possession" and "Access rights". The form is this project's own.
use Rattle.std.specs.Prelude.{[], ◌&&◌, ◌++◌, ◌<◌, ◌==◌, ◌||◌, ◌∷◌, ◌≡◌, ◌≢◌, ◌⊎◌, Bool, false, flat_map, if◌then◌else◌}
use Rattle.std.specs.Prelude.{List, nat_le, nat_lt, Ok, option_map, option_to_list, Some, true, ℕ, ℤ}
use Rattle.krs_types.specs.Growth.{has_destination}
use Rattle.krs_types.specs.{Perm.{group_byte, other_byte}, declared.ask.Op.{Op, TheVariants.{Add, Chown, GetId, Hello}}}
use Rattle.krs_types.specs.declared.ask.Op.TheVariants.{Invalidate, Join, Leave, Link, Move, Request, Search, SetPerm}
use Rattle.krs_types.specs.declared.{context.{Context.Context, UidRings.UidRings}, event.Event.Event}
use Rattle.krs_model.specs.{Asks.Linked.without_link, Hiding.{Hides, Hiding}, History.IsLegal, Levels.is_in}
use Rattle.krs_model.specs.{Lookup.{context_of, serial_of}, Making.made_for, Reach.links_of_key_at}
use Rattle.krs_model.specs.{Revocation.{IsServed, Reads}, Secrecy.{AreAskedAlike, IsShown, replies_to}}
use Rattle.krs_model.specs.{State.{Key, State}, Step.Step, Table.{at, Table}}

-- the key is this uid's, and its mask gives nothing to its group and nothing to the others, as that of each new key
abbrev pub is_own : ℕ → Key → Bool
is_own uid key = (key.uid == uid) && ((group_byte key.perm == 0) && (other_byte key.perm == 0))

-- the thread and session keyring of a context of another uid
abbrev pub foreign_keys : ℕ → Context → List ℕ
foreign_keys uid c = if c.caller.uid == uid then [] else option_to_list c.thread ++ option_to_list c.session

-- the process of a context of another uid
abbrev pub foreign_process : ℕ → Context → List ℕ
foreign_process uid c = if c.caller.uid == uid then [] else c.process ∷ []

-- each of these keys is the uid's own, and a key among them is linked only by keyrings among them
pub record AreEnclosed (uid : ℕ) (private : ℕ → Bool) (keys : Table Key) : Type 0 where
  pub own : (k : ℕ) (key : Key) → private k ≡ true → at keys k ≡ Some key → is_own uid key ≡ true
  pub linked : (j k : ℕ) → private k ≡ true → is_in k (links_of_key_at keys j) ≡ true → private j ≡ true

-- none of these keys is attached by a context of another uid, by a process that has one, or by another uid
pub record AreUnattached (uid : ℕ) (private : ℕ → Bool) (s : State) : Type 0 where
  pub contexts : (k : ℕ) → private k ≡ true → is_in k (flat_map (λ e. foreign_keys uid e.1) s.contexts) ≡ true → ⊥
  pub processes : (p k : ℕ) → private k ≡ true → at s.processes p ≡ Some (Some k)
      → is_in p (flat_map (λ e. foreign_process uid e.1) s.contexts) ≡ true → ⊥
  pub uids : (v k : ℕ) (rings : UidRings) → private k ≡ true → v ≢ uid → at s.uids v ≡ Some rings
      → is_in k (option_to_list rings.user ++ option_to_list rings.session) ≡ true → ⊥

-- These keys the uid has to itself: they were made, each is its own, and no context of another uid comes to one, by
-- attachments or by links.
pub record HasToItself (uid : ℕ) (private : ℕ → Bool) (s : State) : Type 0 where
  pub made : (k : ℕ) → private k ≡ true → k < s.next_serial
  pub enclosed : AreEnclosed uid private s.keys
  pub unattached : AreUnattached uid private s

-- the client's context of this number is one of the uid
pub record ActsAs (uid : ℕ) (s : State) (client number : ℕ) : Type 0 where
  pub context : Context
  pub there : context_of s client number ≡ Ok context
  pub own : context.caller.uid ≡ uid

-- an ask in a context of this uid; LEAVE is in all contexts of its client
pub record IsAskedBy (uid : ℕ) (s : State) (event : Event) : Type 0 where
  pub number : ℕ
  pub acts : ActsAs uid s event.lane number
  pub asks : (number ≡ event.ask.context) ⊎ (event.ask.op ≡ Leave)

-- the asks that may give a key away: its mask or its owner is set, or it is linked from a further keyring
abbrev pub may_give : Op → Bool
may_give (SetPerm id mask) = true
may_give (Chown id uid gid) = true
may_give (Link key ring) = true
may_give (Move key from to flags) = true
may_give (Search head type_name desc dest) = has_destination dest
may_give (Request type_name desc dest) = has_destination dest
may_give op = false

-- one of these keys is no longer the uid's own, or a keyring that is none of them links it
pub record IsGivenAway (uid : ℕ) (private : ℕ → Bool) (keys : Table Key) : Type 0 where
  pub serial : ℕ
  pub own : private serial ≡ true
  pub how : ((key : Key) × (at keys serial ≡ Some key) × (is_own uid key ≡ false))
      ⊎ ((ring : ℕ) × (private ring ≡ false) × (is_in serial (links_of_key_at keys ring) ≡ true))

-- an ask in a context of the uid gives one of these keys away
pub record GivesAway (uid : ℕ) (private : ℕ → Bool) (old : State) (event : Event) (new : State) : Type 0 where
  pub asked : IsAskedBy uid old event
  pub may : may_give event.ask.op ≡ true
  pub given : IsGivenAway uid private new.keys

-- an accepted INVALIDATE of the key at the serial: keyctl(2), KEYCTL_INVALIDATE
abbrev pub Invalidates : State → Event → ℕ → Type 0
Invalidates s event serial = IsServed s event Invalidate serial

-- the ask invalidates a key that is none of these, which goes out of the keyrings among them
pub record TakesOut (private : ℕ → Bool) (old : State) (event : Event) (new : State) : Type 0 where
  pub gone : ℕ
  pub invalidates : Invalidates old event gone
  pub other : private gone ≡ false
  pub rest : (k : ℕ) → private k ≡ true → at new.keys k ≡ option_map (without_link gone) (at old.keys k)

-- each of these keys is there where it was, and is as it was, with its payload and its links; only that a key which the
-- ask invalidates, none of these, goes out of the keyrings among them
abbrev pub AreUnchanged : (ℕ → Bool) → State → Event → State → Type 0
AreUnchanged private old event new =
    ((k : ℕ) → private k ≡ true → at new.keys k ≡ at old.keys k) ⊎ TakesOut private old event new

-- the asks that may make a key
abbrev pub may_make : Op → Bool
may_make (Hello caller) = true
may_make (GetId id create) = create
may_make (Join name) = true
may_make (Search head type_name desc dest) = has_destination dest
may_make (Request type_name desc dest) = has_destination dest
may_make (Add type_name desc payload ring) = true
may_make (Link key ring) = true
may_make (Move key from to flags) = true
may_make op = false

-- an ask for this uid: HELLO names it, and any other ask is in a context of it
abbrev pub IsFor : ℕ → State → ℕ → ℕ → Op → Type 0
IsFor uid s client context (Hello caller) = caller.uid ≡ uid
IsFor uid s client context op = ActsAs uid s client context

-- these keys, and those that were made between the two states
abbrev pub with_made : (ℕ → Bool) → State → State → ℕ → Bool
with_made private old new k = private k || (nat_le old.next_serial k && nat_lt k new.next_serial)

-- the keyring that an id stands for is one of these, or is made for it
abbrev pub IsWithin : (ℕ → Bool) → State → ℕ → Context → ℤ → Type 0
IsWithin private s number c ring =
    (into : ℕ) → serial_of (made_for s number c ring).0 (made_for s number c ring).1 ring ≡ Ok into
    → (private into || nat_le s.next_serial into) ≡ true

-- an ask for this uid that makes keys and gives none away: HELLO, GET_ID and JOIN link none from a keyring that was
-- there, and ADD puts its key into a keyring that the uid has to itself, or that the ask makes
abbrev pub MakesForItself : ℕ → (ℕ → Bool) → State → ℕ → ℕ → Op → Type 0
MakesForItself uid private s client context (Hello caller) = caller.uid ≡ uid
MakesForItself uid private s client context (GetId id create) = (create ≡ true) × ActsAs uid s client context
MakesForItself uid private s client context (Join name) = ActsAs uid s client context
MakesForItself uid private s client context (Add type_name desc payload ring) =
    (acts : ActsAs uid s client context) × IsWithin private s context acts.context ring
MakesForItself uid private s client context op = ⊥

-- Over a step a uid goes on to have keys to itself: all that it had, where no ask in a context of it gives one away; or
-- some of them, of which none is given away; or, where the ask is for it and may make keys, some of them and of those
-- that were made, of which none is given away
abbrev pub StaysPrivate : ℕ → (ℕ → Bool) → State → Event → State → (ℕ → Bool) → Type 0
StaysPrivate uid private old event new after =
    ((after ≡ private) × (GivesAway uid private old event new → ⊥))
    ⊎ (((k : ℕ) → after k ≡ true → private k ≡ true) × (IsGivenAway uid after new.keys → ⊥))
    ⊎ (((k : ℕ) → after k ≡ true → with_made private old new k ≡ true) × (may_make event.ask.op ≡ true)
    × IsFor uid old event.lane event.ask.context event.ask.op × (IsGivenAway uid after new.keys → ⊥))

-- these events lead from start to end, and the uid, which began with the first of these sets of keys to itself, goes on
-- to have the second, step by step
unfoldable pub KeepsPrivate : ℕ → (ℕ → Bool) → State → List Event → State → (ℕ → Bool) → Type 0
KeepsPrivate uid private start [] end last = (start ≡ end) × (private ≡ last)
KeepsPrivate uid private start (event ∷ events) end last =
    (next : State) × (after : ℕ → Bool) × Step start event next × StaysPrivate uid private start event next after
    × KeepsPrivate uid after next events end last

-- No user reads another's keys, unless it was given them: whoever asks whatever, each accepted READ of a key that a uid
-- has to itself, and has not given away, is in a context of that uid
abbrev pub ReadsAlone : ℕ → (ℕ → Bool) → State → Type 0
ReadsAlone uid private start =
    (before : List Event) (old : State) (last : ℕ → Bool) → KeepsPrivate uid private start before old last
    → (reading : Event) (end : State) (serial : ℕ) → last serial ≡ true → Step old reading end
    → (reads : Reads old reading serial) → reads.names.whose.caller.uid ≡ uid

-- Nobody else changes such a key, or drops it: whatever was asked before, an ask in no context of the uid leaves each
-- key that the uid has to itself, and has not given away, as it was
abbrev pub LeavesAlone : ℕ → (ℕ → Bool) → State → Type 0
LeavesAlone uid private start =
    (before : List Event) (old : State) (last : ℕ → Bool) → KeepsPrivate uid private start before old last
    → (event : Event) (new : State) → Step old event new → (IsAskedBy uid old event → ⊥)
    → AreUnchanged last old event new

-- of the events from this state, none that this client asks is in a context of the uid
abbrev pub IsStranger : ℕ → ℕ → State → List Event → Type 0
IsStranger uid client start events =
    (before later : List Event) (event : Event) (old : State) → events ≡ before ++ event ∷ later
    → IsLegal start before old → event.lane ≡ client → IsAskedBy uid old event → ⊥

-- Between users nothing flows: whatever other payloads the keys have that a uid has to itself at the end of these
-- events, a client that asks nothing in a context of the uid is told the same
abbrev pub TellsNoStranger : ℕ → (ℕ → Bool) → State → Type 0
TellsNoStranger uid private start =
    (events : List Event) (end : State) (last : ℕ → Bool) → KeepsPrivate uid private start events end last
    → (hide : Hiding) (client : ℕ) (other : State) (others : List Event) → Hides hide
    → ((n : ℕ) → last n ≡ false → IsShown hide n) → AreAskedAlike hide start other events others
    → IsStranger uid client start events → replies_to client events ≡ replies_to client others
