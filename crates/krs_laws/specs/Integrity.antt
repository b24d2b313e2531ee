-- Each change of a key is by right: keyrings(7), "Access rights"; keyctl(2), "ERRORS", EACCES. The form is this
-- project's own.
use Rattle.std.specs.Prelude.{◌+◌, ◌≡◌, ◌≢◌, ◌⊎◌, List, min, None, Ok, Option, Some, true, ℕ, ℤ}
use Rattle.krs_types.specs.{Caller.is_of_group, Rights.{LINK, SEARCH, SETATTR, WRITE}, declared.ask.Answer.Answer}
use Rattle.krs_types.specs.declared.ask.Op.{Op, TheVariants.{Add, Chown, Clear, Hello, Invalidate, Link, Move, Request}}
use Rattle.krs_types.specs.declared.ask.Op.TheVariants.{RestrictKeyring, Revoke, Search, SetPerm, SetTimeout, Unlink}
use Rattle.krs_types.specs.declared.ask.Op.TheVariants.{Update}
use Rattle.krs_types.specs.declared.{caller.Caller.Caller, context.Context.Context, event.Event.Event, name.Name.Name}
use Rattle.krs_types.specs.declared.rights.Want.{Want, TheVariants.{Either, Granted}}
use Rattle.krs_model.specs.Asks.{Adding.admitted, Changing.emptied, Linked.unlinked_content}
use Rattle.krs_model.specs.{Confidentiality.is_own, History.IsLegal, Levels.is_in, Linking.is_named}
use Rattle.krs_model.specs.{Lookup.context_of, Reach.links_of_key_at, Revocation.Names, State.{Key, raised, State}}
use Rattle.krs_model.specs.{Step.{outcome_of, Step}, Sweep.{IsHeld, roots}, Table.at, Usable.IsUsable}

-- the context that asks has this right on the key: it grants it, and is neither revoked nor expired
pub record HasRight (s : State) (client context : ℕ) (want : Want) (serial : ℕ) : Type 0 where
  pub whose : Context
  pub own : context_of s client context ≡ Ok whose
  pub key : Key
  pub usable : IsUsable s whose want (serial, key)

-- the ask is this one of an id that names the key
abbrev pub IsAsked : State → ℕ → ℕ → Op → (ℤ → Op) → ℕ → Type 0
IsAsked s client context op of serial = (id : ℤ) × (op ≡ of id) × Names s client context id serial

-- the id is that of a key that the ask writes: of a keyring, where it links or unlinks
abbrev pub WritesAt : Op → ℤ → Type 0
WritesAt (Update at payload) id = id ≡ at
WritesAt (Clear ring) id = id ≡ ring
WritesAt (Link key ring) id = id ≡ ring
WritesAt (Unlink key ring) id = id ≡ ring
WritesAt (Move key from to flags) id = (id ≡ from) ⊎ (id ≡ to)
WritesAt (Search head type_name desc dest) id = id ≡ dest
WritesAt (Request type_name desc dest) id = id ≡ dest
WritesAt (Add type_name desc payload ring) id = id ≡ ring
WritesAt op id = ⊥

-- what ADD finds in the keyring: it has the type and description that are asked for
abbrev pub IsMatch : State → Op → ℕ → ℕ → Type 0
IsMatch s (Add type_name desc payload id) ring serial =
    (is_in serial (links_of_key_at s.keys ring) ≡ true)
    × ((name : Name) × (admitted type_name desc payload ≡ Ok name) × (is_named name (at s.keys serial) ≡ true))
IsMatch s op ring serial = ⊥

-- the ask writes the key, which it names, or which ADD finds in the keyring that it names; and the context may WRITE it
pub record IsWritten (s : State) (client context : ℕ) (op : Op) (serial : ℕ) : Type 0 where
  pub right : HasRight s client context (Granted WRITE) serial
  pub id : ℤ
  pub writes : WritesAt op id
  pub named : ℕ
  pub names : Names s client context id named
  pub is : (serial ≡ named) ⊎ IsMatch s op named serial

-- What a key holds stays as it was; or it is written; or it is emptied as the key is revoked, by WRITE or SETATTR; or
-- another key goes out of its links, which the ask invalidates, by SEARCH on that one
pub data HoldsByRight (s : State) (client context : ℕ) (op : Op) (serial : ℕ) (before after : Key) : Type 0 where
  Kept : after.content ≡ before.content → HoldsByRight s client context op serial before after
  Written : IsWritten s client context op serial → HoldsByRight s client context op serial before after
  Emptied :
      HasRight s client context (Either WRITE SETATTR) serial → after.revoked ≡ true
      → after.content ≡ emptied before.content → HoldsByRight s client context op serial before after
  Unlinked :
      (id : ℤ) (gone : ℕ) → op ≡ Invalidate id → Names s client context id gone
      → HasRight s client context (Granted SEARCH) gone → after.content ≡ unlinked_content gone before.content
      → HoldsByRight s client context op serial before after

-- when a time of so many seconds is over: never for 0, else as many after the clock, at most at the greatest moment
abbrev pub IsOverIn : ℕ → ℕ → Option ℕ → Type 0
IsOverIn clock seconds end =
    ((seconds ≡ 0) × (end ≡ None))
    ⊎ ((seconds ≢ 0) × (end ≡ Some (min (clock + seconds) 18446744073709551615)))

-- a key before an ask of this context and after it: what is changed of it the context had the right to change, and the
-- ask that changes it names the key
pub record IsByRight (s : State) (client context : ℕ) (op : Op) (serial : ℕ) (before after : Key) : Type 0 where
  -- type and description stay, and whether JOIN made it
  pub kind : after.kind ≡ before.kind
  pub desc : after.desc ≡ before.desc
  pub joined : after.joined ≡ before.joined
  -- payload and links
  pub content : HoldsByRight s client context op serial before after
  -- uid 0 alone gives a key to another owner: KEYCTL_CHOWN, "EACCES"
  pub uid : (after.uid ≡ before.uid)
      ⊎ ((right : HasRight s client context (Granted SETATTR) serial) × (right.whose.caller.uid ≡ 0)
      × ((gid : ℕ) × IsAsked s client context op (λ id. Chown id after.uid gid) serial))
  -- and others to a group of their own
  pub gid : (after.gid ≡ before.gid)
      ⊎ ((right : HasRight s client context (Granted SETATTR) serial)
      × ((right.whose.caller.uid ≡ 0) ⊎ (is_of_group right.whose.caller after.gid ≡ true))
      × ((uid : ℕ) × IsAsked s client context op (λ id. Chown id uid after.gid) serial))
  -- the owner and uid 0 alone set a mask: KEYCTL_SETPERM, "EACCES"
  pub perm : (after.perm ≡ before.perm)
      ⊎ ((right : HasRight s client context (Granted SETATTR) serial)
      × ((right.whose.caller.uid ≡ 0) ⊎ (right.whose.caller.uid ≡ before.uid))
      × IsAsked s client context op (λ id. SetPerm id after.perm) serial)
  -- KEYCTL_SET_TIMEOUT; another payload ends a timeout: profile, expired keys stay
  pub expiry : (after.expiry ≡ before.expiry)
      ⊎ (HasRight s client context (Granted SETATTR) serial × ((seconds : ℕ)
      × IsAsked s client context op (λ id. SetTimeout id seconds) serial × IsOverIn s.clock seconds after.expiry))
      ⊎ ((after.expiry ≡ None) × IsWritten s client context op serial)
  -- for good: KEYCTL_REVOKE
  pub revoked : (after.revoked ≡ before.revoked)
      ⊎ ((after.revoked ≡ true) × HasRight s client context (Either WRITE SETATTR) serial
      × IsAsked s client context op Revoke serial)
  -- for good: profile, closed keyrings
  pub closed : (after.closed ≡ before.closed)
      ⊎ ((after.closed ≡ true) × HasRight s client context (Granted SETATTR) serial
      × ((type_name : List ℕ) × IsAsked s client context op (λ id. RestrictKeyring id type_name) serial))

-- HELLO is an ask of the caller that it names, and any other ask of the caller of its context
abbrev pub AsksAs : State → ℕ → ℕ → Op → Caller → Type 0
AsksAs s client context (Hello named) caller = named ≡ caller
AsksAs s client context op caller = (c : Context) × (context_of s client context ≡ Ok c) × (c.caller ≡ caller)

-- a new key is its maker's, of uid and gid, and gives no right to the group nor to others
pub record IsMadeBy (s : State) (client context : ℕ) (op : Op) (key : Key) : Type 0 where
  pub caller : Caller
  pub asks : AsksAs s client context op caller
  pub own : is_own caller.uid key ≡ true
  pub gid : key.gid ≡ caller.gid

-- nothing holds the key any more, neither an attachment nor a held keyring, once the ask has done its work:
-- keyrings(7), "Anchoring keys"
pub record IsLetGo (s : State) (event : Event) (serial : ℕ) : Type 0 where
  pub left : State
  pub answer : Answer
  pub meant : outcome_of s event.lane event.ask.context event.ask.op ≡ Ok (left, answer)
  pub unheld : IsHeld left.keys (roots left) serial → ⊥

-- what an event does to keys it does by right, told by the state as the ask meets it
pub record ChangesByRight (s : State) (event : Event) (new : State) : Type 0 where
  -- of a key that stays each part is as it was, or the context may change it
  pub changed : (serial : ℕ) (before after : Key) → at s.keys serial ≡ Some before → at new.keys serial ≡ Some after
      → IsByRight s event.lane event.ask.context event.ask.op serial before after
  -- a key that comes is its maker's
  pub made : (serial : ℕ) (key : Key) → at s.keys serial ≡ None → at new.keys serial ≡ Some key
      → IsMadeBy s event.lane event.ask.context event.ask.op key
  -- a key that a keyring links and didn't is alive and may be linked, or is new: KEYCTL_LINK, "EACCES"
  pub linked : (ring serial : ℕ) → is_in serial (links_of_key_at new.keys ring) ≡ true
      → (is_in serial (links_of_key_at s.keys ring) ≡ true)
      ⊎ (at s.keys serial ≡ None) ⊎ HasRight s event.lane event.ask.context (Granted LINK) serial
  -- a key that goes is held no more
  pub gone : (serial : ℕ) (before : Key) → at s.keys serial ≡ Some before → at new.keys serial ≡ None
      → IsLetGo s event serial

-- so it is of each event in each history from this state on, at the moment of the event
abbrev pub AllChangesAreByRight : State → Type 0
AllChangesAreByRight start =
    (before : List Event) (old : State) → IsLegal start before old
    → (event : Event) (new : State) → Step old event new → ChangesByRight (raised old event.moment) event new
