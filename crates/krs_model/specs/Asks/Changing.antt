-- UPDATE, SETPERM, CHOWN, SET_TIMEOUT and REVOKE: a change of one key. keyctl(2).
use Rattle.std.specs.Prelude.{[], ◌&&◌, ◌+◌, ◌==◌, ◌||◌, Bool, Err, if◌then◌else◌, List, min, None, Ok, Option}
use Rattle.std.specs.Prelude.{Result, Some, true, ℕ, ℤ}
use Rattle.krs_types.specs.{Caller.{is_of_group, unchanged}, Kind.{paid, row_of}, Perm.perm_of, Refusing.◌>>=◌}
use Rattle.krs_types.specs.{Rights.{SETATTR, WRITE}, declared.ask.Answer.TheVariants.Nothing}
use Rattle.krs_types.specs.declared.{caller.Caller.Caller, errno.Errno.{Errno, TheVariants.{EACCES, EOPNOTSUPP}}}
use Rattle.krs_types.specs.declared.kind.Kind.{Kind}
use Rattle.krs_types.specs.declared.rights.Want.TheVariants.{Either, Granted}
use Rattle.krs_model.specs.Lookup.{context_of, look_up}
use Rattle.krs_model.specs.{Outcome.Outcome, State.{Content, Key, Links, Payload, State}, Table.alter}

-- the key at a serial changed, and nothing else
abbrev pub changed : State → ℕ → (Key → Key) → State
changed s serial change = record s { keys = alter s.keys serial change }

-- another payload in the place of the one that is there; a keyring has none
abbrev pub paid_with : List ℕ → Content → Content
paid_with payload (Payload old) = Payload payload
paid_with payload (Links serials) = Links serials

-- another payload, and no expiry any more: profile, expired keys stay
abbrev pub updated : List ℕ → Key → Key
updated payload key = record key { content = paid_with payload key.content; expiry = None }

-- a keyring is not updated: KEYCTL_UPDATE, "EOPNOTSUPP"
abbrev pub is_updatable : Kind → Bool
is_updatable kind = (row_of kind).updatable

-- the type can be updated: KEYCTL_UPDATE, "EOPNOTSUPP"
abbrev pub updatable : Kind → Result Kind Errno
updatable kind = if is_updatable kind then Ok kind else Err EOPNOTSUPP

-- another payload for a key that may be written: KEYCTL_UPDATE; how long it may be: profile, update range
unfoldable pub update : State → ℕ → ℕ → ℤ → List ℕ → Outcome
update s client context id payload = do
  c ← context_of s client context
  found ← look_up s c id (Granted WRITE)
  kind ← updatable found.1.kind
  fit ← paid kind payload
  Ok (changed s found.0 (updated payload), Nothing)

-- the key with another mask
abbrev pub with_perm : ℕ → Key → Key
with_perm mask key = record key { perm = mask }

-- only the owner and uid 0 set a mask: KEYCTL_SETPERM, "EACCES"; profile, uid 0
abbrev pub if_owner : Caller → Key → Result Key Errno
if_owner caller key = if (caller.uid == 0) || (caller.uid == key.uid) then Ok key else Err EACCES

-- another mask: KEYCTL_SETPERM; the order of its refusals: profile, mask bits
unfoldable pub set_perm : State → ℕ → ℕ → ℤ → ℕ → Outcome
set_perm s client context id mask = do
  c ← context_of s client context
  found ← look_up s c id (Granted SETATTR)
  perm ← perm_of mask
  own ← if_owner c.caller found.1
  Ok (changed s found.0 (with_perm perm), Nothing)

-- what is asked for, or what is there where that is left unchanged, also both at once: profile, both ids left
abbrev pub or_left : ℕ → ℕ → ℕ
or_left asked there = if asked == unchanged then there else asked

-- the key with another uid and gid, where they are not left
abbrev pub with_owner : ℕ → ℕ → Key → Key
with_owner uid gid key = record key { uid = or_left uid key.uid; gid = or_left gid key.gid }

-- uid 0 gives a key to anybody; others leave its uid as it is, and change its gid to one of their own:
-- KEYCTL_CHOWN, "EACCES"; profile, uid 0
abbrev pub may_own : Caller → ℕ → ℕ → Key → Bool
may_own caller uid gid key =
    (caller.uid == 0)
    || ((or_left uid key.uid == key.uid) && ((or_left gid key.gid == key.gid) || is_of_group caller gid))

-- the caller may give the key this uid and gid: KEYCTL_CHOWN, "EACCES"
abbrev pub if_may_own : Caller → ℕ → ℕ → Key → Result Key Errno
if_may_own caller uid gid key = if may_own caller uid gid key then Ok key else Err EACCES

-- another owner and group: KEYCTL_CHOWN
unfoldable pub chown : State → ℕ → ℕ → ℤ → ℕ → ℕ → Outcome
chown s client context id uid gid = do
  c ← context_of s client context
  found ← look_up s c id (Granted SETATTR)
  allowed ← if_may_own c.caller uid gid found.1
  Ok (changed s found.0 (with_owner uid gid), Nothing)

-- that many seconds from now, at most the greatest moment; none for 0: profile, far timeouts
abbrev pub expiry_after : ℕ → ℕ → Option ℕ
expiry_after clock seconds = if seconds == 0 then None else Some (min (clock + seconds) 18446744073709551615)

-- the key with another expiry, or with none
abbrev pub with_expiry : Option ℕ → Key → Key
with_expiry expiry key = record key { expiry = expiry }

-- when the time of a key is over: KEYCTL_SET_TIMEOUT
unfoldable pub set_timeout : State → ℕ → ℕ → ℤ → ℕ → Outcome
set_timeout s client context id seconds = do
  c ← context_of s client context
  found ← look_up s c id (Granted SETATTR)
  Ok (changed s found.0 (with_expiry (expiry_after s.clock seconds)), Nothing)

-- a payload without bytes, or a keyring without links
abbrev pub emptied : Content → Content
emptied (Payload bytes) = Payload []
emptied (Links serials) = Links []

-- neither payload nor links are left, for good: profile, revoked keys stay
abbrev pub revoked : Key → Key
revoked key = record key { revoked = true; content = emptied key.content }

-- the end of a key, which stays where it is linked: KEYCTL_REVOKE
unfoldable pub revoke : State → ℕ → ℕ → ℤ → Outcome
revoke s client context id = do
  c ← context_of s client context
  found ← look_up s c id (Either WRITE SETATTR)
  Ok (changed s found.0 revoked, Nothing)
