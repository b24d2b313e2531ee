-- From a key id to the key that it names, with the right that an ask wants, or the refusal that comes first:
-- keyctl(2), "ERRORS"; their order: profile, order of a look-up.
use Rattle.std.specs.Prelude.{◌==◌, Err, if◌then◌else◌, None, Ok, Option, Result, Some, ℕ, ℤ}
use Rattle.krs_types.specs.{KeyId.key_id_of, Refusing.{◌>>=◌, or_refuse}, Rights.allows}
use Rattle.krs_types.specs.declared.context.{Context.Context, UidRings.UidRings}
use Rattle.krs_types.specs.declared.errno.Errno.{Errno, TheVariants.{EACCES, EKEYEXPIRED, EKEYREVOKED, ENOKEY, ESRCH}}
use Rattle.krs_types.specs.declared.key_id.KeyId.{KeyId}
use Rattle.krs_types.specs.declared.key_id.KeyId.TheVariants.{Process, Serial, Session, Thread, User, UserSession}
use Rattle.krs_types.specs.declared.rights.Want.{Want}
use Rattle.krs_model.specs.Access.{is_over, rights_on}
use Rattle.krs_model.specs.{Possession.{possessed, process_ring}, State.{Key, State}, Table.at}

-- the context is the client's
abbrev pub if_own : ℕ → Context → Result Context Errno
if_own client c = if c.client == client then Ok c else Err ESRCH

-- the context of that number, where it is the client's: profile, foreign contexts
unfoldable pub context_of : State → ℕ → ℕ → Result Context Errno
context_of s client number = do
  c ← or_refuse ESRCH (at s.contexts number)
  if_own client c

-- the user keyring that a uid attaches: user-keyring(7)
abbrev pub user_ring : Option UidRings → Option ℕ
user_ring None = None
user_ring (Some rings) = rings.user

-- the user-session keyring that a uid attaches: user-session-keyring(7)
abbrev pub user_session_ring : Option UidRings → Option ℕ
user_session_ring None = None
user_session_ring (Some rings) = rings.session

-- the serial that a key id stands for: keyctl(2), KEYCTL_GET_KEYRING_ID. The process keyring is that of all contexts
-- of the process, whenever it was made: profile, late process keyring
abbrev pub attachment : State → Context → KeyId → Option ℕ
attachment s c (Serial n) = Some n
attachment s c Thread = c.thread
attachment s c Process = process_ring s c.process
attachment s c Session = c.session
attachment s c User = user_ring (at s.uids c.caller.uid)
attachment s c UserSession = user_session_ring (at s.uids c.caller.uid)

-- the serial of an id: EINVAL where it is no key id, ENOKEY where it stands for none
unfoldable pub serial_of : State → Context → ℤ → Result ℕ Errno
serial_of s c id = do
  named ← key_id_of id
  or_refuse ENOKEY (attachment s c named)

-- the key may be used: it is not revoked, not expired, and grants what is wanted
abbrev pub if_usable : State → Context → Want → ℕ → Key → Result (ℕ × Key) Errno
if_usable s c want serial key =
    if key.revoked then Err EKEYREVOKED
    else if is_over s.clock key.expiry then Err EKEYEXPIRED
    else if allows want (rights_on key c.caller (possessed s c serial)) (possessed s c serial) then Ok (serial, key)
    else Err EACCES

-- the key that an id names, and its serial
unfoldable pub look_up : State → Context → ℤ → Want → Result (ℕ × Key) Errno
look_up s c id want = do
  serial ← serial_of s c id
  key ← or_refuse ENOKEY (at s.keys serial)
  if_usable s c want serial key
