-- ADD: a new key in a keyring, or a new payload for the key that stands there. add_key(2).
use Rattle.std.specs.Prelude.{[], ◌&&◌, ◌+◌, ◌≡◌, Err, false, if◌then◌else◌, List, nat_lt, None, Ok, Option, Result}
use Rattle.std.specs.Prelude.{Some, ℕ, ℤ}
use Rattle.krs_types.specs.{Kind.{checked, kind_named, row_of, same_kind}, Refusing.◌>>=◌}
use Rattle.krs_types.specs.{Rights.{has_all, WRITE}, declared.ask.Answer.TheVariants.Number}
use Rattle.krs_types.specs.declared.{context.Context.Context, errno.Errno.{Errno, TheVariants.{EACCES, ENOSPC, EPERM}}}
use Rattle.krs_types.specs.declared.kind.Kind.{Kind, TheVariants.Keyring}
use Rattle.krs_types.specs.declared.{name.Name.Name, rights.Want.TheVariants.Granted}
use Rattle.krs_model.specs.{Access.{is_alive, rights_on}, Asks.Changing.{changed, is_updatable, updated}}
use Rattle.krs_model.specs.{Asks.Linked.unless, Linking.{has_room, link_named, linking, ring_links}}
use Rattle.krs_model.specs.{Lookup.{context_of, look_up}, Making.made_for, Outcome.Outcome, Possession.possessed}
use Rattle.krs_model.specs.{State.{Content, Key, Links, Payload, State}, Table.{alter, at, put}}

-- what is asked for is a key that may be made, and this is its name
unfoldable pub admitted : List ℕ → List ℕ → List ℕ → Result Name Errno
admitted type_name desc payload = do
  kind ← kind_named type_name
  fit ← checked kind desc payload
  Ok (record { kind = kind; desc = desc })

-- where an added key goes: it is the new payload of that key, or a new key in that keyring
pub data Place : Type 0 where
  Updated : ℕ → Place
  Made : ℕ → Place

-- a new key, where the keyring is not closed and has room, and a serial is left: profile, closed keyrings; profile,
-- full keyrings; profile, serials run out
abbrev pub if_room : State → ℕ × Key → List ℕ → Option ℕ → Result Place Errno
if_room s ring links displaced = do
  unclosed ← unless ring.1.closed EPERM
  room ← has_room links displaced
  if nat_lt 2147483647 s.next_serial then Err ENOSPC else Ok (Made ring.0)

-- a match that is alive and can be updated is updated, where it grants WRITE; any other is displaced: profile, dead
-- matches are displaced
abbrev pub over_match : State → Context → ℕ × Key → List ℕ → ℕ → Option Key → Result Place Errno
over_match s c ring links found None = if_room s ring links None
over_match s c ring links found (Some key) =
    if is_alive s.clock key && is_updatable key.kind
    then (if has_all (rights_on key c.caller (possessed s c found)) WRITE then Ok (Updated found) else Err EACCES)
    else if_room s ring links (Some found)

-- where the key goes, with a match in the keyring or without one: add_key(2)
abbrev pub by_match : State → Context → ℕ × Key → List ℕ → Option ℕ → Result Place Errno
by_match s c ring links None = if_room s ring links None
by_match s c ring links (Some found) = over_match s c ring links found (at s.keys found)

-- the keyring may be written, and this is where the key goes in it
unfoldable pub place_of : State → Context → Name → ℤ → Result Place Errno
place_of s c name ring = do
  found ← look_up s c ring (Granted WRITE)
  links ← ring_links found.1.content
  by_match s c found links (link_named s.keys name links)

-- 3f010000, for a logon key 3d010000: profile, masks of new keys
abbrev pub first_perm : Kind → ℕ
first_perm kind = (row_of kind).perm

-- a keyring is made empty
abbrev pub first_content : Kind → List ℕ → Content
first_content kind payload = if same_kind kind Keyring then Links [] else Payload payload

-- a key of its maker's uid and gid
abbrev pub new_key : Name → List ℕ → ℕ → ℕ → Key
new_key name payload uid gid = record {
  kind = name.kind;
  desc = name.desc;
  uid = uid;
  gid = gid;
  perm = first_perm name.kind;
  expiry = None;
  revoked = false;
  joined = false;
  closed = false;
  content = first_content name.kind payload;
}

-- a new key of that name under the next serial, linked by that keyring
abbrev pub made : State → ℕ → Name → Key → State
made s ring name key = record s {
  keys = alter (put s.keys s.next_serial key) ring (linking s.keys name s.next_serial);
  next_serial = s.next_serial + 1;
}

-- the key at a serial is a keyring
abbrev pub IsKeyringAt : State → ℕ → Type 0
IsKeyringAt s serial = (key : Key) × (at s.keys serial ≡ Some key) × (links : List ℕ) × (key.content ≡ Links links)

-- the match with the new payload, or a new key of the caller in the keyring: add_key(2)
abbrev pub added : State → Context → Name → List ℕ → Place → State
added s c name payload (Updated serial) = changed s serial (updated payload)
added s c name payload (Made ring) = made s ring name (new_key name payload c.caller.uid c.caller.gid)

-- the serial of the key that was updated or made
abbrev pub added_serial : State → Place → ℕ
added_serial s (Updated serial) = serial
added_serial s (Made ring) = s.next_serial

-- a key of that name in a keyring that is there or counts as made: profile, counts as made
abbrev pub added_in : State → Context → Name → List ℕ → ℤ → Outcome
added_in s c name payload ring = do
  place ← place_of s c name ring
  Ok (added s c name payload place, Number (added_serial s place))

-- a key in a keyring, which is made where it is wanted: add_key(2)
unfoldable pub add : State → ℕ → ℕ → List ℕ → List ℕ → List ℕ → ℤ → Outcome
add s client context type_name desc payload ring = do
  c ← context_of s client context
  name ← admitted type_name desc payload
  added_in (made_for s context c ring).0 (made_for s context c ring).1 name payload ring
