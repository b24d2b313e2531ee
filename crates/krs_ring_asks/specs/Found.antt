-- What the store makes of a key that a search or a request found.
use Rattle.std.specs.Prelude.{Err, if◌then◌else◌, Ok, Result, ℕ, ℤ}
use Rattle.krs_types.specs.Refusing.{◌>>=◌, or_refuse}
use Rattle.krs_types.specs.{Rights.{has_all, LINK, SEARCH}, declared.ask.Answer.TheVariants.Number}
use Rattle.krs_types.specs.declared.{context.Context.Context, errno.Errno.{Errno, TheVariants.{EACCES, ENOKEY, EPERM}}}
use Rattle.krs_types.specs.declared.{name.Name.Name, rights.Want.TheVariants.Granted}
use Rattle.krs_model.specs.{Access.rights_on, Asks.Changing.changed}
use Rattle.krs_model.specs.Asks.{Finding.{requested_for, searched_for}, Linked.{name_of, nestable, unless}}
use Rattle.krs_model.specs.{Linking.{linking, ring_links}, Lookup.{context_of, look_up}, Making.within_serials}
use Rattle.krs_model.specs.{Outcome.Outcome, Possession.possessed, Search.found, State.{Key, State}, Table.at}
use Rattle.krs_tables.specs.Linked.{room_in}

-- what a search finds from the head on, which is a keyring
abbrev pub found_below : State → Context → ℕ × Key → Name → Result ℕ Errno
found_below s c head name = do
  links ← ring_links head.1.content
  found s c head.0 name

abbrev pub if_granted : State → Context → ℕ → Key → Result Key Errno
if_granted s c serial key =
    if has_all (rights_on key c.caller (possessed s c serial)) LINK then Ok key else Err EACCES

-- the key at a serial, which grants LINK
abbrev pub linkable : State → Context → ℕ → Result Key Errno
linkable s c serial = do
  key ← or_refuse ENOKEY (at s.keys serial)
  if_granted s c serial key

-- it is linked by a keyring
abbrev pub link_found : State → ℕ → ℕ → ℕ → ℕ → Outcome
link_found s client context into serial = do
  c ← context_of s client context
  key ← linkable s c serial
  ring ← or_refuse ENOKEY (at s.keys into)
  unclosed ← unless ring.closed EPERM
  nests ← nestable s.keys into serial
  room ← room_in s.keys into (name_of key)
  Ok (changed s into (linking s.keys (name_of key) serial), Number serial)

-- a search for what is sought, or its refusal
unfoldable pub search_named : State → ℕ → ℕ → ℤ → Result Name Errno → ℤ → Outcome
search_named s client number head sought dest = do
  c ← context_of s client number
  name ← sought
  from ← look_up s c head (Granted SEARCH)
  within_serials s (searched_for s number c from name dest)

-- a request for what is sought, or its refusal
unfoldable pub request_named : State → ℕ → ℕ → Result Name Errno → ℤ → Outcome
request_named s client number sought dest = do
  c ← context_of s client number
  name ← sought
  within_serials s (requested_for s number c name dest)
