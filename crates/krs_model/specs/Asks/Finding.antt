-- GET_ID, SEARCH and REQUEST: keyctl(2), KEYCTL_GET_KEYRING_ID and KEYCTL_SEARCH; request_key(2).
use Rattle.std.specs.Prelude.{Bool, Err, false, if◌then◌else◌, List, Ok, Result, true, ℕ, ℤ}
use Rattle.krs_types.specs.{Growth.has_destination, Kind.{described, kind_named}, Refusing.{◌>>=◌, or_refuse}}
use Rattle.krs_types.specs.{Rights.{has_all, LINK, SEARCH, WRITE}, declared.ask.Answer.TheVariants.Number}
use Rattle.krs_types.specs.declared.{context.Context.Context, errno.Errno.{Errno, TheVariants.{EACCES, ENOKEY}}}
use Rattle.krs_types.specs.declared.{name.Name.Name, rights.Want.TheVariants.Granted}
use Rattle.krs_model.specs.{Access.rights_on, Asks.Linked.linked_into, Linking.ring_links, Lookup.{context_of, look_up}}
use Rattle.krs_model.specs.{Making.{made_for, within_serials}, Outcome.Outcome, Possession.possessed}
use Rattle.krs_model.specs.{Search.{found, requested}, State.{Key, State}, Table.at}

-- the store and the context, with the keyring made that an id stands for, where that is asked
abbrev pub made_where : Bool → State → ℕ → Context → ℤ → State × Context
made_where true s number c id = made_for s number c id
made_where false s number c id = (s, c)

-- the serial of the key that an id names, where the key grants SEARCH: profile, get needs search
abbrev pub got : State → Context → ℤ → Outcome
got s c id = do
  key ← look_up s c id (Granted SEARCH)
  Ok (s, Number key.0)

-- the serial that an id stands for, with its keyring made where that is asked: KEYCTL_GET_KEYRING_ID;
-- profile, get needs search
unfoldable pub get_id : State → ℕ → ℕ → ℤ → Bool → Outcome
get_id s client context id create = do
  c ← context_of s client context
  within_serials s (got (made_where create s context c id).0 (made_where create s context c id).1 id)

-- what is looked for: a type that there is, and a description that some key may have: profile, search names
unfoldable pub sought_name : List ℕ → List ℕ → Result Name Errno
sought_name type_name desc = do
  kind ← kind_named type_name
  fit ← described desc
  Ok (record { kind = kind; desc = desc })

-- the key that was found grants LINK: KEYCTL_SEARCH, "EACCES"
abbrev pub if_linkable : State → Context → ℕ → Key → Result (ℕ × Key) Errno
if_linkable s c serial key =
    if has_all (rights_on key c.caller (possessed s c serial)) LINK then Ok (serial, key) else Err EACCES

-- what was found is linked to the destination
abbrev pub found_into : State → Context → ℕ × Key → Result ℕ Errno → Outcome
found_into s c into answer = do
  serial ← answer
  key ← or_refuse ENOKEY (at s.keys serial)
  linkable ← if_linkable s c serial key
  linked ← linked_into s into linkable
  Ok (linked, Number serial)

-- what was found, without a link to it
abbrev pub found_alone : State → Result ℕ Errno → Outcome
found_alone s answer = do
  serial ← answer
  Ok (s, Number serial)

-- from the head on, which is a keyring
abbrev pub sought_from : State → Context → ℕ × Key → Name → Outcome
sought_from s c head name = do
  links ← ring_links head.1.content
  found_alone s (found s c head.0 name)

-- from the head on, and a link from a destination, which grants WRITE, to what was found: KEYCTL_SEARCH
abbrev pub sought_into : State → Context → ℕ × Key → Name → ℤ → Outcome
sought_into s c head name dest = do
  into ← look_up s c dest (Granted WRITE)
  links ← ring_links head.1.content
  room ← ring_links into.1.content
  found_into s c into (found s c head.0 name)

-- a search with a destination, which counts as made, or without one: profile, counts as made
abbrev pub searched_for : State → ℕ → Context → ℕ × Key → Name → ℤ → Outcome
searched_for s number c head name dest =
    if has_destination dest then sought_into (made_for s number c dest).0 (made_for s number c dest).1 head name dest
    else sought_from s c head name

-- the first key of that type and description from a keyring on, and a link to it where a destination is wanted:
-- KEYCTL_SEARCH
unfoldable pub search_from : State → ℕ → ℕ → ℤ → List ℕ → List ℕ → ℤ → Outcome
search_from s client context head type_name desc dest = do
  c ← context_of s client context
  name ← sought_name type_name desc
  from ← look_up s c head (Granted SEARCH)
  within_serials s (searched_for s context c from name dest)

-- a link from a destination, which grants WRITE, to what a request finds: request_key(2)
abbrev pub requested_into : State → Context → Name → ℤ → Outcome
requested_into s c name dest = do
  into ← look_up s c dest (Granted WRITE)
  links ← ring_links into.1.content
  found_into s c into (requested s c name)

-- a request with a destination, which counts as made, or without one: profile, counts as made
abbrev pub requested_for : State → ℕ → Context → Name → ℤ → Outcome
requested_for s number c name dest =
    if has_destination dest then requested_into (made_for s number c dest).0 (made_for s number c dest).1 name dest
    else found_alone s (requested s c name)

-- the first key of that type and description from the attached keyrings on, and a link to it where a destination is
-- wanted: request_key(2)
unfoldable pub request : State → ℕ → ℕ → List ℕ → List ℕ → ℤ → Outcome
request s client context type_name desc dest = do
  c ← context_of s client context
  name ← sought_name type_name desc
  within_serials s (requested_for s context c name dest)
