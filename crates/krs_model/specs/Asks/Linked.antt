-- LINK, UNLINK, CLEAR and RESTRICT_KEYRING: what a keyring links, and whether it takes more. keyctl(2).
use Rattle.std.specs.Prelude.{[], ◌==◌, ◌∷◌, Bool, Err, filter, if◌then◌else◌, List, not, Ok, Result, true, ℕ, ℤ}
use Rattle.krs_types.specs.{Refusing.{◌>>=◌, or_refuse}, Rights.{LINK, SETATTR, WRITE}}
use Rattle.krs_types.specs.declared.{ask.Answer.TheVariants.Nothing, context.Context.Context}
use Rattle.krs_types.specs.declared.errno.Errno.{Errno, TheVariants.{EDEADLK, EEXIST, EINVAL, ELOOP, ENOENT, ENOKEY}}
use Rattle.krs_types.specs.declared.{errno.Errno.TheVariants.EPERM, name.Name.Name, rights.Want.TheVariants.Granted}
use Rattle.krs_model.specs.{Asks.Changing.changed, Levels.is_in, Linking.{has_room, link_named, linking, ring_links}}
use Rattle.krs_model.specs.{Lookup.{context_of, look_up, serial_of}, Making.{made_for, within_serials}, Outcome.Outcome}
use Rattle.krs_model.specs.Reach.{closes, has_chain, nesting_depth}
use Rattle.krs_model.specs.{State.{Content, Key, Links, Payload, State}, Table.{at, Table}}

-- the name of a key: its type and its description
abbrev pub name_of : Key → Name
name_of key = record { kind = key.kind; desc = key.desc }

-- refused with this error, where this holds
abbrev pub unless : Bool → Errno → Result (Unit {0}) Errno
unless bad error = if bad then Err error else Ok tt

-- a link from the keyring to the key closes no cycle, and nests no keyring too deep: profile, nesting depth
unfoldable pub nestable : Table Key → ℕ → ℕ → Result (Unit {0}) Errno
nestable keys ring serial = do
  acyclic ← unless (closes keys serial ring) EDEADLK
  unless (has_chain keys serial nesting_depth) ELOOP

-- The keyring of these links may link the key: it is not closed, the link closes no cycle and nests no keyring too
-- deep, and the keyring has room. EPERM, EDEADLK, ELOOP and ENFILE come in this order: KEYCTL_LINK, "ERRORS"; profile,
-- closed keyrings; profile, full keyrings
abbrev pub link_check : Table Key → ℕ × Key → List ℕ → ℕ × Key → Result (Unit {0}) Errno
link_check keys ring links found = do
  unclosed ← unless ring.1.closed EPERM
  nests ← nestable keys ring.0 found.0
  has_room links (link_named keys (name_of found.1) links)

-- the keyring links the key, where it is a keyring and may link it; so too where it links the key already: profile,
-- linking again
abbrev pub linked_into : State → ℕ × Key → ℕ × Key → Result State Errno
linked_into s into found = do
  links ← ring_links into.1.content
  allowed ← link_check s.keys into links found
  Ok (changed s into.0 (linking s.keys (name_of found.1) found.0))

-- a link from a keyring that grants WRITE to a key that grants LINK: KEYCTL_LINK
abbrev pub linked : State → Context → ℤ → ℤ → Outcome
linked s c key ring = do
  into ← look_up s c ring (Granted WRITE)
  found ← look_up s c key (Granted LINK)
  new ← linked_into s into found
  Ok (new, Nothing)

-- one more link in a keyring, which is made where it is wanted: KEYCTL_LINK
unfoldable pub link : State → ℕ → ℕ → ℤ → ℤ → Outcome
link s client context key ring = do
  c ← context_of s client context
  within_serials s (linked (made_for s context c ring).0 (made_for s context c ring).1 key ring)

-- what a keyring holds without its link to a key; a payload stays as it is
abbrev pub unlinked_content : ℕ → Content → Content
unlinked_content serial (Payload bytes) = Payload bytes
unlinked_content serial (Links links) = Links (filter (λ k. not (k == serial)) links)

-- the keyring without its link to a key
abbrev pub without_link : ℕ → Key → Key
without_link serial ring = record ring { content = unlinked_content serial ring.content }

-- the key is one of these links: KEYCTL_UNLINK, "ENOENT"
abbrev pub if_linked : ℕ → List ℕ → Result ℕ Errno
if_linked serial links = if is_in serial links then Ok serial else Err ENOENT

-- one link less in a keyring; the key's state and rights do not matter: KEYCTL_UNLINK
unfoldable pub unlink : State → ℕ → ℕ → ℤ → ℤ → Outcome
unlink s client context key ring = do
  c ← context_of s client context
  from ← look_up s c ring (Granted WRITE)
  serial ← serial_of s c key
  there ← or_refuse ENOKEY (at s.keys serial)
  links ← ring_links from.1.content
  linked ← if_linked serial links
  Ok (changed s from.0 (without_link serial), Nothing)

-- what a keyring holds without its links; a payload stays as it is
abbrev pub cleared_content : Content → Content
cleared_content (Payload bytes) = Payload bytes
cleared_content (Links links) = Links []

-- the keyring without its links
abbrev pub cleared : Key → Key
cleared ring = record ring { content = cleared_content ring.content }

-- all links of a keyring out: KEYCTL_CLEAR
unfoldable pub clear : State → ℕ → ℕ → ℤ → Outcome
clear s client context id = do
  c ← context_of s client context
  found ← look_up s c id (Granted WRITE)
  links ← ring_links found.1.content
  Ok (changed s found.0 cleared, Nothing)

-- no type restricts links here: profile, closed keyrings
abbrev pub no_type : List ℕ → Result (Unit {0}) Errno
no_type [] = Ok tt
no_type (byte ∷ bytes) = Err EINVAL

-- the keyring takes no further link, and keeps those that it has
abbrev pub closed_for_good : Key → Key
closed_for_good ring = record ring { closed = true }

-- a keyring closed, for good: KEYCTL_RESTRICT_KEYRING, "EEXIST"; profile, closed keyrings
unfoldable pub restrict_keyring : State → ℕ → ℕ → ℤ → List ℕ → Outcome
restrict_keyring s client context ring type_name = do
  c ← context_of s client context
  untyped ← no_type type_name
  found ← look_up s c ring (Granted SETATTR)
  links ← ring_links found.1.content
  unclosed ← unless found.1.closed EEXIST
  Ok (changed s found.0 closed_for_good, Nothing)
