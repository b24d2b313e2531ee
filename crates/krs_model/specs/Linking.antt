-- One more link in a keyring: keyctl(2), KEYCTL_LINK; add_key(2).
use Rattle.std.specs.Prelude.{[], ◌∷◌, Bool, Err, false, find, if◌then◌else◌, length, List, nat_le, None, Ok, Option}
use Rattle.std.specs.Prelude.{Result, Some, ℕ}
use Rattle.krs_types.specs.Name.{same_name}
use Rattle.krs_types.specs.declared.{errno.Errno.{Errno, TheVariants.{ENFILE, ENOTDIR}}, name.Name.Name}
use Rattle.krs_model.specs.{State.{Content, Key, Links, Payload}, Table.{at, Table}}

-- a key of that name: its type and its description
abbrev pub is_named : Name → Option Key → Bool
is_named name None = false
is_named name (Some key) = same_name name (record { kind = key.kind; desc = key.desc })

-- what a keyring links, where it is one
abbrev pub ring_links : Content → Result (List ℕ) Errno
ring_links (Payload bytes) = Err ENOTDIR
ring_links (Links serials) = Ok serials

-- the link of that name
abbrev pub link_named : Table Key → Name → List ℕ → Option ℕ
link_named keys name links = find (λ k. is_named name (at keys k)) links

-- in the place of the link that it displaces, else last: profile, place of a link
abbrev pub with_link : (ℕ → Bool) → List ℕ → ℕ → List ℕ
with_link displaced [] serial = serial ∷ []
with_link displaced (k ∷ links) serial = if displaced k then serial ∷ links else k ∷ with_link displaced links serial

-- what a keyring holds with one more link; a payload stays as it is
abbrev pub linked_content : (ℕ → Bool) → ℕ → Content → Content
linked_content displaced serial (Payload bytes) = Payload bytes
linked_content displaced serial (Links links) = Links (with_link displaced links serial)

-- the keyring with a link to a key of that name
abbrev pub linking : Table Key → Name → ℕ → Key → Key
linking keys name serial ring =
    record ring { content = linked_content (λ k. is_named name (at keys k)) serial ring.content }

-- a keyring that links 65535 keys takes no further one where none is displaced: profile, full keyrings
abbrev pub has_room : List ℕ → Option ℕ → Result (Unit {0}) Errno
has_room links None = if nat_le 65535 (length links) then Err ENFILE else Ok tt
has_room links (Some displaced) = Ok tt
