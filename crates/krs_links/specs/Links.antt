-- What a keyring links: keyrings(7), "Keyrings". Names and serials, in link order.
use Rattle.std.specs.Prelude.{[], ◌&&◌, ◌==◌, ◌∷◌, Bool, cond, filter, find, flat_map, if◌then◌else◌, is_none, length}
use Rattle.std.specs.Prelude.{List, map, nat_le, not, Option, option_map, position, ℕ}
use Rattle.std.specs.{Int.{to_le_bytes, w32}, List.{IsDistinct, list_any}}
use Rattle.krs_types.specs.{Kind.same_kind, Name.same_name, declared.errno.Errno.{Errno, TheVariants.{ENFILE, ENOMEM}}}
use Rattle.krs_types.specs.declared.{kind.Kind.TheVariants.Keyring, name.Name.Name}

-- names and serials, in link order
abbrev pub LinkList : Type 0
LinkList = List (Name × ℕ)

-- the names alone
abbrev pub names : LinkList → List Name
names links = map (λ link. link.0) links

-- the serials alone, as the definitions have them
abbrev pub serials : LinkList → List ℕ
serials links = map (λ link. link.1) links

-- serials as bytes, 4 each, the lowest first: keyctl(2), KEYCTL_READ
abbrev pub bytes_of : List ℕ → List ℕ
bytes_of serials = flat_map (λ k. to_le_bytes w32 k) serials

-- no two links have equal names: keyrings(7), "Keyrings"
abbrev pub IsUnique : LinkList → Type 0
IsUnique links = IsDistinct same_name (names links)

-- the serial that is linked under a name
abbrev pub serial_named : LinkList → Name → Option ℕ
serial_named links name = option_map (λ link. link.1) (find (λ link. same_name name link.0) links)

-- the place of the link of a name
abbrev pub place_of : Name → LinkList → Option ℕ
place_of name links = position (λ link. same_name name link.0) links

-- a key is linked
abbrev pub has_link : ℕ → LinkList → Bool
has_link serial links = list_any (λ link. link.1 == serial) links

-- with this link: in the place of the link of that name, else last. Profile, place of a link
abbrev pub link_put : LinkList → Name → ℕ → LinkList
link_put [] name serial = (name, serial) ∷ []
link_put (link ∷ links) name serial = cond (same_name name link.0) ((name, serial) ∷ links)
    (link ∷ link_put links name serial)

-- the links of other names, in their order
abbrev pub unlinked : LinkList → Name → LinkList
unlinked links name = filter (λ link. not (same_name name link.0)) links

-- the links to other keys, in their order
abbrev pub unlinked_key : LinkList → ℕ → LinkList
unlinked_key links serial = filter (λ link. not (link.1 == serial)) links

-- this is the name of a keyring
abbrev pub is_ring : Name → Bool
is_ring name = same_kind name.kind Keyring

-- the links to keyrings, in their order
abbrev pub nested : LinkList → LinkList
nested links = filter (λ link. is_ring link.0) links

-- 65535 links: profile, full keyrings
abbrev pub is_full : LinkList → Bool
is_full links = nat_le 65535 (length links)

-- a full keyring takes no new name: profile, full keyrings
abbrev pub is_refused : LinkList → Name → Bool
is_refused links name = is_full links && is_none (serial_named links name)

-- why a link is refused: keyctl(2), KEYCTL_LINK, "ENFILE"; else ENOMEM
abbrev pub link_error : LinkList → Name → Errno
link_error links name = if is_refused links name then ENFILE else ENOMEM
