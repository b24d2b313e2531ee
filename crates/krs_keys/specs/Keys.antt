-- Keys as they are kept, with the names of their links, and as the definitions see them.
use Rattle.std.specs.Prelude.{[], ◌∷◌, ◌≡◌, find, List, None, Option, option_map, remove, Some, true, ℕ}
use Rattle.krs_types.specs.Kind.{same_kind}
use Rattle.krs_types.specs.declared.{caller.Caller.Caller, kind.Kind.{Kind, TheVariants.Keyring}, name.Name.Name}
use Rattle.krs_model.specs.{Asks.Joining.is_joinable, Levels.is_in, Linking.link_named}
use Rattle.krs_model.specs.{Reach.{is_ring, links_of_key_at}, Table.{at, map_values, Table}}
use Rattle.krs_links.specs.Links.{link_put, LinkList, serial_named, serials, unlinked_key}
use Rattle.krs_keys.specs.declared.key.{Content.{Content, TheVariants.{Links, Payload}}, Key.Key}
use Rattle.krs_model.specs.State as model

-- the named links of a keyring
abbrev pub named_links_of_content : Content → LinkList
named_links_of_content (Payload bytes) = []
named_links_of_content (Links links) = links

abbrev pub seen_content : Content → model.Content
seen_content (Payload bytes) = model.Payload bytes
seen_content (Links links) = model.Links (serials links)

-- the key of the definitions
abbrev pub seen : Key → model.Key
seen key = record {
  kind = key.name.kind;
  desc = key.name.desc;
  uid = key.uid;
  gid = key.gid;
  perm = key.perm;
  expiry = key.expiry;
  revoked = key.revoked;
  joined = key.joined;
  closed = key.closed;
  content = seen_content key.content;
}

-- the keys of the definitions
abbrev pub shown : Table Key → Table model.Key
shown es = map_values seen es

-- what a keyring links, with one link more
abbrev pub entered : Name → ℕ → Content → Content
entered name serial (Payload bytes) = Payload bytes
entered name serial (Links links) = Links (link_put links name serial)

-- one more link
abbrev pub with_entry : Name → ℕ → Key → Key
with_entry name serial key = record key { content = entered name serial key.content }

-- what a keyring links, without a link to this key
abbrev pub keyless_content : ℕ → Content → Content
keyless_content serial (Payload bytes) = Payload bytes
keyless_content serial (Links links) = Links (unlinked_key links serial)

-- the key out of a keyring
abbrev pub without_key : ℕ → Key → Key
without_key serial key = record key { content = keyless_content serial key.content }

-- what a keyring links, without the link at a place
abbrev pub content_without_at : ℕ → Content → Content
content_without_at place (Payload bytes) = Payload bytes
content_without_at place (Links links) = Links (remove links place)

-- the link at a place out of a keyring
abbrev pub without_link_at : ℕ → Key → Key
without_link_at place key = record key { content = content_without_at place key.content }

-- the name of the key at a serial
abbrev pub name_at : Table Key → ℕ → Option Name
name_at keys serial = option_map (λ key. key.name) (at keys serial)

-- each link names a key, under that key's own name, and no two links have one name: keyrings(7), "Keyrings"
abbrev pub AreNamed : (ℕ → Option Name) → LinkList → Type 0
AreNamed names [] = Unit {0}
AreNamed names (link ∷ links) = (names link.1 ≡ Some link.0) × AreNamed names links × (serial_named links link.0 ≡ None)

-- every link of every key does
abbrev pub AreFit : Table Key → Type 0
AreFit keys =
    (serial : ℕ) (key : Key) → at keys serial ≡ Some key → AreNamed (name_at keys) (named_links_of_content key.content)

abbrev pub named_links_of_key : Option Key → LinkList
named_links_of_key None = []
named_links_of_key (Some key) = named_links_of_content key.content

-- the named links of the key at a serial
abbrev pub named_links_of_key_at : Table Key → ℕ → LinkList
named_links_of_key_at keys serial = named_links_of_key (at keys serial)

-- only a keyring has links
abbrev pub IsOfKind : Kind → Content → Type 0
IsOfKind kind (Payload bytes) = Unit {0}
IsOfKind kind (Links links) = same_kind kind Keyring ≡ true

-- only keyrings have links: keyrings(7), "Key types"
abbrev pub AreOfKind : Table Key → Type 0
AreOfKind keys = (serial : ℕ) (key : Key) → at keys serial ≡ Some key → IsOfKind key.name.kind key.content

-- only keyrings link keys: keyrings(7), "Keyrings"
abbrev pub OnlyRingsLink : Table model.Key → Type 0
OnlyRingsLink keys = (j k : ℕ) → is_in k (links_of_key_at keys j) ≡ true → is_ring (at keys j) ≡ true

-- the serial that a link of that name in a keyring displaces
abbrev pub displaced_by : Name → Option Key → Option ℕ
displaced_by name None = None
displaced_by name (Some key) = serial_named (named_links_of_content key.content) name

abbrev pub displaced_at : Table Key → ℕ → Name → Option ℕ
displaced_at keys ring name = displaced_by name (at keys ring)

-- a link's name finds the key of that name among what a keyring links
abbrev pub FindsByName : Table model.Key → Key → Type 0
FindsByName keys key =
    (name : Name)
    → link_named keys name (serials (named_links_of_content key.content))
    ≡ serial_named (named_links_of_content key.content) name

-- the least serial of a keyring that a caller may join by this description: profile, joining by name
abbrev pub joinable_in : ℕ → Caller → List ℕ → Table Key → Option ℕ
joinable_in clock c desc keys = option_map (λ e. e.0) (find (λ e. is_joinable clock c desc e.1) (shown keys))
