-- What a table of keys is seen as.
use Rattle.std.specs.Prelude.{◌+◌, ◌≡◌, ◌≤◌, ◌⊎◌, cond, if◌then◌else◌, nat_lt, ℕ}
use Rattle.krs_types.specs.declared.{errno.Errno.{Errno, TheVariants.{ENOMEM, ENOSPC}}, name.Name.Name}
use Rattle.krs_model.specs.Table.{alter, IsBelow, put, Table}
use Rattle.krs_links.specs.Links.{link_error}
use Rattle.krs_keys.specs.Keys.{AreOfKind, named_links_of_key_at, with_entry}
use Rattle.krs_keys.specs.{Sessions.AreSessions, declared.{key.Key.Key, sessions.Sessions.Sessions}}

-- the keys by serial, and the serial that comes next
pub record Keys : Type 0 where
  pub keys : Table Key
  pub next : ℕ

-- The serial that comes next and those above it are in no use, and only keyrings have links.
pub record AreKept (keys : Table Key) (listed : Sessions) (next : ℕ) : Type 0 where
  pub below : IsBelow keys next
  pub kinds : AreOfKind keys
  pub sessions : AreSessions listed keys

-- one more key, under the next serial
abbrev pub with_key : Keys → Key → Keys
with_key t key = record { keys = put t.keys t.next key; next = t.next + 1 }

-- one more key, under the next serial, which a keyring links under this name
abbrev pub with_linked_key : Keys → ℕ → Name → Key → Keys
with_linked_key t ring name key = record {
  keys = alter (put t.keys t.next key) ring (with_entry name t.next);
  next = t.next + 1;
}

-- serials are left for that many more keys: profile, serials run out
abbrev pub AreLeft : ℕ → ℕ → Type 0
AreLeft next count = next + count ≤ 2147483648

-- why that many more keys are refused: no serial is left for them, or there is no memory. Profile, serials run out
abbrev pub insert_error : ℕ → ℕ → Errno
insert_error next count = if nat_lt 2147483648 (next + count) then ENOSPC else ENOMEM

-- why a new key that a keyring is to link is refused, where a serial is left: ENOMEM, for it or for the link,
-- or the keyring is full
abbrev pub IsLinkError : Table Key → ℕ → Name → Errno → Type 0
IsLinkError keys ring name error = (error ≡ ENOMEM) ⊎ (error ≡ link_error (named_links_of_key_at keys ring) name)

-- no serial is left; else as above
abbrev pub IsLinkedError : Table Key → ℕ → ℕ → Name → Errno → Type 0
IsLinkedError keys next ring name error =
    cond (nat_lt 2147483647 next) (error ≡ ENOSPC) (IsLinkError keys ring name error)
