-- The keyrings that JOIN made and that aren't revoked, by what their descriptions hash to.
use Rattle.std.specs.Prelude.{◌&&◌, ◌+◌, ◌<◌, ◌^◌, ◌≡◌, All, Bool, cond, false, List, nat_eq, None, not, Option, Some}
use Rattle.std.specs.{Prelude.{true, ℕ}, BTreeMap.is_at, List.list_any}
use Rattle.krs_types.specs.{Kind.same_kind, declared.kind.Kind.TheVariants.Keyring}
use Rattle.krs_model.specs.{Queues.place_cmp, Table.{at, put, Rises, Table, without}}
use Rattle.krs_links.specs.{Seeded.digest, declared.seed.Seed.Seed}
use Rattle.krs_keys.specs.declared.{key.Key.Key, sessions.Sessions.Sessions}

-- what the description of a keyring hashes to that JOIN made and that isn't revoked
abbrev pub session_digest : Seed → Option Key → Option ℕ
session_digest seed None = None
session_digest seed (Some key) =
    cond (same_kind key.name.kind Keyring && (key.joined && not key.revoked)) (Some (digest seed key.name.desc)) None

-- a key of this digest is listed under that one
abbrev pub is_digest : ℕ → Option ℕ → Bool
is_digest d None = false
is_digest d (Some e) = nat_eq e d

-- the serial is listed under the digest
abbrev pub lists : Sessions → ℕ → ℕ → Bool
lists sessions d serial = list_any (is_at (place_cmp (d, serial))) sessions.rings.keys

-- just the keyrings that JOIN made and that aren't revoked are listed, each under its own digest
abbrev pub AreSessions : Sessions → Table Key → Type 0
AreSessions sessions keys =
    (d serial : ℕ) → lists sessions d serial ≡ is_digest d (session_digest sessions.seed (at keys serial))

-- those that were listed, and a new key
abbrev pub ListsKey : ℕ → Key → Sessions → Sessions → Type 0
ListsKey serial key old new =
    (keys : Table Key) → at keys serial ≡ None → AreSessions old keys → AreSessions new (put keys serial key)

-- those that were listed, without a key that was there
abbrev pub UnlistsKey : ℕ → Key → Sessions → Sessions → Type 0
UnlistsKey serial key old new =
    (keys : Table Key) → Rises keys → at keys serial ≡ Some key → AreSessions old keys
    → AreSessions new (without keys serial)

-- the serials that are listed under a digest are all among these
abbrev pub HoldsSerials : Sessions → ℕ → List (ℕ × ℕ) → Type 0
HoldsSerials sessions d rings =
    (serial : ℕ) → lists sessions d serial ≡ true → list_any (λ e. nat_eq serial e.1) rings ≡ true

-- these are listed under the digest alone. Of the greatest one, which no other comes behind, nothing is said
abbrev pub AreOfDigest : ℕ → List (ℕ × ℕ) → Type 0
AreOfDigest d rings = d + 1 < 2 ^ 64 → All (λ e. e.0 ≡ d) rings
