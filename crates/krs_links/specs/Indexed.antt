-- The links of a keyring as they are kept: each under a number, which is what its name hashes to, or some steps more
-- where that was taken.
use Rattle.std.specs.Prelude.{[], ◌%◌, ◌+◌, ◌<◌, ◌^◌, ◌∷◌, ◌≡◌, ◌≢◌, false, List, map, nat_eq, Some, suc, zero, ℕ}
use Rattle.std.specs.Map.{lookup}
use Rattle.krs_types.specs.{Name.same_name, declared.name.Name.Name}
use Rattle.krs_links.specs.{Links.LinkList, Lists.AreLists, Seeded.name_digest, declared.index.Link.Link}
use Rattle.krs_links.specs.declared.{index.LinkIndex.LinkIndex, seed.Seed.Seed}

-- the name and the serial of an entry
abbrev pub link_of : ℕ × Link → Name × ℕ
link_of entry = (entry.1.name, entry.1.serial)

-- the names and serials, in link order
abbrev pub linked_in : List (ℕ × Link) → LinkList
linked_in entries = map link_of entries

abbrev pub linked : LinkIndex → LinkList
linked index = linked_in index.entries.entries

-- so many steps behind a digest
unfoldable pub behind : ℕ → ℕ → ℕ
behind digest steps = (digest + steps) % 2 ^ 64

-- an entry stands behind what its name hashes to, by fewer steps than these
abbrev pub Stands : Seed → ℕ → ℕ × Link → Type 0
Stands seed span entry = (steps : ℕ) × (steps < span) × (entry.0 ≡ behind (name_digest seed entry.1.name) steps)

-- each does
abbrev pub AllStand : Seed → ℕ → List (ℕ × Link) → Type 0
AllStand seed span [] = Unit {0}
AllStand seed span (entry ∷ entries) = Stands seed span entry × AllStand seed span entries

abbrev pub IsIndexed : LinkIndex → Type 0
IsIndexed index = AllStand index.seed index.span index.entries.entries

-- no link of this name stands under this number
abbrev pub StandsNot : Name → List (ℕ × Link) → ℕ → Type 0
StandsNot name entries number =
    (link : Link) → lookup (nat_eq number) entries ≡ Some link → same_name name link.name ≡ false

-- no link to this serial stands under this number
abbrev pub LinksNot : ℕ → List (ℕ × Link) → ℕ → Type 0
LinksNot serial entries number = (link : Link) → lookup (nat_eq number) entries ≡ Some link → link.serial ≢ serial

-- with another serial at a place
abbrev pub with_serial_at : List (ℕ × Link) → ℕ → ℕ → List (ℕ × Link)
with_serial_at [] place serial = []
with_serial_at (entry ∷ entries) zero serial = (entry.0, record entry.1 { serial = serial }) ∷ entries
with_serial_at (entry ∷ entries) (suc place) serial = entry ∷ with_serial_at entries place serial

-- the links of a keyring, and the serials of those to keyrings: each link is found by what its name hashes to
pub record AreFound (index : LinkIndex) (rings : List ℕ) : Type 0 where
  pub lists : AreLists (linked index) rings
  pub indexed : IsIndexed index
