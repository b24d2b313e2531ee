-- Keys by place: what each place holds, the place of each serial, and the serials of the keyrings.
use Rattle.std.specs.Prelude.{[], ◌∷◌, ◌≡◌, ◌≤◌, Bool, cond, false, filter, IsSome, List, nat_eq, nat_lt, None, Option}
use Rattle.std.specs.Prelude.{option_map, slice_index_or, Some, true, ℕ}
use Rattle.indexmap.specs.IndexSet.{spare as spare_keys}
use Rattle.slab.specs.Slab.{HasRoomFor}
use Rattle.std.specs.List.{list_any}
use Rattle.krs_types.specs.{Kind.same_kind, declared.kind.Kind.TheVariants.Keyring}
use Rattle.krs_model.specs.Table.{at, put, Table, without}
pub use Rattle.krs_keys.specs.Listed.{place_of}
use Rattle.krs_keys.specs.declared.key.Key.{Key}
use Rattle.krs_keys.specs.declared.placed.PlacedKeys.{PlacedKeys}

-- what a place holds
abbrev pub held : {X : Type 0} → List (Option X) → ℕ → Option X
held slots place = slice_index_or slots place None

-- the serial is one of these
abbrev pub is_among : List ℕ → ℕ → Bool
is_among serials serial = list_any (nat_eq serial) serials

-- a table with this at a number: a value, or nothing
abbrev pub with_slot : {X : Type 0} → Table X → ℕ → Option X → Table X
with_slot es k None = without es k
with_slot es k (Some value) = put es k value

-- at each serial what its place holds
abbrev pub in_slots : {X : Type 0} → List (Option X) → List (ℕ × ℕ) → Table X
in_slots slots [] = []
in_slots slots (e ∷ es) = with_slot (in_slots slots es) e.0 (held slots e.1)

-- what the placed keys show: at each serial the key at its place
abbrev pub by_place : PlacedKeys → Table Key
by_place placed = in_slots placed.slots.slots placed.places.entries

-- a key is there, and it is a keyring
abbrev pub is_keyring : Option Key → Bool
is_keyring None = false
is_keyring (Some key) = same_kind key.name.kind Keyring

-- the keyrings among the keys
abbrev pub keyrings_in : Table Key → Table Key
keyrings_in keys = filter (λ e. is_keyring (at keys e.0)) keys

-- each serial's place holds a key, no two serials have one place, and no place holds a key that no serial finds
pub record HavePlaces (slots : List (Option Key)) (places : List (ℕ × ℕ)) : Type 0 where
  pub holds : (serial place : ℕ) → place_of places serial ≡ Some place → IsSome (held slots place)
  pub apart : (j k place : ℕ) → place_of places j ≡ Some place → place_of places k ≡ Some place → j ≡ k
  pub used : (place : ℕ) → IsSome (held slots place) → (serial : ℕ) × (place_of places serial ≡ Some place)

-- these are just the serials of the keyrings
abbrev pub AreRings : Table Key → List ℕ → Type 0
AreRings keys rings = (serial : ℕ) → is_among rings serial ≡ is_keyring (at keys serial)

-- each serial has its place, and the keyrings are listed
pub record ArePlaced (placed : PlacedKeys) : Type 0 where
  pub places : HavePlaces placed.slots.slots placed.places.entries
  pub rings : AreRings (by_place placed) placed.rings.keys

-- that many more keys take no memory
pub record HaveRoom (placed : PlacedKeys) (more : ℕ) : Type 0 where
  pub slots : HasRoomFor placed.slots more
  pub places : more ≤ placed.places.spare
  pub rings : more ≤ spare_keys placed.rings

-- what a place holds is changed, and no other
abbrev pub IsChangedAt : ℕ → (Key → Key) → List (Option Key) → List (Option Key) → Type 0
IsChangedAt place f old new = (p : ℕ) → held new p ≡ cond (nat_eq place p) (option_map f (held old p)) (held old p)

-- whether a serial is less than the one that was found, if any was
abbrev pub is_sooner : ℕ → Option ℕ → Bool
is_sooner serial None = true
is_sooner serial (Some other) = nat_lt serial other

-- whether the key at a serial passes a test
abbrev pub passes : (Key → Bool) → Option Key → Bool
passes test None = false
passes test (Some key) = test key
