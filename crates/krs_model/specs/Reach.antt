-- What is reached along links, and how deep keyrings are nested: keyctl(2), KEYCTL_LINK, "EDEADLK" and "ELOOP".
use Rattle.std.specs.Prelude.{[], ◌∷◌, ◌≡◌, Bool, false, filter, length, List, None, Option, Some, true, ℕ}
use Rattle.krs_types.specs.{Kind.same_kind, declared.kind.Kind.TheVariants.Keyring}
use Rattle.krs_model.specs.{Levels.{is_in, level, levels}, State.Key, Sweep.links_of_key, Table.{at, Table}}

-- a link, and one link more
pub data Reaches (links : ℕ → List ℕ) : ℕ → ℕ → Type 0 where
  Directly : (j k : ℕ) → is_in k (links j) ≡ true → Reaches links j k
  Further : (j k l : ℕ) → Reaches links j k → is_in l (links k) ≡ true → Reaches links j l

-- no key reaches itself
abbrev pub IsAcyclic : (ℕ → List ℕ) → Type 0
IsAcyclic links = (k : ℕ) → Reaches links k k → ⊥

-- what the key at a serial links
abbrev pub links_of_key_at : Table Key → ℕ → List ℕ
links_of_key_at keys serial = links_of_key (at keys serial)

-- a link from the keyring to the key would close a cycle: they are one, or the keyring is reached from the key, along
-- fewer links than there are keys
unfoldable pub closes : Table Key → ℕ → ℕ → Bool
closes keys key ring = is_in ring (levels (links_of_key_at keys) (key ∷ []) (length keys))

-- a key is there, and it is a keyring
abbrev pub is_ring : Option Key → Bool
is_ring None = false
is_ring (Some key) = same_kind key.kind Keyring

-- the keyrings that a key links
abbrev pub nested_in : Table Key → ℕ → List ℕ
nested_in keys serial = filter (λ k. is_ring (at keys k)) (links_of_key_at keys serial)

-- there is a serial among these
abbrev pub is_some_in : List ℕ → Bool
is_some_in [] = false
is_some_in (k ∷ serials) = true

-- a keyring can't be linked that begins a chain of so many links of nested keyrings: profile, nesting depth
abbrev pub nesting_depth : ℕ
nesting_depth = 6

-- from the key a chain of that many links of nested keyrings hangs down: profile, nesting depth
unfoldable pub has_chain : Table Key → ℕ → ℕ → Bool
has_chain keys serial count = is_some_in (level (nested_in keys) (serial ∷ []) count)
