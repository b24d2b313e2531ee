-- The hasher that a seed begins with, and what bytes and names hash to from it.
use Rattle.std.specs.{Prelude.{[], ◌∷◌, List, ℕ}, Hash.{le_bytes, DefaultHasher.{finish, initial, write}}}
use Rattle.std.specs.{RandomState.initial_hasher, declared.hash.{DefaultHasher.DefaultHasher, RandomState.RandomState}}
use Rattle.krs_types.specs.{Kind.kind_number, declared.name.Name.Name}
use Rattle.krs_links.specs.declared.seed.Seed.{Seed}

-- SipHash with both keys 0, after the seed's two words
abbrev pub first_hasher : Seed → DefaultHasher
first_hasher seed = write (write initial (le_bytes 8 seed.first)) (le_bytes 8 seed.second)

-- the words that SipHash makes of 0 and of 1 under a random key
abbrev pub random_seed : RandomState → Seed
random_seed state = record {
  first = finish (write (initial_hasher state) (0 ∷ []));
  second = finish (write (initial_hasher state) (1 ∷ []));
}

-- what bytes hash to
abbrev pub digest : Seed → List ℕ → ℕ
digest seed bytes = finish (write (first_hasher seed) bytes)

-- what a name hashes to: its description, and its type behind it
unfoldable pub name_digest : Seed → Name → ℕ
name_digest seed name = finish (write (write (first_hasher seed) name.desc) (kind_number name.kind ∷ []))
