-- What the walks answer, over the keys of the definitions.
use Rattle.std.specs.Prelude.{[], ◌+◌, ◌==◌, ◌∷◌, ◌≡◌, Bool, drop, false, filter, flat_map, List, None, Option, Some}
use Rattle.std.specs.{Prelude.{true, ℕ}, List.list_any}
use Rattle.krs_types.specs.declared.caller.Caller.{Caller}
use Rattle.krs_types.specs.declared.{context.Context.Context, errno.Errno.{Errno, TheVariants.ELOOP}}
use Rattle.krs_model.specs.{Levels.{is_in, levels, search_depth}, Possession.{attached_with, followed_at}}
use Rattle.krs_model.specs.{Reach.{has_chain, is_ring, nested_in, nesting_depth}, State.Key, Table.{at, Table}}
use Rattle.krs_walk.specs.Lists.{join}

-- the longest chain of nested keyrings that hangs down from the key has that many links: profile, nesting depth
pub record IsHeight (keys : Table Key) (key height : ℕ) : Type 0 where
  pub chain : has_chain keys key height ≡ true
  pub longest : has_chain keys key (height + 1) ≡ false

-- why a height is not told: the chain has `nesting_depth` links or more. keyctl(2), KEYCTL_LINK, "ELOOP"
abbrev pub IsTooDeep : Table Key → ℕ → Errno → Type 0
IsTooDeep keys key errno = (errno ≡ ELOOP) × (has_chain keys key nesting_depth ≡ true)

-- the keyring is in the first levels of nested keyrings from a key
abbrev pub is_nested_within : Table Key → ℕ → ℕ → ℕ → Bool
is_nested_within keys ring depth key = is_in ring (levels (nested_in keys) (key ∷ []) depth)

-- the links to keyrings among those that the possessor of a keyring follows: keyrings(7), "Possession", (4)
abbrev pub followed_rings : Table Key → ℕ → Caller → ℕ → List ℕ
followed_rings keys clock caller serial = filter (λ k. is_ring (at keys k)) (followed_at keys clock caller serial)

-- a keyring whose possessor follows a link to this key
abbrev pub follows_link_to : Table Key → ℕ → Caller → ℕ → ℕ → Bool
follows_link_to keys clock caller serial k = is_in serial (followed_at keys clock caller k)

-- one of the first levels of followed keyrings from this one links it
abbrev pub is_linked_within : Table Key → ℕ → Caller → ℕ → ℕ → ℕ → Bool
is_linked_within keys clock caller serial depth k =
    list_any (follows_link_to keys clock caller serial) (levels (followed_rings keys clock caller) (k ∷ []) depth)

-- what is linked within so many levels of a keyring is linked within so many more of one of these, below which it hangs
abbrev pub HangsBelow : Table Key → ℕ → Caller → ℕ → ℕ → ℕ → List ℕ → Type 0
HangsBelow keys clock caller serial ring more heads = (depth : ℕ)
    → is_linked_within keys clock caller serial depth ring ≡ true
    → list_any (is_linked_within keys clock caller serial (depth + more)) heads ≡ true

-- what a walk has come to, with the keyrings that are followed from those from a place on
abbrev pub with_next : Table Key → ℕ → Caller → ℕ → List ℕ → List ℕ
with_next keys clock caller start seen = join seen (flat_map (followed_rings keys clock caller) (drop start seen))

-- a followed keyring of the first `search_depth` levels links it
abbrev pub is_linked : Table Key → ℕ → Context → Option ℕ → ℕ → Bool
is_linked keys clock c ring serial = list_any (follows_link_to keys clock c.caller serial)
    (levels (followed_rings keys clock c.caller) (attached_with c ring) search_depth)

-- this serial was found
abbrev pub is_found : ℕ → Option ℕ → Bool
is_found serial None = false
is_found serial (Some k) = k == serial
