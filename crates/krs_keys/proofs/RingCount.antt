-- As many serials are listed as there are keyrings.
use Rattle.std.proofs.Common.{[], ◌||◌, ◌∙◌, ◌∷◌, ◌≡◌, ap, cond, false, is_some, length, List, nat_cmp, nat_eq, None}
use Rattle.std.proofs.Common.{Option, refl, Some, sym, true, ℕ}
use Rattle.std.specs.{BTreeMap.is_at, Cmp.{nat_eq_equiv, unsigned_tied}, List.{AllByRecursion, IsDistinct, list_any}}
use Rattle.std.specs.{List.Sorted.IsStrictlySortedBy, Map.keys_of, Ordering.eq_by_cmp}
use Rattle.std.proofs.lemmas.Map.Entries.{length-keys_of}
use Rattle.std.proofs.lemmas.Map.Keys.{IsDistinct-cons, IsDistinct-from_sorted, IsDistinct-head, IsDistinct-tail}
use Rattle.std.proofs.lemmas.Map.Made.{is_some-lookup, IsDistinct-keys_filter, length-from_same_keys}
use Rattle.krs_model.specs.Table.{at, Table}
use Rattle.krs_model.proofs.Tables.Changes.{at_kept}
use Rattle.krs_keys.specs.{Places.{AreRings, is_among, is_keyring, keyrings_in}, declared.key.Key.Key}

-- the two tests of serials are one
any_tied : (q : ℕ) (ks : List ℕ) → list_any (is_at (nat_cmp q)) ks ≡ list_any (nat_eq q) ks
any_tied q [] = refl
any_tied q (k ∷ ks) =
    ap (λ b. b || list_any (is_at (nat_cmp q)) ks) (unsigned_tied q k) ∙ ap (λ b. nat_eq q k || b) (any_tied q ks)

all_tied : (q : ℕ) (ks : List ℕ) → AllByRecursion (λ y. eq_by_cmp nat_cmp q y ≡ false) ks
    → AllByRecursion (λ y. nat_eq q y ≡ false) ks
all_tied q [] h = tt
all_tied q (k ∷ ks) h = (sym (unsigned_tied q k) ∙ h.0, all_tied q ks h.1)

distinct_tied : (ks : List ℕ) → IsDistinct (eq_by_cmp nat_cmp) ks → IsDistinct nat_eq ks
unfolding IsDistinct
distinct_tied [] d = tt
distinct_tied (k ∷ ks) d =
    IsDistinct-cons nat_eq k ks (all_tied k ks (IsDistinct-head (eq_by_cmp nat_cmp) k ks d))
    (distinct_tied ks (IsDistinct-tail (eq_by_cmp nat_cmp) k ks d))

there : (o : Option Key) → is_some (cond (is_keyring o) o None) ≡ is_keyring o
there None = refl
there (Some key) = elim (is_keyring (Some key)) as (λ b. is_some (cond b (Some key) None) ≡ b) [
  | true ↦ refl
  | false ↦ refl
]

-- a serial is one of those of the keyrings, where it is that of a keyring
of_keyring : (keys : Table Key) (q : ℕ) → is_among (keys_of (keyrings_in keys)) q ≡ is_keyring (at keys q)
of_keyring keys q =
    sym (any_tied q (keys_of (keyrings_in keys)))
    ∙ (sym (is_some-lookup (is_at (nat_cmp q)) (keyrings_in keys))
    ∙ (ap is_some (at_kept (λ k. is_keyring (at keys k)) keys q) ∙ there (at keys q)))

pub length_rings : (keys : Table Key) (rings : List ℕ) → IsStrictlySortedBy nat_cmp (keys_of keys)
    → IsDistinct nat_eq rings → AreRings keys rings → length rings ≡ length (keyrings_in keys)
length_rings keys rings sorted distinct are =
    let apart : IsDistinct nat_eq (keys_of (keyrings_in keys)) =
    IsDistinct-keys_filter nat_eq (λ e. is_keyring (at keys e.0)) keys
    (distinct_tied (keys_of keys) (IsDistinct-from_sorted nat_cmp (keys_of keys) sorted)) in
    length-from_same_keys nat_eq_equiv rings (keys_of (keyrings_in keys)) distinct apart
    (λ q. are q ∙ sym (of_keyring keys q))
    ∙ length-keys_of (keyrings_in keys)
