-- The part of the watches that lies around those of a key.
use Rattle.std.proofs.Common.{[], ◌+◌, ◌||◌, ◌∙◌, ◌∷◌, ◌≡◌, ap, Bool, cond, eqb, eqb-true, false, filter, List, refl}
use Rattle.std.proofs.Common.{sym, true, ℕ}
use Rattle.std.specs.BTreeMap.Range.{range_contains}
use Rattle.std.specs.{List.list_any, declared.ops.Bound.TheVariants.{Excluded, Included, Unbounded}}
use Rattle.krs_model.specs.{Notes.Posting.watches_at, Queues.{place_cmp, Watch}}
use Rattle.krs_keys.proofs.SessionsLemmas.{above, starts}

-- what a weaker test leaves has all that a stronger one finds
pub filter_within : {X : Type 0} (p q : X → Bool) (xs : List X) → ((x : X) → p x ≡ true → q x ≡ true) →
    filter p (filter q xs) ≡ filter p xs
filter_within p q [] h = refl
filter_within p q (x ∷ xs) h =
    elim (p x) as (λ b. p x ≡ b → filter p (cond (q x) (x ∷ filter q xs) (filter q xs))
    ≡ cond b (x ∷ filter p xs) (filter p xs)) [
      | true ↦ λ t. rw (h x t) (rw t (ap (λ zs. x ∷ zs) (filter_within p q xs h)))
      | false ↦ λ t. elim (q x) as (λ d. filter p (cond d (x ∷ filter q xs) (filter q xs)) ≡ filter p xs) [
        | true ↦ rw t (filter_within p q xs h)
        | false ↦ filter_within p q xs h
      ]
    ] refl

-- from the key's first place to the next key's
pub between_keys : (key : ℕ) (watches : List Watch) →
    watches_at key (filter (λ w. range_contains place_cmp (Included (key, 0)) (Excluded (key + 1, 0)) w.0) watches)
    ≡ watches_at key watches
between_keys key watches =
    filter_within (λ w. eqb w.0.0 key) (λ w. range_contains place_cmp (Included (key, 0)) (Excluded (key + 1, 0)) w.0)
    watches (λ w t.
    let k : w.0.0 ≡ key = eqb-true w.0.0 key t in
    rw (k, starts key w.0.1, above key w.0.1) refl)

-- from the key's first place on
pub from_key : (key : ℕ) (watches : List Watch) →
    watches_at key (filter (λ w. range_contains place_cmp (Included (key, 0)) Unbounded w.0) watches)
    ≡ watches_at key watches
from_key key watches =
    filter_within (λ w. eqb w.0.0 key) (λ w. range_contains place_cmp (Included (key, 0)) Unbounded w.0)
    watches (λ w t.
    let k : w.0.0 ≡ key = eqb-true w.0.0 key t in
    rw (k, starts key w.0.1) refl)

-- one that passes a test is among those that do
any_filter : {X : Type 0} (p : X → Bool) (xs : List X) → list_any p xs ≡ list_any p (filter p xs)
any_filter p [] = refl
any_filter p (x ∷ xs) =
    elim (p x) as (λ b. p x ≡ b
    → (b || list_any p xs) ≡ list_any p (cond b (x ∷ filter p xs) (filter p xs))) [
      | true ↦ λ t. rw t refl
      | false ↦ λ t. any_filter p xs
    ] refl

-- a key is watched where it has watches
pub watched_alike :
    (key : ℕ) (some all : List Watch) → watches_at key some ≡ watches_at key all
    → list_any (λ w. eqb w.0.0 key) some ≡ list_any (λ w. eqb w.0.0 key) all
watched_alike key some all same =
    any_filter (λ w. eqb w.0.0 key) some
    ∙ (ap (list_any (λ w. eqb w.0.0 key)) same ∙ sym (any_filter (λ w. eqb w.0.0 key) all))
