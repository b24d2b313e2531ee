-- The least serial of a keyring that a caller may join, found among those whose descriptions hash alike.
use Rattle.std.proofs.Common.{[], ◌<◌, ◌∙◌, ◌∷◌, ◌≡◌, ap, arith, Bool, cond, false, find, List, nat_cmp, nat_eq, None}
use Rattle.std.proofs.Common.{Option, option_map, refl, Some, sym, true, true≢false, ℕ}
use Rattle.std.specs.BTreeMap.{is_at}
use Rattle.std.specs.{Cmp.ranked, List.list_any, Map.keys_of, declared.cmp.Ordering.TheVariants.{Equal, Greater, Less}}
use Rattle.std.proofs.lemmas.{Bool.Decides.nat_tests, Map.Keys.sorted_tail}
use Rattle.krs_types.specs.declared.caller.Caller.{Caller}
use Rattle.krs_model.specs.{Asks.Joining.is_joinable, Table.{at, map_values, Rises, Table}}
use Rattle.krs_keys.specs.{Keys.{joinable_in, seen}, Places.{is_sooner, passes}, declared.key.Key.Key}
use Rattle.krs_keys.proofs.RisingTables.{at_first, below, past}

-- the least serial of the values that pass a test
abbrev first : {X : Type 0} → (X → Bool) → Table X → Option ℕ
first p es = option_map (λ e. e.0) (find (λ e. p e.1) es)

-- of values that are seen through f
first_map :
    {X Y : Type 0} (p : Y → Bool) (f : X → Y) (es : Table X)
    → first p (map_values f es) ≡ first (λ v. p (f v)) es
first_map p f [] = refl
first_map p f (e ∷ es) =
    elim (p (f e.1)) as (λ b. option_map (λ d. d.0) (cond b (Some (e.0, f e.1)) (find (λ d. p d.1) (map_values f es)))
    ≡ option_map (λ d. d.0) (cond b (Some e) (find (λ d. p (f d.1)) es))) [
      | true ↦ refl
      | false ↦ first_map p f es
    ]

-- what was found passes a test, and none before it does
pub record IsLeast (test : ℕ → Bool) (found : Option ℕ) : Type 0 where
  pub passes : (n : ℕ) → found ≡ Some n → test n ≡ true
  pub least : (q : ℕ) → test q ≡ true → is_sooner q found ≡ false

-- a serial that is found where another passes is no greater
no_sooner : (n q : ℕ) → is_sooner q (Some n) ≡ false → nat_cmp n q ≡ Greater → ⊥
no_sooner n q h g = let gt : q < n = ranked n q Greater (sym g) in true≢false (sym (grind (arith, nat_tests)) ∙ h)

from_first :
    (p : Key → Bool) (e : ℕ × Key) (es : Table Key) (found : Option ℕ) → Rises (e ∷ es) → p e.1 ≡ true
    → IsLeast (λ q. passes p (at (e ∷ es) q)) found → Some e.0 ≡ found
from_first p e es None s t is =
    absurd (true≢false (is.least e.0 (ap (passes p) (at_first e es) ∙ t)))
from_first p e es (Some n) s t is =
    elim (nat_cmp n e.0) as (λ r. nat_cmp n e.0 ≡ r → Some e.0 ≡ Some n) [
      | Less ↦ λ u. absurd (true≢false (sym (is.passes n refl) ∙ ap (passes p) (below n e es s u)))
      | Equal ↦ λ u. ap (λ z. Some z) (sym (ranked n e.0 Equal (sym u)))
      | Greater ↦ λ u. absurd (no_sooner n e.0 (is.least e.0 (ap (passes p) (at_first e es) ∙ t)) u)
    ] refl

-- the first does not pass: then it is the least of the others
from_rest :
    (p : Key → Bool) (e : ℕ × Key) (es : Table Key) (found : Option ℕ) → Rises (e ∷ es) → p e.1 ≡ false
    → IsLeast (λ q. passes p (at (e ∷ es) q)) found → IsLeast (λ q. passes p (at es q)) found
from_rest p e es found s t is =
    let same : (q : ℕ) → passes p (at (e ∷ es) q) ≡ passes p (at es q) = λ q.
    elim (is_at (nat_cmp q) e.0) as (λ b. is_at (nat_cmp q) e.0 ≡ b
    → passes p (cond b (Some e.1) (at es q)) ≡ passes p (at es q)) [
      | true ↦ λ u. t ∙ sym (ap (passes p) (past q e es s u))
      | false ↦ λ u. refl
    ] refl in
    record { passes = λ n h. sym (same n) ∙ is.passes n h; least = λ q h. is.least q (same q ∙ h) }

-- so it is the first of a table whose numbers rise
pub first_is :
    (p : Key → Bool) (es : Table Key) (found : Option ℕ) → Rises es → IsLeast (λ q. passes p (at es q)) found
    → first p es ≡ found
first_is p [] None s is = refl
first_is p [] (Some n) s is = absurd (true≢false (sym (is.passes n refl)))
first_is p (e ∷ es) found s is =
    elim (p e.1) as (λ b. p e.1 ≡ b → option_map (λ d. d.0) (cond b (Some e) (find (λ d. p d.1) es)) ≡ found) [
      | true ↦ λ t. from_first p e es found s t is
      | false ↦ λ t. first_is p es found (sorted_tail nat_cmp e.0 (keys_of es) s) (from_rest p e es found s t is)
    ] refl

-- ---- but for those that weren't looked at yet
-- what was found passes, and each that passes and is less is among the rest
pub record IsLeastBut (test : ℕ → Bool) (rest : List (ℕ × ℕ)) (found : Option ℕ) : Type 0 where
  pub passes : (n : ℕ) → found ≡ Some n → test n ≡ true
  pub least : (q : ℕ) → test q ≡ true → list_any (λ e. nat_eq q e.1) rest ≡ false → is_sooner q found ≡ false

-- when none is left, what was found is the least of the table
pub joinable_is :
    (clock : ℕ) (who : Caller) (desc : List ℕ) (keys : Table Key) (rest : List (ℕ × ℕ)) (found : Option ℕ)
    → Rises keys → rest ≡ []
    → IsLeastBut (λ q. passes (λ key. is_joinable clock who desc (seen key)) (at keys q)) rest found
    → found ≡ joinable_in clock who desc keys
joinable_is clock who desc keys rest found rises none is =
    let joins = is_joinable clock who desc in
    sym (first_map joins seen keys
    ∙ first_is (λ key. joins (seen key)) keys found rises (record {
      passes = is.passes;
      least = λ q h. is.least q h (ap (λ (es : List (ℕ × ℕ)). list_any (λ e. nat_eq q e.1) es) none);
    }))
