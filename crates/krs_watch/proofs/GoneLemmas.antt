-- The watches of keys that are not there, one after the other.
use Rattle.std.proofs.Common.{[], ◌&&◌, ◌+◌, ◌<◌, ◌∙◌, ◌∷◌, ◌≡◌, ◌≤◌, ap, arith, Bool, cond, false, filter, is_le, List}
use Rattle.std.proofs.Common.{BTreeSet, nat_cmp, not, Option, refl, slice_get, Some, subst, sym, true, true≢false, ℕ}
use Rattle.std.specs.BTreeMap.{is_at, Range.range_contains}
use Rattle.std.specs.{Cmp.ranked, List.{AllByRecursion, Sorted.IsStrictlySortedBy}, Map.keys_of, Ordering.ordering_then}
use Rattle.std.specs.declared.cmp.Ordering.TheVariants.{Equal, Greater, Less}
use Rattle.std.specs.declared.ops.Bound.TheVariants.{Included, Unbounded}
use Rattle.std.proofs.lemmas.Option.{same_Some}
use Rattle.krs_model.specs.Queues.{place_cmp, Watch, without_watch}
use Rattle.krs_model.proofs.Notes.Fitting.{each_on}
use Rattle.krs_hold.{proofs.ToldKeys.listed, specs.Told.{lists, tells}}
use Rattle.krs_watch.specs.Watched.{AreDue, gone_watches}
use Rattle.krs_watch.proofs.WatchesLemmas.{first_same, itself}

-- ---- from a key on
zero_first : (n : ℕ) → is_le (nat_cmp 0 n) ≡ true
zero_first n =
    elim (nat_cmp 0 n) as (λ r. nat_cmp 0 n ≡ r → is_le r ≡ true) [
      | Less ↦ λ t. refl
      | Equal ↦ λ t. refl
      | Greater ↦ λ t. let less : n < 0 = ranked 0 n Greater (sym t) in absurd (omega arith)
    ] refl

-- a place that is not behind the first of a key is of one before it
before_key : (key : ℕ) (p : ℕ × ℕ) → is_le (place_cmp (key, 0) p) ≡ false → p.0 < key
before_key key p =
    elim (nat_cmp key p.0) as
    (λ r. nat_cmp key p.0 ≡ r → is_le (ordering_then r (nat_cmp 0 p.1)) ≡ false → p.0 < key) [
      | Less ↦ λ t f. absurd (true≢false f)
      | Equal ↦ λ t f. absurd (true≢false (sym (zero_first p.1) ∙ f))
      | Greater ↦ λ t f. ranked key p.0 Greater (sym t)
    ] refl

-- a place behind another is of no key before its
behind_key : (v y : ℕ × ℕ) → place_cmp v y ≡ Less → v.0 ≤ y.0
behind_key v y =
    elim (nat_cmp v.0 y.0) as
    (λ r. nat_cmp v.0 y.0 ≡ r → ordering_then r (nat_cmp v.1 y.1) ≡ Less → v.0 ≤ y.0) [
      | Less ↦ λ t f. let less : v.0 < y.0 = ranked v.0 y.0 Less (sym t) in omega arith
      | Equal ↦ λ t f. let same : v.0 ≡ y.0 = ranked v.0 y.0 Equal (sym t) in omega arith
      | Greater ↦ λ t f. absurd cc
    ] refl

abbrev pub from_key : ℕ → List Watch → List Watch
from_key key ws = filter (λ w. range_contains place_cmp (Included (key, 0)) Unbounded w.0) ws

-- a watch of a key that is there, where those that are not are of this key or a later one
there : (has told : ℕ → Bool) (key : ℕ) (w : Watch)
    → (has w.0.0 ≡ false → (key ≤ w.0.0) × (told w.0.0 ≡ true)) → w.0.0 < key → has w.0.0 ≡ true
there has told key w due less =
    elim (has w.0.0) as (λ b. has w.0.0 ≡ b → b ≡ true) [
      | true ↦ λ t. refl
      | false ↦ λ t. let more : key ≤ w.0.0 = (due t).0 in absurd (omega arith)
    ] refl

-- the watches that are gone begin with the first from the key on, where that is gone
pub first_due :
    (has told : ℕ → Bool) (key : ℕ) (ws : List Watch) (e : Watch) → AreDue has told key ws
    → slice_get (from_key key ws) 0 ≡ Some e → has e.0.0 ≡ false → slice_get (gone_watches has ws) 0 ≡ Some e
first_due has told key [] e due first gone = absurd cc
first_due has told key (w ∷ ws) e due first gone =
    elim (is_le (place_cmp (key, 0) w.0)) as
    (λ b. is_le (place_cmp (key, 0) w.0) ≡ b
    → slice_get (cond (b && true) (w ∷ from_key key ws) (from_key key ws)) 0 ≡ Some e
    → slice_get (gone_watches has (w ∷ ws)) 0 ≡ Some e) [
      | true ↦ λ t f.
          ap (λ b. slice_get (cond (not b) (w ∷ gone_watches has ws) (gone_watches has ws)) 0)
          (ap (λ (x : Watch). has x.0.0) (same_Some w e f) ∙ gone) ∙ f
      | false ↦ λ t f.
          ap (λ b. slice_get (cond (not b) (w ∷ gone_watches has ws) (gone_watches has ws)) 0)
          (there has told key w due.0 (before_key key w.0 t))
          ∙ first_due has told key ws e due.1 f gone
    ] refl first

-- where there is none from the key on, none is gone
pub none_due :
    (has told : ℕ → Bool) (key : ℕ) (ws : List Watch) → AreDue has told key ws → from_key key ws ≡ []
    → gone_watches has ws ≡ []
none_due has told key [] due none = refl
none_due has told key (w ∷ ws) due none =
    elim (is_le (place_cmp (key, 0) w.0)) as
    (λ b. is_le (place_cmp (key, 0) w.0) ≡ b
    → cond (b && true) (w ∷ from_key key ws) (from_key key ws) ≡ [] → gone_watches has (w ∷ ws) ≡ []) [
      | true ↦ λ t f. absurd cc
      | false ↦ λ t f.
          ap (λ b. cond (not b) (w ∷ gone_watches has ws) (gone_watches has ws))
          (there has told key w due.0 (before_key key w.0 t))
          ∙ none_due has told key ws due.1 f
    ] refl none

-- where no key from this one on is told, none is gone
pub none_told :
    (has told : ℕ → Bool) (from : ℕ) (ws : List Watch) → AreDue has told from ws
    → ((k : ℕ) → from ≤ k → told k ≡ false) → gone_watches has ws ≡ []
none_told has told from [] due none = refl
none_told has told from (w ∷ ws) due none =
    elim (has w.0.0) as
    (λ b. has w.0.0 ≡ b → cond (not b) (w ∷ gone_watches has ws) (gone_watches has ws) ≡ []) [
      | true ↦ λ t. none_told has told from ws due.1 none
      | false ↦ λ t. absurd (true≢false (sym (due.0 t).1 ∙ none w.0.0 (due.0 t).0))
    ] refl

-- up to the first that is told
pub due_later :
    (has : ℕ → Bool) (told : Option (BTreeSet ℕ)) (from key : ℕ) (ws : List Watch) → AreDue has (tells told) from ws
    → ((k : ℕ) → from ≤ k → lists told k ≡ true → key ≤ k) → AreDue has (tells told) key ws
due_later has told from key ws due first =
    each_on (λ w. has w.0.0 ≡ false → (from ≤ w.0.0) × (tells told w.0.0 ≡ true))
    (λ w. has w.0.0 ≡ false → (key ≤ w.0.0) × (tells told w.0.0 ≡ true)) ws
    (λ w is gone. (first w.0.0 (is gone).0 (listed told w.0.0 (is gone).1), (is gone).1)) due

-- those behind a place
due_behind :
    (has told : ℕ → Bool) (from key : ℕ) (v : ℕ × ℕ) (ws : List Watch)
    → AllByRecursion (λ y. place_cmp v y ≡ Less) (keys_of ws) → AreDue has told from ws
    → ((k : ℕ) → has k ≡ false → v.0 ≤ k → key ≤ k) → AreDue has told key ws
due_behind has told from key v [] after due up = tt
due_behind has told from key v (w ∷ ws) after due up = (
  λ gone. (up w.0.0 gone (behind_key v w.0 after.0), (due.0 gone).1),
  due_behind has told from key v ws after.1 due.1 up,
)

later : (has : ℕ → Bool) (v k : ℕ) → has v ≡ true → has k ≡ false → v ≤ k → v + 1 ≤ k
later has v k live gone h =
    let other : v ≡ k → ⊥ = λ e. true≢false (sym live ∙ (ap has e ∙ gone)) in
    omega (arith, h, other)

-- past the first from the key on, where that is there
pub due_past :
    (has told : ℕ → Bool) (key : ℕ) (ws : List Watch) (e : Watch) → IsStrictlySortedBy place_cmp (keys_of ws)
    → AreDue has told key ws → slice_get (from_key key ws) 0 ≡ Some e → has e.0.0 ≡ true
    → AreDue has told (e.0.0 + 1) ws
unfolding IsStrictlySortedBy
due_past has told key [] e rises due first live = absurd cc
due_past has told key (w ∷ ws) e rises due first live =
    elim (is_le (place_cmp (key, 0) w.0)) as
    (λ b. is_le (place_cmp (key, 0) w.0) ≡ b
    → slice_get (cond (b && true) (w ∷ from_key key ws) (from_key key ws)) 0 ≡ Some e
    → AreDue has told (e.0.0 + 1) (w ∷ ws)) [
      | true ↦ λ t f.
          let same : w ≡ e = same_Some w e f in
          let here : has w.0.0 ≡ true = ap (λ (x : Watch). has x.0.0) same ∙ live in
          subst (λ (x : Watch). AreDue has told (x.0.0 + 1) (w ∷ ws)) same (
            λ gone. absurd (true≢false (sym here ∙ gone)),
            due_behind has told key (w.0.0 + 1) w.0 ws rises.0 due.1 (λ k gone h. later has w.0.0 k here gone h),
          )
      | false ↦ λ t f. (
        λ gone. absurd (true≢false (sym (there has told key w due.0 (before_key key w.0 t)) ∙ gone)),
        due_past has told key ws e rises.1 due.1 f live,
      )
    ] refl first

-- ---- the first of them
is_gone :
    (has : ℕ → Bool) (ws : List Watch) (e : Watch) → slice_get (gone_watches has ws) 0 ≡ Some e → has e.0.0 ≡ false
is_gone has [] e first = absurd cc
is_gone has (w ∷ ws) e first =
    elim (has w.0.0) as
    (λ b. has w.0.0 ≡ b → slice_get (cond (not b) (w ∷ gone_watches has ws) (gone_watches has ws)) 0 ≡ Some e
    → has e.0.0 ≡ false) [
      | true ↦ λ t f. is_gone has ws e f
      | false ↦ λ t f. subst (λ (x : Watch). has x.0.0 ≡ false) (same_Some w e f) t
    ] refl first

apart : (has : ℕ → Bool) (e w : Watch) → has e.0.0 ≡ false → has w.0.0 ≡ true
    → is_at (place_cmp (e.0.0, e.0.1)) w.0 ≡ false
apart has e w gone live =
    elim (is_at (place_cmp (e.0.0, e.0.1)) w.0) as (λ b. is_at (place_cmp (e.0.0, e.0.1)) w.0 ≡ b → b ≡ false) [
      | true ↦ λ t. absurd (true≢false (sym live ∙ (ap has (sym (first_same e.0.0 e.0.1 w.0 t)) ∙ gone)))
      | false ↦ λ t. refl
    ] refl

stays :
    (has : ℕ → Bool) (e w : Watch) (ws : List Watch) → has e.0.0 ≡ false → has w.0.0 ≡ true
    → without_watch (w ∷ ws) e.0.0 e.0.1 ≡ w ∷ without_watch ws e.0.0 e.0.1
stays has e w ws gone live =
    ap (λ b. cond b ws (w ∷ without_watch ws e.0.0 e.0.1)) (apart has e w gone live)

goes : (w : Watch) (ws : List Watch) → without_watch (w ∷ ws) w.0.0 w.0.1 ≡ ws
goes w ws = ap (λ b. cond b ws (w ∷ without_watch ws w.0.0 w.0.1)) (itself w.0.0 w.0.1)

-- once it is taken out, those that are left are of its key or later ones
pub due_after :
    (has told : ℕ → Bool) (from : ℕ) (ws : List Watch) (e : Watch) → IsStrictlySortedBy place_cmp (keys_of ws)
    → AreDue has told from ws → slice_get (gone_watches has ws) 0 ≡ Some e
    → AreDue has told e.0.0 (without_watch ws e.0.0 e.0.1)
unfolding IsStrictlySortedBy
due_after has told from [] e rises due first = absurd cc
due_after has told from (w ∷ ws) e rises due first =
    elim (has w.0.0) as
    (λ b. has w.0.0 ≡ b → slice_get (cond (not b) (w ∷ gone_watches has ws) (gone_watches has ws)) 0 ≡ Some e
    → AreDue has told e.0.0 (without_watch (w ∷ ws) e.0.0 e.0.1)) [
      | true ↦ λ t f.
          subst (λ (vs : List Watch). AreDue has told e.0.0 vs) (sym (stays has e w ws (is_gone has ws e f) t)) (
            λ gone. absurd (true≢false (sym t ∙ gone)),
            due_after has told from ws e rises.1 due.1 f,
          )
      | false ↦ λ t f.
          subst (λ (x : Watch). AreDue has told x.0.0 (without_watch (w ∷ ws) x.0.0 x.0.1)) (same_Some w e f)
          (subst (λ (vs : List Watch). AreDue has told w.0.0 vs) (sym (goes w ws))
          (due_behind has told from w.0.0 w.0 ws rises.0 due.1 (λ k gone h. h)))
    ] refl first

-- and the others are left
pub taken :
    (has : ℕ → Bool) (ws : List Watch) (e : Watch) → slice_get (gone_watches has ws) 0 ≡ Some e
    → gone_watches has ws ≡ e ∷ gone_watches has (without_watch ws e.0.0 e.0.1)
taken has [] e first = absurd cc
taken has (w ∷ ws) e first =
    let gone = gone_watches has ws in
    elim (has w.0.0) as
    (λ b. has w.0.0 ≡ b → slice_get (cond (not b) (w ∷ gone) gone) 0 ≡ Some e
    → cond (not b) (w ∷ gone) gone ≡ e ∷ gone_watches has (without_watch (w ∷ ws) e.0.0 e.0.1)) [
      | true ↦ λ t f.
          let rest = gone_watches has (without_watch ws e.0.0 e.0.1) in
          taken has ws e f
          ∙ ap (λ vs. e ∷ vs) (sym (ap (gone_watches has) (stays has e w ws (is_gone has ws e f) t)
          ∙ ap (λ b. cond (not b) (w ∷ rest) rest) t))
      | false ↦ λ t f.
          subst (λ (x : Watch). w ∷ gone ≡ x ∷ gone_watches has (without_watch (w ∷ ws) x.0.0 x.0.1)) (same_Some w e f)
          (ap (λ vs. w ∷ vs) (sym (ap (gone_watches has) (goes w ws))))
    ] refl first

-- a watch of a key that is not there leaves those of the others
pub others_stay :
    (has : ℕ → Bool) (ws : List Watch) (key n : ℕ) → has key ≡ false
    → filter (λ w. has w.0.0) (without_watch ws key n) ≡ filter (λ w. has w.0.0) ws
others_stay has [] key n gone = refl
others_stay has (w ∷ ws) key n gone =
    let left = filter (λ v. has v.0.0) ws in
    elim (is_at (place_cmp (key, n)) w.0) as
    (λ b. is_at (place_cmp (key, n)) w.0 ≡ b
    → filter (λ v. has v.0.0) (cond b ws (w ∷ without_watch ws key n)) ≡ cond (has w.0.0) (w ∷ left) left) [
      | true ↦ λ t. sym (ap (λ b. cond b (w ∷ left) left) (ap has (sym (first_same key n w.0 t)) ∙ gone))
      | false ↦ λ t. ap (λ vs. cond (has w.0.0) (w ∷ vs) vs) (others_stay has ws key n gone)
    ] refl

pub first_stays :
    (has : ℕ → Bool) (ws : List Watch) (e : Watch) → slice_get (gone_watches has ws) 0 ≡ Some e
    → filter (λ w. has w.0.0) (without_watch ws e.0.0 e.0.1) ≡ filter (λ w. has w.0.0) ws
first_stays has ws e first = others_stay has ws e.0.0 e.0.1 (is_gone has ws e first)

-- where there is none, all stay
pub none_gone : (has : ℕ → Bool) (ws : List Watch) → gone_watches has ws ≡ [] → filter (λ w. has w.0.0) ws ≡ ws
none_gone has [] none = refl
none_gone has (w ∷ ws) none =
    elim (has w.0.0) as
    (λ b. cond (not b) (w ∷ gone_watches has ws) (gone_watches has ws) ≡ []
    → cond b (w ∷ filter (λ v. has v.0.0) ws) (filter (λ v. has v.0.0) ws) ≡ w ∷ ws) [
      | true ↦ λ f. ap (λ vs. w ∷ vs) (none_gone has ws f)
      | false ↦ λ f. absurd cc
    ] none
