-- What is listed of the watches of queues, after a change of the watches.
use Rattle.std.proofs.Common.{[], ◌&&◌, ◌<◌, ◌==◌, ◌∙◌, ◌∷◌, ◌≡◌, ◌≢◌, ◌≤◌, ap, arith, Bool, BTreeSet, cond, eqb-true}
use Rattle.std.proofs.Common.{Err, false, filter, IfSome, is_err, is_gt, is_le, is_some, List, nat_cmp, nat_eq, None}
use Rattle.std.proofs.Common.{not, Ok, OnErr, OnOk, Option, refl, Result, slice_get, Some, subst, sym, true, true≢false}
use Rattle.std.proofs.Common.{ℕ}
use Rattle.std.specs.BTreeMap.{is_at, Range.IsLeBy}
use Rattle.std.specs.{BTreeSet.{IsKeyInRange, IsKeyRangeOf}, Cmp.ranked, List.list_any, Map.lookup}
use Rattle.std.specs.{Ordering.ordering_then, declared.cmp.Ordering.{Ordering, TheVariants.{Equal, Greater, Less}}}
use Rattle.std.specs.declared.ops.Bound.TheVariants.{Included, Unbounded}
use Rattle.std.proofs.lemmas.Bool.Decides.{nat_tests}
use Rattle.krs_model.specs.Queues.{place_cmp, Watch, watch_at, without_watch}
use Rattle.krs_keys.proofs.SessionsLemmas.{starts, tied}
use Rattle.krs_watch.specs.Watched.{AreListed, is_listed}

-- ---- two places
either : {X Y : Type 0} (f : X → Y) (b : Bool) (o r : X) → f (cond b o r) ≡ cond b (f o) (f r)
either f true o r = refl
either f false o r = refl

swap : (a b : Bool) → (a && b) ≡ (b && a)
swap true true = refl
swap true false = refl
swap false true = refl
swap false false = refl

first_of_both : (a b : Bool) → (a && b) ≡ true → a ≡ true
first_of_both true b h = refl
first_of_both false b h = h

second_of_both : (a b : Bool) → (a && b) ≡ true → b ≡ true
second_of_both true b h = h
second_of_both false b h = absurd (true≢false (sym h))

-- a place by queue, then key, is another where it is by key, then queue
turned : (k n q p : ℕ) → is_at (place_cmp (n, k)) (q, p) ≡ is_at (place_cmp (k, n)) (p, q)
turned k n q p = tied n k q p ∙ (swap (nat_eq n q) (nat_eq k p) ∙ sym (tied k n p q))

pub first_same : (a b : ℕ) (e : ℕ × ℕ) → is_at (place_cmp (a, b)) e ≡ true → a ≡ e.0
first_same a b e t =
    eqb-true a e.0 (first_of_both (nat_eq a e.0) (nat_eq b e.1) (sym (tied a b e.0 e.1) ∙ t))

second_same : (a b : ℕ) (e : ℕ × ℕ) → is_at (place_cmp (a, b)) e ≡ true → b ≡ e.1
second_same a b e t =
    eqb-true b e.1 (second_of_both (nat_eq a e.0) (nat_eq b e.1) (sym (tied a b e.0 e.1) ∙ t))

pub itself : (a b : ℕ) → is_at (place_cmp (a, b)) (a, b) ≡ true
itself a b =
    let left : nat_eq a a ≡ true = grind (arith, nat_tests) in
    let right : nat_eq b b ≡ true = grind (arith, nat_tests) in
    tied a b a b ∙ (ap (λ x. x && nat_eq b b) left ∙ right)

-- ---- a watch more, and a watch less
-- the watches are these, but for the place of a key and a queue
abbrev pub Sets : ℕ → ℕ → Option ℕ → List Watch → List Watch → Type 0
Sets k n o old new =
    (q : ℕ × ℕ) → lookup (is_at (place_cmp q)) new
    ≡ cond (is_at (place_cmp (k, n)) q) o (lookup (is_at (place_cmp q)) old)

-- the listed places are these, but for that of a queue and a key
abbrev pub Lists : ℕ → ℕ → Bool → List (ℕ × ℕ) → List (ℕ × ℕ) → Type 0
Lists n k b old new =
    (q : ℕ × ℕ) → list_any (is_at (place_cmp q)) new
    ≡ cond (is_at (place_cmp (n, k)) q) b (list_any (is_at (place_cmp q)) old)

-- both changed alike
pub both_changed :
    (ws vs : List Watch) (ls ms : List (ℕ × ℕ)) (k n : ℕ) (o : Option ℕ) → Sets k n o ws vs
    → Lists n k (is_some o) ls ms → AreListed ws ls → AreListed vs ms
both_changed ws vs ls ms k n o sets lists are p q =
    let here = is_at (place_cmp (k, n)) (p, q) in
    lists (q, p)
    ∙ (ap (λ b. cond b (is_some o) (is_listed ls q p)) (turned k n q p)
    ∙ (ap (cond here (is_some o)) (are p q)
    ∙ (sym (either is_some here o (watch_at ws p q)) ∙ ap is_some (sym (sets (p, q))))))

back : (d l : Bool) → (d ≡ true → l ≡ false) → cond d false (cond d true l) ≡ l
back true l h = sym (h refl)
back false l h = refl

-- what was not listed was, and is no more
pub taken_back :
    (ws : List Watch) (ls ms ns : List (ℕ × ℕ)) (k n : ℕ) → watch_at ws k n ≡ None → Lists n k true ls ms
    → Lists n k false ms ns → AreListed ws ls → AreListed ws ns
taken_back ws ls ms ns k n none lists unlists are p q =
    let here = is_at (place_cmp (n, k)) (q, p) in
    let absent : is_listed ls n k ≡ false = are k n ∙ ap is_some none in
    unlists (q, p)
    ∙ (ap (cond here false) (lists (q, p))
    ∙ (back here (is_listed ls q p) (λ t.
    subst (λ (x : ℕ). is_listed ls x p ≡ false) (first_same n k (q, p) t)
    (subst (λ (y : ℕ). is_listed ls n y ≡ false) (second_same n k (q, p) t) absent))
    ∙ are p q))

-- ---- the watches of a queue
-- a queue without watches has none to end
pub none_ends :
    (ws : List Watch) (n : ℕ) → ((key : ℕ) → is_some (watch_at ws key n) ≡ false)
    → filter (λ w. not (w.0.1 == n)) ws ≡ ws
none_ends [] n none = refl
none_ends (w ∷ ws) n none =
    let rest : (key : ℕ) → is_some (watch_at ws key n) ≡ false = λ key.
    elim (is_at (place_cmp (key, n)) w.0) as
    (λ b. is_some (cond b (Some w.1) (watch_at ws key n)) ≡ false → is_some (watch_at ws key n) ≡ false) [
      | true ↦ λ h. absurd (true≢false h)
      | false ↦ λ h. h
    ] (none key) in
    elim (w.0.1 == n) as
    (λ b. (w.0.1 == n) ≡ b → cond (not b) (w ∷ filter (λ v. not (v.0.1 == n)) ws) (filter (λ v. not (v.0.1 == n)) ws)
    ≡ w ∷ ws) [
      | true ↦ λ t.
          let here : is_at (place_cmp (w.0.0, n)) w.0 ≡ true =
          subst (λ (m : ℕ). is_at (place_cmp (w.0.0, m)) w.0 ≡ true) (eqb-true w.0.1 n t) (itself w.0.0 w.0.1) in
          absurd (true≢false (sym (ap (λ b. is_some (cond b (Some w.1) (watch_at ws w.0.0 n))) here)
          ∙ none w.0.0))
      | false ↦ λ t. ap (λ vs. w ∷ vs) (none_ends ws n rest)
    ] refl

-- one that is to end may end first
pub ends_one :
    (ws : List Watch) (key n : ℕ)
    → filter (λ w. not (w.0.1 == n)) (without_watch ws key n) ≡ filter (λ w. not (w.0.1 == n)) ws
ends_one [] key n = refl
ends_one (w ∷ ws) key n =
    let left = filter (λ v. not (v.0.1 == n)) ws in
    elim (is_at (place_cmp (key, n)) w.0) as
    (λ b. is_at (place_cmp (key, n)) w.0 ≡ b
    → filter (λ v. not (v.0.1 == n)) (cond b ws (w ∷ without_watch ws key n))
    ≡ cond (not (w.0.1 == n)) (w ∷ left) left) [
      | true ↦ λ t.
          let same : n ≡ w.0.1 = second_same key n w.0 t in
          let out : (w.0.1 == n) ≡ true = grind (arith, nat_tests) in
          sym (ap (λ b. cond (not b) (w ∷ left) left) out)
      | false ↦ λ t. ap (λ vs. cond (not (w.0.1 == n)) (w ∷ vs) vs) (ends_one ws key n)
    ] refl

-- ---- the first place of a queue
not_above : (a b : ℕ) (o : Ordering) → is_gt (ordering_then (nat_cmp a b) o) ≡ false → a ≤ b
not_above a b o h =
    elim (nat_cmp a b) as (λ r. nat_cmp a b ≡ r → is_gt (ordering_then r o) ≡ false → a ≤ b) [
      | Less ↦ λ t g. let less : a < b = ranked a b Less (sym t) in omega arith
      | Equal ↦ λ t g. let same : a ≡ b = ranked a b Equal (sym t) in omega arith
      | Greater ↦ λ t g. absurd (true≢false g)
    ] refl h

-- what lies between two places of a queue is of the queue
pub same_queue :
    (n key : ℕ) (e : ℕ × ℕ) → is_gt (place_cmp (n, 0) e) ≡ false → is_gt (place_cmp e (n, key)) ≡ false → e.0 ≡ n
same_queue n key e from to =
    let low : n ≤ e.0 = not_above n e.0 (nat_cmp 0 e.1) from in
    let high : e.0 ≤ n = not_above e.0 n (nat_cmp e.1 key) to in
    omega arith

other_way : (o : Ordering) → is_gt o ≡ not (is_le o)
other_way Less = refl
other_way Equal = refl
other_way Greater = refl

-- each place of a queue is at its first one or after it
pub from_first : (n key : ℕ) → is_gt (place_cmp (n, 0) (n, key)) ≡ false
from_first n key = other_way (place_cmp (n, 0) (n, key)) ∙ ap not (starts n key)

-- what can't be listed isn't
pub not_listed : (b : Bool) → (b ≡ true → true ≡ false) → b ≡ false
not_listed true h = h refl
not_listed false h = refl

-- where the first place from a queue's first one on is of another queue, the queue has none
pub queue_has_none :
    (places : BTreeSet (ℕ × ℕ)) (r : List (ℕ × ℕ)) (e : ℕ × ℕ) (t : List (ℕ × ℕ)) (n key : ℕ)
    → IsKeyRangeOf place_cmp (Included (n, 0)) Unbounded places r → r ≡ e ∷ t → e.0 ≢ n
    → is_listed places.keys n key ≡ false
queue_has_none places r e t n key lies is other =
    not_listed (is_listed places.keys n key) (λ listed.
    let here : IfSome (slice_get (e ∷ t) 0) (IsKeyInRange place_cmp (Included (n, 0)) Unbounded places) =
    subst (λ (x : List (ℕ × ℕ)). IfSome (slice_get x 0) (IsKeyInRange place_cmp (Included (n, 0)) Unbounded places))
    is lies.1 in
    let least : IfSome (slice_get (e ∷ t) 0) (λ k. IsLeBy place_cmp k (n, key)) =
    subst (λ (x : List (ℕ × ℕ)). IfSome (slice_get x 0) (λ k. IsLeBy place_cmp k (n, key))) is
    (lies.2 (n, key) (from_first n key, tt) listed) in
    absurd (other (same_queue n key e here.0.0 least)))

-- ---- what an insertion came to
pub accepted : {A E P : Type 0} (r : Result A E) → is_err r ≡ false → OnOk r P → P
accepted (Ok x) fails h = h
accepted (Err e) fails h = absurd (true≢false fails)

pub refused : {A E P : Type 0} (r : Result A E) → is_err r ≡ true → OnErr r P → P
refused (Ok x) fails h = absurd (true≢false (sym fails))
refused (Err e) fails h = h
