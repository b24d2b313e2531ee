-- Laws of sweeps.
use Rattle.std.proofs.Common.{[], ◌∙◌, ◌∷◌, ◌≡◌, ap, arith, Bool, cond, false, filter, find, IsSome, List, nat_cmp}
use Rattle.std.proofs.Common.{None, Option, refl, Some, subst, sym, true, true≢false, ℕ}
use Rattle.std.proofs.lemmas.{Bool.Decides.nat_tests, Option.{none-some, same_Some}}
use Rattle.std.specs.BTreeMap.{is_at}
use Rattle.krs_model.specs.{Levels.is_in, State.{Key, State}, Sweep.{AllHeld, Attached, IsHeld, IsSweep, IsSwept}}
use Rattle.krs_model.specs.{Sweep.{Linked, links_of_key, PicksHeld, roots}, Table.{at, Table}}
use Rattle.krs_model.proofs.Tables.Changes.{at_kept, is_at_same}
use Rattle.std.proofs.lemmas.Grind.{common_steps}

filter_all : {X : Type 0} (xs : List X) → xs ≡ filter (λ x. true) xs
filter_all [] = refl
filter_all (x ∷ xs) = ap (λ ys. x ∷ ys) (filter_all xs)

filter_twice : {X : Type 0} (p : X → Bool) (xs : List X) → filter p (filter p xs) ≡ filter p xs
filter_twice p [] = refl
filter_twice p (x ∷ xs) = grind (arith, nat_tests, filter_twice p xs)

-- a swept state is its own sweep
pub swept_sweep : (s : State) → IsSwept s → IsSweep s s
swept_sweep s swept = record {
  kept = λ k. true;
  picks = record { only = λ k there t. swept.keys k there; each = λ k held there. refl };
  keys = filter_all s.keys;
  rest = ap (λ ws. record s { watches = ws }) (sym swept.watches);
}

-- a key that links another is there
pub linking_is_there : (k : ℕ) (o : Option Key) → is_in k (links_of_key o) ≡ true → IsSome o
linking_is_there k None h = absurd (true≢false (sym h))
linking_is_there k (Some key) h = refl

kept_held : (rs : List ℕ) (old : Table Key) (kept : ℕ → Bool) → PicksHeld old rs kept → (k : ℕ) → IsHeld old rs k
    → IsHeld (filter (λ e. kept e.0) old) rs k
kept_held rs old kept picks _ (Attached k i) = Attached k i
kept_held rs old kept picks _ (Linked j k held i) =
    let stays : kept j ≡ true = picks.each j held (linking_is_there k (at old j) i) in
    let same : at (filter (λ e. kept e.0) old) j ≡ at old j =
    at_kept kept old j ∙ ap (λ b. cond b (at old j) None) stays in
    Linked j k (kept_held rs old kept picks j held)
    (subst (λ (o : Option Key). is_in k (links_of_key o) ≡ true) (sym same) i)

pub kept_there : {X : Type 0} (b : Bool) (o : Option X) → IsSome (cond b o None) → (b ≡ true) × IsSome o
kept_there true o h = (refl, h)
kept_there false o h = absurd (true≢false (sym h))

-- the keys that a sweep keeps are held by each other
pub picked_swept : (rs : List ℕ) (old : Table Key) (kept : ℕ → Bool) → PicksHeld old rs kept → (k : ℕ)
    → IsSome (at (filter (λ e. kept e.0) old) k) → IsHeld (filter (λ e. kept e.0) old) rs k
picked_swept rs old kept picks k h =
    let both = kept_there (kept k) (at old k) (subst IsSome (at_kept kept old k) h) in
    kept_held rs old kept picks k (picks.only k both.1 both.0)

all_held : (old new : State) (keys : Table Key) (watches : List ((ℕ × ℕ) × ℕ))
    → new ≡ record old { keys = keys; watches = watches } → ((k : ℕ) → IsSome (at keys k) → IsHeld keys (roots old) k)
    → AllHeld new
all_held old new keys watches e held = subst AllHeld (sym e) held

-- a sweep leaves a swept state
pub sweep_swept : (old new : State) → IsSweep old new → IsSwept new
sweep_swept old new s = grind (arith, nat_tests, picked_swept, all_held, filter_twice)

-- the entries of a table are there
abbrev pub AreThere : Table Key → Table Key → Type 0
AreThere all [] = Unit {0}
AreThere all (e ∷ es) = IsSome (at all e.0) × AreThere all es

some_either : (b : Bool) (v : Key) (o : Option Key) → IsSome o → IsSome (cond b (Some v) o)
some_either true v o h = refl
some_either false v o h = h

there_cons : (d : ℕ × Key) (all es : Table Key) → AreThere all es → AreThere (d ∷ all) es
there_cons d all [] h = tt
there_cons d all (e ∷ es) h = (some_either (is_at (nat_cmp e.0) d.0) d.1 (at all e.0) h.0, there_cons d all es h.1)

pub there_self : (es : Table Key) → AreThere es es
there_self [] = tt
there_self (e ∷ es) = (rw (is_at_same e.0) refl, there_cons e es es (there_self es))

-- and so is one that is found
pub found_there : (p : ℕ × Key → Bool) (all es : Table Key) (e : ℕ × Key) → AreThere all es → find p es ≡ Some e
    → IsSome (at all e.0)
found_there p all [] e there h = absurd (none-some e h)
found_there p all (d ∷ es) e there h = grind (arith, nat_tests, same_Some, found_there p all es e there.1)

same_filter : (p q : ℕ → Bool) (all es : Table Key) → ((k : ℕ) → IsSome (at all k) → p k ≡ q k) → AreThere all es
    → filter (λ e. p e.0) es ≡ filter (λ e. q e.0) es
same_filter p q all [] same there = refl
same_filter p q all (e ∷ es) same there = grind (arith, nat_tests, same_filter p q all es same there.1)

both_ways : (a b : Bool) → (a ≡ true → b ≡ true) → (b ≡ true → a ≡ true) → a ≡ b
both_ways true b f g = sym (f refl)
both_ways false true f g = g refl
both_ways false false f g = refl

-- a state has one sweep
pub one_sweep : (old a b : State) → IsSweep old a → IsSweep old b → a ≡ b
one_sweep old a b s t =
    let same : (k : ℕ) → IsSome (at old.keys k) → s.kept k ≡ t.kept k =
    λ k there. both_ways (s.kept k) (t.kept k) (λ h. t.picks.each k (s.picks.only k there h) there)
    (λ h. s.picks.each k (t.picks.only k there h) there) in
    let keys : a.keys ≡ b.keys =
    s.keys ∙ (same_filter s.kept t.kept old.keys old.keys same (there_self old.keys) ∙ sym t.keys) in
    grind (arith, common_steps)
