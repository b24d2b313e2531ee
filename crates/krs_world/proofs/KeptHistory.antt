-- The history of the machine as it is kept: the list of all calls.
use Rattle.std.proofs.Common.{[], ⊎_elim, ◌++◌, ◌<◌, ◌∙◌, ◌∷◌, ◌≡◌, ◌≢◌, ◌≤◌, ◌⊎◌, ap, arith, Bool, cond, drop, false}
use Rattle.std.proofs.Common.{get_or, inl, inr, length, length-append, length-set, length-take-le, List, map, None}
use Rattle.std.proofs.Common.{Option, refl, set, Some, subst, suc, sym, take, take-append-drop, take-take, true, zero}
use Rattle.std.proofs.{Common.ℕ, Math.Seq.take-length, lemmas.List.map-set}
use lib.ListN.{get_elem?}
use mathlib.Core.Option.{some, some-injective, some-ne-none}
use Rattle.krs_types.specs.declared.event.Event.{Event}
use Rattle.krs_model.specs.{Lists.Begins, State.{starting_at, State}}
use Rattle.krs_world.specs.Kept.{cell_by, IsKept, lane_cell, part_by, turn_by, world_of}
use Rattle.krs_world.specs.World.{cell_of, Free, IsHistory, IsOneHistory, recelled, reseated}
use Rattle.krs_world.specs.declared.{lane.Lane.Lane, view.{Cell.Cell, Part.Part, Service.Service}}
use Rattle.krs_world.proofs.{Lanes.at_set, Worlds.{get_map, history_is, of_map}}
use Rattle.std.proofs.lemmas.Grind.{common_steps}

-- what the seats know, by the list of all calls
abbrev pub seats_by : List Event → Option Service → List Lane → List Part
seats_by log serving lanes = map (part_by log serving) lanes

-- what is in their cells
abbrev pub cells_by : List Event → Option Service → List Lane → List Cell
cells_by log serving lanes = map (lane_cell log serving) lanes

-- Lists.
pub begins_take : (n : ℕ) (log : List Event) → Begins (take n log) log
begins_take n log = (drop n log, take-append-drop n log)

pub begins_further : (m n : ℕ) (log : List Event) → m ≤ n → Begins (take m log) (take n log)
begins_further m n log le = (
  drop m (take n log),
  ap (λ (z : List Event). z ++ drop m (take n log)) (sym (take-take m n log le)) ∙ take-append-drop m (take n log),
)

pub begins_short : {A : Type 0} (xs ys : List A) → Begins xs ys → length xs ≤ length ys
begins_short xs ys b = let sum = length-append xs b.0 in let same = ap length b.1 in omega arith

-- two lists that are mapped alike at each place
pub map_alike : {A B : Type 0} (f g : A → B) (xs zs : List A) → length zs ≡ length xs
    → ((j : ℕ) (z x : A) → get_elem? zs j ≡ some z → get_elem? xs j ≡ some x → g z ≡ f x) → map g zs ≡ map f xs
map_alike f g [] [] size all = refl
map_alike f g [] (z ∷ zs) size all = absurd (omega arith)
map_alike f g (x ∷ xs) [] size all = absurd (omega arith)
map_alike f g (x ∷ xs) (z ∷ zs) size all =
    let head : g z ≡ f x = all 0 z x refl refl in
    let rest : map g zs ≡ map f xs = map_alike f g xs zs (omega arith) (λ j y v at is. all (suc j) y v at is) in
    λ k. head k ∷ rest k

-- the same, but for one place, where q stands in the end
pub map_else : {A B : Type 0} (f g : A → B) (xs zs : List A) (i : ℕ) (q : B) → length zs ≡ length xs
    → ((j : ℕ) (z x : A) → get_elem? zs j ≡ some z → get_elem? xs j ≡ some x
    → (j ≡ i → g z ≡ q) × (j ≢ i → g z ≡ f x)) → map g zs ≡ set (map f xs) i q
map_else f g [] [] i q size all = refl
map_else f g [] (z ∷ zs) i q size all = absurd (omega arith)
map_else f g (x ∷ xs) [] i q size all = absurd (omega arith)
map_else f g (x ∷ xs) (z ∷ zs) zero q size all =
    let head : g z ≡ q = (all 0 z x refl refl).0 refl in
    let rest : map g zs ≡ map f xs = map_alike f g xs zs (omega arith)
    (λ j y v at is. (all (suc j) y v at is).1 (λ e. omega arith)) in λ k. head k ∷ rest k
map_else f g (x ∷ xs) (z ∷ zs) (suc i) q size all =
    let head : g z ≡ f x = (all 0 z x refl refl).1 (λ e. omega arith) in
    let rest : map g zs ≡ set (map f xs) i q = map_else f g xs zs i q (omega arith)
    (λ j y v at is. let t = all (suc j) y v at is in (λ e. t.0 (ap suc e), λ not. t.1 (λ e. not (omega arith)))) in
    λ k. head k ∷ rest k

-- what isn't true is false
pub not_true : (b : Bool) → (b ≡ true → ⊥) → b ≡ false
not_true true not = absurd (not refl)
not_true false not = refl

-- lanes at their places
pub at_in : {A : Type 0} (xs : List A) (i : ℕ) (d : A) → i < length xs → get_elem? xs i ≡ some (get_or xs i d)
at_in [] i d lt = absurd (omega arith)
at_in (x ∷ xs) zero d lt = refl
at_in (x ∷ xs) (suc i) d lt = at_in xs i d (omega arith)

pub in_bounds : {A : Type 0} (xs : List A) (i : ℕ) (x : A) → get_elem? xs i ≡ some x → i < length xs
in_bounds [] i x e = absurd (some-ne-none x (sym e))
in_bounds (y ∷ ys) zero x e = omega arith
in_bounds (y ∷ ys) (suc i) x e = let lt = in_bounds ys i x e in omega arith

-- The history of the machine that is kept so.
-- a list is the history of a machine that is kept so only where it is the list of all calls
pub history_kept : {store : State} {out : Option ℕ} {serving : Option Service} {log : List Event} {lanes : List Lane}
    (k : IsKept store out serving log lanes)
    (other : List Event) → IsHistory (world_of store out serving log lanes) other → other ≡ log
history_kept {store} {out} {serving} {log} {lanes} k other h =
    history_is (starting_at 3) (cell_of (cells_by log serving lanes)) (seats_by log serving lanes) (turn_by store out)
    k.one.history other h ∙ k.whole

-- and that list is
pub kept_history : {store : State} {out : Option ℕ} {serving : Option Service} {log : List Event} {lanes : List Lane}
    → IsKept store out serving log lanes
    → IsHistory (world_of store out serving log lanes) log
kept_history {store} {out} {serving} {log} {lanes} k = grind (arith, common_steps)

-- who holds a list holds the whole
pub held_whole : (log l : List Event) (b : Bool) → cond b (Some log) None ≡ Some l → log ≡ l
held_whole log l true e = cc
held_whole log l false e = absurd (let no : None ≡ Some l = e in cc)

-- some lane has seen all calls, or there are none
abbrev pub IsSeenWhole : List Event → List Lane → Type 0
IsSeenWhole log lanes = (log ≡ []) ⊎ ((j : ℕ) × (l : Lane) × (get_elem? lanes j ≡ some l) × (l.seen ≡ length log))

-- then, or where a seat has the turn, the one history is the list
pub whole_now : (store : State) (out : Option ℕ) (serving : Option Service) (log : List Event) (lanes : List Lane)
    (now : IsOneHistory (world_of store out serving log lanes)) → (out ≡ None → IsSeenWhole log lanes)
    → now.history.log ≡ log
whole_now store None serving log lanes now free =
    sym (history_is (starting_at 3) (cell_of (cells_by log serving lanes)) (seats_by log serving lanes)
    (Free store) now.history
    log (
      ⊎_elim inl (λ (t : (j : ℕ) × (l : Lane) × (get_elem? lanes j ≡ some l) × (l.seen ≡ length log)). inr (
        t.0,
        part_by log serving t.1,
        get_map (part_by log serving) lanes t.0 t.1 t.2,
        ap (λ (n : ℕ). take n log) t.3 ∙ take-length log,
      )) (free refl),
      λ j p at. let m = of_map (part_by log serving) lanes j p at in
          subst (λ (q : Part). Begins q.seen log) m.2 (begins_take m.0.seen log),
    ))
whole_now store (Some holder) serving log lanes now free = grind (arith, common_steps, of_map, held_whole)

-- some lane has seen all calls, where the turn is free
pub seen_whole : {store : State} {serving : Option Service} {log : List Event} {lanes : List Lane}
    → IsKept store None serving log lanes
    → IsSeenWhole log lanes
seen_whole {serving = serving} {log} {lanes} k = ⊎_elim inl
    (λ (t : (j : ℕ) × (p : Part) × (get_elem? (seats_by log serving lanes) j ≡ some p) × (p.seen ≡ log)).
    let m = of_map (part_by log serving) lanes t.0 t.1 t.2 in
    let all : take m.0.seen log ≡ log = ap (λ (p : Part). p.seen) m.2 ∙ t.3 in
    let short = (k.each t.0 m.0 m.1).seen in
    inr (t.0, m.0, m.1, sym (length-take-le m.0.seen log short) ∙ ap length all)) (kept_history k).0

-- the lane that is out has its place
pub out_at : {store : State} {out : Option ℕ} {serving : Option Service} {log : List Event} {lanes : List Lane}
    {i : ℕ} → IsKept store out serving log lanes → out ≡ Some i → (x : Lane) × (get_elem? lanes i ≡ some x)
out_at {store = store} {serving = serving} {log} {lanes} {i} k here =
    let h = subst (λ (o : Option ℕ). IsHistory (world_of store o serving log lanes) log) here (kept_history k) in
    let m = of_map (part_by log serving) lanes i h.0 h.1 in (m.0, m.1)

pub out_within : {store : State} {out : Option ℕ} {serving : Option Service} {log : List Event} {lanes : List Lane}
    {i : ℕ} → IsKept store out serving log lanes → out ≡ Some i → i < length lanes
out_within {lanes = lanes} {i} k here =
    let t = out_at k here in in_bounds lanes i t.0 t.1

-- The machine as it is kept, after a step.
-- what is so of the lane at one place, and of all others, is so of each
pub each_at : (P : ℕ → Lane → Type 0) (lanes : List Lane) (i : ℕ) (y : Lane) → P i y
    → ((j : ℕ) (l : Lane) → j ≢ i → get_elem? lanes j ≡ some l → P j l) → (j : ℕ) (l : Lane)
    → get_elem? (set lanes i y) j ≡ some l → P j l
each_at P lanes i y mine others j l e = grind (arith, common_steps, ⊎_elim, at_set)

-- another lane at its place, with the cell that it had
pub reseats : (store : State) (out out' : Option ℕ) (serving : Option Service) (log : List Event) (lanes : List Lane)
    (i : ℕ) (x y : Lane) (q : Part) → get_elem? lanes i ≡ some x → y.slot ≡ x.slot → part_by log serving y ≡ q
    → world_of store out' serving log (set lanes i y)
    ≡ record (reseated (world_of store out serving log lanes) i q) { turn = turn_by store out' }
reseats store out out' serving log lanes i x y q at same is =
    let cells : cells_by log serving (set lanes i y) ≡ cells_by log serving lanes =
    map_alike (lane_cell log serving) (lane_cell log serving) lanes (set lanes i y) (length-set lanes i y)
    (λ j z v there was. ⊎_elim
    (λ (t : (j ≡ i) × (y ≡ z)). let old : x ≡ v = some-injective x v
    (sym at ∙ (ap (get_elem? lanes) (sym t.0) ∙ was)) in
    ap (lane_cell log serving) (sym t.1) ∙ (ap (cell_by log serving) same ∙ ap (lane_cell log serving) old))
    (λ (t : (j ≢ i) × (get_elem? lanes j ≡ some z)). let one : z ≡ v = some-injective z v (sym t.1 ∙ was) in
    ap (lane_cell log serving) one) (at_set lanes i j y z there)) in
    λ k. record {
      opening = starting_at 3;
      turn = turn_by store out';
      cells = cells k;
      seats = (map-set (part_by log serving) lanes i y ∙ ap (set (seats_by log serving lanes) i) is) k;
    }

-- another lane at its place, and c in its cell
pub recells : (store : State) (out : Option ℕ) (serving : Option Service) (log : List Event) (lanes : List Lane)
    (i : ℕ) (y : Lane) (q : Part) (c : Cell) → part_by log serving y ≡ q → lane_cell log serving y ≡ c
    → world_of store out serving log (set lanes i y)
    ≡ recelled (reseated (world_of store out serving log lanes) i q) i c
recells store out serving log lanes i y q c is cell = grind (arith, common_steps, map-set, set)
