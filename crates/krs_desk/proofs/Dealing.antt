-- The rule of the table holds as it is made, as each seat gets its lane's slot, and when the last seat has been dealt.
use Rattle.std.proofs.Common.{[], ◌+◌, ◌<◌, ◌∙◌, ◌∷◌, ◌≡◌, add-one, All, ap, arith, false, get_or, length, List, map}
use Rattle.std.proofs.Common.{refl, replicate, set, Some, subst, suc, sym, true, zero, ℕ}
use Rattle.atomic_table.specs.{Seated.TableId, Table.{Allows, keeps, opening, step, stepped, takes}}
use Rattle.std.proofs.lemmas.List.Elements.{All-nil, All-push, All-same}
use lib.ListN.{get_elem?}
use mathlib.Core.{Logic.dite, Option.{none, some, some-injective, some-ne-none}}
use native.Mathlib.Decide.{ℕ_discrete}
use Rattle.krs_model.specs.State.{State}
use Rattle.krs_world.specs.{History.OneHistory, Knowing.{celled, fresh, one, view}, declared.view.Cell.Cell}
use Rattle.krs_world.specs.declared.view.{Part.Part, Standing.TheVariants.{One, Opening, Spent}, View.View}
use Rattle.krs_desk.specs.Moves.{moved_told, stored_told}
use Rattle.krs_desk.specs.Parts.{AreHoused, dealt, hand_of, sat, sight, spent, views_of}
use Rattle.krs_desk.specs.{Rule.{AreZero, CellIs, first_sight, InOneOrder}, Seated.Me}
use Rattle.krs_desk.specs.{Sitting.{fresh_seat, fresh_seats, IsIdleAt, Sitting}, Steps.{opens_told, picks_told}}
use Rattle.krs_desk.specs.declared.{slot.SlotValue.{SlotValue, TheVariants.{Empty, Home}}, token.Sight.Sight}
use Rattle.krs_desk.proofs.{Cells.{lies_apart, moved_cell}, Joining.opening_is, TurnSteps.{moved, Slot, turn, view_at}}
use Rattle.krs_desk.specs.Moves as move
use Rattle.krs_world.proofs.Keeping as law
use Rattle.krs_world.proofs.Seating as seating
use Rattle.krs_world.specs.declared.view.Cell.TheVariants as cells

-- each of the lanes' slots is empty
empties : (n lane : ℕ) → lane < length (map some (replicate n Empty))
    → get_elem? (map some (replicate n Empty)) lane ≡ some (some Empty)
empties zero lane lt = absurd (omega arith)
empties (suc n) zero lt = refl
empties (suc n) (suc lane) lt = empties n lane (omega arith)

after_first : (x : Slot) (xs : List Slot) (lane : ℕ) → get_elem? (x ∷ xs) (lane + 1) ≡ get_elem? xs lane
after_first x xs lane = ap (get_elem? (x ∷ xs)) (add-one lane)

homes_count : (n : ℕ) → length (map some (replicate n Empty)) ≡ n
homes_count zero = refl
homes_count (suc n) = ap suc (homes_count n)

-- the token that deals the others stands for no lane yet
first_housed : (n : ℕ) (a : State) (j : ℕ) (v : Sight) → get_elem? (first_sight a ∷ []) j ≡ some v → AreHoused n v
first_housed n a zero v e = subst (AreHoused n) (some-injective (first_sight a) v e) tt
first_housed n a (suc j) v e = absurd (some-ne-none v (sym e))

begins : (a : State) (lanes : ℕ) (ws : List ℕ) → length ws ≡ lanes + 1 → get_or ws 0 0 ≡ 2 → AreZero ws → InOneOrder a
    record { words = ws; homes = some (Home a) ∷ map some (replicate lanes Empty); views = first_sight a ∷ [] }
begins a lanes ws wide two zeros = let count = homes_count lanes in record {
  wide = wide ∙ omega arith;
  any = omega arith;
  home = Some a;
  slot = refl;
  cell = λ _. cells.Empty;
  cells = zeros;
  laid = λ j lane v e is. (
    refl,
    λ lt. after_first (some (Home a)) (map some (replicate lanes Empty)) lane ∙ empties lanes lane (omega arith),
  );
  housed = λ j v e. first_housed (length ws) a j v e;
  history = subst (λ (n : ℕ). OneHistory a n (Some a) (λ _. cells.Empty) (view a (Opening 0) ∷ [])) (sym two)
      (seating.begins a);
}

pub begins_at :
    (a : State) (lanes : ℕ) (ws vs : List ℕ) (slots : List SlotValue) → vs ≡ ws → slots ≡ Home a ∷ replicate lanes Empty
    → length ws ≡ lanes + 1 → get_or ws 0 0 ≡ 2 → AreZero ws → InOneOrder a (opening vs slots (first_sight a))
begins_at a lanes ws vs slots same is wide two zeros =
    subst (λ (z : List ℕ × List SlotValue). InOneOrder a (opening z.0 z.1 (first_sight a)))
    (λ i. (sym same i, sym is i)) (begins a lanes ws wide two zeros)

-- the turn is freed
pub opens_at : (key a : State) (n : ℕ) (slots id : ℕ) (m : Me) → m ≡ (sight (view a (Opening n)) false, [])
    → Allows (InOneOrder key) slots id m 0 (λ _. 0) (λ _. stored_told opens_told (step slots 0 0 0 none) m 0)
opens_at key a n slots id m is = subst
    (λ (z : Me). Allows (InOneOrder key) slots id z 0 (λ _. 0)
    (λ _. stored_told opens_told (step slots 0 0 0 none) z 0))
    (sym is) (λ s r len at small.
    let views : List View = views_of s.views in
    let e : a ≡ key = opening_is key a (Opening n) false s id r at (λ e. cc) in
    let from = subst (λ (k : State). OneHistory k (turn s) r.home r.cell views) (sym e) r.history in
    let h = seating.opens id from (view_at s.views id at) in (
      spent a,
      keeps,
      tt,
      moved key s r 0 id (spent a) (λ lane no. absurd no) tt
          (subst (λ (b : State). OneHistory b 0 r.home r.cell (set views id (view a Spent))) e h),
      (refl, (refl, refl)),
    ))

-- an empty cell stays empty
same_cells : (cell : ℕ → Cell) (lane : ℕ) → cell lane ≡ cells.Empty → celled cell lane cells.Empty ≡ cell
same_cells cell lane empty = λ i l. (dite (ℕ_discrete l lane) (λ (e : l ≡ lane). ap (celled cell lane cells.Empty) e
    ∙ (law.celled_here cell lane cells.Empty ∙ (sym empty ∙ ap cell (sym e))))
    (λ not. law.celled_else cell lane l cells.Empty not)) i

-- a new seat gets its lane's slot
picked : (a : State) (slots id lane : ℕ) → lane + 1 < slots
    → Allows (InOneOrder a) slots id (dealt a (fresh lane), []) (lane + 1) (λ n. n)
    (λ n. moved_told picks_told (step slots (lane + 1) 0 0 none) (dealt a (fresh lane), []) n)
picked a slots id lane room s r len at small =
    let p : Part = fresh lane in
    let views : List View = views_of s.views in
    let is : get_elem? views id ≡ some (one a p) = view_at s.views id at in
    let free = r.laid id lane (dealt a p) at (refl, refl) in
    let k = law.own id is r.history in
    let word : get_or s.words (lane + 1) 0 ≡ 0 =
    subst (CellIs (get_or s.words (lane + 1) 0) (get_elem? s.homes (lane + 1))) free.0 (r.cells lane) in
    let h = law.stays id is r.history p refl refl (λ e. e) k in (
      sat a p,
      takes (lane + 1) Empty,
      free.1 (omega arith),
      moved_cell a s r lane (get_or s.words (lane + 1) 0) none cells.Empty id a p (omega arith)
          (let wide = r.wide in omega arith) word (λ j l v not e lies. lies_apart a s r id p is j l v not e lies)
          (subst (λ (c : ℕ → Cell). OneHistory a (turn s) r.home c (set views id (one a p)))
          (sym (same_cells r.cell lane free.0)) h),
      (refl, (refl, (move.stays, (refl, (get_or s.words (lane + 1) 0, refl, λ e. omega arith), refl), refl))),
    )

pub picks_at : (key a : State) (slots id lane : ℕ) (m : Me) → m ≡ (dealt a (fresh lane), []) → lane + 1 < slots
    → Allows (InOneOrder key) slots id m (lane + 1) (λ n. n) (moved_told picks_told (step slots (lane + 1) 0 0 none) m)
picks_at key a slots id lane m is room = subst (λ (z : Me).
    Allows (InOneOrder key) slots id z (lane + 1) (λ n. n) (moved_told picks_told (step slots (lane + 1) 0 0 none) z))
    (sym is) (λ s r len at small.
    let e : a ≡ key = opening_is key a (One (fresh lane)) true s id r at (λ e. cc) in
    let t = picked a slots id lane room s (subst (λ (k : State). InOneOrder k s) (sym e) r) len at small in (
      t.0,
      t.1,
      t.2,
      subst (λ (k : State). InOneOrder k (stepped s (lane + 1) (get_or s.words (lane + 1) 0) id [] t.0 t.1)) e t.3,
      t.4,
    ))

pub picked_is : (a : State) (slots lane found : ℕ) (m n : Me) → m ≡ (dealt a (fresh lane), [])
    → picks_told (step slots (lane + 1) 0 0 none) m found n
    → n ≡ (sat a (fresh lane), hand_of (fresh lane).flight (fresh lane).lane)
picked_is a slots lane found m n is told = told ∙ ap (λ (k : Me). (sight k.0.view false, (lane + 1, Empty) ∷ k.1)) is

fresh_fit : (table : TableId) (a : State) (n : ℕ) → All (IsIdleAt table) (fresh_seats table a n)
fresh_fit table a zero = All-nil (IsIdleAt table)
fresh_fit table a (suc n) =
    All-push (IsIdleAt table) (fresh_seats table a n) (fresh_seat table a n) (fresh_fit table a n) (refl, refl)

-- every seat that is dealt fits the desk, and has no call in flight
pub all_fit :
    (table : TableId) (a : State) (n : ℕ) (xs : List Sitting) → xs ≡ fresh_seats table a n → All (IsIdleAt table) xs
all_fit table a n xs is = All-same (IsIdleAt table) xs (fresh_seats table a n) is (fresh_fit table a n)
