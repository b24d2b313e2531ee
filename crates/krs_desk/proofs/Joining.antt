-- Splitting a token, joining two, and the look of a token of two lanes keep the rule of the table.
use Rattle.std.proofs.Common.{[], ⊎_elim, ◌++◌, ◌+◌, ◌∙◌, ◌∷◌, ◌≡◌, ◌≢◌, ◌≤◌, ap, arith, Bool, false, length, List}
use Rattle.std.proofs.Common.{None, Option, refl, set, subst, sym, true, ℕ}
use Rattle.atomic_table.specs.Table.{Allows, Joins, keeps, Splits, step}
use lib.ListN.{get_elem?}
use mathlib.Core.Option.{none, some}
use Rattle.krs_types.specs.declared.event.Event.{Event}
use Rattle.krs_model.specs.State.{starting_at, State}
use Rattle.krs_world.specs.{History.OneHistory, Knowing.{loaded, one, view}, declared.view.{Cell.Cell, Part.Part}}
use Rattle.krs_world.specs.declared.view.{Standing.{Standing, TheVariants.{One, Opening, Spent, Two}}, View.View}
use Rattle.krs_desk.specs.Moves.{moved_told}
use Rattle.krs_desk.specs.Parts.{AreHoused, AreHousedBy, both_sights, given_laid, given_of, given_sight, hand_of}
use Rattle.krs_desk.specs.Parts.{IsLaid, IsLaidBy, kept_of, kept_sight, sat, settled_sight, sight, spent, views_of}
use Rattle.krs_desk.specs.Rule.{InOneOrder, IsVacant}
use Rattle.krs_desk.specs.{Seated.{Me, opening, part}, Steps.{checks_told, Found, looks_told}}
use Rattle.krs_desk.specs.declared.{slot.SlotValue.SlotValue, token.Sight.Sight}
use Rattle.krs_desk.proofs.TurnSteps.{housed_set, laid_set, sat_lies, Table, turn, unmoved, view_at, views_set}
use Rattle.krs_desk.specs.Moves as move
use Rattle.krs_world.proofs.Joining as joining
use Rattle.krs_world.proofs.Keeping as law
use Rattle.krs_world.proofs.Lifting as lifting
use Rattle.krs_world.proofs.Seating as seating

-- what a view that isn't spent has for the opening state is the key
pub opening_is : (key a : State) (st : Standing) (laid : Bool) (s : Table) (id : ℕ)
    → InOneOrder key s → get_elem? s.views id ≡ some (sight (view a st) laid) → st ≢ Spent → a ≡ key
opening_is key a st laid s id r at unspent =
    ⊎_elim (λ (no : (view a st).stands ≡ Spent). absurd (unspent no)) (λ (is : (view a st).opening ≡ key). is)
    (r.history.openings id (view a st) (view_at s.views id at))

-- Splits.

-- a lane whose slot lies there for what is left had it there before
kept_lies : (P : ℕ → Type 0) (st : Standing) (laid : Bool) (lane : ℕ) → ((l : ℕ) → IsLaidBy l laid st → P l)
    → IsLaidBy lane false (kept_of st) → P lane
kept_lies P Spent laid lane was is = absurd is
kept_lies P (One p) laid lane was is = absurd is
kept_lies P (Two p q) laid lane was is = absurd (let no : false ≡ true = is.0 in cc)
kept_lies P (Opening n) laid lane was is = was lane (let le : n + 1 ≤ lane = is in omega arith)

-- and so had the lane that is given
given_lies : (P : ℕ → Type 0) (st : Standing) (laid : Bool) (lane : ℕ) → ((l : ℕ) → IsLaidBy l laid st → P l)
    → IsLaidBy lane (given_laid st) (given_of st) → P lane
given_lies P Spent laid lane was is = absurd is
given_lies P (One p) laid lane was is = absurd (let no : false ≡ true = is.0 in cc)
given_lies P (Two p q) laid lane was is = absurd (let no : false ≡ true = is.0 in cc)
given_lies P (Opening n) laid lane was is = was lane (let same : n ≡ lane = is.1 in omega arith)

views_snoc : (l : List Sight) (y : Sight) → views_of (l ++ y ∷ []) ≡ views_of l ++ y.view ∷ []
views_snoc [] y = refl
views_snoc (x ∷ xs) y = ap (λ l. x.view ∷ l) (views_snoc xs y)

pub views_cut :
    (l : List Sight) (i : ℕ) (x y : Sight) → views_of (set l i x ++ y ∷ []) ≡ set (views_of l) i x.view ++ y.view ∷ []
views_cut l i x y = views_snoc (set l i x) y ∙ ap (λ k. k ++ y.view ∷ []) (views_set l i x)

-- what is left of a token stands for lanes that it stood for
kept_housed : (n : ℕ) (st : Standing) (laid : Bool) → AreHousedBy n laid st → AreHousedBy n false (kept_of st)
kept_housed n Spent laid was = tt
kept_housed n (One p) laid was = tt
kept_housed n (Two p q) laid was = was.0
kept_housed n (Opening lane) laid was = tt

-- a split, by the law of the one history
cuts : (key a : State) (st : Standing) (laid : Bool) (id : ℕ) → st ≢ Spent
    → ((n : ℕ) → AreHousedBy n laid st → AreHousedBy n (given_laid st) (given_of st))
    → ((turn : ℕ) (home : Option State) (cell : ℕ → Cell) (views : List View)
    → OneHistory a turn home cell views → get_elem? views id ≡ some (view a st)
    → OneHistory a turn home cell (set views id (view a (kept_of st)) ++ view a (given_of st) ∷ []))
    → Splits (InOneOrder key) id (sight (view a st) laid) (kept_sight (sight (view a st) laid))
    (given_sight (sight (view a st) laid))
cuts key a st laid id unspent gives by s r at =
    let v : Sight = sight (view a st) laid in
    let x : Sight = kept_sight v in
    let y : Sight = given_sight v in
    let e : a ≡ key = opening_is key a st laid s id r at unspent in
    let from = subst (λ (k : State). OneHistory k (turn s) r.home r.cell (views_of s.views)) (sym e) r.history in
    let P : ℕ → Type 0 = IsVacant s.homes r.cell in
    let was : (l : ℕ) → IsLaidBy l laid st → P l = λ l is. r.laid id l v at is in
    record {
      wide = r.wide;
      any = r.any;
      home = r.home;
      slot = r.slot;
      cell = r.cell;
      cells = r.cells;
      laid = λ j lane w is lies.
          ⊎_elim (λ (old : get_elem? (set s.views id x) j ≡ some w). laid_set P s.views id x
          (λ l on. kept_lies P st laid l was on) (λ i l u not got on. r.laid i l u got on) j lane w old lies)
          (λ (new : (y ≡ w) × (j ≡ length (set s.views id x))). given_lies P st laid lane was
          (subst (IsLaid lane) (sym new.0) lies)) (law.at_snoc (set s.views id x) y w j is);
      housed = λ j w is.
          let n : ℕ = length s.words in
          let had : AreHousedBy n laid st = r.housed id v at in
          ⊎_elim
          (λ (old : get_elem? (set s.views id x) j ≡ some w). housed_set n s.views id x (kept_housed n st laid had)
          r.housed j w old)
          (λ (new : (y ≡ w) × (j ≡ length (set s.views id x))). subst (AreHoused n) new.0 (gives n had))
          (law.at_snoc (set s.views id x) y w j is);
      history = subst (λ (z : State × List View). OneHistory z.0 (turn s) r.home r.cell z.1)
          (λ i. (e i, sym (views_cut s.views id x y) i))
          (by (turn s) r.home r.cell (views_of s.views) from (view_at s.views id at));
    }

pub cuts_one : (key a : State) (p : Part) (id : ℕ) → p.holding ≡ None
    → Splits (InOneOrder key) id (sat a p) (kept_sight (sat a p)) (given_sight (sat a p))
cuts_one key a p id empty = cuts key a (One p) false id (λ e. cc) (λ n h. h)
    (λ turn home cell views o at. lifting.lifts id o at empty)

pub cuts_two : (key a : State) (p q : Part) (laid : Bool) (id : ℕ)
    → Splits (InOneOrder key) id (sight (view a (Two p q)) laid) (kept_sight (sight (view a (Two p q)) laid))
    (given_sight (sight (view a (Two p q)) laid))
cuts_two key a p q laid id = cuts key a (Two p q) laid id (λ e. cc) (λ n h. h.1)
    (λ turn home cell views o at. joining.parts id o at)

pub cuts_deal : (key a : State) (n : ℕ) (laid : Bool) (id : ℕ)
    → Splits (InOneOrder key) id (sight (view a (Opening n)) laid) (kept_sight (sight (view a (Opening n)) laid))
    (given_sight (sight (view a (Opening n)) laid))
cuts_deal key a n laid id = cuts key a (Opening n) laid id (λ e. cc) (λ words h. refl)
    (λ turn home cell views o at. seating.deals id o at)

pub cuts_of : (key : State) (id : ℕ) (v w : Sight) → v ≡ w → Splits (InOneOrder key) id w (kept_sight w) (given_sight w)
    → Splits (InOneOrder key) id v (kept_sight v) (given_sight v)
cuts_of key id v w is h = subst (λ (z : Sight). Splits (InOneOrder key) id z (kept_sight z) (given_sight z)) (sym is) h

-- Joins.

pub views_twice : (l : List Sight) (i j : ℕ) (x y : Sight)
    → views_of (set (set l i x) j y) ≡ set (set (views_of l) i x.view) j y.view
views_twice l i j x y = views_set (set l i x) j y ∙ ap (λ k. set k j y.view) (views_set l i x)

-- a join after which neither token is laid a slot
joined : (key : State) (s : Table) (r : InOneOrder key s) (id other : ℕ) (x y : Sight)
    → ((lane : ℕ) → IsLaid lane x → ⊥) → ((lane : ℕ) → IsLaid lane y → ⊥)
    → AreHoused (length s.words) x → AreHoused (length s.words) y
    → OneHistory key (turn s) r.home r.cell (set (set (views_of s.views) id x.view) other y.view)
    → InOneOrder key record { words = s.words; homes = s.homes; views = set (set s.views id x) other y }
joined key s r id other x y no_x no_y fits_x fits_y h =
    let P : ℕ → Type 0 = IsVacant s.homes r.cell in
    record {
      wide = r.wide;
      any = r.any;
      home = r.home;
      slot = r.slot;
      cell = r.cell;
      cells = r.cells;
      laid = laid_set P (set s.views id x) other y (λ lane is. absurd (no_y lane is))
          (λ j lane v _ e is. laid_set P s.views id x (λ l on. absurd (no_x l on))
          (λ i l u not got on. r.laid i l u got on) j lane v e is);
      housed = housed_set (length s.words) (set s.views id x) other y fits_y
          (housed_set (length s.words) s.views id x fits_x r.housed);
      history = subst (OneHistory key (turn s) r.home r.cell) (sym (views_twice s.views id other x y)) h;
    }

-- what the other token of a join knows
there_is : (s : Table) (id other : ℕ) (x y : Sight) → other ≢ id → get_elem? (set s.views id x) other ≡ some y
    → get_elem? s.views other ≡ some y
there_is s id other x y apart at = ⊎_elim (λ (t : (other ≡ id) × (x ≡ y)). absurd (apart t.0))
    (λ (t : (other ≢ id) × (get_elem? s.views other ≡ some y)). t.1) (law.at_set s.views id other x y at)

glues : (key a b : State) (p q : Part) (id other : ℕ) → p.holding ≡ None → q.holding ≡ None
    → Joins (InOneOrder key) id (sat a p) other (sat b q) (both_sights (sat a p) (sat b q)) (spent (starting_at 3))
glues key a b p q id other p_holds q_holds s r at apart at' =
    let views : List View = views_of s.views in
    let e : a ≡ key = opening_is key a (One p) false s id r at (λ e. cc) in
    let is_there = there_is s id other (both_sights (sat a p) (sat b q)) (sat b q) apart at' in
    let f : b ≡ key = opening_is key b (One q) false s other r is_there (λ e. cc) in
    let from = subst (λ (k : State). OneHistory k (turn s) r.home r.cell views) (sym e) r.history in
    let there : get_elem? views other ≡ some (one a q) =
    subst (λ (k : State). get_elem? views other ≡ some (one k q)) (f ∙ sym e) (view_at s.views other is_there) in
    let here : get_elem? (set views id (view a (Two p q))) other ≡ some (one a q) =
    law.set_else views id other (view a (Two p q)) apart ∙ there in
    let h = joining.joins (starting_at 3) id other from (view_at s.views id at) apart here p_holds q_holds in
    joined key s r id other (both_sights (sat a p) (sat b q)) (spent (starting_at 3)) (λ lane is. is) (λ lane is. is)
    (r.housed id (sat a p) at, r.housed other (sat b q) is_there) tt (subst
    (λ (k : State). OneHistory k (turn s) r.home r.cell
    (set (set views id (view a (Two p q))) other (view (starting_at 3) Spent))) e h)

pub glues_at : (key a b : State) (p q : Part) (c : List (ℕ × SlotValue)) (id other : ℕ) (m n : Me) → m ≡ (sat a p, c)
    → n ≡ (sat b q, []) → p.holding ≡ None → q.holding ≡ None
    → Joins (InOneOrder key) id m.0 other n.0 (both_sights m.0 n.0) (spent (starting_at 3))
glues_at key a b p q c id other m n is is' p_holds q_holds = subst
    (λ (z : Sight × Sight). Joins (InOneOrder key) id z.0 other z.1 (both_sights z.0 z.1) (spent (starting_at 3)))
    (λ i. (sym (ap (λ (k : Me). k.0) is) i, sym (ap (λ (k : Me). k.0) is') i))
    (glues key a b p q id other p_holds q_holds)

settles : (key a b : State) (q : Part) (id other : ℕ) → q.holding ≡ None
    → Joins (InOneOrder key) id (spent a) other (sat b q) (settled_sight (spent a) (sat b q)) (spent (starting_at 3))
settles key a b q id other empty s r at apart at' =
    let views : List View = views_of s.views in
    let is_there = there_is s id other (sat b q) (sat b q) apart at' in
    let f : b ≡ key = opening_is key b (One q) false s other r is_there (λ e. cc) in
    let there : get_elem? views other ≡ some (one key q) =
    subst (λ (k : State). get_elem? views other ≡ some (one k q)) f (view_at s.views other is_there) in
    let h = lifting.settles (starting_at 3) id other r.history (view_at s.views id at) refl apart there empty in
    joined key s r id other (sat b q) (spent (starting_at 3))
    (λ lane is. let no : false ≡ true = is.0 in cc) (λ lane is. is) (r.housed other (sat b q) is_there) tt (subst
    (λ (k : State). OneHistory key (turn s) r.home r.cell
    (set (set views id (one k q)) other (view (starting_at 3) Spent))) (sym f) h)

pub settles_at : (key a b : State) (q : Part) (c : List (ℕ × SlotValue)) (id other : ℕ) (m n : Me) → m ≡ (spent a, c)
    → n ≡ (sat b q, []) → q.holding ≡ None
    → Joins (InOneOrder key) id m.0 other n.0 (settled_sight m.0 n.0) (spent (starting_at 3))
settles_at key a b q c id other m n is is' empty = subst
    (λ (z : Sight × Sight). Joins (InOneOrder key) id z.0 other z.1 (settled_sight z.0 z.1) (spent (starting_at 3)))
    (λ i. (sym (ap (λ (k : Me). k.0) is) i, sym (ap (λ (k : Me). k.0) is') i)) (settles key a b q id other empty)

-- Looks.

-- a look of one lane's token, which tells that its opening is the key
pub checks_at :
    (key : State) (slots id : ℕ) (m : Me) → m ≡ (sat (opening m) (part m), hand_of (part m).flight (part m).lane)
    → Allows (InOneOrder key) slots id m 0 (λ n. n) (moved_told (checks_told key) (step slots 0 0 0 none) m)
checks_at key slots id m is =
    let a : State = opening m in
    let p : Part = part m in
    let c : List (ℕ × SlotValue) = hand_of p.flight p.lane in
    subst (λ (z : Me). Allows (InOneOrder key) slots id z 0 (λ n. n)
    (moved_told (checks_told key) (step slots 0 0 0 none) z))
    (sym is) (λ s r len at small.
    let views : List View = views_of s.views in
    let e : a ≡ key = opening_is key a (One p) false s id r at (λ e. cc) in
    let h : OneHistory a (turn s) r.home r.cell views =
    subst (λ (k : State). OneHistory k (turn s) r.home r.cell views) (sym e) r.history in
    let here : get_elem? views id ≡ some (one a p) = view_at s.views id at in
    let k = law.own id here h in (
      sat a p,
      keeps,
      tt,
      unmoved key s r 0 id (sat a p) c (λ lane lies. sat_lies (IsVacant s.homes r.cell) a p lane lies)
          (r.housed id (sat a p) at)
          (subst (λ (b : State). OneHistory b (turn s) r.home r.cell (set views id (one a p))) e
          (law.stays id here h p refl refl (λ e. e) k)),
      ((refl, e), (refl, (move.loads p.seen, ((refl, refl, refl, (turn s, refl)), law.prefix_self p.seen), refl))),
    ))

abbrev pub pair : State → Part → Part → Sight
pair a p q = sight (view a (Two p q)) false

pub looks_at : (key a : State) (p q : Part) (c : List (ℕ × SlotValue)) (slots id : ℕ) (m : Me) → m ≡ (pair a p q, c)
    → Allows (InOneOrder key) slots id m 0 (λ n. n) (moved_told looks_told (step slots 0 0 0 none) m)
looks_at key a p q c slots id m is =
    subst (λ (z : Me). Allows (InOneOrder key) slots id z 0 (λ n. n) (moved_told looks_told (step slots 0 0 0 none) z))
    (sym is)
    (λ s r len at small.
    let views : List View = views_of s.views in
    let e : a ≡ key = opening_is key a (Two p q) false s id r at (λ e. cc) in
    let h : OneHistory a (turn s) r.home r.cell views =
    subst (λ (k : State). OneHistory k (turn s) r.home r.cell views) (sym e) r.history in
    let w : Sight = pair a (loaded p h.log) (loaded q h.log) in
    let here : get_elem? views id ≡ some (view a (Two p q)) = view_at s.views id at in
    let k = h.each id (view a (Two p q)) here in (
      w,
      keeps,
      tt,
      unmoved key s r 0 id w c (λ lane no. absurd no) (r.housed id (pair a p q) at)
          (subst (λ (b : State). OneHistory b (turn s) r.home r.cell (set views id w.view)) e
          (joining.looks id h here)),
      (
        (
          h.log,
          h.last,
          refl,
          record {
            legal = h.legal;
            seen = k.0.seen;
            mine = λ idle. law.idle_mine p h.log (r.cell p.lane) idle k.0.fits;
          },
          record {
            legal = h.legal;
            seen = k.1.seen;
            mine = λ idle. law.idle_mine q h.log (r.cell q.lane) idle k.1.fits;
          },
        ),
        (refl, ((refl, refl, refl, (turn s, refl)), (h.log, k.0.seen, k.1.seen, refl))),
      ),
    ))

-- Tokens after a split, a join and a look.

pub kept_is :
    (v : Sight) (c : List (ℕ × SlotValue)) (m n : Me) → m ≡ (v, c) → n ≡ (kept_sight m.0, m.1) → n ≡ (kept_sight v, c)
kept_is v c m n is e = e ∙ ap (λ (k : Me). (kept_sight k.0, k.1)) is

pub given_is :
    (v : Sight) (c : List (ℕ × SlotValue)) (m n : Me) → m ≡ (v, c) → n ≡ (given_sight m.0, []) → n ≡ (given_sight v, [])
given_is v c m n is e = e ∙ ap (λ (k : Me). (given_sight k.0, [])) is

pub both_is : (v u : Sight) (c d : List (ℕ × SlotValue)) (m n w : Me) → m ≡ (v, c) → n ≡ (u, d)
    → w ≡ (both_sights m.0 n.0, m.1) → w ≡ (both_sights v u, c)
both_is v u c d m n w is is' e = e ∙ (λ i. (both_sights (is i).0 (is' i).0, (is i).1))

pub settled_is : (v u : Sight) (c d : List (ℕ × SlotValue)) (m n w : Me) → m ≡ (v, c) → n ≡ (u, d)
    → w ≡ (settled_sight m.0 n.0, m.1) → w ≡ (settled_sight v u, c)
settled_is v u c d m n w is is' e = e ∙ (λ i. (settled_sight (is i).0 (is' i).0, (is i).1))

-- what a look tells, of a token of these two lanes
pub looked_is : (a : State) (p q : Part) (c : List (ℕ × SlotValue)) (slots : ℕ) (m w : Me) → m ≡ (pair a p q, c)
    → looks_told (step slots 0 0 0 none) m 0 w
    → (log : List Event) × (last : State) × (w ≡ (pair a (loaded p log) (loaded q log), c))
    × Found a p log last × Found a q log last
looked_is a p q c slots m w is told = subst (λ (z : Me). looks_told (step slots 0 0 0 none) z 0 w) is told
