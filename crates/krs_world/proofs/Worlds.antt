-- Each step of the machine keeps the one history.
use Rattle.std.proofs.Common.{[], ⊎_elim, ◌++◌, ◌==◌, ◌∙◌, ◌∷◌, ◌≡◌, ◌≢◌, ap, arith, Bool, cond, eq-eqb, false, inl}
use Rattle.std.proofs.Common.{inr, List, map, ne_eqb, None, Option, refl, Result, set, Some, subst, suc, sym, true}
use Rattle.std.proofs.Common.{zero, ℕ}
use lib.ListN.{get_elem?}
use mathlib.Core.{Logic.dite, Option.{some, some-injective, some-ne-none}}
use native.Mathlib.Decide.{ℕ_discrete}
use Rattle.krs_types.specs.declared.{ask.Ask.Ask, errno.Errno.Errno, event.Event.Event}
use Rattle.krs_model.specs.{History.event_of, Lists.Begins, State.State}
use Rattle.krs_world.specs.History.{Fits, HasSeen, OneHistory}
use Rattle.krs_world.specs.Knowing.{answered, celled, collected, events_of, grabbed, kept, loaded, looked_at, missed}
use Rattle.krs_world.specs.{Knowing.{one, posted, put_none, put_own, taken}, World.at_home}
use Rattle.krs_world.specs.World.{cell_of, event_by, Free, is_answered, IsHistory, IsHistoryBy, IsLongest, IsOneHistory}
use Rattle.krs_world.specs.World.{Out, recelled, reseated, Runs, Steps, StepsAs, Turn, turn_word, views_of, World}
use Rattle.krs_world.specs.declared.step.Kind.{Kind, TheVariants.{Answer, Collect, CollectFound, Grab, Load, LookAt}}
use Rattle.krs_world.specs.declared.step.Kind.TheVariants.{Post, Put, Serve, Take, TakeFound}
use Rattle.krs_world.specs.declared.{step.WorldStep.WorldStep, view.{Cell.Cell, Part.Part, Service.Service, View.View}}
use Rattle.krs_world.proofs.Keeping.{at_set, prefix_both, set_at, set_else}
use Rattle.krs_world.proofs.Lanes.{celled_else, celled_here, prefix_self}
use Rattle.krs_types.specs.declared.ask.Answer as answer
use Rattle.krs_world.proofs.Keeping as law
use Rattle.krs_world.proofs.Posting as posting
use Rattle.krs_world.proofs.Serving as serving
use Rattle.krs_world.specs.declared.view.Cell.TheVariants as cells
use Rattle.std.proofs.lemmas.Grind.{common_steps}

map_set : {A B : Type 0} (f : A → B) (xs : List A) (i : ℕ) (x : A) → map f (set xs i x) ≡ set (map f xs) i (f x)
map_set f [] i x = refl
map_set f (y ∷ ys) zero x = refl
map_set f (y ∷ ys) (suc i) x = ap (λ l. f y ∷ l) (map_set f ys i x)

pub get_map : {A B : Type 0} (f : A → B) (xs : List A) (i : ℕ) (x : A) → get_elem? xs i ≡ some x
    → get_elem? (map f xs) i ≡ some (f x)
get_map f [] i x e = absurd (some-ne-none x (sym e))
get_map f (y ∷ ys) zero x e = ap (λ z. some (f z)) (some-injective y x e)
get_map f (y ∷ ys) (suc i) x e = get_map f ys i x e

pub of_map : {A B : Type 0} (f : A → B) (xs : List A) (i : ℕ) (y : B) → get_elem? (map f xs) i ≡ some y → (x : A)
    × (get_elem? xs i ≡ some x) × (f x ≡ y)
of_map f [] i y e = absurd (some-ne-none y (sym e))
of_map f (x ∷ xs) zero y e = (x, refl, some-injective (f x) y e)
of_map f (x ∷ xs) (suc i) y e = of_map f xs i y e

pub prefix_none : {A : Type 0} (xs ys : List A) → xs ≡ [] → Begins xs ys
prefix_none xs ys e = (ys, ap (λ l. l ++ ys) e)

-- the seat of the lane where the turn is out holds a list
abbrev pub IsOutAt : Turn → List Part → Type 0
IsOutAt (Free store) seats = Unit {0}
IsOutAt (Out lane) seats = (p : Part) × (log : List Event) × (get_elem? seats lane ≡ some p) × (p.holding ≡ Some log)

out_at : (turn : Turn) (seats : List Part) (log : List Event) → IsHistoryBy turn log seats → IsOutAt turn seats
out_at (Free store) seats log h = tt
out_at (Out lane) seats log h = (h.0, log, h.1, h.2)

module _ (a : State) (cell : ℕ → Cell) (seats : List Part) where
  abbrev views : List View
  views = map (one a) seats

  -- the longest list that is seen is the history, where the turn is free
  longest_is : (home : Option State) (o : OneHistory a 0 home cell views) (log : List Event) → IsLongest log seats
      → log ≡ o.log
  longest_is home o log l = prefix_both log o.log (⊎_elim (λ (e : log ≡ []). prefix_none log o.log e)
      (λ (t : (j : ℕ) × (p : Part) × (get_elem? seats j ≡ some p) × (p.seen ≡ log)). let k =
      o.each t.0 (one a t.1) (get_map (one a) seats t.0 t.1 t.2) in
      subst (λ (x : List Event). Begins x o.log) t.3 k.seen) l.0) (⊎_elim (λ (e : o.log ≡ []). prefix_none o.log log e)
      (λ (t : (j : ℕ) × (v : View) × (get_elem? views j ≡ some v) × HasSeen o.log v.stands). let m =
      of_map (one a) seats t.0 t.1 t.2 in
      let s : m.0.seen ≡ o.log = subst (λ (v : View). HasSeen o.log v.stands) (sym m.2) t.3 in
      subst (λ (x : List Event). Begins x log) s (l.1 t.0 m.0 m.1)) (o.longest (λ e. omega arith)))

  pub history_is : (turn : Turn) (o : OneHistory a (turn_word turn) (at_home turn) cell views) (log : List Event)
      → IsHistoryBy turn log seats → log ≡ o.log
  history_is (Free store) o log h = longest_is (Some store) o log h
  history_is (Out lane) o log h = let k = o.each lane (one a h.0) (get_map (one a) seats lane h.0 h.1) in
      (k.holding log h.2).whole

  -- and the list of the one history is such a history
  pub history_stands : (turn : Turn) (o : OneHistory a (turn_word turn) (at_home turn) cell views) → IsOutAt turn seats
      → IsHistoryBy turn o.log seats
  history_stands (Free store) o out = (
    ⊎_elim inl (λ (t : (j : ℕ) × (v : View) × (get_elem? views j ≡ some v) × HasSeen o.log v.stands).
        let m = of_map (one a) seats t.0 t.1 t.2 in
        let s : m.0.seen ≡ o.log = subst (λ (v : View). HasSeen o.log v.stands) (sym m.2) t.3 in inr (t.0, m.0, m.1, s))
        (o.longest (λ e. omega arith)),
    λ j p at. (o.each j (one a p) (get_map (one a) seats j p at)).seen,
  )
  history_stands (Out lane) o out = (
    out.0,
    out.2,
    out.3 ∙ ap (λ (l : List Event). Some l) (history_is (Out lane) o out.1 (out.0, out.2, out.3)),
  )

  seat_of : (lane : ℕ) (p : Part) → get_elem? seats lane ≡ some p → get_elem? views lane ≡ some (one a p)
  seat_of lane p at = get_map (one a) seats lane p at

  -- the law for a seat, read on the list of seats
  reads : (turn : ℕ) (home : Option State) (lane : ℕ) (q : Part)
      → OneHistory a turn home cell (set views lane (one a q))
      → OneHistory a turn home cell (map (one a) (set seats lane q))
  reads turn home lane q h = subst (OneHistory a turn home cell) (sym (map_set (one a) seats lane q)) h

lanes_stay : (seats : List Part) (lane : ℕ) (p q : Part) → get_elem? seats lane ≡ some p → q.lane ≡ p.lane
    → ((j : ℕ) (r : Part) → get_elem? seats j ≡ some r → r.lane ≡ j) → (j : ℕ) (r : Part)
    → get_elem? (set seats lane q) j ≡ some r → r.lane ≡ j
lanes_stay seats lane p q at same were j r e = grind (arith, common_steps, ⊎_elim, at_set)

out_stays : (turn : Turn) (seats : List Part) (lane : ℕ) (p q : Part) → get_elem? seats lane ≡ some p
    → q.holding ≡ p.holding → IsOutAt turn seats → IsOutAt turn (set seats lane q)
out_stays (Free store) seats lane p q at same t = tt
out_stays (Out holder) seats lane p q at same t = dite (ℕ_discrete holder lane) (λ here. (
  q,
  t.1,
  ap (get_elem? (set seats lane q)) here ∙ set_at seats lane q p at,
  same ∙ (ap (λ (x : Part). x.holding) (some-injective p t.0 (sym at ∙ (ap (get_elem? seats) (sym here) ∙ t.2)))
      ∙ t.3),
)) (λ away. (t.0, t.1, set_else seats lane holder q away ∙ t.2, t.3))

-- Cells.
pub cell_at : (cs : List Cell) (l : ℕ) (c : Cell) → get_elem? cs l ≡ some c → cell_of cs l ≡ c
cell_at [] l c e = absurd (some-ne-none c (sym e))
cell_at (x ∷ xs) zero c e = some-injective x c e
cell_at (x ∷ xs) (suc l) c e = cell_at xs l c e

-- a cell that isn't empty is some lane's
pub at_cell : (cs : List Cell) (l : ℕ) → cell_of cs l ≢ cells.Empty → get_elem? cs l ≡ some (cell_of cs l)
at_cell [] l not = absurd (not refl)
at_cell (x ∷ xs) zero not = refl
at_cell (x ∷ xs) (suc l) not = at_cell xs l not

cell_else : (cs : List Cell) (l j : ℕ) (c : Cell) → j ≢ l → cell_of (set cs l c) j ≡ cell_of cs j
cell_else [] l j c not = refl
cell_else (x ∷ xs) zero zero c not = absurd (not refl)
cell_else (x ∷ xs) zero (suc j) c not = refl
cell_else (x ∷ xs) (suc l) zero c not = refl
cell_else (x ∷ xs) (suc l) (suc j) c not = cell_else xs l j c (λ e. not (ap suc e))

cells_set : (cs : List Cell) (l : ℕ) (c old : Cell) → get_elem? cs l ≡ some old
    → celled (cell_of cs) l c ≡ cell_of (set cs l c)
cells_set cs l c old at = λ i j. (dite (ℕ_discrete j l)
    (λ (same : j ≡ l). ap (celled (cell_of cs) l c) same ∙ (celled_here (cell_of cs) l c
    ∙ (sym (cell_at (set cs l c) l c (set_at cs l c old at)) ∙ ap (cell_of (set cs l c)) (sym same))))
    (λ not. celled_else (cell_of cs) l j c not ∙ sym (cell_else cs l j c not))) i

-- at a free turn nobody holds a list
none_held : (a : State) (cell : ℕ → Cell) (seats : List Part) (home : Option State) (o : OneHistory a 0 home cell
    (map (one a) seats)) (lane : ℕ) (p : Part) → get_elem? seats lane ≡ some p → (h : Option (List Event))
    → p.holding ≡ h → p.holding ≡ None
none_held a cell seats home o lane p at None e = e
none_held a cell seats home o lane p at (Some l) e = let k =
    o.each lane (one a p) (get_map (one a) seats lane p at) in let one_turn = (k.holding l e).out in
    absurd (omega arith)

-- the machine has one history, where its seat that is out holds a list
one_now : (new : World) (history : OneHistory new.opening (turn_word new.turn) (at_home new.turn) (cell_of new.cells)
    (views_of new)) → IsOutAt new.turn new.seats
    → ((j : ℕ) (p : Part) → get_elem? new.seats j ≡ some p → p.lane ≡ j) → IsOneHistory new
one_now new history out lanes = record {
  history = history;
  whole = history_stands new.opening (cell_of new.cells) new.seats new.turn history out;
  lanes = lanes;
}

-- the same, of a machine with another seat and another cell
one_more : (w : World) (o : IsOneHistory w) (lane : ℕ) (p q : Part) (l : ℕ) (c old : Cell)
    → get_elem? w.seats lane ≡ some p → get_elem? w.cells l ≡ some old → q.lane ≡ p.lane
    → IsOutAt w.turn (set w.seats lane q)
    → OneHistory w.opening (turn_word w.turn) (at_home w.turn) (celled (cell_of w.cells) l c)
    (set (views_of w) lane (one w.opening q)) → IsOneHistory (recelled (reseated w lane q) l c)
one_more w o lane p q l c old at is same out history = let a = w.opening in
    one_now (recelled (reseated w lane q) l c)
    (reads a (cell_of (set w.cells l c)) w.seats (turn_word w.turn) (at_home w.turn) lane q
    (subst (λ (f : ℕ → Cell). OneHistory a (turn_word w.turn) (at_home w.turn) f (set (views_of w) lane (one a q)))
    (cells_set w.cells l c old is) history)) out (lanes_stay w.seats lane p q at same o.lanes)

-- a cell with a reply
has_reply : (c : Cell) → is_answered c ≡ true
    → (m : ℕ) × (ask : Ask) × (r : Result answer.Answer Errno) × (c ≡ cells.Answered m ask r)
has_reply cells.Empty e = absurd cc
has_reply (cells.Posted m ask) e = absurd cc
has_reply (cells.Serving m ask) e = absurd cc
has_reply (cells.Answered m ask r) e = (m, ask, r, refl)

-- the own cell that a holder looked at, and found answered
finished : (cs : List Cell) (lane other own : ℕ) (c : Cell) → own ≡ lane → get_elem? cs other ≡ some c
    → cond (other == lane) (is_answered c) false ≡ true
    → (m : ℕ) × (ask : Ask) × (r : Result answer.Answer Errno) × (cell_of cs own ≡ cells.Answered m ask r)
finished cs lane other own c number at is_so = grind (arith, common_steps, has_reply, eq-eqb, cell_at, ne_eqb)

-- the cell of the lane whose call is served
served_at : (w : World) (o : IsOneHistory w) (lane : ℕ) (p : Part) (call : Service) (log : List Event)
    → get_elem? w.seats lane ≡ some p → p.holding ≡ Some log → p.serving ≡ Some call
    → get_elem? w.cells call.lane ≡ some (cells.Serving call.moment call.ask)
served_at w o lane p call log at held serves = let a = w.opening in
    let k = o.history.each lane (one a p) (get_map (one a) w.seats lane p at) in
    let is : cell_of w.cells call.lane ≡ cells.Serving call.moment call.ask =
    o.history.served call (sym (k.holding log held).same_service ∙ serves) in
    at_cell w.cells call.lane (λ empty. let no : cells.Empty ≡ cells.Serving call.moment call.ask = sym empty
    ∙ is in cc)
    ∙ ap (λ (c : Cell). some c) is

pub step_as : (w : World) (lane : ℕ) (p : Part) (k : Kind) (new : World) → IsOneHistory w
    → get_elem? w.seats lane ≡ some p → StepsAs w lane p k new → IsOneHistory new
step_as w lane p Take new o at t = let a = w.opening in let cell = cell_of w.cells in let store = t.0 in
    let h : OneHistory a 0 (Some store) cell (views_of w) =
    subst (λ (x : Turn). OneHistory a (turn_word x) (at_home x) cell (views_of w)) t.2 o.history in
    let is : t.1 ≡ h.log = history_is a cell w.seats (Free store) h t.1
    (subst (λ (x : Turn). IsHistoryBy x t.1 w.seats) t.2 t.3) in
    let q : Part = taken p t.1 in
    subst IsOneHistory (sym t.4) (one_now (record (reseated w lane q) { turn = Out lane })
    (reads a cell w.seats 1 None lane q (subst (λ (l : List Event). OneHistory a 1 None cell
    (set (views_of w) lane (one a (taken p l)))) (sym is) (law.takes lane (seat_of a cell w.seats lane p at) h
    (none_held a cell w.seats (Some store) h lane p at p.holding refl))))
    (q, t.1, set_at w.seats lane q p at, refl) (lanes_stay w.seats lane p q at refl o.lanes))
step_as w lane p TakeFound new o at t = let a = w.opening in let cell = cell_of w.cells in let q : Part = missed p in
    subst IsOneHistory (sym t.3) (one_now (reseated w lane q)
    (reads a cell w.seats (turn_word w.turn) (at_home w.turn) lane q
    (law.misses lane (seat_of a cell w.seats lane p at) o.history))
    (out_stays w.turn w.seats lane p q at refl (out_at w.turn w.seats o.history.log o.whole))
    (lanes_stay w.seats lane p q at refl o.lanes))
step_as w lane p (Put None) new o at t = let a = w.opening in let cell = cell_of w.cells in
    let q : Part = put_none p t.0.log in
    let r = law.puts_none lane (seat_of a cell w.seats lane p at) t.0.log t.0.last o.history t.0.held t.0.unserving
    t.0.legal in
    subst IsOneHistory (sym t.1) (one_now (record (reseated w lane q) { turn = Free t.0.last })
    (reads a cell w.seats 0 (Some t.0.last) lane q r.1) tt (lanes_stay w.seats lane p q at refl o.lanes))
step_as w lane p (Put (Some call)) new o at t = let a = w.opening in let cell = cell_of w.cells in let h = t.0 in
    let e : Event = event_of lane call.0 call.1 t.1 in let q : Part = put_own p h.log e in
    let r = law.puts lane (seat_of a cell w.seats lane p at) h.log e h.last t.2 o.history h.held h.unserving t.3 h.legal
    t.4 (sym (o.lanes lane p at)) in
    subst IsOneHistory (sym t.5) (one_now (record (reseated w lane q) { turn = Free t.2 })
    (reads a cell w.seats 0 (Some t.2) lane q r.1) tt (lanes_stay w.seats lane p q at refl o.lanes))
step_as w lane p (Serve m ask) new o at t = let a = w.opening in let cell = cell_of w.cells in let h = t.0 in
    let e : Event = event_of lane m ask t.1 in let q : Part = kept p h.log e in
    let out : IsOutAt w.turn (set w.seats lane q) = subst (λ (x : Turn). IsOutAt x (set w.seats lane q)) (sym h.out)
    (q, h.log ++ e ∷ [], set_at w.seats lane q p at, refl) in
    subst IsOneHistory (sym t.5) (one_now (reseated w lane q)
    (reads a cell w.seats (turn_word w.turn) (at_home w.turn) lane q
    (law.keeps lane (seat_of a cell w.seats lane p at) h.log e
    h.last t.2 o.history h.held h.unserving t.3 h.legal t.4 (sym (o.lanes lane p at))))
    out (lanes_stay w.seats lane p q at refl o.lanes))
step_as w lane p (Load n) new o at t = let a = w.opening in let cell = cell_of w.cells in let q : Part = loaded p t.1 in
    let is : t.0 ≡ o.history.log = history_is a cell w.seats w.turn o.history t.0 t.2 in
    subst IsOneHistory (sym t.6) (one_now (reseated w lane q)
    (reads a cell w.seats (turn_word w.turn) (at_home w.turn) lane q
    (law.loads lane (seat_of a cell w.seats lane p at) t.1 o.history t.3
    (subst (Begins t.1) is t.4)))
    (out_stays w.turn w.seats lane p q at refl (out_at w.turn w.seats o.history.log o.whole))
    (lanes_stay w.seats lane p q at refl o.lanes))
step_as w lane p (Post m ask) new o at t = let a = w.opening in let cell = cell_of w.cells in
    let q : Part = posted p m ask in let number = o.lanes lane p at in
    let is_at = seat_of a cell w.seats lane p at in
    let k = o.history.each lane (one a p) is_at in
    let empty : cell p.lane ≡ cells.Empty = ap cell number ∙ cell_at w.cells lane cells.Empty t.0 in
    let fits : Fits o.history.log p cells.Empty = subst (Fits o.history.log p) empty k.fits in
    subst IsOneHistory (sym t.1) (one_more w o lane p q lane (cells.Posted m ask) cells.Empty at t.0 refl
    (out_stays w.turn w.seats lane p q at refl (out_at w.turn w.seats o.history.log o.whole))
    (subst (λ (l : ℕ). OneHistory a (turn_word w.turn) (at_home w.turn) (celled cell l (cells.Posted m ask))
    (set (views_of w) lane (one a q))) number (posting.posts lane is_at o.history m ask fits.0)))
step_as w lane p (Grab other) new o at t = let a = w.opening in let cell = cell_of w.cells in let h = t.0 in
    let q : Part = grabbed p other t.1 t.2 in
    let is : cell other ≡ cells.Posted t.1 t.2 = cell_at w.cells other (cells.Posted t.1 t.2) t.3 in
    subst IsOneHistory (sym t.4) (one_more w o lane p q other (cells.Serving t.1 t.2) (cells.Posted t.1 t.2) at t.3 refl
    (out_stays w.turn w.seats lane p q at refl (out_at w.turn w.seats o.history.log o.whole))
    (serving.grabs lane (seat_of a cell w.seats lane p at) h.log other t.1 t.2 o.history h.held h.unserving is))
step_as w lane p Answer new o at t = let a = w.opening in let cell = cell_of w.cells in let h = t.0 in
    let call : Service = h.call in let e : Event = event_by call t.1 in let q : Part = answered p h.log e in
    let out : IsOutAt w.turn (set w.seats lane q) = subst (λ (x : Turn). IsOutAt x (set w.seats lane q)) (sym h.out)
    (q, h.log ++ e ∷ [], set_at w.seats lane q p at, refl) in
    subst IsOneHistory (sym t.4) (one_more w o lane p q call.lane (cells.Answered call.moment call.ask t.1)
    (cells.Serving call.moment call.ask) at (served_at w o lane p call h.log at h.held h.serving) refl out
    (serving.answers lane (seat_of a cell w.seats lane p at)
    h.log call.lane call.moment call.ask t.1 h.last t.2 o.history h.held h.serving h.legal t.3))
step_as w lane p (Collect n) new o at t = let a = w.opening in let cell = cell_of w.cells in let h = t.0 in
    let number = o.lanes lane p at in let is_at = seat_of a cell w.seats lane p at in
    let e : ℕ → Event = λ l. event_of l h.moment h.ask h.reply in let q : Part = collected p h.seen (e lane) in
    let same : h.log ≡ o.history.log = history_is a cell w.seats w.turn o.history h.log h.history in
    let is : cell p.lane ≡ cells.Answered h.moment h.ask h.reply =
    ap cell number ∙ cell_at w.cells lane (cells.Answered h.moment h.ask h.reply) h.cell in
    let has : Begins (p.mine ++ e p.lane ∷ []) (events_of p.lane h.seen) =
    subst (λ (l : ℕ). Begins (p.mine ++ e l ∷ []) (events_of l h.seen)) (sym number)
    (subst (Begins (p.mine ++ e lane ∷ [])) (sym h.has) (prefix_self (p.mine ++ e lane ∷ []))) in
    subst IsOneHistory (sym t.1) (one_more w o lane p q lane cells.Empty (cells.Answered h.moment h.ask h.reply) at
    h.cell refl (out_stays w.turn w.seats lane p q at refl (out_at w.turn w.seats o.history.log o.whole))
    (subst (λ (l : ℕ). OneHistory a (turn_word w.turn) (at_home w.turn) (celled cell l cells.Empty)
    (set (views_of w) lane (one a (collected p h.seen (e l))))) number
    (posting.collects lane is_at o.history h.moment h.ask
    h.reply h.seen is h.more (subst (Begins h.seen) same h.begins) has)))
step_as w lane p CollectFound new o at t = subst IsOneHistory (sym t.1) o
step_as w lane p (LookAt other) new o at t = let a = w.opening in let cell = cell_of w.cells in
    let done : Bool = cond (other == lane) (is_answered t.0) false in let q : Part = looked_at p other done in
    subst IsOneHistory (sym t.4) (one_now (reseated w lane q)
    (reads a cell w.seats (turn_word w.turn) (at_home w.turn) lane q
    (serving.looks_at lane (seat_of a cell w.seats lane p at) other done o.history
    (λ yes. finished w.cells lane other p.lane t.0 (o.lanes lane p at) t.2 yes)))
    (out_stays w.turn w.seats lane p q at refl (out_at w.turn w.seats o.history.log o.whole))
    (lanes_stay w.seats lane p q at refl o.lanes))

pub steps_keep : (w : World) (s : WorldStep) (new : World) → IsOneHistory w → Steps w s new → IsOneHistory new
steps_keep w s new o t = step_as w s.lane t.0 s.kind new o t.1 t.2

pub runs_keep : (w : World) (steps : List WorldStep) (end : World) → IsOneHistory w → Runs w steps end
    → IsOneHistory end
runs_keep w [] end o r = subst IsOneHistory r o
runs_keep w (s ∷ more) end o r = runs_keep r.0 more end (steps_keep w s r.0 o r.1) r.2

-- a list that is the machine's history is the one history
pub history_is_one : (w : World) (o : IsOneHistory w) (log : List Event) → IsHistory w log → log ≡ o.history.log
history_is_one w o log h = history_is w.opening (cell_of w.cells) w.seats w.turn o.history log h
