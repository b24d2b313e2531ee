-- What a machine that a table is has in common with the one history of the table.
use Rattle.std.proofs.Common.{[], ⊎_elim, ◌++◌, ◌+◌, ◌<◌, ◌∙◌, ◌∷◌, ◌≡◌, ◌≢◌, ◌⊎◌, ap, arith, get_or, inl, inr, length}
use Rattle.std.proofs.Common.{length-append, List, lt_of_not-le, None, Option, refl, Some, subst, suc, sym, zero, ℕ}
use lib.ListN.{get_elem?}
use mathlib.Core.{Logic.dite, Option.{some, some-injective, some-ne-none}}
use native.Mathlib.Decide.{dec_le, ℕ_discrete}
use Rattle.krs_types.specs.declared.event.Event.{Event}
use Rattle.krs_model.specs.State.{State}
use Rattle.krs_world.specs.History.{Fits, HasSeen, Known, Shared, Stands}
use Rattle.krs_world.specs.{Knowing.flight, World.{Free, IsHistory, IsHistoryBy, Out, Turn, World}}
use Rattle.krs_world.specs.declared.view.{Cell.Cell, Flight.Flight, Part.Part, Standing.Standing}
use Rattle.krs_world.specs.declared.view.{Standing.TheVariants.{One, Opening, Spent, Two}, View.View}
use Rattle.krs_desk.specs.Machine.{IsCallOf, IsOneWorld, IsOutIn, IsSeatedIn, IsSomeWorld, IsTurn, IsWorld, Sits}
use Rattle.krs_desk.specs.{Moves.HasTurn, Parts.views_of, Rule.{CellIs, InOneOrder, IsAtHome, Lies, Slot}}
use Rattle.krs_desk.specs.Running.{Board}
use Rattle.krs_desk.specs.declared.slot.SlotValue.{SlotValue, TheVariants.{Asked, Home, Replied}}
use Rattle.krs_desk.proofs.{Adding.{empty_of, serving_of}, Looking.not_both, Posts.answered_of}
use Rattle.krs_desk.proofs.Running.{same_view, seen_sits, turn_sits, within}
use Rattle.krs_desk.proofs.{Serves.posted_of, TurnSteps.turn}
use Rattle.krs_world.proofs.Keeping as law
use Rattle.krs_world.specs.declared.view.Cell.TheVariants as cells
use mathlib.Core.Option as maybe

-- Seats.

abbrev pub shared : (a : State) (s : Board) → InOneOrder a s → Shared
shared a s r = law.shares r.history

pub known_at : {a : State} {s : Board} (r : InOneOrder a s) {p : Part} (had : IsSeatedIn (views_of s.views) p)
    → Known (shared a s r) had.0 p
known_at {a} {s} r {p} had = law.known_of (shared a s r) had.0 had.1.stands p had.3 (r.history.each had.0 had.1 had.2)

same_sits : (s : Shared) (j : ℕ) (st : Standing) (p q : Part) → Stands s j st → Sits p st → Sits q st → p.lane ≡ q.lane
    → p ≡ q
same_sits s j Spent p q k f g e = absurd f
same_sits s j (One x) p q k f g e = sym f ∙ g
same_sits s j (Two x y) p q k f g e = ⊎_elim (λ (xp : x ≡ p). ⊎_elim (λ (xq : x ≡ q). sym xp ∙ xq)
    (λ (yq : y ≡ q). absurd (k.2 (ap (λ (z : Part). z.lane) xp ∙ (e ∙ sym (ap (λ (z : Part). z.lane) yq))))) g)
    (λ (yp : y ≡ p). ⊎_elim (λ (xq : x ≡ q). absurd
    (k.2 (ap (λ (z : Part). z.lane) xq ∙ (sym e ∙ sym (ap (λ (z : Part). z.lane) yp)))))
    (λ (yq : y ≡ q). sym yp ∙ yq) g) f
same_sits s j (Opening n) p q k f g e = absurd f

same_holder :
    (s : Shared) (j : ℕ) (st : Standing) (p q : Part) → Stands s j st → Sits p st → Sits q st → HasTurn p → p ≡ q
same_holder s j Spent p q k f g h = absurd f
same_holder s j (One x) p q k f g h = sym f ∙ g
same_holder s j (Two x y) p q k f g h =
    ⊎_elim (λ (xp : x ≡ p). absurd (not_both p (subst (λ (z : Part). z.holding ≡ None) xp k.3) h))
    (λ (yp : y ≡ p). absurd (not_both p (subst (λ (z : Part). z.holding ≡ None) yp k.4) h)) f
same_holder s j (Opening n) p q k f g h = absurd f

-- a lane has one seat
pub one_seat : {a : State} {s : Board} (r : InOneOrder a s) {p q : Part} → IsSeatedIn (views_of s.views) p
    → IsSeatedIn (views_of s.views) q → p.lane ≡ q.lane → p ≡ q
one_seat {a} {s} r {p} {q} f g e =
    let same : f.0 ≡ g.0 = sym (known_at r f).at ∙ (ap r.history.seat e ∙ (known_at r g).at) in
    let v : f.1 ≡ g.1 = same_view (views_of s.views) same f.2 g.2 in
    same_sits (shared a s r) g.0 g.1.stands p q (r.history.each g.0 g.1 g.2)
    (subst (λ (z : View). Sits p z.stands) v f.3) g.3 e

-- one seat alone has the turn
pub one_holder : {a : State} {s : Board} (r : InOneOrder a s) {p q : Part} → IsSeatedIn (views_of s.views) p
    → IsSeatedIn (views_of s.views) q → HasTurn p → HasTurn q → p ≡ q
one_holder {a} {s} r {p} {q} f g h i =
    let same : f.0 ≡ g.0 = ((known_at r f).holding h.0 h.1).here ∙ sym ((known_at r g).holding i.0 i.1).here in
    let v : f.1 ≡ g.1 = same_view (views_of s.views) same f.2 g.2 in
    same_holder (shared a s r) g.0 g.1.stands p q (r.history.each g.0 g.1 g.2)
    (subst (λ (z : View). Sits p z.stands) v f.3) g.3 h

pub seat_there : {a : State} {s : Board} (r : InOneOrder a s) (l : ℕ) → l < r.history.dealt
    → (p : Part) × IsSeatedIn (views_of s.views) p × (p.lane ≡ l)
seat_there r l lt =
    let t = r.history.seated l lt in
    let u = law.sits_of l t.0.stands t.2 in
    (u.0, (r.history.seat l, t.0, t.1, u.1), u.2)

-- while the turn is out, a seat has it
pub holder_there : {a : State} {s : Board} (r : InOneOrder a s) → turn s ≡ 1
    → (p : Part) × IsSeatedIn (views_of s.views) p × (p.holding ≡ Some r.history.log)
holder_there r out =
    let h = r.history.held out in
    let t = turn_sits r.history.log h.0.stands h.2 in
    (t.0, (r.history.holder, h.0, h.1, t.1), t.2)

-- The machine, as the history has it.

pub record Agrees (a : State) (s : Board) (r : InOneOrder a s) (w : World) : Type 0 where
  pub opening : w.opening ≡ a
  pub free : (store : State) → w.turn ≡ Free store → (turn s ≡ 0) × (store ≡ r.history.last)
  pub out : (lane : ℕ) → w.turn ≡ Out lane → (turn s ≡ 1) × IsOutIn w.seats lane
  pub wide : length s.words ≡ length w.cells + 1
  pub cells : (l : ℕ) (c : Cell) → get_elem? w.cells l ≡ some c → c ≡ r.cell l
  pub seats : (l : ℕ) (p : Part) → get_elem? w.seats l ≡ some p → (p.lane ≡ l) × IsSeatedIn (views_of s.views) p
  pub each : (p : Part) → IsSeatedIn (views_of s.views) p → get_elem? w.seats p.lane ≡ some p

-- one value lies in a slot
one_value : (v w : SlotValue) (slot : Slot) → Lies v slot → Lies w slot → v ≡ w
one_value v w slot is at = some-injective v w (some-injective (some v) (some w) (sym is ∙ at))

-- the store at home
home_is : (home : Option State) (slot : Slot) (last store : State) → IsAtHome home slot → home ≡ Some last
    → slot ≡ some (some (Home store)) → store ≡ last
home_is None slot last store is e at = absurd cc
home_is (Some x) slot last store is e at =
    let homes : Home x ≡ Home store = one_value (Home x) (Home store) slot is at in
    let here : x ≡ store = cc in
    let last_is : x ≡ last = cc in
    sym here ∙ last_is

pub fits_call : (log : List Event) (p : Part) (c : Cell) → Fits log p c → IsCallOf p.flight c
fits_call log p cells.Empty f = f.0
fits_call log p (cells.Posted m ask) f = (f.0, f.1)
fits_call log p (cells.Serving m ask) f = (f.0, f.1)
fits_call log p (cells.Answered m ask r) f = (f.0, f.1)

one_call : (f g : Flight) → ◌≡◌ {A = Option Flight} (Some f) (Some g) → f ≡ g
one_call f g e = cc

-- a word and a slot say which cell it is, but for the call, which its lane has in flight
pinned : (x : ℕ) (slot : Slot) (c d : Cell) → CellIs x slot c → CellIs x slot d
    → (d ≢ cells.Empty → (f : Option Flight) × IsCallOf f c × IsCallOf f d) → c ≡ d
pinned x slot c cells.Empty is was call = empty_of x slot c is was
pinned x slot c (cells.Posted m ask) is was call =
    let t = posted_of x slot c is was.0 in
    let value : Asked t.0 t.1 ≡ Asked m ask = one_value (Asked t.0 t.1) (Asked m ask) slot t.3 was.1 in
    let em : t.0 ≡ m = cc in
    let ea : t.1 ≡ ask = cc in
    t.2 ∙ (λ i. cells.Posted (em i) (ea i))
pinned x slot c (cells.Serving m ask) is was call =
    let t = serving_of x slot c is was in
    let k = call (λ e. absurd cc) in
    let f = subst (IsCallOf k.0) t.2 k.1 in
    let same : flight t.0 t.1 f.0 ≡ flight m ask k.2.0 =
    one_call (flight t.0 t.1 f.0) (flight m ask k.2.0) (sym f.1 ∙ k.2.1) in
    t.2 ∙ ap (λ (z : Flight). cells.Serving z.moment z.ask) same
pinned x slot c (cells.Answered m ask reply) is was call =
    let t = answered_of x slot c is was.0 in
    let value : Replied t.2 ≡ Replied reply = one_value (Replied t.2) (Replied reply) slot t.4 was.1 in
    let er : t.2 ≡ reply = cc in
    let k = call (λ e. absurd cc) in
    let f = subst (IsCallOf k.0) t.3 k.1 in
    let same : flight t.0 t.1 f.0 ≡ flight m ask k.2.0 =
    one_call (flight t.0 t.1 f.0) (flight m ask k.2.0) (sym f.1 ∙ k.2.1) in
    t.3 ∙ (ap (λ (z : Flight). cells.Answered z.moment z.ask t.2) same ∙ ap (cells.Answered m ask) er)

cell_is : (a : State) (s : Board) (r : InOneOrder a s) (w : World) → IsWorld a s w → (l : ℕ) (c : Cell)
    → get_elem? w.cells l ≡ some c → c ≡ r.cell l
cell_is a s r w is l c at =
    pinned (get_or s.words (l + 1) 0) (get_elem? s.homes (l + 1)) c (r.cell l) (is.cells l c at) (r.cells l)
    (λ some_call. dite (dec_le r.history.dealt l) (λ le. absurd (some_call (r.history.undealt l le).0)) (λ nle.
    let t = seat_there r l (lt_of_not-le nle) in
    let p : Part = t.0 in (
      p.flight,
      is.calls l p c (subst (λ (n : ℕ). get_elem? w.seats n ≡ some p) t.2 (is.each p t.1)) at,
      subst (λ (n : ℕ). IsCallOf p.flight (r.cell n)) t.2
          (fits_call r.history.log p (r.cell p.lane) (known_at r t.1).fits),
    )))

pub agrees : {a : State} {s : Board} (r : InOneOrder a s) {w : World} → IsWorld a s w → Agrees a s r w
agrees {a} {s} r {w} is = record {
  opening = is.begins;
  free = λ store e. let t : IsTurn s w.seats (Free store) = subst (IsTurn s w.seats) e is.turn in (
    t.0,
    home_is r.home (get_elem? s.homes 0) r.history.last store r.slot
        (r.history.at_home (λ one. let zero_is : turn s ≡ 0 = t.0 in omega arith)) t.1,
  );
  out = λ lane e. subst (IsTurn s w.seats) e is.turn;
  wide = is.wide;
  cells = cell_is a s r w is;
  seats = is.seats;
  each = is.each;
}

turn_is : (a : State) (s : Board) (r : InOneOrder a s) (w : World) → Agrees a s r w → (t : Turn) → w.turn ≡ t
    → IsTurn s w.seats t
turn_is a s r w g (Free store) e =
    let f = g.free store e in
    let home : r.home ≡ Some r.history.last =
    r.history.at_home (λ one. let zero_is : turn s ≡ 0 = f.0 in omega arith) in
    let slot : get_elem? s.homes 0 ≡ some (some (Home r.history.last)) =
    subst (λ (h : Option State). IsAtHome h (get_elem? s.homes 0)) home r.slot in
    (f.0, slot ∙ ap (λ (z : State). some (some (Home z))) (sym f.1))
turn_is a s r w g (Out lane) e = g.out lane e

pub is_world : {a : State} {s : Board} {r : InOneOrder a s} {w : World} → Agrees a s r w → IsWorld a s w
is_world {a} {s} {r} {w} g = record {
  begins = g.opening;
  turn = turn_is a s r w g w.turn refl;
  wide = g.wide;
  cells = λ l c at. subst (CellIs (get_or s.words (l + 1) 0) (get_elem? s.homes (l + 1))) (sym (g.cells l c at))
      (r.cells l);
  seats = g.seats;
  each = g.each;
  calls = λ l p c at there.
      let t = g.seats l p at in
      subst (IsCallOf p.flight) (ap r.cell t.0 ∙ sym (g.cells l c there))
      (fits_call r.history.log p (r.cell p.lane) (known_at r t.1).fits);
}

-- The history.

history_by : (a : State) (s : Board) (r : InOneOrder a s) (w : World) → Agrees a s r w → (t : Turn) → w.turn ≡ t
    → IsHistoryBy t r.history.log w.seats
history_by a s r w g (Free store) e =
    let zero_is : turn s ≡ 0 = (g.free store e).0 in
    let log : List Event = r.history.log in (
      ⊎_elim (λ (none : log ≡ []). inl none)
          (λ (t : (j : ℕ) × (v : View) × (get_elem? (views_of s.views) j ≡ some v) × HasSeen log v.stands).
          let q = seen_sits log t.1.stands t.3 in
          inr (q.0.lane, q.0, g.each q.0 (t.0, t.1, t.2, q.1), q.2)) (r.history.longest (λ one. omega arith)),
      λ j p at. (within r (g.seats j p at).1).seen,
    )
history_by a s r w g (Out lane) e =
    let t = (g.out lane e).1 in
    (t.0, t.2, t.3 ∙ ap Some ((within r (g.seats lane t.0 t.2).1).held t.1 t.3))

pub history_of : {a : State} {s : Board} {r : InOneOrder a s} {w : World} → Agrees a s r w → IsHistory w r.history.log
history_of {a} {s} {r} {w} g = history_by a s r w g w.turn refl

-- Which turn it is.

-- it is free with some store, or out at some lane
abbrev IsEither : Board → Turn → Type 0
IsEither s t = ((turn s ≡ 0) × ((store : State) × (t ≡ Free store))) ⊎ ((turn s ≡ 1) × ((lane : ℕ) × (t ≡ Out lane)))

which_turn : (a : State) (s : Board) (r : InOneOrder a s) (w : World) → Agrees a s r w → (t : Turn) → w.turn ≡ t
    → IsEither s w.turn
which_turn a s r w g (Free store) e = inl ((g.free store e).0, (store, e))
which_turn a s r w g (Out lane) e = inr ((g.out lane e).0, (lane, e))

module _ {a : State} {s : Board} {r : InOneOrder a s} {w : World} (g : Agrees a s r w) where
  which : IsEither s w.turn
  which = which_turn a s r w g w.turn refl

  pub free_turn : turn s ≡ 0 → (store : State) × (w.turn ≡ Free store)
  free_turn zero_is = ⊎_elim (λ t. t.1) (λ t. absurd (let one_is : turn s ≡ 1 = t.0 in omega arith)) which

  pub out_turn : turn s ≡ 1 → (lane : ℕ) × (w.turn ≡ Out lane)
  out_turn one_is = ⊎_elim (λ t. absurd (let zero_is : turn s ≡ 0 = t.0 in omega arith)) (λ t. t.1) which

  pub not_dealing : turn s ≢ 2
  not_dealing two = ⊎_elim (λ t. absurd (let zero_is : turn s ≡ 0 = t.0 in omega arith))
      (λ t. absurd (let one_is : turn s ≡ 1 = t.0 in omega arith)) which

-- it is out at the seat that holds the history
pub out_here : {a : State} {s : Board} {r : InOneOrder a s} {w : World} → Agrees a s r w → (p : Part)
    → IsSeatedIn (views_of s.views) p → HasTurn p → w.turn ≡ Out p.lane
out_here {r = r} g p had held =
    let k = (known_at r had).holding held.0 held.1 in
    let o = out_turn g k.out in
    let t = (g.out o.0 o.1).1 in
    let seat = g.seats o.0 t.0 t.2 in
    let same : t.0 ≡ p = one_holder r seat.1 had (t.1, t.3) held in
    o.1 ∙ ap Out (sym seat.0 ∙ ap (λ (z : Part). z.lane) same)

-- Each table is a machine.

listing : {A : Type 0} (P : ℕ → A → Type 0) (n : ℕ) → ((l : ℕ) → l < n → (x : A) × P l x)
    → (xs : List A) × (length xs ≡ n) × ((l : ℕ) (x : A) → get_elem? xs l ≡ some x → P l x)
    × ((l : ℕ) → l < n → (x : A) × (get_elem? xs l ≡ some x))
listing P zero f = ([], refl, λ l x e. absurd (some-ne-none x (sym e)), λ l lt. absurd (omega arith))
listing P (suc n) f =
    let t = listing P n (λ l lt. f l (omega arith)) in
    let x = f n (omega arith) in
    let size : length t.0 ≡ n = t.1 in (
      t.0 ++ x.0 ∷ [],
      length-append t.0 (x.0 ∷ []) ∙ (ap (λ (k : ℕ). k + 1) size ∙ omega arith),
      λ l y e. ⊎_elim (λ (i : get_elem? t.0 l ≡ some y). t.2 l y i) (λ (i : (x.0 ≡ y) × (l ≡ length t.0)).
          subst (λ (k : ℕ). P k y) (sym (i.1 ∙ size)) (subst (P n) i.0 x.1)) (law.at_snoc t.0 x.0 y l e),
      λ l lt. dite (ℕ_discrete l n) (λ same. (
        x.0,
        subst (λ (k : ℕ). get_elem? (t.0 ++ x.0 ∷ []) k ≡ some x.0) (size ∙ sym same) (law.snoc_end t.0 x.0),
      )) (λ not. let u = t.3 l (omega arith) in (u.0, law.snoc_at t.0 l x.0 u.0 u.1)),
    )

-- how many lanes have a word
less_one : (ws : List ℕ) → 0 < length ws → (k : ℕ) × (length ws ≡ k + 1)
less_one [] lt = absurd (omega arith)
less_one (x ∷ xs) lt = (length xs, omega arith)

turned : (a : State) (s : Board) (r : InOneOrder a s) → turn s ≢ 2 → (t : Turn)
    × ((store : State) → t ≡ Free store → (turn s ≡ 0) × (store ≡ r.history.last))
    × ((lane : ℕ) → t ≡ Out lane → (turn s ≡ 1) × (p : Part) × (log : List Event) × IsSeatedIn (views_of s.views) p
    × (p.lane ≡ lane) × (p.holding ≡ Some log))
turned a s r not =
    let word = r.history.word in
    dite (ℕ_discrete (turn s) 1) (λ one_is.
    let h = holder_there r one_is in (
      Out h.0.lane,
      λ store e. absurd cc,
      λ lane e. let same : h.0.lane ≡ lane = cc in (one_is, h.0, r.history.log, h.1, same, h.2),
    )) (λ not_one. (
      Free r.history.last,
      λ store e. let same : r.history.last ≡ store = cc in (omega arith, sym same),
      λ lane e. absurd cc,
    ))

pub some_world : (a : State) → IsSomeWorld a
some_world a s r not =
    let views : List View = views_of s.views in
    let n = less_one s.words r.any in
    let t = turned a s r not in
    let parts = listing (λ (l : ℕ) (p : Part). (p.lane ≡ l) × IsSeatedIn views p) r.history.dealt
    (λ l lt. let u = seat_there r l lt in (u.0, (u.2, u.1))) in
    let stand = listing (λ (l : ℕ) (c : Cell). c ≡ r.cell l) n.0 (λ l lt. (r.cell l, refl)) in
    let each : (p : Part) → IsSeatedIn views p → get_elem? parts.0 p.lane ≡ some p = λ p had.
    let u = parts.3 p.lane (known_at r had).given in
    let is = parts.2 p.lane u.0 u.1 in
    u.1 ∙ ap some (one_seat r is.1 had is.0) in
    let w : World = record { opening = a; turn = t.0; cells = stand.0; seats = parts.0 } in
    let g : Agrees a s r w = record {
      opening = refl;
      free = t.1;
      out = λ lane e. let o = t.2 lane e in (
        o.0,
        (
          o.1,
          o.2,
          subst (λ (k : ℕ). get_elem? parts.0 k ≡ some o.1) o.4 (each o.1 o.3),
          o.5,
        ),
      );
      wide = n.1 ∙ ap (λ (k : ℕ). k + 1) (sym stand.1);
      cells = stand.2;
      seats = parts.2;
      each = each;
    } in
    (w, is_world g, history_of g)

-- And it is one alone.

list_by : {A : Type 0} (xs ys : List A) → length xs ≡ length ys
    → ((l : ℕ) (x y : A) → get_elem? xs l ≡ some x → get_elem? ys l ≡ some y → x ≡ y) → xs ≡ ys
list_by [] [] size same = refl
list_by [] (y ∷ ys) size same = absurd (omega arith)
list_by (x ∷ xs) [] size same = absurd (omega arith)
list_by (x ∷ xs) (y ∷ ys) size same =
    let head : x ≡ y = same 0 x y refl refl in
    let tail = list_by xs ys (omega arith) (λ l. same (suc l)) in λ i. head i ∷ tail i

list_at : {A : Type 0} (xs ys : List A) → ((l : ℕ) → get_elem? xs l ≡ get_elem? ys l) → xs ≡ ys
list_at [] [] same = refl
list_at [] (y ∷ ys) same = absurd (some-ne-none y (sym (same 0)))
list_at (x ∷ xs) [] same = absurd (some-ne-none x (same 0))
list_at (x ∷ xs) (y ∷ ys) same =
    let head : x ≡ y = some-injective x y (same 0) in
    let tail = list_at xs ys (λ l. same (suc l)) in λ i. head i ∷ tail i

module _ (a : State) (s : Board) (r : InOneOrder a s) (w v : World) (g : Agrees a s r w) (h : Agrees a s r v) where
  one_turn : (t u : Turn) → w.turn ≡ t → v.turn ≡ u → t ≡ u
  one_turn (Free x) (Free y) e f = ap Free ((g.free x e).1 ∙ sym (h.free y f).1)
  one_turn (Free x) (Out l) e f =
      absurd (let zero_is : turn s ≡ 0 = (g.free x e).0 in let one_is : turn s ≡ 1 = (h.out l f).0 in omega arith)
  one_turn (Out k) (Free y) e f =
      absurd (let zero_is : turn s ≡ 0 = (h.free y f).0 in let one_is : turn s ≡ 1 = (g.out k e).0 in omega arith)
  one_turn (Out k) (Out l) e f =
      let t = (g.out k e).1 in
      let u = (h.out l f).1 in
      let p = g.seats k t.0 t.2 in
      let q = h.seats l u.0 u.2 in
      let same : t.0 ≡ u.0 = one_holder r p.1 q.1 (t.1, t.3) (u.1, u.3) in
      ap Out (sym p.0 ∙ (ap (λ (z : Part). z.lane) same ∙ q.0))

  one_at : (l : ℕ) (x y : maybe.Option Part) → get_elem? w.seats l ≡ x → get_elem? v.seats l ≡ y → x ≡ y
  one_at l maybe.none maybe.none e f = refl
  one_at l maybe.none (some q) e f =
      let t = h.seats l q f in
      let there : get_elem? w.seats l ≡ some q = subst (λ (n : ℕ). get_elem? w.seats n ≡ some q) t.0 (g.each q t.1) in
      absurd (some-ne-none q (sym there ∙ e))
  one_at l (some p) maybe.none e f =
      let t = g.seats l p e in
      let there : get_elem? v.seats l ≡ some p = subst (λ (n : ℕ). get_elem? v.seats n ≡ some p) t.0 (h.each p t.1) in
      absurd (some-ne-none p (sym there ∙ f))
  one_at l (some p) (some q) e f =
      let t = g.seats l p e in
      let there : get_elem? v.seats l ≡ some p = subst (λ (n : ℕ). get_elem? v.seats n ≡ some p) t.0 (h.each p t.1) in
      sym there ∙ f

  one_agrees : w ≡ v
  one_agrees =
      let opening : w.opening ≡ v.opening = g.opening ∙ sym h.opening in
      let turns : w.turn ≡ v.turn = one_turn w.turn v.turn refl refl in
      let wide : length s.words ≡ length w.cells + 1 = g.wide in
      let wide_too : length s.words ≡ length v.cells + 1 = h.wide in
      let stand : w.cells ≡ v.cells =
      list_by w.cells v.cells (omega arith) (λ l x y e f. g.cells l x e ∙ sym (h.cells l y f)) in
      let seats : w.seats ≡ v.seats = list_at w.seats v.seats
      (λ l. one_at l (get_elem? w.seats l) (get_elem? v.seats l) refl refl) in
      λ i. record { opening = opening i; turn = turns i; cells = stand i; seats = seats i }

pub one_world : (a : State) → IsOneWorld a
one_world a s w v r is also = one_agrees a s r w v (agrees r is) (agrees r also)
