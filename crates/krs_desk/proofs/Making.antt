-- Each step of a lane's token is the machine's of its name, on the machine that the table is.
use Rattle.std.proofs.Common.{[], ⊎_elim, ◌&&◌, ◌++◌, ◌+◌, ◌<◌, ◌∙◌, ◌∷◌, ◌≡◌, ◌≢◌, ◌≤◌, ◌⊎◌, ap, append-nil, arith}
use Rattle.std.proofs.Common.{Bool, cond, eqb, false, get_or, get_or-set_other, get_or-set_same, inl, inr, length}
use Rattle.std.proofs.Common.{length-append, length-set, List, lt_of_not-le, None, Option, refl, set, Some, subst, suc}
use Rattle.std.proofs.Common.{sym, true, zero, ℕ}
use lib.ListN.{get_elem?}
use mathlib.Core.{Logic.dite, Option.{some, some-injective}}
use native.Mathlib.Decide.{dec_le, ℕ_discrete}
use Rattle.krs_types.specs.declared.{ask.Ask.Ask, event.Event.Event}
use Rattle.krs_model.specs.{History.{event_of, IsLegal}, Lists.Begins, State.State, Step.Step}
use Rattle.krs_world.specs.History.{Fits}
use Rattle.krs_world.specs.Knowing.{answered, collected, events_of, flight, kept, looked_at, put_none, put_own, service}
use Rattle.krs_world.specs.World.{brought_home, Free, is_answered, IsHistory, IsHolder, IsUnanswered, Out, recelled}
use Rattle.krs_world.specs.World.{reseated, Runs, StepsAs, Turn, World}
use Rattle.krs_world.specs.declared.step.Kind.{Kind, TheVariants.{Answer, Collect, CollectFound, Grab, Load, LookAt}}
use Rattle.krs_world.specs.declared.step.Kind.TheVariants.{Post, Put, Serve, Take, TakeFound}
use Rattle.krs_world.specs.declared.{step.WorldStep.WorldStep, view.{Cell.Cell, Flight.Flight, Part.Part}}
use Rattle.krs_world.specs.declared.view.Service.{Service}
use Rattle.krs_desk.specs.Machine.{IsOutIn, IsSeatedIn, IsWorld, Sits, step_by, steps_by}
use Rattle.krs_desk.specs.Moves.{after, HasTurn, IsMadeAt, IsReading, Move}
use Rattle.krs_desk.specs.{Parts.views_of, Rule.{CellIs, Slot}, Running.{Board, IsLeft, IsStepped}}
use Rattle.krs_desk.proofs.Adding.{afterwards, before, last_same, named, one_step, OneStep, turn_becomes, word_found}
use Rattle.krs_desk.proofs.Agreeing.{Agrees, agrees, free_turn, history_of, is_world, known_at, not_dealing, out_here}
use Rattle.krs_desk.proofs.Agreeing.{out_turn, seat_there}
use Rattle.krs_desk.proofs.Going.{cell_stays, keeps_served, last_same_of, not_longer, one_call, same_serving}
use Rattle.krs_desk.proofs.Going.{same_world}
use Rattle.krs_desk.proofs.{Going.SameCalls, Looking.not_both, Running.{stays_there, was_seated, within}}
use Rattle.krs_desk.proofs.TurnSteps.{turn}
use Rattle.krs_desk.specs.Machine as machine
use Rattle.krs_desk.specs.Moves as move
use Rattle.krs_world.proofs.Keeping as law
use Rattle.krs_world.specs.World as world
use Rattle.krs_world.specs.declared.view.Cell.TheVariants as cells

-- Lists of seats.

-- the seats are those of the lanes of which this holds
abbrev pub AreSeats : (Part → Type 0) → List Part → Type 0
AreSeats S seats = ((l : ℕ) (p : Part) → get_elem? seats l ≡ some p → (p.lane ≡ l) × S p)
    × ((p : Part) → S p → get_elem? seats p.lane ≡ some p)

-- the same, with q for p
abbrev pub Replaced : (Part → Type 0) → Part → Part → Part → Type 0
Replaced S p q u = (u ≡ q) ⊎ (S u × (u.lane ≢ p.lane))

pub seats_set : (S : Part → Type 0) (seats : List Part) (p q : Part) → AreSeats S seats → q.lane ≡ p.lane → S p
    → AreSeats (Replaced S p q) (set seats p.lane q)
seats_set S seats p q are lane has = (
  λ l x at. ⊎_elim
      (λ (t : (l ≡ p.lane) × (q ≡ x)). (ap (λ (z : Part). z.lane) (sym t.1) ∙ (lane ∙ sym t.0), inl (sym t.1)))
      (λ (t : (l ≢ p.lane) × (get_elem? seats l ≡ some x)).
      let u = are.0 l x t.1 in (u.0, inr (u.1, λ e. t.0 (sym u.0 ∙ e)))) (law.at_set seats p.lane l q x at),
  λ u is. ⊎_elim (λ (e : u ≡ q). subst (λ (z : Part). get_elem? (set seats p.lane q) z.lane ≡ some z) (sym e)
      (ap (get_elem? (set seats p.lane q)) lane ∙ law.set_at seats p.lane q p (are.1 p has)))
      (λ (t : S u × (u.lane ≢ p.lane)). law.set_else seats p.lane u.lane q t.1 ∙ are.1 u t.0) is,
)

pub seats_as : (S T : Part → Type 0) (seats : List Part) → ((u : Part) → S u → T u) → ((u : Part) → T u → S u)
    → AreSeats S seats → AreSeats T seats
seats_as S T seats to back are = (
  λ l p at. let t = are.0 l p at in (t.0, to p t.1),
  λ p is. are.1 p (back p is),
)

-- the turn stays out at its lane
pub out_set : (seats : List Part) (k lane : ℕ) (p q : Part) → get_elem? seats k ≡ some p → (HasTurn p → HasTurn q)
    → IsOutIn seats lane → IsOutIn (set seats k q) lane
out_set seats k lane p q at held out = dite (ℕ_discrete lane k) (λ same.
    let one : out.0 ≡ p = some-injective out.0 p (sym out.2 ∙ (ap (get_elem? seats) same ∙ at)) in
    let has = held (out.1, ap (λ (z : Part). z.holding) (sym one) ∙ out.3) in
    (q, has.0, ap (get_elem? (set seats k q)) same ∙ law.set_at seats k q p at, has.1))
    (λ not. (out.0, out.1, law.set_else seats k lane q not ∙ out.2, out.3))

-- Cells.

some_at : (xs : List Cell) (l : ℕ) → l < length xs → (c : Cell) × (get_elem? xs l ≡ some c)
some_at [] l lt = absurd (omega arith)
some_at (x ∷ xs) zero lt = (x, refl)
some_at (x ∷ xs) (suc l) lt = some_at xs l (omega arith)

unanswered_here : (xs : List Cell) (l : ℕ) (c : Cell) → ((d : Cell) → get_elem? xs l ≡ some d → d ≡ c) → IsUnanswered c
    → IsUnanswered (world.cell_of xs l)
unanswered_here [] l c is not = tt
unanswered_here (x ∷ xs) zero c is not = subst IsUnanswered (sym (is x refl)) not
unanswered_here (x ∷ xs) (suc l) c is not = unanswered_here xs l c is not

three_answered : (x : ℕ) (slot : Slot) (c : Cell) → CellIs x slot c → is_answered c ≡ eqb x 3
three_answered x slot cells.Empty is = ap (λ (n : ℕ). eqb n 3) (sym is)
three_answered x slot (cells.Posted m ask) is = ap (λ (n : ℕ). eqb n 3) (sym is.0)
three_answered x slot (cells.Serving m ask) is = ap (λ (n : ℕ). eqb n 3) (sym is)
three_answered x slot (cells.Answered m ask reply) is = ap (λ (n : ℕ). eqb n 3) (sym is.0)

cond_and : (b c : Bool) → cond c b false ≡ (b && c)
cond_and true true = refl
cond_and true false = refl
cond_and false true = refl
cond_and false false = refl

event_is : (lane : ℕ) (e : Event) → e.lane ≡ lane → event_of lane e.moment e.ask e.reply ≡ e
event_is lane e same = λ i. record { lane = sym same i; moment = e.moment; ask = e.ask; reply = e.reply }

one_of : (n : ℕ) → n ≤ 2 → n ≢ 0 → n ≢ 2 → n ≡ 1
one_of zero le not dealt = absurd (not refl)
one_of (suc zero) le not dealt = refl
one_of (suc (suc zero)) le not dealt = absurd (dealt refl)
one_of (suc (suc (suc n))) le not dealt = absurd (omega arith)

no_more : (xs zs rest : List Event) → xs ++ rest ≡ zs → length xs ≡ length zs → xs ≡ zs
no_more xs zs [] e size = sym (append-nil xs) ∙ e
no_more xs zs (x ∷ rest) e size =
    let sum : length xs + length (x ∷ rest) ≡ length zs = sym (length-append xs (x ∷ rest)) ∙ ap length e in
    let some_more : length (x ∷ rest) ≡ length rest + 1 = omega arith in
    absurd (omega arith)

-- two lists as long, of which one begins the other, and one between them
between_is : (xs ys zs : List Event) → Begins xs ys → Begins ys zs → length xs ≡ length zs → (xs ≡ zs) × (ys ≡ zs)
between_is xs ys zs b c size =
    let front : Begins xs zs = law.prefix_trans xs ys zs b c in
    let whole : xs ≡ zs = no_more xs zs front.0 front.1 size in
    (whole, law.prefix_both ys zs c (subst (λ (l : List Event). Begins l ys) whole b))

-- A step of one lane's token.

module _ {a : State} {s new : Board} {p q : Part} (one : OneStep a s new p q) where
  open one use {r, r', h, was, is, lane}

  abbrev Was : Part → Type 0
  Was u = IsSeatedIn (views_of s.views) u

  abbrev Is : Part → Type 0
  Is u = IsSeatedIn (views_of new.views) u

  -- a lane's seat is another's, or the token's
  back : (u : Part) → Is u → (u ≡ q) ⊎ (Was u × (u.lane ≢ p.lane))
  back u had = ⊎_elim (λ (sits : Sits u h.w.view.stands). inl (sym (subst (Sits u) is sits)))
      (λ (t : (f : Was u) × (f.0 ≢ h.id)).
      inr (t.0, λ same. t.1 (sym (known_at r t.0).at ∙ (ap r.history.seat same ∙ (known_at r (before one)).at))))
      (was_seated h u had)

  forth : (t : Part) → Was t → (t ≡ p) ⊎ Is t
  forth t had = ⊎_elim (λ (sits : Sits t h.v.view.stands). inl (sym (subst (Sits t) was sits))) (λ (f : Is t). inr f)
      (stays_there h t had)

  forth_lane : (t : Part) → Was t → (u : Part) × Is u × (u.lane ≡ t.lane)
  forth_lane t had = ⊎_elim (λ (e : t ≡ p). (q, afterwards one, lane ∙ ap (λ (z : Part). z.lane) (sym e)))
      (λ (f : Is t). (t, f, refl)) (forth t had)

  -- the seats of the others
  seats_now : (seats : List Part) → AreSeats Was seats → AreSeats Is (set seats p.lane q)
  seats_now seats are = seats_as (Replaced Was p q) Is (set seats p.lane q)
      (λ u has. ⊎_elim (λ (e : u ≡ q). subst Is (sym e) (afterwards one)) (λ (t : Was u × (u.lane ≢ p.lane)).
      ⊎_elim (λ (e : u ≡ p). absurd (t.1 (ap (λ (z : Part). z.lane) e))) (λ (f : Is u). f) (forth u t.0)) has) back
      (seats_set Was seats p q are lane (before one))

  -- a step on a cell leaves the turn
  cell_turn : (l : ℕ) → h.made.word ≡ l + 1 → turn new ≡ turn s
  cell_turn l at = ap (λ (ws : List ℕ). get_or ws 0 0) h.words
      ∙ get_or-set_other s.words h.made.word 0 h.becomes 0 (λ e. omega arith)

  -- Cells.

  -- its calls, where they stay as they are
  same_calls : q.flight ≡ p.flight → q.mine ≡ p.mine → (u : Part) → Is u → SameCalls r r' u
  same_calls fl mine u has = ⊎_elim (λ (e : u ≡ q). (
    p,
    before one,
    ap (λ (z : Part). z.lane) e ∙ lane,
    ap (λ (z : Part). z.flight) e ∙ fl,
    ap (λ (z : Part). z.mine) e ∙ mine,
  )) (λ (t : Was u × (u.lane ≢ p.lane)). (u, t.0, refl, refl, refl)) (back u has)

  serving_stays : turn new ≡ turn s → q.holding ≡ p.holding → q.serving ≡ p.serving
      → r'.history.serving ≡ r.history.serving
  serving_stays same held served = same_serving r r' same (λ t had.
      ⊎_elim (λ (e : t ≡ p). (
        q,
        afterwards one,
        held ∙ ap (λ (z : Part). z.holding) (sym e),
        served ∙ ap (λ (z : Part). z.serving) (sym e),
      )) (λ (f : Is t). (t, f, refl, refl)) (forth t had))

  -- where its calls stay, and what is served, and the history
  quiet_cell : (l : ℕ) → q.flight ≡ p.flight → q.mine ≡ p.mine → r'.history.serving ≡ r.history.serving
      → r'.history.log ≡ r.history.log → r'.cell l ≡ r.cell l
  quiet_cell l fl mine serving log = cell_stays r r' l (keeps_served r r' serving l) (ap (events_of l) log) forth_lane
      (λ u has e. same_calls fl mine u has)

  -- the cell of another lane
  other_cell : (l : ℕ) → l ≢ p.lane → r'.history.serving ≡ r.history.serving
      → events_of l r'.history.log ≡ events_of l r.history.log → r'.cell l ≡ r.cell l
  other_cell l not serving ev = cell_stays r r' l (keeps_served r r' serving l) ev forth_lane
      (λ u has at. ⊎_elim (λ (e : u ≡ q). absurd (not (sym at ∙ (ap (λ (z : Part). z.lane) e ∙ lane))))
      (λ (t : Was u × (u.lane ≢ p.lane)). (u, t.0, refl, refl, refl)) (back u has))

  -- a cell that isn't the one that is taken up or answered, where all calls stay as they are
  apart_cell : (l : ℕ) → q.flight ≡ p.flight → q.mine ≡ p.mine
      → ((m : ℕ) (ask : Ask) → r.history.serving ≡ Some (service l m ask) → ⊥)
      → ((m : ℕ) (ask : Ask) → r'.history.serving ≡ Some (service l m ask) → ⊥)
      → events_of l r'.history.log ≡ events_of l r.history.log → r'.cell l ≡ r.cell l
  apart_cell l fl mine unserved unserved' ev = cell_stays r r' l (
    (λ m ask e. absurd (unserved m ask (r.history.serves l m ask e))),
    λ m ask e. absurd (unserved' m ask (r'.history.serves l m ask e)),
  ) ev forth_lane (λ u has e. same_calls fl mine u has)

  -- who holds the history serves what is served
  serves_it : (l : List Event) → p.holding ≡ Some l → p.serving ≡ r.history.serving
  serves_it l held = ((known_at r (before one)).holding l held).same_service

  serves_now : (l : List Event) → q.holding ≡ Some l → q.serving ≡ r'.history.serving
  serves_now l held = ((known_at r' (afterwards one)).holding l held).same_service

  -- its event is its own
  own_lane : (e : Event) → p.flight ≡ None → q.flight ≡ None → q.mine ≡ p.mine ++ e ∷ []
      → r'.history.log ≡ r.history.log ++ e ∷ [] → e.lane ≡ p.lane
  own_lane e idle idle_now mine longer = dite (ℕ_discrete e.lane p.lane) (λ same. same) (λ not.
      let had : events_of p.lane r.history.log ≡ p.mine =
      law.idle_mine p r.history.log (r.cell p.lane) idle (known_at r (before one)).fits in
      let has : events_of q.lane r'.history.log ≡ q.mine =
      law.idle_mine q r'.history.log (r'.cell q.lane) idle_now (known_at r' (afterwards one)).fits in
      let more : events_of p.lane r'.history.log ≡ events_of p.lane r.history.log =
      ap (events_of p.lane) longer ∙ law.other_event p.lane r.history.log e not in
      absurd (not_longer p.mine e (sym had ∙ (sym more ∙ (ap (λ (n : ℕ). events_of n r'.history.log) (sym lane)
      ∙ (has ∙ mine))))))

  -- where an own call is added, with none in flight, all cells stay
  idle_cells : (e : Event) → e.lane ≡ p.lane → r'.history.serving ≡ r.history.serving → p.flight ≡ None
      → q.flight ≡ None → r'.history.log ≡ r.history.log ++ e ∷ [] → (k : ℕ) → r'.cell k ≡ r.cell k
  idle_cells e own serving idle idle_now longer k = dite (ℕ_discrete k p.lane) (λ same.
      ap r'.cell (same ∙ sym lane)
      ∙ (law.empty_if_idle q r'.history.log (r'.cell q.lane) idle_now (known_at r' (afterwards one)).fits
      ∙ (sym (law.empty_if_idle p r.history.log (r.cell p.lane) idle (known_at r (before one)).fits)
      ∙ ap r.cell (sym same)))) (λ not. other_cell k not serving
      (ap (events_of k) longer ∙ law.other_event k r.history.log e (λ x. not (sym x ∙ own))))

  -- a call that is taken up is the one that was posted
  same_call : (k m n : ℕ) (ask other : Ask) → q.flight ≡ p.flight → q.mine ≡ p.mine → r.cell k ≡ cells.Posted m ask
      → r'.cell k ≡ cells.Serving n other → cells.Posted m ask ≡ cells.Posted n other
  same_call k m n ask other fl mine here now = dite (dec_le r'.history.dealt k)
      (λ le. let no : cells.Empty ≡ cells.Serving n other = sym (r'.history.undealt k le).0 ∙ now in absurd cc) (λ nle.
      let u = seat_there r' k (lt_of_not-le nle) in
      let t = same_calls fl mine u.0 u.1 in
      let at : t.0.lane ≡ k = sym t.2 ∙ u.2 in
      let f : Fits r.history.log t.0 (cells.Posted m ask) =
      subst (Fits r.history.log t.0) (ap r.cell at ∙ here) (known_at r t.1).fits in
      let f' : Fits r'.history.log u.0 (cells.Serving n other) =
      subst (Fits r'.history.log u.0) (ap r'.cell u.2 ∙ now) (known_at r' u.1).fits in
      ap (λ (z : Flight). cells.Posted z.moment z.ask)
      (one_call (flight m ask f.0) (flight n other f'.0) (sym f.1 ∙ (sym t.3 ∙ f'.1))))

-- The machine that the table is after such a step.

-- the machine makes these steps, and the table is the machine that they lead to
abbrev pub MakesSteps : State → Board → World → List WorldStep → Type 0
MakesSteps a new w steps = (next : World) × IsWorld a new next × Runs w steps next

module _ {a : State} {s new : Board} {p q : Part} (one : OneStep a s new p q) {w : World} (g : Agrees a s one.r w) where
  open one use {r, r', h, was, is, lane}

  seat_at : get_elem? w.seats p.lane ≡ some p
  seat_at = g.each p (before one)

  after_step : (t : Turn) → ((store : State) → t ≡ Free store → (turn new ≡ 0) × (store ≡ r'.history.last))
      → ((l : ℕ) → t ≡ Out l → (turn new ≡ 1) × IsOutIn (set w.seats p.lane q) l)
      → (cs : List Cell) → length cs ≡ length w.cells → ((l : ℕ) (c : Cell) → get_elem? cs l ≡ some c → c ≡ r'.cell l)
      → Agrees a new r' record { opening = w.opening; turn = t; cells = cs; seats = set w.seats p.lane q }
  after_step t free out cs wide stand =
      let are = seats_now one w.seats (g.seats, g.each) in record {
        opening = g.opening;
        free = free;
        out = out;
        wide = ap length h.words
            ∙ (length-set s.words h.made.word h.becomes ∙ (g.wide ∙ ap (λ (n : ℕ). n + 1) (sym wide)));
        cells = stand;
        seats = are.0;
        each = are.1;
      }

  -- where the turn stays
  turn_kept : turn new ≡ turn s → (turn s ≡ 0 → r'.history.log ≡ r.history.log) → (HasTurn p → HasTurn q)
      → (cs : List Cell) → length cs ≡ length w.cells → ((l : ℕ) (c : Cell) → get_elem? cs l ≡ some c → c ≡ r'.cell l)
      → Agrees a new r' record (reseated w p.lane q) { cells = cs }
  turn_kept same log held cs wide stand = after_step w.turn
      (λ store e. let f = g.free store e in (same ∙ f.0, f.1 ∙ sym (last_same_of r r' (log f.0))))
      (λ l e. let o = g.out l e in (same ∙ o.0, out_set w.seats p.lane l p q seat_at held o.1)) cs wide stand

  -- and all cells
  cells_kept : ((l : ℕ) → r'.cell l ≡ r.cell l) → (l : ℕ) (c : Cell) → get_elem? w.cells l ≡ some c → c ≡ r'.cell l
  cells_kept stay l c at = g.cells l c at ∙ sym (stay l)

  seat_changed : turn new ≡ turn s → (turn s ≡ 0 → r'.history.log ≡ r.history.log) → (HasTurn p → HasTurn q)
      → ((l : ℕ) → r'.cell l ≡ r.cell l) → Agrees a new r' (reseated w p.lane q)
  seat_changed same log held stay = turn_kept same log held w.cells refl (cells_kept stay)

  -- the same, where neither a call nor what is held or served changes
  seat_quiet : turn new ≡ turn s → r'.history.log ≡ r.history.log ++ [] → q.flight ≡ p.flight → q.mine ≡ p.mine
      → q.holding ≡ p.holding → q.serving ≡ p.serving → Agrees a new r' (reseated w p.lane q)
  seat_quiet same whole fl mine held served =
      let log : r'.history.log ≡ r.history.log = whole ∙ append-nil r.history.log in
      seat_changed same (λ _. log) (λ t. (t.0, held ∙ t.1))
      (λ l. quiet_cell one l fl mine (serving_stays one same held served) log)

  -- a step on one cell
  cell_changed : (k : ℕ) (c : Cell) → h.made.word ≡ k + 1 → (turn s ≡ 0 → r'.history.log ≡ r.history.log)
      → (HasTurn p → HasTurn q) → r'.cell k ≡ c → ((l : ℕ) → l ≢ k → r'.cell l ≡ r.cell l)
      → Agrees a new r' (recelled (reseated w p.lane q) k c)
  cell_changed k c at log held here stay =
      turn_kept (cell_turn one k at) log held (set w.cells k c) (length-set w.cells k c) (λ l x is.
      ⊎_elim (λ (t : (l ≡ k) × (c ≡ x)). sym t.1 ∙ (sym here ∙ ap r'.cell (sym t.0)))
      (λ (t : (l ≢ k) × (get_elem? w.cells l ≡ some x)). g.cells l x t.1 ∙ sym (stay l t.0))
      (law.at_set w.cells k l c x is))

  -- the turn is given back
  turn_freed : turn new ≡ 0 → ((l : ℕ) → r'.cell l ≡ r.cell l)
      → Agrees a new r' (brought_home w p.lane q r'.history.last)
  turn_freed zero_is stay = after_step (Free r'.history.last)
      (λ store f. let same : r'.history.last ≡ store = cc in (zero_is, sym same)) (λ k f. absurd cc) w.cells refl
      (cells_kept stay)

  -- the machine where nothing changed
  machine_kept : q ≡ p → turn new ≡ turn s → r'.history.log ≡ r.history.log ++ [] → Agrees a new r' w
  machine_kept e same whole = same_world r r' w g same (ap length h.words ∙ length-set s.words h.made.word h.becomes)
      (λ t had. ⊎_elim (λ (f : t ≡ p). subst (Is one) (e ∙ sym f) (afterwards one)) (λ (f : Is one t). f)
      (forth one t had)) (λ u has. ⊎_elim (λ (f : u ≡ q). subst (Was one) (sym (f ∙ e)) (before one))
      (λ (t : Was one u × (u.lane ≢ p.lane)). t.0) (back one u has)) (whole ∙ append-nil r.history.log)

  -- the cell of the lane whose word the step is on
  cell_here : (l : ℕ) → h.made.word ≡ l + 1 → get_elem? w.cells l ≡ some (r.cell l)
  cell_here l at =
      let there : h.made.word < length s.words = h.there in
      let wide : length s.words ≡ length w.cells + 1 = g.wide in
      let c = some_at w.cells l (omega arith) in
      c.1 ∙ ap some (g.cells l c.0 c.1)

  -- its seat holds the history, and serves no posted call
  abbrev is_holder : (l : List Event) → p.holding ≡ Some l → l ≡ r.history.log → p.serving ≡ None → IsHolder w p.lane p
  is_holder l held whole unserving = record {
    log = l;
    last = r.history.last;
    out = out_here g p (before one) (l, held);
    held = held;
    unserving = unserving;
    legal = subst (λ (x : State × List Event). IsLegal x.0 x.1 r.history.last) (λ i. (sym g.opening i, sym whole i))
        r.history.legal;
  }

  -- the machine makes this step
  makes_one : (k : Kind) {next : World} → Agrees a new r' next → StepsAs w p.lane p k next
      → MakesSteps a new w (step_by p.lane k ∷ [])
  makes_one k {next} now steps = (next, is_world now, (next, (p, seat_at, steps), refl))

no_service : (t : Service) → ◌≡◌ {A = Option Service} None (Some t) → ⊥
no_service t e = absurd cc

one_service_lane :
    (l m n k : ℕ) (ask other : Ask) → ◌≡◌ {A = Option Service} (Some (service l m ask)) (Some (service k n other))
    → l ≡ k
one_service_lane l m n k ask other e =
    let one : service l m ask ≡ service k n other = cc in
    ap (λ (t : Service). t.lane) one

-- a step that reads the turn leaves all words
pub reads_words : {s new : Board} (h : IsStepped s new) → IsReading h.made h.found → (i : ℕ)
    → get_or new.words i 0 ≡ get_or s.words i 0
reads_words {s} {new} h reads i =
    let word : ℕ = h.made.word in
    let n : ℕ = reads.3.0 in
    let here : get_or s.words word 0 ≡ n = sym (h.truly n reads.3.1) in
    let left : IsLeft h.made (Some n) h.becomes =
    subst (λ (f : Option ℕ). IsLeft h.made f h.becomes) reads.3.1 h.left in
    let same : h.becomes ≡ n =
    dite (ℕ_discrete n h.made.first) (λ e. left.0 e ∙ (reads.2 ∙ (sym reads.1 ∙ sym e))) (λ not. left.1 not) in
    ap (λ (ws : List ℕ). get_or ws i 0) h.words ∙ dite (ℕ_discrete i word) (λ e.
    ap (λ (k : ℕ). get_or (set s.words word h.becomes) k 0) e
    ∙ (get_or-set_same s.words word h.becomes 0 h.there ∙
    (same ∙ (sym here ∙ ap (λ (k : ℕ). get_or s.words k 0) (sym e)))))
    (λ not. get_or-set_other s.words word i h.becomes 0 not)

-- Each kind of step.

makes : {a : State} {s new : Board} {p : Part} {w : World} (m : Move) (x : OneStep a s new p (after p m))
    → Agrees a s x.r w → IsMadeAt x.h.made x.h.found p m → MakesSteps a new w (steps_by p.lane m)
makes {p = p} {w = w} move.stays x g made =
    let n = named move.stays x made in
    makes_one x g CollectFound (machine_kept x g refl (cell_turn x p.lane made.0) n.2)
    (unanswered_here w.cells p.lane (x.r.cell p.lane) (g.cells p.lane) n.0, refl)
makes {s = s} {p = p} {w = w} (move.takes l) x g made =
    let q : Part = after p (move.takes l) in
    let n = named (move.takes l) x made in
    let zero_is : turn s ≡ 0 = n.0.0 in
    let free = free_turn g zero_is in
    let serving : x.r'.history.serving ≡ x.r.history.serving = sym (serves_now x l refl)
    ∙ ((known_at x.r (before x)).unheld made.2 ∙ sym (x.r.history.unserved (λ one. omega arith))) in
    makes_one x g Take (after_step x g (Out p.lane) (λ store e. absurd cc) (λ k e. let same : p.lane ≡ k = cc in (
      n.0.1.0,
      subst (IsOutIn (set w.seats p.lane q)) same (q, l, law.set_at w.seats p.lane q p (seat_at x g), refl),
    )) w.cells refl (cells_kept x g (λ k. quiet_cell x k refl refl serving (n.2 ∙ append-nil x.r.history.log))))
    (free.0, l, free.1, subst (IsHistory w) (sym n.1) (history_of g), refl)
makes {s = s} {new = new} {p = p} {w = w} move.misses x g made =
    let n = named move.misses x made in
    let becomes : x.h.becomes ≡ made.1.0 =
    (subst (λ (f : Option ℕ). IsLeft x.h.made f x.h.becomes) made.1.1 x.h.left).1 (λ e. made.1.2 (e ∙ made.0.1)) in
    let same : turn new ≡ turn s =
    turn_becomes x made.1.0 made.0.0 becomes ∙ sym (word_found x 0 made.1.0 made.0.0 made.1.1) in
    let out = out_turn g (one_of (turn s) x.r.history.word n.0.0 (not_dealing g)) in
    makes_one x g TakeFound (seat_quiet x g same n.2 refl refl refl refl) (
      out.0,
      out.1,
      (λ e.
          let t = (g.out out.0 out.1).1 in
          let it : t.0 ≡ p = some-injective t.0 p (sym t.2 ∙ (ap (get_elem? w.seats) e ∙ seat_at x g)) in
          not_both p made.2 (t.1, ap (λ (z : Part). z.holding) (sym it) ∙ t.3)),
      refl,
    )
makes {new = new} {p = p} {w = w} (move.puts_own l e) x g made =
    let n = named (move.puts_own l e) x made in
    let serving : x.r'.history.serving ≡ x.r.history.serving =
    x.r'.history.unserved (λ one. let zero_is : turn new ≡ 0 = n.0.1 in omega arith)
    ∙ (sym made.3 ∙ serves_it x l made.2) in
    let own : e.lane ≡ p.lane = own_lane x e made.4 made.4 refl n.2 in
    let it : event_of p.lane e.moment e.ask e.reply ≡ e = event_is p.lane e own in
    makes_one x g (Put (Some (e.moment, e.ask))) (turn_freed x g n.0.1 (idle_cells x e own serving made.4 made.4 n.2)) (
      is_holder x g l made.2 n.1 made.3,
      e.reply,
      x.r'.history.last,
      made.4,
      subst (λ (z : Event). Step x.r.history.last z x.r'.history.last) (sym it) n.0.2,
      ap (λ (z : Event). brought_home w p.lane (put_own p l z) x.r'.history.last) (sym it),
    )
makes {new = new} {p = p} {w = w} (move.puts_none l) x g made =
    let n = named (move.puts_none l) x made in
    let log : x.r'.history.log ≡ x.r.history.log = n.2 ∙ append-nil x.r.history.log in
    let serving : x.r'.history.serving ≡ x.r.history.serving =
    x.r'.history.unserved (λ one. let zero_is : turn new ≡ 0 = n.0.1 in omega arith)
    ∙ (sym made.3 ∙ serves_it x l made.2) in
    makes_one x g (Put None) (turn_freed x g n.0.1 (λ k. quiet_cell x k refl refl serving log))
    (is_holder x g l made.2 n.1 made.3, ap (brought_home w p.lane (put_none p l)) (last_same_of x.r x.r' log))
makes {s = s} {p = p} {w = w} (move.serves_own l e) x g made =
    let n = named (move.serves_own l e) x made in
    let serving : x.r'.history.serving ≡ x.r.history.serving =
    sym (serves_now x (l ++ e ∷ []) refl) ∙ serves_it x l made.1 in
    let own : e.lane ≡ p.lane = own_lane x e made.3 made.3 refl n.2 in
    let it : event_of p.lane e.moment e.ask e.reply ≡ e = event_is p.lane e own in
    makes_one x g (Serve e.moment e.ask) (seat_changed x g (reads_words x.h made.0 0)
    (λ zero_is. absurd (let one_is : turn s ≡ 1 = n.0.0.0 in omega arith)) (λ _. (l ++ e ∷ [], refl))
    (idle_cells x e own serving made.3 made.3 n.2)) (
      is_holder x g l made.1 n.1 made.2,
      e.reply,
      x.r'.history.last,
      made.3,
      subst (λ (z : Event). Step x.r.history.last z x.r'.history.last) (sym it) n.0.2,
      ap (λ (z : Event). reseated w p.lane (kept p l z)) (sym it),
    )
makes (move.loads l) x g made =
    let n = named (move.loads l) x made in
    makes_one x g (Load (length l)) (seat_quiet x g (reads_words x.h made.0 0) n.2 refl refl refl refl)
    (x.r.history.log, l, history_of g, made.1, n.1, refl, refl)
makes {p = p} (move.posts m ask) x g made =
    let n = named (move.posts m ask) x made in
    let log : x.r'.history.log ≡ x.r.history.log = n.2 ∙ append-nil x.r.history.log in
    let serving = serving_stays x (cell_turn x p.lane made.0) refl refl in
    makes_one x g (Post m ask) (cell_changed x g p.lane (cells.Posted m ask) made.0 (λ _. log) (λ t. t) n.0.1
    (λ k not. other_cell x k not serving (ap (events_of k) log))) (cell_here x g p.lane made.0 ∙ ap some n.0.0, refl)
makes {w = w} (move.finds k) x g made =
    let n = named (move.finds k) x made in
    (w, is_world (machine_kept x g refl (cell_turn x k made.0) n.2), refl)
makes (move.grabs k m ask) x g made =
    let n = named (move.grabs k m ask) x made in
    let log : x.r'.history.log ≡ x.r.history.log = n.2 ∙ append-nil x.r.history.log in
    let l : List Event = made.2.0 in
    let none : x.r.history.serving ≡ None = sym (serves_it x l made.2.1) ∙ made.5 in
    let some_call : x.r'.history.serving ≡ Some (service k m ask) = sym (serves_now x l made.2.1) in
    makes_one x g (Grab k) (cell_changed x g k (cells.Serving m ask) made.0 (λ _. log) (λ t. t) n.0.2
    (λ z not. apart_cell x z refl refl (λ o other e. no_service (service z o other) (sym none ∙ e))
    (λ o other e. not (one_service_lane z o m k other ask (sym e ∙ some_call))) (ap (events_of z) log))) (
      is_holder x g l made.2.1 ((within x.r (before x)).held l made.2.1) made.5,
      m,
      ask,
      cell_here x g k made.0 ∙ ap some (n.0.1.2 ∙ same_call x k n.0.1.0 m n.0.1.1 ask refl refl n.0.1.2 n.0.2),
      refl,
    )
makes {s = s} {p = p} {w = w} (move.answers l e) x g made =
    let n = named (move.answers l e) x made in
    let served : Some (service e.lane e.moment e.ask) ≡ x.r.history.serving = sym made.3 ∙ serves_it x l made.2 in
    let none : None ≡ x.r'.history.serving = serves_now x (l ++ e ∷ []) refl in
    let c : Cell = cells.Answered e.moment e.ask e.reply in
    let it : event_of e.lane e.moment e.ask e.reply ≡ e = event_is e.lane e refl in
    makes_one x g Answer
    (cell_changed x g e.lane c made.0 (λ zero_is. absurd (let one_is : turn s ≡ 1 = n.0.0.0 in omega arith))
    (λ _. (l ++ e ∷ [], refl)) n.0.2 (λ z not. apart_cell x z refl refl
    (λ o other f. not (one_service_lane z o e.moment e.lane other e.ask (sym f ∙ sym served)))
    (λ o other f. no_service (service z o other) (none ∙ f))
    (ap (events_of z) n.2 ∙ law.other_event z x.r.history.log e (λ y. not (sym y))))) (
      record {
        log = l;
        last = x.r.history.last;
        call = service e.lane e.moment e.ask;
        out = out_here g p (before x) (l, made.2);
        held = made.2;
        serving = made.3;
        legal = subst (λ (z : State × List Event). IsLegal z.0 z.1 x.r.history.last)
            (λ i. (sym g.opening i, sym n.1 i)) x.r.history.legal;
      },
      e.reply,
      x.r'.history.last,
      subst (λ (z : Event). Step x.r.history.last z x.r'.history.last) (sym it) n.0.3,
      ap (λ (z : Event). recelled (reseated w p.lane (answered p l z)) e.lane c) (sym it),
    )
makes {p = p} {w = w} (move.collects l e) x g made =
    let n = named (move.collects l e) x made in
    let log : x.r'.history.log ≡ x.r.history.log = n.2 ∙ append-nil x.r.history.log in
    let serving = serving_stays x (cell_turn x p.lane made.0) refl refl in
    let its_event : Event = event_of p.lane e.moment e.ask e.reply in
    let fits : Fits x.r.history.log p (cells.Answered e.moment e.ask e.reply) =
    subst (Fits x.r.history.log p) n.0.0 (known_at x.r (before x)).fits in
    let front : List Event = p.mine ++ e ∷ [] in
    let whole : List Event = p.mine ++ its_event ∷ [] in
    let both : (front ≡ whole) × (events_of p.lane l ≡ whole) =
    between_is front (events_of p.lane l) whole (known_at x.r' (afterwards x)).calls
    (subst (Begins (events_of p.lane l)) fits.2 (law.events_prefix p.lane l x.r.history.log n.1))
    (length-append p.mine (e ∷ []) ∙ sym (length-append p.mine (its_event ∷ []))) in
    let it : its_event ≡ e = last_same p.mine its_event e (sym both.0) in
    makes_one x g (Collect (length l)) (cell_changed x g p.lane cells.Empty made.0 (λ _. log) (λ t. t) n.0.1
    (λ k not. other_cell x k not serving (ap (events_of k) log))) (
      record {
        moment = e.moment;
        ask = e.ask;
        reply = e.reply;
        log = x.r.history.log;
        seen = l;
        cell = cell_here x g p.lane made.0 ∙ ap some n.0.0;
        history = history_of g;
        more = made.3;
        begins = n.1;
        size = refl;
        has = both.1;
      },
      ap (λ (z : Event). recelled (reseated w p.lane (collected p l z)) p.lane cells.Empty) (sym it),
    )
makes {s = s} {p = p} {w = w} (move.looks k finished) x g made =
    let n = named (move.looks k finished) x made in
    let own : Bool = eqb k p.lane in
    let word : get_or s.words (k + 1) 0 ≡ made.1.0 = word_found x (k + 1) made.1.0 made.0 made.1.1 in
    let it : finished ≡ cond own (is_answered (x.r.cell k)) false = made.1.3
    ∙ (ap (λ (n : ℕ). (eqb n 3) && own) (sym word)
    ∙ (ap (λ (b : Bool). b && own) (sym (three_answered (get_or s.words (k + 1) 0) (get_elem? s.homes (k + 1))
    (x.r.cell k)
    (x.r.cells k))) ∙ sym (cond_and (is_answered (x.r.cell k)) own))) in
    makes_one x g (LookAt k) (seat_quiet x g (cell_turn x k made.0) n.2 refl refl refl refl) (
      x.r.cell k,
      out_here g p (before x) made.2,
      cell_here x g k made.0,
      n.0.1,
      ap (λ (b : Bool). reseated w p.lane (looked_at p k b)) it,
    )

pub steps_as : (a : State) → machine.StepsAs a
steps_as a s new p m w r r' h was made is isw = makes m (one_step m r r' h was is) (agrees r isw) made
