-- What stays of a table's cells, turn and history where what its lanes know of their calls stays.
use Rattle.std.proofs.Common.{[], ◌++◌, ◌+◌, ◌<◌, ◌∙◌, ◌∷◌, ◌≡◌, ap, arith, get_or}
use Rattle.std.proofs.Common.{length, length-append, List, lt_of_not-le, None, Option, refl, Some, subst, sym, ℕ}
use lib.ListN.{get_elem?}
use mathlib.Core.Logic.{dite}
use native.Mathlib.Decide.{dec_le, ℕ_discrete}
use Rattle.krs_types.specs.declared.{ask.Ask.Ask, event.Event.Event}
use Rattle.krs_model.specs.{History.{event_of, IsLegal}, Lists.Begins, State.State}
use Rattle.krs_model.proofs.History.Determined.{one_history}
use Rattle.krs_world.specs.{History.Fits, Knowing.{events_of, flight, service}, World.World, declared.view.Cell.Cell}
use Rattle.krs_world.specs.declared.view.{Flight.Flight, Part.Part}
use Rattle.krs_desk.specs.{Machine.IsSeatedIn, Parts.views_of, Rule.{CellIs, InOneOrder, Slot}, Running.Board}
use Rattle.krs_desk.proofs.Adding.{counts, last_same, none_more}
use Rattle.krs_desk.proofs.Agreeing.{Agrees, holder_there, known_at, seat_there}
use Rattle.krs_desk.proofs.{Running.{begins_log, log_grows, seen_sits, sits_seen, within}, TurnSteps.turn}
use Rattle.krs_world.specs.declared.view.Cell.TheVariants as cells

-- Cells.

pub not_longer : (xs : List Event) (e : Event) → xs ≡ xs ++ e ∷ [] → ⊥
not_longer xs e is =
    let size : length xs ≡ length xs + 1 = ap length is ∙ length-append xs (e ∷ []) in
    absurd (omega arith)

no_call : (f : Flight) → ◌≡◌ {A = Option Flight} None (Some f) → ⊥
no_call f e = absurd cc

pub one_call : (f g : Flight) → ◌≡◌ {A = Option Flight} (Some f) (Some g) → f ≡ g
one_call f g e = cc

-- The cell of a lane is what the history and its call in flight say, but for whether it is served.
cell_same : (c c' : Cell) (log log' : List Event) (p p' : Part) → Fits log p c → Fits log' p' c' → p'.flight ≡ p.flight
    → p'.mine ≡ p.mine → events_of p'.lane log' ≡ events_of p.lane log
    → ((m : ℕ) (ask : Ask) → c ≡ cells.Serving m ask → c' ≡ cells.Serving m ask)
    → ((m : ℕ) (ask : Ask) → c' ≡ cells.Serving m ask → c ≡ cells.Serving m ask) → c' ≡ c
cell_same cells.Empty cells.Empty log log' p p' f f' fl mine ev to back = refl
cell_same cells.Empty (cells.Posted m' ask') log log' p p' f f' fl mine ev to back =
    absurd (no_call (flight m' ask' f'.0) (sym f.0 ∙ (sym fl ∙ f'.1)))
cell_same cells.Empty (cells.Serving m' ask') log log' p p' f f' fl mine ev to back =
    absurd (no_call (flight m' ask' f'.0) (sym f.0 ∙ (sym fl ∙ f'.1)))
cell_same cells.Empty (cells.Answered m' ask' r') log log' p p' f f' fl mine ev to back =
    absurd (no_call (flight m' ask' f'.0) (sym f.0 ∙ (sym fl ∙ f'.1)))
cell_same (cells.Posted m ask) cells.Empty log log' p p' f f' fl mine ev to back =
    absurd (no_call (flight m ask f.0) (sym f'.0 ∙ (fl ∙ f.1)))
cell_same (cells.Posted m ask) (cells.Posted m' ask') log log' p p' f f' fl mine ev to back =
    ap (λ (z : Flight). cells.Posted z.moment z.ask)
    (one_call (flight m' ask' f'.0) (flight m ask f.0) (sym f'.1 ∙ (fl ∙ f.1)))
cell_same (cells.Posted m ask) (cells.Serving m' ask') log log' p p' f f' fl mine ev to back =
    absurd (let no : cells.Posted m ask ≡ cells.Serving m' ask' = back m' ask' refl in cc)
cell_same (cells.Posted m ask) (cells.Answered m' ask' r') log log' p p' f f' fl mine ev to back =
    absurd (not_longer p'.mine (event_of p'.lane m' ask' r') (mine ∙ (sym f.2 ∙ (sym ev ∙ f'.2))))
cell_same (cells.Serving m ask) c' log log' p p' f f' fl mine ev to back = to m ask refl
cell_same (cells.Answered m ask r) cells.Empty log log' p p' f f' fl mine ev to back =
    absurd (no_call (flight m ask f.0) (sym f'.0 ∙ (fl ∙ f.1)))
cell_same (cells.Answered m ask r) (cells.Posted m' ask') log log' p p' f f' fl mine ev to back =
    absurd (not_longer p.mine (event_of p.lane m ask r) (sym mine ∙ (sym f'.2 ∙ (ev ∙ f.2))))
cell_same (cells.Answered m ask r) (cells.Serving m' ask') log log' p p' f f' fl mine ev to back =
    absurd (let no : cells.Answered m ask r ≡ cells.Serving m' ask' = back m' ask' refl in cc)
cell_same (cells.Answered m ask r) (cells.Answered m' ask' r') log log' p p' f f' fl mine ev to back =
    let e : Event = event_of p.lane m ask r in
    let e' : Event = event_of p'.lane m' ask' r' in
    let same : e' ≡ e =
    last_same p.mine e' e (ap (λ (z : List Event). z ++ e' ∷ []) (sym mine) ∙ (sym f'.2 ∙ (ev ∙ f.2))) in
    ap (λ (x : Event). cells.Answered x.moment x.ask x.reply) same

module _ {a : State} {s new : Board} (r : InOneOrder a s) (r' : InOneOrder a new) where
  abbrev pub Was : Part → Type 0
  Was p = IsSeatedIn (views_of s.views) p

  abbrev pub Is : Part → Type 0
  Is p = IsSeatedIn (views_of new.views) p

  -- a lane's seat now is a lane's seat from before, with the same calls of its own
  abbrev pub SameCalls : Part → Type 0
  SameCalls u = (t : Part) × Was t × (u.lane ≡ t.lane) × (u.flight ≡ t.flight) × (u.mine ≡ t.mine)

  abbrev pub KeepsServed : ℕ → Type 0
  KeepsServed l = ((m : ℕ) (ask : Ask) → r.cell l ≡ cells.Serving m ask → r'.cell l ≡ cells.Serving m ask)
      × ((m : ℕ) (ask : Ask) → r'.cell l ≡ cells.Serving m ask → r.cell l ≡ cells.Serving m ask)

  pub cell_stays : (l : ℕ) → KeepsServed l → events_of l r'.history.log ≡ events_of l r.history.log
      → ((t : Part) → Was t → (u : Part) × Is u × (u.lane ≡ t.lane))
      → ((u : Part) → Is u → u.lane ≡ l → SameCalls u) → r'.cell l ≡ r.cell l
  cell_stays l served ev forth back = dite (dec_le r'.history.dealt l)
      (λ le. (r'.history.undealt l le).0 ∙ sym (dite (dec_le r.history.dealt l) (λ is. (r.history.undealt l is).0)
      (λ nle.
      let t = seat_there r l (lt_of_not-le nle) in
      let u = forth t.0 t.1 in
      let given = (known_at r' u.1).given in
      let same : u.0.lane ≡ l = u.2 ∙ t.2 in
      let less : l < r'.history.dealt = subst (λ (n : ℕ). n < r'.history.dealt) same given in
      absurd (omega arith)))) (λ nle.
      let u = seat_there r' l (lt_of_not-le nle) in
      let t = back u.0 u.1 u.2 in
      let at : t.0.lane ≡ l = sym t.2 ∙ u.2 in
      cell_same (r.cell l) (r'.cell l) r.history.log r'.history.log t.0 u.0
      (subst (λ (n : ℕ). Fits r.history.log t.0 (r.cell n)) at (known_at r t.1).fits)
      (subst (λ (n : ℕ). Fits r'.history.log u.0 (r'.cell n)) u.2 (known_at r' u.1).fits) t.3 t.4
      (ap (λ (n : ℕ). events_of n r'.history.log) u.2
      ∙ (ev ∙ ap (λ (n : ℕ). events_of n r.history.log) (sym at))) served.0 served.1)

  -- The call that is served.

  pub same_serving : turn new ≡ turn s
      → ((t : Part) → Was t → (u : Part) × Is u × (u.holding ≡ t.holding) × (u.serving ≡ t.serving))
      → r'.history.serving ≡ r.history.serving
  same_serving same forth = dite (ℕ_discrete (turn s) 1) (λ out.
      let t = holder_there r out in
      let u = forth t.0 t.1 in
      let k = (known_at r t.1).holding r.history.log t.2 in
      let k' = (known_at r' u.1).holding r.history.log (u.2 ∙ t.2) in
      sym k'.same_service ∙ (u.3 ∙ k.same_service))
      (λ not. r'.history.unserved (λ e. not (sym same ∙ e)) ∙ sym (r.history.unserved not))

  pub keeps_served : r'.history.serving ≡ r.history.serving → (l : ℕ) → KeepsServed l
  keeps_served same l = (
    (λ m ask e. r'.history.served (service l m ask) (same ∙ r.history.serves l m ask e)),
    λ m ask e. r.history.served (service l m ask) (sym same ∙ r'.history.serves l m ask e),
  )

  -- The history.

  -- where all words of cells stay, and each lane knows of as many calls, it has no other call
  pub same_log : ((l : ℕ) → get_or new.words (l + 1) 0 ≡ get_or s.words (l + 1) 0)
      → ((u : Part) → Is u → SameCalls u) → Begins r.history.log r'.history.log → r'.history.log ≡ r.history.log
  same_log words back grows =
      none_more r.history.log r'.history.log grows r'.history.dealt (λ l le. (r'.history.undealt l le).1) (λ l lt.
      let u = seat_there r' l lt in
      let t = back u.0 u.1 in
      let n : ℕ = t.0.lane in
      let at : n ≡ l = sym t.2 ∙ u.2 in
      let slot : Slot = get_elem? new.homes (n + 1) in
      subst (λ (k : ℕ). length (events_of k r.history.log) ≡ length (events_of k r'.history.log)) at
      (counts (get_or s.words (n + 1) 0) (get_elem? s.homes (n + 1)) slot (r.cell n) (r'.cell n) r.history.log
      r'.history.log t.0 u.0 t.2 t.4 (r.cells n)
      (subst (λ (x : ℕ). CellIs x slot (r'.cell n)) (words n) (r'.cells n)) (known_at r t.1).fits
      (subst (λ (k : ℕ). Fits r'.history.log u.0 (r'.cell k)) t.2 (known_at r' u.1).fits)))

  -- where the seats are those that there were, it is no longer
  pub log_back : ((p : Part) → Is p → Was p) → Begins r'.history.log r.history.log
  log_back back = log_grows a new s r' r (λ front was.
      let t = seen_sits was.2 was.1.stands was.4 in
      let f = back t.0 (was.0, was.1, was.3, t.1) in
      (f.0, f.1, t.0.seen, f.2, sits_seen t.0 f.1.stands f.3, subst (Begins front) (sym t.2) was.5))
      (λ p l is held. begins_log l r.history.log ((within r (back p is)).held l held))

  -- The whole table.

  pub last_same_of : r'.history.log ≡ r.history.log → r'.history.last ≡ r.history.last
  last_same_of same = one_history a r'.history.last r.history.last r.history.log
      (subst (λ (l : List Event). IsLegal a l r'.history.last) same r'.history.legal) r.history.legal

  -- a machine that the table still is
  pub same_world : (w : World) → Agrees a s r w → turn new ≡ turn s → length new.words ≡ length s.words
      → ((p : Part) → Was p → Is p) → ((p : Part) → Is p → Was p) → r'.history.log ≡ r.history.log → Agrees a new r' w
  same_world w g same wide forth back log =
      let serving = same_serving same (λ t was. (t, forth t was, refl, refl)) in record {
        opening = g.opening;
        free = λ store e. let f = g.free store e in (same ∙ f.0, f.1 ∙ sym (last_same_of log));
        out = λ lane e. let o = g.out lane e in (same ∙ o.0, o.1);
        wide = wide ∙ g.wide;
        cells = λ l c at. g.cells l c at
            ∙ sym (cell_stays l (keeps_served serving l) (ap (events_of l) log) (λ t was. (t, forth t was, refl))
            (λ u is e. (u, back u is, refl, refl, refl)));
        seats = λ l p at. let t = g.seats l p at in (t.0, forth p t.1);
        each = λ p is. g.each p (back p is);
      }
