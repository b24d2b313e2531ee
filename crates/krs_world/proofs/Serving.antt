-- The holder of the turn serves posted calls, and the one history stays: it takes up a call, answers it, and looks at
-- the cells that are not posted.
use Rattle.std.proofs.Common.{[], ◌++◌, ◌∙◌, ◌∷◌, ◌≡◌, ◌≢◌, ◌⊎◌, ap, arith, Bool, cond, false, inl, inr, List, ne_eqb}
use Rattle.std.proofs.Common.{None, Option, refl, Result, set, Some, subst, sym, true, ℕ}
use lib.ListN.{get_elem?}
use mathlib.Core.{Logic.dite, Option.some}
use native.Mathlib.Decide.{ℕ_discrete}
use Rattle.krs_types.specs.declared.{ask.{Answer.Answer, Ask.Ask}, errno.Errno.Errno, event.Event.Event}
use Rattle.krs_model.specs.{History.{event_of, IsLegal}, Lists.Begins, State.State, Step.Step}
use Rattle.krs_model.proofs.History.Legal.{legal_more}
use Rattle.krs_world.specs.History.{Fits, OneHistory, Shared, Stands}
use Rattle.krs_world.specs.Knowing.{answered, celled, events_of, grabbed, looked_at, one, service}
use Rattle.krs_world.specs.declared.view.Cell.{Cell, TheVariants.{Answered, Empty, Posted, Serving}}
use Rattle.krs_world.specs.declared.view.{Part.Part, Service.Service, Standing.TheVariants.One, View.View}
use Rattle.krs_world.proofs.Keeping.{own, seats_stay, stays, views_open}
use Rattle.krs_world.proofs.Lanes.{celled_else, celled_here, each_set, fits_more, fits_same, held_set, other_event}
use Rattle.krs_world.proofs.Lanes.{holds_is, known_is, one_history, others_stand, own_event, prefix_more, set_at}
use Rattle.krs_world.proofs.Lanes.{shares}
use Rattle.std.proofs.lemmas.Grind.{common_steps}

looked_fits : (p : Part) (log : List Event) (lane : ℕ) (c : Cell) (finished : Bool)
    → (finished ≡ true → (m : ℕ) × (ask : Ask) × (r : Result Answer Errno) × (c ≡ Answered m ask r)) → Fits log p c
    → Fits log (looked_at p lane finished) c
looked_fits p log lane c false is f = fits_same log p (looked_at p lane false) refl refl refl refl c f
looked_fits p log lane c true is f = grind (arith, common_steps)

module _ {a : State} {views : List View} (id : ℕ) {p : Part} (at : get_elem? views id ≡ some (one a p)) where
  -- the holder takes up a posted call
  pub grabs : {turn : ℕ} {home : Option State} {cell : ℕ → Cell} (log : List Event) (lane m : ℕ) (ask : Ask)
      → (o : OneHistory a turn home cell views) → p.holding ≡ Some log → p.serving ≡ None → cell lane ≡ Posted m ask
      → OneHistory a turn home (celled cell lane (Serving m ask)) (set views id (one a (grabbed p lane m ask)))
  grabs {turn} {cell = cell} log lane m ask o held idle is_posted = let k = own id at o in
      let c : Cell = Serving m ask in let c' : ℕ → Cell = celled cell lane c in
      let q : Part = grabbed p lane m ask in let t = k.holding log held in let out : turn ≡ 1 = t.out in
      let s : Shared = shares o in
      let s' : Shared = record {
        witness = record o.witness { serving = Some (service lane m ask) };
        turn = turn;
        cell = c';
      } in
      let unserving : o.serving ≡ None = sym t.same_service ∙ idle in
      let go : (r : Part) → Fits o.log r (cell r.lane) → Fits o.log r (c' r.lane) = λ r f.
      dite (ℕ_discrete r.lane lane) (λ e. subst (Fits o.log r) (sym (ap c' e ∙ celled_here cell lane c))
      (subst (Fits o.log r) (ap cell e ∙ is_posted) f))
      (λ not. subst (Fits o.log r) (sym (celled_else cell lane r.lane c not)) f) in one_history record {
        witness = record o.witness { serving = Some (service lane m ask) };
        store = o.store;
        words = record {
          word = o.word;
          young = o.young;
          unserved = λ n. absurd (n out);
        };
        cells = record {
          undealt = λ l le. let u = o.undealt l le in (
            celled_else cell lane l c
                (λ same. absurd (let no : Posted m ask ≡ Empty = sym is_posted ∙ (ap cell (sym same) ∙ u.0) in cc))
                ∙ u.0,
            u.1,
          );
          serves = λ l m' a' is. dite (ℕ_discrete l lane)
              (λ e. let same : Serving m ask ≡ Serving m' a' = sym (celled_here cell lane c) ∙ (ap c' (sym e) ∙ is) in
              let em : m ≡ m' = cc in let ea : ask ≡ a' = cc in λ i. Some (service (sym e i) (em i) (ea i)))
              (λ not. let was = o.serves l m' a' (sym (celled_else cell lane l c not) ∙ is) in
              let no : Some (service l m' a') ≡ None = sym was ∙ unserving in absurd cc);
          served = λ x is. let same : service lane m ask ≡ x = cc in
              subst (λ (z : Service). c' z.lane ≡ Serving z.moment z.ask) same (celled_here cell lane c);
        };
        seats = record {
          held = λ n. held_set o.log o.holder views id (one a p) (one a q) at (λ h. h) (o.held n);
          longest = λ n. absurd (n out);
          opener = λ n. absurd (let no : 1 ≡ 2 = sym out ∙ n in omega arith);
          seated = seats_stay id at o q refl;
          openings = views_open id at o (One q);
          each = each_set (λ j v. Stands s' j v.stands) views id (one a q) (known_is k.at k.given k.seen k.base k.calls
              (fits_same o.log p q refl refl refl refl (c' p.lane) (go p k.fits))
              (λ l is. let u = k.holding l is in holds_is u.out u.here u.whole refl)
              (λ no. absurd (let never : Some log ≡ None = sym held ∙ no in cc))) (λ j v not e. others_stand s s' j
              (λ r h. known_is h.at h.given h.seen h.base h.calls (go r h.fits)
              (λ l is. let u = h.holding l is in absurd (not (u.here ∙ sym t.here))) h.unheld)
              (λ two here. (two, here, refl)) v.stands (o.each j v e));
        };
      }

  -- the holder answers the call that it serves: its event stands at the end of the list that is held
  pub answers : {turn : ℕ} {home : Option State} {cell : ℕ → Cell} (log : List Event) (lane m : ℕ) (ask : Ask)
      (r : Result Answer Errno) (last next : State) → (o : OneHistory a turn home cell views)
      → p.holding ≡ Some log → p.serving ≡ Some (service lane m ask) → IsLegal a log last
      → Step last (event_of lane m ask r) next → OneHistory a turn home (celled cell lane (Answered m ask r))
      (set views id (one a (answered p log (event_of lane m ask r))))
  answers {turn} {cell = cell} log lane m ask r last next o held serves legal does =
      let k = own id at o in let c : Cell = Answered m ask r in
      let c' : ℕ → Cell = celled cell lane c in let t = k.holding log held in let out : turn ≡ 1 = t.out in
      let e : Event = event_of lane m ask r in let q : Part = answered p log e in
      let s : Shared = shares o in
      let s' : Shared = record {
        witness = record o.witness { log = log ++ e ∷ []; last = next; serving = None };
        turn = turn;
        cell = c';
      } in
      let all : log ≡ o.log = t.whole in
      let here : o.serving ≡ Some (service lane m ask) = sym t.same_service ∙ serves in
      let was : cell lane ≡ Serving m ask = o.served (service lane m ask) here in
      let go : (x : Part) → Fits o.log x (cell x.lane) → Fits (log ++ e ∷ []) x (c' x.lane) = λ x f.
      dite (ℕ_discrete x.lane lane)
      (λ same. let g : Fits o.log x (Serving m ask) = subst (Fits o.log x) (ap cell same ∙ was) f in
      let now : Fits (log ++ e ∷ []) x (Answered m ask r) = (
        g.0,
        g.1,
        ap (λ l. events_of x.lane (l ++ e ∷ [])) all
            ∙ (own_event x.lane o.log e (sym same) ∙ (λ i. g.2 i ++ event_of (sym same i) m ask r ∷ [])),
        (
          g.4.0,
          [],
          ap (λ l. l ++ e ∷ []) (all ∙ sym g.4.1) ∙ (λ i. (g.0 ++ g.4.0) ++ event_of (sym same i) m ask r ∷ []),
        ),
      ) in
      subst (Fits (log ++ e ∷ []) x) (sym (ap c' same ∙ celled_here cell lane c)) now)
      (λ not. subst (Fits (log ++ e ∷ []) x) (sym (celled_else cell lane x.lane c not))
      (subst (λ l. Fits (l ++ e ∷ []) x (cell x.lane)) (sym all)
      (fits_more o.log e x (λ same. not (sym same)) (cell x.lane) f))) in one_history record {
        witness = record o.witness { log = log ++ e ∷ []; last = next; serving = None };
        store = record {
          legal = legal_more a last next log e legal does;
          at_home = λ n. absurd (n out);
          away = o.away;
        };
        words = record {
          word = o.word;
          young = λ n. absurd (let no : 1 ≡ 2 = sym out ∙ n in omega arith);
          unserved = λ _. refl;
        };
        cells = record {
          undealt = λ l le. let u = o.undealt l le in
              let apart : l ≢ lane = λ same. absurd (let no : Serving m ask ≡ Empty = sym was ∙
              (ap cell (sym same) ∙ u.0) in
              cc) in (
                celled_else cell lane l c apart ∙ u.0,
                other_event l log e (λ is. apart (sym is)) ∙ (ap (events_of l) all ∙ u.1),
              );
          serves = λ l m' a' is. dite (ℕ_discrete l lane)
              (λ (same : l ≡ lane). let no : Answered m ask r ≡ Serving m' a' = sym (celled_here cell lane c)
              ∙ (ap c' (sym same) ∙ is) in absurd cc)
              (λ not. let x = o.serves l m' a' (sym (celled_else cell lane l c not) ∙ is) in
              let both : service l m' a' ≡ service lane m ask = cc in absurd (not (ap (λ z. z.lane) both)));
          served = λ x is. absurd cc;
        };
        seats = record {
          held = λ _. (
            one a q,
            ap (get_elem? (set views id (one a q))) (sym t.here) ∙ set_at views id (one a q) (one a p) at,
            refl,
          );
          longest = λ n. absurd (n out);
          opener = λ n. absurd (let no : 1 ≡ 2 = sym out ∙ n in omega arith);
          seated = seats_stay id at o q refl;
          openings = views_open id at o (One q);
          each = each_set (λ j v. Stands s' j v.stands) views id (one a q) (known_is k.at k.given
              (subst (λ l. Begins p.seen (l ++ e ∷ [])) (sym all) (prefix_more p.seen o.log (e ∷ []) k.seen))
              (subst (λ l. Begins p.base (l ++ e ∷ [])) (sym all) (prefix_more p.base o.log (e ∷ []) k.base)) k.calls
              (dite (ℕ_discrete p.lane lane) (λ same. let f : Fits (log ++ e ∷ []) p (Answered m ask r) =
              subst (Fits (log ++ e ∷ []) p) (ap c' same ∙ celled_here cell lane c) (go p k.fits) in
              subst (Fits (log ++ e ∷ []) q) (sym (ap c' same ∙ celled_here cell lane c)) (f.0, f.1, f.2, f.3))
              (λ not. fits_same (log ++ e ∷ []) p q refl refl refl
              (ap (λ b. cond b true p.done) (ne_eqb lane p.lane (λ same. not (sym same)))) (c' p.lane) (go p k.fits)))
              (λ l is. record { out = out; here = t.here; whole = cc; same_service = refl }) (λ _. refl))
              (λ j v not at'. others_stand s s' j (λ x h. known_is h.at h.given
              (subst (λ l. Begins x.seen (l ++ e ∷ [])) (sym all) (prefix_more x.seen o.log (e ∷ []) h.seen))
              (subst (λ l. Begins x.base (l ++ e ∷ [])) (sym all) (prefix_more x.base o.log (e ∷ []) h.base))
              h.calls (go x h.fits) (λ l is. let u = h.holding l is in absurd (not (u.here ∙ sym t.here))) h.unheld)
              (λ two _. absurd (let no : 1 ≡ 2 = sym out ∙ two in omega arith)) v.stands (o.each j v at'));
        };
      }

  -- the holder finds a cell that isn't posted; its own call is done where it is its own cell, and answered
  pub looks_at : {turn : ℕ} {home : Option State} {cell : ℕ → Cell} (lane : ℕ) (finished : Bool)
      → (o : OneHistory a turn home cell views)
      → (finished ≡ true → (m : ℕ) × (ask : Ask) × (r : Result Answer Errno) × (cell p.lane ≡ Answered m ask r))
      → OneHistory a turn home cell (set views id (one a (looked_at p lane finished)))
  looks_at {cell = cell} lane finished o is = let k = own id at o in
      stays id at o (looked_at p lane finished) refl refl (λ e. e) (known_is k.at k.given
      k.seen k.base k.calls (looked_fits p o.log lane (cell p.lane) finished is k.fits)
      (λ l is. let h = k.holding l is in holds_is h.out h.here h.whole h.same_service) k.unheld)

  -- the holder's own call, if it has one, is posted or answered
  pub own_cell : {turn : ℕ} {home : Option State} {cell : ℕ → Cell} (log : List Event)
      (o : OneHistory a turn home cell views) → p.holding ≡ Some log → p.serving ≡ None → p.flight ≢ None → (c : Cell)
      → cell p.lane ≡ c → ((m : ℕ) × (ask : Ask) × (c ≡ Posted m ask))
      ⊎ ((m : ℕ) × (ask : Ask) × (r : Result Answer Errno) × (c ≡ Answered m ask r))
  own_cell log o held idle has Empty is = let k = own id at o in
      let f : Fits o.log p Empty = subst (Fits o.log p) is k.fits in absurd (has f.0)
  own_cell log o held idle has (Posted m ask) is = inl (m, ask, refl)
  own_cell log o held idle has (Serving m ask) is = let k = own id at o in
      let t = k.holding log held in
      let no : Some (service p.lane m ask) ≡ None = sym (o.serves p.lane m ask is) ∙ (sym t.same_service ∙ idle) in
      absurd cc
  own_cell log o held idle has (Answered m ask r) is = inr (m, ask, r, refl)
