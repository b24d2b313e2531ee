-- Each step keeps the one history.
use Rattle.std.proofs.Common.{[], ◌++◌, ◌<◌, ◌∙◌, ◌∷◌, ◌≡◌, ◌≢◌, ◌⊎◌, ap, arith, inr, List, None, Option, refl, set}
use Rattle.std.proofs.Common.{Some, subst, sym, ℕ}
use lib.ListN.{get_elem?}
use mathlib.Core.Option.{some}
use Rattle.krs_types.specs.declared.event.Event.{Event}
use Rattle.krs_model.specs.{History.IsLegal, Lists.Begins, State.State, Step.Step}
use Rattle.krs_model.proofs.History.Legal.{legal_more}
use Rattle.krs_world.specs.History.{Fits, IsSeated, Known, OneHistory, Shared, Stands}
use Rattle.krs_world.specs.Knowing.{events_of, kept, loaded, missed, one, put_none, put_own, taken, view}
use Rattle.krs_world.specs.declared.view.Cell.{Cell, TheVariants.Empty}
use Rattle.krs_world.specs.declared.view.{Part.Part, Standing.{Standing, TheVariants.{One, Spent}}, View.View}
pub use Rattle.krs_world.proofs.Lanes.{prefix_self, prefix_more, prefix_trans, prefix_both, events_prefix, own_event}
pub use Rattle.krs_world.proofs.Lanes.{other_event, at_set, set_at, set_else, snoc_at, snoc_end, at_snoc, seen_set}
pub use Rattle.krs_world.proofs.Lanes.{held_set, seen_snoc, held_snoc, each_set, shares, others_stand, celled_here}
pub use Rattle.krs_world.proofs.Lanes.{celled_else, fits_more, fits_same, empty_if_idle, idle_mine, holds_is, known_is}
pub use Rattle.krs_world.proofs.Lanes.{known_of, one_history, sits_of}
use Rattle.krs_world.proofs.Places.{seated_set, dealing_set}

-- Steps of one lane's seat.

module _ {a : State} {views : List View} (id : ℕ) {p : Part} (at : get_elem? views id ≡ some (one a p)) where
  pub own : {turn : ℕ} {home : Option State} {cell : ℕ → Cell} (o : OneHistory a turn home cell views)
      → Known (shares o) id p
  own o = o.each id (one a p) at

  pub views_open : {turn : ℕ} {home : Option State} {cell : ℕ → Cell} → OneHistory a turn home cell views
      → (st : Standing) → (j : ℕ) (v : View) → get_elem? (set views id (view a st)) j ≡ some v → (v.stands ≡ Spent)
      ⊎ (v.opening ≡ a)
  views_open o st = each_set (λ j v. (v.stands ≡ Spent) ⊎ (v.opening ≡ a)) views id (view a st)
      (inr refl) (λ j v _ e. o.openings j v e)

  -- each lane has its seat as before, where this one is its lane's still
  pub seats_stay : {turn : ℕ} {home : Option State} {cell : ℕ → Cell} (o : OneHistory a turn home cell views) (q : Part)
      → q.lane ≡ p.lane → (lane : ℕ) → lane < o.dealt → IsSeated lane (o.seat lane) (set views id (one a q))
  seats_stay o q same lane lt = seated_set lane (o.seat lane) views id (one a p) (one a q) at
      (λ is. same ∙ is) (o.seated lane lt)

  -- the turn was free, and is had
  pub takes : {home : Option State} {cell : ℕ → Cell} (o : OneHistory a 0 home cell views) → p.holding ≡ None
      → OneHistory a 1 None cell (set views id (one a (taken p o.log)))
  takes {cell = cell} o none = let k = own o in let s : Shared = shares o in
      let s' : Shared = record { witness = record o.witness { holder = id }; turn = 1; cell = cell } in
      let quiet : o.serving ≡ None = o.unserved (λ e. omega arith) in one_history record {
        witness = record o.witness { holder = id };
        store = record {
          legal = o.legal;
          at_home = λ n. absurd (n refl);
          away = λ _. refl;
        };
        words = record {
          word = omega arith;
          young = λ n. absurd (omega arith);
          unserved = λ n. absurd (n refl);
        };
        cells = o.cells;
        seats = record {
          held = λ _. (one a (taken p o.log), set_at views id (one a (taken p o.log)) (one a p) at, refl);
          longest = λ n. absurd (n refl);
          opener = λ n. absurd (omega arith);
          seated = seats_stay o (taken p o.log) refl;
          openings = views_open o (One (taken p o.log));
          each = each_set (λ j v. Stands s' j v.stands) views id (one a (taken p o.log))
              (known_is k.at k.given k.seen (prefix_self o.log) k.calls
              (fits_same o.log p (taken p o.log) refl refl refl refl (cell p.lane) k.fits)
              (λ l e. record { out = refl; here = refl; whole = cc; same_service = k.unheld none ∙ sym quiet })
              (λ e. k.unheld none)) (λ j v not e. others_stand s s' j
              (λ q h. known_is h.at h.given h.seen h.base h.calls h.fits
              (λ l is. let t : 0 ≡ 1 = (h.holding l is).out in absurd (omega arith)) h.unheld)
              (λ (t : 0 ≡ 2). absurd (omega arith)) v.stands (o.each j v e));
        };
      }

  -- a step that changes no word and no list
  pub stays : {turn : ℕ} {home : Option State} {cell : ℕ → Cell} (o : OneHistory a turn home cell views) (q : Part)
      → q.lane ≡ p.lane → q.holding ≡ p.holding → (p.seen ≡ o.log → q.seen ≡ o.log) → Known (shares o) id q
      → OneHistory a turn home cell (set views id (one a q))
  stays o q same holds sees k = one_history record {
    witness = o.witness;
    store = o.store;
    words = o.words;
    cells = o.cells;
    seats = record {
      held = λ n. held_set o.log o.holder views id (one a p) (one a q) at (λ h. holds ∙ h) (o.held n);
      longest = λ n. seen_set o.log views id (one a p) (one a q) at sees (o.longest n);
      opener = λ n. dealing_set o.dealt o.holder views id (one a p) (one a q) at (λ is. absurd cc) (o.opener n);
      seated = seats_stay o q same;
      openings = views_open o (One q);
      each = each_set (λ j v. Stands (shares o) j v.stands) views id (one a q) k (λ j v _ e. o.each j v e);
    };
  }

  pub misses : {turn : ℕ} {home : Option State} {cell : ℕ → Cell} (o : OneHistory a turn home cell views)
      → OneHistory a turn home cell (set views id (one a (missed p)))
  misses {cell = cell} o = let k = own o in
      stays o (missed p) refl refl (λ e. e) (known_is k.at k.given k.seen k.base k.calls
      (fits_same o.log p (missed p) refl refl refl refl (cell p.lane) k.fits)
      (λ l is. let h = k.holding l is in holds_is h.out h.here h.whole h.same_service) k.unheld)

  -- the seat sees more of the list
  pub loads : {turn : ℕ} {home : Option State} {cell : ℕ → Cell} (l : List Event)
      (o : OneHistory a turn home cell views) → Begins p.seen l → Begins l o.log
      → OneHistory a turn home cell (set views id (one a (loaded p l)))
  loads {cell = cell} l o more begins = let k = own o in
      stays o (loaded p l) refl refl
      (λ e. prefix_both l o.log begins (subst (λ (x : List Event). Begins x l) e more)) (known_is k.at k.given begins
      k.base (prefix_trans p.mine (events_of p.lane p.seen) (events_of p.lane l) k.calls (events_prefix p.lane
      p.seen l more)) (fits_same o.log p (loaded p l) refl refl refl refl (cell p.lane) k.fits)
      (λ x is. let h = k.holding x is in holds_is h.out h.here h.whole h.same_service) k.unheld)

  -- the holder adds the event of its own call to the list, and brings the store home
  pub puts : {turn : ℕ} {home : Option State} {cell : ℕ → Cell} (log : List Event) (e : Event) (last next : State)
      → (o : OneHistory a turn home cell views) → p.holding ≡ Some log → p.serving ≡ None → p.flight ≡ None
      → IsLegal a log last → Step last e next → e.lane ≡ p.lane → (turn ≡ 1)
      × OneHistory a 0 (Some next) cell (set views id (one a (put_own p log e)))
  puts {turn} {cell = cell} log e last next o held idle quiet legal step lane = let k = own o in
      let s : Shared = shares o in
      let s' : Shared = record {
        witness = record o.witness { log = log ++ e ∷ []; last = next };
        turn = 0;
        cell = cell;
      } in
      let t = k.holding log held in let all : log ≡ o.log = t.whole in let out : turn ≡ 1 = t.out in
      let w : View = one a (put_own p log e) in let none : o.serving ≡ None = sym t.same_service ∙ idle in
      let empty : cell p.lane ≡ Empty = empty_if_idle p o.log (cell p.lane) quiet k.fits in
      let fits : Fits o.log p Empty = subst (Fits o.log p) empty k.fits in
      let mine : events_of p.lane (log ++ e ∷ []) ≡ p.mine ++ e ∷ [] = own_event p.lane log e lane
      ∙ ap (λ l. l ++ e ∷ []) (ap (events_of p.lane) all ∙ fits.1) in
      let more : (q : Part) → q.lane ≢ p.lane → Fits o.log q (cell q.lane) → Fits (log ++ e ∷ []) q (cell q.lane) =
      λ q other f.
      subst (λ l. Fits (l ++ e ∷ []) q (cell q.lane)) (sym all) (fits_more o.log e q (λ same. other (sym same ∙ lane))
      (cell q.lane) f) in (
        out,
        one_history record {
          witness = record o.witness { log = log ++ e ∷ []; last = next };
          store = record {
            legal = legal_more a last next log e legal step;
            at_home = λ _. refl;
            away = λ n. absurd (omega arith);
          };
          words = record {
            word = omega arith;
            young = λ n. absurd (omega arith);
            unserved = λ _. none;
          };
          cells = record {
            undealt = λ l le. let u = o.undealt l le in let g : p.lane < o.dealt = k.given in (
              u.0,
              other_event l log e (λ is. let same : p.lane ≡ l = sym lane ∙ is in omega arith)
                  ∙ (ap (events_of l) all ∙ u.1),
            );
            serves = o.serves;
            served = o.served;
          };
          seats = record {
            held = λ n. absurd (omega arith);
            longest = λ n. inr (id, w, set_at views id w (one a p) at, refl);
            opener = λ n. absurd (omega arith);
            seated = seats_stay o (put_own p log e) refl;
            openings = views_open o (One (put_own p log e));
            each = each_set (λ j v. Stands s' j v.stands) views id w
                (known_is k.at k.given (prefix_self (log ++ e ∷ []))
                (subst (λ l. Begins p.base (l ++ e ∷ [])) (sym all) (prefix_more p.base o.log (e ∷ []) k.base))
                (subst (Begins (p.mine ++ e ∷ [])) (sym mine) (prefix_self (p.mine ++ e ∷ [])))
                (subst (Fits (log ++ e ∷ []) (put_own p log e)) (sym empty) (quiet, mine, fits.2)) (λ l is. absurd cc)
                (λ _. idle)) (λ j v not at'. others_stand s s' j (λ q h. known_is h.at h.given
                (subst (λ l. Begins q.seen (l ++ e ∷ [])) (sym all) (prefix_more q.seen o.log (e ∷ []) h.seen))
                (subst (λ l. Begins q.base (l ++ e ∷ [])) (sym all) (prefix_more q.base o.log (e ∷ []) h.base))
                h.calls (more q (λ same. not (sym h.at ∙ (ap o.seat same ∙ k.at))) h.fits)
                (λ l is. let u = h.holding l is in absurd (not (u.here ∙ sym t.here))) h.unheld)
                (λ two is. absurd (let n : 1 ≡ 2 = sym out ∙ two in omega arith)) v.stands (o.each j v at'));
          };
        },
      )

  -- the holder adds the event of its own call to the list, and keeps the turn
  pub keeps : {turn : ℕ} {home : Option State} {cell : ℕ → Cell} (log : List Event) (e : Event) (last next : State)
      → (o : OneHistory a turn home cell views) → p.holding ≡ Some log → p.serving ≡ None → p.flight ≡ None
      → IsLegal a log last → Step last e next → e.lane ≡ p.lane
      → OneHistory a turn home cell (set views id (one a (kept p log e)))
  keeps {turn} {cell = cell} log e last next o held idle quiet legal step lane = let k = own o in
      let s : Shared = shares o in
      let s' : Shared = record s { witness = record o.witness { log = log ++ e ∷ []; last = next } } in
      let t = k.holding log held in let all : log ≡ o.log = t.whole in let out : turn ≡ 1 = t.out in
      let q : Part = kept p log e in let w : View = one a q in
      let empty : cell p.lane ≡ Empty = empty_if_idle p o.log (cell p.lane) quiet k.fits in
      let fits : Fits o.log p Empty = subst (Fits o.log p) empty k.fits in
      let mine : events_of p.lane (log ++ e ∷ []) ≡ p.mine ++ e ∷ [] = own_event p.lane log e lane
      ∙ ap (λ l. l ++ e ∷ []) (ap (events_of p.lane) all ∙ fits.1) in
      let more : (x : Part) → x.lane ≢ p.lane → Fits o.log x (cell x.lane) → Fits (log ++ e ∷ []) x (cell x.lane) =
      λ x other f.
      subst (λ l. Fits (l ++ e ∷ []) x (cell x.lane)) (sym all) (fits_more o.log e x (λ same. other (sym same ∙ lane))
      (cell x.lane) f) in one_history record {
        witness = record o.witness { log = log ++ e ∷ []; last = next };
        store = record {
          legal = legal_more a last next log e legal step;
          at_home = λ n. absurd (n out);
          away = o.away;
        };
        words = record {
          word = o.word;
          young = λ n. absurd (let no : 1 ≡ 2 = sym out ∙ n in omega arith);
          unserved = λ n. absurd (n out);
        };
        cells = record {
          undealt = λ l le. let u = o.undealt l le in let g : p.lane < o.dealt = k.given in (
            u.0,
            other_event l log e (λ is. let same : p.lane ≡ l = sym lane ∙ is in omega arith)
                ∙ (ap (events_of l) all ∙ u.1),
          );
          serves = o.serves;
          served = o.served;
        };
        seats = record {
          held = λ _. (w, ap (get_elem? (set views id w)) (sym t.here) ∙ set_at views id w (one a p) at, refl);
          longest = λ n. absurd (n out);
          opener = λ n. absurd (let no : 1 ≡ 2 = sym out ∙ n in omega arith);
          seated = seats_stay o q refl;
          openings = views_open o (One q);
          each = each_set (λ j v. Stands s' j v.stands) views id w (known_is k.at k.given (prefix_self (log ++ e ∷ []))
              (subst (λ l. Begins p.base (l ++ e ∷ [])) (sym all) (prefix_more p.base o.log (e ∷ []) k.base))
              (subst (Begins (p.mine ++ e ∷ [])) (sym mine) (prefix_self (p.mine ++ e ∷ [])))
              (subst (Fits (log ++ e ∷ []) q) (sym empty) (quiet, mine, fits.2))
              (λ l is. record { out = out; here = t.here; whole = cc; same_service = t.same_service })
              (λ no. absurd cc))
              (λ j v not at'. others_stand s s' j (λ x h. known_is h.at h.given
              (subst (λ l. Begins x.seen (l ++ e ∷ [])) (sym all) (prefix_more x.seen o.log (e ∷ []) h.seen))
              (subst (λ l. Begins x.base (l ++ e ∷ [])) (sym all) (prefix_more x.base o.log (e ∷ []) h.base))
              h.calls (more x (λ same. not (sym h.at ∙ (ap o.seat same ∙ k.at))) h.fits)
              (λ l is. let u = h.holding l is in absurd (not (u.here ∙ sym t.here))) h.unheld)
              (λ two is. absurd (let n : 1 ≡ 2 = sym out ∙ two in omega arith)) v.stands (o.each j v at'));
        };
      }

  -- the holder brings the store home, with no call of its own
  pub puts_none : {turn : ℕ} {home : Option State} {cell : ℕ → Cell} (log : List Event) (last : State)
      (o : OneHistory a turn home cell views) → p.holding ≡ Some log → p.serving ≡ None → IsLegal a log last
      → (turn ≡ 1) × OneHistory a 0 (Some last) cell (set views id (one a (put_none p log)))
  puts_none {turn} {cell = cell} log last o held idle legal = let k = own o in let t = k.holding log held in
      let s : Shared = shares o in
      let s' : Shared = record { witness = record o.witness { last = last }; turn = 0; cell = cell } in
      let all : log ≡ o.log = t.whole in let out : turn ≡ 1 = t.out in let w : View = one a (put_none p log) in (
        out,
        one_history record {
          witness = record o.witness { last = last };
          store = record {
            legal = subst (λ l. IsLegal a l last) all legal;
            at_home = λ _. refl;
            away = λ n. absurd (omega arith);
          };
          words = record {
            word = omega arith;
            young = λ n. absurd (omega arith);
            unserved = λ _. sym t.same_service ∙ idle;
          };
          cells = o.cells;
          seats = record {
            held = λ n. absurd (omega arith);
            longest = λ n. inr (id, w, set_at views id w (one a p) at, all);
            opener = λ n. absurd (omega arith);
            seated = seats_stay o (put_none p log) refl;
            openings = views_open o (One (put_none p log));
            each = each_set (λ j v. Stands s' j v.stands) views id w
                (known_is k.at k.given (subst (λ l. Begins l o.log) (sym all) (prefix_self o.log)) k.base (prefix_trans
                p.mine (events_of p.lane p.seen) (events_of p.lane log) k.calls (events_prefix p.lane p.seen log (subst
                (Begins p.seen) (sym all) k.seen)))
                (fits_same o.log p (put_none p log) refl refl refl refl (cell p.lane) k.fits) (λ l is. absurd cc)
                (λ _. idle)) (λ j v not e. others_stand s s' j
                (λ q h. known_is h.at h.given h.seen h.base h.calls h.fits
                (λ l is. let u = h.holding l is in absurd (not (u.here ∙ sym t.here))) h.unheld)
                (λ two is. absurd (let n : 1 ≡ 2 = sym out ∙ two in omega arith)) v.stands (o.each j v e));
          };
        },
      )
