-- Joining two seats and splitting them again keeps the one history.
use Rattle.std.proofs.Common.{[], ⊎_elim, ◌++◌, ◌∙◌, ◌∷◌, ◌≡◌, ◌≢◌, ◌⊎◌, ap, inl, inr, length, length-set, List, None}
use Rattle.std.proofs.Common.{arith, Option, refl, set, Some, subst, sym, ℕ}
use lib.ListN.{get_elem?}
use mathlib.Core.{Logic.dite, Option.{some, some-injective}}
use native.Mathlib.Decide.{ℕ_discrete}
use Rattle.krs_types.specs.declared.event.Event.{Event}
use Rattle.krs_model.specs.State.{State}
use Rattle.krs_world.specs.History.{HasSeen, Holds, IsSeen, Known, OneHistory, Shared, Stands, StandsFor}
use Rattle.krs_world.specs.Knowing.{events_of, loaded, one, view}
use Rattle.krs_world.specs.declared.view.{Cell.Cell, Part.Part, Standing.TheVariants.{Spent, Two}, View.View}
use Rattle.krs_world.proofs.Keeping.{at_snoc, each_set, events_prefix, fits_same, held_set, held_snoc, others_stand}
use Rattle.krs_world.proofs.Keeping.{holds_is, known_is, prefix_self, prefix_trans, set_at, set_else, shares, snoc_at}
use Rattle.krs_world.proofs.Keeping.{one_history, snoc_end}
use Rattle.krs_world.proofs.Places.{dealing_set, dealing_snoc, seated, seated_else, seated_here, seated_set}
use Rattle.krs_world.proofs.Places.{seated_snoc, seats_again}
use Rattle.std.proofs.lemmas.Grind.{common_steps}

pub each_snoc : (S : ℕ → View → Type 0) (views : List View) (n : ℕ) (w : View) → length views ≡ n → S n w
    → ((j : ℕ) (v : View) → get_elem? views j ≡ some v → S j v)
    → (j : ℕ) (v : View) → get_elem? (views ++ w ∷ []) j ≡ some v → S j v
each_snoc S views n w len last others j v e = grind (arith, common_steps, ⊎_elim, at_snoc)

-- another seat for a lane
pub reseat : (s : Shared) (seat : ℕ → ℕ) (j j' : ℕ) (p : Part) → Known s j p → seat p.lane ≡ j'
    → ((l : List Event) → p.holding ≡ Some l → Holds s j' p l)
    → Known (record s { witness = record s.witness { seat = seat } }) j' p
reseat s seat j j' p k at holds = grind (arith, common_steps, known_is, holds_is)

-- the longest list that is seen, where one seat takes in the lane of another
seen_join : (log : List Event) (a b : State) (views : List View) (id other : ℕ) (p q : Part)
    → get_elem? views id ≡ some (one a p) → other ≢ id → get_elem? views other ≡ some (one a q)
    → IsSeen log views → IsSeen log (set (set views id (view a (Two p q))) other (view b Spent))
seen_join log a b views id other p q at apart there s = let both : View = view a (Two p q) in
    let spent : View = view b Spent in
    let here : get_elem? (set (set views id both) other spent) id ≡ some both =
    set_else (set views id both) other id spent (λ e. apart (sym e)) ∙ set_at views id both (one a p) at in
    ⊎_elim inl (λ (t : (j : ℕ) × (x : View) × (get_elem? views j ≡ some x) × HasSeen log x.stands). inr
    (dite (ℕ_discrete t.0 id) (λ same. (
      id,
      both,
      here,
      inl (subst (λ (x : View). HasSeen log x.stands) (some-injective t.1 (one a p) (sym t.2
          ∙ (ap (get_elem? views) same ∙ at))) t.3),
    )) (λ not. dite (ℕ_discrete t.0 other) (λ same. (
      id,
      both,
      here,
      inr (subst (λ (x : View). HasSeen log x.stands) (some-injective t.1 (one a q) (sym t.2
          ∙ (ap (get_elem? views) same ∙ there))) t.3),
    )) (λ away. (
      t.0,
      t.1,
      set_else (set views id both) other t.0 spent away ∙ (set_else views id t.0 both not ∙ t.2),
      t.3,
    ))))) s

-- one seat stands for the lanes of two
pub joins : {a : State} (b : State) {turn : ℕ} {home : Option State} {cell : ℕ → Cell} {views : List View}
    (id other : ℕ)
    {p q : Part} → OneHistory a turn home cell views → get_elem? views id ≡ some (one a p) → other ≢ id
    → get_elem? (set views id (view a (Two p q))) other ≡ some (one a q) → p.holding ≡ None → q.holding ≡ None
    → OneHistory a turn home cell (set (set views id (view a (Two p q))) other (view b Spent))
joins {a} b {views = views} id other {p} {q} o at apart at' np nq =
    let there : get_elem? views other ≡ some (one a q) = sym (set_else views id other (view a (Two p q)) apart) ∙ at' in
    let k = o.each id (one a p) at in let h = o.each other (one a q) there in let both : View = view a (Two p q) in
    let spent : View = view b Spent in
    let differ : p.lane ≢ q.lane = λ e. apart (sym h.at ∙ (ap o.seat (sym e) ∙ k.at)) in
    let seat' : ℕ → ℕ = seated o.seat q.lane id in let s : Shared = shares o in
    let s' : Shared = record s { witness = record o.witness { seat = seat' } } in one_history record {
      witness = record o.witness { seat = seat' };
      store = o.store;
      words = o.words;
      cells = o.cells;
      seats = record {
        held = λ n. held_set o.log o.holder (set views id both) other (one a q) spent at'
            (λ t. absurd (let no : q.holding ≡ Some o.log = t in let none : Some o.log ≡ None = sym no ∙ nq in cc))
            (held_set o.log o.holder views id (one a p) both at (λ t. absurd (let no : p.holding ≡ Some o.log = t in
            let none : Some o.log ≡ None = sym no ∙ np in cc)) (o.held n));
        longest = λ n. seen_join o.log a b views id other p q at apart there (o.longest n);
        opener = λ n. dealing_set o.dealt o.holder (set views id both) other (one a q) spent at' (λ is. absurd cc)
            (dealing_set o.dealt o.holder views id (one a p) both at (λ is. absurd cc) (o.opener n));
        seated = λ l lt. seats_again o.seat q.lane id l (set (set views id both) other spent) (λ _. (
          both,
          set_else (set views id both) other id spent (λ e. apart (sym e)) ∙ set_at views id both (one a p) at,
          inr refl,
        )) (λ not. seated_set l (o.seat l) (set views id both) other (one a q) spent at' (λ is. not (sym is))
            (seated_set l (o.seat l) views id (one a p) both at (λ is. inl is) (o.seated l lt)));
        openings = each_set (λ j w. (w.stands ≡ Spent) ⊎ (w.opening ≡ a)) (set views id both) other spent (inl refl)
            (λ j w _ e. each_set (λ j w. (w.stands ≡ Spent) ⊎ (w.opening ≡ a)) views id both (inr refl)
            (λ j w _ e. o.openings j w e) j w e);
        each = each_set (λ j w. Stands s' j w.stands) (set views id both) other spent tt
            (λ j w not e. each_set (λ j w. j ≢ other → Stands s' j w.stands) views id both (λ _. (
              reseat s seat' id id p k (seated_else o.seat q.lane id p.lane differ ∙ k.at) (λ l is. absurd cc),
              reseat s seat' other id q h (seated_here o.seat q.lane id) (λ l is. absurd cc),
              differ,
              np,
              nq,
            )) (λ j w _ e away. others_stand s s' j (λ r g. reseat s seat' j j r g
            (seated_else o.seat q.lane id r.lane (λ same. away (sym g.at ∙ (ap o.seat same ∙ h.at))) ∙ g.at) g.holding)
            (λ t is. (t, is, refl)) w.stands (o.each j w e)) j w e not);
      };
    }

-- what a lane knows once it has seen the whole list
sees : (s : Shared) (j : ℕ) (p : Part) → Known s j p → Known s j (loaded p s.log)
sees s j p k = known_is k.at k.given (prefix_self s.log) k.base (prefix_trans p.mine (events_of p.lane p.seen)
    (events_of p.lane s.log) k.calls (events_prefix p.lane p.seen s.log k.seen))
    (fits_same s.log p (loaded p s.log) refl refl refl refl (s.cell p.lane) k.fits)
    (λ l is. let h = k.holding l is in holds_is h.out h.here h.whole h.same_service) k.unheld

-- a seat of two lanes sees the list so far
pub looks : {a : State} {turn : ℕ} {home : Option State} {cell : ℕ → Cell} {views : List View} (id : ℕ) {p q : Part}
    (o : OneHistory a turn home cell views) → get_elem? views id ≡ some (view a (Two p q))
    → OneHistory a turn home cell (set views id (view a (Two (loaded p o.log) (loaded q o.log))))
looks {a} {views = views} id {p} {q} o at = let k = o.each id (view a (Two p q)) at in
    let s : Shared = shares o in
    let w : View = view a (Two (loaded p o.log) (loaded q o.log)) in one_history record {
      witness = o.witness;
      store = o.store;
      words = o.words;
      cells = o.cells;
      seats = record {
        held = λ n. held_set o.log o.holder views id (view a (Two p q)) w at (λ t. t) (o.held n);
        longest = λ _. inr (id, w, set_at views id w (view a (Two p q)) at, inl refl);
        opener = λ n. dealing_set o.dealt o.holder views id (view a (Two p q)) w at (λ is. absurd cc) (o.opener n);
        seated = λ l lt. seated_set l (o.seat l) views id (view a (Two p q)) w at (λ t. t) (o.seated l lt);
        openings = each_set (λ j v. (v.stands ≡ Spent) ⊎ (v.opening ≡ a)) views id w (inr refl)
            (λ j v _ e. o.openings j v e);
        each = each_set (λ j v. Stands s j v.stands) views id w (
          sees s id p k.0,
          sees s id q k.1,
          k.2,
          k.3,
          k.4,
        ) (λ j v _ e. o.each j v e);
      };
    }

-- the longest list that is seen, where a seat of two lanes is split
seen_part : (log : List Event) (a : State) (views : List View) (id : ℕ) (p q : Part)
    → get_elem? views id ≡ some (view a (Two p q)) → IsSeen log views
    → IsSeen log (set views id (one a p) ++ one a q ∷ [])
seen_part log a views id p q at s = let w : View = one a p in let l : List View = set views id w in
    ⊎_elim inl (λ (t : (j : ℕ) × (x : View) × (get_elem? views j ≡ some x) × HasSeen log x.stands). inr
    (dite (ℕ_discrete t.0 id) (λ same. let e : t.1 ≡ view a (Two p q) = some-injective t.1 (view a (Two p q)) (sym t.2
    ∙ (ap (get_elem? views) same ∙ at)) in
    let two : HasSeen log (Two p q) = subst (λ (x : View). HasSeen log x.stands) e t.3 in
    ⊎_elim (λ (f : p.seen ≡ log). (id, w, snoc_at l id (one a q) w (set_at views id w (view a (Two p q)) at), f))
    (λ (f : q.seen ≡ log). (length l, one a q, snoc_end l (one a q), f)) two)
    (λ not. (t.0, t.1, snoc_at l t.0 (one a q) t.1 (set_else views id t.0 w not ∙ t.2), t.3)))) s

-- a seat of two lanes is split again
pub parts : {a : State} {turn : ℕ} {home : Option State} {cell : ℕ → Cell} {views : List View} (id : ℕ) {p q : Part}
    → OneHistory a turn home cell views → get_elem? views id ≡ some (view a (Two p q))
    → OneHistory a turn home cell (set views id (one a p) ++ one a q ∷ [])
parts {a} {views = views} id {p} {q} o at = let k = o.each id (view a (Two p q)) at in let N : ℕ = length views in
    let seat' : ℕ → ℕ = seated o.seat q.lane N in let s : Shared = shares o in
    let s' : Shared = record s { witness = record o.witness { seat = seat' } } in let len : length
    (set views id (one a p)) ≡ N =
    length-set views id (one a p) in one_history record {
      witness = record o.witness { seat = seat' };
      store = o.store;
      words = o.words;
      cells = o.cells;
      seats = record {
        held = λ n. held_snoc o.log o.holder (set views id (one a p)) (one a q) (held_set o.log o.holder views id
            (view a (Two p q)) (one a p) at (λ t. absurd t) (o.held n));
        longest = λ n. seen_part o.log a views id p q at (o.longest n);
        opener = λ n. dealing_snoc o.dealt o.holder (set views id (one a p)) (one a q)
            (dealing_set o.dealt o.holder views id (view a (Two p q)) (one a p) at (λ is. absurd cc) (o.opener n));
        seated = λ l lt. seats_again o.seat q.lane N l (set views id (one a p) ++ one a q ∷ []) (λ _. (
          one a q,
          ap (get_elem? (set views id (one a p) ++ one a q ∷ [])) (sym len)
              ∙ snoc_end (set views id (one a p)) (one a q),
          refl,
        )) (λ not. seated_snoc l (o.seat l) (set views id (one a p)) (one a q) (seated_set l (o.seat l) views id
            (view a (Two p q)) (one a p) at (λ (t : StandsFor l (Two p q)). ⊎_elim (λ (e : p.lane ≡ l). e)
            (λ (e : q.lane ≡ l). absurd (not (sym e))) t) (o.seated l lt)));
        openings = each_snoc (λ j w. (w.stands ≡ Spent) ⊎ (w.opening ≡ a)) (set views id (one a p)) N (one a q) len
            (inr refl) (each_set (λ j w. (w.stands ≡ Spent) ⊎ (w.opening ≡ a)) views id (one a p) (inr refl)
            (λ j w _ e. o.openings j w e));
        each = each_snoc (λ j w. Stands s' j w.stands) (set views id (one a p)) N (one a q) len
            (reseat s seat' id N q k.1 (seated_here o.seat q.lane N) (λ l is. let none = k.4 in absurd cc))
            (each_set (λ j w. Stands s' j w.stands) views id (one a p) (reseat s seat' id id p k.0
            (seated_else o.seat q.lane N p.lane k.2 ∙ k.0.at) k.0.holding) (λ j w not e. others_stand s s' j
            (λ r g. reseat s seat' j j r g
            (seated_else o.seat q.lane N r.lane (λ same. not (sym g.at ∙ (ap o.seat same ∙ k.1.at))) ∙ g.at) g.holding)
            (λ t is. (t, is, refl)) w.stands (o.each j w e)));
      };
    }
