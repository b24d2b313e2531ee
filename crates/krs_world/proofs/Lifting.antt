-- A lane goes over from one seat to another that stands for none, and the one history stays.
use Rattle.std.proofs.Common.{[], ⊎_elim, ◌++◌, ◌<◌, ◌∙◌, ◌∷◌, ◌≡◌, ◌≢◌, ◌⊎◌, ap, arith, inl, inr, length, length-set}
use Rattle.std.proofs.Common.{List, None, Option, refl, set, Some, subst, suc, sym, zero, ℕ}
use Rattle.std.proofs.{Math.Seq.set-append_seam, lemmas.List.set-append_left}
use lib.ListN.{get_elem?}
use mathlib.Core.{Logic.dite, Option.{some, some-injective, some-ne-none}}
use native.Mathlib.Decide.{ℕ_discrete}
use Rattle.krs_types.specs.declared.event.Event.{Event}
use Rattle.krs_model.specs.State.{State}
use Rattle.krs_world.specs.History.{HasSeen, HasTurn, IsSeen, OneHistory, Shared, Stands, StandsFor}
use Rattle.krs_world.specs.Knowing.{one, view}
use Rattle.krs_world.specs.declared.view.{Cell.Cell, Part.Part, Standing.TheVariants.{Opening, Spent}, View.View}
use Rattle.krs_world.proofs.Joining.{reseat}
use Rattle.krs_world.proofs.Keeping.{each_set, held_set, one_history, others_stand, set_at, set_else, shares, snoc_at}
use Rattle.krs_world.proofs.Keeping.{snoc_end}
use Rattle.krs_world.proofs.Places.{dealing_set, seated, seated_else, seated_here, seated_set, seats_again}
use Rattle.krs_world.proofs.Seating.{spares}

-- the longest list that is seen, where a lane goes over
seen_moved : (log : List Event) (a b : State) (views : List View) (id other : ℕ) (q : Part) (x : View)
    → get_elem? views id ≡ some (one a q) → other ≢ id → get_elem? views other ≡ some x → x.stands ≡ Spent
    → IsSeen log views → IsSeen log (set (set views id (view b Spent)) other (one a q))
seen_moved log a b views id other q x at apart there spent s = let left : List View = set views id (view b Spent) in
    let is_there : get_elem? left other ≡ some x = set_else views id other (view b Spent) apart ∙ there in
    let here : get_elem? (set left other (one a q)) other ≡ some (one a q) = set_at left other (one a q) x is_there in
    ⊎_elim inl (λ (t : (j : ℕ) × (v : View) × (get_elem? views j ≡ some v) × HasSeen log v.stands). inr
    (dite (ℕ_discrete t.0 id) (λ same. (
      other,
      one a q,
      here,
      subst (λ (v : View). HasSeen log v.stands)
          (some-injective t.1 (one a q) (sym t.2 ∙ (ap (get_elem? views) same ∙ at))) t.3,
    )) (λ not. dite (ℕ_discrete t.0 other)
    (λ same. let e : t.1 ≡ x = some-injective t.1 x (sym t.2 ∙ (ap (get_elem? views) same ∙ there)) in
    absurd (subst (HasSeen log) spent (subst (λ (v : View). HasSeen log v.stands) e t.3)))
    (λ away. (
      t.0,
      t.1,
      set_else left other t.0 (one a q) away ∙
          (set_else views id t.0 (view b Spent) not ∙ t.2),
      t.3,
    ))))) s

-- the lane goes over: the one seat stands for none, and the other stands for it
pub moves : {a : State} (b : State) {turn : ℕ} {home : Option State} {cell : ℕ → Cell} {views : List View}
    (id other : ℕ) {q : Part} {x : View} → OneHistory a turn home cell views → get_elem? views id ≡ some (one a q)
    → other ≢ id
    → get_elem? views other ≡ some x → x.stands ≡ Spent → q.holding ≡ None
    → OneHistory a turn home cell (set (set views id (view b Spent)) other (one a q))
moves {a} b {views = views} id other {q} {x} o at apart there spent empty = let k = o.each id (one a q) at in
    let left : List View = set views id (view b Spent) in
    let is_there : get_elem? left other ≡ some x = set_else views id other (view b Spent) apart ∙ there in
    let seat' : ℕ → ℕ = seated o.seat q.lane other in let s : Shared = shares o in
    let s' : Shared = record s { witness = record o.witness { seat = seat' } } in one_history record {
      witness = record o.witness { seat = seat' };
      store = o.store;
      words = o.words;
      cells = o.cells;
      seats = record {
        held = λ n. held_set o.log o.holder left other x (one a q) is_there
            (λ t. absurd (subst (HasTurn o.log) spent t))
            (held_set o.log o.holder views id (one a q) (view b Spent) at
            (λ t. absurd (let no : Some o.log ≡ None = sym t ∙ empty in cc)) (o.held n));
        longest = λ n. seen_moved o.log a b views id other q x at apart there spent (o.longest n);
        opener = λ n. dealing_set o.dealt o.holder left other x (one a q) is_there
            (λ is. absurd (let no : Spent ≡ Opening o.dealt = sym spent ∙ is in cc))
            (dealing_set o.dealt o.holder views id (one a q) (view b Spent) at (λ is. absurd cc) (o.opener n));
        seated = λ l lt. seats_again o.seat q.lane other l (set left other (one a q))
            (λ _. (one a q, set_at left other (one a q) x is_there, refl))
            (λ not. seated_set l (o.seat l) left other x (one a q) is_there (λ t. absurd (subst (StandsFor l) spent t))
            (seated_set l (o.seat l) views id (one a q) (view b Spent) at (λ t. absurd (not (sym t))) (o.seated l lt)));
        openings = each_set (λ j w. (w.stands ≡ Spent) ⊎ (w.opening ≡ a)) left other (one a q) (inr refl)
            (λ j w _ e. each_set (λ j w. (w.stands ≡ Spent) ⊎ (w.opening ≡ a)) views id (view b Spent) (inl refl)
            (λ j w _ e. o.openings j w e) j w e);
        each = each_set (λ j w. Stands s' j w.stands) left other (one a q)
            (reseat s seat' id other q k (seated_here o.seat q.lane other)
            (λ l is. absurd (let no : Some l ≡ None = sym is ∙ empty in cc)))
            (λ j w off e. each_set (λ j w. Stands s' j w.stands) views id (view b Spent) tt
            (λ j w not e. others_stand s s' j (λ r g. reseat s seat' j j r g
            (seated_else o.seat q.lane other r.lane (λ same. not (sym g.at ∙ (ap o.seat same ∙ k.at)))
            ∙ g.at) g.holding)
            (λ t is. (t, is, refl)) w.stands (o.each j w e)) j w e);
      };
    }

set_twice : {A : Type 0} (l : List A) (i : ℕ) (a b : A) → set (set l i a) i b ≡ set l i b
set_twice [] i a b = refl
set_twice (x ∷ xs) zero a b = refl
set_twice (x ∷ xs) (suc i) a b = ap (λ l. x ∷ l) (set_twice xs i a b)

set_apart : {A : Type 0} (l : List A) (i j : ℕ) (a b : A) → i ≢ j → set (set l i a) j b ≡ set (set l j b) i a
set_apart [] i j a b not = refl
set_apart (x ∷ xs) zero zero a b not = absurd (not refl)
set_apart (x ∷ xs) zero (suc j) a b not = refl
set_apart (x ∷ xs) (suc i) zero a b not = refl
set_apart (x ∷ xs) (suc i) (suc j) a b not = ap (λ l. x ∷ l) (set_apart xs i j a b (λ e. not (ap suc e)))

is_within : {A : Type 0} (l : List A) (i : ℕ) (a : A) → get_elem? l i ≡ some a → i < length l
is_within [] i a e = absurd (some-ne-none a (sym e))
is_within (x ∷ xs) zero a e = omega arith
is_within (x ∷ xs) (suc i) a e = let h = is_within xs i a e in omega arith

-- a seat is cut in two: it stands for none, and a new one stands for its lane
pub lifts : {a : State} {turn : ℕ} {home : Option State} {cell : ℕ → Cell} {views : List View} (id : ℕ) {q : Part}
    → OneHistory a turn home cell views → get_elem? views id ≡ some (one a q) → q.holding ≡ None
    → OneHistory a turn home cell (set views id (view a Spent) ++ one a q ∷ [])
lifts {a} {turn} {home} {cell} {views} id {q} o at empty = let N : ℕ = length views in
    let here : List View = set views id (one a q) in
    let spare : List View = here ++ view a Spent ∷ [] in let len : length here ≡ N = length-set views id (one a q) in
    let within : id < N = is_within views id (one a q) at in
    let last : get_elem? spare N ≡ some (view a Spent) = ap (get_elem? spare) (sym len) ∙ snoc_end here
    (view a Spent) in
    let at' : get_elem? spare id ≡ some (one a q) =
    snoc_at here id (view a Spent) (one a q) (set_at views id (one a q) (one a q) at) in
    let h = spares id o at in
    let moved = moves a id N h at' (λ e. omega arith) last refl empty in
    let left : List View = set views id (view a Spent) in
    let is_left : set spare id (view a Spent) ≡ left ++ view a Spent ∷ [] =
    set-append_left here (view a Spent ∷ []) id (view a Spent) (omega arith)
    ∙ ap (λ l. l ++ view a Spent ∷ []) (set_twice views id (one a q) (view a Spent)) in
    let long : length left ≡ N = length-set views id (view a Spent) in
    subst (OneHistory a turn home cell)
    (ap (λ l. set l N (one a q)) is_left ∙ (ap (λ n. set (left ++ view a Spent ∷ []) n (one a q)) (sym long)
    ∙ set-append_seam left (view a Spent) [] (one a q))) moved

-- a seat that stands for none takes over the lane of another
pub settles : {a : State} (b : State) {turn : ℕ} {home : Option State} {cell : ℕ → Cell} {views : List View}
    (id other : ℕ) {q : Part} {x : View} → OneHistory a turn home cell views → get_elem? views id ≡ some x
    → x.stands ≡ Spent
    → other ≢ id → get_elem? views other ≡ some (one a q) → q.holding ≡ None
    → OneHistory a turn home cell (set (set views id (one a q)) other (view b Spent))
settles {a} b {turn} {home} {cell} {views} id other {q} {x} o at spent apart there empty =
    subst (OneHistory a turn home cell) (set_apart views other id (view b Spent) (one a q) apart)
    (moves b other id o there (λ e. apart (sym e)) at spent empty)
