-- Lists, the lists that seats see and hold, and what holds of a lane where the list or its seat changes.
use Rattle.std.proofs.Common.{[], ⊎_elim, ◌++◌, ◌<◌, ◌==◌, ◌∙◌, ◌∷◌, ◌≡◌, ◌≢◌, ◌⊎◌, ap, append-nil, append_assoc, arith}
use Rattle.std.proofs.Common.{cond, eq-eqb, inl, inr, length, List, lt_of_not-le, ne_eqb, None, Option, refl, set, Some}
use Rattle.std.proofs.{Common.{subst, suc, sym, zero, ℕ}, lemmas.List.Elements.filter-append}
use lib.ListN.{get_elem?}
use mathlib.Core.{Logic.dite, Option.{some, some-injective, some-ne-none}}
use native.Mathlib.Decide.{dec_le, ℕ_discrete}
use Rattle.krs_types.specs.declared.event.Event.{Event}
use Rattle.krs_model.specs.{History.event_of, Lists.Begins, State.State}
use Rattle.krs_world.specs.History.{Fits, HasSeen, HasTurn, Holds, IsHeld, IsSeen, Kept, Known, OneHistory, Shared}
use Rattle.krs_world.specs.History.{Linearizes, Sits, Stands, StandsFor}
use Rattle.krs_world.specs.Knowing.{celled, events_of, flight}
use Rattle.krs_world.specs.declared.view.{Cell.{Cell, TheVariants.{Answered, Empty, Posted, Serving}}, Part.Part}
use Rattle.krs_world.specs.declared.view.{Standing.{Standing, TheVariants.{One, Opening, Spent, Two}}, View.View}
use Rattle.std.proofs.lemmas.Grind.{common_steps}

-- Lists.
pub prefix_self : {A : Type 0} (xs : List A) → Begins xs xs
prefix_self xs = ([], append-nil xs)

pub prefix_more : {A : Type 0} (xs ys zs : List A) → Begins xs ys → Begins xs (ys ++ zs)
prefix_more xs ys zs p = (p.0 ++ zs, sym (append_assoc xs p.0 zs) ∙ ap (λ w. w ++ zs) p.1)

pub prefix_trans : {A : Type 0} (xs ys zs : List A) → Begins xs ys → Begins ys zs → Begins xs zs
prefix_trans xs ys zs p q = (p.0 ++ q.0, sym (append_assoc xs p.0 q.0) ∙ (ap (λ w. w ++ q.0) p.1 ∙ q.1))

-- two lists that begin each other are one
pub prefix_both : {A : Type 0} (xs ys : List A) → Begins xs ys → Begins ys xs → xs ≡ ys
prefix_both [] [] p q = refl
prefix_both [] (y ∷ ys) p q = absurd (let e = q.1 in cc)
prefix_both (x ∷ xs) [] p q = absurd (let e = p.1 in cc)
prefix_both (x ∷ xs) (y ∷ ys) p q = grind (arith, common_steps, prefix_both xs ys (p.0, cc) (q.0, cc))

pub events_prefix : (lane : ℕ) (xs ys : List Event) → Begins xs ys → Begins (events_of lane xs) (events_of lane ys)
events_prefix lane xs ys p = (
  events_of lane p.0,
  sym (filter-append (λ (x : Event). x.lane == lane) xs p.0) ∙ ap (events_of lane) p.1,
)

pub own_event : (lane : ℕ) (log : List Event) (e : Event) → e.lane ≡ lane → events_of lane (log ++ e ∷ [])
    ≡ events_of lane log ++ e ∷ []
own_event lane log e is = grind (arith, common_steps, filter-append, eq-eqb)

pub other_event : (lane : ℕ) (log : List Event) (e : Event) → e.lane ≢ lane → events_of lane (log ++ e ∷ [])
    ≡ events_of lane log
other_event lane log e not = grind (arith, common_steps, filter-append, ne_eqb, append-nil)

pub at_set : {A : Type 0} (l : List A) (i j : ℕ) (a b : A) → get_elem? (set l i a) j ≡ some b → ((j ≡ i) × (a ≡ b))
    ⊎ ((j ≢ i) × (get_elem? l j ≡ some b))
at_set [] i j a b e = absurd (some-ne-none b (sym e))
at_set (x ∷ xs) zero zero a b e = inl (refl, some-injective a b e)
at_set (x ∷ xs) zero (suc j) a b e = inr ((λ h. omega arith), e)
at_set (x ∷ xs) (suc i) zero a b e = inr ((λ h. omega arith), e)
at_set (x ∷ xs) (suc i) (suc j) a b e = grind (arith, common_steps, ⊎_elim, at_set xs i j a b e)

pub set_at : {A : Type 0} (l : List A) (i : ℕ) (a b : A) → get_elem? l i ≡ some b → get_elem? (set l i a) i ≡ some a
set_at [] i a b e = absurd (some-ne-none b (sym e))
set_at (x ∷ xs) zero a b e = refl
set_at (x ∷ xs) (suc i) a b e = set_at xs i a b e

pub set_else : {A : Type 0} (l : List A) (i j : ℕ) (a : A) → j ≢ i → get_elem? (set l i a) j ≡ get_elem? l j
set_else [] i j a n = refl
set_else (x ∷ xs) zero zero a n = absurd (n refl)
set_else (x ∷ xs) zero (suc j) a n = refl
set_else (x ∷ xs) (suc i) zero a n = refl
set_else (x ∷ xs) (suc i) (suc j) a n = set_else xs i j a (λ e. n (ap suc e))

pub snoc_at : {A : Type 0} (l : List A) (j : ℕ) (a b : A) → get_elem? l j ≡ some b → get_elem? (l ++ a ∷ []) j ≡ some b
snoc_at [] j a b e = absurd (some-ne-none b (sym e))
snoc_at (x ∷ xs) zero a b e = e
snoc_at (x ∷ xs) (suc j) a b e = snoc_at xs j a b e

pub snoc_end : {A : Type 0} (l : List A) (a : A) → get_elem? (l ++ a ∷ []) (length l) ≡ some a
snoc_end [] a = refl
snoc_end (x ∷ xs) a = snoc_end xs a

pub at_snoc : {A : Type 0} (l : List A) (a b : A) (j : ℕ) → get_elem? (l ++ a ∷ []) j ≡ some b
    → (get_elem? l j ≡ some b) ⊎ ((a ≡ b) × (j ≡ length l))
at_snoc [] a b zero e = inr (some-injective a b e, refl)
at_snoc [] a b (suc j) e = absurd (some-ne-none b (sym e))
at_snoc (x ∷ xs) a b zero e = inl e
at_snoc (x ∷ xs) a b (suc j) e = ⊎_elim inl (λ t. inr (t.0, ap suc t.1)) (at_snoc xs a b j e)

-- The longest list that is seen, and the list that is held.
pub seen_set : (log : List Event) (views : List View) (id : ℕ) (v w : View) → get_elem? views id ≡ some v
    → (HasSeen log v.stands → HasSeen log w.stands) → IsSeen log views → IsSeen log (set views id w)
seen_set log views id v w at go s = ⊎_elim inl (λ (t : (j : ℕ) × (x : View) × (get_elem? views j ≡ some x)
    × HasSeen log x.stands). inr (dite (ℕ_discrete t.0 id) (λ same. (
      id,
      w,
      set_at views id w v at,
      go (subst (λ (x : View). HasSeen log x.stands)
          (some-injective t.1 v (sym t.2 ∙ (ap (get_elem? views) same ∙ at))) t.3),
    )) (λ not. (t.0, t.1, set_else views id t.0 w not ∙ t.2, t.3)))) s

pub held_set : (log : List Event) (holder : ℕ) (views : List View) (id : ℕ) (v w : View) → get_elem? views id ≡ some v
    → (HasTurn log v.stands → HasTurn log w.stands) → IsHeld log holder views → IsHeld log holder (set views id w)
held_set log holder views id v w at go t = dite (ℕ_discrete holder id) (λ same. (
  w,
  ap (get_elem? (set views id w)) same ∙ set_at views id w v at,
  go (subst (λ (x : View). HasTurn log x.stands) (some-injective t.0 v (sym t.1 ∙ (ap (get_elem? views) same ∙ at)))
      t.2),
)) (λ not. (t.0, set_else views id holder w not ∙ t.1, t.2))

pub seen_snoc : (log : List Event) (views : List View) (x : View) → IsSeen log views → IsSeen log (views ++ x ∷ [])
seen_snoc log views x s = grind (arith, common_steps, ⊎_elim, snoc_at)

pub held_snoc : (log : List Event) (holder : ℕ) (views : List View) (x : View) → IsHeld log holder views
    → IsHeld log holder (views ++ x ∷ [])
held_snoc log holder views x t = (t.0, snoc_at views holder x t.0 t.1, t.2)

-- what holds of the view that a step gives and of all others holds of each
pub each_set : (S : ℕ → View → Type 0) (views : List View) (id : ℕ) (w : View) → S id w → ((j : ℕ) (v : View) → j ≢ id
    → get_elem? views j ≡ some v → S j v) → (j : ℕ) (v : View) → get_elem? (set views id w) j ≡ some v → S j v
each_set S views id w mine others j v e = grind (arith, common_steps, ⊎_elim, at_set)

-- what all seats share in a history
abbrev pub shares : {a : State} {turn : ℕ} {home : Option State} {cell : ℕ → Cell} {views : List View}
    → OneHistory a turn home cell views → Shared
shares {turn = turn} {cell = cell} o = record { witness = o.witness; turn = turn; cell = cell }

-- what is so of a seat's lanes is so of one of them
pub known_of : (s : Shared) (j : ℕ) (st : Standing) (p : Part) → Sits p st → Stands s j st → Known s j p
known_of s j Spent p sits k = absurd sits
known_of s j (One q) p sits k = subst (Known s j) sits k
known_of s j (Two q r) p sits k = grind (arith, common_steps, ⊎_elim)
known_of s j (Opening n) p sits k = absurd sits

pub sits_of : (lane : ℕ) (st : Standing) → StandsFor lane st → (p : Part) × Sits p st × (p.lane ≡ lane)
sits_of lane Spent is = absurd is
sits_of lane (One p) is = (p, refl, is)
sits_of lane (Two p q) is = grind (arith, common_steps, ⊎_elim)
sits_of lane (Opening n) is = absurd is

-- the claim follows from what is kept
pub claimed : {a : State} {turn : ℕ} {home : Option State} {cell : ℕ → Cell} {views : List View}
    (k : Kept a turn home cell views) → Linearizes a home cell views k.log k.last
claimed {turn = turn} {cell = cell} k = record {
  legal = k.legal;
  ends = λ store is. dite (ℕ_discrete turn 1) (λ out. absurd (let no : Some store ≡ None = sym is ∙ k.away out in cc))
      (λ not. let same : Some store ≡ Some k.last = sym is ∙ k.at_home not in cc);
  lanes = λ p had.
      let t = known_of record { witness = k.witness; turn = turn; cell = cell } had.0 had.1.stands p had.3
      (k.each had.0 had.1 had.2) in
      (t.seen, t.fits);
  others = λ lane none. dite (dec_le k.dealt lane) (λ le. (k.undealt lane le).1) (λ nle.
      let t = k.seated lane (lt_of_not-le nle) in
      let u = sits_of lane t.0.stands t.2 in
      absurd (none u.0 (k.seat lane, t.0, t.1, u.1) u.2));
}

-- so there is one history where that is kept
abbrev pub one_history : {a : State} {turn : ℕ} {home : Option State} {cell : ℕ → Cell} {views : List View}
    → Kept a turn home cell views → OneHistory a turn home cell views
one_history k = record { kept = k; claim = claimed k }

-- what is known of the lanes of another seat is known after the step
pub others_stand : (s s' : Shared) (j : ℕ) → ((p : Part) → Known s j p → Known s' j p)
    → (s.turn ≡ 2 → j ≡ s.holder → (s'.turn ≡ 2) × (j ≡ s'.holder) × (s.dealt ≡ s'.dealt))
    → (st : Standing) → Stands s j st → Stands s' j st
others_stand s s' j go opens Spent k = tt
others_stand s s' j go opens (One p) k = go p k
others_stand s s' j go opens (Two p q) k = (go p k.0, go q k.1, k.2, k.3, k.4)
others_stand s s' j go opens (Opening n) k = let t = opens k.0 k.1 in (t.0, t.1, k.2 ∙ t.2)

pub celled_here : (cell : ℕ → Cell) (lane : ℕ) (c : Cell) → celled cell lane c lane ≡ c
celled_here cell lane c = ap (λ b. cond b c (cell lane)) (eq-eqb lane lane refl)

pub celled_else : (cell : ℕ → Cell) (lane l : ℕ) (c : Cell) → l ≢ lane → celled cell lane c l ≡ cell l
celled_else cell lane l c not = ap (λ b. cond b c (cell l)) (ne_eqb l lane not)

-- that a seat holds the history, by what that says in turn
pub holds_is : {s : Shared} {j : ℕ} {p : Part} {l : List Event} → s.turn ≡ 1 → j ≡ s.holder → l ≡ s.log
    → p.serving ≡ s.serving → Holds s j p l
holds_is out here whole same = record { out = out; here = here; whole = whole; same_service = same }

-- what is so of a lane, by its place, number, what it has seen, its base, calls and fit, and what it holds
pub known_is : {s : Shared} {j : ℕ} {p : Part} → s.seat p.lane ≡ j → p.lane < s.dealt → Begins p.seen s.log
    → Begins p.base s.log → Begins p.mine (events_of p.lane p.seen) → Fits s.log p (s.cell p.lane)
    → ((l : List Event) → p.holding ≡ Some l → Holds s j p l) → (p.holding ≡ None → p.serving ≡ None) → Known s j p
known_is at given seen base calls fits holding unheld = grind (arith, common_steps)

-- a list that gains an event of another lane fits as before
pub fits_more : (log : List Event) (e : Event) (p : Part) → e.lane ≢ p.lane → (c : Cell) → Fits log p c
    → Fits (log ++ e ∷ []) p c
fits_more log e p other Empty f = (f.0, other_event p.lane log e other ∙ f.1, f.2)
fits_more log e p other (Posted m a) f = grind (arith, common_steps, other_event, prefix_more)
fits_more log e p other (Serving m a) f = grind (arith, common_steps, other_event, prefix_more)
fits_more log e p other (Answered m a r) f = (
  f.0,
  f.1,
  other_event p.lane log e other ∙ f.2,
  (
    f.3.0,
    f.3.1 ++ e ∷ [],
    ap (λ l. l ++ e ∷ []) f.3.2 ∙ append_assoc (f.0 ++ f.3.0) (event_of p.lane m a r ∷ f.3.1) (e ∷ []),
  ),
)

-- the fit reads four fields of a lane
pub fits_same : (log : List Event) (p q : Part) → q.lane ≡ p.lane → q.flight ≡ p.flight → q.mine ≡ p.mine
    → q.done ≡ p.done → (c : Cell) → Fits log p c → Fits log q c
fits_same log p q el ef em ed Empty f = (ef ∙ f.0, ap (λ l. events_of l log) el ∙ (f.1 ∙ sym em), ed ∙ f.2)
fits_same log p q el ef em ed (Posted m a) f = grind (arith, common_steps)
fits_same log p q el ef em ed (Serving m a) f = grind (arith, common_steps)
fits_same log p q el ef em ed (Answered m a r) f = grind (arith, common_steps)

pub empty_if_idle : (p : Part) (log : List Event) (c : Cell) → p.flight ≡ None → Fits log p c → c ≡ Empty
empty_if_idle p log Empty n f = refl
empty_if_idle p log (Posted m ask) n f = absurd (let no : Some (flight m ask f.0) ≡ None = sym f.1 ∙ n in cc)
empty_if_idle p log (Serving m ask) n f = absurd (let no : Some (flight m ask f.0) ≡ None = sym f.1 ∙ n in cc)
empty_if_idle p log (Answered m ask r) n f = absurd (let no : Some (flight m ask f.0) ≡ None = sym f.1 ∙ n in cc)

-- the calls of an idle lane are those that the list has
pub idle_mine : (p : Part) (log : List Event) (c : Cell) → p.flight ≡ None → Fits log p c
    → events_of p.lane log ≡ p.mine
idle_mine p log c n f = let g : Fits log p Empty = subst (Fits log p) (empty_if_idle p log c n f) f in g.1
