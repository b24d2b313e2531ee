-- The steps of a call keep the rule of the table: taking the turn, finding it out, and giving it back.
use Rattle.std.proofs.Common.{[], ⊎_elim, ◌+◌, ◌<◌, ◌∙◌, ◌∷◌, ◌≡◌, ◌≢◌, ap, arith, eq-eqb, eqb, false, get_or}
use Rattle.std.proofs.Common.{get_or-set_other, get_or-set_same, length, length-set, List, ne_eqb, None, Option, refl}
use Rattle.std.proofs.Common.{set, Some, subst, suc, sym, true, zero, ℕ}
use Rattle.atomic_table.specs.Table.{Allows, gives, keeps, rest, step, stepped, takes}
use Rattle.atomic_table.proofs.Lists.{set_else, set_here}
use lib.{ListN.get_elem?, Seq.set-get_or}
use mathlib.Core.{Logic.dite, Option.{none, some, some-injective, some-ne-none}}
use native.Mathlib.Decide.{ℕ_discrete}
use prog.Atomic.{either}
use Rattle.krs_types.specs.declared.event.Event.{Event}
use Rattle.krs_model.specs.{History.IsLegal, State.State, Step.Step}
use Rattle.krs_world.specs.{History.OneHistory, Knowing.{events_of, kept, missed, one, put_own, taken}}
use Rattle.krs_world.specs.declared.view.{Cell.Cell, Part.Part, Standing.TheVariants.Spent, View.View}
use Rattle.krs_desk.specs.{Moves.moved_told, Parts.{AreHoused, hand_of, IsLaid, sat, views_of}}
use Rattle.krs_desk.specs.Rule.{CellIs, InOneOrder, IsAtHome, IsVacant}
use Rattle.krs_desk.specs.{Seated.{HoldsBefore, Me, opening, part}, Steps.{keeps_told, puts_told, takes_told}}
use Rattle.krs_desk.specs.declared.{slot.SlotValue.{SlotValue, TheVariants.Home}, token.Sight.Sight}
use Rattle.atomic_table.specs.Table as table
use Rattle.krs_desk.specs.Moves as move
use Rattle.krs_world.proofs.Keeping as law
use mathlib.Core.Option as maybe

abbrev pub Table : Type 0
Table = table.State SlotValue Sight

abbrev pub turn : Table → ℕ
turn s = get_or s.words 0 0

abbrev pub Slot : Type 0
Slot = maybe.Option SlotValue

-- Views.

pub views_set : (l : List Sight) (i : ℕ) (x : Sight) → views_of (set l i x) ≡ set (views_of l) i x.view
views_set [] i x = refl
views_set (y ∷ ys) zero x = refl
views_set (y ∷ ys) (suc i) x = ap (λ l. y.view ∷ l) (views_set ys i x)

pub view_at : (l : List Sight) (i : ℕ) {x : Sight} → get_elem? l i ≡ some x → get_elem? (views_of l) i ≡ some x.view
view_at [] i {x} e = absurd (some-ne-none x (sym e))
view_at (y ∷ ys) zero {x} e = ap (λ (s : Sight). some s.view) (some-injective y x e)
view_at (y ∷ ys) (suc i) e = view_at ys i e

-- what holds of the lanes that a step's token is laid, and of those of all others, holds of each
pub laid_set : (P : ℕ → Type 0) (views : List Sight) (id : ℕ) (w : Sight) → ((lane : ℕ) → IsLaid lane w → P lane)
    → ((j lane : ℕ) (v : Sight) → j ≢ id → get_elem? views j ≡ some v → IsLaid lane v → P lane)
    → (j lane : ℕ) (v : Sight) → get_elem? (set views id w) j ≡ some v → IsLaid lane v → P lane
laid_set P views id w mine others j lane v e is =
    ⊎_elim (λ (t : (j ≡ id) × (w ≡ v)). mine lane (subst (IsLaid lane) (sym t.1) is))
    (λ (t : (j ≢ id) × (get_elem? views j ≡ some v)). others j lane v t.0 t.1 is) (law.at_set views id j w v e)

-- no slot lies on the table for a token that is sat
pub sat_lies : (P : ℕ → Type 0) (a : State) (p : Part) (lane : ℕ) → IsLaid lane (sat a p) → P lane
sat_lies P a p lane is = absurd (let no : false ≡ true = is.0 in cc)

-- what a step's token stands for has its word, and so have all others
pub housed_set : (n : ℕ) (views : List Sight) (id : ℕ) (w : Sight) → AreHoused n w
    → ((j : ℕ) (v : Sight) → get_elem? views j ≡ some v → AreHoused n v)
    → (j : ℕ) (v : Sight) → get_elem? (set views id w) j ≡ some v → AreHoused n v
housed_set n views id w mine others j v e = ⊎_elim (λ (t : (j ≡ id) × (w ≡ v)). subst (AreHoused n) t.1 mine)
    (λ (t : (j ≢ id) × (get_elem? views j ≡ some v)). others j v t.1) (law.at_set views id j w v e)

-- Words and slots.

-- a step that changes no word and no slot
pub unmoved : (a : State) (s : Table) (r : InOneOrder a s) (i id : ℕ) (w : Sight) (c : List (ℕ × SlotValue))
    → ((lane : ℕ) → IsLaid lane w → IsVacant s.homes r.cell lane) → AreHoused (length s.words) w
    → OneHistory a (turn s) r.home r.cell (set (views_of s.views) id w.view)
    → InOneOrder a (stepped s i (get_or s.words i 0) id c w keeps)
unmoved a s r i id w c lies fits h =
    subst (λ (ws : List ℕ). InOneOrder a record { words = ws; homes = s.homes; views = set s.views id w })
    (sym (set-get_or s.words i 0))
    record {
      wide = r.wide;
      any = r.any;
      home = r.home;
      slot = r.slot;
      cell = r.cell;
      cells = r.cells;
      laid = laid_set (IsVacant s.homes r.cell) s.views id w lies (λ j lane v not e is. r.laid j lane v e is);
      housed = housed_set (length s.words) s.views id w fits r.housed;
      history = subst (OneHistory a (turn s) r.home r.cell) (sym (views_set s.views id w)) h;
    }

-- a step on the turn leaves the cells
cells_stay : (s : Table) (n : ℕ) (homes : List Slot) (cell : ℕ → Cell)
    → ((l : ℕ) → CellIs (get_or s.words (l + 1) 0) (get_elem? s.homes (l + 1)) (cell l))
    → ((l : ℕ) → get_elem? homes (l + 1) ≡ get_elem? s.homes (l + 1))
    → (l : ℕ) → CellIs (get_or (set s.words 0 n) (l + 1) 0) (get_elem? homes (l + 1)) (cell l)
cells_stay s n homes cell was same l = subst (λ (z : ℕ × maybe.Option Slot). CellIs z.0 z.1 (cell l))
    (λ i. (sym (get_or-set_other s.words 0 (l + 1) n 0 (λ e. omega arith)) i, sym (same l) i)) (was l)

-- a step on a word leaves the number of words
pub still_housed : (s : Table) (i n id : ℕ) (w : Sight) → AreHoused (length s.words) w
    → ((j : ℕ) (v : Sight) → get_elem? s.views j ≡ some v → AreHoused (length s.words) v)
    → (j : ℕ) (v : Sight) → get_elem? (set s.views id w) j ≡ some v → AreHoused (length (set s.words i n)) v
still_housed s i n id w fits was j v e = subst (λ (k : ℕ). AreHoused k v) (sym (length-set s.words i n))
    (housed_set (length s.words) s.views id w fits was j v e)

-- a step on the turn that leaves the slots
pub moved : (a : State) (s : Table) (r : InOneOrder a s) (n id : ℕ) (w : Sight)
    → ((lane : ℕ) → IsLaid lane w → IsVacant s.homes r.cell lane) → AreHoused (length s.words) w
    → OneHistory a n r.home r.cell (set (views_of s.views) id w.view)
    → InOneOrder a record { words = set s.words 0 n; homes = s.homes; views = set s.views id w }
moved a s r n id w lies fits h = record {
  wide = length-set s.words 0 n ∙ r.wide;
  any = subst (λ (k : ℕ). 0 < k) (sym (length-set s.words 0 n)) r.any;
  home = r.home;
  slot = r.slot;
  cell = r.cell;
  cells = cells_stay s n s.homes r.cell r.cells (λ l. refl);
  laid = laid_set (IsVacant s.homes r.cell) s.views id w lies (λ j lane v not e is. r.laid j lane v e is);
  housed = still_housed s 0 n id w fits r.housed;
  history = subst (λ (z : ℕ × List View). OneHistory a z.0 r.home r.cell z.1)
      (λ i. (sym (get_or-set_same s.words 0 n 0 r.any) i, sym (views_set s.views id w) i)) h;
}

vacant_still : (homes : List Slot) (cell : ℕ → Cell) (x : Slot) (lane : ℕ) → IsVacant homes cell lane
    → IsVacant (set homes 0 x) cell lane
vacant_still homes cell x lane v = (
  v.0,
  λ lt. set_else homes 0 (lane + 1) x (λ e. omega arith)
      ∙ v.1 (subst (λ (k : ℕ). lane + 1 < k) (length-set homes 0 x) lt),
)

-- a step on the turn, and on the first slot
pub moved_home :
    (a : State) (s : Table) (r : InOneOrder a s) (n : ℕ) (x : Slot) (home : Option State) (id : ℕ) (b : State)
    (q : Part)
    → q.lane + 1 < length s.words → IsAtHome home (some x)
    → OneHistory a n home r.cell (set (views_of s.views) id (one b q))
    → InOneOrder a record { words = set s.words 0 n; homes = set s.homes 0 x; views = set s.views id (sat b q) }
moved_home a s r n x home id b q fits at h = let wide = r.wide in let any = r.any in record {
  wide = length-set s.words 0 n ∙ (r.wide ∙ sym (length-set s.homes 0 x));
  any = subst (λ (k : ℕ). 0 < k) (sym (length-set s.words 0 n)) r.any;
  home = home;
  slot = subst (IsAtHome home) (sym (set_here s.homes 0 x (omega arith))) at;
  cell = r.cell;
  cells = cells_stay s n (set s.homes 0 x) r.cell r.cells (λ l. set_else s.homes 0 (l + 1) x (λ e. omega arith));
  laid = laid_set (IsVacant (set s.homes 0 x) r.cell) s.views id (sat b q)
      (λ lane is. sat_lies (IsVacant (set s.homes 0 x) r.cell) b q lane is)
      (λ j lane v not e is. vacant_still s.homes r.cell x lane (r.laid j lane v e is));
  housed = still_housed s 0 n id (sat b q) fits r.housed;
  history = subst (λ (z : ℕ × List View). OneHistory a z.0 home r.cell z.1)
      (λ i. (sym (get_or-set_same s.words 0 n 0 r.any) i, sym (views_set s.views id (sat b q)) i)) h;
}

-- Taking the turn, and giving it back.

-- the turn was free, and is had; or it was out
takes_allowed : (a : State) (slots id : ℕ) (p : Part) (c : List (ℕ × SlotValue)) → p.holding ≡ None
    → Allows (InOneOrder a) slots id (sat a p, c) 0 (λ n. either (eqb n 0) 1 n)
    (moved_told takes_told (step slots 0 0 1 none) (sat a p, c))
takes_allowed a slots id p c empty s r len at small =
    let x : ℕ = turn s in
    let views : List View = views_of s.views in
    let is : get_elem? views id ≡ some (one a p) = view_at s.views id at in
    dite (ℕ_discrete x 0) (λ free.
    let h : OneHistory a 0 r.home r.cell views = subst (λ (n : ℕ). OneHistory a n r.home r.cell views) free r.history in
    let k = law.own id is h in
    let slot : get_elem? s.homes 0 ≡ some (some (Home h.last)) =
    subst (λ b. IsAtHome b (get_elem? s.homes 0)) (h.at_home (λ e. omega arith)) r.slot in
    let w : Sight = sat a (taken p h.log) in (
      w,
      takes 0 (Home h.last),
      slot,
      subst (λ b. InOneOrder a (stepped s 0 (either b 1 x) id c w (takes 0 (Home h.last)))) (sym (eq-eqb x 0 free))
          (moved_home a s r 1 none None id a (taken p h.log) (r.housed id (sat a p) at) refl (law.takes id is h empty)),
      (
        (
          (λ _. (
            h.log,
            h.last,
            refl,
            record {
              legal = h.legal;
              seen = k.seen;
              mine = λ idle. law.idle_mine p h.log (r.cell p.lane) idle k.fits;
            },
          )),
          λ out. absurd (out free),
        ),
        (refl, (move.takes h.log, ((refl, refl, refl), ap (λ (n : ℕ). Some n) free, empty), refl)),
      ),
    )) (λ out.
    let w : Sight = sat a (missed p) in (
      w,
      keeps,
      tt,
      subst (λ b. InOneOrder a (stepped s 0 (either b 1 x) id c w keeps)) (sym (ne_eqb x 0 out))
          (unmoved a s r 0 id w c (λ lane is. sat_lies (IsVacant s.homes r.cell) a (missed p) lane is)
          (r.housed id (sat a p) at) (law.misses id is r.history)),
      (
        ((λ free. absurd (out free)), λ _. refl),
        (refl, (move.misses, ((refl, refl, refl), (x, refl, out), empty), refl)),
      ),
    ))

-- the turn is given back, with the list that was held and one event more
puts_allowed :
    (a : State) (slots id : ℕ) (p : Part) (store : State) (c : List (ℕ × SlotValue)) (e : Event) (log : List Event)
    (last : State) → p.holding ≡ Some log → IsLegal a log last → p.serving ≡ None → p.flight ≡ None
    → Step last e store → e.lane ≡ p.lane
    → Allows (InOneOrder a) slots id (sat a p, (0, Home store) ∷ c) 0 (λ n. either (eqb n 1) 0 n)
    (moved_told (puts_told (e ∷ [])) (step slots 0 1 0 none) (sat a p, (0, Home store) ∷ c))
puts_allowed a slots id p store c e log last held legal unserving idle does lane s r len at small =
    let x : ℕ = turn s in
    let views : List View = views_of s.views in
    let is : get_elem? views id ≡ some (one a p) = view_at s.views id at in
    let t = law.puts id is log e last store r.history held unserving idle legal does lane in
    let k = law.own id is r.history in
    let mine : events_of p.lane log ≡ p.mine = ap (events_of p.lane) (k.holding log held).whole
    ∙ law.idle_mine p r.history.log (r.cell p.lane) idle k.fits in
    let w : Sight = sat a (put_own p log e) in (
      w,
      gives,
      tt,
      subst (λ b. InOneOrder a (stepped s 0 (either b 0 x) id ((0, Home store) ∷ c) w gives)) (sym (eq-eqb x 1 t.0))
          (moved_home a s r 0 (some (Home store)) (Some store) id a (put_own p log e) (r.housed id (sat a p) at) refl
          t.1),
      (
        (λ log' e' held' said'.
            let same_log : log ≡ log' = cc in
            let same_event : e ≡ e' = cc in (
              ap (λ (z : List Event × Event). (sat a (put_own p z.0 z.1), c)) (λ i. (same_log i, same_event i)),
              ap (events_of p.lane) (sym same_log) ∙ mine,
            )),
        (refl, (move.puts_own log e, ((refl, refl, refl), ap (λ (n : ℕ). Some n) t.0, held, unserving, idle), refl)),
      ),
    )

-- the turn is kept, and the list that is held has one event more
keeps_allowed :
    (a : State) (slots id : ℕ) (p : Part) (store : State) (c : List (ℕ × SlotValue)) (e : Event) (log : List Event)
    (last : State) → p.holding ≡ Some log → IsLegal a log last → p.serving ≡ None → p.flight ≡ None
    → Step last e store → e.lane ≡ p.lane → Allows (InOneOrder a) slots id (sat a p, c) 0 (λ n. n)
    (moved_told (keeps_told (e ∷ [])) (step slots 0 0 0 none) (sat a p, c))
keeps_allowed a slots id p store c e log last held legal unserving idle does lane s r len at small =
    let x : ℕ = turn s in
    let views : List View = views_of s.views in
    let is : get_elem? views id ≡ some (one a p) = view_at s.views id at in
    let h = law.keeps id is log e last store r.history held unserving idle legal does lane in
    let k = law.own id is r.history in
    let mine : events_of p.lane log ≡ p.mine = ap (events_of p.lane) (k.holding log held).whole
    ∙ law.idle_mine p r.history.log (r.cell p.lane) idle k.fits in
    let w : Sight = sat a (kept p log e) in (
      w,
      keeps,
      tt,
      unmoved a s r 0 id w c (λ l lies. sat_lies (IsVacant s.homes r.cell) a (kept p log e) l lies)
          (r.housed id (sat a p) at) h,
      (
        (λ log' e' held' said'.
            let same_log : log ≡ log' = cc in
            let same_event : e ≡ e' = cc in (
              ap (λ (z : List Event × Event). (sat a (kept p z.0 z.1), c)) (λ i. (same_log i, same_event i)),
              ap (events_of p.lane) (sym same_log) ∙ mine,
            )),
        (refl, (move.serves_own log e, ((refl, refl, refl, (x, refl)), held, unserving, idle), refl)),
      ),
    )

-- The same, of a token as it comes: the key is what every view has for the opening state.
pub allowed_at : {key a : State} {slots id word : ℕ} {p : Part} {c : List (ℕ × SlotValue)} {m : Me}
    (f : ℕ → ℕ) (then : Me → ℕ → Me → Type 0) → m ≡ (sat a p, c)
    → Allows (InOneOrder a) slots id (sat a p, c) word f (then (sat a p, c))
    → Allows (InOneOrder key) slots id m word f (then m)
allowed_at {key} {a} {slots} {id} {word} {p} {c} {m} f then is allowed =
    subst (λ (z : Me). Allows (InOneOrder key) slots id z word f (then z)) (sym is) (λ s r len at small.
    let e : a ≡ key = ⊎_elim (λ (no : (one a p).stands ≡ Spent). absurd cc) (λ (is : a ≡ key). is)
    (r.history.openings id (one a p) (view_at s.views id at)) in
    let t = allowed s (subst (λ (k : State). InOneOrder k s) (sym e) r) len at small in (
      t.0,
      t.1,
      t.2,
      subst (λ (k : State). InOneOrder k (stepped s word (f (get_or s.words word 0)) id c t.0 t.1)) e t.3,
      t.4,
    ))

pub takes_at :
    (key : State) (slots id : ℕ) (m : Me) → m ≡ (sat (opening m) (part m), hand_of (part m).flight (part m).lane)
    → (part m).holding ≡ None
    → Allows (InOneOrder key) slots id m 0 (λ n. either (eqb n 0) 1 n) (moved_told takes_told (step slots 0 0 1 none) m)
takes_at key slots id m is empty = allowed_at (λ n. either (eqb n 0) 1 n)
    (moved_told takes_told (step slots 0 0 1 none)) is
    (takes_allowed (opening m) slots id (part m) (hand_of (part m).flight (part m).lane) empty)

pub puts_at : (key : State) (slots id : ℕ) (m : Me) (e : Event) (log : List Event) → HoldsBefore m log e
    → e.lane ≡ (part m).lane
    → Allows (InOneOrder key) slots id m 0 (λ k. either (eqb k 1) 0 k)
    (moved_told (puts_told (e ∷ [])) (step slots 0 1 0 none) m)
puts_at key slots id m e log h lane = allowed_at (λ k. either (eqb k 1) 0 k)
    (moved_told (puts_told (e ∷ [])) (step slots 0 1 0 none)) h.has
    (puts_allowed (opening m) slots id (part m) h.after (rest m.1) e log h.last h.held h.legal h.unserving h.idle h.step
    lane)

pub keeps_at : (key : State) (slots id : ℕ) (m : Me) (e : Event) (log : List Event) → HoldsBefore m log e
    → e.lane ≡ (part m).lane
    → Allows (InOneOrder key) slots id m 0 (λ k. k) (moved_told (keeps_told (e ∷ [])) (step slots 0 0 0 none) m)
keeps_at key slots id m e log h lane = allowed_at (λ k. k)
    (moved_told (keeps_told (e ∷ [])) (step slots 0 0 0 none)) h.has
    (keeps_allowed (opening m) slots id (part m) h.after ((0, Home h.after) ∷ rest m.1) e log h.last h.held h.legal
    h.unserving h.idle h.step lane)
