-- The steps of a holder that answers posted calls keep the rule of the table.
use Rattle.std.proofs.Common.{⊎_elim, ◌&&◌, ◌+◌, ◌<◌, ◌∙◌, ◌∷◌, ◌≡◌, ◌≢◌, ap, arith, Bool, eq-eqb, eqb, false, get_or}
use Rattle.std.proofs.Common.{length, List, ne_eqb, None, refl, Result, Some, subst, sym, true, ℕ}
use Rattle.atomic_table.specs.Table.{Allows, gives, keeps, step, stepped, takes}
use lib.ListN.{get_elem?}
use mathlib.Core.{Logic.dite, Option.{none, some}}
use native.Mathlib.Decide.{ℕ_discrete}
use prog.Atomic.{either}
use Rattle.krs_types.specs.declared.{ask.{Answer.Answer, Ask.Ask}, errno.Errno.Errno, event.Event.Event}
use Rattle.krs_model.specs.{History.{event_of, IsLegal}, State.State, Step.Step}
use Rattle.krs_world.specs.Knowing.{answered, events_of, grabbed, looked_at, one, put_none, service}
use Rattle.krs_world.specs.declared.view.{Cell.Cell, Part.Part, View.View}
use Rattle.krs_desk.specs.{Helping.HoldsAll, Moves.{moved_told, stored_told}, Parts.{hand_of, sat, views_of}}
use Rattle.krs_desk.specs.Rule.{CellIs, InOneOrder, IsVacant}
use Rattle.krs_desk.specs.{Seated.{Me, opening, part}, Steps.{answers_told, brings_told, glances_told, grabs_told}}
use Rattle.krs_desk.specs.declared.{slot.SlotValue.{SlotValue, TheVariants.{Asked, Home, Replied}}, token.Sight.Sight}
use Rattle.krs_desk.proofs.{Cells.moved_cell, Posts.answered_of}
use Rattle.krs_desk.proofs.TurnSteps.{allowed_at, moved_home, sat_lies, Slot, Table, turn, unmoved, view_at}
use Rattle.krs_desk.specs.Moves as move
use Rattle.krs_world.proofs.Keeping as law
use Rattle.krs_world.proofs.Serving as serving
use Rattle.krs_world.specs.declared.view.Cell.TheVariants as cells
use mathlib.Core.Option as maybe

-- what a lane's cell is whose word is 1
pub posted_of : (x : ℕ) (slot : maybe.Option Slot) (c : Cell) → CellIs x slot c → x ≡ 1
    → (m : ℕ) × (ask : Ask) × (c ≡ cells.Posted m ask) × (slot ≡ some (some (Asked m ask)))
posted_of x slot cells.Empty is e = absurd (let zero_is : x ≡ 0 = is in omega arith)
posted_of x slot (cells.Posted m ask) is e = (m, ask, refl, is.1)
posted_of x slot (cells.Serving m ask) is e = absurd (let two_is : x ≡ 2 = is in omega arith)
posted_of x slot (cells.Answered m ask r) is e = absurd (let three_is : x ≡ 3 = is.0 in omega arith)

tested : (x y : ℕ) → eqb x y ≡ true → x ≡ y
tested x y e =
    dite (ℕ_discrete x y) (λ (same : x ≡ y). same) (λ not. let no : true ≡ false = sym e ∙ ne_eqb x y not in absurd cc)

both_true : (b c : Bool) → (b && c) ≡ true → (b ≡ true) × (c ≡ true)
both_true true c e = (refl, e)
both_true false c e = absurd cc

-- a lane's cell that isn't posted is the holder's own, and answered
abbrev finished : ℕ → ℕ → ℕ → Bool
finished x lane own = (eqb x 3) && (eqb lane own)

-- the cell was looked at, and is not posted
looked : (a : State) (s : Table) (r : InOneOrder a s) (id : ℕ) (p : Part) (c : List (ℕ × SlotValue)) (lane : ℕ)
    → get_elem? (views_of s.views) id ≡ some (one a p) → p.lane + 1 < length s.words
    → InOneOrder a (stepped s (lane + 1) (get_or s.words (lane + 1) 0) id c
    (sat a (looked_at p lane (finished (get_or s.words (lane + 1) 0) lane p.lane))) keeps)
looked a s r id p c lane is fits =
    let x : ℕ = get_or s.words (lane + 1) 0 in
    let b : Bool = finished x lane p.lane in
    unmoved a s r (lane + 1) id (sat a (looked_at p lane b)) c
    (λ l lies. sat_lies (IsVacant s.homes r.cell) a (looked_at p lane b) l lies) fits
    (serving.looks_at id is lane b r.history (λ yes. let two = both_true (eqb x 3) (eqb lane p.lane) yes in
    let t = answered_of x (get_elem? s.homes (lane + 1)) (r.cell lane) (r.cells lane) (tested x 3 two.0) in
    (t.0, t.1, t.2, ap r.cell (sym (tested lane p.lane two.1)) ∙ t.3)))

-- the holder's own cell, where it has a call in flight that isn't posted any more
own_answered : (a : State) (s : Table) (r : InOneOrder a s) (id : ℕ) (p : Part) (lane : ℕ) (log : List Event)
    → get_elem? (views_of s.views) id ≡ some (one a p) → p.holding ≡ Some log → p.serving ≡ None
    → get_or s.words (lane + 1) 0 ≢ 1 → lane ≡ p.lane → p.flight ≢ None → get_or s.words (lane + 1) 0 ≡ 3
own_answered a s r id p lane log is held idle miss here has =
    let x : ℕ = get_or s.words (lane + 1) 0 in
    let slot : maybe.Option Slot = get_elem? s.homes (lane + 1) in
    let own : CellIs x slot (r.cell p.lane) = subst (λ (l : ℕ). CellIs x slot (r.cell l)) here (r.cells lane) in
    ⊎_elim (λ (t : (m : ℕ) × (ask : Ask) × (r.cell p.lane ≡ cells.Posted m ask)).
    let q : CellIs x slot (cells.Posted t.0 t.1) = subst (CellIs x slot) t.2 own in absurd (miss q.0))
    (λ (t : (m : ℕ) × (ask : Ask) × (reply : Result Answer Errno) × (r.cell p.lane ≡ cells.Answered m ask reply)).
    let q : CellIs x slot (cells.Answered t.0 t.1 t.2) = subst (CellIs x slot) t.3 own in q.0)
    (serving.own_cell id is log r.history held idle has (r.cell p.lane) refl)

glances_allowed : (a : State) (slots id : ℕ) (p : Part) (c : List (ℕ × SlotValue)) (lane : ℕ) (log : List Event)
    → p.holding ≡ Some log → p.serving ≡ None → Allows (InOneOrder a) slots id (sat a p, c) (lane + 1) (λ n. n)
    (moved_told glances_told (step slots (lane + 1) 0 0 none) (sat a p, c))
glances_allowed a slots id p c lane log held idle s r len at small =
    let x : ℕ = get_or s.words (lane + 1) 0 in
    let views : List View = views_of s.views in
    let is : get_elem? views id ≡ some (one a p) = view_at s.views id at in
    dite (ℕ_discrete x 1) (λ hit.
    let k = law.own id is r.history in (
      sat a p,
      keeps,
      tt,
      unmoved a s r (lane + 1) id (sat a p) c (λ l lies. sat_lies (IsVacant s.homes r.cell) a p l lies)
          (r.housed id (sat a p) at) (law.stays id is r.history p refl refl (λ e. e) k),
      (
        (λ lane' word. ((λ _. refl), λ not. absurd (not hit))),
        (refl, (move.finds lane, (refl, ap (λ (n : ℕ). Some n) hit, (log, held)), refl)),
      ),
    )) (λ miss. (
      sat a (looked_at p lane (finished x lane p.lane)),
      keeps,
      tt,
      looked a s r id p c lane is (r.housed id (sat a p) at),
      (
        (λ lane' word.
            let e : lane ≡ lane' = omega arith in (
              (λ hit. absurd (miss hit)),
              λ _. (
                (λ i. (sat a (looked_at p (e i) (finished x (e i) p.lane)), c)),
                λ same has. own_answered a s r id p lane log is held idle miss (e ∙ same) has,
              ),
            )),
        (refl, (move.looks lane (finished x lane p.lane), (refl, (x, refl, miss, refl), (log, held)), refl)),
      ),
    ))

grabs_allowed : (a : State) (slots id : ℕ) (p : Part) (c : List (ℕ × SlotValue)) (lane : ℕ) (log : List Event)
    → p.holding ≡ Some log → p.serving ≡ None → lane + 1 < slots
    → Allows (InOneOrder a) slots id (sat a p, c) (lane + 1) (λ n. either (eqb n 1) 2 n)
    (moved_told grabs_told (step slots (lane + 1) 1 2 none) (sat a p, c))
grabs_allowed a slots id p c lane log held idle room s r len at small =
    let x : ℕ = get_or s.words (lane + 1) 0 in
    let views : List View = views_of s.views in
    let is : get_elem? views id ≡ some (one a p) = view_at s.views id at in
    dite (ℕ_discrete x 1) (λ hit.
    let t = posted_of x (get_elem? s.homes (lane + 1)) (r.cell lane) (r.cells lane) hit in
    let w : Sight = sat a (grabbed p lane t.0 t.1) in (
      w,
      takes (lane + 1) (Asked t.0 t.1),
      t.3,
      subst (λ b. InOneOrder a (stepped s (lane + 1) (either b 2 x) id c w (takes (lane + 1) (Asked t.0 t.1))))
          (sym (eq-eqb x 1 hit))
          (moved_cell a s r lane 2 none (cells.Serving t.0 t.1) id a (grabbed p lane t.0 t.1) (omega arith)
          (r.housed id (sat a p) at) refl (λ j l v not e lies same. let free = r.laid j l v e lies in
          let no : cells.Posted t.0 t.1 ≡ cells.Empty = sym t.2 ∙ (ap r.cell (sym same) ∙ free.0) in cc)
          (serving.grabs id is log lane t.0 t.1 r.history held idle t.2)),
      (
        (λ lane' word.
            let e : lane ≡ lane' = omega arith in (
              (λ _. (t.0, t.1, λ i. (sat a (grabbed p (e i) t.0 t.1), (lane + 1, Asked t.0 t.1) ∷ c))),
              λ not. absurd (not hit),
            )),
        (refl, (move.grabs lane t.0 t.1, (refl, ap (λ (n : ℕ). Some n) hit, (log, held), refl, refl, idle), refl)),
      ),
    )) (λ miss. (
      sat a (looked_at p lane (finished x lane p.lane)),
      keeps,
      tt,
      subst
          (λ d. InOneOrder a (stepped s (lane + 1) (either d 2 x) id c
          (sat a (looked_at p lane (finished x lane p.lane)))
          keeps)) (sym (ne_eqb x 1 miss)) (looked a s r id p c lane is (r.housed id (sat a p) at)),
      (
        (λ lane' word.
            let e : lane ≡ lane' = omega arith in (
              (λ hit. absurd (miss hit)),
              λ _. (
                (λ i. (sat a (looked_at p (e i) (finished x (e i) p.lane)), c)),
                λ same has. own_answered a s r id p lane log is held idle miss (e ∙ same) has,
              ),
            )),
        (refl, (move.looks lane (finished x lane p.lane), (refl, (x, refl, miss, refl), (log, held)), refl)),
      ),
    ))

answers_allowed : (a : State) (slots id : ℕ) (p : Part) (c : List (ℕ × SlotValue)) (lane m : ℕ) (ask : Ask)
    (reply : Result Answer Errno) (log : List Event) (last next : State) → p.holding ≡ Some log
    → p.serving ≡ Some (service lane m ask) → IsLegal a log last → Step last (event_of lane m ask reply) next
    → lane + 1 < slots → Allows (InOneOrder a) slots id (sat a p, (lane + 1, Replied reply) ∷ c) (lane + 1) (λ _. 3)
    (λ _. stored_told answers_told (step slots (lane + 1) 3 0 none) (sat a p, (lane + 1, Replied reply) ∷ c) 3)
answers_allowed a slots id p c lane m ask reply log last next held serves legal does room s r len at small =
    let views : List View = views_of s.views in
    let is : get_elem? views id ≡ some (one a p) = view_at s.views id at in
    let k = law.own id is r.history in
    let t = k.holding log held in
    let was : r.cell lane ≡ cells.Serving m ask =
    r.history.served (service lane m ask) (sym t.same_service ∙ serves) in (
      sat a (answered p log (event_of lane m ask reply)),
      gives,
      tt,
      moved_cell a s r lane 3 (some (Replied reply)) (cells.Answered m ask reply) id a
          (answered p log (event_of lane m ask reply)) (omega arith) (r.housed id (sat a p) at) (refl, refl)
          (λ j l v not e lies same. let free = r.laid j l v e lies in
          let no : cells.Serving m ask ≡ cells.Empty = sym was ∙ (ap r.cell (sym same) ∙ free.0) in cc)
          (serving.answers id is log lane m ask reply last next r.history held serves legal does),
      (
        (λ log' lane' m' ask' reply' held' serves' slot.
            let el : log ≡ log' = cc in
            let es : service lane m ask ≡ service lane' m' ask' = cc in
            let head : ◌≡◌ {A = ℕ × SlotValue} (lane + 1, Replied reply) (lane + 1, Replied reply') = cc in
            let said : Replied reply ≡ Replied reply' = ap (λ (q : ℕ × SlotValue). q.1) head in
            let er : reply ≡ reply' = cc in
            λ i. (sat a (answered p (el i) (event_of (es i).lane (es i).moment (es i).ask (er i))), c)),
        (refl, (move.answers log (event_of lane m ask reply), (refl, refl, held, serves, refl), refl)),
      ),
    )

brings_allowed : (a : State) (slots id : ℕ) (p : Part) (c : List (ℕ × SlotValue)) (store : State) (log : List Event)
    → p.holding ≡ Some log → p.serving ≡ None → IsLegal a log store
    → Allows (InOneOrder a) slots id (sat a p, (0, Home store) ∷ c) 0 (λ n. either (eqb n 1) 0 n)
    (moved_told brings_told (step slots 0 1 0 none) (sat a p, (0, Home store) ∷ c))
brings_allowed a slots id p c store log held idle legal s r len at small =
    let x : ℕ = turn s in
    let views : List View = views_of s.views in
    let is : get_elem? views id ≡ some (one a p) = view_at s.views id at in
    let t = law.puts_none id is log store r.history held idle legal in
    let k = law.own id is r.history in
    let mine : p.flight ≡ None → events_of p.lane log ≡ p.mine =
    λ quiet. ap (events_of p.lane) (k.holding log held).whole
    ∙ law.idle_mine p r.history.log (r.cell p.lane) quiet k.fits in
    let w : Sight = sat a (put_none p log) in (
      w,
      gives,
      tt,
      subst (λ b. InOneOrder a (stepped s 0 (either b 0 x) id ((0, Home store) ∷ c) w gives)) (sym (eq-eqb x 1 t.0))
          (moved_home a s r 0 (some (Home store)) (Some store) id a (put_none p log) (r.housed id (sat a p) at) refl
          t.1),
      (
        (λ log' held'.
            let el : log ≡ log' = cc in (
              (λ i. (sat a (put_none p (el i)), c)),
              λ quiet. ap (events_of p.lane) (sym el) ∙ mine quiet,
            )),
        (refl, (move.puts_none log, ((refl, refl, refl), ap (λ (n : ℕ). Some n) t.0, held, idle), refl)),
      ),
    )

-- The same, of a token as it comes.

pub glances_at : (key : State) (slots id lane : ℕ) (m : Me) → HoldsAll m
    → Allows (InOneOrder key) slots id m (lane + 1) (λ n. n)
    (moved_told glances_told (step slots (lane + 1) 0 0 none) m)
glances_at key slots id lane m h = allowed_at (λ n. n) (moved_told glances_told (step slots (lane + 1) 0 0 none)) h.has
    (glances_allowed (opening m) slots id (part m)
    ((0, Home h.last) ∷ hand_of (part m).flight (part m).lane) lane h.log h.held
    h.unserving)

pub grabs_at : (key : State) (slots id lane : ℕ) (m : Me) → HoldsAll m → lane + 1 < slots
    → Allows (InOneOrder key) slots id m (lane + 1) (λ n. either (eqb n 1) 2 n)
    (moved_told grabs_told (step slots (lane + 1) 1 2 none) m)
grabs_at key slots id lane m h room = allowed_at (λ n. either (eqb n 1) 2 n)
    (moved_told grabs_told (step slots (lane + 1) 1 2 none)) h.has
    (grabs_allowed (opening m) slots id (part m)
    ((0, Home h.last) ∷ hand_of (part m).flight (part m).lane) lane h.log h.held
    h.unserving room)

pub answers_at : (key a : State) (slots id lane m : ℕ) (ask : Ask) (reply : Result Answer Errno) (p : Part)
    (c : List (ℕ × SlotValue)) (log : List Event) (last next : State) (n : Me)
    → n ≡ (sat a (grabbed p lane m ask), (lane + 1, Replied reply) ∷ c) → p.holding ≡ Some log → IsLegal a log last
    → Step last (event_of lane m ask reply) next → lane + 1 < slots
    → Allows (InOneOrder key) slots id n (lane + 1) (λ _. 3)
    (λ _. stored_told answers_told (step slots (lane + 1) 3 0 none) n 3)
answers_at key a slots id lane m ask reply p c log last next n is held legal does room =
    allowed_at (λ _. 3) (λ z _. stored_told answers_told (step slots (lane + 1) 3 0 none) z 3) is
    (answers_allowed a slots id (grabbed p lane m ask) c lane m ask reply log last next held refl legal does room)

pub brings_at : (key : State) (slots id : ℕ) (m : Me) → HoldsAll m
    → Allows (InOneOrder key) slots id m 0 (λ k. either (eqb k 1) 0 k)
    (moved_told brings_told (step slots 0 1 0 none) m)
brings_at key slots id m h = allowed_at (λ k. either (eqb k 1) 0 k)
    (moved_told brings_told (step slots 0 1 0 none)) h.has
    (brings_allowed (opening m) slots id (part m)
    (hand_of (part m).flight (part m).lane) h.last h.log h.held h.unserving
    h.legal)
