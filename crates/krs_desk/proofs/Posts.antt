-- Posting a call and collecting its reply keep the rule of the table, and what their callers are told.
use Rattle.std.proofs.Common.{[], ◌++◌, ◌+◌, ◌<◌, ◌∙◌, ◌∷◌, ◌≡◌, ap, arith, Bool, eq-eqb, eqb, false, get_or, List}
use Rattle.std.proofs.Common.{ne_eqb, None, refl, Result, Some, subst, sym, true, ℕ}
use Rattle.atomic_table.specs.{Seated.TableId, Table.{Allows, gives, keeps, rest, step, stepped, takes}}
use lib.ListN.{get_elem?}
use mathlib.Core.{Logic.dite, Option.{none, some}}
use native.Mathlib.Decide.{ℕ_discrete}
use prog.Atomic.{either}
use Rattle.krs_types.specs.declared.{ask.{Answer.Answer, Ask.Ask}, errno.Errno.Errno, event.Event.Event}
use Rattle.krs_model.specs.{History.event_of, Lists.Begins, State.State}
use Rattle.krs_world.specs.History.{Fits}
use Rattle.krs_world.specs.{Knowing.{collected, one, posted}, declared.view.{Cell.Cell, Part.Part, View.View}}
use Rattle.krs_desk.specs.{Moves.{moved_told, stored_told}, Parts.{hand_of, sat, views_of}}
use Rattle.krs_desk.specs.{Rule.{CellIs, InOneOrder, IsVacant}, Seated.{IsSeated, Me, opening, part, sitting_of}}
use Rattle.krs_desk.specs.{Sitting.{Collects, posted_by, Sitting}, Steps.{collects_told, Gathers, posts_told}}
use Rattle.krs_desk.specs.declared.{slot.SlotValue.{SlotValue, TheVariants.{Asked, Empty, Replied}}, token.Sight.Sight}
use Rattle.krs_desk.proofs.Cells.{lies_apart, moved_cell}
use Rattle.krs_desk.proofs.{Seats.own_slot, TurnSteps.{allowed_at, sat_lies, Slot, unmoved, view_at}}
use Rattle.krs_desk.specs.Moves as move
use Rattle.krs_world.proofs.Keeping as law
use Rattle.krs_world.proofs.Posting as posting
use Rattle.krs_world.specs.declared.view.Cell.TheVariants as cells
use mathlib.Core.Option as maybe

-- Posting.

posts_allowed : (a : State) (slots id : ℕ) (p : Part) (m : ℕ) (ask : Ask) → p.flight ≡ None → p.lane + 1 < slots
    → Allows (InOneOrder a) slots id (sat a p, (p.lane + 1, Asked m ask) ∷ []) (p.lane + 1) (λ _. 1)
    (λ _. stored_told posts_told (step slots (p.lane + 1) 1 0 none) (sat a p, (p.lane + 1, Asked m ask) ∷ []) 1)
posts_allowed a slots id p m ask idle room s r len at small =
    let views : List View = views_of s.views in
    let is : get_elem? views id ≡ some (one a p) = view_at s.views id at in (
      sat a (posted p m ask),
      gives,
      tt,
      moved_cell a s r p.lane 1 (some (Asked m ask)) (cells.Posted m ask) id a (posted p m ask) (omega arith)
          (r.housed id (sat a p) at) (refl, refl) (λ j l v not e lies. lies_apart a s r id p is j l v not e lies)
          (posting.posts id is r.history m ask idle),
      (
        (λ m' ask' same.
            let head : ◌≡◌ {A = ℕ × SlotValue} (p.lane + 1, Asked m ask) (p.lane + 1, Asked m' ask') = cc in
            let said : Asked m ask ≡ Asked m' ask' = ap (λ (q : ℕ × SlotValue). q.1) head in
            let em : m ≡ m' = cc in
            let ea : ask ≡ ask' = cc in
            λ i. (sat a (posted p (em i) (ea i)), [])),
        (refl, (move.posts m ask, (refl, refl, refl, idle), refl)),
      ),
    )

pub posts_at :
    (key : State) (slots id : ℕ) {lane : ℕ} {idle : Bool} {m n : Me} {moment : ℕ} {ask : Ask} → IsSeated lane idle m
    → (part m).flight ≡ None → n ≡ (m.0, (lane + 1, Asked moment ask) ∷ rest m.1) → lane + 1 < slots
    → Allows (InOneOrder key) slots id n (lane + 1) (λ _. 1)
    (λ _. stored_told posts_told (step slots (lane + 1) 1 0 none) n 1)
posts_at key slots id {lane} {m = m} {n} {moment} {ask} seated quiet e room =
    let p : Part = part m in
    let is : lane ≡ p.lane = seated.numbered in
    let now : n ≡ (sat (opening m) p, (p.lane + 1, Asked moment ask) ∷ []) = e ∙ (λ i. (
      ap (λ (k : Me). k.0) seated.rests.0 i,
      (is i + 1, Asked moment ask) ∷ rest (own_slot seated quiet i),
    )) in
    subst (λ (l : ℕ). Allows (InOneOrder key) slots id n (l + 1) (λ _. 1)
    (λ _. stored_told posts_told (step slots (l + 1) 1 0 none) n 1)) (sym is)
    (allowed_at (λ _. 1) (λ z _. stored_told posts_told (step slots (p.lane + 1) 1 0 none) z 1) now
    (posts_allowed (opening m) slots id p moment ask quiet (subst (λ (l : ℕ). l + 1 < slots) is room)))

-- the token of a seat after its call was posted
pub posted_is : (slots : ℕ) {lane : ℕ} {idle : Bool} {m n w : Me} {moment : ℕ} {ask : Ask} → IsSeated lane idle m
    → (part m).flight ≡ None → n ≡ (m.0, (lane + 1, Asked moment ask) ∷ rest m.1)
    → posts_told (step slots (lane + 1) 1 0 none) n 1 w → w ≡ (sat (opening m) (posted (part m) moment ask), [])
posted_is slots {lane} {m = m} {moment = moment} {ask = ask} seated quiet e told =
    let slot : m.1 ≡ (lane + 1, Empty) ∷ [] = own_slot seated quiet in
    told moment ask
    (ap (λ (k : Me). k.1) e ∙ ap (λ (c : List (ℕ × SlotValue)). (lane + 1, Asked moment ask) ∷ rest c) slot)
    ∙ ap (λ (k : Me). (sat (opening k) (posted (part k) moment ask), [])) e

pub posted_seated : {lane : ℕ} {idle : Bool} {m n : Me} {moment : ℕ} {ask : Ask} → IsSeated lane idle m
    → n ≡ (sat (opening m) (posted (part m) moment ask), []) → IsSeated lane false n
posted_seated {lane} seated is = subst (λ (z : Me). IsSeated lane false z) (sym is)
    record {
      rests = (refl, seated.rests.1);
      unserving = seated.unserving;
      tells = refl;
      numbered = seated.numbered;
      sound = seated.sound;
      last = seated.last;
      legal = seated.legal;
    }

pub posts_is :
    {k l : TableId} {served now : ℕ} (m : Me) {n : Me} {s : Sitting} {moment : ℕ} {ask : Ask}
    → sitting_of k served m ≡ s
    → l ≡ k → now ≡ 0 → n ≡ (sat (opening m) (posted (part m) moment ask), [])
    → sitting_of l now n ≡ posted_by s moment ask
posts_is m {moment = moment} {ask = ask} view same zero_is is =
    (λ i. sitting_of (same i) (zero_is i) (is i)) ∙ ap (λ (z : Sitting). posted_by z moment ask) view

-- Collecting.

-- what a lane's cell is whose word is 3
pub answered_of : (x : ℕ) (slot : maybe.Option Slot) (c : Cell) → CellIs x slot c → x ≡ 3
    → (m : ℕ) × (ask : Ask) × (r : Result Answer Errno) × (c ≡ cells.Answered m ask r) ×
    (slot ≡ some (some (Replied r)))
answered_of x slot cells.Empty is e = absurd (let zero_is : x ≡ 0 = is in omega arith)
answered_of x slot (cells.Posted m ask) is e = absurd (let one_is : x ≡ 1 = is.0 in omega arith)
answered_of x slot (cells.Serving m ask) is e = absurd (let two_is : x ≡ 2 = is in omega arith)
answered_of x slot (cells.Answered m ask r) is e = (m, ask, r, refl, is.1)

-- a lane that is done has its cell answered
done_of : (x : ℕ) (slot : maybe.Option Slot) (c : Cell) (log : List Event) (p : Part) → CellIs x slot c → Fits log p c
    → p.done ≡ true → x ≡ 3
done_of x slot cells.Empty log p is f d = absurd (let no : true ≡ false = sym d ∙ f.2 in cc)
done_of x slot (cells.Posted m ask) log p is f d = absurd (let no : true ≡ false = sym d ∙ f.3 in cc)
done_of x slot (cells.Serving m ask) log p is f d = absurd (let no : true ≡ false = sym d ∙ f.3 in cc)
done_of x slot (cells.Answered m ask r) log p is f d = is.0

collects_allowed :
    (a : State) (slots id : ℕ) (p : Part) (c : List (ℕ × SlotValue)) → p.holding ≡ None → p.lane + 1 < slots
    → Allows (InOneOrder a) slots id (sat a p, c) (p.lane + 1) (λ n. either (eqb n 3) 0 n)
    (moved_told collects_told (step slots (p.lane + 1) 3 0 none) (sat a p, c))
collects_allowed a slots id p c empty room s r len at small =
    let lane : ℕ = p.lane in
    let x : ℕ = get_or s.words (lane + 1) 0 in
    let views : List View = views_of s.views in
    let is : get_elem? views id ≡ some (one a p) = view_at s.views id at in
    let k = law.own id is r.history in
    dite (ℕ_discrete x 3) (λ hit.
    let t = answered_of x (get_elem? s.homes (lane + 1)) (r.cell lane) (r.cells lane) hit in
    let e : Event = event_of lane t.0 t.1 t.2 in
    let log : List Event = r.history.log in
    let fit : Fits log p (cells.Answered t.0 t.1 t.2) = subst (Fits log p) t.3 k.fits in
    let w : Sight = sat a (collected p log e) in (
      w,
      takes (lane + 1) (Replied t.2),
      t.4,
      subst (λ b. InOneOrder a (stepped s (lane + 1) (either b 0 x) id c w (takes (lane + 1) (Replied t.2))))
          (sym (eq-eqb x 3 hit)) (moved_cell a s r lane 0 none cells.Empty id a (collected p log e) (omega arith)
          (r.housed id (sat a p) at) refl (λ j l v not e lies. lies_apart a s r id p is j l v not e lies)
          (posting.collects id is r.history t.0 t.1 t.2 log t.3 k.seen
          (law.prefix_self log) (subst (Begins (p.mine ++ e ∷ [])) (sym fit.2) (law.prefix_self (p.mine ++ e ∷ []))))),
      (
        (
          (λ _. (
            log,
            t.0,
            t.1,
            t.2,
            refl,
            record {
              last = r.history.last;
              legal = r.history.legal;
              seen = k.seen;
              before = fit.0;
              posted = fit.1;
              mine = fit.2;
              after = fit.3;
            },
          )),
          λ not. absurd (not hit),
        ),
        (refl, (move.collects log e, (refl, ap (λ (n : ℕ). Some n) hit, empty, k.seen, refl, refl), refl)),
      ),
    )) (λ miss. (
      sat a p,
      keeps,
      tt,
      subst (λ b. InOneOrder a (stepped s (lane + 1) (either b 0 x) id c (sat a p) keeps)) (sym (ne_eqb x 3 miss))
          (unmoved a s r (lane + 1) id (sat a p) c (λ l lies. sat_lies (IsVacant s.homes r.cell) a p l lies)
          (r.housed id (sat a p) at) (law.stays id is r.history p refl refl (λ e. e) k)),
      (
        (
          (λ hit. absurd (miss hit)),
          λ _. (
            refl,
            λ d. miss (done_of x (get_elem? s.homes (lane + 1)) (r.cell lane) r.history.log p (r.cells lane) k.fits d),
          ),
        ),
        (refl, (move.stays, (refl, (x, refl, miss), empty), refl)),
      ),
    ))

pub collects_at :
    (key : State) (slots id : ℕ) {lane : ℕ} {idle : Bool} {m : Me} → IsSeated lane idle m → lane + 1 < slots
    → Allows (InOneOrder key) slots id m (lane + 1) (λ n. either (eqb n 3) 0 n)
    (moved_told collects_told (step slots (lane + 1) 3 0 none) m)
collects_at key slots id {lane} {m = m} seated room =
    let p : Part = part m in
    let is : lane ≡ p.lane = seated.numbered in
    subst (λ (l : ℕ). Allows (InOneOrder key) slots id m (l + 1) (λ n. either (eqb n 3) 0 n)
    (moved_told collects_told (step slots (l + 1) 3 0 none) m)) (sym is)
    (allowed_at (λ n. either (eqb n 3) 0 n) (moved_told collects_told (step slots (p.lane + 1) 3 0 none)) seated.rests.0
    (collects_allowed (opening m) slots id p (hand_of p.flight p.lane) seated.rests.1
    (subst (λ (l : ℕ). l + 1 < slots) is room)))

-- the reply that was told is the one that was read
same_reply :
    (i : ℕ) (told : Result Answer Errno) (x : SlotValue) (reply : Result Answer Errno) (c d : List (ℕ × SlotValue))
    → (i, Replied told) ∷ c ≡ (i, x) ∷ d → x ≡ Replied reply → told ≡ reply
same_reply i told x reply c d both read =
    let head : ◌≡◌ {A = ℕ × SlotValue} (i, Replied told) (i, x) = cc in
    let one_value : Replied told ≡ Replied reply = ap (λ (q : ℕ × SlotValue). q.1) head ∙ read in
    cc

-- the token of a seat after its reply was taken out of its slot
pub collected_is : (m : Me) (moment : ℕ) (ask : Ask) {n w : Me} {x : SlotValue} {i : ℕ} {log : List Event}
    {told reply : Result Answer Errno}
    → n ≡ (sat (opening m) (collected (part m) log (event_of (part m).lane moment ask told)), (i, Replied told) ∷ m.1)
    → n.1 ≡ (i, x) ∷ rest n.1 → x ≡ Replied reply → w ≡ (n.0, (i, Empty) ∷ rest n.1)
    → w ≡ (sat (opening m) (collected (part m) log (event_of (part m).lane moment ask reply)), (i, Empty) ∷ m.1)
collected_is m moment ask {n} {x = x} {i} {log} {told} {reply} is slot read left =
    let same : told ≡ reply = same_reply i told x reply m.1 (rest n.1) (sym (ap (λ (k : Me). k.1) is) ∙ slot) read in
    left ∙ (ap (λ (k : Me). (k.0, (i, Empty) ∷ rest k.1)) is ∙ ap (λ (z : Result Answer Errno). (
      sat (opening m) (collected (part m) log (event_of (part m).lane moment ask z)),
      (i, Empty) ∷ m.1,
    )) same)

-- and what was gathered, with the reply that was read
pub gathered :
    (m : Me) {n : Me} {x : SlotValue} {i : ℕ} {log : List Event} {moment : ℕ} {ask : Ask}
    {told reply : Result Answer Errno}
    → n ≡ (sat (opening m) (collected (part m) log (event_of (part m).lane moment ask told)), (i, Replied told) ∷ m.1)
    → n.1 ≡ (i, x) ∷ rest n.1 → x ≡ Replied reply
    → Gathers (opening m) (part m) (event_of (part m).lane moment ask told) log
    → Gathers (opening m) (part m) (event_of (part m).lane moment ask reply) log
gathered m {n} {x} {i} {log} {moment} {ask} {told} {reply} is slot read g =
    subst (λ (z : Result Answer Errno). Gathers (opening m) (part m) (event_of (part m).lane moment ask z) log)
    (same_reply i told x reply m.1 (rest n.1) (sym (ap (λ (k : Me). k.1) is) ∙ slot) read) g

collects : (k : TableId) (a b : ℕ) (m : Me) (log : List Event) (moment : ℕ) (ask : Ask) (reply : Result Answer Errno)
    (c : List (ℕ × SlotValue)) → Gathers (opening m) (part m) (event_of (part m).lane moment ask reply) log
    → Collects (sitting_of k a m) reply
    (sitting_of k b (sat (opening m) (collected (part m) log (event_of (part m).lane moment ask reply)), c))
collects k a b m log moment ask reply c g = record {
  table = refl;
  opening = refl;
  lane = refl;
  moment = moment;
  ask = ask;
  before = g.before;
  posted = g.posted;
  seen = g.seen;
  last = g.last;
  legal = g.legal;
  stands = g.after;
  mine = refl;
  own = g.mine;
  taken = refl;
  found = refl;
  checked = refl;
  idle = (refl, refl);
}

pub collects_is : {k l : TableId} {a b : ℕ} (m : Me) {w : Me} {s : Sitting} {log : List Event} {moment : ℕ} {ask : Ask}
    {reply : Result Answer Errno} {c : List (ℕ × SlotValue)} → sitting_of k a m ≡ s → l ≡ k
    → w ≡ (sat (opening m) (collected (part m) log (event_of (part m).lane moment ask reply)), c)
    → Gathers (opening m) (part m) (event_of (part m).lane moment ask reply) log → Collects s reply (sitting_of l b w)
collects_is {k} {a = a} {b = b} m {log = log} {moment = moment} {ask = ask} {reply = reply} {c = c} view same is g =
    subst (λ (z : Sitting × Sitting). Collects z.0 reply z.1) (λ i. (view i, sitting_of (sym same i) b (sym is i)))
    (collects k a b m log moment ask reply c g)
