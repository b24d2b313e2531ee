-- A call that is served as the last of its turn: what its token and its seat are then, and what its caller is told.
use Rattle.std.proofs.Common.{[], ◌++◌, ◌+◌, ◌∙◌, ◌∷◌, ◌≡◌, ap, append-nil, arith, Bool, List, None, refl, Result, Some}
use Rattle.std.proofs.Common.{subst, sym, ℕ}
use Rattle.atomic_table.specs.{Seated.TableId, Table.rest}
use Rattle.krs_types.specs.declared.{ask.{Answer.Answer, Ask.Ask}, errno.Errno.Errno, event.Event.Event}
use Rattle.krs_model.specs.{History.{event_of, IsLegal}, Lists.Begins, Sound.IsSound, State.State, Step.Step}
use Rattle.krs_model.proofs.History.Legal.{legal_more}
use Rattle.krs_world.specs.{Knowing.{events_of, put_none, put_own, taken}, declared.view.Part.Part}
use Rattle.krs_world.proofs.Keeping.{own_event, prefix_more}
use Rattle.krs_desk.specs.Helping.{below, Finishes, Goes, HasLooked, held_of, HoldsAll, round_of}
use Rattle.krs_desk.specs.{Keeping.GoesRound, Parts.{hand_of, sat}}
use Rattle.krs_desk.specs.Seated.{Holds, HoldsBefore, is_free, IsSeated, Me, opening, part, Serves, sitting_of}
use Rattle.krs_desk.specs.{Sitting.{Adds, Sitting}, declared.slot.SlotValue.{SlotValue, TheVariants.Home}}
use Rattle.krs_desk.proofs.{Helps.held_at, Seats.same_store}

-- The token.

pub serves_is : (m w : Me) (e : Event) (h : HoldsAll m) (s : Serves m e w)
    → w ≡ (sat (opening m) (part m), (0, Home s.after) ∷ hand_of (part m).flight (part m).lane)
serves_is m w e h s = s.has ∙ ap (λ (k : Me). (k.0, (0, Home s.after) ∷ rest k.1)) h.has

-- the step was made on the store that ends the list
pub serves_last : (m w : Me) (e : Event) (h : HoldsAll m) (s : Serves m e w) → Step h.last e s.after
serves_last m w e h s =
    let c : List (ℕ × SlotValue) = hand_of (part m).flight (part m).lane in
    let both : (0, Home s.before) ∷ rest m.1 ≡ (0, Home h.last) ∷ c = sym s.had ∙ ap (λ (k : Me). k.1) h.has in
    let head : ◌≡◌ {A = ℕ × SlotValue} (0, Home s.before) (0, Home h.last) = cc in
    let same : s.before ≡ h.last = same_store s.before h.last (ap (λ (z : ℕ × SlotValue). z.1) head) in
    subst (λ (z : State). Step z e s.after) same s.step

pub holds_before :
    (m w : Me) (e : Event) → (part m).flight ≡ None → (h : HoldsAll m) → Serves m e w → HoldsBefore w h.log e
holds_before m w e quiet h s = subst (λ (z : Me). HoldsBefore z h.log e) (sym (serves_is m w e h s))
    record {
      last = h.last;
      after = s.after;
      has = refl;
      held = h.held;
      legal = h.legal;
      step = serves_last m w e h s;
      unserving = h.unserving;
      idle = quiet;
    }

pub finished : (m w n : Me) (said e : Event) → said ≡ e → (h : HoldsAll m) → Serves m e w
    → ((l : List Event) → (part w).holding ≡ Some l → n ≡ (sat (opening w) (put_own (part w) l said), rest w.1))
    → ((l : List Event) → (part w).holding ≡ Some l → events_of (part w).lane l ≡ (part w).mine) → Finishes m e n
finished m w n said e says h s put mine =
    let w_is = serves_is m w e h s in
    let held : (part w).holding ≡ Some h.log = ap (λ (k : Me). (part k).holding) w_is ∙ h.held in
    record {
      log = h.log;
      last = h.last;
      after = s.after;
      held = h.held;
      has = put h.log held ∙ (ap (λ (k : Me). (sat (opening k) (put_own (part k) h.log said), rest k.1)) w_is
          ∙ ((λ i. (sat (opening m) (put_own (part m) h.log (says i)), hand_of (part m).flight (part m).lane))
          ∙ ap (λ (c : List (ℕ × SlotValue)). (sat (opening m) (put_own (part m) h.log e), c))
          (sym (ap (λ (k : Me). rest k.1) h.has))));
      legal = h.legal;
      step = serves_last m w e h s;
      mine = ap (λ (p : Part). events_of p.lane h.log) (sym (ap part w_is))
          ∙ (mine h.log held ∙ ap (λ (k : Me). (part k).mine) w_is);
    }

-- The seat.

-- A token in a turn: m as its caller knows it, and k as it has the turn. The list that it holds begins with all that
-- its caller knows of, and its lane, calls and slots are as they were.
pub record InTurn (lane : ℕ) (idle : Bool) (m k : Me) : Type 0 where
  pub numbered : lane ≡ (part m).lane
  pub tells : idle ≡ is_free (part m).flight
  pub sound : IsSound (opening m)
  pub holds : HoldsAll k
  pub opens : opening k ≡ opening m
  pub same_lane : (part k).lane ≡ (part m).lane
  pub flight : (part k).flight ≡ (part m).flight
  pub mine : (part k).mine ≡ (part m).mine
  pub seen : Begins (part m).seen (held_of (part k).holding)

-- the turn was just had
pub in_turn : {lane : ℕ} {idle : Bool} {m n : Me} → IsSeated lane idle m → Holds m n → InTurn lane idle m n
in_turn {lane} {idle} {m} {n} seated had = subst (InTurn lane idle m) (sym had.has)
    record {
      numbered = seated.numbered;
      tells = seated.tells;
      sound = seated.sound;
      holds = record {
        log = had.log;
        last = had.last;
        has = ap (λ (k : Me). (sat (opening m) (taken (part m) had.log), (0, Home had.last) ∷ k.1)) seated.rests.0;
        held = refl;
        legal = had.found.legal;
        unserving = seated.unserving;
      };
      opens = refl;
      same_lane = refl;
      flight = refl;
      mine = refl;
      seen = had.found.seen;
    }

-- calls that were posted were answered in it
pub turn_on : {lane : ℕ} {idle : Bool} {m n k : Me} {count lanes : ℕ} → InTurn lane idle m n → Goes n count lanes k
    → InTurn lane idle m k
turn_on {m = m} {n = n} {k = k} {count = count} {lanes = lanes} t g = record {
  numbered = t.numbered;
  tells = t.tells;
  sound = t.sound;
  holds = held_at n k count lanes t.holds g;
  opens = ap opening g.1 ∙ t.opens;
  same_lane = g.2.stays.same_lane ∙ t.same_lane;
  flight = g.2.stays.flight ∙ t.flight;
  mine = g.2.stays.mine ∙ t.mine;
  seen = subst (λ h. Begins (part m).seen (held_of h)) (sym g.2.holds)
      (prefix_more (part m).seen (held_of (part n).holding) g.2.events t.seen);
}

-- the turn is given back with no call of the seat
pub brought_seated : {lane : ℕ} {idle : Bool} {m k w : Me} → InTurn lane idle m k
    → w ≡ (sat (opening k) (put_none (part k) (held_of (part k).holding)), rest k.1) → IsSeated lane idle w
brought_seated {lane} {idle} {k = k} t is =
    let p : Part = put_none (part k) (held_of (part k).holding) in
    subst (λ (z : Me). IsSeated lane idle z) (sym is)
    record {
      rests = (ap (λ (z : Me). (sat (opening k) p, rest z.1)) t.holds.has, refl);
      unserving = t.holds.unserving;
      tells = t.tells ∙ ap (λ f. is_free f) (sym t.flight);
      numbered = t.numbered ∙ sym t.same_lane;
      sound = subst (λ (z : State). IsSound z) (sym t.opens) t.sound;
      last = t.holds.last;
      legal = subst (λ l. IsLegal (opening k) l t.holds.last) (sym (ap held_of t.holds.held)) t.holds.legal;
    }

-- A call of the seat was served as the last of the turn.
module _ {lane : ℕ} {idle : Bool} {m k w : Me} {e : Event} (t : InTurn lane idle m k) (f : Finishes k e w) where
  begun : Begins (part m).seen f.log
  begun = subst (λ h. Begins (part m).seen (held_of h)) f.held t.seen

  legal_left : IsLegal (opening m) (f.log ++ e ∷ []) f.after
  legal_left = subst (λ (a : State). IsLegal a (f.log ++ e ∷ []) f.after) t.opens
      (legal_more (opening k) f.last f.after f.log e f.legal f.step)

  -- its token, once the turn is given back
  abbrev left : Me
  left = (sat (opening m) (put_own (part k) f.log e), hand_of (part m).flight (part m).lane)

  hand_same : hand_of (part k).flight (part k).lane ≡ hand_of (part m).flight (part m).lane
  hand_same = λ i. hand_of (t.flight i) (t.same_lane i)

  is_left : w ≡ left
  is_left =
      f.has ∙ (λ i. (sat (t.opens i) (put_own (part k) f.log e), (ap (λ (z : Me). rest z.1) t.holds.has ∙ hand_same) i))

  pub turn_seated : IsSeated lane idle w
  turn_seated = subst (λ (z : Me). IsSeated lane idle z) (sym is_left)
      record {
        rests = (ap (λ c. (sat (opening m) (put_own (part k) f.log e), c)) (sym hand_same), refl);
        unserving = t.holds.unserving;
        tells = t.tells ∙ ap (λ f. is_free f) (sym t.flight);
        numbered = t.numbered ∙ sym t.same_lane;
        sound = t.sound;
        last = f.after;
        legal = legal_left;
      }

  pub turn_idle : (part m).flight ≡ None → (part w).flight ≡ None
  turn_idle quiet = ap (λ (z : Me). (part z).flight) f.has ∙ (t.flight ∙ quiet)

  pub adds : (table : TableId) (a b : ℕ) → e.lane ≡ lane → Adds (sitting_of table a m) e (sitting_of table b w)
  adds table a b own = subst (λ (z : Me). Adds (sitting_of table a m) e (sitting_of table b z)) (sym is_left)
      record {
        table = refl;
        opening = refl;
        lane = t.same_lane;
        upto = f.log ++ e ∷ [];
        between = begun.0;
        last = f.after;
        begins = ([], append-nil (f.log ++ e ∷ []));
        legal = legal_left;
        ends = ap (λ l. l ++ e ∷ []) (sym begun.1);
        mine = ap (λ l. l ++ e ∷ []) t.mine;
        own = own_event (part k).lane f.log e (own ∙ (t.numbered ∙ sym t.same_lane)) ∙ ap (λ l. l ++ e ∷ []) f.mine;
      }

pub turn_adds :
    {table same_table : TableId} {a b lane moment : ℕ} {ask : Ask} {reply : Result Answer Errno} {idle : Bool}
    {m k w : Me} {s : Sitting} → sitting_of table a m ≡ s → same_table ≡ table → InTurn lane idle m k
    → Finishes k (event_of lane moment ask reply) w
    → Adds s (event_of s.part.lane moment ask reply) (sitting_of same_table b w)
turn_adds {table} {same_table} {a} {b} {lane} {moment} {ask} {reply} {m = m} {w = w} {s} view same t f =
    subst (λ (z : Sitting × ℕ). Adds z.0 (event_of z.1 moment ask reply) (sitting_of same_table b w))
    (λ i. (view i, (t.numbered ∙ ap (λ (z : Sitting). z.part.lane) view) i))
    (subst (λ (z : TableId). Adds (sitting_of table a m) (event_of lane moment ask reply) (sitting_of z b w)) (sym same)
    (adds t f table a b refl))

-- the cells were looked at in it
pub turn_looked :
    {desk was : TableId} {posted : Bool} {a : ℕ} {s : Sitting} {m n k w : Me} {e : Event}
    → sitting_of was a m ≡ s
    → Holds m n → GoesRound desk posted n k → Finishes k e w → HasLooked desk s (sitting_of desk 0 w)
turn_looked {desk} {posted = posted} {s = s} {m = m} {n = n} {w = w} view h g f =
    let before : (part m).taken ≡ s.part.taken = ap (λ (z : Sitting). z.part.taken) view in
    let then : (part n).taken ≡ (part m).taken + 1 = ap (λ (z : Me). (part z).taken) h.has in
    let same : (part w).taken ≡ (part n).taken = ap (λ (z : Me). (part z).taken) f.has ∙ g.goes.2.stays.taken in
    let none : (part n).checked ≡ [] = ap (λ (z : Me). (part z).checked) h.has in (
      λ lt. (
        posted,
        ap (λ (z : Me). (part z).checked) f.has
            ∙ (g.goes.2.checked ∙ ap (λ l. l ++ below (round_of desk posted)) none),
      ),
      λ still. let is : (part w).taken ≡ s.part.taken = still in absurd (omega arith),
    )
