-- A turn that a seat keeps: what its token and its seat are then, and what its caller is told.
use Rattle.std.proofs.Common.{[], ◌++◌, ◌<◌, ◌∙◌, ◌∷◌, ◌≡◌, ◌≢◌, ap, arith, Bool, List}
use Rattle.std.proofs.Common.{None, Option, refl, Result, Some, subst, suc, sym, true, zero, ℕ}
use Rattle.atomic_table.specs.{Seated.TableId, Table.rest}
use Rattle.krs_types.specs.declared.{ask.{Answer.Answer, Ask.Ask}, errno.Errno.Errno, event.Event.Event}
use Rattle.krs_model.specs.{History.{event_of, IsLegal}, Lists.Begins, Sound.IsSound, State.State}
use Rattle.krs_model.proofs.History.Legal.{legal_more}
use Rattle.krs_world.specs.{Knowing.{events_of, kept, put_none}, declared.view.{Flight.Flight, Part.Part}}
use Rattle.krs_world.proofs.Keeping.{prefix_self}
use Rattle.krs_desk.specs.Helping.{below, Called, Finishes, HasLooked, held_of, HoldsAll, round_of, MayAsk}
use Rattle.krs_desk.specs.Keeping.{at_rest, given_back, GoesRound, HasKept, IsPlaced, ServesAndKeeps}
use Rattle.krs_desk.specs.{Parts.{hand_of, sat}, Seated.{is_free, IsSeated, Me, opening, part, Serves, sitting_of}}
use Rattle.krs_desk.specs.{Sitting.{KeepsTurn, rested, Sitting}, declared.slot.SlotValue.{SlotValue, TheVariants.Home}}
use Rattle.krs_desk.proofs.Turns.{InTurn, serves_is, serves_last, turn_adds, turn_idle, turn_seated}

-- A seat, whether or not it has kept a turn.

-- the same is told of it, without its turn
rest_same : (t : TableId) (kept served : ℕ) (m : Me) → sitting_of t kept (at_rest served m) ≡ sitting_of t kept m
rest_same t kept zero m = refl
rest_same t kept (suc n) m = refl

-- what is known of it either way
pub record Knows (lane : ℕ) (idle : Bool) (m : Me) : Type 0 where
  pub numbered : lane ≡ (part m).lane
  pub tells : idle ≡ is_free (part m).flight
  pub sound : IsSound (opening m)
  pub last : State
  pub legal : IsLegal (opening m) (part m).seen last

known_at : (lane : ℕ) (idle : Bool) (served : ℕ) (m : Me) → IsSeated lane idle (at_rest served m) → Knows lane idle m
known_at lane idle zero m s = record {
  numbered = s.numbered;
  tells = s.tells;
  sound = s.sound;
  last = s.last;
  legal = s.legal;
}
known_at lane idle (suc n) m s = record {
  numbered = s.numbered;
  tells = s.tells;
  sound = s.sound;
  last = s.last;
  legal = s.legal;
}

pub knows : (lane : ℕ) (idle : Bool) (served : ℕ) (m : Me) → IsPlaced lane idle served m → Knows lane idle m
knows lane idle served m placed = known_at lane idle served m placed.rests

-- the lane of a seat, and whether it is idle
pub lane_told : (t : TableId) (lane : ℕ) (idle : Bool) (served : ℕ) (m : Me) (s : Sitting)
    → IsPlaced lane idle served m → sitting_of t served m ≡ s → lane ≡ s.part.lane
lane_told t lane idle served m s placed view =
    (knows lane idle served m placed).numbered ∙ ap (λ (z : Sitting). z.part.lane) view

free_none : (f : Option Flight) → true ≡ is_free f → f ≡ None
free_none None e = refl
free_none (Some call) e = absurd cc

pub none_free : (f : Option Flight) → f ≡ None → is_free f ≡ true
none_free f e = ap (λ (g : Option Flight). is_free g) e

pub idle_told : (t : TableId) (lane : ℕ) (idle : Bool) (served : ℕ) (m : Me) (s : Sitting)
    → IsPlaced lane idle served m → sitting_of t served m ≡ s → idle ≡ true → s.part.flight ≡ None
idle_told t lane idle served m s placed view is_so =
    let tells : idle ≡ is_free (part m).flight = (knows lane idle served m placed).tells in
    sym (ap (λ (z : Sitting). z.part.flight) view) ∙ free_none (part m).flight (sym is_so ∙ tells)

pub busy_told : (t : TableId) (lane : ℕ) (idle : Bool) (served : ℕ) (m : Me) (s : Sitting)
    → IsPlaced lane idle served m → sitting_of t served m ≡ s → s.part.flight ≡ None → idle ≡ true
busy_told t lane idle served m s placed view quiet = (knows lane idle served m placed).tells
    ∙ none_free (part m).flight (ap (λ (z : Sitting). z.part.flight) view ∙ quiet)

-- a seat whose turn was given back, or which had none
pub given_seated : {lane : ℕ} {idle : Bool} {served : ℕ} {m n : Me} → IsPlaced lane idle served m
    → n ≡ at_rest served m → IsSeated lane idle n
given_seated {lane} {idle} placed is = subst (λ (z : Me). IsSeated lane idle z) (sym is) placed.rests

-- but for the turn the same is known of it
pub given_view : {t t' : TableId} {lane : ℕ} {idle : Bool} {served : ℕ} {m n : Me} {s : Sitting}
    → IsPlaced lane idle served m → sitting_of t served m ≡ s → t' ≡ t → n ≡ at_rest served m
    → sitting_of t' served n ≡ s
given_view {t} {served = served} {m = m} placed view same is =
    (λ i. sitting_of (same i) served (is i)) ∙ (rest_same t served served m ∙ view)

pub rests_at : {t : TableId} {served none : ℕ} (m : Me) {s : Sitting} → sitting_of t served m ≡ s → none ≡ 0
    → sitting_of t none m ≡ rested s
rests_at {t} m view zero_is = ap (λ (k : ℕ). sitting_of t k m) zero_is ∙ ap rested view

-- a seat that has no turn
placed_at : (lane : ℕ) (idle : Bool) (served : ℕ) (m : Me) → served ≡ 0 → IsSeated lane idle m
    → IsPlaced lane idle served m
placed_at lane idle zero m none seated = record { rests = seated; keeps = λ not. absurd (not refl) }
placed_at lane idle (suc n) m none seated = absurd (omega arith)

pub placed : {lane : ℕ} {idle : Bool} {served : ℕ} {m : Me} → served ≡ 0 → IsSeated lane idle m
    → IsPlaced lane idle served m
placed {lane} {idle} {served} {m} none seated = placed_at lane idle served m none seated

-- one that has kept its turn
pub placed_kept : (lane : ℕ) (idle : Bool) (served : ℕ) (m : Me) → served ≢ 0 → IsSeated lane idle (given_back m)
    → HasKept m → IsPlaced lane idle served m
placed_kept lane idle zero m not seated kept = absurd (not refl)
placed_kept lane idle (suc n) m not seated kept = record { rests = seated; keeps = λ _. kept }

-- The turn is given back.

pub gives_back : (served : ℕ) (m n : Me) → served ≢ 0 → HasKept m
    → n ≡ (sat (opening m) (put_none (part m) (held_of (part m).holding)), rest m.1) → n ≡ at_rest served m
gives_back zero m n not kept is = absurd (not refl)
gives_back (suc served) m n not kept is =
    is ∙ ap (λ l. (sat (opening m) (put_none (part m) (held_of l)), rest m.1)) kept.whole

-- where it was kept for no call, nothing is given back
pub none_given : (served : ℕ) (m : Me) → served ≡ 0 → m ≡ at_rest served m
none_given zero m none = refl
none_given (suc n) m none = absurd (omega arith)

-- a seat that kept none, by what its caller knows
pub none_kept : {t s : Sitting} → t ≡ s → s.kept ≡ 0 → t.kept ≡ 0
none_kept view none = ap (λ (z : Sitting). z.kept) view ∙ none

pub unkept : {t : TableId} {lane : ℕ} {idle : Bool} {served : ℕ} {m : Me} {s : Sitting} → IsPlaced lane idle served m
    → sitting_of t served m ≡ s → s.kept ≡ 0 → IsSeated lane idle m
unkept {served = served} {m = m} placed view none = given_seated placed (none_given served m (none_kept view none))

-- one with no call in flight
pub quiet_at : {t s : Sitting} → t ≡ s → s.part.flight ≡ None → t.part.flight ≡ None
quiet_at view idle = ap (λ (z : Sitting). z.part.flight) view ∙ idle

-- A call is served, and the turn kept.

pub goes_on : (m w n : Me) (said e : Event) → said ≡ e → (h : HoldsAll m) → Serves m e w
    → ((l : List Event) → (part w).holding ≡ Some l → n ≡ (sat (opening w) (kept (part w) l said), w.1))
    → ((l : List Event) → (part w).holding ≡ Some l → events_of (part w).lane l ≡ (part w).mine) → ServesAndKeeps m e n
goes_on m w n said e says h s keep mine =
    let w_is = serves_is m w e h s in
    let held : (part w).holding ≡ Some h.log = ap (λ (k : Me). (part k).holding) w_is ∙ h.held in
    record {
      log = h.log;
      last = h.last;
      after = s.after;
      held = h.held;
      has = keep h.log held ∙ (ap (λ (k : Me). (sat (opening k) (kept (part k) h.log said), k.1)) w_is ∙ ((λ i. (
        sat (opening m) (kept (part m) h.log (says i)),
        (0, Home s.after) ∷ hand_of (part m).flight (part m).lane,
      )) ∙ ap (λ (c : List (ℕ × SlotValue)). (sat (opening m) (kept (part m) h.log e), (0, Home s.after) ∷ c))
          (sym (ap (λ (k : Me). rest k.1) h.has))));
      legal = h.legal;
      step = serves_last m w e h s;
      mine = ap (λ (p : Part). events_of p.lane h.log) (sym (ap part w_is))
          ∙ (mine h.log held ∙ ap (λ (k : Me). (part k).mine) w_is);
    }

-- it would have been the last of its turn, had that been given back
pub goes_finished : {m n : Me} {e : Event} → ServesAndKeeps m e n → Finishes m e (given_back n)
goes_finished g = record {
  log = g.log;
  last = g.last;
  after = g.after;
  held = g.held;
  has = ap given_back g.has;
  legal = g.legal;
  step = g.step;
  mine = g.mine;
}

-- and the token has kept it
pub goes_kept :
    {lane : ℕ} {idle : Bool} {m k n : Me} {e : Event} → InTurn lane idle m k → (part m).flight ≡ None
    → ServesAndKeeps k e n
    → HasKept n
goes_kept {k = k} {e = e} t quiet g =
    let hand : rest k.1 ≡ hand_of (part k).flight (part k).lane = ap (λ (z : Me). rest z.1) t.holds.has in
    subst HasKept (sym g.has)
    record {
      holds = record {
        log = g.log ++ e ∷ [];
        last = g.after;
        has = ap (λ (c : List (ℕ × SlotValue)). (sat (opening k) (kept (part k) g.log e), (0, Home g.after) ∷ c)) hand;
        held = refl;
        legal = legal_more (opening k) g.last g.after g.log e g.legal g.step;
        unserving = t.holds.unserving;
      };
      whole = refl;
      quiet = t.flight ∙ quiet;
    }

-- so is its seat placed
pub placed_on : {lane : ℕ} {idle : Bool} {m k n : Me} {e : Event} (served : ℕ) → served ≢ 0 → InTurn lane idle m k
    → (part m).flight ≡ None → ServesAndKeeps k e n → IsPlaced lane idle served n
placed_on {lane} {idle} {n = n} served not t quiet g =
    placed_kept lane idle served n not (turn_seated t (goes_finished g)) (goes_kept t quiet g)

-- it is in its turn from the beginning
pub in_kept_turn : {lane : ℕ} {idle : Bool} {served : ℕ} {m : Me} → served ≢ 0 → IsPlaced lane idle served m
    → InTurn lane idle m m
in_kept_turn {lane} {idle} {served} {m} not placed =
    let k = knows lane idle served m placed in
    let kept = placed.keeps not in
    record {
      numbered = k.numbered;
      tells = k.tells;
      sound = k.sound;
      holds = kept.holds;
      opens = refl;
      same_lane = refl;
      flight = refl;
      mine = refl;
      seen = subst (λ h. Begins (part m).seen (held_of h)) (sym kept.whole) (prefix_self (part m).seen);
    }

-- the turn was taken before, and the cells looked at once more
pub kept_looked :
    {desk t : TableId} {posted : Bool} {served : ℕ} {m n w : Me} {s : Sitting} {e : Event}
    → sitting_of t served m ≡ s
    → GoesRound desk posted m n → Finishes n e w → HasLooked desk s (sitting_of desk 0 w)
kept_looked {desk} {posted = posted} {m = m} {w = w} {s = s} view g f =
    let was : (part m).taken ≡ s.part.taken = ap (λ (z : Sitting). z.part.taken) view in
    let same : (part w).taken ≡ (part m).taken = ap (λ (z : Me). (part z).taken) f.has ∙ g.goes.2.stays.taken in
    let before : (part m).checked ≡ s.part.checked = ap (λ (z : Sitting). z.part.checked) view in (
      λ lt. let less : s.part.taken < (part w).taken = lt in absurd (omega arith),
      λ _. (
        posted,
        ap (λ (z : Me). (part z).checked) f.has
            ∙ (g.goes.2.checked ∙ ap (λ l. l ++ below (round_of desk posted)) before),
      ),
    )

-- A call of the seat is served in a turn.

pub may_ask : {lane : ℕ} {idle : Bool} {m k : Me} → InTurn lane idle m k → (part m).flight ≡ None → MayAsk k lane
may_ask t quiet = record { held = t.holds; idle = t.flight ∙ quiet; own = t.numbered ∙ sym t.same_lane }

pub turn_called :
    {desk table same_table : TableId} {a b lane moment : ℕ} {ask : Ask} {reply : Result Answer Errno} {idle more : Bool}
    {m k w : Me} {s : Sitting} → sitting_of table a m ≡ s → same_table ≡ table → s.part.flight ≡ None
    → InTurn lane idle m k → Finishes k (event_of lane moment ask reply) w
    → HasLooked desk s (sitting_of same_table b w) → KeepsTurn more s (sitting_of same_table b w)
    → Called desk more s moment ask reply (sitting_of same_table b w)
turn_called view same idle t f looked keeps = record {
  added = turn_adds view same t f;
  idle = turn_idle t f (quiet_at view idle);
  looked = looked;
  keeps = keeps;
}
