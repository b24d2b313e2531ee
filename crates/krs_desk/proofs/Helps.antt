-- A holder's turn of help, step by step: what its token is, and what its caller is told.
use Rattle.std.proofs.Common.{[], ◌&&◌, ◌++◌, ◌+◌, ◌<◌, ◌∙◌, ◌∷◌, ◌≡◌, ◌≢◌, add-one, ap, append-nil, append_assoc}
use Rattle.std.proofs.Common.{arith, Bool, cond, eq-eqb, eqb, false, length-append, List, ne_eqb, None, Option, refl}
use Rattle.std.proofs.Common.{Result, Some, subst, sym, true, ℕ}
use Rattle.atomic_table.specs.{Seated.TableId, Table.{rest, step, turned}}
use mathlib.Core.{Logic.dite, Option.none}
use native.Mathlib.Decide.{ℕ_discrete}
use Rattle.krs_types.specs.declared.{ask.{Answer.Answer, Ask.Ask}, errno.Errno.Errno, event.Event.Event}
use Rattle.krs_model.specs.{History.{event_of, IsLegal}, Lists.Begins, State.State, Step.Step}
use Rattle.krs_model.proofs.History.Legal.{legal_more}
use Rattle.krs_world.specs.Knowing.{answered, events_of, grabbed, looked_at, put_none, taken}
use Rattle.krs_world.specs.declared.view.{Flight.Flight, Part.Part}
use Rattle.krs_desk.specs.Helping.{below, Goes, HasBehind, held_of, Helps, HoldsAll, lanes_of, LookedAt, Progress}
use Rattle.krs_desk.specs.{Helping.{LooksAtLane, ServesBehind, Stays, turned_back}, Parts.{hand_of, sat}}
use Rattle.krs_desk.specs.Seated.{HasSlot, Holds, is_free, IsSeated, Me, opening, part, Serves, sitting_of}
use Rattle.krs_desk.specs.{Sitting.Sitting, Steps.{answers_told, brings_told}, declared.slot.SlotValue.SlotValue}
use Rattle.krs_desk.specs.declared.slot.SlotValue.TheVariants.{Asked, Empty, Home, Replied}
use Rattle.krs_desk.proofs.Seats.{same_store}

-- The turn is had.

pub had_hand : {lane : ℕ} {idle : Bool} {m n : Me} → IsSeated lane idle m → Holds m n → idle ≡ is_free (part n).flight
had_hand seated had = seated.tells ∙ ap (λ (k : Me). is_free (part k).flight) (sym had.has)

-- The store that lies behind another slot.

-- what a turn of the slots in hand leaves in front
pub behind : (m n : Me) (x : ℕ × SlotValue) (store : State) → HasBehind m x store → n ≡ (m.0, turned m.1)
    → n ≡ (m.0, (0, Home store) ∷ (hand_of (part m).flight (part m).lane ++ x ∷ []))
behind m n x store has is = is ∙ ap (λ c. (m.0, turned c)) has

in_front : (idle : Bool) (f : Option Flight) (lane : ℕ) (x y : ℕ × SlotValue) → idle ≡ is_free f
    → turned_back idle (y ∷ (hand_of f lane ++ x ∷ [])) ≡ x ∷ y ∷ hand_of f lane
in_front idle None lane x y e = ap (λ b. turned_back b (y ∷ (hand_of None lane ++ x ∷ []))) e
in_front idle (Some call) lane x y e = ap (λ b. turned_back b (y ∷ (hand_of (Some call) lane ++ x ∷ []))) e

pub served_behind :
    (idle : Bool) (m n k w : Me) (event : Event) → idle ≡ is_free (part m).flight → n ≡ (m.0, turned m.1)
    → Serves n event k → w ≡ (k.0, turned_back idle k.1) → ServesBehind m event w
served_behind idle m n k w event hand e s is x store has =
    let f = (part m).flight in
    let lane : ℕ = (part m).lane in
    let n_is = behind m n x store has e in
    let both : (0, Home s.before) ∷ rest n.1 ≡ (0, Home store) ∷ (hand_of f lane ++ x ∷ []) =
    sym s.had ∙ ap (λ (z : Me). z.1) n_is in
    let head : ◌≡◌ {A = ℕ × SlotValue} (0, Home s.before) (0, Home store) = cc in
    let same : s.before ≡ store = same_store s.before store (ap (λ (q : ℕ × SlotValue). q.1) head) in
    let k_is : k ≡ (m.0, (0, Home s.after) ∷ (hand_of f lane ++ x ∷ [])) =
    s.has ∙ ap (λ (z : Me). (z.0, (0, Home s.after) ∷ rest z.1)) n_is in (
      s.after,
      is ∙ (ap (λ (z : Me). (z.0, turned_back idle z.1)) k_is
          ∙ ap (λ c. (m.0, c)) (in_front idle f lane x (0, Home s.after) hand)),
      subst (λ (z : State). Step z event s.after) same s.step,
    )

-- One lane.

-- the value of a slot in hand that was told is the one that was read
pub slot_is : (n : Me) (v : SlotValue) (i : ℕ) (x : SlotValue) (c : List (ℕ × SlotValue)) → n.1 ≡ (i, v) ∷ c
    → n.1 ≡ (i, x) ∷ rest n.1 → x ≡ v
slot_is n v i x c told read =
    let both : (i, v) ∷ c ≡ (i, x) ∷ rest n.1 = sym told ∙ read in
    let head : ◌≡◌ {A = ℕ × SlotValue} (i, v) (i, x) = cc in
    sym (ap (λ (q : ℕ × SlotValue). q.1) head)

same_ask : (m m' : ℕ) (ask ask' : Ask) → Asked m ask ≡ Asked m' ask' → (m ≡ m') × (ask ≡ ask')
same_ask m m' ask ask' e = (cc, cc)

-- what a grab has told, with the ask that was read
pub read_is :
    (a : State) (p : Part) (lane i : ℕ) (n : Me) (x : SlotValue) (m m' : ℕ) (ask ask' : Ask) (c : List (ℕ × SlotValue))
    → n ≡ (sat a (grabbed p lane m ask), (i, Asked m ask) ∷ c) → n.1 ≡ (i, x) ∷ rest n.1 → x ≡ Asked m' ask'
    → n ≡ (sat a (grabbed p lane m' ask'), (i, Asked m' ask') ∷ c)
read_is a p lane i n x m m' ask ask' c is slot read =
    let same = same_ask m m' ask ask' (sym (slot_is n (Asked m ask) i x c (ap (λ (k : Me). k.1) is) slot) ∙ read) in
    is ∙ (λ k. (sat a (grabbed p lane (same.0 k) (same.1 k)), (i, Asked (same.0 k) (same.1 k)) ∷ c))

-- the ask of a call that was taken up is out of its slot, which lies before the store
pub emptied : (m n w : Me) (lane moment : ℕ) (ask : Ask) → (h : HoldsAll m)
    → n ≡ (sat (opening m) (grabbed (part m) lane moment ask), (lane + 1, Asked moment ask) ∷ m.1)
    → w ≡ (n.0, (lane + 1, Empty) ∷ rest n.1) → w ≡ (
      sat (opening m) (grabbed (part m) lane moment ask),
      (lane + 1, Empty) ∷ (0, Home h.last) ∷ hand_of (part m).flight (part m).lane,
    )
emptied m n w lane moment ask h e is = is ∙ (ap (λ (k : Me). (k.0, (lane + 1, Empty) ∷ rest k.1)) e
    ∙ ap (λ (k : Me). (sat (opening m) (grabbed (part m) lane moment ask), (lane + 1, Empty) ∷ k.1)) h.has)

pub lies_behind : (m w : Me) (lane moment : ℕ) (ask : Ask) → (h : HoldsAll m) → w ≡ (
  sat (opening m) (grabbed (part m) lane moment ask),
  (lane + 1, Empty) ∷ (0, Home h.last) ∷ hand_of (part m).flight (part m).lane,
) → HasBehind w (lane + 1, Empty) h.last
lies_behind m w lane moment ask h is = subst (λ (z : Me). HasBehind z (lane + 1, Empty) h.last) (sym is) refl

-- the reply lies in that slot, and the store was served
pub replied :
    (m w k v : Me) (lane moment : ℕ) (ask : Ask) (reply : Result Answer Errno) (after : State) → (h : HoldsAll m)
    → w ≡ (
      sat (opening m) (grabbed (part m) lane moment ask),
      (lane + 1, Empty) ∷ (0, Home h.last) ∷ hand_of (part m).flight (part m).lane,
    ) → k ≡ (w.0, (lane + 1, Empty) ∷ (0, Home after) ∷ hand_of (part w).flight (part w).lane)
    → v ≡ (k.0, (lane + 1, Replied reply) ∷ rest k.1) → v ≡ (
      sat (opening m) (grabbed (part m) lane moment ask),
      (lane + 1, Replied reply) ∷ (0, Home after) ∷ rest m.1,
    )
replied m w k v lane moment ask reply after h e e' is =
    let q : Part = grabbed (part m) lane moment ask in
    is ∙ (ap (λ (z : Me). (z.0, (lane + 1, Replied reply) ∷ rest z.1)) e' ∙ (ap
    (λ (z : Me). (z.0, (lane + 1, Replied reply) ∷ (0, Home after) ∷ hand_of (part z).flight (part z).lane)) e
    ∙ ap (λ (c : List (ℕ × SlotValue)). (sat (opening m) q, (lane + 1, Replied reply) ∷ (0, Home after) ∷ c))
    (sym (ap (λ (z : Me). rest z.1) h.has))))

pub answered_is :
    (a : State) (slots lane m : ℕ) (ask : Ask) (reply : Result Answer Errno) (p : Part) (c : List (ℕ × SlotValue))
    (log : List Event) (n w : Me) → n ≡ (sat a (grabbed p lane m ask), (lane + 1, Replied reply) ∷ c)
    → p.holding ≡ Some log → answers_told (step slots (lane + 1) 3 0 none) n 3 w
    → w ≡ (sat a (answered (grabbed p lane m ask) log (event_of lane m ask reply)), c)
answered_is a slots lane m ask reply p c log n w is held told =
    (subst (λ (z : Me). answers_told (step slots (lane + 1) 3 0 none) z 3 w) is told) log lane m ask reply held refl
    refl

-- the store lies before the slots that the token has besides
pub in_hand : (m : Me) → (h : HoldsAll m) → m ≡ (sat (opening m) (part m), (0, Home h.last) ∷ rest m.1)
in_hand m h = h.has ∙ ap (λ c. (sat (opening m) (part m), (0, Home h.last) ∷ c)) (sym (ap (λ (k : Me). rest k.1) h.has))

-- one event was added, and the lane's cell was looked at
pub answers_one : (m : Me) (lane moment : ℕ) (ask : Ask) (reply : Result Answer Errno) (next : State) (w : Me)
    → (h : HoldsAll m) → w ≡ (
      sat (opening m) (answered (grabbed (part m) lane moment ask) h.log (event_of lane moment ask reply)),
      (0, Home next) ∷ rest m.1,
    ) → Step h.last (event_of lane moment ask reply) next → LooksAtLane m lane 1 w
answers_one m lane moment ask reply next w h is does =
    let p : Part = part m in
    let e : Event = event_of lane moment ask reply in
    subst (λ (z : Me). LooksAtLane m lane 1 z) (sym is) (
      next,
      refl,
      record {
        log = h.log;
        events = e ∷ [];
        held = h.held;
        holds = refl;
        legal = legal_more (opening m) h.last next h.log e h.legal does;
        answers = refl;
        stays = record {
          same_lane = refl;
          seen = refl;
          mine = refl;
          base = refl;
          flight = refl;
          taken = refl;
          found = refl;
        };
        unserving = refl;
        checked = refl;
        own = λ same has. ap (λ b. cond b true p.done) (eq-eqb lane p.lane same);
        done = λ yes. dite (ℕ_discrete lane p.lane)
            (λ (e : lane ≡ p.lane). ap (λ b. cond b true p.done) (eq-eqb lane p.lane e))
            (λ ne. ap (λ b. cond b true p.done) (ne_eqb lane p.lane ne) ∙ yes);
      },
    )

done_if : (b d : Bool) → d ≡ true → cond b true d ≡ true
done_if true d e = refl
done_if false d e = e

-- the lane's cell was looked at, and no event was added
pub answers_none : (m : Me) (lane x : ℕ) (w : Me) → (h : HoldsAll m)
    → w ≡ (sat (opening m) (looked_at (part m) lane ((eqb x 3) && (eqb lane (part m).lane))), m.1)
    → (lane ≡ (part m).lane → (part m).flight ≢ None → x ≡ 3) → LooksAtLane m lane 0 w
answers_none m lane x w h is three =
    let p : Part = part m in
    let b : Bool = (eqb x 3) && (eqb lane p.lane) in
    subst (λ (z : Me). LooksAtLane m lane 0 z) (sym is) (
      h.last,
      (λ i. (sat (opening m) (looked_at p lane b), (in_hand m h i).1)),
      record {
        log = h.log;
        events = [];
        held = h.held;
        holds = h.held ∙ ap (λ l. Some l) (sym (append-nil h.log));
        legal = subst (λ l. IsLegal (opening m) l h.last) (sym (append-nil h.log)) h.legal;
        answers = refl;
        stays = record {
          same_lane = refl;
          seen = refl;
          mine = refl;
          base = refl;
          flight = refl;
          taken = refl;
          found = refl;
        };
        unserving = h.unserving;
        checked = refl;
        own = λ same has.
            let both : b ≡ true = (λ i. (eqb (three same has i) 3) && (eqb lane p.lane)) ∙ eq-eqb lane p.lane same in
            ap (λ c. cond c true p.done) both;
        done = λ yes. done_if b p.done yes;
      },
    )

-- All lanes.

pub starts : (m : Me) → HoldsAll m → Goes m 0 0 m
starts m h =
    let all : held_of (part m).holding ≡ h.log = ap held_of h.held in (
      h.last,
      in_hand m h,
      record {
        events = [];
        holds = h.held ∙ ap (λ l. Some l) (sym all ∙ sym (append-nil (held_of (part m).holding)));
        legal =
            subst (λ l. IsLegal (opening m) l h.last) (sym all ∙ sym (append-nil (held_of (part m).holding))) h.legal;
        answers = refl;
        stays = record {
          same_lane = refl;
          seen = refl;
          mine = refl;
          base = refl;
          flight = refl;
          taken = refl;
          found = refl;
        };
        unserving = h.unserving;
        checked = sym (append-nil (part m).checked);
        done = λ lt. absurd (omega arith);
      },
    )

below_more : (lane : ℕ) → below (lane + 1) ≡ below lane ++ lane ∷ []
below_more lane = ap below (add-one lane)

-- what stays over each of two stretches of a turn stays over both
stays_on : (p q r : Part) → Stays p q → Stays q r → Stays p r
stays_on p q r first second = record {
  same_lane = second.same_lane ∙ first.same_lane;
  seen = second.seen ∙ first.seen;
  mine = second.mine ∙ first.mine;
  base = second.base ∙ first.base;
  flight = second.flight ∙ first.flight;
  taken = second.taken ∙ first.taken;
  found = second.found ∙ first.found;
}

goes_on : (a : State) (p q r : Part) (j k lane : ℕ) (store next : State) → Progress a p j lane q store
    → LookedAt a q lane k r next → Progress a p (j + k) (lane + 1) r next
goes_on a p q r j k lane store next g s =
    let base : List Event = held_of p.holding in
    let same : s.log ≡ base ++ g.events = ap held_of (sym s.held ∙ g.holds) in
    let all : s.log ++ s.events ≡ base ++ (g.events ++ s.events) =
    ap (λ l. l ++ s.events) same ∙ append_assoc base g.events s.events in
    record {
      events = g.events ++ s.events;
      holds = s.holds ∙ ap (λ l. Some l) all;
      legal = subst (λ l. IsLegal a l next) all s.legal;
      answers = length-append g.events s.events ∙ (λ i. g.answers i + s.answers i);
      stays = stays_on p q r g.stays s.stays;
      unserving = s.unserving;
      checked = s.checked ∙ (ap (λ l. l ++ lane ∷ []) g.checked
          ∙ (append_assoc p.checked (below lane) (lane ∷ []) ∙ ap (λ l. p.checked ++ l) (sym (below_more lane))));
      done = λ lt has. dite (ℕ_discrete lane p.lane)
          (λ (e : lane ≡ p.lane). s.own (e ∙ sym g.stays.same_lane) (λ no. has (sym g.stays.flight ∙ no)))
          (λ ne. s.done (g.done (omega arith) has));
    }

pub goes_at : (m n w : Me) (j k lane : ℕ) → Goes m j lane n → LooksAtLane n lane k w → Goes m (j + k) (lane + 1) w
goes_at m n w j k lane g s =
    let same : opening n ≡ opening m = ap opening g.1 in
    let behind : rest n.1 ≡ rest m.1 = ap (λ (z : Me). rest z.1) g.1 in (
      s.0,
      s.1 ∙ (λ i. (sat (same i) (part w), (0, Home s.0) ∷ behind i)),
      goes_on (opening m) (part m) (part n) (part w) j k lane g.0 s.0 g.2
          (subst (λ (b : State). LookedAt b (part n) lane k (part w) s.0) same s.2),
    )

pub held_at : (m n : Me) (j lane : ℕ) → HoldsAll m → Goes m j lane n → HoldsAll n
held_at m n j lane h g =
    let same : opening n ≡ opening m = ap opening g.1 in
    let hand : rest m.1 ≡ hand_of (part n).flight (part n).lane =
    ap (λ (z : Me). rest z.1) h.has ∙ (λ i. hand_of (sym g.2.stays.flight i) (sym g.2.stays.same_lane i)) in
    record {
      log = held_of (part m).holding ++ g.2.events;
      last = g.0;
      has = g.1 ∙ (λ i. (sat (sym same i) (part n), (0, Home g.0) ∷ hand i));
      held = g.2.holds;
      legal = subst (λ (b : State). IsLegal b (held_of (part m).holding ++ g.2.events) g.0) (sym same) g.2.legal;
      unserving = g.2.unserving;
    }

-- The turn is given back.

pub brought_is : (m w : Me) (slots : ℕ) → HoldsAll m → brings_told (step slots 0 1 0 none) m 1 w
    → w ≡ (sat (opening m) (put_none (part m) (held_of (part m).holding)), rest m.1)
brought_is m w slots h told = (told h.log h.held).0
    ∙ ap (λ l. (sat (opening m) (put_none (part m) l), rest m.1)) (sym (ap held_of h.held))

pub brought_mine :
    (m w : Me) (slots : ℕ) → HoldsAll m → brings_told (step slots 0 1 0 none) m 1 w → (part m).flight ≡ None
    → events_of (part m).lane (held_of (part m).holding) ≡ (part m).mine
brought_mine m w slots h told quiet = ap (λ l. events_of (part m).lane (held_of l)) h.held ∙ (told h.log h.held).1 quiet

-- what the caller is told
helped_part : (table desk : TableId) (a b : ℕ) (m : Me) (log : List Event) (q : Part) (count : ℕ) (next : State)
    → (part m).lane < lanes_of desk
    → Begins (part m).seen log → Progress (opening m) (taken (part m) log) count (lanes_of desk) q next
    → (q.flight ≡ None → events_of q.lane (held_of q.holding) ≡ q.mine) → (c : List (ℕ × SlotValue))
    → Helps desk (sitting_of table a m) count (sitting_of table b (sat (opening m) (put_none q (held_of q.holding)), c))
helped_part table desk a b m log q count next within seen g own c =
    let all : held_of q.holding ≡ log ++ g.events = ap held_of g.holds in record {
      same_table = refl;
      opening = refl;
      lane = g.stays.same_lane;
      taken = g.stays.taken;
      found = g.stays.found;
      before = subst (Begins (part m).seen) (sym g.stays.base) seen;
      answered = g.events;
      seen = all ∙ ap (λ l. l ++ g.events) (sym g.stays.base);
      answers = g.answers;
      last = next;
      legal = subst (λ l. IsLegal (opening m) l next) (sym all) g.legal;
      checked = g.checked;
      done = λ has. g.done within has;
      flight = g.stays.flight;
      mine = g.stays.mine;
      own = own;
    }

pub helped :
    {table same_table desk : TableId} {a b : ℕ} {m n k w : Me} {s : Sitting} {count : ℕ} → sitting_of table a m ≡ s
    → same_table ≡ table → (part m).lane < lanes_of desk → (h : Holds m n) → Goes n count (lanes_of desk) k
    → w ≡ (sat (opening k) (put_none (part k) (held_of (part k).holding)), rest k.1)
    → ((part k).flight ≡ None → events_of (part k).lane (held_of (part k).holding) ≡ (part k).mine)
    → Helps desk s count (sitting_of same_table b w)
helped {table} {desk = desk} {a} {b} {m} {n} {k} {w} {count = count} view same within h g is own =
    let open_is : opening n ≡ opening m = ap opening h.has in
    let open_k : opening k ≡ opening m = ap opening g.1 ∙ open_is in
    let p_is : part n ≡ taken (part m) h.log = ap part h.has in
    let going : Progress (opening m) (taken (part m) h.log) count (lanes_of desk) (part k) g.0 =
    subst (λ (z : State × Part). Progress z.0 z.1 count (lanes_of desk) (part k) g.0) (λ i. (open_is i, p_is i)) g.2 in
    let w_is : w ≡ (sat (opening m) (put_none (part k) (held_of (part k).holding)), rest k.1) =
    is ∙ ap (λ (z : State). (sat z (put_none (part k) (held_of (part k).holding)), rest k.1)) open_k in
    subst (λ (z : Sitting × Sitting). Helps desk z.0 count z.1) (λ i. (view i, sitting_of (sym same i) b (sym w_is i)))
    (helped_part table desk a b m h.log (part k) count g.0 within h.found.seen going own (rest k.1))

-- a token that did not change
pub held_on : (m n : Me) → n ≡ m → HoldsAll m → HoldsAll n
held_on m n same h = subst (λ (z : Me). HoldsAll z) (sym same) h

-- the lane of a seat is one of its desk's
pub within :
    {lane : ℕ} {idle : Bool} {m : Me} {table desk : TableId} → IsSeated lane idle m → HasSlot lane table → table ≡ desk
    → (part m).lane < lanes_of desk
within {lane} {m = m} {table = table} seated room same =
    let is = seated.numbered in
    let lt : lane + 1 < table.words = room in
    subst (λ (t : TableId). (part m).lane < lanes_of t) same (omega arith)
