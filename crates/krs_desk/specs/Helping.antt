-- What a turn of help does, and what a call knows of its seat while it waits. The form is this project's own.
use Rattle.std.specs.Prelude.{[], ◌++◌, ◌+◌, ◌-◌, ◌<◌, ◌∷◌, ◌≡◌, ◌≢◌, Bool, false, length, List, None, Option}
use Rattle.std.specs.Prelude.{Result, Some, suc, true, zero, ℕ}
use Rattle.atomic_table.specs.{Seated.TableId, Table.{rest, turned}}
use Rattle.krs_types.specs.declared.{ask.{Answer.Answer, Ask.Ask}, errno.Errno.Errno, event.Event.Event}
use Rattle.krs_model.specs.{History.{event_of, IsLegal}, Lists.Begins, State.State, Step.Step}
use Rattle.krs_world.specs.{Knowing.{events_of, flight, put_own, taken}, declared.view.Part.Part}
use Rattle.krs_desk.specs.{Parts.{hand_of, sat}, Seated.{Me, opening, part}}
use Rattle.krs_desk.specs.Sitting.{Adds, HasItsCalls, KeepsTurn, missed_by, Sitting}
use Rattle.krs_desk.specs.{Steps.Found, declared.helping.Helped.{Helped, TheVariants.{Busy, Took}}}
use Rattle.krs_desk.specs.declared.slot.SlotValue.{SlotValue, TheVariants.{Empty, Home}}

-- the numbers below this one, in order
abbrev pub below : ℕ → List ℕ
below zero = []
below (suc n) = below n ++ n ∷ []

-- how many lanes a desk has
abbrev pub lanes_of : TableId → ℕ
lanes_of table = table.words - 1

-- How many lanes' cells a round looks at: each, where calls are said to be posted, and else none. What says so is the
-- count of `src/bells.rt`, of which no clause speaks.
abbrev pub round_of : TableId → Bool → ℕ
round_of desk true = lanes_of desk
round_of desk false = zero

-- The seat had the turn. It has now seen the list that it left, which is legal from the opening state: what it found,
-- which begins with all that it had seen, and then the events of the calls that it answered. It looked at each lane's
-- cell once, in order. If a call of its own is in flight, that one is answered; else the list has just the seat's calls
-- of its lane.
pub record Helps (desk : TableId) (s : Sitting) (count : ℕ) (t : Sitting) : Type 0 where
  pub same_table : t.table ≡ s.table
  pub opening : t.opening ≡ s.opening
  pub lane : t.part.lane ≡ s.part.lane
  pub taken : t.part.taken ≡ s.part.taken + 1
  pub found : t.part.found ≡ s.part.found
  pub before : Begins s.part.seen t.part.base
  pub answered : List Event
  pub seen : t.part.seen ≡ t.part.base ++ answered
  pub answers : length answered ≡ count
  pub last : State
  pub legal : IsLegal s.opening t.part.seen last
  pub checked : t.part.checked ≡ below (lanes_of desk)
  pub done : s.part.flight ≢ None → t.part.done ≡ true
  pub flight : t.part.flight ≡ s.part.flight
  pub mine : t.part.mine ≡ s.part.mine
  pub own : HasItsCalls t

-- how a try to help ended
abbrev pub HasHelped : TableId → Sitting → Helped → Sitting → Type 0
HasHelped desk s (Took count) t = Helps desk s count t
HasHelped desk s Busy t = (t.table ≡ s.table) × (t ≡ missed_by s)

-- each lane's cell was looked at once more, in order, where calls were said to be posted, and else none was
abbrev pub LooksRound : TableId → List ℕ → List ℕ → Type 0
LooksRound desk before after = (posted : Bool) × (after ≡ before ++ below (round_of desk posted))

-- If the seat took the turn in between, it made one such round as it last had it. Else it made one in the turn that it
-- had kept, or waited.
abbrev pub HasLooked : TableId → Sitting → Sitting → Type 0
HasLooked desk s t =
    (s.part.taken < t.part.taken → LooksRound desk [] t.part.checked)
    × (t.part.taken ≡ s.part.taken → LooksRound desk s.part.checked t.part.checked)

-- A call was made, and this is its reply: it stands in what the seat has now seen, behind all that it had seen, and
-- none is in flight. Cells were looked at as `HasLooked` says, and a turn is kept only where more calls follow.
pub record Called (desk : TableId) (more : Bool) (s : Sitting) (moment : ℕ) (ask : Ask) (reply : Result Answer Errno)
    (t : Sitting) : Type 0 where
  pub added : Adds s (event_of s.part.lane moment ask reply) t
  pub idle : t.part.flight ≡ None
  pub looked : HasLooked desk s t
  pub keeps : KeepsTurn more s t

-- what holds of a seat while its call, posted at s, is in flight
pub record Waits (desk : TableId) (s : Sitting) (moment : ℕ) (ask : Ask) (t : Sitting) : Type 0 where
  pub same_table : t.table ≡ s.table
  pub opening : t.opening ≡ s.opening
  pub lane : t.part.lane ≡ s.part.lane
  pub flight : t.part.flight ≡ Some (flight moment ask s.part.seen)
  pub mine : t.part.mine ≡ s.part.mine
  pub seen : Begins s.part.seen t.part.seen
  pub rises : ¬ (t.part.taken < s.part.taken)
  pub looked : HasLooked desk s t

-- whatever call is waited for, this is its reply, and all is as after such a call
abbrev pub AnswersWaiting : TableId → Sitting → Result Answer Errno → Sitting → Type 0
AnswersWaiting desk t reply u =
    (s : Sitting) (moment : ℕ) (ask : Ask) → Waits desk s moment ask t → Called desk false s moment ask reply u

-- whatever call is waited for, it still is
abbrev pub StillWaits : TableId → Sitting → Sitting → Type 0
StillWaits desk t u = (s : Sitting) (moment : ℕ) (ask : Ask) → Waits desk s moment ask t → Waits desk s moment ask u

-- Helping, step by step.

-- the list that is held
abbrev pub held_of : Option (List Event) → List Event
held_of None = []
held_of (Some log) = log

-- the turn was had, and the store taken out, which ends this list
pub record Had (m n : Me) (store : State) : Type 0 where
  pub log : List Event
  pub has : n ≡ (sat (opening m) (taken (part m) log), (0, Empty) ∷ m.1)
  pub found : Found (opening m) (part m) log store

-- The token has the turn: it holds a list and has the store, which ends the list, before its own slots. It serves no
-- call.
pub record HoldsAll (m : Me) : Type 0 where
  pub log : List Event
  pub last : State
  pub has : m ≡ (sat (opening m) (part m), (0, Home last) ∷ hand_of (part m).flight (part m).lane)
  pub held : (part m).holding ≡ Some log
  pub legal : IsLegal (opening m) log last
  pub unserving : (part m).serving ≡ None

-- such a token, of this lane, with no call in flight: it may have a call of its own served
pub record MayAsk (m : Me) (lane : ℕ) : Type 0 where
  pub held : HoldsAll m
  pub idle : (part m).flight ≡ None
  pub own : lane ≡ (part m).lane

-- the token took this slot last, and has the store behind it, before its own slots
abbrev pub HasBehind : Me → ℕ × SlotValue → State → Type 0
HasBehind m x store = m.1 ≡ x ∷ (0, Home store) ∷ hand_of (part m).flight (part m).lane

-- the slots in hand, turned once, or twice where one of them is the seat's own
abbrev pub turned_back : Bool → List (ℕ × SlotValue) → List (ℕ × SlotValue)
turned_back true slots = turned (turned slots)
turned_back false slots = turned slots

-- it took some slot last, and has the store behind it
abbrev pub IsBehind : Me → Type 0
IsBehind m = (x : ℕ × SlotValue) × (store : State) × HasBehind m x store

-- a step was made on that store
abbrev pub ServesBehind : Me → Event → Me → Type 0
ServesBehind m event n =
    (x : ℕ × SlotValue) (store : State) → HasBehind m x store
    → (after : State) × (n ≡ (m.0, x ∷ (0, Home after) ∷ hand_of (part m).flight (part m).lane))
    × Step store event after

-- what a lane knows of itself, and of what it has seen, is the same
pub record Stays (p q : Part) : Type 0 where
  pub same_lane : q.lane ≡ p.lane
  pub seen : q.seen ≡ p.seen
  pub mine : q.mine ≡ p.mine
  pub base : q.base ≡ p.base
  pub flight : q.flight ≡ p.flight
  pub taken : q.taken ≡ p.taken
  pub found : q.found ≡ p.found

-- the cells of the lanes below `lane` were looked at, and so many calls answered, in the turn that p has
pub record Progress (a : State) (p : Part) (count lane : ℕ) (q : Part) (store : State) : Type 0 where
  pub events : List Event
  pub holds : q.holding ≡ Some (held_of p.holding ++ events)
  pub legal : IsLegal a (held_of p.holding ++ events) store
  pub answers : length events ≡ count
  pub stays : Stays p q
  pub unserving : q.serving ≡ None
  pub checked : q.checked ≡ p.checked ++ below lane
  pub done : p.lane < lane → p.flight ≢ None → q.done ≡ true

-- the same slots in hand, and the store in its own
abbrev pub Goes : Me → ℕ → ℕ → Me → Type 0
Goes m count lane n =
    (store : State) × (n ≡ (sat (opening m) (part n), (0, Home store) ∷ rest m.1))
    × Progress (opening m) (part m) count lane (part n) store

-- the cell of one lane was looked at, and so many calls answered
pub record LookedAt (a : State) (p : Part) (at count : ℕ) (q : Part) (store : State) : Type 0 where
  pub log : List Event
  pub events : List Event
  pub held : p.holding ≡ Some log
  pub holds : q.holding ≡ Some (log ++ events)
  pub legal : IsLegal a (log ++ events) store
  pub answers : length events ≡ count
  pub stays : Stays p q
  pub unserving : q.serving ≡ None
  pub checked : q.checked ≡ p.checked ++ at ∷ []
  pub own : at ≡ p.lane → p.flight ≢ None → q.done ≡ true
  pub done : p.done ≡ true → q.done ≡ true

-- the same slots in hand, for one lane
abbrev pub LooksAtLane : Me → ℕ → ℕ → Me → Type 0
LooksAtLane m lane count n =
    (store : State) × (n ≡ (sat (opening m) (part n), (0, Home store) ∷ rest m.1))
    × LookedAt (opening m) (part m) lane count (part n) store

-- a call of the token's own lane was served, as the last of its turn, and the turn given back
pub record Finishes (m : Me) (event : Event) (n : Me) : Type 0 where
  pub log : List Event
  pub last : State
  pub after : State
  pub held : (part m).holding ≡ Some log
  pub has : n ≡ (sat (opening m) (put_own (part m) log event), rest m.1)
  pub legal : IsLegal (opening m) log last
  pub step : Step last event after
  pub mine : events_of (part m).lane log ≡ (part m).mine
