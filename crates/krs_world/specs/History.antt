-- One history: what holds, between any two steps, of the turn, the store, the cells and what all seats know.
-- The claim is `Linearizes`; below it stands what each step keeps, from which the claim follows.
-- After Herlihy and Wing, "Linearizability: A Correctness Condition for Concurrent Objects" (1990). An `Event` here is
-- one of their operations whole: an invocation (lane, moment, ask) with its response (reply). A lane is a process; a
-- call in flight is pending. `log` is their legal sequential history; `events_of` is a process subhistory of it. Their
-- real-time order isn't a part of it, and follows from it at two moments (specs/Between.antt): with it, what holds here
-- between any two steps is their linearizability. The form is this project's own.
-- A seat is a place in `views`, and stands for lanes. `Begins a b`: b is a and then some list. `IsLegal a log s`: log
-- leads from a to s, step by step.
use Rattle.std.specs.Prelude.{[], ◌++◌, ◌<◌, ◌==◌, ◌∷◌, ◌≡◌, ◌≢◌, ◌≤◌, ◌⊎◌, false, filter, List, None, Option, Some, ℕ}
use lib.ListN.{get_elem?}
use mathlib.Core.Option.{some}
use Rattle.krs_types.specs.declared.{ask.Ask.Ask, event.Event.Event}
use Rattle.krs_model.specs.{History.{event_of, IsLegal}, Lists.Begins, State.State}
use Rattle.krs_world.specs.declared.view.Cell.{Cell, TheVariants.{Answered, Empty, Posted, Serving}}
use Rattle.krs_world.specs.declared.view.{Flight.Flight, Part.Part, Service.Service, Standing.Standing}
use Rattle.krs_world.specs.declared.view.{Standing.TheVariants.{One, Opening, Spent, Two}, View.View}

-- the operations of one lane, in the order of the history
abbrev pub events_of : ℕ → List Event → List Event
events_of lane log = filter (λ e. e.lane == lane) log

-- a call that the holder of the turn serves
abbrev pub service : ℕ → ℕ → Ask → Service
service lane moment ask = record { lane = lane; moment = moment; ask = ask }

-- a call in flight, posted by a lane that had seen this list
abbrev pub flight : ℕ → Ask → List Event → Flight
flight moment ask after = record { moment = moment; ask = ask; after = after }

-- the event stands in the history behind all of this list, which begins the history
abbrev pub StandsAfter : List Event → Event → List Event → Type 0
StandsAfter before e log = (between : List Event) × (rest : List Event) × (log ≡ (before ++ between) ++ e ∷ rest)

-- the lane has this call in flight, and the history has only those of its operations that it knows of; what it had seen
-- as it posted the call begins the history
abbrev pub IsWaiting : List Event → Part → ℕ → Ask → Type 0
IsWaiting log p m a =
    (f : List Event) × (p.flight ≡ Some (flight m a f)) × (events_of p.lane log ≡ p.mine) × (p.done ≡ false)
    × Begins f log

-- The history has a lane's operations once, in their order: those that the lane knows of (`mine`) and, where its cell
-- is answered, the one that the cell says, which stands after all that the lane had seen as it posted it. A cell that
-- isn't empty has the call in flight, with its moment and ask, and what its lane had seen then begins the history. An
-- empty cell has no call in flight. The lane is `done` only where its cell is answered.
abbrev pub Fits : List Event → Part → Cell → Type 0
Fits log p Empty = (p.flight ≡ None) × (events_of p.lane log ≡ p.mine) × (p.done ≡ false)
Fits log p (Posted m a) = IsWaiting log p m a
Fits log p (Serving m a) = IsWaiting log p m a
Fits log p (Answered m a r) =
    (f : List Event) × (p.flight ≡ Some (flight m a f))
    × (events_of p.lane log ≡ p.mine ++ event_of p.lane m a r ∷ []) × StandsAfter f (event_of p.lane m a r) log

-- the seat stands for a lane that knows p
abbrev pub Sits : Part → Standing → Type 0
Sits p Spent = ⊥
Sits p (One q) = q ≡ p
Sits p (Two q r) = (q ≡ p) ⊎ (r ≡ p)
Sits p (Opening n) = ⊥

-- a lane has a seat, which knows this of it
abbrev pub IsSeatedIn : List View → Part → Type 0
IsSeatedIn views p = (j : ℕ) × (v : View) × (get_elem? views j ≡ some v) × Sits p v.stands

-- The claim, at each moment between two steps: `log` is a legal sequential history of all that was asked, as Herlihy
-- and Wing, 2.2, want it but for real-time order, which specs/Between.antt adds.
pub record Linearizes
    (opening : State) (home : Option State) (cell : ℕ → Cell) (views : List View) (log : List Event) (last : State)
    : Type 0 where
  pub legal : IsLegal opening log last  -- it is a history of the sequential store
  pub ends : (store : State) → home ≡ Some store → store ≡ last  -- a store at home is as it leaves it
  -- it begins with all that a lane has seen, and has the lane's operations once, in their order
  pub lanes : (p : Part) → IsSeatedIn views p → Begins p.seen log × Fits log p (cell p.lane)
  -- and no others
  pub others : (lane : ℕ) → ((p : Part) → IsSeatedIn views p → p.lane ≢ lane) → events_of lane log ≡ []

-- What each step keeps.

-- the history, and who stands where
pub record Witness : Type 0 where
  pub log : List Event  -- the history
  pub last : State  -- the state that it ends in
  pub holder : ℕ  -- the seat that has the turn where it is out, or that deals the seats
  pub dealt : ℕ  -- how many lanes have a seat
  pub seat : ℕ → ℕ  -- which seat stands for a lane
  pub serving : Option Service  -- the posted call that is being served, if any

-- what all seats share: that, the cells, and the turn, which is 0 where it is free, 1 out, 2 while the seats are dealt
pub record Shared : Type 0 where
  pub witness : Witness
  pub open witness use *
  pub turn : ℕ
  pub cell : ℕ → Cell

-- what is so of a seat j that holds a list: the turn is out, and out here; the list is the whole history
pub record Holds (s : Shared) (j : ℕ) (p : Part) (l : List Event) : Type 0 where
  pub out : s.turn ≡ 1
  pub here : j ≡ s.holder
  pub whole : l ≡ s.log
  pub same_service : p.serving ≡ s.serving  -- the one call that is being served is its to serve

-- what is so of a lane that the seat j stands for
pub record Known (s : Shared) (j : ℕ) (p : Part) : Type 0 where
  pub at : s.seat p.lane ≡ j  -- no other seat stands for this lane
  pub given : p.lane < s.dealt  -- it is one of the lanes that were dealt
  pub seen : Begins p.seen s.log  -- what it has seen begins the history
  pub base : Begins p.base s.log  -- so does the history as it last took the turn
  -- of its lane's operations in what it has seen, those that it knows of come first
  pub calls : Begins p.mine (events_of p.lane p.seen)
  pub fits : Fits s.log p (s.cell p.lane)  -- the history has its operations once, in their order
  pub holding : (l : List Event) → p.holding ≡ Some l → Holds s j p l  -- one seat alone holds
  pub unheld : p.holding ≡ None → p.serving ≡ None  -- who doesn't hold the history serves no call

-- what is so of the lanes that a seat stands for: one; two while two seats meet; none yet, or none any more
abbrev pub Stands : Shared → ℕ → Standing → Type 0
Stands s j Spent = Unit {0}
Stands s j (One p) = Known s j p
Stands s j (Two p q) =
    Known s j p × Known s j q × (p.lane ≢ q.lane) × (p.holding ≡ None) × (q.holding ≡ None)
Stands s j (Opening n) = (s.turn ≡ 2) × (j ≡ s.holder) × (n ≡ s.dealt)

-- a lane of the seat has seen just this list
abbrev pub HasSeen : List Event → Standing → Type 0
HasSeen log Spent = ⊥
HasSeen log (One p) = p.seen ≡ log
HasSeen log (Two p q) = (p.seen ≡ log) ⊎ (q.seen ≡ log)
HasSeen log (Opening n) = ⊥

-- the seat has the turn, and holds just this list
abbrev pub HasTurn : List Event → Standing → Type 0
HasTurn log Spent = ⊥
HasTurn log (One p) = p.holding ≡ Some log
HasTurn log (Two p q) = ⊥
HasTurn log (Opening n) = ⊥

-- the seat stands for this lane
abbrev pub StandsFor : ℕ → Standing → Type 0
StandsFor lane Spent = ⊥
StandsFor lane (One p) = p.lane ≡ lane
StandsFor lane (Two p q) = (p.lane ≡ lane) ⊎ (q.lane ≡ lane)
StandsFor lane (Opening n) = ⊥

-- some seat has seen just this list, or it is empty
abbrev pub IsSeen : List Event → List View → Type 0
IsSeen log views = (log ≡ []) ⊎ ((j : ℕ) × (v : View) × (get_elem? views j ≡ some v) × HasSeen log v.stands)

-- the seat at the holder's place holds just this list
abbrev pub IsHeld : List Event → ℕ → List View → Type 0
IsHeld log holder views = (v : View) × (get_elem? views holder ≡ some v) × HasTurn log v.stands

-- the seat at this place stands for this lane
abbrev pub IsSeated : ℕ → ℕ → List View → Type 0
IsSeated lane place views = (v : View) × (get_elem? views place ≡ some v) × StandsFor lane v.stands

-- the seat at the holder's place deals the seats, and has dealt so many
abbrev pub IsDealing : ℕ → ℕ → List View → Type 0
IsDealing dealt holder views = (v : View) × (get_elem? views holder ≡ some v) × (v.stands ≡ Opening dealt)

-- the history is the store's, and ends in the state at home, which is there where the turn isn't out
pub record KeepsStore (opening : State) (turn : ℕ) (home : Option State) (log : List Event) (last : State)
    : Type 0 where
  pub legal : IsLegal opening log last
  pub at_home : turn ≢ 1 → home ≡ Some last
  pub away : turn ≡ 1 → home ≡ None

-- what the turn's word says: no call is served unless it is out, and none was made while the seats are dealt
pub record KeepsWord (turn : ℕ) (log : List Event) (serving : Option Service) : Type 0 where
  pub word : turn ≤ 2
  pub young : turn ≡ 2 → log ≡ []
  pub unserved : turn ≢ 1 → serving ≡ None

-- a lane without a seat has posted and called nothing; a cell is served exactly where the holder serves it
pub record KeepsCells (cell : ℕ → Cell) (dealt : ℕ) (log : List Event) (serving : Option Service) : Type 0 where
  pub undealt : (lane : ℕ) → dealt ≤ lane → (cell lane ≡ Empty) × (events_of lane log ≡ [])
  pub serves : (lane moment : ℕ) (ask : Ask) → cell lane ≡ Serving moment ask → serving ≡ Some (service lane moment ask)
  pub served : (s : Service) → serving ≡ Some s → cell s.lane ≡ Serving s.moment s.ask

-- what is so of the seats
pub record KeepsSeats (opening : State) (turn : ℕ) (cell : ℕ → Cell) (views : List View) (w : Witness) : Type 0 where
  pub held : turn ≡ 1 → IsHeld w.log w.holder views  -- the history is what the holder holds, while the turn is out
  pub longest : turn ≢ 1 → IsSeen w.log views  -- else the longest list that a seat has seen
  -- while the seats are dealt, the dealer is at the holder's place
  pub opener : turn ≡ 2 → IsDealing w.dealt w.holder views
  pub seated : (lane : ℕ) → lane < w.dealt → IsSeated lane (w.seat lane) views  -- each lane that was dealt has a seat
  -- each seat that stands for a lane knows the store's state at the opening; a spent one stands for none, and its
  -- opening, which may be any, is read by nobody
  pub openings : (j : ℕ) (v : View) → get_elem? views j ≡ some v → (v.stands ≡ Spent) ⊎ (v.opening ≡ opening)
  pub each : (j : ℕ) (v : View) → get_elem? views j ≡ some v
      → Stands record { witness = w; turn = turn; cell = cell } j v.stands  -- what each seat knows is so

-- all that each step keeps
pub record Kept (opening : State) (turn : ℕ) (home : Option State) (cell : ℕ → Cell) (views : List View) : Type 0 where
  pub witness : Witness
  pub open witness use *
  pub store : KeepsStore opening turn home log last
  pub open store use *
  pub words : KeepsWord turn log serving
  pub open words use *
  pub cells : KeepsCells cell dealt log serving
  pub open cells use *
  pub seats : KeepsSeats opening turn cell views witness
  pub open seats use *

-- There is one history, with the turn's word, the store's state at home (none where no store is), each lane's cell, and
-- what each seat knows.
pub record OneHistory (opening : State) (turn : ℕ) (home : Option State) (cell : ℕ → Cell) (views : List View)
    : Type 0 where
  pub kept : Kept opening turn home cell views
  pub open kept use *
  pub claim : Linearizes opening home cell views log last
