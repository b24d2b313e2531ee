-- How the machine is kept: one store, one list of all calls, the call that is being served, and for each lane a slot,
-- and numbers and lengths of that list.
use Rattle.std.specs.Prelude.{[], ◌++◌, ◌∷◌, ◌≡◌, ◌≤◌, Bool, cond, false, length, List, map, None, Option, Result, Some}
use Rattle.std.specs.Prelude.{take, true, ℕ}
use lib.ListN.{get_elem?}
use mathlib.Core.Option.{some}
use Rattle.krs_types.specs.declared.{ask.{Answer.Answer, Ask.Ask}, errno.Errno.Errno, event.Event.Event}
use Rattle.krs_model.specs.{History.{event_of, IsLegal}, State.{starting_at, State}, Step.Step}
use Rattle.krs_world.specs.{History.{events_of, flight}, World.{Free, IsOneHistory, Out, Turn, World}}
use Rattle.krs_world.specs.declared.lane.{Lane.Lane, Slot.{Slot, TheVariants.{Answered, Empty, Posted, Serving}}}
use Rattle.krs_world.specs.declared.view.{Cell.Cell, Flight.Flight, Part.Part, Service.Service}
use Rattle.krs_world.specs.declared.view.Cell.TheVariants as cells
use mathlib.Core.Option as maybe

-- the cell of a call that is served, and of one that stands in the list
abbrev pub served_cell : Option Service → Cell
served_cell None = cells.Empty
served_cell (Some s) = cells.Serving s.moment s.ask

abbrev pub answered_cell : maybe.Option Event → Cell
answered_cell maybe.none = cells.Empty
answered_cell (some e) = cells.Answered e.moment e.ask e.reply

-- the cell of a lane, by its slot
abbrev pub cell_by : List Event → Option Service → Slot → Cell
cell_by log serving Empty = cells.Empty
cell_by log serving (Posted moment ask) = cells.Posted moment ask
cell_by log serving Serving = served_cell serving
cell_by log serving (Answered place) = answered_cell (get_elem? log place)

-- the call in flight, by the cell that it is in and what its lane had seen before it
abbrev pub flight_by : List Event → Cell → Option Flight
flight_by after cells.Empty = None
flight_by after (cells.Posted moment ask) = Some (flight moment ask after)
flight_by after (cells.Serving moment ask) = Some (flight moment ask after)
flight_by after (cells.Answered moment ask reply) = Some (flight moment ask after)

-- the list up to the call that its lane doesn't know the reply of
abbrev pub known_by : List Event → Slot → List Event
known_by log Empty = log
known_by log (Posted moment ask) = log
known_by log Serving = log
known_by log (Answered place) = take place log

-- the cell of a lane, and what its seat knows, by the list of all calls and the call that is served
abbrev pub lane_cell : List Event → Option Service → Lane → Cell
lane_cell log serving l = cell_by log serving l.slot

abbrev pub part_by : List Event → Option Service → Lane → Part
part_by log serving l = record {
  lane = l.lane;
  seen = take l.seen log;
  mine = events_of l.lane (known_by log l.slot);
  holding = cond l.holding (Some log) None;
  serving = cond l.holding serving None;
  flight = flight_by (take l.after log) (lane_cell log serving l);
  base = take l.base log;
  taken = l.taken;
  found = l.found;
  checked = l.checked.items;
  done = l.done;
}

-- the turn, by the lane that has it
abbrev pub turn_by : State → Option ℕ → Turn
turn_by store None = Free store
turn_by store (Some lane) = Out lane

-- the machine that is kept so
abbrev pub world_of : State → Option ℕ → Option Service → List Event → List Lane → World
world_of store out serving log lanes = record {
  opening = starting_at 3;
  turn = turn_by store out;
  cells = map (lane_cell log serving) lanes;
  seats = map (part_by log serving) lanes;
}

-- what a slot says of lane j is so
abbrev pub IsSlotOf : Option Service → List Event → ℕ → Slot → Type 0
IsSlotOf serving log j Empty = Unit {0}
IsSlotOf serving log j (Posted moment ask) = Unit {0}
IsSlotOf serving log j Serving = (s : Service) × (serving ≡ Some s) × (s.lane ≡ j)
IsSlotOf serving log j (Answered place) = (e : Event) × (get_elem? log place ≡ some e) × (e.lane ≡ j)

-- what is kept of lane j is so: its lengths are within the list
pub record IsLane (out : Option ℕ) (serving : Option Service) (log : List Event) (j : ℕ) (l : Lane) : Type 0 where
  pub number : l.lane ≡ j
  pub seen : l.seen ≤ length log
  pub base : l.base ≤ length log
  pub after : l.after ≤ length log
  pub holds : l.holding ≡ true → out ≡ Some j  -- only the lane that is out holds the list
  pub slot : IsSlotOf serving log j l.slot

-- it has one history, the list that is kept, which ends in the store that is kept
pub record IsKept (store : State) (out : Option ℕ) (serving : Option Service) (log : List Event) (lanes : List Lane)
    : Type 0 where
  pub one : IsOneHistory (world_of store out serving log lanes)
  pub whole : one.history.log ≡ log
  pub legal : IsLegal (starting_at 3) log store
  pub each : (j : ℕ) (l : Lane) → get_elem? lanes j ≡ some l → IsLane out serving log j l
  pub idle : out ≡ None → serving ≡ None  -- a call is served only while the turn is out
  pub served : (s : Service) → serving ≡ Some s → (l : Lane) × (get_elem? lanes s.lane ≡ some l) × (l.slot ≡ Serving)

-- a lane that nothing was done for
pub record IsFresh (j : ℕ) (l : Lane) : Type 0 where
  pub lane : l.lane ≡ j
  pub seen : l.seen ≡ 0
  pub base : l.base ≡ 0
  pub holding : l.holding ≡ false
  pub taken : l.taken ≡ 0
  pub found : l.found ≡ 0
  pub after : l.after ≡ 0
  pub slot : l.slot ≡ Empty
  pub checked : l.checked.items ≡ []
  pub done : l.done ≡ false

-- so many lanes that nothing was done for
abbrev pub AreFreshLanes : ℕ → List Lane → Type 0
AreFreshLanes n lanes = (length lanes ≡ n) × ((j : ℕ) (l : Lane) → get_elem? lanes j ≡ some l → IsFresh j l)

-- whether a slot says that a reply stands in its cell
abbrev pub has_reply : Slot → Bool
has_reply Empty = false
has_reply (Posted moment ask) = false
has_reply Serving = false
has_reply (Answered place) = true

-- there is a lane of this number, with nothing in its cell
abbrev pub IsIdle : List Lane → ℕ → Type 0
IsIdle lanes lane = (l : Lane) × (get_elem? lanes lane ≡ some l) × (l.slot ≡ Empty)

-- the lane has the turn, serves no posted call, and has none of its own in its cell
abbrev pub MayPut : Option ℕ → Option Service → List Lane → ℕ → Type 0
MayPut out serving lanes lane = (out ≡ Some lane) × (serving ≡ None) × IsIdle lanes lane

-- a store answered an ask of this lane at this moment, and the call was appended to the list
abbrev pub Serves : State → List Event → (lane moment : ℕ) → Ask → State → List Event → Type 0
Serves store log lane moment ask next longer =
    (reply : Result Answer Errno) × Step store (event_of lane moment ask reply) next
    × (longer ≡ log ++ event_of lane moment ask reply ∷ [])
