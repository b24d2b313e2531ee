-- How a seat is kept: by what its token of the table knows and holds. The form is this project's own.
use Rattle.std.specs.Prelude.{◌<◌, ◌∷◌, ◌≡◌, Bool, false, List, None, Option, Some, true, ℕ}
use Rattle.atomic_table.specs.{Seated.TableId, Table.rest}
use Rattle.krs_types.specs.declared.event.Event.{Event}
use Rattle.krs_model.specs.{History.IsLegal, Sound.IsSound, State.State, Step.Step}
use Rattle.krs_world.specs.{Knowing.{loaded, taken}, declared.view.{Flight.Flight, Part.Part}}
use Rattle.krs_desk.specs.Parts.{cell_of, hand_of, sat}
use Rattle.krs_desk.specs.{Steps.{Found, Known}, declared.slot.SlotValue.TheVariants.Home}
pub use Rattle.krs_desk.specs.Steps.{part, opening}
use Rattle.krs_desk.specs.Sitting.{Sitting}

-- what a token knows, and the slots that it has
abbrev pub Me : Type 0
Me = Known

-- what a caller is told of a lane: not the list that is held, which it has seen
abbrev pub untold : Part → Part
untold p = record p { holding = None }

-- what a caller knows of a seat that has served so many calls in the turn that it keeps
abbrev pub sitting_of : TableId → ℕ → Me → Sitting
sitting_of table served m = record { table = table; opening = opening m; part = untold (part m); kept = served }

-- it stands for one lane, has its slot unless a call is in flight, and no list is held
abbrev pub IsResting : Me → Type 0
IsResting m =
    (m ≡ (sat (opening m) (part m), hand_of (part m).flight (part m).lane)) × ((part m).holding ≡ None)

-- no call is in flight
abbrev pub is_free : Option Flight → Bool
is_free None = true
is_free (Some call) = false

-- the lane has a word and a slot
abbrev pub HasSlot : ℕ → TableId → Type 0
HasSlot lane table = cell_of lane < table.words

-- what holds of a seat between two calls, where it has no turn
pub record IsSeated (lane : ℕ) (idle : Bool) (m : Me) : Type 0 where
  pub rests : IsResting m
  pub unserving : (part m).serving ≡ None
  pub tells : idle ≡ is_free (part m).flight
  pub numbered : lane ≡ (part m).lane
  pub sound : IsSound (opening m)
  pub last : State
  pub legal : IsLegal (opening m) (part m).seen last

-- the turn was had, with the store at the end of the history
pub record Holds (m n : Me) : Type 0 where
  pub log : List Event
  pub last : State
  pub has : n ≡ (sat (opening m) (taken (part m) log), (0, Home last) ∷ m.1)
  pub found : Found (opening m) (part m) log last

-- the store that the token has
abbrev pub Has : Me → State → Type 0
Has m store = m.1 ≡ (0, Home store) ∷ rest m.1

-- a step was made on the store that the token has
pub record Serves (m : Me) (event : Event) (n : Me) : Type 0 where
  pub before : State
  pub after : State
  pub had : Has m before
  pub has : n ≡ (m.0, (0, Home after) ∷ rest m.1)
  pub step : Step before event after

-- the token holds this list, and has the store as this event leaves it
pub record HoldsBefore (m : Me) (log : List Event) (event : Event) : Type 0 where
  pub last : State
  pub after : State
  pub has : m ≡ (sat (opening m) (part m), (0, Home after) ∷ rest m.1)
  pub held : (part m).holding ≡ Some log
  pub legal : IsLegal (opening m) log last
  pub step : Step last event after
  pub unserving : (part m).serving ≡ None
  pub idle : (part m).flight ≡ None

-- both lanes have seen one list
pub record SeeOneList (m n new_m new_n : Me) : Type 0 where
  pub log : List Event
  pub last : State
  pub first : new_m ≡ (sat (opening m) (loaded (part m) log), m.1)
  pub second : new_n ≡ (sat (opening m) (loaded (part n) log), n.1)
  pub founds : Found (opening m) (part m) log last × Found (opening m) (part n) log last
