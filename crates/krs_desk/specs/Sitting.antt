-- What a caller knows of a seat, and how calls, meeting and closing change it. The form is this project's own.
use Rattle.std.specs.Prelude.{[], ◌++◌, ◌+◌, ◌∷◌, ◌≡◌, ◌≢◌, ◌≤◌, Bool, false, List, None, Result, Some, suc, zero, ℕ}
use Rattle.atomic_table.specs.Seated.{TableId}
use Rattle.krs_types.specs.declared.{ask.{Answer.Answer, Ask.Ask}, errno.Errno.Errno, event.Event.Event}
use Rattle.krs_model.specs.{History.{event_of, IsLegal}, Lists.Begins, State.State}
use Rattle.krs_world.specs.History.{StandsAfter}
use Rattle.krs_world.specs.{Knowing.{events_of, flight, fresh, loaded, missed, posted}, declared.view.Part.Part}

-- A seat: of which desk it is, the state of the store that the desk was opened with, and what the seat knows: its lane,
-- the events that it has `seen`, its own calls `mine`, and how often it `found` the turn taken. A turn may be kept for
-- calls that follow. So many were served in it so far: 0 where none is kept.
pub record Sitting : Type 0 where
  pub table : TableId
  pub opening : State
  pub part : Part
  pub kept : ℕ

-- a seat that nothing was called on
abbrev pub fresh_seat : TableId → State → ℕ → Sitting
fresh_seat table opening lane = record { table = table; opening = opening; part = fresh lane; kept = 0 }

-- one for each lane below this one, in order
abbrev pub fresh_seats : TableId → State → ℕ → List Sitting
fresh_seats table opening zero = []
fresh_seats table opening (suc lane) = fresh_seats table opening lane ++ fresh_seat table opening lane ∷ []

-- it is of this desk, and no call of its own is in flight
abbrev pub IsIdleAt : TableId → Sitting → Type 0
IsIdleAt table s = (s.table ≡ table) × (s.part.flight ≡ None)

-- no turn is kept
abbrev pub rested : Sitting → Sitting
rested s = record s { kept = 0 }

-- A turn is given back where no more calls follow. One that is kept has served one call more, and 63 at most.
abbrev pub KeepsTurn : Bool → Sitting → Sitting → Type 0
KeepsTurn more s t = (more ≡ false → t.kept ≡ 0) × (t.kept ≢ 0 → (t.kept ≡ s.kept + 1) × (t.kept ≤ 63))

-- the turn was found taken once more
abbrev pub missed_by : Sitting → Sitting
missed_by s = record (rested s) { part = missed s.part }

-- A call was made: it is in what is now seen, behind all that had been seen. What is now seen up to the call is `upto`,
-- which is legal from the opening state; what others asked since is `between`. The call is one more of the lane's, and
-- what is now seen has just those.
pub record Adds (s : Sitting) (event : Event) (t : Sitting) : Type 0 where
  pub table : t.table ≡ s.table
  pub opening : t.opening ≡ s.opening
  pub lane : t.part.lane ≡ s.part.lane
  pub upto : List Event
  pub between : List Event
  pub last : State
  pub begins : Begins upto t.part.seen
  pub legal : IsLegal s.opening upto last
  pub ends : upto ≡ (s.part.seen ++ between) ++ event ∷ []
  pub mine : t.part.mine ≡ s.part.mine ++ event ∷ []
  pub own : events_of t.part.lane t.part.seen ≡ t.part.mine

-- a call is in flight, after all that was seen
abbrev pub posted_by : Sitting → ℕ → Ask → Sitting
posted_by s moment ask = record (rested s) { part = posted s.part moment ask }

-- The call that was in flight has its reply. What is now seen is legal from the opening state, begins with all that had
-- been seen, and has the call after all that had been seen as it was posted. The call is one more of the lane's, and
-- what is now seen has just those. All else is as before.
pub record Collects (s : Sitting) (reply : Result Answer Errno) (t : Sitting) : Type 0 where
  pub table : t.table ≡ s.table
  pub opening : t.opening ≡ s.opening
  pub lane : t.part.lane ≡ s.part.lane
  pub moment : ℕ
  pub ask : Ask
  pub before : List Event
  pub posted : s.part.flight ≡ Some (flight moment ask before)
  pub seen : Begins s.part.seen t.part.seen
  pub last : State
  pub legal : IsLegal s.opening t.part.seen last
  pub stands : StandsAfter before (event_of s.part.lane moment ask reply) t.part.seen
  pub mine : t.part.mine ≡ s.part.mine ++ event_of s.part.lane moment ask reply ∷ []
  pub own : events_of t.part.lane t.part.seen ≡ t.part.mine
  pub taken : t.part.taken ≡ s.part.taken
  pub found : t.part.found ≡ s.part.found
  pub checked : t.part.checked ≡ s.part.checked
  pub idle : (t.part.flight ≡ None) × (t.part.done ≡ false)

-- the list has just the calls of the lane that have their replies, where none is in flight
abbrev pub HasItsCalls : Sitting → Type 0
HasItsCalls s = s.part.flight ≡ None → events_of s.part.lane s.part.seen ≡ s.part.mine

-- Two seats met: both have seen one list, which is legal from the opening state, begins with what either had seen, and
-- has just the calls of each. The opening state was one and the same; nothing else that they know has changed.
pub record Meets (s t new_s new_t : Sitting) : Type 0 where
  pub opening : (new_s.opening ≡ s.opening) × (new_t.opening ≡ s.opening)
  pub kept : new_t.opening ≡ t.opening
  pub log : List Event
  pub seen : (new_s.part ≡ loaded s.part log) × (new_t.part ≡ loaded t.part log)
  pub last : State
  pub legal : IsLegal s.opening log last
  pub first : Begins s.part.seen log
  pub second : Begins t.part.seen log
  pub own : HasItsCalls new_s × HasItsCalls new_t

-- the store is the end of a legal list, which begins with what the seat had seen, and has just the seat's own calls,
-- where none is in flight
pub record EndsIn (s : Sitting) (store : State) : Type 0 where
  pub log : List Event
  pub legal : IsLegal s.opening log store
  pub seen : Begins s.part.seen log
  pub own : s.part.flight ≡ None → events_of s.part.lane log ≡ s.part.mine
