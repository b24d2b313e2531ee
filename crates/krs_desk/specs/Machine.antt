-- The machine (krs_world) that a table is, and its steps: each step of a seat is the machine's of its name, so that the
-- machine's laws hold of running threads. The form is this project's own.
use Rattle.std.specs.Prelude.{[], ◌+◌, ◌<◌, ◌∷◌, ◌≡◌, ◌≢◌, length, List, map, None, Option, slice_index, Some, ℕ}
use lib.ListN.{get_elem?}
use mathlib.Core.Option.{some}
use Rattle.krs_types.specs.declared.event.Event.{Event}
use Rattle.krs_model.specs.State.{State}
use Rattle.krs_world.specs.{Knowing.{flight, fresh}, World.{begun, Free, IsHistory, Out, Runs, Turn, World}}
pub use Rattle.krs_world.specs.History.{IsSeatedIn, Sits}
use Rattle.krs_world.specs.declared.step.Kind.{Kind, TheVariants.{Answer, Collect, CollectFound, Grab, Load, LookAt}}
use Rattle.krs_world.specs.declared.step.Kind.TheVariants.{Post, Put, Serve, Take, TakeFound}
use Rattle.krs_world.specs.declared.{step.WorldStep.WorldStep, view.Cell.Cell}
use Rattle.krs_world.specs.declared.view.{Cell.TheVariants.{Answered, Empty, Posted, Serving}, Flight.Flight, Part.Part}
use Rattle.krs_world.specs.declared.view.Standing.TheVariants.{One}
use Rattle.krs_desk.specs.Moves.{after, answers, collects, finds, grabs, IsMadeAt, loads, looks, misses, Move, posts}
use Rattle.krs_desk.specs.{Moves.{puts_none, puts_own, serves_own, stays, takes}, Parts.{cell_of, views_of}}
use Rattle.krs_desk.specs.{Rule.{CellIs, InOneOrder}, Running.{Board, IsExecution, IsStepped, turn_of}}
use Rattle.krs_desk.specs.declared.{slot.SlotValue.TheVariants.Home, word.TheConstants.{DEALING, FREE, OUT, TURN}}

-- a seat of this lane has the turn
abbrev pub IsOutIn : List Part → ℕ → Type 0
IsOutIn seats lane = (p : Part) × (log : List Event) × (get_elem? seats lane ≡ some p) × (p.holding ≡ Some log)

-- The turn: free with the store that lies in the first slot, or out at the lane that holds the history. While the seats
-- are dealt it is neither.
abbrev pub IsTurn : Board → List Part → Turn → Type 0
IsTurn s seats (Free store) = (turn_of s ≡ FREE) × (get_elem? s.homes TURN ≡ some (some (Home store)))
IsTurn s seats (Out lane) = (turn_of s ≡ OUT) × IsOutIn seats lane

-- the call in a cell is the one that its lane has in flight
abbrev pub IsCallOf : Option Flight → Cell → Type 0
IsCallOf call Empty = call ≡ None
IsCallOf call (Posted moment ask) = (had : List Event) × (call ≡ Some (flight moment ask had))
IsCallOf call (Serving moment ask) = (had : List Event) × (call ≡ Some (flight moment ask had))
IsCallOf call (Answered moment ask reply) = (had : List Event) × (call ≡ Some (flight moment ask had))

-- The table is this machine: its turn and the store at home, a cell for each lane's word and slot, and a seat for each
-- lane that a token stands for, which knows what the token does.
pub record IsWorld (opening : State) (s : Board) (w : World) : Type 0 where
  pub begins : w.opening ≡ opening
  pub turn : IsTurn s w.seats w.turn
  pub wide : length s.words ≡ length w.cells + 1
  pub cells : (lane : ℕ) (c : Cell) → get_elem? w.cells lane ≡ some c
      → CellIs (slice_index s.words (cell_of lane)) (get_elem? s.homes (cell_of lane)) c
  pub seats : (lane : ℕ) (p : Part) → get_elem? w.seats lane ≡ some p → (p.lane ≡ lane)
      × IsSeatedIn (views_of s.views) p
  pub each : (p : Part) → IsSeatedIn (views_of s.views) p → get_elem? w.seats p.lane ≡ some p
  pub calls : (lane : ℕ) (p : Part) (c : Cell) → get_elem? w.seats lane ≡ some p → get_elem? w.cells lane ≡ some c
      → IsCallOf p.flight c

-- the machine's steps of this kind of step: one, or none where a look finds a call posted, which leaves all as it is
abbrev pub kinds_of : Move → List Kind
kinds_of stays = CollectFound ∷ []
kinds_of (takes log) = Take ∷ []
kinds_of misses = TakeFound ∷ []
kinds_of (puts_own log e) = Put (Some (e.moment, e.ask)) ∷ []
kinds_of (puts_none log) = Put None ∷ []
kinds_of (serves_own log e) = Serve e.moment e.ask ∷ []
kinds_of (loads log) = Load (length log) ∷ []
kinds_of (posts moment ask) = Post moment ask ∷ []
kinds_of (finds lane) = []
kinds_of (grabs lane moment ask) = Grab lane ∷ []
kinds_of (answers log e) = Answer ∷ []
kinds_of (collects log e) = Collect (length log) ∷ []
kinds_of (looks lane finished) = LookAt lane ∷ []

-- made by this lane's seat
abbrev pub step_by : ℕ → Kind → WorldStep
step_by lane kind = record { lane = lane; kind = kind }

abbrev pub steps_by : ℕ → Move → List WorldStep
steps_by lane move = map (step_by lane) (kinds_of move)

-- Each table where the rule holds is a machine, once all seats are dealt, and their histories are one.
abbrev pub IsSomeWorld : State → Type 0
IsSomeWorld opening =
    (s : Board) → (now : InOneOrder opening s) → turn_of s ≢ DEALING
    → (w : World) × IsWorld opening s w × IsHistory w now.history.log

-- It is one machine alone.
abbrev pub IsOneWorld : State → Type 0
IsOneWorld opening =
    (s : Board) (w other : World) → InOneOrder opening s → IsWorld opening s w → IsWorld opening s other → w ≡ other

-- Where a table is a machine, and a lane's token makes a step, the machine makes the step of that name, by the seat of
-- that lane, and the table is then the machine that it leads to.
abbrev pub StepsAs : State → Type 0
StepsAs opening =
    (s new : Board) (p : Part) (m : Move) (w : World) → InOneOrder opening s → InOneOrder opening new
    → (h : IsStepped s new) → h.v.view.stands ≡ One p → IsMadeAt h.made h.found p m
    → h.w.view.stands ≡ One (after p m) → IsWorld opening s w
    → (next : World) × IsWorld opening new next × Runs w (steps_by p.lane m) next

-- So, whatever happens to a table, by whichever tokens, the machine that it is makes a list of steps.
abbrev pub RunsAs : State → Type 0
RunsAs opening =
    (s end : Board) (more : List Board) (w : World) → InOneOrder opening s → IsExecution opening s more end
    → IsWorld opening s w → (steps : List WorldStep) × (last : World) × IsWorld opening end last × Runs w steps last

-- a desk that was just opened: a token for each of these lanes and no other, of which nothing is known yet
abbrev pub AreFresh : Board → ℕ → Type 0
AreFresh s lanes =
    (length s.words ≡ lanes + 1) × ((lane : ℕ) → lane < lanes → IsSeatedIn (views_of s.views) (fresh lane))
    × ((p : Part) → IsSeatedIn (views_of s.views) p → (p.lane < lanes) × (p ≡ fresh p.lane))

-- It is the machine as it begins. So all that is so of each machine after each list of steps (krs_world, `src/laws.rt`)
-- is so of a desk, whatever happens to it.
abbrev pub BeginsAs : State → Type 0
BeginsAs opening =
    (s : Board) (lanes : ℕ) → InOneOrder opening s → turn_of s ≢ DEALING → AreFresh s lanes
    → IsWorld opening s (begun opening lanes)

-- Two moments of a desk since it was opened, whatever happened: two machines that lists of steps lead to, one after the
-- other, each with the history of its moment. Just of such machines the laws of krs_world speak (`OnlyGrows`,
-- `SeesOneOrder` and the others of its specs/Order.antt): so they hold of running threads.
abbrev pub FollowsSteps : State → Type 0
FollowsSteps opening =
    (s mid end : Board) (lanes : ℕ) (before since : List Board) → InOneOrder opening s → turn_of s ≢ DEALING
    → AreFresh s lanes → IsExecution opening s before mid → IsExecution opening mid since end
    → (now : InOneOrder opening mid) → (later : InOneOrder opening end)
    → (steps : List WorldStep) × (more : List WorldStep) × (w : World) × (last : World)
    × IsWorld opening mid w × IsWorld opening end last
    × Runs (begun opening lanes) steps w × Runs w more last
    × IsHistory w now.history.log × IsHistory last later.history.log
