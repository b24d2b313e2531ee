-- The machine of many seats, its steps, and the one history that it has. The form is this project's own.
use Rattle.std.specs.Prelude.{[], ◌++◌, ◌+◌, ◌==◌, ◌∷◌, ◌≡◌, ◌≢◌, ◌≤◌, ◌⊎◌, Bool, cond, false, length, List, map, None}
use Rattle.std.specs.Prelude.{Option, Result, slice_index_or, slice_set, Some, suc, true, zero, ℕ}
use lib.ListN.{get_elem?}
use mathlib.Core.Option.{some}
use Rattle.krs_types.specs.declared.{ask.Ask.Ask, errno.Errno.{Errno, TheVariants.{ENOMEM, ENOSPC}}, event.Event.Event}
use Rattle.krs_model.specs.{History.{event_of, IsLegal}, Lists.Begins, State.{starting_at, State}, Step.Step}
use Rattle.krs_world.specs.{History.OneHistory, Knowing.{answered, collected, events_of, fresh, grabbed, kept, loaded}}
use Rattle.krs_world.specs.Knowing.{looked_at, missed, one, posted, put_none, put_own, taken}
use Rattle.krs_world.specs.declared.step.Kind.{Kind, TheVariants.{Answer, Collect, CollectFound, Grab, Load, LookAt}}
use Rattle.krs_world.specs.declared.step.{Kind.TheVariants.{Post, Put, Serve, Take, TakeFound}, WorldStep.WorldStep}
use Rattle.krs_world.specs.declared.view.Cell.{Cell, TheVariants.{Answered, Empty, Posted, Serving}}
use Rattle.krs_world.specs.declared.view.{Part.Part, Service.Service, View.View}
use Rattle.krs_types.specs.declared.ask.Answer as answer

-- the turn is free, with the store's state at home, or out at a lane
pub data Turn : Type 0 where
  Free : State → Turn
  Out : ℕ → Turn

-- the machine: the store's state as it began, the turn, and a cell and a seat for each lane
pub record World : Type 0 where
  pub opening : State
  pub turn : Turn
  pub cells : List Cell
  pub seats : List Part

-- the lanes from this one on, so many, that nothing was done for
abbrev pub fresh_lanes : ℕ → ℕ → List Part
fresh_lanes n zero = []
fresh_lanes n (suc k) = fresh n ∷ fresh_lanes (n + 1) k

-- so many empty cells
abbrev pub empty_cells : ℕ → List Cell
empty_cells zero = []
empty_cells (suc k) = Empty ∷ empty_cells k

-- so many lanes over a store, as the machine begins
abbrev pub begun : State → ℕ → World
begun opening lanes = record {
  opening = opening;
  turn = Free opening;
  cells = empty_cells lanes;
  seats = fresh_lanes 0 lanes;
}

-- over an empty store
abbrev pub new_world : ℕ → World
new_world lanes = begun (starting_at 3) lanes

-- the longest of the lists that the seats have seen
abbrev pub IsLongest : List Event → List Part → Type 0
IsLongest log seats =
    ((log ≡ []) ⊎ ((j : ℕ) × (p : Part) × (get_elem? seats j ≡ some p) × (p.seen ≡ log)))
    × ((j : ℕ) (p : Part) → get_elem? seats j ≡ some p → Begins p.seen log)

-- the history: what the holder of the turn holds; where the turn is free, the longest list that a seat has seen
abbrev pub IsHistoryBy : Turn → List Event → List Part → Type 0
IsHistoryBy (Free store) log seats = IsLongest log seats
IsHistoryBy (Out lane) log seats = (p : Part) × (get_elem? seats lane ≡ some p) × (p.holding ≡ Some log)

-- the history of a machine
abbrev pub IsHistory : World → List Event → Type 0
IsHistory w log = IsHistoryBy w.turn log w.seats

-- the machine, with p as what the lane's seat knows
abbrev pub reseated : World → ℕ → Part → World
reseated w lane p = record w { seats = slice_set w.seats lane p }

-- the same, with this store at home
abbrev pub brought_home : World → ℕ → Part → State → World
brought_home w lane p store = record (reseated w lane p) { turn = Free store }

-- the same, with c in this lane's cell
abbrev pub recelled : World → ℕ → Cell → World
recelled w lane c = record w { cells = slice_set w.cells lane c }

-- the lane's cell
abbrev pub cell_of : List Cell → ℕ → Cell
cell_of cells lane = slice_index_or cells lane Empty

-- no call waits in the cell
abbrev pub IsUnposted : Cell → Type 0
IsUnposted Empty = Unit {0}
IsUnposted (Posted moment ask) = ⊥
IsUnposted (Serving moment ask) = Unit {0}
IsUnposted (Answered moment ask reply) = Unit {0}

-- no reply is in the cell
abbrev pub IsUnanswered : Cell → Type 0
IsUnanswered Empty = Unit {0}
IsUnanswered (Posted moment ask) = Unit {0}
IsUnanswered (Serving moment ask) = Unit {0}
IsUnanswered (Answered moment ask reply) = ⊥

abbrev pub is_answered : Cell → Bool
is_answered Empty = false
is_answered (Posted moment ask) = false
is_answered (Serving moment ask) = false
is_answered (Answered moment ask reply) = true

-- the lane's seat, which knows p, has the turn, and serves no posted call
pub record IsHolder (w : World) (lane : ℕ) (p : Part) : Type 0 where
  pub log : List Event  -- the list that it holds
  pub last : State  -- the state that this list ends in
  pub out : w.turn ≡ Out lane
  pub held : p.holding ≡ Some log
  pub unserving : p.serving ≡ None
  pub legal : IsLegal w.opening log last

-- the lane's seat, which knows p, has the turn, and serves a posted call
pub record IsServer (w : World) (lane : ℕ) (p : Part) : Type 0 where
  pub log : List Event  -- the list that it holds
  pub last : State  -- the state that this list ends in
  pub call : Service
  pub out : w.turn ≡ Out lane
  pub held : p.holding ≡ Some log
  pub serving : p.serving ≡ Some call
  pub legal : IsLegal w.opening log last

-- the event of the call that is served, with this reply
abbrev pub event_by : Service → Result answer.Answer Errno → Event
event_by call reply = event_of call.lane call.moment call.ask reply

-- the call of the lane is answered; its seat, which knows p, may have seen so many calls, that one among them
pub record IsReady (w : World) (lane : ℕ) (p : Part) (n : ℕ) : Type 0 where
  pub moment : ℕ
  pub ask : Ask
  pub reply : Result answer.Answer Errno
  pub log : List Event
  pub seen : List Event
  pub cell : get_elem? w.cells lane ≡ some (Answered moment ask reply)
  pub history : IsHistory w log
  pub more : Begins p.seen seen
  pub begins : Begins seen log
  pub size : length seen ≡ n
  -- of the lane's calls it has those that the seat knows of, and then this one
  pub has : events_of lane seen ≡ p.mine ++ event_of lane moment ask reply ∷ []

-- what a step of this kind does, by the lane's seat, which knows p
abbrev pub StepsAs : World → ℕ → Part → Kind → World → Type 0
StepsAs w lane p Take new =
    (store : State) × (log : List Event) × (w.turn ≡ Free store) × IsHistory w log
    × (new ≡ record (reseated w lane (taken p log)) { turn = Out lane })
StepsAs w lane p TakeFound new =
    (holder : ℕ) × (w.turn ≡ Out holder) × (holder ≢ lane) × (new ≡ reseated w lane (missed p))
StepsAs w lane p (Put None) new =
    (h : IsHolder w lane p) × (new ≡ brought_home w lane (put_none p h.log) h.last)
StepsAs w lane p (Put (Some call)) new =
    (h : IsHolder w lane p) × (reply : Result answer.Answer Errno) × (next : State) × (p.flight ≡ None)
    × Step h.last (event_of lane call.0 call.1 reply) next
    × (new ≡ brought_home w lane (put_own p h.log (event_of lane call.0 call.1 reply)) next)
StepsAs w lane p (Serve moment ask) new =
    (h : IsHolder w lane p) × (reply : Result answer.Answer Errno) × (next : State) × (p.flight ≡ None)
    × Step h.last (event_of lane moment ask reply) next
    × (new ≡ reseated w lane (kept p h.log (event_of lane moment ask reply)))
StepsAs w lane p (Load n) new =
    (log : List Event) × (seen : List Event) × IsHistory w log × Begins p.seen seen × Begins seen log
    × (length seen ≡ n) × (new ≡ reseated w lane (loaded p seen))
StepsAs w lane p (Post moment ask) new =
    (get_elem? w.cells lane ≡ some Empty)
    × (new ≡ recelled (reseated w lane (posted p moment ask)) lane (Posted moment ask))
StepsAs w lane p (Grab other) new =
    IsHolder w lane p × (moment : ℕ) × (ask : Ask) × (get_elem? w.cells other ≡ some (Posted moment ask))
    × (new ≡ recelled (reseated w lane (grabbed p other moment ask)) other (Serving moment ask))
StepsAs w lane p Answer new =
    (h : IsServer w lane p) × (reply : Result answer.Answer Errno) × (next : State)
    × Step h.last (event_by h.call reply) next
    × (new ≡ recelled (reseated w lane (answered p h.log (event_by h.call reply))) h.call.lane
    (Answered h.call.moment h.call.ask reply))
StepsAs w lane p (Collect n) new =
    (h : IsReady w lane p n)
    × (new ≡ recelled (reseated w lane (collected p h.seen (event_of lane h.moment h.ask h.reply))) lane Empty)
StepsAs w lane p CollectFound new = IsUnanswered (cell_of w.cells lane) × (new ≡ w)
StepsAs w lane p (LookAt other) new =
    (c : Cell) × (w.turn ≡ Out lane) × (get_elem? w.cells other ≡ some c) × IsUnposted c
    × (new ≡ reseated w lane (looked_at p other (cond (other == lane) (is_answered c) false)))

-- one step
abbrev pub Steps : World → WorldStep → World → Type 0
Steps w s new = (p : Part) × (get_elem? w.seats s.lane ≡ some p) × StepsAs w s.lane p s.kind new

-- a list of steps, one after the other
abbrev pub Runs : World → List WorldStep → World → Type 0
Runs w [] end = w ≡ end
Runs w (s ∷ more) end = (next : World) × Steps w s next × Runs next more end

-- true where the step was made; false where no such step is possible, and then nothing changed
abbrev pub MovesBy : World → ℕ → Kind → Bool → World → Type 0
MovesBy old lane kind true new = (p : Part) × (get_elem? old.seats lane ≡ some p) × StepsAs old lane p kind new
MovesBy old lane kind false new =
    (new ≡ old) × ((p : Part) (other : World) → get_elem? old.seats lane ≡ some p → ¬ StepsAs old lane p kind other)

-- What a step that was possible is refused with: ENOSPC where it would raise a number that is the greatest already,
-- ENOMEM where it was to put, serve or answer a call, or to keep a lane that was looked at
abbrev pub Refuses : World → ℕ → Part → Kind → Errno → Type 0
Refuses w lane p Take error =
    (error ≡ ENOSPC) × (18446744073709551615 ≤ p.taken) × ((store : State) × (w.turn ≡ Free store))
Refuses w lane p TakeFound error =
    (error ≡ ENOSPC) × (18446744073709551615 ≤ p.found)
    × ((holder : ℕ) × (w.turn ≡ Out holder) × (holder ≢ lane))
Refuses w lane p (Put None) error = ⊥
Refuses w lane p (Put (Some call)) error =
    (error ≡ ENOMEM) × IsHolder w lane p × (p.flight ≡ None)
Refuses w lane p (Serve moment ask) error =
    (error ≡ ENOMEM) × IsHolder w lane p × (p.flight ≡ None)
Refuses w lane p (Load n) error = ⊥
Refuses w lane p (Post moment ask) error = ⊥
Refuses w lane p (Grab other) error = ⊥
Refuses w lane p Answer error = (error ≡ ENOMEM) × IsServer w lane p
Refuses w lane p (Collect n) error = ⊥
Refuses w lane p CollectFound error = ⊥
Refuses w lane p (LookAt other) error =
    (error ≡ ENOMEM) × (w.turn ≡ Out lane)
    × ((c : Cell) × (get_elem? w.cells other ≡ some c) × IsUnposted c)

-- a refusal changes nothing
abbrev pub RefusedBy : World → ℕ → Kind → Errno → World → Type 0
RefusedBy old lane kind error new =
    (new ≡ old) × ((p : Part) × (get_elem? old.seats lane ≡ some p) × Refuses old lane p kind error)

-- how the turn word has the turn, and what is at home
abbrev pub turn_word : Turn → ℕ
turn_word (Free store) = 0
turn_word (Out lane) = 1

abbrev pub at_home : Turn → Option State
at_home (Free store) = Some store
at_home (Out lane) = None

-- what the seats know
abbrev pub views_of : World → List View
views_of w = map (one w.opening) w.seats

-- there is one history of all calls, and it is the machine's; seat i is lane i's
pub record IsOneHistory (w : World) : Type 0 where
  pub history : OneHistory w.opening (turn_word w.turn) (at_home w.turn) (cell_of w.cells) (views_of w)
  pub whole : IsHistory w history.log
  pub lanes : (j : ℕ) (p : Part) → get_elem? w.seats j ≡ some p → p.lane ≡ j

-- after every list of steps, over any store, there is one history: what the holder of the turn holds, or the longest
-- list that is seen
abbrev pub StaysOne : Type 0
StaysOne =
    (opening : State) (lanes : ℕ) (steps : List WorldStep) (end : World) → Runs (begun opening lanes) steps end
    → IsOneHistory end
