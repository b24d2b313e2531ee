-- What a seat knows, and how each kind of step changes it. The form is this project's own.
use Rattle.std.specs.Prelude.{[], ◌++◌, ◌+◌, ◌==◌, ◌∷◌, Bool, cond, false, List, None, Some, true, ℕ}
use Rattle.krs_types.specs.declared.{ask.Ask.Ask, event.Event.Event}
use Rattle.krs_model.specs.State.{State}
use Rattle.krs_world.specs.declared.view.{Cell.Cell, Part.Part, Standing.{Standing, TheVariants.One}, View.View}
pub use Rattle.krs_world.specs.History.{events_of, service, flight}

-- what a seat knows, by the opening state and the lanes that it stands for
abbrev pub view : State → Standing → View
view opening stands = record { opening = opening; stands = stands }

-- a seat of one lane
abbrev pub one : State → Part → View
one opening p = view opening (One p)

-- a lane that nothing was done for
abbrev pub fresh : ℕ → Part
fresh lane = record {
  lane = lane;
  seen = [];
  mine = [];
  holding = None;
  serving = None;
  flight = None;
  base = [];
  taken = 0;
  found = 0;
  checked = [];
  done = false;
}

-- take: the seat has the turn and holds this history; it has looked at no cell
abbrev pub taken : Part → List Event → Part
taken p log = record p { holding = Some log; base = log; taken = p.taken + 1; checked = [] }

-- take, found out: the turn is out at another seat
abbrev pub missed : Part → Part
missed p = record p { found = p.found + 1 }

-- put with an own call: its event stands at the end of the list that was held
abbrev pub put_own : Part → List Event → Event → Part
put_own p log e = record p { seen = log ++ e ∷ []; mine = p.mine ++ e ∷ []; holding = None }

-- serve: the event of an own call stands at the end of the list that is held, and is seen; the turn is kept
abbrev pub kept : Part → List Event → Event → Part
kept p log e = record p { seen = log ++ e ∷ []; mine = p.mine ++ e ∷ []; holding = Some (log ++ e ∷ []) }

-- put with no call of its own: the list that was held is seen
abbrev pub put_none : Part → List Event → Part
put_none p log = record p { seen = log; holding = None }

-- load: the seat has seen this beginning of the history
abbrev pub loaded : Part → List Event → Part
loaded p log = record p { seen = log }

-- post: the lane has a call in flight, after all that it has seen
abbrev pub posted : Part → ℕ → Ask → Part
posted p moment ask = record p { flight = Some (flight moment ask p.seen); done = false }

-- grab: the holder of the turn serves a posted call
abbrev pub grabbed : Part → ℕ → ℕ → Ask → Part
grabbed p lane moment ask = record p { serving = Some (service lane moment ask) }

-- answer: the event of the call that was served stands at the end of the list that is held
abbrev pub answered : Part → List Event → Event → Part
answered p log e = record p {
  serving = None;
  holding = Some (log ++ e ∷ []);
  checked = p.checked ++ e.lane ∷ [];
  done = cond (e.lane == p.lane) true p.done;
}

-- collect: the lane's call has its reply, and the seat has seen this beginning of the history
abbrev pub collected : Part → List Event → Event → Part
collected p seen e = record p { seen = seen; mine = p.mine ++ e ∷ []; flight = None; done = false }

-- load of a holder: a lane's cell was looked at, and wasn't posted; finished: it is the seat's own cell, and answered
abbrev pub looked_at : Part → ℕ → Bool → Part
looked_at p lane finished = record p { checked = p.checked ++ lane ∷ []; done = cond finished true p.done }

-- the cells, with c as this lane's
abbrev pub celled : (ℕ → Cell) → ℕ → Cell → ℕ → Cell
celled cell lane c l = cond (l == lane) c (cell l)
