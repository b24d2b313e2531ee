-- What follows for those who call: the history only grows, seats see one order, and a call stands behind all that its
-- own seat had seen, which is session order. Real-time order, of clients that never met, is in specs/Between.antt.
-- Herlihy and Wing, "Linearizability" (1990).
use Rattle.std.specs.Prelude.{[], ◌++◌, ◌∷◌, ◌≡◌, ◌⊎◌, List, Result, Some, ℕ}
use lib.ListN.{get_elem?}
use mathlib.Core.Option.{some}
use Rattle.krs_types.specs.declared.{ask.{Answer.Answer, Ask.Ask}, errno.Errno.Errno, event.Event.Event}
use Rattle.krs_model.specs.{History.event_of, Lists.Begins, State.State}
use Rattle.krs_world.specs.{History.{flight, StandsAfter}, World.{begun, IsHistory, Runs, StepsAs, World}}
use Rattle.krs_world.specs.declared.{step.{Kind.TheVariants.{Collect, Put, Serve}, WorldStep.WorldStep}, view.Part.Part}

-- each seat is still there, and what it had seen begins what it has seen
abbrev pub SeenGrows : World → World → Type 0
SeenGrows old new = (j : ℕ) (p : Part) → get_elem? old.seats j ≡ some p
    → (q : Part) × (get_elem? new.seats j ≡ some q) × Begins p.seen q.seen

-- whatever steps are made, the history only grows, and so does what each seat has seen: no call is ever taken back,
-- changed or moved
abbrev pub OnlyGrows : Type 0
OnlyGrows = (opening : State) (lanes : ℕ) (before after : List WorldStep) (mid end : World) (log later : List Event)
    → Runs (begun opening lanes) before mid → Runs mid after end → IsHistory mid log → IsHistory end later
    → Begins log later × SeenGrows mid end

-- of the lists that two seats have seen, at one time or at two, one begins the other
abbrev pub SeesOneOrder : Type 0
SeesOneOrder = (opening : State) (lanes : ℕ) (before after : List WorldStep) (mid end : World) (i j : ℕ) (p q : Part)
    → Runs (begun opening lanes) before mid → Runs mid after end
    → get_elem? mid.seats i ≡ some p → get_elem? end.seats j ≡ some q → Begins p.seen q.seen ⊎ Begins q.seen p.seen

-- An own call of a lane, whatever happens before and after: its event stands in the history, for ever after, behind all
-- that its seat had seen as the call was made, events of other lanes among it.
abbrev pub KeepsSessionOrder : Type 0
KeepsSessionOrder = (opening : State) (lanes : ℕ) (before after : List WorldStep) (mid next end : World) (lane : ℕ)
    (p : Part) (call : ℕ × Ask) (log : List Event) → Runs (begun opening lanes) before mid
    → get_elem? mid.seats lane ≡ some p
    → StepsAs mid lane p (Put (Some call)) next → Runs next after end → IsHistory end log
    → (reply : Result Answer Errno) × (q : Part) × (get_elem? next.seats lane ≡ some q)
    × (q.mine ≡ p.mine ++ event_of lane call.0 call.1 reply ∷ [])
    × StandsAfter p.seen (event_of lane call.0 call.1 reply) log

-- The same of an own call whose seat keeps the turn.
abbrev pub KeepsServedOrder : Type 0
KeepsServedOrder = (opening : State) (lanes : ℕ) (before after : List WorldStep) (mid next end : World) (lane : ℕ)
    (p : Part) (call : ℕ × Ask) (log : List Event) → Runs (begun opening lanes) before mid
    → get_elem? mid.seats lane ≡ some p
    → StepsAs mid lane p (Serve call.0 call.1) next → Runs next after end → IsHistory end log
    → (reply : Result Answer Errno) × (q : Part) × (get_elem? next.seats lane ≡ some q)
    × (q.mine ≡ p.mine ++ event_of lane call.0 call.1 reply ∷ [])
    × StandsAfter p.seen (event_of lane call.0 call.1 reply) log

-- A posted call of a lane whose reply is collected, whatever happens before and after: its event stands in the history,
-- for ever after, behind all that its seat had seen as the call was posted, events of other lanes among it.
abbrev pub KeepsPostedOrder : Type 0
KeepsPostedOrder = (opening : State) (lanes : ℕ) (before after : List WorldStep) (mid next end : World) (lane : ℕ)
    (p : Part) (size : ℕ) (log : List Event) → Runs (begun opening lanes) before mid → get_elem? mid.seats lane ≡ some p
    → StepsAs mid lane p (Collect size) next → Runs next after end → IsHistory end log
    → (moment : ℕ) × (ask : Ask) × (had : List Event) × (reply : Result Answer Errno) × (q : Part)
    × (p.flight ≡ Some (flight moment ask had)) × (get_elem? next.seats lane ≡ some q)
    × (q.mine ≡ p.mine ++ event_of lane moment ask reply ∷ [])
    × StandsAfter had (event_of lane moment ask reply) log
