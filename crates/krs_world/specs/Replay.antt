-- What a list of events must be to have happened to a new store.
use Rattle.std.specs.Prelude.{[], ◌∷◌, ◌≡◌, ◌⊎◌, Bool, Err, false, List, true}
use Rattle.krs_types.specs.{Growth.grows, declared.{errno.Errno.TheVariants.ENOMEM, event.Event.Event}}
use Rattle.krs_model.specs.{State.{raised, State}, Step.Step}

-- an ask that may find no memory, answered with ENOMEM
abbrev pub FoundNoMemory : Event → Type 0
FoundNoMemory event = (event.reply ≡ Err ENOMEM) × (grows event.ask.op ≡ true)

-- One step of the store. Where an ask that may find no memory found none, it isn't asked whether another refusal
-- applied: the clock alone is raised.
abbrev pub Replayed : State → Event → State → Type 0
Replayed old event new = Step old event new ⊎ (FoundNoMemory event × (new ≡ raised old event.moment))

-- these events lead from start to end so, each by one step
abbrev pub ReplaysTo : State → List Event → State → Type 0
ReplaysTo start [] end = start ≡ end
ReplaysTo start (event ∷ events) end = (next : State) × Replayed start event next × ReplaysTo next events end

-- these events may have happened to a store
abbrev pub Replays : State → List Event → Type 0
Replays start events = (end : State) × ReplaysTo start events end

-- whether this event may have happened to the store, and what the store is then
abbrev pub IsReplayedBy : State → Event → Bool → State → Type 0
IsReplayedBy old event true new = Replayed old event new
IsReplayedBy old event false new = (other : State) → ¬ Replayed old event other
