-- What holds of every list that a seat has seen. The form is this project's own.
use Rattle.std.specs.Prelude.{◌++◌, ◌∷◌, ◌≡◌, ◌⊎◌, List, Some, ℕ}
use Rattle.krs_types.specs.declared.{ask.Op.TheVariants.Invalidate, event.Event.Event}
use Rattle.krs_model.specs.{History.IsLegal, Lists.Begins, Notes.Stream.{Move, stream, taken}}
use Rattle.krs_model.specs.{Receiving.{HasMoves, IsOpened}, Revocation.{IsServed, Reads, Revokes}}
use Rattle.krs_model.specs.{Secrecy.{MayBeRead, TellsNobody}, State.{Queue, raised, State}, Table.at}

-- the list leads from the opening state to some state, event after event
abbrev pub IsOneHistory : State → List Event → Type 0
IsOneHistory opening seen = (end : State) × IsLegal opening seen end

-- Of two events of the list, an accepted REVOKE and after it an accepted READ, never are both of one key: keyctl(2),
-- KEYCTL_REVOKE. Which key an id stands for is a matter of the state that the events before have left.
abbrev pub IsNotReadRevoked : State → List Event → Type 0
IsNotReadRevoked opening seen =
    (before later rest : List Event) (revoking reading : Event) (old late : State) (serial : ℕ)
    → seen ≡ (before ++ revoking ∷ later) ++ reading ∷ rest
    → IsLegal opening before old → Revokes old revoking serial
    → IsLegal opening (before ++ revoking ∷ later) late → Reads late reading serial → ⊥

-- an accepted REVOKE or INVALIDATE of the key: keyctl(2), KEYCTL_REVOKE, KEYCTL_INVALIDATE
abbrev pub EndsKey : State → Event → ℕ → Type 0
EndsKey s event serial = Revokes s event serial ⊎ IsServed s event Invalidate serial

-- Wherever in a history a key was revoked or invalidated, nobody is told from anywhere behind that of the payload that
-- it had, whoever had read it: krs_model/specs/Secrecy.antt
abbrev pub TellsNobodyAfter : State → Type 0
TellsNobodyAfter opening =
    (before later events : List Event) (ending : Event) (old mid : State) (serial : ℕ)
    → IsLegal opening before old → EndsKey old ending serial
    → IsLegal opening (before ++ ending ∷ later) mid → TellsNobody serial mid events

-- Each key that an accepted READ of the list names may be read by the context that asks, at that moment: keyctl(2),
-- KEYCTL_READ. Which key an id stands for is a matter of the state that the events before have left.
abbrev pub AreReadByRight : State → List Event → Type 0
AreReadByRight opening seen =
    (before rest : List Event) (reading : Event) (old : State) (serial : ℕ)
    → seen ≡ before ++ reading ∷ rest → IsLegal opening before old → (reads : Reads old reading serial)
    → MayBeRead (raised old reading.moment) reads.names.whose serial

-- For each queue, what the list calls for and what its replies spell, up to the state that it ends in. Where the queue
-- was opened in the list and is open at its end, what was read, followed by what waits, is its stream; and what was
-- read of a queue that was opened begins its stream, open or not. core-api/watch_queue.rst.
pub record GivesStream (opening : State) (seen : List Event) (q capacity : ℕ) : Type 0 where
  pub end : State
  pub moves : List Move
  pub from : HasMoves q opening seen moves end
  pub still_open :
      (queue : Queue) → IsOpened q capacity seen → at end.queues q ≡ Some queue
      → taken moves ++ queue.waiting ≡ stream capacity moves
  pub begun : IsOpened q capacity seen → Begins (taken moves) (stream capacity moves)

abbrev pub GivesItsStreams : State → List Event → Type 0
GivesItsStreams opening seen = (q capacity : ℕ) → GivesStream opening seen q capacity
