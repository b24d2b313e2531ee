-- Two moments at which the rule of the table holds: what a call stands behind at the second that wasn't asked, or
-- wasn't answered, at the first. Herlihy and Wing, "Linearizability" (1990), real-time order.
use Rattle.std.specs.Prelude.{◌++◌, ◌∷◌, ◌≡◌, ◌≢◌, Bool, List, None, Result, slice_index, ℕ}
use lib.ListN.{get_elem?}
use mathlib.Core.Option.{some}
use Rattle.krs_types.specs.declared.{ask.{Answer.Answer, Ask.Ask}, errno.Errno.Errno, event.Event.Event}
use Rattle.krs_model.specs.{History.{event_of, IsLegal}, Revocation.{Reads, Revokes}, State.State}
use Rattle.krs_world.specs.{Between.{IsSeenBy, StandsNext}, Knowing.{events_of, one}, declared.view.Part.Part}
use Rattle.krs_desk.specs.{Parts.{cell_of, sight, views_of}, Rule.InOneOrder, declared.slot.SlotValue.SlotValue}
use Rattle.krs_desk.specs.declared.{token.Sight.Sight, word.TheConstants.ANSWERED}
use Rattle.atomic_table.specs.Table as table
use Rattle.krs_world.specs.declared.view.Cell.TheVariants as cells

-- a token stands for this lane, which knows p
abbrev pub IsSat : State → Part → table.State SlotValue Sight → Type 0
IsSat opening p s = (j : ℕ) × (laid : Bool) × (get_elem? s.views j ≡ some (sight (one opening p) laid))

-- some token has seen this list, at both moments
abbrev pub StaysSeen : List Event → table.State SlotValue Sight → table.State SlotValue Sight → Type 0
StaysSeen front s s' = IsSeenBy front (views_of s.views) × IsSeenBy front (views_of s'.views)

-- Of two moments of one desk: a call of a lane that had none in flight at the first, and has had its reply at the
-- second, stands behind all that any token had seen at the first, in the history and in what its own token has seen.
abbrev pub KeepsRealTimeBetween : State → Type 0
KeepsRealTimeBetween opening =
    (s s' : table.State SlotValue Sight) (front : List Event) (q q' : Part) (e : Event) (more : List Event)
    → InOneOrder opening s → (later : InOneOrder opening s') → StaysSeen front s s'
    → IsSat opening q s → q.flight ≡ None
    → IsSat opening q' s' → q'.lane ≡ q.lane → q'.mine ≡ q.mine ++ e ∷ more
    → StandsNext q.lane front q.mine e later.history.log × StandsNext q.lane front q.mine e q'.seen

-- So does a call that was in flight and not answered at the first moment, as that at which it was posted,
abbrev pub KeepsCollectedBetween : State → Type 0
KeepsCollectedBetween opening =
    (s s' : table.State SlotValue Sight) (front : List Event) (q q' : Part) (e : Event) (more : List Event)
    → InOneOrder opening s → (later : InOneOrder opening s') → StaysSeen front s s'
    → IsSat opening q s → slice_index s.words (cell_of q.lane) ≢ ANSWERED
    → IsSat opening q' s' → q'.lane ≡ q.lane → q'.mine ≡ q.mine ++ e ∷ more
    → StandsNext q.lane front q.mine e later.history.log × StandsNext q.lane front q.mine e q'.seen

-- and one that is answered at the second, though its reply isn't collected.
abbrev pub KeepsPostedBetween : State → Type 0
KeepsPostedBetween opening =
    (s s' : table.State SlotValue Sight) (front : List Event) (q q' : Part) (moment : ℕ) (ask : Ask)
    (reply : Result Answer Errno)
    → InOneOrder opening s → (later : InOneOrder opening s') → StaysSeen front s s'
    → IsSat opening q s → slice_index s.words (cell_of q.lane) ≢ ANSWERED
    → IsSat opening q' s' → q'.lane ≡ q.lane → q'.mine ≡ q.mine
    → later.cell q.lane ≡ cells.Answered moment ask reply
    → StandsNext q.lane front q.mine (event_of q.lane moment ask reply) later.history.log

-- an accepted REVOKE of the key stands in the list
abbrev pub HasRevoked : State → List Event → ℕ → Type 0
HasRevoked opening list serial =
    (before : List Event) × (revoking : Event) × (rest : List Event) × (old : State)
    × (list ≡ before ++ revoking ∷ rest) × IsLegal opening before old × Revokes old revoking serial

-- No READ that was asked, or answered, after some token had seen the reply to a REVOKE of the key is accepted: of two
-- moments, a call of a lane that wasn't answered at the first, where the REVOKE had been seen, and has had its reply at
-- the second, stands somewhere in what its token has seen, and is no accepted READ of that key there.
abbrev pub RefusesRevoked : State → Type 0
RefusesRevoked opening =
    (s s' : table.State SlotValue Sight) (front : List Event) (serial : ℕ) (q q' : Part) (e : Event) (more : List Event)
    → InOneOrder opening s → InOneOrder opening s' → StaysSeen front s s' → HasRevoked opening front serial
    → IsSat opening q s → slice_index s.words (cell_of q.lane) ≢ ANSWERED
    → IsSat opening q' s' → q'.lane ≡ q.lane → q'.mine ≡ q.mine ++ e ∷ more
    → (before : List Event) × (rest : List Event) × (q'.seen ≡ before ++ e ∷ rest) × (events_of q.lane before ≡ q.mine)
    × ((late : State) → IsLegal opening before late → Reads late e serial → ⊥)
