-- What holds behind the guard: unix(7), SO_PEERCRED; profile, believed caller. The form is this project's own.
use Rattle.std.specs.Prelude.{◌++◌, ◌<◌, ◌∷◌, ◌≡◌, ◌⊎◌, Bool, false, length, List, Ok, slice_index, true, ℕ}
use Rattle.krs_types.specs.declared.{ask.Ask.Ask, context.Context.Context, event.Event.Event}
use Rattle.krs_model.specs.{Belonging.HasStayed, Confidentiality.{AreUnchanged, KeepsPrivate}, History.IsLegal}
use Rattle.krs_model.specs.{Lookup.context_of, Revocation.Reads, State.State, Step.Step}
use Rattle.krs_laws.specs.Belonging.{BeganEmpty}
use Rattle.krs_wire.specs.{Frame.{End, Frames}, declared.framed.Framed.Framed}
use Rattle.krs_screen.specs.{Counting.most, Run.{run, start}, declared.claim.Peer.Peer}
use Rattle.krs_screen.specs.Run as screen

-- all that the guard of a connection with this peer passed on to the daemon, in whatever pieces it came
abbrev pub passed_on : Peer → List ℕ → List screen.Event → List ℕ
passed_on peer groups steps = (run peer groups steps start).asks.passed

-- the ask is one of those that a daemon reads from what the guard of this peer passed on
pub record IsPassedOn (peer : Peer) (ask : Ask) : Type 0 where
  pub groups : List ℕ
  pub steps : List screen.Event
  pub few : length steps < most
  pub bytes : (i : ℕ) → slice_index (passed_on peer groups steps) i < 256
  pub framed : Framed
  pub before : List Framed
  pub later : List Framed
  pub end : End
  pub read : Frames (passed_on peer groups steps) (before ++ framed ∷ later) end
  pub is : framed.ask ≡ ask

-- The lane has the guard of this peer before it: each ask of it in these events, since its client last left, was passed
-- on. LEAVE ends a connection, and the next one may have another peer.
abbrev pub IsBehindGuard : Peer → ℕ → List Event → Type 0
IsBehindGuard peer lane events =
    (before : List Event) (event : Event) (later : List Event) → events ≡ before ++ event ∷ later
    → event.lane ≡ lane → HasStayed lane (event ∷ later) → IsPassedOn peer event.ask

-- the peer is of this uid, or is one that the guard lets name any
abbrev pub IsPeerOf : Peer → ℕ → Type 0
IsPeerOf peer uid = (peer.is_trusted ≡ true) ⊎ (peer.uid ≡ uid)

-- each context of a lane behind the guard acts as a caller of the peer's uid
abbrev pub NoPeerActsAsAnother : State → Type 0
NoPeerActsAsAnother start =
    BeganEmpty start → (events : List Event) (end : State) → IsLegal start events end
    → (lane : ℕ) (peer : Peer) → IsBehindGuard peer lane events
    → (number : ℕ) (c : Context) → context_of end lane number ≡ Ok c → IsPeerOf peer c.caller.uid

-- each accepted READ of a key that a uid has to itself, and has not given away, is of a peer of that uid
abbrev pub NoPeerReadsAnothers : State → Type 0
NoPeerReadsAnothers start =
    BeganEmpty start → (uid : ℕ) (before : List Event) (old : State) (last : ℕ → Bool)
    → KeepsPrivate uid (λ k. false) start before old last
    → (reading : Event) (end : State) (serial : ℕ) → last serial ≡ true → Step old reading end
    → Reads old reading serial
    → (peer : Peer) → IsBehindGuard peer reading.lane before → IsPeerOf peer uid

-- so is each of those in this list, which begins there
abbrev pub AreReadByTheirPeers : State → List Event → Type 0
AreReadByTheirPeers start seen =
    BeganEmpty start → (uid : ℕ) (last : ℕ → Bool) (before rest : List Event) (reading : Event) (old : State)
    (serial : ℕ) → seen ≡ before ++ reading ∷ rest → KeepsPrivate uid (λ k. false) start before old last
    → last serial ≡ true → Reads old reading serial
    → (peer : Peer) → IsBehindGuard peer reading.lane before → IsPeerOf peer uid

-- an ask of any other peer leaves each key that a uid has to itself, and has not given away, as it was
abbrev pub NoPeerChangesAnothers : State → Type 0
NoPeerChangesAnothers start =
    BeganEmpty start → (uid : ℕ) (before : List Event) (old : State) (last : ℕ → Bool)
    → KeepsPrivate uid (λ k. false) start before old last
    → (event : Event) (new : State) → Step old event new
    → (peer : Peer) → IsBehindGuard peer event.lane before → (IsPeerOf peer uid → ⊥) → AreUnchanged last old event new
