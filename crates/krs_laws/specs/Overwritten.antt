-- What UPDATE and ADD overwrote: keyctl(2), KEYCTL_UPDATE; add_key(2). The form is that of krs_model,
-- specs/Secrecy.antt. That law begins at a state that no longer has the payload of a key that is gone, so there it says
-- no more than that a state and what is asked determine the replies; these begin at a state that still has it.
use Rattle.std.specs.Prelude.{◌≡◌, List, Ok, Some, ℕ, ℤ}
use Rattle.krs_types.specs.declared.{ask.{Answer.TheVariants.Number, Op.TheVariants.{Add, Update}}, event.Event.Event}
use Rattle.krs_model.specs.{Hiding.{blind, Hiding}, Revocation.IsServed, Secrecy.HidesOnly, Sound.IsSound}
use Rattle.krs_model.specs.{State.{Key, State}, Step.Step, Table.at}

-- an accepted UPDATE of the key at the serial, with this payload
abbrev pub Updates : State → Event → List ℕ → ℕ → Type 0
Updates s event payload serial = IsServed s event (λ id. Update id payload) serial

-- An accepted UPDATE leads to one store with one reply, whatever the payload was that it overwrote: so nobody is told
-- of that one any more, by whatever comes after
abbrev pub UpdatesForget : Type 0
UpdatesForget =
    (hide : Hiding) (old new : State) (event : Event) (payload : List ℕ) (serial : ℕ) → IsSound old
    → HidesOnly serial hide → Updates old event payload serial → Step old event new → Step (blind hide old) event new

-- an accepted ADD that answers the serial of a key that was there before: it gives that key another payload
pub record AddsOver (s : State) (event : Event) (serial : ℕ) : Type 0 where
  pub type_name : List ℕ
  pub desc : List ℕ
  pub payload : List ℕ
  pub ring : ℤ
  pub asked : event.ask.op ≡ Add type_name desc payload ring
  pub told : event.reply ≡ Ok (Number serial)
  pub key : Key
  pub there : at s.keys serial ≡ Some key

-- so it is of an ADD that gives a key another payload: whatever it overwrote, one store is left, with one reply
abbrev pub AddsForget : Type 0
AddsForget =
    (hide : Hiding) (old new : State) (event : Event) (serial : ℕ) → IsSound old → HidesOnly serial hide
    → AddsOver old event serial → Step old event new → Step (blind hide old) event new
