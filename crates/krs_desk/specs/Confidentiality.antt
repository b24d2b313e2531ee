-- What holds of every list that a seat has seen, of the keys that a uid has to itself. The form is this project's own;
-- which keys these are, and when one is given away: krs_model/specs/Confidentiality.antt.
use Rattle.std.specs.Prelude.{◌++◌, ◌∷◌, ◌≡◌, Bool, List, true, ℕ}
use Rattle.krs_types.specs.declared.event.Event.{Event}
use Rattle.krs_model.specs.{Confidentiality.{HasToItself, KeepsPrivate}, Revocation.Reads, State.State}

-- each accepted READ of the list, of a key that a uid has to itself, and has not given away by then, is in a context of
-- that uid: keyctl(2), KEYCTL_READ
abbrev pub AreReadAlone : State → List Event → Type 0
AreReadAlone opening seen =
    (uid : ℕ) (private last : ℕ → Bool) (before rest : List Event) (reading : Event) (old : State) (serial : ℕ)
    → HasToItself uid private opening → seen ≡ before ++ reading ∷ rest
    → KeepsPrivate uid private opening before old last → last serial ≡ true → (reads : Reads old reading serial)
    → reads.names.whose.caller.uid ≡ uid
