-- A key whose time is over is read by nobody any more: keyctl(2), KEYCTL_SET_TIMEOUT, EKEYEXPIRED; profile, expired
-- keys stay. The form is that of krs_model, specs/Revocation.antt.
use Rattle.std.specs.Prelude.{◌≡◌, List, Some, true, ℕ}
use Rattle.krs_types.specs.declared.event.Event.{Event}
use Rattle.krs_model.specs.{Access.is_over, History.IsLegal, Revocation.Reads, State.{Key, State}, Step.Step, Table.at}

-- Whatever comes before, between and after, no key is read once its time is over: nobody may set its timeout anew, nor
-- write it, since an expired key is refused before any right is asked
abbrev pub ExpiredStaysUnread : State → Type 0
ExpiredStaysUnread start =
    (before : List Event) (old : State) → IsLegal start before old
    → (serial : ℕ) (key : Key) → at old.keys serial ≡ Some key → is_over old.clock key.expiry ≡ true
    → (later : List Event) (late : State) → IsLegal old later late
    → (reading : Event) (end : State) → Step late reading end → Reads late reading serial → ⊥
