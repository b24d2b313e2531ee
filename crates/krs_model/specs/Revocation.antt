-- A key that was revoked is not read again: keyctl(2), KEYCTL_REVOKE, "EKEYREVOKED".
use Rattle.std.specs.Prelude.{◌≡◌, IsOk, List, Ok, ℕ, ℤ}
use Rattle.krs_types.specs.declared.ask.Op.{Op, TheVariants.{Read, Revoke}}
use Rattle.krs_types.specs.declared.{context.Context.Context, event.Event.Event}
use Rattle.krs_model.specs.{History.IsLegal, Lookup.{context_of, serial_of}, State.{raised, State}, Step.Step}

-- in this context of the client the id is the serial, or stands for it: keyctl(2), KEYCTL_GET_KEYRING_ID
pub record Names (s : State) (client context : ℕ) (id : ℤ) (serial : ℕ) : Type 0 where
  pub whose : Context
  pub own : context_of s client context ≡ Ok whose
  pub named : serial_of s whose id ≡ Ok serial

-- an accepted ask of a key by its id, which names the serial when the ask is served
pub record IsServed (s : State) (event : Event) (op : ℤ → Op) (serial : ℕ) : Type 0 where
  pub id : ℤ
  pub asked : event.ask.op ≡ op id
  pub accepted : IsOk event.reply
  pub names : Names (raised s event.moment) event.lane event.ask.context id serial

-- an accepted KEYCTL_REVOKE of the key at the serial
abbrev pub Revokes : State → Event → ℕ → Type 0
Revokes s event serial = IsServed s event Revoke serial

-- an accepted KEYCTL_READ of the key at the serial
abbrev pub Reads : State → Event → ℕ → Type 0
Reads s event serial = IsServed s event Read serial

-- each such accepted ask is of some key
abbrev pub IsOfKey : (ℤ → Op) → Type 0
IsOfKey op =
    (old new : State) (event : Event) (id : ℤ) → Step old event new → event.ask.op ≡ op id → IsOk event.reply
    → (serial : ℕ) × IsServed old event op serial

-- whatever comes before, between and after, no key is read once it was revoked: KEYCTL_REVOKE
abbrev pub StaysUnread : State → Type 0
StaysUnread start =
    (before : List Event) (old : State) → IsLegal start before old
    → (revoking : Event) (mid : State) (serial : ℕ) → Step old revoking mid → Revokes old revoking serial
    → (later : List Event) (late : State) → IsLegal mid later late
    → (reading : Event) (end : State) → Step late reading end → Reads late reading serial → ⊥
