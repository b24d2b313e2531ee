-- What a request finds beside a keyring that is made for it.
use Rattle.std.specs.Prelude.{Bool, Err, if◌then◌else◌, None, Ok, Option, Result, Some, ℕ}
use Rattle.krs_types.specs.{Refusing.◌>>=◌, declared.{ask.Answer.TheVariants.Number, context.Context.Context}}
use Rattle.krs_types.specs.declared.{errno.Errno.{Errno, TheVariants.{EDEADLK, ENOKEY}}, name.Name.Name}
use Rattle.krs_model.specs.{Linking.is_named, Lookup.context_of, Making.special_ring, Outcome.Outcome}
use Rattle.krs_model.specs.{Search.{found, requested}, State.State}
use Rattle.krs_tables.specs.Specials.{linking_made, special_name}
use Rattle.krs_tables.specs.declared.making.Special.{Special, TheVariants.{Process, Thread}}
use Rattle.krs_ring_asks.specs.Found.{linkable}

-- a keyring is made and linked to a key that was found, where that grants LINK
abbrev pub found_made : Special → State → ℕ → ℕ → ℕ → Outcome
found_made special s client number serial = do
  c ← context_of s client number
  key ← linkable s c serial
  linking_made special s client number serial (Number serial)

-- the name is that of the keyring
abbrev pub is_of_name : Special → Context → Name → Bool
is_of_name special c name = is_named name (Some (special_ring (special_name special).desc c.caller))

abbrev pub found_in : State → Context → Name → Option ℕ → Result ℕ Errno
found_in s c name None = Err ENOKEY
found_in s c name (Some ring) = found s c ring name

-- what is found in what is attached before it: a process keyring comes behind the thread keyring
abbrev pub found_before : Special → State → Context → Name → Result ℕ Errno
found_before Thread s c name = Err ENOKEY
found_before Process s c name = found_in s c name c.thread

-- it is not linked to itself
abbrev pub or_itself : Result ℕ Errno → Result ℕ Errno
or_itself (Ok serial) = Ok serial
or_itself (Err e) = Err EDEADLK

-- what a request finds beside it
abbrev pub beside : Special → State → Context → Name → Result ℕ Errno
beside special s c name =
    if is_of_name special c name then or_itself (found_before special s c name) else requested s c name
