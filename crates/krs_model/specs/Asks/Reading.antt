-- READ and DESCRIBE: keyctl(2), KEYCTL_READ and KEYCTL_DESCRIBE.
use Rattle.std.specs.Prelude.{[], ◌%◌, ◌++◌, ◌+◌, ◌/◌, ◌∷◌, decimal, Err, flat_map, if◌then◌else◌, List, nat_lt, Ok}
use Rattle.std.specs.{Prelude.{Result, ℕ, ℤ}, Int.{to_le_bytes, w32}}
use Rattle.krs_types.specs.{Kind.{kind_name, row_of}, Refusing.◌>>=◌, Rights.VIEW}
use Rattle.krs_types.specs.declared.{ask.Answer.TheVariants.Bytes, errno.Errno.{Errno, TheVariants.EOPNOTSUPP}}
use Rattle.krs_types.specs.declared.kind.{Kind.Kind, Told.{Told, TheVariants.{ItsLinks, ItsPayload, Never}}}
use Rattle.krs_types.specs.declared.rights.Want.TheVariants.{Granted, ToRead}
use Rattle.krs_model.specs.{Lookup.{context_of, look_up}, Outcome.Outcome, State.{Content, Key, Links, Payload, State}}

-- 4 bytes each, the lowest first: profile, reading a keyring
abbrev pub serial_bytes : List ℕ → List ℕ
serial_bytes serials = flat_map (λ k. to_le_bytes w32 k) serials

-- what is told of a key: its payload, or the serials that it links
abbrev pub told_as : Told → Content → Result (List ℕ) Errno
told_as ItsPayload (Payload bytes) = Ok bytes
told_as ItsPayload (Links serials) = Err EOPNOTSUPP
told_as Never content = Err EOPNOTSUPP
told_as ItsLinks (Payload bytes) = Err EOPNOTSUPP
told_as ItsLinks (Links serials) = Ok (serial_bytes serials)

-- what may be read of a key: of a user key its payload, of a keyring the linked serials. A logon key is never read
abbrev pub readable : Kind → Content → Result (List ℕ) Errno
readable kind content = told_as (row_of kind).told content

-- what a key holds, as bytes: KEYCTL_READ; profile, whole answers
unfoldable pub read : State → ℕ → ℕ → ℤ → Outcome
read s client context id = do
  c ← context_of s client context
  found ← look_up s c id ToRead
  bytes ← readable found.1.kind found.1.content
  Ok (s, Bytes bytes)

-- a lower-case hexadecimal digit
abbrev pub hex_digit : ℕ → ℕ
hex_digit n = if nat_lt n 10 then n + 48 else n + 87

-- eight of them, the highest first
abbrev pub hex_8 : ℕ → List ℕ
hex_8 n =
    hex_digit (n / 268435456 % 16) ∷ hex_digit (n / 16777216 % 16) ∷ hex_digit (n / 1048576 % 16)
    ∷ hex_digit (n / 65536 % 16)
    ∷ hex_digit (n / 4096 % 16) ∷ hex_digit (n / 256 % 16) ∷ hex_digit (n / 16 % 16) ∷ hex_digit (n % 16) ∷ []

-- type;uid;gid;perm;description: KEYCTL_DESCRIBE; profile, describe without null; profile, whole answers
abbrev pub description : Key → List ℕ
description key =
    kind_name key.kind
    ++ (59 ∷ (decimal key.uid ++ (59 ∷ (decimal key.gid ++ (59 ∷ (hex_8 key.perm ++ (59 ∷ key.desc)))))))

-- a key that grants VIEW, as text: KEYCTL_DESCRIBE
unfoldable pub describe : State → ℕ → ℕ → ℤ → Outcome
describe s client context id = do
  c ← context_of s client context
  found ← look_up s c id (Granted VIEW)
  Ok (s, Bytes (description found.1))
