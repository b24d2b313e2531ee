-- The types of keys, a row each, and what their names, descriptions and payloads may be: add_key(2), keyrings(7).
use Rattle.std.specs.Prelude.{[], ◌&&◌, ◌==◌, ◌||◌, ◌∷◌, Bool, bytes_eq, codes, Err, false, find, if◌then◌else◌, length}
use Rattle.std.specs.{Prelude.{List, nat_le, nat_lt, not, Ok, Result, slice_index, true, ℕ}, List.list_any}
use Rattle.krs_types.specs.{Perm.{key_mask, logon_mask}, Refusing.{◌>>=◌, or_refuse}}
use Rattle.krs_types.specs.declared.errno.Errno.{Errno, TheVariants.{EINVAL, ENODEV, EPERM}}
use Rattle.krs_types.specs.declared.kind.DescRule.{DescRule, TheVariants.{AnyText, WithoutDot, WithService}}
use Rattle.krs_types.specs.declared.kind.Kind.{Kind, TheVariants.{Keyring, Logon, User}}
use Rattle.krs_types.specs.declared.kind.PayloadRule.{PayloadRule, TheVariants.{NoBytes, SomeBytes}}
use Rattle.krs_types.specs.declared.kind.Told.{Told, TheVariants.{ItsLinks, ItsPayload, Never}}

-- What is said of a type: its number and its name, which descriptions and payloads it takes, the mask of a new key
-- (profile, masks of new keys), what READ tells of a key, and whether UPDATE takes one, and ADD a match.
pub record Row : Type 0 where
  pub number : ℕ
  pub name : List ℕ
  pub desc : DescRule
  pub payload : PayloadRule
  pub perm : ℕ
  pub told : Told
  pub updatable : Bool

abbrev pub row : (number : ℕ) → (name : List ℕ) → DescRule → PayloadRule → (perm : ℕ) → Told → (updatable : Bool) → Row
row number name desc payload perm told updatable = record {
  number = number;
  name = name;
  desc = desc;
  payload = payload;
  perm = perm;
  told = told;
  updatable = updatable;
}

abbrev pub row_of : Kind → Row
row_of User = row 0 (codes "user") AnyText SomeBytes key_mask ItsPayload true
row_of Logon = row 1 (codes "logon") WithService SomeBytes logon_mask Never true
row_of Keyring = row 2 (codes "keyring") WithoutDot NoBytes key_mask ItsLinks false

-- all types
abbrev pub kinds : List Kind
kinds = User ∷ Logon ∷ Keyring ∷ []

-- the name of a type
abbrev pub kind_name : Kind → List ℕ
kind_name kind = (row_of kind).name

-- a number of its own for each type
abbrev pub kind_number : Kind → ℕ
kind_number kind = (row_of kind).number

-- they are one type
abbrev pub same_kind : Kind → Kind → Bool
same_kind a b = kind_number a == kind_number b

-- empty, longer than that, or with a byte 0
abbrev pub is_bad_text : ℕ → List ℕ → Bool
is_bad_text longest text = (length text == 0) || (nat_lt longest (length text) || list_any (λ b. b == 0) text)

-- the first byte is this one
abbrev pub begins_with : List ℕ → ℕ → Bool
begins_with text byte = nat_lt 0 (length text) && (slice_index text 0 == byte)

-- which type a name names: profile, known types
abbrev pub kind_named : List ℕ → Result Kind Errno
kind_named name =
    if is_bad_text 31 name then Err EINVAL
    else if begins_with name 46 then Err EPERM
    else or_refuse ENODEV (find (λ kind. bytes_eq name (kind_name kind)) kinds)

-- a description of any key has 1 to 4095 bytes, none of them 0: profile, empty description
abbrev pub described : List ℕ → Result (Unit {0}) Errno
described desc = if is_bad_text 4095 desc then Err EINVAL else Ok tt

-- with a service it has one before its first colon (profile, logon prefix); without a dot it does not begin with one:
-- add_key(2), "EPERM"
abbrev pub described_by : DescRule → List ℕ → Result (Unit {0}) Errno
described_by AnyText desc = Ok tt
described_by WithService desc = if list_any (λ b. b == 58) desc && not (begins_with desc 58) then Ok tt else Err EINVAL
described_by WithoutDot desc = if begins_with desc 46 then Err EPERM else Ok tt

-- as the type wants it
abbrev pub described_as : Kind → List ℕ → Result (Unit {0}) Errno
described_as kind desc = described_by (row_of kind).desc desc

-- some bytes are 1 to 32767: keyrings(7), "Key types"
abbrev pub paid_by : PayloadRule → List ℕ → Result (Unit {0}) Errno
paid_by SomeBytes payload = if nat_le 1 (length payload) && nat_le (length payload) 32767 then Ok tt else Err EINVAL
paid_by NoBytes payload = if length payload == 0 then Ok tt else Err EINVAL

-- a payload as the type wants it
abbrev pub paid : Kind → List ℕ → Result (Unit {0}) Errno
paid kind payload = paid_by (row_of kind).payload payload

-- a key of this kind may be made of these
abbrev pub checked : Kind → List ℕ → List ℕ → Result (Unit {0}) Errno
checked kind desc payload = do
  any_key ← described desc
  own ← described_as kind desc
  paid kind payload
