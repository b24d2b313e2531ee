-- The asks, a row each: docs/FORMAT.md, "The asks"; the numbers up to 32 are those of uapi linux/keyctl.h.
use Rattle.std.specs.Prelude.{[], ◌∷◌, Bool, bytes_eq, false, List, negsuc, not, pos, suc, true, zero, ℕ, ℤ}
use Rattle.krs_types.specs.Kind.{kind_name}
use Rattle.krs_types.specs.declared.ask.Op.{Op, TheVariants.{Add, Chown, Clear, CloseQueue, Describe, Exec, Exit, Fork}}
use Rattle.krs_types.specs.declared.ask.Op.TheVariants.{GetId, Hello, Invalidate, Join, Leave, Link, Move, OpenQueue}
use Rattle.krs_types.specs.declared.ask.Op.TheVariants.{Read, ReadQueue, Request, RestrictKeyring, Revoke, Search}
use Rattle.krs_types.specs.declared.ask.Op.TheVariants.{SetFilter, SetPerm, SetTimeout, Thread, Unlink, Update, Watch}
use Rattle.krs_types.specs.declared.{caller.Caller.Caller, note.FilterEntry.FilterEntry, shape.Shape.Shape}
use Rattle.krs_types.specs.declared.kind.Kind.TheVariants.{Keyring}
use Rattle.krs_types.specs.declared.shape.Shape.TheVariants as shapes

-- a destination is named: every id but 0
abbrev pub has_destination : ℤ → Bool
has_destination (pos zero) = false
has_destination (pos (suc n)) = true
has_destination (negsuc n) = true

-- a watch is ended: -1
abbrev pub ends_watch : ℤ → Bool
ends_watch (pos n) = false
ends_watch (negsuc zero) = true
ends_watch (negsuc (suc n)) = false

-- a field of a body: a number or an id of 32 bits, a flag, a text or a longer blob, whom a client says that it is, or
-- the entries of a filter: docs/FORMAT.md, "Fields of bodies"
pub data Value : Type 0 where
  Number : ℕ → Value
  Id : ℤ → Value
  Flag : Bool → Value
  Text : List ℕ → Value
  Blob : List ℕ → Value
  Whom : Caller → Value
  Entries : List FilterEntry → Value

-- the name of a type is that of keyrings
abbrev pub names_keyrings : List ℕ → Bool
names_keyrings type_name = bytes_eq type_name (kind_name Keyring)

-- What is said of an ask: its number, the kind of its answer, three marks, and its fields in their order. It takes
-- memory, so that it may find none, where it makes something, links a key, keeps bytes, or is answered with bytes:
-- docs/FORMAT.md, "Asks that take no memory". It is long where it may go through what hangs below keyrings, drop more
-- than one key, or end a queue: the choice is this project's own. It tells where it has notes: uapi
-- linux/watch_queue.h, enum key_notification_subtype.
pub record Row : Type 0 where
  pub number : ℕ
  pub shape : Shape
  pub grows : Bool
  pub long : Bool
  pub tells : Bool
  pub body : List Value

abbrev pub row : (number : ℕ) → Shape → (grows long tells : Bool) → (body : List Value) → Row
row number shape grows long tells body =
    record { number = number; shape = shape; grows = grows; long = long; tells = tells; body = body }

abbrev pub row_of : Op → Row
row_of (GetId id create) = row 0 shapes.Number create false false (Id id ∷ Flag create ∷ [])
row_of (Join name) = row 1 shapes.Number true true false (Text name ∷ [])
row_of (Update id payload) = row 2 shapes.Nothing true false true (Id id ∷ Blob payload ∷ [])
row_of (Revoke id) = row 3 shapes.Nothing false true true (Id id ∷ [])
row_of (Chown id uid gid) = row 4 shapes.Nothing false false true (Id id ∷ Number uid ∷ Number gid ∷ [])
row_of (SetPerm id mask) = row 5 shapes.Nothing false false true (Id id ∷ Number mask ∷ [])
row_of (Describe id) = row 6 shapes.Bytes true false false (Id id ∷ [])
row_of (Clear id) = row 7 shapes.Nothing false true true (Id id ∷ [])
row_of (Link key ring) = row 8 shapes.Nothing true true true (Id key ∷ Id ring ∷ [])
row_of (Unlink key ring) = row 9 shapes.Nothing false true true (Id key ∷ Id ring ∷ [])
row_of (Search head type_name desc dest) =
    row 10 shapes.Number (has_destination dest) true (has_destination dest)
    (Id head ∷ Text type_name ∷ Text desc ∷ Id dest ∷ [])
row_of (Read id) = row 11 shapes.Bytes true false false (Id id ∷ [])
row_of (SetTimeout id seconds) = row 15 shapes.Nothing false false true (Id id ∷ Number seconds ∷ [])
row_of (Invalidate id) = row 21 shapes.Nothing false true true (Id id ∷ [])
row_of (RestrictKeyring ring type_name) = row 29 shapes.Nothing false false false (Id ring ∷ Text type_name ∷ [])
row_of (Move key from to flags) = row 30 shapes.Nothing true true true (Id key ∷ Id from ∷ Id to ∷ Number flags ∷ [])
row_of (Watch id queue watch) =
    row 32 shapes.Nothing (not (ends_watch watch)) false false (Id id ∷ Number queue ∷ Id watch ∷ [])
row_of (Hello caller) = row 256 shapes.Number true false false (Whom caller ∷ [])
row_of Thread = row 257 shapes.Number true false false []
row_of Fork = row 258 shapes.Number true false false []
row_of Exec = row 259 shapes.Nothing false true false []
row_of Exit = row 260 shapes.Nothing false true false []
row_of Leave = row 261 shapes.Nothing false true false []
row_of (Add type_name desc payload ring) =
    row 262 shapes.Number true (names_keyrings type_name) true
    (Text type_name ∷ Text desc ∷ Blob payload ∷ Id ring ∷ [])
row_of (Request type_name desc dest) =
    row 263 shapes.Number (has_destination dest) true (has_destination dest) (Text type_name ∷ Text desc ∷ Id dest ∷ [])
row_of (OpenQueue capacity) = row 264 shapes.Number true false false (Number capacity ∷ [])
row_of (SetFilter queue entries) = row 265 shapes.Nothing true false false (Number queue ∷ Entries entries ∷ [])
row_of (ReadQueue queue room) = row 266 shapes.Bytes true false false (Number queue ∷ Number room ∷ [])
row_of (CloseQueue queue) = row 267 shapes.Nothing false true false (Number queue ∷ [])
