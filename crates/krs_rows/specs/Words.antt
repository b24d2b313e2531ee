-- The words that rows are written with: asks as docs/FORMAT.md names them, texts quoted, and bytes in hexadecimal.
use Rattle.std.specs.Prelude.{[], ◌*◌, ◌+◌, ◌-◌, ◌∷◌, ◌≡◌, codes, if◌then◌else◌, List, map, nat_lt, negsuc, Ok, pos}
use Rattle.std.specs.Prelude.{Result}
use Rattle.std.specs.Prelude.{suc, zero, ℕ, ℤ}
use Prim.Native.String.{String}
use Rattle.krs_types.specs.declared.ask.Answer.{Answer, TheVariants.{Bytes, Nothing, Number}}
use Rattle.krs_types.specs.declared.ask.Op.{Op}
use Rattle.krs_types.specs.declared.ask.Op.{TheVariants.{Add, Hello, Join, Request, RestrictKeyring, Search, Update}}
use Rattle.krs_types.specs.declared.{errno.Errno.{Errno}, event.Event.{Event}, note.FilterEntry.{FilterEntry}}
use Rattle.krs_model.specs.State.{starting_at}
use Rattle.krs_rows.specs.Answers.{answers, replies}

-- a line of a row
pub data Line : Type 0 where
  -- what is asked, and the reply that is due
  Asks : Op → Result Answer Errno → Line
  -- the lane, the moment and the context of the asks that follow
  From : (lane moment context : ℕ) → Line

infix 70 ◌⇒◌
-- this ask is answered so
abbrev pub ◌⇒◌ : Op → Result Answer Errno → Line
op ⇒ reply = Asks op reply

-- the events of these lines, the first of them of this lane, moment and context
abbrev pub events_of : ℕ → ℕ → ℕ → List Line → List Event
events_of lane moment context [] = []
events_of lane moment context (Asks op reply ∷ lines) =
    record { lane = lane; moment = moment; ask = record { context = context; op = op }; reply = reply }
    ∷ events_of lane moment context lines
events_of lane moment context (From l m c ∷ lines) = events_of l m c lines

-- a store that gives this serial next answers these lines as they say, where nothing else was asked of it before
abbrev pub AreDueFrom : ℕ → List Line → Type 0
AreDueFrom serial lines =
    let events = events_of 0 0 1 lines in answers (starting_at serial) events ≡ replies events

-- so does an empty store
abbrev pub AreDue : List Line → Type 0
AreDue lines = AreDueFrom 3 lines

-- an empty store answers each of these rows as it says
abbrev pub AreAllDue : List (List Line) → Type 0
AreAllDue rows =
    map (λ lines. answers (starting_at 3) (events_of 0 0 1 lines)) rows
    ≡ map (λ lines. replies (events_of 0 0 1 lines)) rows

-- the key of a serial, and the special keyrings: uapi linux/keyctl.h
abbrev pub key : ℕ → ℤ
key serial = pos serial

abbrev pub thread_ring : ℤ
thread_ring = negsuc 0

abbrev pub process_ring : ℤ
process_ring = negsuc 1

abbrev pub session : ℤ
session = negsuc 2

abbrev pub user : ℤ
user = negsuc 3

abbrev pub user_session : ℤ
user_session = negsuc 4

-- no destination
abbrev pub nowhere : ℤ
nowhere = pos 0

-- the number of a hexadecimal digit
abbrev pub digit : ℕ → ℕ
digit code = if nat_lt code 58 then code - 48 else code - 87

-- the bytes of these digits
abbrev pub bytes_of : List ℕ → List ℕ
bytes_of [] = []
bytes_of (last ∷ []) = []
bytes_of (high ∷ low ∷ digits) = (digit high * 16 + digit low) ∷ bytes_of digits

-- replies
abbrev pub number : ℕ → Result Answer Errno
number n = Ok (Number n)

abbrev pub done : Result Answer Errno
done = Ok Nothing

abbrev pub text : String → Result Answer Errno
text t = Ok (Bytes (codes t))

abbrev pub hex : String → Result Answer Errno
hex digits = Ok (Bytes (bytes_of (codes digits)))

-- asks that name texts
abbrev pub hello : ℕ → ℕ → List ℕ → Op
hello uid gid groups = Hello (record { uid = uid; gid = gid; groups = groups })

abbrev pub join : String → Op
join name = Join (codes name)

abbrev pub add : String → String → String → ℤ → Op
add kind desc payload ring = Add (codes kind) (codes desc) (codes payload) ring

abbrev pub new_ring : String → ℤ → Op
new_ring desc ring = Add (codes "keyring") (codes desc) [] ring

abbrev pub update : ℤ → String → Op
update id payload = Update id (codes payload)

abbrev pub search : ℤ → String → String → ℤ → Op
search head kind desc dest = Search head (codes kind) (codes desc) dest

abbrev pub request : String → String → ℤ → Op
request kind desc dest = Request (codes kind) (codes desc) dest

abbrev pub restrict : ℤ → String → Op
restrict ring kind = RestrictKeyring ring (codes kind)

-- an entry of a filter whose subtypes are among the first 32
abbrev pub passes : (note_type info_filter info_mask subtypes : ℕ) → FilterEntry
passes note_type info_filter info_mask subtypes = record {
  note_type = note_type;
  info_filter = info_filter;
  info_mask = info_mask;
  subtypes = subtypes ∷ 0 ∷ 0 ∷ 0 ∷ 0 ∷ 0 ∷ 0 ∷ 0 ∷ [];
}

-- this ask so many times, which is answered with a number, one more each time
abbrev pub numbers_from : (first count : ℕ) → Op → List Line
numbers_from first zero op = []
numbers_from first (suc n) op = op ⇒ number first ∷ numbers_from (first + 1) n op
