-- The frame of a reply, with its ask's tag or with none: docs/FORMAT.md, "A reply's frame", "Faults of a reply".
use Rattle.std.specs.Prelude.{[], ◌++◌, ◌+◌, ◌<◌, ◌==◌, ◌^◌, ◌||◌, ◌≡◌, ◌≤◌, Bool, Err, find, if◌then◌else◌, length}
use Rattle.std.specs.Prelude.{List, nat_lt, None, Ok, Option, option_map, Result, Some, take, ℕ}
use Rattle.std.specs.Int.{to_le_bytes, w32}
use Rattle.krs_types.specs.Errno.{errnos, number_of}
use Rattle.krs_types.specs.{Rows.row_of, declared.ask.Answer.{Answer, TheVariants.{Bytes, Nothing, Number}}}
use Rattle.krs_types.specs.declared.{ask.Op.Op, errno.Errno.Errno, shape.Shape.Shape}
use Rattle.krs_wire.specs.Faulting.{after, GivesRead, or_bad_body}
use Rattle.krs_wire.specs.{Field.{both, Field, nothing, number, sized, whole}, Tag.{tag_field, tag_size, tag_text}}
use Rattle.krs_wire.specs.declared.fault.WireFault.{WireFault, TheVariants.{BadBody, BadLength}}
use Rattle.krs_types.specs.declared.shape.Shape.TheVariants as shapes

-- 0, or the number of the error
abbrev pub status_of : Result Answer Errno → ℕ
status_of (Ok answer) = 0
status_of (Err e) = number_of e

-- the answer's bytes: a number in four, bytes as they stand; an error has none
abbrev pub body_of : Result Answer Errno → List ℕ
body_of (Ok Nothing) = []
body_of (Ok (Number n)) = to_le_bytes w32 n
body_of (Ok (Bytes bytes)) = bytes
body_of (Err e) = []

-- length, status, the tag where there is one, body; the length counts the bytes that follow it
abbrev pub frame_of : (tag : Option ℕ) → (status : ℕ) → (body : List ℕ) → List ℕ
frame_of tag status body = (sized w32).encode ((to_le_bytes w32 status ++ tag_text tag) ++ body)

abbrev pub reply_frame : (tag : Option ℕ) → Result Answer Errno → List ℕ
reply_frame tag reply = frame_of tag (status_of reply) (body_of reply)

-- what kind of answer an operation gets: docs/FORMAT.md, "The asks"
abbrev pub shape_of : Op → Shape
shape_of op = (row_of op).shape

-- an error, or an answer of the kind
abbrev pub HasShape : Shape → Result Answer Errno → Type 0
HasShape shape (Err e) = Unit {0}
HasShape shapes.Nothing (Ok Nothing) = Unit {0}
HasShape shapes.Number (Ok (Number n)) = n < 2 ^ 32
HasShape shapes.Bytes (Ok (Bytes bytes)) = length bytes ≤ 262140
HasShape shapes.Nothing (Ok (Number n)) = ⊥
HasShape shapes.Nothing (Ok (Bytes bytes)) = ⊥
HasShape shapes.Number (Ok Nothing) = ⊥
HasShape shapes.Number (Ok (Bytes bytes)) = ⊥
HasShape shapes.Bytes (Ok Nothing) = ⊥
HasShape shapes.Bytes (Ok (Number n)) = ⊥

abbrev pub accepted : Answer → Result Answer Errno
accepted answer = Ok answer

abbrev pub refused : Errno → Result Answer Errno
refused e = Err e

-- the error of a status, where it has one: profile, statuses of replies
abbrev pub errno_of : ℕ → Option Errno
errno_of status = find (λ e. number_of e == status) errnos

-- what a body says with status 0
abbrev pub answer_of : Shape → List ℕ → Result (Result Answer Errno) WireFault
answer_of shapes.Nothing body = or_bad_body (whole nothing (λ _. accepted Nothing) body)
answer_of shapes.Number body = or_bad_body (whole (number w32) (λ n. accepted (Number n)) body)
answer_of shapes.Bytes body = Ok (accepted (Bytes body))

-- what a body says with the status of an error: it has to be empty
abbrev pub error_of : Option Errno → List ℕ → Result (Result Answer Errno) WireFault
error_of None body = Err BadBody
error_of (Some e) body = or_bad_body (whole nothing (λ _. refused e) body)

-- what a status and a body say
abbrev pub reply_of : Shape → (status : ℕ) → (body : List ℕ) → Result (Result Answer Errno) WireFault
reply_of shape status body = if status == 0 then answer_of shape body else error_of (errno_of status) body

-- status, and the tag where there is one
abbrev pub status_fields : (is_tagged : Bool) → Field (ℕ × Option ℕ)
status_fields is_tagged = both (number w32) (tag_field is_tagged)

-- what a whole reply says behind its length, and its tag
abbrev pub reply_by : Shape → Option ((ℕ × Option ℕ) × List ℕ) → Result (Result Answer Errno × Option ℕ) WireFault
reply_by shape None = Err BadBody
reply_by shape (Some (head, body)) = after (λ reply. Ok (reply, head.1)) (reply_of shape head.0 body)

-- the length is outside 4 to 262144, and with a tag outside 12 to 262152
abbrev pub is_bad_reply_length : (is_tagged : Bool) → ℕ → Bool
is_bad_reply_length is_tagged n = nat_lt n (4 + tag_size is_tagged) || nat_lt (262144 + tag_size is_tagged) n

-- a reply that stands at the front of some bytes, its tag, and how many bytes it takes
abbrev pub Found : Type 0
Found = Result Answer Errno × Option ℕ × ℕ

unfoldable pub reply_in : (is_tagged : Bool) → Shape → Option (ℕ × List ℕ) → Result (Option Found) WireFault
reply_in is_tagged shape None = Ok None
reply_in is_tagged shape (Some (n, bytes)) =
    if is_bad_reply_length is_tagged n then Err BadLength
    else if nat_lt (length bytes) n then Ok None
    else after (λ said. Ok (Some (said.0, said.1, 4 + n)))
    (reply_by shape ((status_fields is_tagged).read (take n bytes)))

-- the reply at the front of the bytes, or its fault; nothing where it isn't whole
abbrev pub reply_front : (is_tagged : Bool) → Shape → List ℕ → Result (Option Found) WireFault
reply_front is_tagged shape bytes = reply_in is_tagged shape ((number w32).read bytes)

-- a whole reply stands at the front
abbrev pub IsFound : Result (Option Found) WireFault → Type 0
IsFound (Ok (Some found)) = Unit {0}
IsFound (Ok None) = ⊥
IsFound (Err fault) = ⊥

-- a reply without a tag, and one with its tag, as what was found
abbrev pub untagged : Result Answer Errno × ℕ → Found
untagged x = (x.0, None, x.1)

abbrev pub tagged : Result Answer Errno × ℕ × ℕ → Found
tagged x = (x.0, Some x.1, x.2)

-- the first bytes, so many, are the frame of this reply with this tag, and it is an error or an answer of the kind
abbrev pub IsAtFront : Shape → List ℕ → Found → Type 0
IsAtFront shape bytes found = (take found.2 bytes ≡ reply_frame found.1 found.0) × HasShape shape found.0

-- Where the bytes are the frame of such a reply, whatever follows it, that reply with its tag is the answer, unless
-- memory ran out.
abbrev pub Finds : {X : Type 0} → (is_tagged : Bool) → Shape → List ℕ → (X → Found) → Result (Option X) WireFault
    → Type 0
Finds is_tagged shape bytes view result =
    (reply : Result Answer Errno) (tag : Option ℕ) (more : List ℕ) → HasShape shape reply
    → (tag_field is_tagged).Fits tag → bytes ≡ reply_frame tag reply ++ more
    → GivesRead (λ o. option_map view o) result (Ok (Some (reply, tag, length (reply_frame tag reply))))
