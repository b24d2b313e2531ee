-- The cut of a stream of bytes into frames: docs/FORMAT.md, "What a stream is cut into". It speaks of the whole
-- stream and knows no pieces. The faults come in the order of docs/FORMAT.md, "Faults of an ask's frame".
use Rattle.std.specs.Prelude.{[], ◌==◌, ◌||◌, ◌∷◌, ◌≡◌, Bool, drop, Err, if◌then◌else◌, length, List, nat_lt, None, Ok}
use Rattle.std.specs.{Prelude.{Option, Result, Some, take, ℕ}, Int.{w16, w32}}
use Rattle.krs_types.specs.declared.ask.Op.{Op, TheVariants.{Add, Chown, Clear, CloseQueue, Describe, Exec, Exit, Fork}}
use Rattle.krs_types.specs.declared.ask.Op.TheVariants.{GetId, Hello, Invalidate, Join, Leave, Link, Move, OpenQueue}
use Rattle.krs_types.specs.declared.ask.Op.TheVariants.{Read, ReadQueue, Request, RestrictKeyring, Revoke, Search}
use Rattle.krs_types.specs.declared.ask.Op.TheVariants.{SetFilter, SetPerm, SetTimeout, Thread, Unlink, Update, Watch}
use Rattle.krs_wire.specs.Bodies.{a_blob, a_caller, a_filter, a_flag, a_number, a_text, an_id, fields_of, Form, Parts}
use Rattle.krs_wire.specs.{Faulting.{after, or_bad_body}, Field.{both, Field, number, whole}, Tag.tag_field}
use Rattle.krs_wire.specs.declared.fault.WireFault.{WireFault, TheVariants.{BadBody, BadLength, BadOp, BadVersion}}
use Rattle.krs_wire.specs.declared.framed.Framed.{Framed}

-- A row by which a body is read: the number of an operation, the forms of its fields, and the ask that they make.
pub record Reading : Type 0 where
  pub number : ℕ
  pub forms : List Form
  pub make : Parts forms → Op

abbrev pub by : (number : ℕ) → (forms : List Form) → (Parts forms → Op) → Reading
by number forms make = record { number = number; forms = forms; make = make }

-- of each ask: docs/FORMAT.md, "The asks"
unfoldable pub readings : List Reading
readings =
    by 0 (an_id ∷ a_flag ∷ []) (λ a. GetId a.0 a.1.0)
    ∷ by 1 (a_text ∷ []) (λ a. Join a.0)
    ∷ by 2 (an_id ∷ a_blob ∷ []) (λ a. Update a.0 a.1.0)
    ∷ by 3 (an_id ∷ []) (λ a. Revoke a.0)
    ∷ by 4 (an_id ∷ a_number ∷ a_number ∷ []) (λ a. Chown a.0 a.1.0 a.1.1.0)
    ∷ by 5 (an_id ∷ a_number ∷ []) (λ a. SetPerm a.0 a.1.0)
    ∷ by 6 (an_id ∷ []) (λ a. Describe a.0)
    ∷ by 7 (an_id ∷ []) (λ a. Clear a.0)
    ∷ by 8 (an_id ∷ an_id ∷ []) (λ a. Link a.0 a.1.0)
    ∷ by 9 (an_id ∷ an_id ∷ []) (λ a. Unlink a.0 a.1.0)
    ∷ by 10 (an_id ∷ a_text ∷ a_text ∷ an_id ∷ []) (λ a. Search a.0 a.1.0 a.1.1.0 a.1.1.1.0)
    ∷ by 11 (an_id ∷ []) (λ a. Read a.0)
    ∷ by 15 (an_id ∷ a_number ∷ []) (λ a. SetTimeout a.0 a.1.0)
    ∷ by 21 (an_id ∷ []) (λ a. Invalidate a.0)
    ∷ by 29 (an_id ∷ a_text ∷ []) (λ a. RestrictKeyring a.0 a.1.0)
    ∷ by 30 (an_id ∷ an_id ∷ an_id ∷ a_number ∷ []) (λ a. Move a.0 a.1.0 a.1.1.0 a.1.1.1.0)
    ∷ by 32 (an_id ∷ a_number ∷ an_id ∷ []) (λ a. Watch a.0 a.1.0 a.1.1.0)
    ∷ by 256 (a_caller ∷ []) (λ a. Hello a.0)
    ∷ by 257 [] (λ _. Thread)
    ∷ by 258 [] (λ _. Fork)
    ∷ by 259 [] (λ _. Exec)
    ∷ by 260 [] (λ _. Exit)
    ∷ by 261 [] (λ _. Leave)
    ∷ by 262 (a_text ∷ a_text ∷ a_blob ∷ an_id ∷ []) (λ a. Add a.0 a.1.0 a.1.1.0 a.1.1.1.0)
    ∷ by 263 (a_text ∷ a_text ∷ an_id ∷ []) (λ a. Request a.0 a.1.0 a.1.1.0)
    ∷ by 264 (a_number ∷ []) (λ a. OpenQueue a.0)
    ∷ by 265 (a_number ∷ a_filter ∷ []) (λ a. SetFilter a.0 a.1.0)
    ∷ by 266 (a_number ∷ a_number ∷ []) (λ a. ReadQueue a.0 a.1.0)
    ∷ by 267 (a_number ∷ []) (λ a. CloseQueue a.0)
    ∷ []

-- what a body says by the row of an operation's number
abbrev pub read_by : List Reading → ℕ → List ℕ → Result Op WireFault
read_by [] which body = Err BadOp
read_by (row ∷ others) which body =
    if which == row.number then or_bad_body (whole (fields_of row.forms) row.make body)
    else read_by others which body

-- what a body says for an operation's number
unfoldable pub op_of : ℕ → List ℕ → Result Op WireFault
unfolding readings
op_of which body = read_by readings which body

-- version, operation, context
abbrev pub head_fields : Field (ℕ × (ℕ × ℕ))
head_fields = both (number w16) (both (number w16) (number w32))

-- What is said by an operation's number, a context, and what follows them: the tag, where there is one, and the body.
-- A frame that is too short for its tag has a bad body, unless there is no such operation.
abbrev pub said_by : (which context : ℕ) → Option (Option ℕ × List ℕ) → Result Framed WireFault
said_by which context None = after (λ op. Err BadBody) (op_of which [])
said_by which context (Some (tag, body)) =
    after (λ op. Ok (record { ask = record { context = context; op = op }; tag = tag })) (op_of which body)

-- the versions are 1 and, with a tag, 2
abbrev pub framed_by : Option ((ℕ × (ℕ × ℕ)) × List ℕ) → Result Framed WireFault
framed_by None = Err BadBody
framed_by (Some (head, more)) =
    if head.0 == 1 || head.0 == 2 then said_by head.1.0 head.1.1 ((tag_field (head.0 == 2)).read more)
    else Err BadVersion

-- what a whole frame says behind its length
unfoldable pub framed_of : List ℕ → Result Framed WireFault
framed_of frame = framed_by (head_fields.read frame)

-- the length is outside 8 to 65536
abbrev pub is_bad_length : ℕ → Bool
is_bad_length n = nat_lt n 8 || nat_lt 65536 n

-- what stands behind the length of a frame
abbrev pub front_in : ℕ → List ℕ → Result (Option (Framed × List ℕ)) WireFault
front_in n bytes =
    if is_bad_length n then Err BadLength
    else if nat_lt (length bytes) n then Ok None
    else after (λ framed. Ok (Some (framed, drop n bytes))) (framed_of (take n bytes))

abbrev pub front_by : Option (ℕ × List ℕ) → Result (Option (Framed × List ℕ)) WireFault
front_by None = Ok None
front_by (Some (n, bytes)) = front_in n bytes

-- the frame at the front of a stream with what follows it, or its fault; nothing where no frame is whole yet
unfoldable pub front_of : List ℕ → Result (Option (Framed × List ℕ)) WireFault
front_of bytes = front_by ((number w32).read bytes)

-- how a stream ends: with a rest that is the beginning of a frame, or with a fault
pub data End : Type 0 where
  rest : List ℕ → End
  bad : WireFault → End

-- the stream is these whole good frames in order, and then this end
abbrev pub Frames : List ℕ → List Framed → End → Type 0
Frames bytes [] (rest left) = (front_of bytes ≡ Ok None) × (left ≡ bytes)
Frames bytes [] (bad fault) = front_of bytes ≡ Err fault
Frames bytes (framed ∷ frames) end =
    (more : List ℕ) × (front_of bytes ≡ Ok (Some (framed, more))) × Frames more frames end
