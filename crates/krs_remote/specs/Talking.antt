-- What goes over a connection: docs/FORMAT.md, "Frames"; keyretain(1), "DESCRIPTION". Frames are of version 2: each
-- ask has a tag, and only a reply with that tag is one to it.
use Rattle.std.specs.Prelude.{◌++◌, ◌<◌, ◌≡◌, length, List, Option, Result, Some, ℕ}
use Rattle.std.specs.Io.KnownBytes.{Appends, Consumes}
use Rattle.krs_types.specs.declared.{ask.{Answer.Answer, Ask.Ask}, errno.Errno.Errno, shape.Shape.Shape}
use Rattle.krs_wire.specs.Encoding.{ask_frame, ask_text}
use Rattle.krs_wire.specs.{Reply.{HasShape, reply_frame, shape_of}, declared.fault.WireFault.WireFault}
use Rattle.krs_words.specs.{Writing.WritesFront, declared.stop.Stop.Stop}
use Rattle.krs_words.specs.declared.stop.Stop.TheVariants.{Connection, Memory, Printing, Reading, TooLong, Usage}
use Rattle.krs_wire.specs.declared.fault.WireFault.TheVariants as wire

-- why a client stops that reads no reply: memory ran out, or the connection gave what is none
abbrev pub cause_of : WireFault → Stop
cause_of wire.Memory = Memory
cause_of _ = Connection

-- these bytes are the frame of this reply with this tag, and it is an error or an answer of the kind
abbrev pub IsReply : Shape → (tag : ℕ) → List ℕ → Result Answer Errno → Type 0
IsReply shape tag bytes reply = (bytes ≡ reply_frame (Some tag) reply) × HasShape shape reply

-- of what could be read just the frame of this reply was, and it has this tag
abbrev pub GivesReply : Option (List ℕ) → Option (List ℕ) → Shape → (tag : ℕ) → Result Answer Errno → Type 0
GivesReply left0 left1 shape tag reply = Consumes left0 left1 (reply_frame (Some tag) reply) × HasShape shape reply

-- the same, where these bytes of it were read before
abbrev pub FollowsHead : (head : List ℕ) → Option (List ℕ) → Option (List ℕ) → Shape → (tag : ℕ) → Result Answer Errno
    → Type 0
FollowsHead head left0 left1 shape tag reply =
    (body : List ℕ) × Consumes left0 left1 body × IsReply shape tag (head ++ body) reply

-- just the frame of the ask with this tag was sent, and just the frame of this reply to it was read
abbrev pub Exchanges : Option (List ℕ) → Option (List ℕ) → (tag : ℕ) → Ask → Option (List ℕ) → Option (List ℕ)
    → Result Answer Errno → Type 0
Exchanges sent0 left0 tag ask sent1 left1 reply =
    Appends sent0 sent1 (ask_frame (Some tag) ask) × GivesReply left0 left1 (shape_of ask.op) tag reply

-- Why an ask was not sent: no frame is long enough for it, or memory ran out, and nothing was sent; or writing
-- failed, and a beginning of its frame was sent.
abbrev pub NotSent : Option (List ℕ) → (tag : ℕ) → Ask → Option (List ℕ) → Stop → Type 0
NotSent sent0 tag ask sent1 Usage = (65536 < length (ask_text (Some tag) ask)) × (sent1 ≡ sent0)
NotSent sent0 tag ask sent1 Memory = sent1 ≡ sent0
NotSent sent0 tag ask sent1 Connection = WritesFront sent0 sent1 (ask_frame (Some tag) ask)
NotSent sent0 tag ask sent1 Reading = ⊥
NotSent sent0 tag ask sent1 TooLong = ⊥
NotSent sent0 tag ask sent1 Printing = ⊥

-- Why there is no reply: no frame is long enough for the ask, and nothing was sent or read; or memory ran out, or
-- the connection failed or gave no reply with this tag, and a beginning of the ask's frame was sent, and nothing else.
abbrev pub GivesUp : Option (List ℕ) → Option (List ℕ) → (tag : ℕ) → Ask → Option (List ℕ) → Option (List ℕ) → Stop
    → Type 0
GivesUp sent0 left0 tag ask sent1 left1 Usage =
    (65536 < length (ask_text (Some tag) ask)) × (sent1 ≡ sent0) × (left1 ≡ left0)
GivesUp sent0 left0 tag ask sent1 left1 Memory = WritesFront sent0 sent1 (ask_frame (Some tag) ask)
GivesUp sent0 left0 tag ask sent1 left1 Connection = WritesFront sent0 sent1 (ask_frame (Some tag) ask)
GivesUp sent0 left0 tag ask sent1 left1 Reading = ⊥
GivesUp sent0 left0 tag ask sent1 left1 TooLong = ⊥
GivesUp sent0 left0 tag ask sent1 left1 Printing = ⊥
