-- What is done with the front of a client's bytes and of the daemon's: how many may be passed on, the bytes as they
-- then stand, and how far the connection has come.
use Rattle.std.specs.Prelude.{◌&&◌, ◌*◌, ◌+◌, ◌-◌, ◌==◌, ◌||◌, ◌≡◌, ◌⊎◌, Bool, false, if◌then◌else◌, length, List, min}
use Rattle.std.specs.Prelude.{nat_lt, true, ℕ}
use Rattle.krs_types.specs.{Caller.no_id, Errno.number_of, declared.errno.Errno.TheVariants.EPERM}
use Rattle.krs_wire.specs.Reply.{is_bad_reply_length}
use Rattle.krs_screen.specs.Claim.{is_void, may_name, voided}
use Rattle.krs_screen.specs.Counting.{answered_more, asked_more, is_refused, one_forgotten, refused_next}
use Rattle.krs_screen.specs.Front.{front_of, le32, with_le32}
use Rattle.krs_screen.specs.declared.{claim.Peer.Peer, counting.Screen.Screen, front.Front.Front}
use Rattle.krs_screen.specs.declared.{front.Front.TheVariants.{Crowd, Fault, Hello, Other, Part}, passing.Claim.Claim}

abbrev pub Done : Type 0
Done = ℕ × (List ℕ × Screen)

-- a whole HELLO: it passes as it stands where it names nobody or what its peer may name, and else as one that names
-- nobody, which is remembered; but not a 65th of these
unfoldable pub hello_step : Peer → List ℕ → Screen → List ℕ → (at count : ℕ) → Done
hello_step peer groups s bytes at count =
    if is_void bytes at count then (at + 12 + 4 * count, (bytes, asked_more s 0))
    else if may_name peer groups bytes at count then
    (at + 12 + 4 * count, (bytes, asked_more (record s { greeted = true }) 0))
    else if nat_lt s.count 64 then (at + 12 + 4 * count, (voided bytes at, asked_more (refused_next s) 0))
    else (0, (bytes, record s { ask_fault = true }))

abbrev pub front_step : Peer → List ℕ → Screen → List ℕ → Front → Done
front_step peer groups s bytes Part = (0, (bytes, s))
front_step peer groups s bytes Fault = (0, (bytes, record s { ask_fault = true }))
front_step peer groups s bytes (Other frame) = (12, (bytes, asked_more s (frame - 12)))
front_step peer groups s bytes (Crowd frame at) = (at + 12, (voided bytes at, asked_more s (frame - (at + 12))))
front_step peer groups s bytes (Hello at count) = hello_step peer groups s bytes at count

-- nothing after a fault; the rest of the frame at hand as it comes; then what stands at the front
unfoldable pub ask_step : Peer → List ℕ → Screen → List ℕ → Done
ask_step peer groups s bytes =
    if s.ask_fault then (0, (bytes, s))
    else if nat_lt 0 s.ask_left then
    (min s.ask_left (length bytes), (bytes, record s { ask_left = s.ask_left - min s.ask_left (length bytes) }))
    else front_step peer groups s bytes (front_of bytes)

-- a reply with the status EPERM: docs/FORMAT.md, "A reply's frame"
unfoldable pub with_eperm : List ℕ → List ℕ
with_eperm bytes = with_le32 bytes 4 (number_of EPERM)

-- nothing passes of a reply of a length that none has, with or without a tag; of one to no ask; or of one by which a
-- HELLO that was made void is accepted
unfoldable pub is_bad_reply : Screen → (n status : ℕ) → Bool
is_bad_reply s n status =
    (is_bad_reply_length false n && is_bad_reply_length true n)
    || (s.answered == s.asked || (is_refused s && status == 0))

unfoldable pub head_step : Screen → List ℕ → Done
head_step s bytes =
    if is_bad_reply s (le32 bytes 0) (le32 bytes 4) then (0, (bytes, record s { reply_fault = true }))
    else if is_refused s then (8, (with_eperm bytes, answered_more (one_forgotten s) (le32 bytes 0 - 4)))
    else (8, (bytes, answered_more s (le32 bytes 0 - 4)))

unfoldable pub reply_step : Screen → List ℕ → Done
reply_step s bytes =
    if s.reply_fault then (0, (bytes, s))
    else if nat_lt 0 s.reply_left then
    (min s.reply_left (length bytes), (bytes, record s { reply_left = s.reply_left - min s.reply_left (length bytes) }))
    else if nat_lt (length bytes) 8 then (0, (bytes, s))
    else head_step s bytes

-- what is passed of a frame names nobody but what the peer may name, where the bytes are as they are passed
abbrev pub Safe : Peer → List ℕ → List ℕ → Front → Type 0
Safe peer groups passed Part = ⊥
Safe peer groups passed Fault = ⊥
Safe peer groups passed (Other frame) = Unit {0}
Safe peer groups passed (Crowd frame at) = le32 passed at ≡ no_id
Safe peer groups passed (Hello at count) = (is_void passed at count ≡ true) ⊎ (may_name peer groups passed at count
    ≡ true)

-- whom a HELLO at the front names
abbrev pub claim_at : Claim → List ℕ → Front → Claim
claim_at claim bytes Part = claim
claim_at claim bytes Fault = claim
claim_at claim bytes (Other frame) = claim
claim_at claim bytes (Crowd frame at) = claim
claim_at claim bytes (Hello at count) = record { uid = le32 bytes at; gid = le32 bytes (at + 4); count = count }
