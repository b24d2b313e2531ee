-- A whole run of a connection. Whatever pieces it comes in, what is passed on to the daemon is what the client sent,
-- frame by frame, but for the HELLOs that were made void; and what is passed on to the client is what the daemon
-- answered, but for the statuses of the replies to those.
use Rattle.std.specs.Prelude.{[], ◌++◌, ◌+◌, ◌<◌, ◌||◌, ◌∷◌, ◌≡◌, Bool, drop, false, flat_map, if◌then◌else◌, length}
use Rattle.std.specs.{Prelude.{List, map, replicate, slice_index, take, true, ℕ}, List.AllByRecursion}
use Rattle.krs_types.specs.declared.{ask.Op.TheVariants.Hello as AsksHello, caller.Caller.Caller}
use Rattle.krs_wire.specs.{Frame.{End, Frames}, declared.framed.Framed.Framed}
use Rattle.krs_screen.specs.{Claim.{is_void, may_name, voided}, Counting.most, Front.{front_of, le32}, Reading.Harmless}
use Rattle.krs_screen.specs.{Step.{ask_step, Done, reply_step, with_eperm}, declared.claim.Peer.Peer}
use Rattle.krs_screen.specs.declared.{counting.Screen.Screen, front.Front.{Front, TheVariants.{Crowd, Hello, Other}}}

-- What happens at a connection: a piece comes from one end or the other, or what waits there is judged once. The
-- kernel has named the peer's groups for that, or hasn't, and the peer then has none but its gid.
pub data Event : Type 0 where
  client_sends : (piece : List ℕ) → Event
  daemon_sends : (piece : List ℕ) → Event
  asks_are_judged : (is_named : Bool) → Event
  replies_are_judged : Event

-- all that came from one end, what of it still waits, and all that was passed on to the other end
pub record Way : Type 0 where
  pub came : List ℕ
  pub waits : List ℕ
  pub passed : List ℕ

pub record Line : Type 0 where
  pub screen : Screen
  pub asks : Way
  pub replies : Way

abbrev pub more : Way → List ℕ → Way
more way piece = record { came = way.came ++ piece; waits = way.waits ++ piece; passed = way.passed }

-- so many of the bytes that waited are passed on, as they stand after a step
abbrev pub gone : Way → (count : ℕ) → (bytes : List ℕ) → Way
gone way count bytes = record { came = way.came; waits = drop count bytes; passed = way.passed ++ take count bytes }

abbrev pub asks_gone : Line → Done → Line
asks_gone line done = record { screen = done.1.1; asks = gone line.asks done.0 done.1.0; replies = line.replies }

abbrev pub replies_gone : Line → Done → Line
replies_gone line done = record { screen = done.1.1; asks = line.asks; replies = gone line.replies done.0 done.1.0 }

abbrev pub named : (is_named : Bool) → (groups : List ℕ) → List ℕ
named is_named groups = if is_named then groups else []

abbrev pub happens : Peer → (groups : List ℕ) → Line → Event → Line
happens peer groups line (client_sends piece) = record line { asks = more line.asks piece }
happens peer groups line (daemon_sends piece) = record line { replies = more line.replies piece }
happens peer groups line (asks_are_judged is_named) =
    asks_gone line (ask_step peer (named is_named groups) line.screen line.asks.waits)
happens peer groups line replies_are_judged = replies_gone line (reply_step line.screen line.replies.waits)

abbrev pub run : Peer → (groups : List ℕ) → List Event → Line → Line
run peer groups [] line = line
run peer groups (event ∷ events) line = run peer groups events (happens peer groups line event)

-- a connection as it is made: all numbers are 0
abbrev pub fresh : Screen
fresh = record {
  asked = 0;
  answered = 0;
  refused = replicate 64 0;
  ask_left = 0;
  reply_left = 0;
  first = 0;
  count = 0;
  greeted = false;
  ask_fault = false;
  reply_fault = false;
}

abbrev pub unused : Way
unused = record { came = []; waits = []; passed = [] }

abbrev pub start : Line
start = record { screen = fresh; asks = unused; replies = unused }

-- What became of an ask: it was passed on as it came, or with nobody's uid at a place, since it named too many groups
-- or since its peer may not make it. The last is refused: its reply gets EPERM.
pub data Verdict : Type 0 where
  kept : Verdict
  crowded : (place : ℕ) → Verdict
  refused : (place : ℕ) → Verdict

abbrev pub gets_eperm : Verdict → Bool
gets_eperm (refused place) = true
gets_eperm (crowded place) = false
gets_eperm kept = false

-- an ask, as much of it as was passed on, as its client sent it; and whether the groups were named when it was judged
pub record Heard : Type 0 where
  pub bytes : List ℕ
  pub is_named : Bool
  pub verdict : Verdict

abbrev pub passed_as : Verdict → List ℕ → List ℕ
passed_as kept bytes = bytes
passed_as (crowded place) bytes = voided bytes place
passed_as (refused place) bytes = voided bytes place

-- a HELLO that may pass as it is: it names nobody, or its peer may name whom it names
abbrev pub may_pass : Peer → (groups bytes : List ℕ) → (at count : ℕ) → Bool
may_pass peer groups bytes at count = is_void bytes at count || may_name peer groups bytes at count

-- the verdict that what stands at the front of an ask calls for
abbrev pub IsRight : Peer → (groups bytes : List ℕ) → Front → Verdict → Type 0
IsRight peer groups bytes (Other frame) kept = Unit {0}
IsRight peer groups bytes (Crowd frame at) (crowded place) = place ≡ at
IsRight peer groups bytes (Hello at count) kept = may_pass peer groups bytes at count ≡ true
IsRight peer groups bytes (Hello at count) (refused place) =
    (place ≡ at) × (may_pass peer groups bytes at count ≡ false)
IsRight peer groups bytes front verdict = ⊥

abbrev pub IsRightOf : Peer → (groups : List ℕ) → Heard → Type 0
IsRightOf peer groups ask = IsRight peer (named ask.is_named groups) ask.bytes (front_of ask.bytes) ask.verdict

-- a reply, as much of it as was passed on, as the daemon sent it; and whether its status was made EPERM
pub record Told : Type 0 where
  pub bytes : List ℕ
  pub is_rewritten : Bool

abbrev pub told_as : Bool → List ℕ → List ℕ
told_as is_rewritten bytes = if is_rewritten then with_eperm bytes else bytes

-- frames in order: each is as long as it says, but the last, of which so many bytes are still to come
abbrev pub AreFrames : List (List ℕ) → (left : ℕ) → Type 0
AreFrames [] left = left ≡ 0
AreFrames (frame ∷ []) left = length frame + left ≡ 4 + le32 frame 0
AreFrames (frame ∷ next ∷ frames) left = (length frame ≡ 4 + le32 frame 0) × AreFrames (next ∷ frames) left

-- what came from the client is these asks, and then what waits; each was passed on as its verdict says, which is right
pub record AreAsks (peer : Peer) (groups : List ℕ) (line : Line) (asks : List Heard) : Type 0 where
  pub came : line.asks.came ≡ flat_map (λ ask. ask.bytes) asks ++ line.asks.waits
  pub passed : line.asks.passed ≡ flat_map (λ ask. passed_as ask.verdict ask.bytes) asks
  pub frames : AreFrames (map (λ ask. ask.bytes) asks) line.screen.ask_left
  pub right : AllByRecursion (IsRightOf peer groups) asks

-- what came from the daemon is these replies, and then what waits; those to refused asks, in the order of the asks,
-- were made EPERM, and no others
pub record AreReplies (line : Line) (asks : List Heard) (replies : List Told) : Type 0 where
  pub came : line.replies.came ≡ flat_map (λ reply. reply.bytes) replies ++ line.replies.waits
  pub passed : line.replies.passed ≡ flat_map (λ reply. told_as reply.is_rewritten reply.bytes) replies
  pub frames : AreFrames (map (λ reply. reply.bytes) replies) line.screen.reply_left
  pub right : map (λ reply. reply.is_rewritten) replies
      ≡ take (length replies) (map (λ ask. gets_eperm ask.verdict) asks)

-- however a connection runs, below the greatest number of steps
abbrev pub EachRunIsFaithful : Type 0
EachRunIsFaithful =
    (peer : Peer) (groups : List ℕ) (events : List Event) → length events < most
    → (asks : List Heard) × (replies : List Told) × AreAsks peer groups (run peer groups events start) asks
    × AreReplies (run peer groups events start) asks replies

-- if it is a HELLO it is harmless
abbrev pub AsksHarmless : Peer → (groups : List ℕ) → Framed → Type 0
AsksHarmless peer groups framed = (caller : Caller) → framed.ask.op ≡ AsksHello caller → Harmless peer groups caller

-- Whatever a daemon reads from all that was passed on, as it cuts it into frames, each HELLO of it is one that it
-- refuses whoever asks, or names the peer.
abbrev pub EachHelloOfARunIsHarmless : Type 0
EachHelloOfARunIsHarmless =
    (peer : Peer) (groups : List ℕ) (events : List Event) (frames : List Framed) (end : End) → length events < most
    → ((i : ℕ) → slice_index (run peer groups events start).asks.passed i < 256)
    → Frames (run peer groups events start).asks.passed frames end
    → AllByRecursion (AsksHarmless peer groups) frames
