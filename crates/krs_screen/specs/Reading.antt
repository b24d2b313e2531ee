-- What a daemon reads as HELLO is seen as HELLO, and names the same.
use Rattle.std.specs.Prelude.{◌*◌, ◌++◌, ◌+◌, ◌<◌, ◌≡◌, ◌≤◌, Err, false, length, List, Ok, slice_index, Some, take}
use Rattle.std.specs.Prelude.{true, ℕ}
use Rattle.krs_types.specs.{Caller.caller_check, declared.ask.Op.TheVariants.Hello as AsksHello}
use Rattle.krs_types.specs.declared.{caller.Caller.Caller, errno.Errno.TheVariants.EINVAL}
use Rattle.krs_wire.specs.{Frame.front_of as read_front, declared.framed.Framed.Framed}
use Rattle.krs_screen.specs.{Claim.is_group, Front.{front_of, is_hello, le32}, Step.{ask_step, Safe}}
use Rattle.krs_screen.specs.declared.{claim.Peer.Peer, counting.Screen.Screen, front.Front.Front}
use Rattle.krs_screen.specs.declared.front.Front.TheVariants.{Crowd, Fault, Hello, Other, Part}

abbrev pub Sees : List ℕ → Caller → Front → Type 0
Sees bytes caller Part = ⊥
Sees bytes caller Fault = ⊥
Sees bytes caller (Other frame) = ⊥
Sees bytes caller (Crowd frame at) = (le32 bytes at ≡ caller.uid) × (32 < length caller.groups)
Sees bytes caller (Hello at count) =
    (le32 bytes at ≡ caller.uid) × (le32 bytes (at + 4) ≡ caller.gid) × (count ≡ length caller.groups)
    × ((i : ℕ) → i < count → le32 bytes (at + 12 + 4 * i) ≡ slice_index caller.groups i)

abbrev pub EachHelloIsSeen : Type 0
EachHelloIsSeen =
    (bytes : List ℕ) (framed : Framed) (more : List ℕ) (caller : Caller) → ((i : ℕ) → slice_index bytes i < 256)
    → read_front bytes ≡ Ok (Some (framed, more)) → framed.ask.op ≡ AsksHello caller
    → Sees bytes caller (front_of bytes)

-- a caller's uid is the peer's, and its gid and groups are groups of the peer's
pub record IsPeers (peer : Peer) (groups : List ℕ) (caller : Caller) : Type 0 where
  pub uid-is : caller.uid ≡ peer.uid
  pub gid-is : is_group peer groups caller.gid ≡ true
  pub groups-are : (i : ℕ) → i < length caller.groups → is_group peer groups (slice_index caller.groups i) ≡ true

-- a daemon refuses it whoever asks, as it has too many groups or names nobody; or its peer is trusted; or it names its
-- peer
pub data Harmless (peer : Peer) (groups : List ℕ) (caller : Caller) : Type 0 where
  nobody : caller_check caller ≡ Err EINVAL → Harmless peer groups caller
  trusted : peer.is_trusted ≡ true → Harmless peer groups caller
  own : IsPeers peer groups caller → Harmless peer groups caller

-- each HELLO that a daemon reads from bytes that are safe to pass is harmless
abbrev pub EachSafeHelloIsHarmless : Type 0
EachSafeHelloIsHarmless =
    (peer : Peer) (groups : List ℕ) (bytes : List ℕ) (framed : Framed) (more : List ℕ) (caller : Caller)
    → ((i : ℕ) → slice_index bytes i < 256) → read_front bytes ≡ Ok (Some (framed, more))
    → framed.ask.op ≡ AsksHello caller → Safe peer groups bytes (front_of bytes)
    → Harmless peer groups caller

-- how many bytes of a front are passed at once
abbrev pub passed_of : Front → ℕ
passed_of Part = 0
passed_of Fault = 0
passed_of (Other frame) = 12
passed_of (Crowd frame at) = at + 12
passed_of (Hello at count) = at + 12 + 4 * count

-- what stands at the front stays, whatever comes behind the bytes that were passed
abbrev pub EachFrontStays : Type 0
EachFrontStays =
    (bytes other : List ℕ) → 0 < passed_of (front_of bytes) → passed_of (front_of bytes) ≤ length bytes
    → front_of (take (passed_of (front_of bytes)) bytes ++ other) ≡ front_of bytes

-- where no HELLO that is judged stands at the front, the peer's groups don't count
abbrev pub GroupsCountForHellosAlone : Type 0
GroupsCountForHellosAlone =
    (peer : Peer) (groups others : List ℕ) (s : Screen) (bytes : List ℕ) → is_hello (front_of bytes) ≡ false
    → ask_step peer groups s bytes ≡ ask_step peer others s bytes
