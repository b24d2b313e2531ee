-- What stands at the front of a client's bytes: docs/FORMAT.md, "An ask's frame".
use Rattle.std.specs.Prelude.{[], ◌&&◌, ◌*◌, ◌++◌, ◌+◌, ◌==◌, ◌||◌, ◌≤◌, Bool, drop, Err, false, if◌then◌else◌, length}
use Rattle.std.specs.{Prelude.{List, nat_lt, Ok, Result, take, true, ℕ}, Int.{from_le_bytes, to_le_bytes, w16, w32}}
use Rattle.krs_types.specs.declared.ask.Op.{Op}
use Rattle.krs_wire.specs.{Frame.{is_bad_length, op_of}, declared.fault.WireFault.{WireFault, TheVariants.BadOp}}
use Rattle.krs_screen.specs.declared.front.Front.{Front, TheVariants.{Crowd, Fault, Hello, Other, Part}}

-- the numbers of 16 and 32 bits at a place, little-endian
unfoldable pub le16 : List ℕ → ℕ → ℕ
le16 bytes at = from_le_bytes w16 (take 2 (drop at bytes))

unfoldable pub le32 : List ℕ → ℕ → ℕ
le32 bytes at = from_le_bytes w32 (take 4 (drop at bytes))

-- bytes with a number of 32 bits at a place
abbrev pub with_le32 : List ℕ → (at number : ℕ) → List ℕ
with_le32 bytes at number = take at bytes ++ (to_le_bytes w32 number ++ drop 4 (drop at bytes))

abbrev pub is_operation : Result Op WireFault → Bool
is_operation (Ok op) = true
is_operation (Err BadOp) = false
is_operation (Err fault) = true

-- there is an operation of this number: whatever its body says, it isn't a bad operation
unfoldable pub is_known : ℕ → Bool
is_known op = is_operation (op_of op [])

-- a HELLO whose uid stands at a place, in a frame of so many bytes: it is exactly its fields, or a fault
abbrev pub hello_by : (frame at count there : ℕ) → Front
hello_by frame at count there =
    if frame == at + 12 + 4 * count then
    if nat_lt 32 count then Crowd frame at else if nat_lt there frame then Part else Hello at count
    else Fault

unfoldable pub hello_front : (frame at : ℕ) → List ℕ → Front
hello_front frame at bytes =
    if nat_lt frame (at + 12) then Fault
    else if nat_lt (length bytes) (at + 12) then Part
    else hello_by frame at (le32 bytes (at + 8)) (length bytes)

-- by length, version and operation
unfoldable pub front_by : (n version op : ℕ) → List ℕ → Front
front_by n version op bytes =
    if version == 1 || (version == 2 && nat_lt 15 n) then
    if is_known op then
    if op == 256 then hello_front (4 + n) (if version == 1 then 12 else 20) bytes else Other (4 + n)
    else Fault
    else Fault

unfoldable pub front_of : List ℕ → Front
front_of bytes =
    if nat_lt (length bytes) 4 then Part
    else if is_bad_length (le32 bytes 0) then Fault
    else if nat_lt (length bytes) 12 then Part
    else front_by (le32 bytes 0) (le16 bytes 4) (le16 bytes 6) bytes

-- what stands there fits into so many bytes, and a frame into the longest
abbrev pub Within : Front → ℕ → Type 0
Within Part there = Unit {0}
Within Fault there = Unit {0}
Within (Other frame) there = (12 ≤ there) × (12 ≤ frame) × (frame ≤ 65540)
Within (Crowd frame at) there = (at ≤ 20) × (at + 12 ≤ there) × (at + 12 ≤ frame) × (frame ≤ 65540)
Within (Hello at count) there = (at ≤ 20) × (count ≤ 32) × (at + 12 + 4 * count ≤ there)

-- a whole HELLO that is judged, so that its peer's groups count
abbrev pub is_hello : Front → Bool
is_hello Part = false
is_hello Fault = false
is_hello (Other frame) = false
is_hello (Crowd frame at) = false
is_hello (Hello at count) = true
