-- A HELLO that was made void is the same HELLO but for its uid.
use Rattle.std.proofs.Common.{◌&&◌, ◌+◌, ◌==◌, ◌||◌, ◌∙◌, ◌≡◌, ◌≤◌, ap, arith, drop, drop-drop, if◌then◌else◌}
use Rattle.std.proofs.Common.{length, List, nat_lt, refl, take, w32, ℕ}
use Rattle.std.specs.Int.{from_le_bytes}
use Rattle.std.proofs.lemmas.Bool.{cond_both}
use Rattle.krs_screen.specs.{Claim.voided, declared.front.Front.{Front, TheVariants.{Crowd, Fault, Hello, Other, Part}}}
use Rattle.krs_screen.specs.Front.{front_by, front_of, hello_by, hello_front, is_known, le16, le32}
use Rattle.krs_screen.proofs.Voiding.{drop_behind, le16_before, le32_before, length_voided}
use Rattle.std.proofs.lemmas.Grind.{common_steps}

pub le32_behind : (bytes : List ℕ) (at : ℕ) → at ≤ length bytes → le32 (voided bytes at) (at + 8) ≡ le32 bytes (at + 8)
unfolding le32
le32_behind bytes at h =
    let a : drop (at + 8) (voided bytes at) ≡ drop 4 (drop 4 (drop at bytes)) = drop_behind bytes at 4 h in
    let b : drop 8 (drop at bytes) ≡ drop (at + 8) bytes = drop-drop 8 at bytes in
    ap (λ bs. from_le_bytes w32 (take 4 bs)) (a ∙ (drop-drop 4 4 (drop at bytes) ∙ b))

abbrev pub at_of : ℕ → ℕ
at_of version = if version == 1 then 12 else 20

-- what stands at the front, by the numbers that say it
unfoldable pub layout : (there n version op at count : ℕ) → Front
layout there n version op at count =
    if nat_lt there 4 then Part
    else if nat_lt n 8 || nat_lt 65536 n then Fault
    else if nat_lt there 12 then Part
    else if version == 1 || (version == 2 && nat_lt 15 n) then
    if is_known op then
    if op == 256 then
    if nat_lt (4 + n) (at + 12) then Fault
    else if nat_lt there (at + 12) then Part
    else hello_by (4 + n) at count there
    else Other (4 + n)
    else Fault
    else Fault

pub as_layout : (bs : List ℕ) → front_of bs
    ≡ layout (length bs) (le32 bs 0) (le16 bs 4) (le16 bs 6) (at_of (le16 bs 4)) (le32 bs (at_of (le16 bs 4) + 8))
unfolding front_of front_by hello_front layout
as_layout bs = refl

-- a HELLO stands at this place
abbrev Placed : ℕ → Front → Type 0
Placed at (Crowd frame place) = at ≡ place
Placed at (Hello place count) = at ≡ place
Placed at front = Unit {0}

record IsPlaced (at : ℕ) (f : Front) : Type 0 where
  placed : Placed at f

all_placed : (there n version op at k : ℕ) → IsPlaced at (layout there n version op at k)
unfolding layout
all_placed there n version op at k = grind (arith, common_steps, cond_both, nat_lt)

front_placed : (bytes : List ℕ) → IsPlaced (at_of (le16 bytes 4)) (front_of bytes)
front_placed bytes = rw (as_layout bytes) (all_placed _ _ _ _ (at_of (le16 bytes 4)) _)

pub at_least : (v : ℕ) → 12 ≤ at_of v
at_least v = grind arith

-- where it is made void, the front stays
stays : (bytes : List ℕ) → at_of (le16 bytes 4) + 12 ≤ length bytes
    → front_of (voided bytes (at_of (le16 bytes 4))) ≡ front_of bytes
stays bytes there =
    grind (arith, common_steps, at_least, as_layout, length_voided, le32_before, le16_before, le32_behind)

pub hello_stays : (bytes : List ℕ) (at count : ℕ) → front_of bytes ≡ Hello at count → at + 12 ≤ length bytes
    → front_of (voided bytes at) ≡ front_of bytes
hello_stays bytes at count h there = grind (arith, common_steps, front_placed, stays)

pub crowd_stays : (bytes : List ℕ) (frame at : ℕ) → front_of bytes ≡ Crowd frame at → at + 12 ≤ length bytes
    → front_of (voided bytes at) ≡ front_of bytes
crowd_stays bytes frame at h there = grind (arith, common_steps, front_placed, stays)
