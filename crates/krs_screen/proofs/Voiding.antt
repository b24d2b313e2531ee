-- What a HELLO says that was made void: its uid is 4294967295, and nothing else has changed.
use Rattle.std.proofs.Common.{[], ◌++◌, ◌+◌, ◌∙◌, ◌∷◌, ◌≡◌, ◌≤◌, ap, arith, drop, length, length-append, length-drop}
use Rattle.std.proofs.Common.{length-take-le, List, take, take-append-drop, true, w16, w32, ℕ}
use Rattle.std.specs.Int.{from_le_bytes}
use Rattle.std.proofs.{lemmas.List.{drop-append-le, take-append-le}, Math.Seq.drop-append-add}
use Rattle.krs_screen.specs.{Claim.{is_void, voided}, Front.{le16, le32, with_le32}}
use Rattle.std.proofs.lemmas.Grind.{common_steps}

abbrev nobody : List ℕ
nobody = 255 ∷ 255 ∷ 255 ∷ 255 ∷ []

pub front_only : (xs ys : List ℕ) (i n : ℕ) → i + n ≤ length xs → take n (drop i (xs ++ ys)) ≡ take n (drop i xs)
front_only xs ys i n h = grind (arith, common_steps, drop-append-le, length-drop, take-append-le)

pub before : (bytes ys : List ℕ) (at i n : ℕ) → i + n ≤ at → at ≤ length bytes
    → take n (drop i (take at bytes ++ ys)) ≡ take n (drop i bytes)
before bytes ys at i n h k =
    let l : length (take at bytes) ≡ at = length-take-le at bytes k in
    let b : i + n ≤ length (take at bytes) = omega (arith, l, h) in
    let whole : take n (drop i (take at bytes ++ drop at bytes)) ≡ take n (drop i bytes) =
    ap (λ zs. take n (drop i zs)) (take-append-drop at bytes) in
    grind (arith, common_steps, front_only)

pub behind : (bytes ys : List ℕ) (at n : ℕ) → at ≤ length bytes → drop (at + n) (take at bytes ++ ys) ≡ drop n ys
behind bytes ys at n k = grind (arith, common_steps, length-take-le, drop-append-add)

pub drop_voided : (bytes : List ℕ) (at : ℕ) → at ≤ length bytes
    → drop at (voided bytes at) ≡ nobody ++ drop 4 (drop at bytes)
unfolding voided
drop_voided bytes at h = grind (arith, common_steps, behind)

pub le32_voided : (bytes : List ℕ) (at : ℕ) → at ≤ length bytes → le32 (voided bytes at) at ≡ 4294967295
unfolding le32
le32_voided bytes at h = rw (drop_voided bytes at h)

pub length_with : (bytes : List ℕ) (at n : ℕ) → at + 4 ≤ length bytes → length (with_le32 bytes at n) ≡ length bytes
length_with bytes at n h =
    grind (arith, common_steps, w32, length-append, length-take-le at bytes (omega (arith, h)), length-drop at bytes)

pub length_voided : (bytes : List ℕ) (at : ℕ) → at + 4 ≤ length bytes → length (voided bytes at) ≡ length bytes
unfolding voided
length_voided bytes at h = length_with bytes at 4294967295 h

pub le32_before : (bytes : List ℕ) (at i : ℕ) → i + 4 ≤ at → at ≤ length bytes → le32 (voided bytes at) i ≡ le32 bytes i
unfolding le32 voided
le32_before bytes at i h k = ap (λ zs. from_le_bytes w32 zs) (before bytes (nobody ++ drop 4
    (drop at bytes)) at i 4 h k)

pub le16_before : (bytes : List ℕ) (at i : ℕ) → i + 2 ≤ at → at ≤ length bytes → le16 (voided bytes at) i ≡ le16 bytes i
unfolding le16 voided
le16_before bytes at i h k = ap (λ zs. from_le_bytes w16 zs) (before bytes (nobody ++ drop 4
    (drop at bytes)) at i 2 h k)

pub drop_behind : (bytes : List ℕ) (at n : ℕ) → at ≤ length bytes
    → drop (at + (4 + n)) (voided bytes at) ≡ drop n (drop 4 (drop at bytes))
unfolding voided
drop_behind bytes at n h = behind bytes (nobody ++ drop 4 (drop at bytes)) at (4 + n) h
    ∙ drop-append-add nobody (drop 4 (drop at bytes)) n

pub void_is_void : (bytes : List ℕ) (at count : ℕ) → at ≤ length bytes → is_void (voided bytes at) at count ≡ true
unfolding is_void
void_is_void bytes at count h = rw (le32_voided bytes at h)
