-- What is said of some bytes stays so where more come behind them.
use Rattle.std.proofs.Common.{[], ◌&&◌, ◌*◌, ◌++◌, ◌+◌, ◌<◌, ◌==◌, ◌||◌, ◌∙◌, ◌≡◌, ◌≤◌, ap, append-nil, append_assoc}
use Rattle.std.proofs.Common.{arith, drop, drop_at, eqb-true, false, length, length-drop, length-take-le, List, nat_lt}
use Rattle.std.proofs.Common.{refl, subst, suc, sym, take, take-append-drop, take_all, take_at, w32, zero, ℕ}
use Rattle.std.specs.Int.{from_le_bytes, to_le_bytes}
use Rattle.std.proofs.lemmas.{Bool.cond_both, List.{drop-append-le, take-append-le}}
use Rattle.krs_screen.specs.{Claim.{are_groups, is_own, is_void, some_nobody}, declared.claim.Peer.Peer}
use Rattle.krs_screen.specs.declared.front.Front.{Front, TheVariants.{Crowd, Fault, Hello, Other, Part}}
use Rattle.krs_screen.specs.{Front.{front_of, is_known, le16, le32, with_le32}, Reading.passed_of, Run.may_pass}
use Rattle.krs_screen.proofs.{Following.{front_stays, P}, Staying.{as_layout, at_least, at_of, layout}}
use Rattle.krs_screen.proofs.Voiding.{front_only, length_with}
use Rattle.std.proofs.lemmas.Grind.{common_steps}

pub le32_more : (bytes ys : List ℕ) (i : ℕ) → i + 4 ≤ length bytes → le32 (bytes ++ ys) i ≡ le32 bytes i
unfolding le32
le32_more bytes ys i h = ap (λ zs. from_le_bytes w32 zs) (front_only bytes ys i 4 h)

some_nobody_more : (bytes ys : List ℕ) (at count : ℕ) → at + 4 * count ≤ length bytes
    → some_nobody (bytes ++ ys) at count ≡ some_nobody bytes at count
some_nobody_more bytes ys at zero h = refl
some_nobody_more bytes ys at (suc k) h =
    rw (some_nobody_more bytes ys at k (omega arith), le32_more bytes ys (at + 4 * k) (omega arith))

are_groups_more : (peer : Peer) (groups bytes ys : List ℕ) (at count : ℕ) → at + 4 * count ≤ length bytes
    → are_groups peer groups (bytes ++ ys) at count ≡ are_groups peer groups bytes at count
are_groups_more peer groups bytes ys at zero h = refl
are_groups_more peer groups bytes ys at (suc k) h =
    rw (are_groups_more peer groups bytes ys at k (omega arith), le32_more bytes ys (at + 4 * k) (omega arith))

pub may_pass_more : (peer : Peer) (groups bytes ys : List ℕ) (at count : ℕ) → at + 12 + 4 * count ≤ length bytes
    → may_pass peer groups (bytes ++ ys) at count ≡ may_pass peer groups bytes at count
unfolding is_void is_own
may_pass_more peer groups bytes ys at count h =
    grind (arith, common_steps, le32_more, some_nobody_more, are_groups_more)

-- a number that is put into bytes
pub with_more : (bytes ys : List ℕ) (at n : ℕ) → at + 4 ≤ length bytes
    → with_le32 (bytes ++ ys) at n ≡ with_le32 bytes at n ++ ys
with_more bytes ys at n h =
    let b : 4 ≤ length (drop at bytes) = omega (arith, length-drop at bytes) in
    rw (
      take-append-le at bytes ys (omega arith),
      drop-append-le at bytes ys (omega arith),
      drop-append-le 4 (drop at bytes) ys b,
      append_assoc (take at bytes) (to_le_bytes w32 n ++ drop 4 (drop at bytes)) ys,
    )

-- a number within the first so many bytes
with_parts : (bytes : List ℕ) (at n m : ℕ) → at + 4 ≤ m → m ≤ length bytes
    → with_le32 bytes at n ≡ with_le32 (take m bytes) at n ++ drop m bytes
with_parts bytes at n m h there =
    let l : length (take m bytes) ≡ m = length-take-le m bytes there in
    ap (λ (zs : List ℕ). with_le32 zs at n) (sym (take-append-drop m bytes))
    ∙ with_more (take m bytes) (drop m bytes) at n (omega (arith, h, l))

with_length : (bytes : List ℕ) (at n m : ℕ) → at + 4 ≤ m → m ≤ length bytes → length (with_le32 (take m bytes) at n) ≡ m
with_length bytes at n m h there = grind (arith, common_steps, length-take-le, length_with)

pub take_with : (bytes : List ℕ) (at n m : ℕ) → at + 4 ≤ m → m ≤ length bytes
    → take m (with_le32 bytes at n) ≡ with_le32 (take m bytes) at n
take_with bytes at n m h there =
    ap (λ (zs : List ℕ). take m zs) (with_parts bytes at n m h there)
    ∙ take_at (with_le32 (take m bytes) at n) (drop m bytes) m (with_length bytes at n m h there)

pub drop_with : (bytes : List ℕ) (at n m : ℕ) → at + 4 ≤ m → m ≤ length bytes
    → drop m (with_le32 bytes at n) ≡ drop m bytes
drop_with bytes at n m h there =
    ap (λ (zs : List ℕ). drop m zs) (with_parts bytes at n m h there)
    ∙ drop_at (with_le32 (take m bytes) at n) (drop m bytes) m (with_length bytes at n m h there)

-- what stands at the front is there, in a frame that is as long as its first number says
abbrev pub Sits : List ℕ → Front → Type 0
Sits bytes Part = Unit {0}
Sits bytes Fault = Unit {0}
Sits bytes (Other frame) = (12 ≤ length bytes) × (12 ≤ frame) × (frame ≡ 4 + le32 bytes 0)
Sits bytes (Crowd frame at) = (12 ≤ at) × (at + 12 ≤ length bytes) × (at + 12 ≤ frame) × (frame ≡ 4 + le32 bytes 0)
Sits bytes (Hello at count) = (12 ≤ at) × (at + 12 + 4 * count ≤ length bytes) × (at + 12 + 4 * count
    ≡ 4 + le32 bytes 0)

pub record IsSeated (bytes : List ℕ) (front : Front) : Type 0 where
  pub sits : Sits bytes front

at_most : (a b : ℕ) → nat_lt a b ≡ false → b ≤ a
at_most a b e = grind arith

pub seated : (bytes : List ℕ) → IsSeated bytes (front_of bytes)
unfolding layout
seated bytes =
    let n : ℕ = le32 bytes 0 in
    let v : ℕ = le16 bytes 4 in
    let o : ℕ = le16 bytes 6 in
    let at : ℕ = at_of v in
    let k : ℕ = le32 bytes (at + 8) in
    let t : ℕ = length bytes in
    let least : 12 ≤ at = at_least v in
    let is : Front → Type 0 = IsSeated bytes in
    let no : IsSeated bytes Part = record { sits = tt } in
    let bad : IsSeated bytes Fault = record { sits = tt } in
    rw (as_layout bytes)
    (cond_both (nat_lt t 4) _ _ is (λ e. no) (λ e0.
    cond_both (nat_lt n 8 || nat_lt 65536 n) _ _ is (λ e. bad) (λ e1.
    cond_both (nat_lt t 12) _ _ is (λ e. no) (λ e2.
    cond_both (v == 1 || (v == 2 && nat_lt 15 n)) _ _ is (λ e3.
    cond_both (is_known o) _ _ is (λ e4.
    cond_both (o == 256) _ _ is (λ e5.
    cond_both (nat_lt (4 + n) (at + 12)) _ _ is (λ e. bad) (λ e6.
    cond_both (nat_lt t (at + 12)) _ _ is (λ e. no) (λ e7.
    cond_both (4 + n == at + 12 + 4 * k) _ _ is (λ e8.
    cond_both (nat_lt 32 k) _ _ is
    (λ e9. record { sits = (least, at_most t (at + 12) e7, at_most (4 + n) (at + 12) e6, refl) })
    (λ e9. cond_both (nat_lt t (4 + n)) _ _ is (λ e. no) (λ e10.
    let same : 4 + n ≡ at + 12 + 4 * k = eqb-true (4 + n) (at + 12 + 4 * k) e8 in
    record { sits = (least, omega (arith, same, at_most t (4 + n) e10), sym same) })))
    (λ e. bad))))
    (λ e. record { sits = (at_most t 12 e2, grind arith, refl) })) (λ e. bad)) (λ e. bad)))))

pub fits : (bytes : List ℕ) (front : Front) → IsSeated bytes front → passed_of front ≤ length bytes
fits bytes Part s = omega arith
fits bytes Fault s = omega arith
fits bytes (Other frame) s = s.sits.0
fits bytes (Crowd frame at) s = s.sits.1
fits bytes (Hello at count) s = s.sits.1

pub front_more : (bytes ys : List ℕ) → 0 < passed_of (front_of bytes) → front_of (bytes ++ ys) ≡ front_of bytes
front_more bytes ys some =
    let m : ℕ = length bytes in
    let p : P m (front_of bytes) = record { some = some; within = fits bytes (front_of bytes) (seated bytes) } in
    let same : m ≤ m = omega arith in
    ap (λ (zs : List ℕ). front_of (zs ++ ys)) (sym (take_all m bytes same)) ∙ front_stays m bytes ys p same

-- of what is passed at once the front is the same
pub front_taken : (bytes : List ℕ) (m : ℕ) → passed_of (front_of bytes) ≡ m → 0 < m → m ≤ length bytes
    → front_of (take m bytes) ≡ front_of bytes
front_taken bytes m is some there =
    let within : passed_of (front_of bytes) ≤ m = omega (arith, is) in
    let p : P m (front_of bytes) = record { some = subst (λ k. 0 < k) (sym is) some; within = within } in
    ap (λ (zs : List ℕ). front_of zs) (sym (append-nil (take m bytes))) ∙ front_stays m bytes [] p there
