-- What stands at the front stays, whatever comes behind the bytes that were passed.
use Rattle.std.proofs.Common.{◌&&◌, ◌++◌, ◌+◌, ◌<◌, ◌==◌, ◌||◌, ◌≡◌, ◌≤◌, ap, arith, Bool, cond, false, length}
use Rattle.std.proofs.Common.{length-append, length-take-le, List, nat_lt, refl, subst, sym, take, true, w16, w32, ℕ}
use Rattle.std.specs.Int.{from_le_bytes}
use Rattle.std.proofs.lemmas.Bool.Decides.{nat_tests}
use Rattle.krs_screen.specs.declared.front.Front.{Front, TheVariants.{Crowd, Fault, Hello, Other, Part}}
use Rattle.krs_screen.specs.{Front.{front_of, hello_by, is_known, le16, le32}, Reading.passed_of}
use Rattle.krs_screen.proofs.{Staying.{as_layout, at_of, layout}, Voiding.before}
use Rattle.std.proofs.lemmas.Grind.{common_steps}

pub record P (m : ℕ) (f : Front) : Type 0 where
  pub some : 0 < passed_of f
  pub within : passed_of f ≤ m

not_less : (a b : ℕ) → b ≤ a → nat_lt a b ≡ false
not_less a b h = grind arith

pub twelve : (m : ℕ) (f : Front) → P m f → 12 ≤ m
twelve m (Other frame) p = omega (arith, p.within)
twelve m (Crowd frame at) p = omega (arith, p.within)
twelve m (Hello at count) p = omega (arith, p.within)
twelve m front p = absurd (omega (arith, p.some))

same_if : (m : ℕ) (b : Bool) (x y x' y' : Front) → (P m x → x' ≡ x) → (P m y → y' ≡ y) → P m (cond b x y)
    → cond b x' y' ≡ cond b x y
same_if m true x y x' y' f g p = f p
same_if m false x y x' y' f g p = g p

same_part : (m : ℕ) (b b' : Bool) (y y' : Front) → (P m y → b' ≡ false) → (P m y → y' ≡ y) → P m (cond b Part y)
    → cond b' Part y' ≡ cond b Part y
same_part m true b' y y' f g p = absurd (omega (arith, p.some))
same_part m false b' y y' f g p = subst (λ c. cond c Part y' ≡ y) (sym (f p)) (g p)

le32_kept : (m : ℕ) (bytes other : List ℕ) (i : ℕ) → i + 4 ≤ m → m ≤ length bytes
    → le32 (take m bytes ++ other) i ≡ le32 bytes i
unfolding le32
le32_kept m bytes other i h there = ap (λ zs. from_le_bytes w32 zs) (before bytes other m i 4 h there)

le16_kept : (m : ℕ) (bytes other : List ℕ) (i : ℕ) → i + 2 ≤ m → m ≤ length bytes
    → le16 (take m bytes ++ other) i ≡ le16 bytes i
unfolding le16
le16_kept m bytes other i h there = ap (λ zs. from_le_bytes w16 zs) (before bytes other m i 2 h there)

-- a HELLO's place is among what is passed
hello_needs : (m t frame at k : ℕ) → P m (hello_by frame at k t) → at + 12 ≤ m
hello_needs m t frame at k p = grind (arith, nat_tests)

hello_far : (m t t' frame at k k' : ℕ) → m ≤ t' → (at + 12 ≤ m → k' ≡ k) → at + 12 ≤ m → P m (hello_by frame at k t)
    → hello_by frame at k' t' ≡ hello_by frame at k t
hello_far m t t' frame at k k' more same need p = let e = same need in grind (arith, nat_tests)

layout_stays : (m t t' n v o at k k' : ℕ) → m ≤ t' → (at + 12 ≤ m → k' ≡ k) → P m (layout t n v o at k)
    → layout t' n v o at k' ≡ layout t n v o at k
unfolding layout
layout_stays m t t' n v o at k k' more same p =
    let far : P m (hello_by (4 + n) at k t) → hello_by (4 + n) at k' t' ≡ hello_by (4 + n) at k t =
    λ q. hello_far m t t' (4 + n) at k k' more same (hello_needs m t (4 + n) at k q) q in
    let place : P m (hello_by (4 + n) at k t) → nat_lt t' (at + 12) ≡ false = λ q.
    not_less t' (at + 12) (omega (arith, hello_needs m t (4 + n) at k q, more)) in
    same_part m (nat_lt t 4) (nat_lt t' 4) _ _ (λ q. let h = twelve m _ q in not_less t' 4 (omega (arith, h, more)))
    (λ q0. same_if m (nat_lt n 8 || nat_lt 65536 n) Fault _ Fault _ (λ q. refl)
    (λ q1. same_part m (nat_lt t 12) (nat_lt t' 12) _ _ (λ q. let h = twelve m _ q in not_less t' 12 (omega
    (arith, h, more)))
    (λ q2. same_if m (v == 1 || (v == 2 && nat_lt 15 n)) _ Fault _ Fault
    (λ q3. same_if m (is_known o) _ Fault _ Fault
    (λ q4. same_if m (o == 256) _ (Other (4 + n)) _ (Other (4 + n))
    (λ q5. same_if m (nat_lt (4 + n) (at + 12)) Fault _ Fault _ (λ q. refl)
    (λ q6. same_part m (nat_lt t (at + 12)) (nat_lt t' (at + 12)) _ _ place far q6) q5)
    (λ q. refl) q4)
    (λ q. refl) q3)
    (λ q. refl) q2) q1) q0) p

pub front_stays : (m : ℕ) (bytes other : List ℕ) → P m (front_of bytes) → m ≤ length bytes
    → front_of (take m bytes ++ other) ≡ front_of bytes
front_stays m bytes other p there =
    let new : List ℕ = take m bytes ++ other in
    let least : 12 ≤ m = twelve m (front_of bytes) p in
    let at : ℕ = at_of (le16 bytes 4) in
    let long : m ≤ length new = omega (arith, length-append (take m bytes) other, length-take-le m bytes there) in
    rw (
      as_layout new,
      as_layout bytes,
      le32_kept m bytes other 0 (omega (arith, least)) there,
      le16_kept m bytes other 4 (omega (arith, least)) there,
      le16_kept m bytes other 6 (omega (arith, least)) there,
    ) (layout_stays m (length bytes) (length new) (le32 bytes 0) (le16 bytes 4) (le16 bytes 6) at (le32 bytes (at + 8))
    (le32 new (at + 8)) long (λ h. le32_kept m bytes other (at + 8) (omega (arith, h)) there)
    (rw (as_layout bytes) at p))

pub stays : (bytes other : List ℕ) → 0 < passed_of (front_of bytes) → passed_of (front_of bytes) ≤ length bytes
    → front_of (take (passed_of (front_of bytes)) bytes ++ other) ≡ front_of bytes
stays bytes other some there = grind (arith, common_steps, front_stays)
