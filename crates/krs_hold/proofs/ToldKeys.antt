-- Which keys are told.
use Rattle.std.proofs.Common.{◌&&◌, ◌<◌, ◌^◌, ◌≡◌, ◌≤◌, ap, arith, Bool, BTreeSet, false, nat_lt, Option, refl, true, ℕ}
use Rattle.std.proofs.lemmas.Bool.Decides.{nat_tests}
use Rattle.krs_hold.specs.Told.{lists, tells}

both : (a b : Bool) → a ≡ true → b ≡ true → (a && b) ≡ true
both true b h i = i
both false b h i = h

second : (a b : Bool) → (a && b) ≡ true → b ≡ true
second true b h = h
second false b h = absurd cc

neither : (a b : Bool) → b ≡ false → (a && b) ≡ false
neither true b h = h
neither false b h = refl

on_second : (a b c : Bool) → (b ≡ true → c ≡ true) → (a && b) ≡ true → (a && c) ≡ true
on_second true b c f h = f h
on_second false b c f h = h

pub tells_listed : (told : Option (BTreeSet ℕ)) (k : ℕ) → k < 2 ^ 32 → lists told k ≡ true → tells told k ≡ true
tells_listed told k small listed =
    let is : nat_lt k (2 ^ 32) ≡ true = grind (arith, nat_tests) in
    both (nat_lt k (2 ^ 32)) (lists told k) is listed

pub listed : (told : Option (BTreeSet ℕ)) (k : ℕ) → tells told k ≡ true → lists told k ≡ true
listed told k = second (nat_lt k (2 ^ 32)) (lists told k)

pub unlisted : (told : Option (BTreeSet ℕ)) (k : ℕ) → lists told k ≡ false → tells told k ≡ false
unlisted told k = neither (nat_lt k (2 ^ 32)) (lists told k)

pub tells_more :
    (old new : Option (BTreeSet ℕ)) (k : ℕ) → (lists old k ≡ true → lists new k ≡ true) → tells old k ≡ true
    → tells new k ≡ true
tells_more old new k = on_second (nat_lt k (2 ^ 32)) (lists old k) (lists new k)

-- what is no serial isn't told
pub large : (told : Option (BTreeSet ℕ)) (k : ℕ) → 2 ^ 32 ≤ k → tells told k ≡ false
large told k more =
    let not_less : nat_lt k (2 ^ 32) ≡ false = grind (arith, nat_tests) in
    ap (λ b. b && lists told k) not_less
