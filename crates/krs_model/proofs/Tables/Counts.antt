-- How many elements of a list pass a test.
use Rattle.std.proofs.Common.{[], ⊎_elim, ◌+◌, ◌==◌, ◌∙◌, ◌∷◌, ◌≡◌, ◌≤◌, ◌⊎◌, ap, arith, Bool, cond, count_by, false}
use Rattle.std.proofs.{Common.{filter, List, refl, sym, true, true≢false, ℕ}, lemmas.Bool.Decides.nat_tests}
use Rattle.std.proofs.lemmas.List.Sums.{sum_by-cons}
use Rattle.krs_model.specs.{Levels.is_in, Linking.with_link}
use Rattle.krs_model.proofs.Reach.Levels.{or_true, same_is, true_or}

-- a count of a list with a first element
pub count_cons : (p : ℕ → Bool) (x : ℕ) (xs : List ℕ) → count_by p (x ∷ xs) ≡ cond (p x) 1 0 + count_by p xs
count_cons p x xs = sum_by-cons (λ q. cond (p q) 1 0) x xs

count_yes : (p : ℕ → Bool) (x : ℕ) (xs : List ℕ) → p x ≡ true → count_by p (x ∷ xs) ≡ 1 + count_by p xs
count_yes p x xs h = count_cons p x xs ∙ ap (λ b. cond b 1 0 + count_by p xs) h

count_no : (p : ℕ → Bool) (x : ℕ) (xs : List ℕ) → p x ≡ false → count_by p (x ∷ xs) ≡ count_by p xs
count_no p x xs h = count_cons p x xs ∙ (ap (λ b. cond b 1 0 + count_by p xs) h ∙ omega arith)

one_at_most : (a b : Bool) → (a ≡ true → b ≡ true) → cond a 1 0 ≤ cond b 1 0
one_at_most true b h = rw (h refl) (omega arith)
one_at_most false b h = omega arith

-- a test that passes where the other does counts no fewer
pub count_on :
    (p q : ℕ → Bool) (xs : List ℕ) → ((k : ℕ) → is_in k xs ≡ true → p k ≡ true → q k ≡ true)
    → count_by p xs ≤ count_by q xs
count_on p q [] on = omega arith
count_on p q (x ∷ xs) on = grind (arith, nat_tests, one_at_most, same_is, or_true, count_cons, count_on p q xs)

-- of each sort no more in a list than in the other
abbrev pub IsPart : List ℕ → List ℕ → Type 0
IsPart xs ys = (p : ℕ → Bool) → count_by p xs ≤ count_by p ys

in_counted : (k : ℕ) (xs : List ℕ) → is_in k xs ≡ true → 1 ≤ count_by (λ q. q == k) xs
in_counted k [] h = absurd (true≢false (sym h))
in_counted k (x ∷ xs) h =
    ⊎_elim (λ (e : (x == k) ≡ true). omega (arith, count_yes (λ q. q == k) x xs e))
    (λ (later : is_in k xs ≡ true). omega (arith, count_cons (λ q. q == k) x xs, in_counted k xs later))
    (true_or (x == k) (is_in k xs) h)

counted_in : (k : ℕ) (xs : List ℕ) → 1 ≤ count_by (λ q. q == k) xs → is_in k xs ≡ true
counted_in k [] h = absurd (omega arith)
counted_in k (x ∷ xs) h = grind (arith, nat_tests, count_no, counted_in k xs)

-- what is in a part is in the whole
pub part_in : (xs ys : List ℕ) (k : ℕ) → IsPart xs ys → is_in k xs ≡ true → is_in k ys ≡ true
part_in xs ys k part h = grind (arith, nat_tests, in_counted, counted_in)

pub none_part : (ys : List ℕ) → IsPart [] ys
none_part ys = λ p. omega arith

pub filter_part : (kept : ℕ → Bool) (xs : List ℕ) → IsPart (filter kept xs) xs
filter_part kept [] = λ p. omega arith
filter_part kept (x ∷ xs) = grind (arith, nat_tests, count_cons, filter_part kept xs)

-- what is linked after a further link was linked, or is the further one
pub in_with_link :
    (displaced : ℕ → Bool) (xs : List ℕ) (n k : ℕ) → is_in k (with_link displaced xs n) ≡ true
    → (is_in k xs ≡ true) ⊎ (k ≡ n)
in_with_link displaced [] n k h = grind (arith, nat_tests, true≢false, true_or)
in_with_link displaced (x ∷ xs) n k h = grind (arith, nat_tests, or_true, true_or, in_with_link displaced xs n k)

-- a further link of another sort
other_linked :
    (displaced p : ℕ → Bool) (xs : List ℕ) (n : ℕ) → p n ≡ false
    → count_by p (with_link displaced xs n) ≤ count_by p xs
other_linked displaced p [] n other = omega (arith, count_no p n [] other)
other_linked displaced p (x ∷ xs) n other =
    grind (arith, nat_tests, count_no, count_cons, other_linked displaced p xs n other)

-- a further link that displaces those of its sort
same_linked :
    (displaced p : ℕ → Bool) (xs : List ℕ) (n : ℕ) → p n ≡ true
    → ((k : ℕ) → is_in k xs ≡ true → p k ≡ displaced k) → count_by p xs ≤ 1
    → count_by p (with_link displaced xs n) ≤ 1
same_linked displaced p [] n mine alike few = omega (arith, count_yes p n [] mine)
same_linked displaced p (x ∷ xs) n mine alike few =
    grind (arith, nat_tests, same_is, or_true, count_yes, count_no, same_linked displaced p xs n mine)

-- a further link leaves one at most of each sort, where it displaces its own
pub one_linked :
    (displaced p : ℕ → Bool) (xs : List ℕ) (n : ℕ)
    → (p n ≡ true → (k : ℕ) → is_in k xs ≡ true → p k ≡ displaced k) → count_by p xs ≤ 1
    → count_by p (with_link displaced xs n) ≤ 1
one_linked displaced p xs n alike few = grind (arith, nat_tests, same_linked, other_linked)
