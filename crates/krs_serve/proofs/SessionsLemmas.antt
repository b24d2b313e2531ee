-- Two lists, place by place.
use Rattle.std.proofs.Common.{[], ◌++◌, ◌<◌, ◌∷◌, ◌≡◌, ap, append_assoc, arith, length, List, map, Option}
use Rattle.std.proofs.Common.{option_to_list, refl, reverse, slice_index_or, Some, suc, zip, ℕ}
use Rattle.std.specs.List.{AllZip}
use Rattle.std.proofs.lemmas.{List.reverse-append, Slice.Zip.length-zip}

-- what holds at each place holds of the two lists
pub all_zip_at : {X Y : Type 0} (xs : List X) (ys : List Y) (R : X → Y → Type 0) → length ys ≡ length xs
    → ((i : ℕ) (d : X) (e : Y) → i < length xs → R (slice_index_or xs i d) (slice_index_or ys i e)) → AllZip R xs ys
all_zip_at [] [] R same at = tt
all_zip_at [] (y ∷ ys) R same at = absurd (omega arith)
all_zip_at (x ∷ xs) [] R same at = absurd (omega arith)
all_zip_at (x ∷ xs) (y ∷ ys) R same at =
    (at 0 x y (omega arith), all_zip_at xs ys R (omega arith) (λ i d e lt. at (suc i) d e (omega arith)))

-- as many as there are pairs
pub as_many : {X Y Z : Type 0} (xs : List X) (ys : List Y) (zs : List Z) (pairs : List (X × Y)) → pairs ≡ zip xs ys
    → length ys ≡ length xs → length zs ≡ length pairs → length zs ≡ length xs
as_many xs ys zs pairs is same each =
    let long : length pairs ≡ length (zip xs ys) = ap length is in omega (arith, long, length-zip xs ys)

-- the pairs of two lists, each with one more item
zip-push : {X Y : Type 0} (xs : List X) (ys : List Y) (x : X) (y : Y) → length ys ≡ length xs
    → zip (xs ++ x ∷ []) (ys ++ y ∷ []) ≡ zip xs ys ++ (x, y) ∷ []
zip-push [] [] x y same = refl
zip-push [] (v ∷ ys) x y same = absurd (omega arith)
zip-push (u ∷ xs) [] x y same = absurd (omega arith)
zip-push (u ∷ xs) (v ∷ ys) x y same = rw (zip-push xs ys x y (omega arith)) refl

-- where the last items of two lists are taken and their pair is kept, the pairs stay
pub pair_taken : {X Y : Type 0} (xs rest : List X) (ys others : List Y) (r : Option X) (s : Option Y) (x : X) (y : Y)
    (taken more all : List (X × Y)) → xs ≡ rest ++ option_to_list r → r ≡ Some x → ys ≡ others ++ option_to_list s
    → s ≡ Some y → length others ≡ length rest → more ≡ taken ++ (x, y) ∷ []
    → zip xs ys ++ reverse taken ≡ all → zip rest others ++ reverse more ≡ all
pair_taken xs rest ys others r s x y taken more all xs_is r_is ys_is s_is same more_is before =
    let front : xs ≡ rest ++ x ∷ [] = rw r_is at xs_is in
    let front' : ys ≡ others ++ y ∷ [] = rw s_is at ys_is in
    let pairs : zip xs ys ≡ zip rest others ++ (x, y) ∷ [] = rw (front, front') (zip-push rest others x y same) in
    let back : reverse more ≡ (x, y) ∷ reverse taken = rw (more_is, reverse-append taken ((x, y) ∷ [])) refl in
    rw back (rw (pairs, append_assoc (zip rest others) ((x, y) ∷ []) (reverse taken)) at before)

-- what holds of each pair holds of its second part
pub each_second : {J X Y : Type 0} (P : J → X × Y → Type 0) (Q : J → Y → Type 0)
    → ((j : J) (d : X × Y) → P j d → Q j d.1) → (jobs : List J) (done : List (X × Y)) → AllZip P jobs done
    → AllZip Q jobs (map (λ d. d.1) done)
each_second P Q so [] [] h = tt
each_second P Q so [] (d ∷ done) h = absurd h
each_second P Q so (j ∷ jobs) [] h = absurd h
each_second P Q so (j ∷ jobs) (d ∷ done) h = (so j d h.0, each_second P Q so jobs done h.1)
