-- Lists of words.
use Rattle.std.proofs.Common.{[], ◌∷◌, ◌≡◌, arith, Bool, filter, filter_map, List, map, Option, refl}

-- a filter that reads each element through f
pub map-filter : {X Y : Type 0} (f : X → Y) (p : Y → Bool) (xs : List X)
    → map f (filter (λ x. p (f x)) xs) ≡ filter p (map f xs)
map-filter f p [] = refl
map-filter f p (x ∷ xs) = grind (arith, map-filter f p xs)

-- what a filter keeps of elements that are read through h
pub filter_map-map : {X Y Z : Type 0} (h : X → Y) (f : Y → Option Z) (xs : List X)
    → filter_map f (map h xs) ≡ filter_map (λ x. f (h x)) xs
filter_map-map h f [] = refl
filter_map-map h f (x ∷ xs) = grind (arith, filter_map-map h f xs)
