-- A finite map from numbers is the list of its entries, numbers rising, as a `BTreeMap` has them.
use Rattle.std.specs.{Prelude.{[], ◌∷◌, ◌≡◌, ◌≤◌, cond, List, None, Option, ℕ}, BTreeMap.{insert_entry, is_at}}
use Rattle.std.specs.{List.Sorted.IsStrictlySortedBy, Map.{keys_of, lookup, remove_entry}, Ordering.nat_cmp}

-- a finite map from numbers
abbrev pub Table : Type 0 → Type 0
Table X = List (ℕ × X)

-- what the map has at a number
abbrev pub at : {X : Type 0} → Table X → ℕ → Option X
at es k = lookup (is_at (nat_cmp k)) es

-- with this value there
abbrev pub put : {X : Type 0} → Table X → ℕ → X → Table X
put es k v = insert_entry nat_cmp es k v

-- without what is there
abbrev pub without : {X : Type 0} → Table X → ℕ → Table X
without es k = remove_entry (is_at (nat_cmp k)) es

-- with what is there changed
abbrev pub alter : {X : Type 0} → Table X → ℕ → (X → X) → Table X
alter [] k f = []
alter (e ∷ es) k f = cond (is_at (nat_cmp k) e.0) ((e.0, f e.1) ∷ es) (e ∷ alter es k f)

-- the map with its values seen through f
abbrev pub map_values : {X Y : Type 0} → (X → Y) → Table X → Table Y
map_values f [] = []
map_values f (e ∷ es) = (e.0, f e.1) ∷ map_values f es

-- nothing is at this number or above it
abbrev pub IsBelow : {X : Type 0} → Table X → ℕ → Type 0
IsBelow es n = (k : ℕ) → n ≤ k → at es k ≡ None

-- no number stands twice
abbrev pub IsDistinct : {X : Type 0} → Table X → Type 0
IsDistinct [] = Unit {0}
IsDistinct (e ∷ es) = (at es e.0 ≡ None) × IsDistinct es

-- numbers rise, and each has one entry
abbrev pub Rises : {X : Type 0} → Table X → Type 0
Rises es = IsStrictlySortedBy nat_cmp (keys_of es)
