-- The levels of a walk along links: whole lists, which may repeat a key. keyrings(7), "Possession" and
-- "Searching for keys".
use Rattle.std.specs.{Prelude.{[], ◌++◌, ◌==◌, Bool, flat_map, List, suc, zero, ℕ}, List.list_any}

-- level 0 is the heads, and level n + 1 what the keys of level n link, one after the other
unfoldable pub level : (ℕ → List ℕ) → List ℕ → ℕ → List ℕ
level links heads zero = heads
level links heads (suc n) = flat_map links (level links heads n)

-- the first n levels, one after the other
unfoldable pub levels : (ℕ → List ℕ) → List ℕ → ℕ → List ℕ
levels links heads zero = []
levels links heads (suc n) = levels links heads n ++ level links heads n

-- how many links a walk goes along at most: profile, search depth
abbrev pub search_depth : ℕ
search_depth = 7

-- the serial is one of these
abbrev pub is_in : ℕ → List ℕ → Bool
is_in serial serials = list_any (λ k. k == serial) serials
