-- A search level by level from the head down.
use Rattle.std.proofs.Common.{[], ◌+◌, ◌-◌, ◌<◌, ◌∙◌, ◌∷◌, ◌≡◌, ap, append-nil, arith, Err, flat_map, List, Ok, Result}
use Rattle.std.proofs.{Common.{suc, sym, zero, ℕ}, lemmas.Grind.flat_map-append}
use native.Mathlib.Numerals.{unary_clauses}
use Rattle.krs_types.specs.declared.{errno.Errno.Errno, name.Name.Name}
use Rattle.krs_model.specs.{Levels.{level, levels, search_depth}, Outcome.Is, Reach.is_ring}
use Rattle.krs_model.specs.{Search.{entered, found_by, or_next, searched, Searcher, sought}, Table.at}
use Rattle.krs_model.proofs.Reach.{Levels.levels_more, Searches.sought_append}
use Rattle.krs_keys.specs.Keys.{OnlyRingsLink}
use Rattle.krs_walk.specs.Searching.{entered_rings, links_at}
use Rattle.krs_walk.proofs.{DepthLemmas.{levels_unrolled, links_deeper}, FindingLemmas.{levels_rings, rings_alone}}
use Rattle.std.proofs.lemmas.Grind.{common_steps}

-- what a head, and the links of the keyrings of the first levels from it, come to
pub to_depth : Searcher → Name → ℕ → ℕ → Result ℕ Errno
to_depth by name head n =
    sought by name (head ∷ flat_map (entered by) (levels (entered_rings by) (head ∷ []) n))

-- the head alone
pub depth_starts : (by : Searcher) (name : Name) (head : ℕ) (r : Result ℕ Errno) → sought by name (head ∷ []) ≡ r
    → to_depth by name head 0 ≡ r
unfolding to_depth levels
depth_starts by name head r h = h

-- one level more
depth_more : (by : Searcher) (name : Name) (head n : ℕ)
    → to_depth by name head (n + 1) ≡ or_next (to_depth by name head n) (sought by name (links_at by n head))
unfolding to_depth
depth_more by name head n =
    let above = levels (entered_rings by) (head ∷ []) n in
    let last = level (entered_rings by) (head ∷ []) n in
    ap (λ (zs : List ℕ). sought by name (head ∷ flat_map (entered by) zs))
    (levels_more (entered_rings by) (head ∷ []) n)
    ∙ (ap (λ (zs : List ℕ). sought by name (head ∷ zs)) (flat_map-append (entered by) above last)
    ∙ sought_append by name (head ∷ flat_map (entered by) above) (flat_map (entered by) last))

pub depth_goes_on : (by : Searcher) (name : Name) (head n : ℕ) (fault : Errno) (r : Result ℕ Errno)
    → to_depth by name head n ≡ Err fault → r ≡ or_next (Err fault) (sought by name (links_at by n head))
    → to_depth by name head (n + 1) ≡ r
depth_goes_on by name head n fault r before h = grind (arith, common_steps, depth_more)

-- an answer in the first levels is that of all
depth_stays : (by : Searcher) (name : Name) (head serial n m : ℕ) → to_depth by name head n ≡ Ok serial
    → to_depth by name head (n + m) ≡ Ok serial
depth_stays by name head serial n zero h = simp unary_clauses h
depth_stays by name head serial n (suc m) h =
    let up : n + m + 1 ≡ n + suc m = omega arith in
    ap (to_depth by name head) (sym up)
    ∙ (depth_more by name head (n + m)
    ∙ ap (λ (q : Result ℕ Errno). or_next q (sought by name (links_at by (n + m) head)))
    (depth_stays by name head serial n m h))

-- all of them
depth_found : (by : Searcher) (name : Name) (head : ℕ) → OnlyRingsLink by.keys
    → found_by by head name ≡ to_depth by name head search_depth
unfolding searched to_depth
depth_found by name head only =
    ap (sought by name) (levels_unrolled (entered by) (head ∷ []) search_depth)
    ∙ ap (λ (zs : List ℕ). sought by name (head ∷ zs))
    (levels_rings (λ k. is_ring (at by.keys k)) (entered by) (head ∷ []) search_depth (rings_alone by only))

pub depth_finds : (by : Searcher) (name : Name) (head n : ℕ) (fault : Errno) (serial : ℕ) → OnlyRingsLink by.keys
    → to_depth by name head n ≡ Err fault → n < search_depth
    → Ok serial ≡ or_next (Err fault) (sought by name (links_at by n head)) → found_by by head name ≡ Ok serial
depth_finds by name head n fault serial only before lt h =
    let rest : n + 1 + (search_depth - (n + 1)) ≡ search_depth = omega arith in
    depth_found by name head only
    ∙ (ap (to_depth by name head) (sym rest)
    ∙ depth_stays by name head serial (n + 1) (search_depth - (n + 1))
    (depth_goes_on by name head n fault (Ok serial) before h))

pub depth_fails : (by : Searcher) (name : Name) (head n : ℕ) (fault : Errno) → OnlyRingsLink by.keys
    → to_depth by name head n ≡ Err fault → n ≡ search_depth → found_by by head name ≡ Err fault
depth_fails by name head n fault only before all = grind (arith, common_steps, depth_found, to_depth)

-- the links of no level below a keyring are its own
pub links_here : (by : Searcher) (ring depth : ℕ) → depth ≡ 0 → entered by ring ≡ links_at by depth ring
unfolding level
links_here by ring depth e =
    sym (ap (λ (z : ℕ). links_at by z ring) e ∙ append-nil (entered by ring))

-- and those of one more are those of the keyrings that it links
pub links_deep : (by : Searcher) (ring depth : ℕ) (rings : List ℕ) → (depth ≡ 0 → ⊥) → rings ≡ entered_rings by ring
    → flat_map (links_at by (depth - 1)) rings ≡ links_at by depth ring
links_deep by ring depth rings some is =
    let e : depth ≡ suc (depth - 1) = omega arith in
    ap (flat_map (links_at by (depth - 1))) is
    ∙ sym (ap (λ (z : ℕ). links_at by z ring) e ∙ links_deeper (entered_rings by) (entered by) ring (depth - 1))

-- a search is what is meant where it is that
pub is_what : (r meant : Result ℕ Errno) → r ≡ meant → Is (λ k. k) r meant
is_what (Ok k) meant h = sym h
is_what (Err e) meant h = sym h
