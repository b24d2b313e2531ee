-- The keyrings of a level, visited one after the other.
use Rattle.std.proofs.Common.{◌+◌, ◌<◌, ◌∙◌, ◌≡◌, ◌≤◌, ap, arith, drop, Err, flat_map, get_or, length, List, Result}
use Rattle.std.proofs.{Common.{sym, ℕ}, lemmas.List.{drop_more, get_or_append_left}}
use Rattle.krs_types.specs.declared.{errno.Errno.Errno, name.Name.Name}
use Rattle.krs_model.specs.Search.{entered, or_next, Searcher, sought}
use Rattle.krs_model.proofs.Reach.Searches.{sought_append}
use Rattle.krs_walk.specs.{Lists.join, Searching.entered_rings}
use Rattle.krs_walk.proofs.{RoundsLemmas.{Grown, IsRound, longer, round_more}, SoughtLemmas.next_next}
use Rattle.std.proofs.lemmas.Grind.{common_steps}

-- the keyrings of a level before this place were visited: their links have this fault, what is left gives the rest
pub record IsVisit (by : Searcher) (name : Name) (first all : List ℕ) (start place : ℕ)
    (before fault : Errno) : Type 0 where
  pub within : length first ≤ length all
  pub round : IsRound (entered_rings by) first all start place
  pub left : or_next (Err fault) (sought by name (flat_map (entered by) (drop place first)))
      ≡ or_next (Err before) (sought by name (flat_map (entered by) (drop start first)))

-- the first of some keys, and the others behind it
one_turn : (by : Searcher) (name : Name) (g : ℕ → List ℕ) (first : List ℕ) (place : ℕ) (fault : Errno)
    → place < length first →
    or_next (Err fault) (sought by name (flat_map g (drop place first)))
    ≡ or_next (or_next (Err fault) (sought by name (g (get_or first place 0))))
    (sought by name (flat_map g (drop (place + 1) first)))
one_turn by name g first place fault lt =
    ap (λ (zs : List ℕ). or_next (Err fault) (sought by name (flat_map g zs))) (drop_more first place 0 lt)
    ∙ (ap (or_next (Err fault)) (sought_append by name (g (get_or first place 0))
    (flat_map g (drop (place + 1) first)))
    ∙ sym (next_next (Err fault) (sought by name (g (get_or first place 0)))
    (sought by name (flat_map g (drop (place + 1) first)))))

-- one key in its turn, with what those after it come to
pub turn_goes_on : (by : Searcher) (name : Name) (g : ℕ → List ℕ) (first : List ℕ) (place here : ℕ) (fault : Errno)
    (r whole : Result ℕ Errno) → place < length first → here ≡ get_or first place 0
    → or_next (Err fault) (sought by name (flat_map g (drop place first))) ≡ whole
    → r ≡ or_next (Err fault) (sought by name (g here))
    → or_next r (sought by name (flat_map g (drop (place + 1) first))) ≡ whole
turn_goes_on by name g first place here fault r whole lt same rest h = grind (arith, common_steps, flat_map, one_turn)

same_place : (first all : List ℕ) (place here : ℕ) → Grown first all → place < length first
    → here ≡ get_or all place 0 → here ≡ get_or first place 0
same_place first all place here grown lt e = grind (arith, common_steps, get_or, get_or_append_left)

-- what the visit of one keyring comes to
pub visited : (by : Searcher) (name : Name) (first all : List ℕ) (start place here : ℕ) (before fault : Errno)
    (r : Result ℕ Errno) → IsVisit by name first all start place before fault → place < length first
    → here ≡ get_or all place 0 →
    r ≡ or_next (Err fault) (sought by name (entered by here)) →
    or_next r (sought by name (flat_map (entered by) (drop (place + 1) first)))
    ≡ or_next (Err before) (sought by name (flat_map (entered by) (drop start first)))
visited by name first all start place here before fault r v lt e h =
    turn_goes_on by name (entered by) first place here fault r _ lt
    (same_place first all place here v.round.grown lt e) v.left h

pub visit_goes_on : (by : Searcher) (name : Name) (first all next : List ℕ) (start place here : ℕ)
    (before fault more : Errno) → IsVisit by name first all start place before fault → place < length first
    → here ≡ get_or all place 0 →
    Err more ≡ or_next (Err fault) (sought by name (entered by here)) → next ≡ join all (entered_rings by here)
    → IsVisit by name first next start (place + 1) before more
visit_goes_on by name first all next start place here before fault more v lt e h j =
    let up : length all ≤ length next = longer all (entered_rings by here) next j in
    let within : length first ≤ length all = v.within in
    record {
      within = omega arith;
      round = round_more (entered_rings by) first all next start place here v.round lt e j;
      left = visited by name first all start place here before fault (Err more) v lt e h;
    }
