-- One key of a level, in the walk by levels.
use Rattle.std.proofs.Common.{[], ◌++◌, ◌+◌, ◌<◌, ◌||◌, ◌∙◌, ◌≡◌, ◌≤◌, ap, append_assoc, arith, Bool, drop, false}
use Rattle.std.proofs.Common.{flat_map, get_or, length, length-append, List, refl, sym, take, take-append-drop, take_at}
use Rattle.std.proofs.Common.{true, ℕ}
use Rattle.std.specs.List.{list_any}
use Rattle.std.proofs.lemmas.List.{drop_all, drop_more, get_or_append_left, Folds.list_any-append}
use Rattle.krs_model.specs.Levels.{levels}
use Rattle.krs_walk.specs.Lists.{join}
use Rattle.krs_walk.proofs.{CycleLemmas.levels_up, LevelsLemmas.{at_heads, at_next, IsAt}}
use Rattle.krs_walk.proofs.ListsLemmas.{any_at, any_join, fresh, join_append, join_fresh}
use Rattle.krs_walk.proofs.PossessionLemmas.{any_from}
use Rattle.krs_model.proofs.Reach.Levels.{or_true}

abbrev pub Grown : List ℕ → List ℕ → Type 0
Grown first all = (more : List ℕ) × (all ≡ first ++ more)

-- what the rest of the level links, joined now, gives the whole; and the list has only grown
pub record IsRound (f : ℕ → List ℕ) (first all : List ℕ) (start place : ℕ) : Type 0 where
  pub rest : join all (flat_map f (drop place first)) ≡ join first (flat_map f (drop start first))
  pub grown : Grown first all

pub round_more : (f : ℕ → List ℕ) (first all next : List ℕ) (start place here : ℕ) → IsRound f first all start place
    → place < length first → here ≡ get_or all place 0 → next ≡ join all (f here)
    → IsRound f first next start (place + 1)
round_more f first all next start place here r lt h e =
    let same : here ≡ get_or first place 0 =
    h ∙ (ap (λ zs. get_or zs place 0) r.grown.1 ∙ get_or_append_left first r.grown.0 0 place lt) in
    record {
      rest = ap (λ zs. join zs (flat_map f (drop (place + 1) first))) (e ∙ ap (λ k. join all (f k)) same)
          ∙ (sym (join_append all (f (get_or first place 0)) (flat_map f (drop (place + 1) first)))
          ∙ (ap (λ zs. join all (flat_map f zs)) (sym (drop_more first place 0 lt)) ∙ r.rest));
      grown = (
        r.grown.0 ++ fresh all (f here),
        e ∙ (join_fresh all (f here)
            ∙ (ap (λ zs. zs ++ fresh all (f here)) r.grown.1 ∙ append_assoc first r.grown.0 (fresh all (f here)))),
      );
    }

pub longer : (all xs next : List ℕ) → next ≡ join all xs → length all ≤ length next
longer all xs next e =
    let grown : length next ≡ length all + length (fresh all xs) =
    ap length (e ∙ join_fresh all xs) ∙ length-append all (fresh all xs) in
    omega arith

any_parts : (p : ℕ → Bool) (start : ℕ) (all : List ℕ) → list_any p all
    ≡ (list_any p (take start all) || list_any p (drop start all))
any_parts p start all =
    ap (list_any p) (sym (take-append-drop start all)) ∙ list_any-append p (take start all) (drop start all)

any_all : (p : ℕ → Bool) (f : ℕ → List ℕ) (heads : List ℕ) (n start : ℕ) (all : List ℕ) → IsAt f heads n start all
    → list_any p (levels f heads (n + 1)) ≡ list_any p all
any_all p f heads n start all at_level = sym (ap (list_any p) at_level.upto ∙ any_join p [] (levels f heads (n + 1)))

pub any_up : (p : ℕ → Bool) (f : ℕ → List ℕ) (heads : List ℕ) (n m : ℕ) → n ≤ m → list_any p (levels f heads n) ≡ true
    → list_any p (levels f heads m) ≡ true
any_up p f heads n m le h =
    let r = any_from p (levels f heads n) h in
    any_at p r.0 (levels f heads m) (levels_up f heads r.0 n m le r.1) r.2

-- a walk by levels that has not come to a key that passes
pub record IsSearch (p : ℕ → Bool) (f : ℕ → List ℕ) (heads : List ℕ) (n start : ℕ) (all : List ℕ) : Type 0 where
  pub within : start ≤ length all
  pub walk : IsAt f heads n start all
  pub missed : list_any p (take start all) ≡ false
  pub not_yet : list_any p (levels f heads n) ≡ false

-- a key of this level passes
pub search_finds : (p : ℕ → Bool) (f : ℕ → List ℕ) (heads : List ℕ) (n m start : ℕ) (all : List ℕ)
    → IsSearch p f heads n start all → n < m → list_any p (drop start all) ≡ true
    → list_any p (levels f heads m) ≡ true
search_finds p f heads n m start all s lt h =
    let up : n + 1 ≤ m = omega arith in
    any_up p f heads (n + 1) m up (any_all p f heads n start all s.walk
    ∙ (any_parts p start all ∙ or_true (list_any p (take start all)) (list_any p (drop start all)) h))

-- the first n + 1 levels have none that passes, and what the last of them links joins the list
pub search_joins : (p : ℕ → Bool) (f : ℕ → List ℕ) (heads : List ℕ) (n start : ℕ) (all next : List ℕ)
    → IsAt f heads n start all → list_any p (levels f heads (n + 1)) ≡ false
    → next ≡ join all (flat_map f (drop start all)) → IsSearch p f heads (n + 1) (length all) next
search_joins p f heads n start all next s none e =
    let front : take (length all) next ≡ all =
    ap (take (length all)) (e ∙ join_fresh all (flat_map f (drop start all)))
    ∙ take_at all (fresh all (flat_map f (drop start all))) (length all) refl in
    record {
      within = longer all (flat_map f (drop start all)) next e;
      walk = at_next f heads n start all next s e;
      missed = ap (list_any p) front ∙ (sym (any_all p f heads n start all s) ∙ none);
      not_yet = none;
    }

-- none of a level does, and what its keys link joins the list
pub search_goes_on : (p : ℕ → Bool) (f : ℕ → List ℕ) (heads : List ℕ) (n start : ℕ) (all next : List ℕ)
    → IsSearch p f heads n start all → list_any p (drop start all) ≡ false
    → next ≡ join all (flat_map f (drop start all)) → IsSearch p f heads (n + 1) (length all) next
search_goes_on p f heads n start all next s h e =
    search_joins p f heads n start all next s.walk
    (any_all p f heads n start all s.walk
    ∙ (any_parts p start all ∙ (ap (λ b. b || list_any p (drop start all)) s.missed ∙ h))) e

-- the first two levels have none that passes, and were joined one after the other
pub search_behind : (p : ℕ → Bool) (f : ℕ → List ℕ) (heads all below next : List ℕ) → all ≡ join [] heads
    → list_any p (levels f heads 2) ≡ false → below ≡ join all (flat_map f (drop 0 all))
    → next ≡ join below (flat_map f (drop (length all) below)) → IsSearch p f heads 2 (length below) next
search_behind p f heads all below next e none j k =
    search_joins p f heads 1 (length all) below next
    (at_next f heads 0 0 all below (at_heads f heads all e) j) none k

any_here : (p : ℕ → Bool) (all : List ℕ) (place : ℕ) → place < length all
    → list_any p (drop place all) ≡ (p (get_or all place 0) || list_any p (drop (place + 1) all))
any_here p all place lt = ap (list_any p) (drop_more all place 0 lt)

-- one key of a level that passes, or does not
pub any_passes : (p : ℕ → Bool) (all : List ℕ) (place here : ℕ) → place < length all → here ≡ get_or all place 0
    → p here ≡ true → list_any p (drop place all) ≡ true
any_passes p all place here lt e t =
    any_here p all place lt ∙ ap (λ b. b || list_any p (drop (place + 1) all)) (sym (ap p e) ∙ t)

pub any_fails : (p : ℕ → Bool) (all : List ℕ) (place here : ℕ) → place < length all → here ≡ get_or all place 0
    → p here ≡ false → list_any p (drop (place + 1) all) ≡ list_any p (drop place all)
any_fails p all place here lt e t =
    sym (any_here p all place lt ∙ ap (λ b. b || list_any p (drop (place + 1) all)) (sym (ap p e) ∙ t))

pub any_past : (p : ℕ → Bool) (all : List ℕ) (place : ℕ) → length all ≤ place → list_any p (drop place all) ≡ false
any_past p all place le = ap (list_any p) (drop_all place all le)
