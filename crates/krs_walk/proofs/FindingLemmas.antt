-- A search from its head, level by level.
use Rattle.std.proofs.Common.{[], ⊎_elim, ◌++◌, ◌+◌, ◌-◌, ◌<◌, ◌∙◌, ◌∷◌, ◌≡◌, ◌≤◌, ap, append-nil, append_assoc, arith}
use Rattle.std.proofs.Common.{Bool, cond, drop, Err, false, filter, find, flat_map, length, List, None, Ok, Option}
use Rattle.std.proofs.Common.{refl, Result, Some, suc, sym, take, take-append-drop, true, true≢false, zero, ℕ}
use Rattle.std.specs.Option.{option_or}
use Rattle.std.proofs.lemmas.{Grind.flat_map-append, List.Folds.find-append}
use native.Mathlib.Numerals.{unary_clauses}
use Rattle.krs_types.specs.declared.{context.Context.Context, errno.Errno.{Errno, TheVariants.ENOKEY}, name.Name.Name}
use Rattle.krs_model.specs.Levels.{is_in, level, levels, search_depth}
use Rattle.krs_model.specs.Possession.{links_of_content, possessed, process_ring}
use Rattle.krs_model.specs.{Reach.is_ring, Search.{entered, found, found_by, found_with, is_answer, is_denied}}
use Rattle.krs_model.specs.Search.{is_expired, is_open, is_revoked, open_links, or_next, requested, requested_with}
use Rattle.krs_model.specs.{Search.{searched, Searcher, sought}, State.{Key, State}, Sweep.links_of_key, Table.at}
use Rattle.krs_model.proofs.Reach.{Levels.levels_more, Searches.sought_append}
use Rattle.krs_keys.specs.Keys.{OnlyRingsLink}
use Rattle.krs_walk.specs.{Lists.join, Searching.entered_rings}
use Rattle.krs_walk.proofs.DepthLemmas.{flat_flat, levels_below, levels_unrolled}
use Rattle.krs_walk.proofs.{HeldLemmas.{joined_front, walk_at}, LevelsLemmas.{at_next, Covers, follow_fresh}}
use Rattle.krs_walk.proofs.ListsLemmas.{any_join, fresh, in_cons, in_head, in_none, join_append, join_fresh}
use Rattle.krs_walk.proofs.RoundsLemmas.{longer}

-- what passes and stands in a list already is found there first
find_in_seen : (p : ℕ → Bool) (x : ℕ) (seen : List ℕ) → is_in x seen ≡ true → (o : Option ℕ)
    → option_or (find p seen) (cond (p x) (Some x) o) ≡ option_or (find p seen) o
find_in_seen p x [] m o = absurd (in_none x m)
find_in_seen p x (y ∷ seen) m o =
    elim (p y) as (λ b. p y ≡ b → option_or (cond b (Some y) (find p seen)) (cond (p x) (Some x) o)
    ≡ option_or (cond b (Some y) (find p seen)) o) [
      | true ↦ λ t. refl
      | false ↦ λ t. ⊎_elim (λ (e : x ≡ y). ap (λ b. option_or (find p seen) (cond b (Some x) o)) (ap p e ∙ t))
          (λ (r : is_in x seen ≡ true). find_in_seen p x seen r o) (in_cons x y seen m)
    ] refl

find_join : (p : ℕ → Bool) (seen xs : List ℕ) → find p (join seen xs) ≡ find p (seen ++ xs)
find_join p seen [] = ap (find p) (sym (append-nil seen))
find_join p seen (x ∷ xs) =
    elim (is_in x seen) as (λ b. is_in x seen ≡ b → find p (join (cond b seen (seen ++ x ∷ [])) xs)
    ≡ find p (seen ++ x ∷ xs)) [
      | true ↦ λ m. find_join p seen xs ∙ (find-append p seen xs
          ∙ (sym (find_in_seen p x seen m (find p xs)) ∙ sym (find-append p seen (x ∷ xs))))
      | false ↦ λ m. find_join p (seen ++ x ∷ []) xs ∙ ap (find p) (append_assoc seen (x ∷ []) xs)
    ] refl

-- a list comes to what its keys come to, each at its first place
sought_join : (by : Searcher) (name : Name) (ks : List ℕ) → sought by name (join [] ks) ≡ sought by name ks
sought_join by name ks = rw (
  any_join (is_revoked by name) [] ks,
  any_join (is_expired by name) [] ks,
  any_join (is_denied by name) [] ks,
  find_join (is_answer by name) [] ks,
) refl

-- and so do the links of a list of keyrings, behind others
sought_once : (by : Searcher) (name : Name) (f : ℕ → List ℕ) (first rings : List ℕ)
    → sought by name (first ++ flat_map f (join [] rings)) ≡ sought by name (first ++ flat_map f rings)
sought_once by name f first rings =
    let none : Covers f (join [] first) [] = λ j m. absurd (in_none j m) in
    let joined =
    λ (zs : List ℕ). sym (sought_join by name (first ++ zs)) ∙ ap (sought by name) (join_append [] first zs) in
    ap (λ (zs : List ℕ). sought by name (first ++ flat_map f zs)) (join_fresh [] rings)
    ∙ (joined (flat_map f (fresh [] rings))
    ∙ (ap (sought by name) (sym (follow_fresh f (join [] first) [] rings none))
    ∙ sym (joined (flat_map f rings))))

-- what has no part in a list may be left out of it
abbrev pub RingsAlone : (ℕ → Bool) → (ℕ → List ℕ) → Type 0
RingsAlone ring f = (j : ℕ) → ring j ≡ false → f j ≡ []

flat_rings : (ring : ℕ → Bool) (f : ℕ → List ℕ) (xs : List ℕ) → RingsAlone ring f
    → flat_map f (filter ring xs) ≡ flat_map f xs
flat_rings ring f [] alone = refl
flat_rings ring f (x ∷ xs) alone =
    elim (ring x) as (λ b. ring x ≡ b → flat_map f (cond b (x ∷ filter ring xs) (filter ring xs))
    ≡ f x ++ flat_map f xs) [
      | true ↦ λ t. ap (λ zs. f x ++ zs) (flat_rings ring f xs alone)
      | false ↦ λ t. flat_rings ring f xs alone ∙ ap (λ zs. zs ++ flat_map f xs) (sym (alone x t))
    ] refl

flat_same : (f g : ℕ → List ℕ) (xs : List ℕ) → ((j : ℕ) → f j ≡ g j) → flat_map f xs ≡ flat_map g xs
flat_same f g [] same = refl
flat_same f g (x ∷ xs) same = ap (λ zs. zs ++ flat_map f xs) (same x) ∙ ap (λ zs. g x ++ zs) (flat_same f g xs same)

-- so a level's links are those of its keyrings
level_rings : (ring : ℕ → Bool) (links f : ℕ → List ℕ) (heads : List ℕ) (n : ℕ) → RingsAlone ring links
    → RingsAlone ring f →
    flat_map f (level links heads n) ≡ flat_map f (level (λ j. filter ring (links j)) heads n)
unfolding level
level_rings ring links f heads zero alone own = refl
level_rings ring links f heads (suc n) alone own =
    let g = λ (j : ℕ). flat_map f (links j) in
    let below : RingsAlone ring g = λ j t. ap (flat_map f) (alone j t) in
    flat_flat f links (level links heads n)
    ∙ (level_rings ring links g heads n alone below
    ∙ (flat_same g (λ (j : ℕ). flat_map f (filter ring (links j))) (level (λ j. filter ring (links j)) heads n)
    (λ j. sym (flat_rings ring f (links j) own))
    ∙ sym (flat_flat f (λ (j : ℕ). filter ring (links j)) (level (λ j. filter ring (links j)) heads n))))

pub levels_rings : (ring : ℕ → Bool) (links : ℕ → List ℕ) (heads : List ℕ) (n : ℕ) → RingsAlone ring links →
    flat_map links (levels links heads n) ≡ flat_map links (levels (λ j. filter ring (links j)) heads n)
unfolding levels
levels_rings ring links heads zero alone = refl
levels_rings ring links heads (suc n) alone =
    let rings = λ (j : ℕ). filter ring (links j) in
    flat_map-append links (levels links heads n) (level links heads n)
    ∙ (ap (λ zs. zs ++ flat_map links (level links heads n)) (levels_rings ring links heads n alone)
    ∙ (ap (λ zs. flat_map links (levels rings heads n) ++ zs) (level_rings ring links links heads n alone alone)
    ∙ sym (flat_map-append links (levels rings heads n) (level rings heads n))))

empty_of : (xs : List ℕ) → ((k : ℕ) → is_in k xs ≡ true → ⊥) → xs ≡ []
empty_of [] none = refl
empty_of (x ∷ xs) none = absurd (none x (in_head x xs))

entered_linked : (by : Searcher) (serial k : ℕ) (o : Option Key) → is_in k (open_links by serial o) ≡ true
    → is_in k (links_of_key o) ≡ true
entered_linked by serial k None m = m
entered_linked by serial k (Some key) m =
    elim (is_open by serial key) as (λ b. is_in k (cond b (links_of_content key.content) []) ≡ true
    → is_in k (links_of_content key.content) ≡ true) [
      | true ↦ λ n. n
      | false ↦ λ n. absurd (in_none k n)
    ] m

pub rings_alone : (by : Searcher) → OnlyRingsLink by.keys → RingsAlone (λ k. is_ring (at by.keys k)) (entered by)
rings_alone by only j none =
    empty_of (entered by j) (λ k m. true≢false (sym (only j k (entered_linked by j k (at by.keys j) m)) ∙ none))

-- the head, and what it links
abbrev pub first_of : Searcher → ℕ → List ℕ
first_of by head = head ∷ entered by head

-- what a search comes to, by the links of the keyrings that it enters below its head
found_in_rings : (by : Searcher) (head : ℕ) (name : Name) → OnlyRingsLink by.keys
    → found_by by head name ≡ sought by name (first_of by head
    ++ flat_map (entered by) (levels (entered_rings by) (entered_rings by head) (search_depth - 1)))
unfolding searched
found_in_rings by head name only =
    ap (sought by name) (levels_unrolled (entered by) (head ∷ []) search_depth)
    ∙ (ap (λ (zs : List ℕ). sought by name (head ∷ zs)) (levels_rings (λ k. is_ring (at by.keys k)) (entered by)
    (head ∷ []) search_depth (rings_alone by only))
    ∙ (ap (λ (zs : List ℕ). sought by name (head ∷ flat_map (entered by) zs))
    (levels_below (entered_rings by) (head ∷ []) (search_depth - 1))
    ∙ ap (λ (zs : List ℕ). sought by name (first_of by head ++ flat_map (entered by)
    (levels (entered_rings by) zs (search_depth - 1)))) (append-nil (entered_rings by head))))

-- a search that has visited the keyrings above the nth level below its head: they have this fault
pub record IsSeek (by : Searcher) (name : Name) (head n start : ℕ) (all : List ℕ) (fault : Errno) : Type 0 where
  pub within : start ≤ length all
  pub whole : all ≡ join [] (levels (entered_rings by) (entered_rings by head) (n + 1))
  pub before : take start all ≡ join [] (levels (entered_rings by) (entered_rings by head) n)
  pub passed : sought by name (first_of by head ++ flat_map (entered by) (take start all)) ≡ Err fault

-- the head, and what it links, have been examined
first_sought : (by : Searcher) (name : Name) (head : ℕ) (fault : Errno) (r : Result ℕ Errno)
    → sought by name (head ∷ []) ≡ Err fault → r ≡ or_next (Err fault) (sought by name (entered by head))
    → sought by name (first_of by head) ≡ r
first_sought by name head fault r h e =
    sought_append by name (head ∷ []) (entered by head) ∙ (ap (λ (q : Result ℕ Errno).
    or_next q (sought by name (entered by head))) h ∙ sym e)

pub seek_starts : (by : Searcher) (name : Name) (head : ℕ) (all : List ℕ) (fault more : Errno)
    → sought by name (head ∷ []) ≡ Err fault → Err more ≡ or_next (Err fault) (sought by name (entered by head)) →
    all ≡ join [] (entered_rings by head) → IsSeek by name head 0 0 all more
unfolding level levels
seek_starts by name head all fault more h f e = record {
  within = omega arith;
  whole = e;
  before = refl;
  passed = ap (sought by name) (append-nil (first_of by head)) ∙ first_sought by name head fault (Err more) h f;
}

pub first_finds : (by : Searcher) (name : Name) (head : ℕ) (fault : Errno) (serial : ℕ) → OnlyRingsLink by.keys
    → sought by name (head ∷ []) ≡ Err fault → Ok serial ≡ or_next (Err fault) (sought by name (entered by head))
    → found_by by head name ≡ Ok serial
first_finds by name head fault serial only h e =
    let rest = flat_map (entered by) (levels (entered_rings by) (entered_rings by head) 6) in
    found_in_rings by head name only
    ∙ (sought_append by name (first_of by head) rest
    ∙ ap (λ (q : Result ℕ Errno). or_next q (sought by name rest)) (first_sought by name head fault (Ok serial) h e))

-- with the keyrings of level n
seek_all : (by : Searcher) (name : Name) (head n start : ℕ) (all : List ℕ) (fault : Errno) (r : Result ℕ Errno)
    → IsSeek by name head n start all fault →
    r ≡ or_next (Err fault) (sought by name (flat_map (entered by) (drop start all)))
    → sought by name (first_of by head ++ flat_map (entered by) all) ≡ r
seek_all by name head n start all fault r s h =
    let passed = flat_map (entered by) (take start all) in
    let here = flat_map (entered by) (drop start all) in
    ap (λ (zs : List ℕ). sought by name (first_of by head ++ flat_map (entered by) zs))
    (sym (take-append-drop start all))
    ∙ (ap (λ (zs : List ℕ). sought by name (first_of by head ++ zs))
    (flat_map-append (entered by) (take start all) (drop start all))
    ∙ (ap (sought by name) (sym (append_assoc (first_of by head) passed here))
    ∙ (sought_append by name (first_of by head ++ passed) here
    ∙ (ap (λ (q : Result ℕ Errno). or_next q (sought by name here)) s.passed ∙ sym h))))

pub seek_goes_on : (by : Searcher) (name : Name) (head n start : ℕ) (all next : List ℕ) (fault more : Errno)
    → IsSeek by name head n start all fault →
    Err more ≡ or_next (Err fault) (sought by name (flat_map (entered by) (drop start all)))
    → next ≡ join all (flat_map (entered_rings by) (drop start all)) →
    IsSeek by name head (n + 1) (length all) next more
seek_goes_on by name head n start all next fault more s h e =
    let linked = flat_map (entered_rings by) (drop start all) in
    let here = walk_at (entered_rings by) (entered_rings by head) n start all s.whole s.before in
    let front : take (length all) next ≡ all = joined_front all linked next e in
    record {
      within = longer all linked next e;
      whole = (at_next (entered_rings by) (entered_rings by head) n start all next here e).upto;
      before = front ∙ s.whole;
      passed = ap (λ (zs : List ℕ). sought by name (first_of by head ++ flat_map (entered by) zs)) front
          ∙ seek_all by name head n start all fault (Err more) s h;
    }

-- what the first n levels below the head come to
to_level : Searcher → Name → ℕ → ℕ → Result ℕ Errno
to_level by name head n =
    sought by name (first_of by head ++ flat_map (entered by) (levels (entered_rings by) (entered_rings by head) n))

-- an answer in the first levels is that of all
answer_stays : (by : Searcher) (name : Name) (head serial n m : ℕ) → to_level by name head n ≡ Ok serial
    → to_level by name head (n + m) ≡ Ok serial
unfolding to_level
answer_stays by name head serial n zero h = simp unary_clauses h
answer_stays by name head serial n (suc m) h =
    let heads = entered_rings by head in
    let above = levels (entered_rings by) heads (n + m) in
    let last = level (entered_rings by) heads (n + m) in
    let up : n + m + 1 ≡ n + suc m = omega arith in
    ap (to_level by name head) (sym up)
    ∙ (ap (λ (zs : List ℕ). sought by name (first_of by head ++ flat_map (entered by) zs))
    (levels_more (entered_rings by) heads (n + m))
    ∙ (ap (λ (zs : List ℕ). sought by name (first_of by head ++ zs)) (flat_map-append (entered by) above last)
    ∙ (ap (sought by name) (sym (append_assoc (first_of by head) (flat_map (entered by) above)
    (flat_map (entered by) last)))
    ∙ (sought_append by name (first_of by head ++ flat_map (entered by) above) (flat_map (entered by) last)
    ∙ ap (λ (q : Result ℕ Errno). or_next q (sought by name (flat_map (entered by) last)))
    (answer_stays by name head serial n m h)))))

pub seek_finds : (by : Searcher) (name : Name) (head n start : ℕ) (all : List ℕ) (fault : Errno) (serial : ℕ)
    → OnlyRingsLink by.keys → IsSeek by name head n start all fault → n < search_depth - 1 →
    Ok serial ≡ or_next (Err fault) (sought by name (flat_map (entered by) (drop start all)))
    → found_by by head name ≡ Ok serial
unfolding to_level
seek_finds by name head n start all fault serial only s lt h =
    let rest : n + 1 + (search_depth - (n + 2)) ≡ search_depth - 1 = omega arith in
    let here : to_level by name head (n + 1) ≡ Ok serial =
    sym (sought_once by name (entered by) (first_of by head) (levels (entered_rings by)
    (entered_rings by head) (n + 1)))
    ∙ (ap (λ (zs : List ℕ). sought by name (first_of by head ++ flat_map (entered by) zs)) (sym s.whole)
    ∙ seek_all by name head n start all fault (Ok serial) s h) in
    found_in_rings by head name only ∙ (ap (to_level by name head) (sym rest)
    ∙ answer_stays by name head serial (n + 1) (search_depth - (n + 2)) here)

pub seek_fails : (by : Searcher) (name : Name) (head n start : ℕ) (all : List ℕ) (fault : Errno)
    → OnlyRingsLink by.keys → IsSeek by name head n start all fault → n ≡ search_depth - 1
    → found_by by head name ≡ Err fault
unfolding to_level
seek_fails by name head n start all fault only s last =
    found_in_rings by head name only
    ∙ (ap (to_level by name head) (sym last)
    ∙ (sym (sought_once by name (entered by) (first_of by head) (levels (entered_rings by) (entered_rings by head) n))
    ∙ (ap (λ (zs : List ℕ). sought by name (first_of by head ++ flat_map (entered by) zs)) (sym s.before)
    ∙ s.passed)))

-- the head comes before all others
pub head_finds : (by : Searcher) (name : Name) (head : ℕ) (serial : ℕ) → sought by name (head ∷ []) ≡ Ok serial
    → found_by by head name ≡ Ok serial
unfolding searched
head_finds by name head serial h =
    ap (sought by name) (levels_unrolled (entered by) (head ∷ []) search_depth)
    ∙ (sought_append by name (head ∷ []) (flat_map (entered by) (levels (entered by) (head ∷ []) search_depth))
    ∙ ap (λ (r : Result ℕ Errno). or_next r (sought by name (flat_map (entered by)
    (levels (entered by) (head ∷ []) search_depth)))) h)

-- searches from three keyrings, one behind the other
pub found_in_turn : (by : Searcher) (name : Name) (a b d : List ℕ) (first second third : Result ℕ Errno) →
    first ≡ or_next (Err ENOKEY) (sought by name (flat_map (searched by) a))
    → second ≡ or_next first (sought by name (flat_map (searched by) b))
    → third ≡ or_next second (sought by name (flat_map (searched by) d)) →
    third ≡ sought by name (flat_map (searched by) (a ++ (b ++ d)))
found_in_turn by name a b d first second third e f g =
    let one : first ≡ sought by name (flat_map (searched by) a) =
    e ∙ sym (sought_append by name [] (flat_map (searched by) a)) in
    let two : second ≡ sought by name (flat_map (searched by) (a ++ b)) =
    f ∙ (ap (λ (r : Result ℕ Errno). or_next r (sought by name (flat_map (searched by) b))) one
    ∙ (sym (sought_append by name (flat_map (searched by) a) (flat_map (searched by) b))
    ∙ ap (sought by name) (sym (flat_map-append (searched by) a b)))) in
    g ∙ (ap (λ (r : Result ℕ Errno). or_next r (sought by name (flat_map (searched by) d))) two
    ∙ (sym (sought_append by name (flat_map (searched by) (a ++ b)) (flat_map (searched by) d))
    ∙ (ap (sought by name) (sym (flat_map-append (searched by) (a ++ b) d))
    ∙ ap (λ (zs : List ℕ). sought by name (flat_map (searched by) zs)) (append_assoc a b d))))

-- over a store's own context and moment
pub found_is : (s : State) (c : Context) (head : ℕ) (name : Name)
    → found_with s.keys s.clock c (process_ring s c.process) head name ≡ found s c head name
unfolding found possessed
found_is s c head name = refl

pub requested_is : (s : State) (c : Context) (name : Name) → requested_with s.keys s.clock c
    (process_ring s c.process) name ≡ requested s c name
unfolding requested possessed
requested_is s c name = refl
