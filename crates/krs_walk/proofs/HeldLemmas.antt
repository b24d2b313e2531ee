-- The possessed keyrings, as far as they were walked.
use Rattle.std.proofs.Common.{[], ◌+◌, ◌-◌, ◌<◌, ◌==◌, ◌∙◌, ◌≡◌, ◌≤◌, ap, arith, drop, false, flat_map, length, List}
use Rattle.std.proofs.Common.{Option, refl, subst, suc, sym, take, take_at, true, ℕ}
use Rattle.krs_types.specs.declared.context.Context.{Context}
use Rattle.krs_model.specs.Levels.{is_in, level, levels, search_depth}
use Rattle.krs_model.specs.Possession.{attached_with, followed_at, possessed_with}
use Rattle.krs_model.specs.{Reach.is_ring, State.Key, Table.{at, Table}}
use Rattle.krs_model.proofs.Reach.Levels.{levels_more}
use Rattle.krs_keys.specs.Keys.{OnlyRingsLink, shown}
use Rattle.krs_walk.specs.{Lists.join, Searching.{AreHeld, held_to}, Walks.followed_rings}
use Rattle.krs_walk.specs.declared.{held.HeldRings.HeldRings, search.Search.Search}
use Rattle.krs_walk.proofs.{CycleLemmas.levels_up, LevelsLemmas.{at_next, IsAt, levels_fewer, levels_next}}
use Rattle.krs_walk.proofs.ListsLemmas.{any_join, fresh, join_append, join_fresh, same_tests}
use Rattle.krs_walk.proofs.{PossessionLemmas.{followed_linked, levels_rings, rings_fewer}, RoundsLemmas.longer}

-- what the list before has been given, and what has joined it
pub joined_front : (all xs next : List ℕ) → next ≡ join all xs → take (length all) next ≡ all
joined_front all xs next e =
    ap (take (length all)) (e ∙ join_fresh all xs) ∙ take_at all (fresh all xs) (length all) refl

pub in_joined : (all xs : List ℕ) (k : ℕ) → all ≡ join [] xs → is_in k all ≡ is_in k xs
in_joined all xs k e = ap (is_in k) e ∙ any_join (λ q. q == k) [] xs

linked_above : (f : ℕ → List ℕ) (heads : List ℕ) (n j k : ℕ) → is_in j (levels f heads n) ≡ true
    → is_in k (f j) ≡ true → is_in k (levels f heads (n + 1)) ≡ true
linked_above f heads n j k m h =
    let e : suc n ≡ n + 1 = omega arith in
    subst (λ (z : ℕ). is_in k (levels f heads z) ≡ true) e (levels_next f heads n j k m h)

-- a list of the first n + 1 levels that begins with the list of the first n is a walk at level n
pub walk_at : (f : ℕ → List ℕ) (heads : List ℕ) (n start : ℕ) (all : List ℕ) → all ≡ join [] (levels f heads (n + 1))
    → take start all ≡ join [] (levels f heads n) → IsAt f heads n start all
walk_at f heads n start all whole before = record {
  level_is = whole ∙ (ap (join []) (levels_more f heads n) ∙ (join_append [] (levels f heads n) (level f heads n)
      ∙ ap (λ zs. join zs (level f heads n)) (sym before)));
  upto = whole;
  covers = λ j m k h. in_joined all (levels f heads (n + 1)) k whole
      ∙ linked_above f heads n j k (sym (in_joined (take start all) (levels f heads n) j before) ∙ m) h;
}

-- one level more
pub walked_more : (f : ℕ → List ℕ) (heads : List ℕ) (n start : ℕ) (all next : List ℕ) → 0 < n
    → all ≡ join [] (levels f heads n) → take start all ≡ join [] (levels f heads (n - 1))
    → next ≡ join all (flat_map f (drop start all)) → next ≡ join [] (levels f heads (n + 1))
walked_more f heads n start all next some whole before e =
    let up : n ≡ n - 1 + 1 = omega arith in
    let here = walk_at f heads (n - 1) start all (whole ∙ ap (λ (z : ℕ). join [] (levels f heads z)) up) before in
    let there = at_next f heads (n - 1) start all next here e in
    there.upto ∙ ap (λ (z : ℕ). join [] (levels f heads (z + 1))) (sym up)

pub none_held : (s : Search) (h : HeldRings) → h.levels ≡ 0 → h.start ≡ 0 → h.seen ≡ [] → AreHeld s h
unfolding levels
none_held s h l b e =
    let none : h.levels - 1 ≡ 0 = omega arith in
    record {
      bound = omega arith;
      within = omega arith;
      walked = e ∙ ap (λ (z : ℕ). join [] (held_to s z)) (sym l);
      before = ap (λ (z : ℕ). take z h.seen) b ∙ ap (λ (z : ℕ). join [] (held_to s z)) (sym none);
    }

-- the first level
first_held : (s : Search) (h : HeldRings) → h.levels ≡ 1 → h.start ≡ 0
    → h.seen ≡ join [] (attached_with s.context.now s.process_ring) → AreHeld s h
unfolding level levels
first_held s h l b e =
    let none : h.levels - 1 ≡ 0 = omega arith in
    record {
      bound = omega arith;
      within = omega arith;
      walked = e ∙ ap (λ (z : ℕ). join [] (held_to s z)) (sym l);
      before = ap (λ (z : ℕ). take z h.seen) b ∙ ap (λ (z : ℕ). join [] (held_to s z)) (sym none);
    }

none_seen : (s : Search) (h : HeldRings) → AreHeld s h → h.levels ≡ 0 → h.seen ≡ []
unfolding levels
none_seen s h held l = held.walked ∙ ap (λ (z : ℕ). join [] (held_to s z)) l

none_begun : (s : Search) (h : HeldRings) → AreHeld s h → h.levels ≡ 0 → h.start ≡ 0
none_begun s h held l =
    let none : length h.seen ≡ 0 = ap length (none_seen s h held l) in
    let within : h.start ≤ length h.seen = held.within in
    omega arith

-- from none to the first
pub begun_held : (s : Search) (h next : HeldRings) → AreHeld s h → h.levels ≡ 0 → next.levels ≡ h.levels + 1
    → next.start ≡ h.start → next.seen ≡ join h.seen (attached_with s.context.now s.process_ring) → AreHeld s next
begun_held s h next held l m b e =
    first_held s next (m ∙ ap (λ (z : ℕ). z + 1) l) (b ∙ none_begun s h held l)
    (e ∙ ap (λ zs. join zs (attached_with s.context.now s.process_ring)) (none_seen s h held l))

-- the next
pub next_held : (s : Search) (h next : HeldRings) → AreHeld s h → (h.levels ≡ 0 → ⊥) → h.levels ≤ search_depth
    → next.levels ≡ h.levels + 1 → next.start ≡ length h.seen →
    next.seen ≡ join h.seen (flat_map (followed_rings (shown s.keys.now.keys) s.clock s.context.now.caller)
    (drop h.start h.seen)) → AreHeld s next
next_held s h next held not_none few l b e =
    let some : 0 < h.levels = omega arith in
    let f = followed_rings (shown s.keys.now.keys) s.clock s.context.now.caller in
    let heads = attached_with s.context.now s.process_ring in
    let linked = flat_map f (drop h.start h.seen) in
    let more : length h.seen ≤ length next.seen = longer h.seen linked next.seen e in
    let same : h.levels ≡ next.levels - 1 = omega arith in
    record {
      bound = omega arith;
      within = omega arith;
      walked = walked_more f heads h.levels h.start h.seen next.seen some held.walked held.before e
          ∙ ap (λ (z : ℕ). join [] (held_to s z)) (sym l);
      before = ap (λ (z : ℕ). take z next.seen) b ∙ (joined_front h.seen linked next.seen e
          ∙ (held.walked ∙ ap (λ (z : ℕ). join [] (held_to s z)) same));
    }

-- a keyring is possessed that is in the levels 0 to `search_depth` of followed keyrings
pub ring_possessed : (keys : Table Key) (clock : ℕ) (c : Context) (ring : Option ℕ) (serial : ℕ) → OnlyRingsLink keys
    → is_ring (at keys serial) ≡ true →
    possessed_with keys clock c ring serial ≡ is_in serial (levels (followed_rings keys clock c.caller)
    (attached_with c ring) (suc search_depth))
ring_possessed keys clock c ring serial only is =
    let passes = λ (k : ℕ). is_ring (at keys k) in
    let f = followed_at keys clock c.caller in
    let heads = attached_with c ring in
    same_tests (possessed_with keys clock c ring serial) (is_in serial
    (levels (followed_rings keys clock c.caller) heads (suc search_depth)))
    (λ m. levels_rings passes f heads (suc search_depth) serial (λ j k n. only j k
    (followed_linked clock c.caller (at keys j) k n)) is m)
    (λ m. levels_fewer (followed_rings keys clock c.caller) f heads (suc search_depth) serial (rings_fewer passes f) m)

-- one that was walked
pub held_possessed : (s : Search) (h : HeldRings) (ring : ℕ) → AreHeld s h → OnlyRingsLink (shown s.keys.now.keys)
    → is_ring (at (shown s.keys.now.keys) ring) ≡ true → is_in ring h.seen ≡ true →
    possessed_with (shown s.keys.now.keys) s.clock s.context.now s.process_ring ring ≡ true
held_possessed s h ring held only is m =
    ring_possessed (shown s.keys.now.keys) s.clock s.context.now s.process_ring ring only is
    ∙ levels_up (followed_rings (shown s.keys.now.keys) s.clock s.context.now.caller)
    (attached_with s.context.now s.process_ring) ring h.levels (suc search_depth) held.bound
    (sym (in_joined h.seen (held_to s h.levels) ring held.walked) ∙ m)

-- one that is in no level
pub not_possessed : (s : Search) (h : HeldRings) (ring : ℕ) → AreHeld s h → OnlyRingsLink (shown s.keys.now.keys)
    → is_ring (at (shown s.keys.now.keys) ring) ≡ true → h.levels ≡ suc search_depth → is_in ring h.seen ≡ false →
    possessed_with (shown s.keys.now.keys) s.clock s.context.now s.process_ring ring ≡ false
not_possessed s h ring held only is all m =
    ring_possessed (shown s.keys.now.keys) s.clock s.context.now s.process_ring ring only is
    ∙ (ap (λ (z : ℕ). is_in ring (held_to s z)) (sym all) ∙ (sym (in_joined h.seen (held_to s h.levels) ring
    held.walked) ∙ m))
