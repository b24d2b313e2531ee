-- What is possessed, by the keyrings that link it.
use Rattle.std.proofs.Common.{[], ⊎_elim, ◌==◌, ◌||◌, ◌∙◌, ◌∷◌, ◌≡◌, ◌≢◌, ◌≤◌, ap, arith, Bool, cond, false, filter}
use Rattle.std.proofs.Common.{find, IfNone, IfSome, is_some, List, None, Option, option_map, refl, slice_get, Some, suc}
use Rattle.std.proofs.Common.{sym, true, true≢false, zero, ℕ}
use Rattle.std.specs.List.{list_any}
use Rattle.std.proofs.lemmas.Option.{none-some, same_Some}
use Rattle.krs_types.specs.{Name.same_name, declared.{caller.Caller.Caller, context.Context.Context, name.Name.Name}}
use Rattle.krs_types.proofs.Names.{equal_names, same_name_equiv}
use Rattle.krs_model.specs.Levels.{is_in, level, levels, search_depth}
use Rattle.krs_model.specs.Possession.{attached_with, followed, followed_at, is_followed}
use Rattle.krs_model.specs.{Possession.possessed_with, Reach.is_ring, Sweep.links_of_key, Table.{at, Table}}
use Rattle.krs_model.proofs.{Reach.Levels.in_flat, Tables.Changes.at_map}
use Rattle.krs_links.specs.Links.{LinkList, nested, serial_named, serials}
use Rattle.krs_keys.specs.Keys.{AreFit, AreNamed, name_at, named_links_of_content, OnlyRingsLink, seen, shown}
use Rattle.krs_keys.specs.declared.key.Key.{Key}
use Rattle.krs_keys.proofs.KeysLemmas.{serials-content}
use Rattle.krs_walk.specs.Seeking.{heads, is_linked_anywhere, is_possessed}
use Rattle.krs_walk.specs.{Walks.{followed_rings, is_found, is_linked}, declared.possession.Sought.Sought}
use Rattle.krs_walk.proofs.{CycleLemmas.levels_up, KeyringsLemmas.nested_serials}
use Rattle.krs_walk.proofs.LevelsLemmas.{Fewer, in_flat_map, levels_fewer, levels_from, levels_next}
use Rattle.krs_walk.proofs.ListsLemmas.{any_at, in_at, in_head, in_none, in_tail}
use Rattle.krs_walk.proofs.{ListsLemmas.{or_left, same_tests}, ReachLemmas.{from_filter, in_filter}}
use Rattle.krs_model.specs.State as model
use Rattle.krs_model.proofs.Reach.Levels.{equal_is, in_left, in_one, in_right, or_true, true_or}
use Rattle.std.proofs.lemmas.Grind.{common_steps}

-- a list that passes has one that does
pub any_from : (p : ℕ → Bool) (xs : List ℕ) → list_any p xs ≡ true → (j : ℕ) × (is_in j xs ≡ true) × (p j ≡ true)
any_from p [] h = absurd (true≢false (sym h))
any_from p (x ∷ xs) h =
    ⊎_elim (λ (here : p x ≡ true). (x, in_head x xs, here))
    (λ (later : list_any p xs ≡ true). let r = any_from p xs later in (r.0, in_tail r.0 x xs r.1, r.2))
    (true_or (p x) (list_any p xs) h)

pub none_any : (p : ℕ → Bool) (xs : List ℕ) → ((j : ℕ) → p j ≡ false) → list_any p xs ≡ false
none_any p [] h = refl
none_any p (x ∷ xs) h = ap (λ b. b || list_any p xs) (h x) ∙ none_any p xs h

-- what links is a keyring
abbrev pub RingsAlone : (ℕ → Bool) → (ℕ → List ℕ) → Type 0
RingsAlone ring links = (j k : ℕ) → is_in k (links j) ≡ true → ring j ≡ true

level_rings : (ring : ℕ → Bool) (links : ℕ → List ℕ) (heads : List ℕ) (n k : ℕ) → RingsAlone ring links
    → ring k ≡ true → is_in k (level links heads n) ≡ true → is_in k
    (level (λ j. filter ring (links j)) heads n) ≡ true
unfolding level
level_rings ring links heads zero k alone is m = m
level_rings ring links heads (suc n) k alone is m =
    let from = in_flat links (level links heads n) k m in
    in_flat_map (λ j. filter ring (links j)) (level (λ j. filter ring (links j)) heads n) from.0 k
    (level_rings ring links heads n from.0 alone (alone from.0 k from.2) from.1)
    (in_filter ring (links from.0) k from.2 is)

-- a keyring of the levels is in those along nested keyrings
pub levels_rings : (ring : ℕ → Bool) (links : ℕ → List ℕ) (heads : List ℕ) (n k : ℕ) → RingsAlone ring links
    → ring k ≡ true → is_in k (levels links heads n) ≡ true → is_in k
    (levels (λ j. filter ring (links j)) heads n) ≡ true
unfolding levels
levels_rings ring links heads zero k alone is m = absurd (in_none k m)
levels_rings ring links heads (suc n) k alone is m =
    ⊎_elim (λ (before : is_in k (levels links heads n) ≡ true).
    in_left k (levels (λ j. filter ring (links j)) heads n) (level (λ j. filter ring (links j)) heads n)
    (levels_rings ring links heads n k alone is before))
    (λ (last : is_in k (level links heads n) ≡ true). in_right k (levels (λ j. filter ring (links j)) heads n)
    (level (λ j. filter ring (links j)) heads n) (level_rings ring links heads n k alone is last))
    (in_one k (levels links heads n) (level links heads n) m)

heads_in : (links : ℕ → List ℕ) (heads : List ℕ) (k : ℕ) → is_in k heads ≡ true
    → is_in k (levels links heads (suc zero)) ≡ true
unfolding level levels
heads_in links heads k m = m

pub rings_fewer : (ring : ℕ → Bool) (links : ℕ → List ℕ) → Fewer (λ j. filter ring (links j)) links
rings_fewer ring links j k m = (from_filter ring (links j) k m).1

-- the keys of the first n + 1 levels are the heads and what the keyrings of the first n link
pub levels_split : (ring : ℕ → Bool) (links : ℕ → List ℕ) (heads : List ℕ) (n k : ℕ) → RingsAlone ring links →
    is_in k (levels links heads (suc n)) ≡ (is_in k heads || list_any (λ j. is_in k (links j))
    (levels (λ j. filter ring (links j)) heads n))
levels_split ring links heads n k alone =
    let rings = levels (λ j. filter ring (links j)) heads n in
    let linked = list_any (λ j. is_in k (links j)) rings in
    let one : suc zero ≤ suc n = omega arith in
    same_tests (is_in k (levels links heads (suc n))) (is_in k heads || linked)
    (λ m. ⊎_elim (λ (head : is_in k heads ≡ true). or_left (is_in k heads) linked head)
    (λ r. or_true (is_in k heads) linked (any_at (λ j. is_in k (links j)) r.0 rings
    (levels_rings ring links heads n r.0 alone (alone r.0 k r.2) r.1) r.2))
    (levels_from links heads n k m))
    (λ m. ⊎_elim (λ (head : is_in k heads ≡ true). levels_up links heads k (suc zero) (suc n) one
    (heads_in links heads k head))
    (λ (t : linked ≡ true). let r = any_from (λ j. is_in k (links j)) rings t in
    levels_next links heads n r.0 k (levels_fewer (λ j. filter ring (links j)) links heads n r.0
    (rings_fewer ring links) r.1) r.2)
    (true_or (is_in k heads) linked m))

pub followed_linked : (clock : ℕ) (caller : Caller) (o : Option model.Key) (k : ℕ)
    → is_in k (followed clock caller o) ≡ true → is_in k (links_of_key o) ≡ true
followed_linked clock caller None k m = m
followed_linked clock caller (Some key) k m = grind (arith, common_steps, in_none)

-- a key is possessed that is attached, or that a followed keyring of the first `search_depth` levels links
pub possession_splits : (keys : Table model.Key) (clock : ℕ) (c : Context) (ring : Option ℕ) (serial : ℕ)
    → OnlyRingsLink keys →
    possessed_with keys clock c ring serial ≡ (is_in serial (attached_with c ring)
    || is_linked keys clock c ring serial)
possession_splits keys clock c ring serial only =
    levels_split (λ k. is_ring (at keys k)) (followed_at keys clock c.caller) (attached_with c ring) search_depth serial
    (λ j k m. only j k (followed_linked clock c.caller (at keys j) k m))

-- a key whose links are followed
pub followed_there : (keys : Table Key) (clock : ℕ) (caller : Caller) (serial : ℕ) (key : Key) (b : Bool)
    → at keys serial ≡ Some key → is_followed clock caller (seen key) ≡ b →
    followed_at (shown keys) clock caller serial ≡ cond b (serials (named_links_of_content key.content)) []
followed_there keys clock caller serial key b there is =
    grind (arith, common_steps, at_map, option_map, serials-content)

pub followed_absent : (keys : Table Key) (clock : ℕ) (caller : Caller) (serial : ℕ) → at keys serial ≡ None
    → followed_at (shown keys) clock caller serial ≡ []
followed_absent keys clock caller serial none = grind (arith, common_steps, at_map, option_map)

-- its nested keyrings
pub followed_nested : (keys : Table Key) (clock : ℕ) (caller : Caller) (serial : ℕ) (key : Key) → AreFit keys
    → at keys serial ≡ Some key → is_followed clock caller (seen key) ≡ true →
    serials (nested (named_links_of_content key.content)) ≡ followed_rings (shown keys) clock caller serial
followed_nested keys clock caller serial key fit there is =
    nested_serials keys (named_links_of_content key.content) (fit serial key there)
    ∙ ap (filter (λ k. is_ring (at (shown keys) k))) (sym (followed_there keys clock caller serial key true there is))

-- a name finds the serial of its key, where that is linked
found_first : (found : ℕ) (serial : ℕ) (later : Bool) → later ≡ false
    → (found == serial) ≡ ((found == serial) || later)
found_first found serial later h = elim (found == serial) as (λ b. b ≡ (b || later)) [ true ↦ refl | false ↦ sym h ]

not_here : (names : ℕ → Option Name) (link name : Name) (k serial : ℕ) → names k ≡ Some link
    → names serial ≡ Some name → same_name name link ≡ false → (k == serial) ≡ false
not_here names link name k serial linked named apart =
    elim (k == serial) as (λ b. (k == serial) ≡ b → b ≡ false) [
      | true ↦ λ t. let e : Some name ≡ Some link = sym named ∙ (ap names (sym (equal_is k serial t)) ∙ linked) in
          absurd (true≢false (sym (same_name_equiv.refl name) ∙ (ap (same_name name)
          (same_Some name link e) ∙ apart)))
      | false ↦ λ t. refl
    ] refl

pub found_linked : (names : ℕ → Option Name) (links : LinkList) (name : Name) (serial : ℕ) → AreNamed names links
    → names serial ≡ Some name → is_found serial (serial_named links name) ≡ is_in serial (serials links)
found_linked names [] name serial fit named = refl
found_linked names (link ∷ links) name serial fit named =
    elim (same_name name link.0) as (λ b. same_name name link.0 ≡ b
    → is_found serial (option_map (λ (l : Name × ℕ). l.1) (cond b (Some link)
    (find (λ (l : Name × ℕ). same_name name l.0) links))) ≡ ((link.1 == serial)
    || is_in serial (serials links))) [
      | true ↦ λ t. found_first link.1 serial (is_in serial (serials links))
          (sym (found_linked names links name serial fit.1 named)
          ∙ ap (is_found serial) (ap (serial_named links) (equal_names name link.0 t) ∙ fit.2))
      | false ↦ λ t. found_linked names links name serial fit.1 named
          ∙ ap (λ b. b || is_in serial (serials links)) (sym (not_here names link.0 name link.1 serial fit.0 named t))
    ] refl

-- what is no key is not linked
pub absent_unlinked : (names : ℕ → Option Name) (links : LinkList) (serial : ℕ) → AreNamed names links
    → names serial ≡ None → is_in serial (serials links) ≡ false
absent_unlinked names [] serial fit none = refl
absent_unlinked names (link ∷ links) serial fit none =
    grind (arith, common_steps, none-some, equal_is, absent_unlinked names links serial fit.1 none)

absent_followed : (keys : Table Key) (clock : ℕ) (caller : Caller) (j serial : ℕ) (o : Option Key) → at keys j ≡ o
    → AreFit keys → at keys serial ≡ None → is_in serial (followed_at (shown keys) clock caller j) ≡ false
absent_followed keys clock caller j serial None there fit none = grind (arith, common_steps, followed_absent)
absent_followed keys clock caller j serial (Some key) there fit none =
    ap (is_in serial) (followed_there keys clock caller j key (is_followed clock caller (seen key)) there refl) ∙
    (elim (is_followed clock caller (seen key)) as (λ b. is_in serial
    (cond b (serials (named_links_of_content key.content)) []) ≡ false) [
      | true ↦ absent_unlinked (name_at keys) (named_links_of_content key.content) serial (fit j key there)
          (ap (option_map (λ (v : Key). v.name)) none)
      | false ↦ refl
    ])

pub absent_linked : (keys : Table Key) (clock : ℕ) (c : Context) (ring : Option ℕ) (serial : ℕ) → AreFit keys
    → at keys serial ≡ None → is_linked (shown keys) clock c ring serial ≡ false
absent_linked keys clock c ring serial fit none =
    none_any (λ j. is_in serial (followed_at (shown keys) clock c.caller j))
    (levels (followed_rings (shown keys) clock c.caller) (attached_with c ring) search_depth)
    (λ j. absent_followed keys clock c.caller j serial (at keys j) refl fit none)

-- a name that links another serial, or none, finds none
not_found : (serial : ℕ) (o : Option ℕ) → o ≢ Some serial → is_found serial o ≡ false
not_found serial None other = refl
not_found serial (Some k) other = grind (arith, common_steps, equal_is)

-- where a key is linked, if its name is at hand
placed_linked : (names : ℕ → Option Name) (links : LinkList) (name : Name) (serial : ℕ) (place : Option ℕ)
    → AreNamed names links → names serial ≡ Some name
    → IfSome place (λ p. slice_get (serials links) p ≡ Some serial)
    → IfNone place (serial_named links name ≢ Some serial) → is_some place ≡ is_in serial (serials links)
placed_linked names links name serial None fit named there none =
    sym (sym (found_linked names links name serial fit named) ∙ not_found serial (serial_named links name) none)
placed_linked names links name serial (Some p) fit named there none = sym (in_at (serials links) p serial there)

-- a followed keyring links a key where that is found at a place of it
pub followed_links : (keys : Table Key) (clock : ℕ) (caller : Caller) (ring serial : ℕ) (key : Key) (name : Name)
    (place : Option ℕ) → AreFit keys → at keys ring ≡ Some key → is_followed clock caller (seen key) ≡ true
    → name_at keys serial ≡ Some name
    → IfSome place (λ p. slice_get (serials (named_links_of_content key.content)) p ≡ Some serial)
    → IfNone place (serial_named (named_links_of_content key.content) name ≢ Some serial)
    → is_some place ≡ is_in serial (followed_at (shown keys) clock caller ring)
followed_links keys clock caller ring serial key name place fit there is named found none =
    placed_linked (name_at keys) (named_links_of_content key.content) name serial place
    (fit ring key there) named found none
    ∙ ap (is_in serial) (sym (followed_there keys clock caller ring key true there is))

pub unfollowed : (keys : Table Key) (clock : ℕ) (caller : Caller) (serial : ℕ) (key : Key) → at keys serial ≡ Some key
    → is_followed clock caller (seen key) ≡ false → followed_at (shown keys) clock caller serial ≡ []
unfollowed keys clock caller serial key there is = followed_there keys clock caller serial key false there is

-- an attached key is possessed
pub head_possessed : (keys : Table model.Key) (clock : ℕ) (c : Context) (ring : Option ℕ) (serial : ℕ)
    → OnlyRingsLink keys → is_in serial (attached_with c ring) ≡ true → possessed_with keys clock c ring serial ≡ true
head_possessed keys clock c ring serial only h = grind (arith, common_steps, possession_splits, or_left)

-- what is looked for is possessed where it is attached, and else where it is linked
pub attached_possessed :
    (s : Sought) → OnlyRingsLink (shown s.keys.now.keys) → is_in s.serial (heads s) ≡ true → is_possessed s ≡ true
attached_possessed s only = head_possessed (shown s.keys.now.keys) s.clock s.context.now s.process_ring s.serial only

pub linked_possessed : (s : Sought) → OnlyRingsLink (shown s.keys.now.keys) → is_in s.serial (heads s) ≡ false
    → is_possessed s ≡ is_linked_anywhere s
linked_possessed s only h = grind (arith, common_steps, possession_splits)
