-- What a change at the place of a name does to the two lists.
use Rattle.std.proofs.Common.{[], ◌++◌, ◌+◌, ◌<◌, ◌∙◌, ◌∷◌, ◌≡◌, ◌≤◌, ap, append-nil, arith, Bool, cond, false, find}
use Rattle.std.proofs.Common.{get_or, IfNone, length, length-append, List, None, Option, option_map, position, refl}
use Rattle.std.proofs.Common.{remove, set, slice_get, Some, subst, suc, sym, take, true, zero, ℕ}
use Rattle.std.specs.List.{AllByRecursion, position_from}
use Rattle.std.proofs.Math.ListN.{length-set}
use Rattle.std.proofs.lemmas.{Iterator.Adapters.position_from-zero, List.Quantifiers.position-Some}
use Rattle.std.proofs.lemmas.Map.Keys.{IsDistinct-cons, IsDistinct-from_apart, IsDistinct-head, IsDistinct-tail}
use Rattle.std.proofs.lemmas.Option.{get_or_from_slice_get, none-some, slice_get-get_or, slice_get-map}
use Rattle.std.proofs.lemmas.Option.{slice_get_within}
use Rattle.krs_types.specs.{Name.same_name, declared.name.Name.Name}
use Rattle.krs_types.proofs.Names.{equal_names}
use Rattle.krs_links.specs.Links.{is_ring, IsUnique, link_put, LinkList, names, nested, place_of, serial_named, serials}
use Rattle.krs_links.specs.{Links.unlinked, Lists.AreLists}
use Rattle.krs_links.proofs.LinksLemmas.{IsUnique-linked, linked_last}
use Rattle.std.proofs.lemmas.Grind.{common_steps}

find_at : {X : Type 0} (p : X → Bool) (xs : List X) (i : ℕ) (d : X) → i < length xs → p (get_or xs i d) ≡ true →
    ((k : ℕ) → k < i → p (get_or xs k d) ≡ false) → find p xs ≡ Some (get_or xs i d)
find_at p [] i d lt here before = absurd (omega arith)
find_at p (x ∷ xs) zero d lt here before = rw here refl
find_at p (x ∷ xs) (suc i) d lt here before =
    let first : p x ≡ false = before 0 (omega arith) in
    rw first (find_at p xs i d (omega arith) here (λ k h. before (suc k) (omega arith)))

set_at : (name : Name) (serial : ℕ) (xs : LinkList) (i : ℕ) (d : Name × ℕ) → i < length xs →
    same_name name (get_or xs i d).0 ≡ true → ((k : ℕ) → k < i → same_name name (get_or xs k d).0 ≡ false) →
    set xs i (name, serial) ≡ link_put xs name serial
set_at name serial [] i d lt here before = absurd (omega arith)
set_at name serial (x ∷ xs) zero d lt here before = rw here refl
set_at name serial (x ∷ xs) (suc i) d lt here before =
    let first : same_name name x.0 ≡ false = before 0 (omega arith) in
    rw first (ap (λ zs. x ∷ zs) (set_at name serial xs i d (omega arith) here (λ k h. before (suc k) (omega arith))))

pub others_stay : (name : Name) (xs : LinkList) → AllByRecursion (λ n. same_name name n ≡ false) (names xs) →
    unlinked xs name ≡ xs
others_stay name [] all = refl
others_stay name (x ∷ xs) all = rw all.0 (ap (λ zs. x ∷ zs) (others_stay name xs all.1))

remove_at : (name : Name) (xs : LinkList) (i : ℕ) (d : Name × ℕ) → IsUnique xs → i < length xs →
    same_name name (get_or xs i d).0 ≡ true → ((k : ℕ) → k < i → same_name name (get_or xs k d).0 ≡ false) →
    remove xs i ≡ unlinked xs name
remove_at name [] i d u lt here before = absurd (omega arith)
remove_at name (x ∷ xs) zero d u lt here before =
    let rest : unlinked xs name ≡ xs = others_stay name xs (subst (λ (n : Name). AllByRecursion (λ m. same_name n m
    ≡ false) (names xs)) (sym (equal_names name x.0 here)) (IsDistinct-head same_name x.0 (names xs) u)) in
    rw here (sym rest)
remove_at name (x ∷ xs) (suc i) d u lt here before =
    let first : same_name name x.0 ≡ false = before 0 (omega arith) in
    rw first (ap (λ zs. x ∷ zs) (remove_at name xs i d (IsDistinct-tail same_name x.0 (names xs) u)
    (omega arith) here (λ k h. before (suc k) (omega arith))))

pub place_within : (name : Name) (xs : LinkList) (i : ℕ) (d : Name × ℕ) → place_of name xs ≡ Some i → i < length xs
place_within name xs i d h = (position-Some (λ (link : Name × ℕ). same_name name link.0) xs i d h).0

-- the link at the place of a name is the one that is linked under it
pub linked_as_at : (name : Name) (xs : LinkList) (i : ℕ) (d : Name × ℕ) → place_of name xs ≡ Some i →
    serial_named xs name ≡ Some (get_or xs i d).1
linked_as_at name xs i d h = grind (arith, common_steps, position-Some, option_map, find_at)

-- a write there links
pub linked_at : (name : Name) (serial : ℕ) (xs : LinkList) (i : ℕ) (d : Name × ℕ) → place_of name xs ≡ Some i →
    set xs i (name, serial) ≡ link_put xs name serial
linked_at name serial xs i d h =
    let at_place = position-Some (λ (link : Name × ℕ). same_name name link.0) xs i d h in
    set_at name serial xs i d at_place.0 at_place.1 at_place.2

-- a removal there unlinks
pub unlinked_at : (name : Name) (xs : LinkList) (i : ℕ) (d : Name × ℕ) → IsUnique xs → place_of name xs ≡ Some i →
    remove xs i ≡ unlinked xs name
unlinked_at name xs i d u h =
    let at_place = position-Some (λ (link : Name × ℕ). same_name name link.0) xs i d h in
    remove_at name xs i d u at_place.0 at_place.1 at_place.2

-- the link there is one to a keyring exactly where the name is a keyring's
ring_at : (name : Name) (xs : LinkList) (i : ℕ) (d : Name × ℕ) → place_of name xs ≡ Some i →
    is_ring (get_or xs i d).0 ≡ is_ring name
ring_at name xs i d h = grind (arith, common_steps, position-Some, equal_names, get_or)

none_from : (name : Name) (n : ℕ) (xs : LinkList) → position_from (λ link. same_name name link.0) n xs ≡ None →
    serial_named xs name ≡ None
none_from name n [] h = refl
none_from name n (x ∷ xs) h =
    elim (same_name name x.0) as (λ b. cond b (Some n) (position_from (λ link. same_name name link.0) (n + 1) xs)
    ≡ None → option_map (λ (link : Name × ℕ). link.1) (cond b (Some x) (find (λ link. same_name name link.0) xs))
    ≡ None) [
      | true ↦ λ q. absurd (none-some n (sym q))
      | false ↦ λ q. none_from name (n + 1) xs q
    ] h

-- no link has the name
pub none_at : (name : Name) (xs : LinkList) → position (λ link. same_name name link.0) xs ≡ None →
    serial_named xs name ≡ None
none_at name xs h = none_from name 0 xs (sym (position_from-zero (λ (link : Name × ℕ). same_name name link.0) xs) ∙ h)

pub none_given : (name : Name) (xs : LinkList) (found : Option ℕ) → found ≡ place_of name xs →
    IfNone found (serial_named xs name ≡ None)
none_given name xs None h = none_at name xs (sym h)
none_given name xs (Some i) h = tt

-- how many nested keyrings stand before a place
abbrev pub rings_before : LinkList → ℕ → ℕ
rings_before xs i = length (nested (take i xs))

within_at : (xs : LinkList) (i : ℕ) (d : Name × ℕ) → i < length xs → is_ring (get_or xs i d).0 ≡ true →
    rings_before xs i < length (serials (nested xs))
within_at [] i d lt ring = absurd (omega arith)
within_at (x ∷ xs) zero d lt ring = rw ring (omega arith)
within_at (x ∷ xs) (suc i) d lt ring = grind (arith, common_steps, within_at xs i d (omega arith) ring)

set_rings : (xs : LinkList) (i : ℕ) (d link : Name × ℕ) → i < length xs → is_ring (get_or xs i d).0 ≡ true →
    is_ring link.0 ≡ true → set (serials (nested xs)) (rings_before xs i) link.1 ≡ serials (nested (set xs i link))
set_rings [] i d link lt ring new = absurd (omega arith)
set_rings (x ∷ xs) zero d link lt ring new = rw (ring, new) refl
set_rings (x ∷ xs) (suc i) d link lt ring new =
    grind (arith, common_steps, set, set_rings xs i d link (omega arith) ring new)

set_no_ring : (xs : LinkList) (i : ℕ) (d link : Name × ℕ) → i < length xs → is_ring (get_or xs i d).0 ≡ false →
    is_ring link.0 ≡ false → nested xs ≡ nested (set xs i link)
set_no_ring [] i d link lt other new = absurd (omega arith)
set_no_ring (x ∷ xs) zero d link lt other new = rw (other, new) refl
set_no_ring (x ∷ xs) (suc i) d link lt other new =
    grind (arith, common_steps, set_no_ring xs i d link (omega arith) other new)

remove_rings : (xs : LinkList) (i : ℕ) (d : Name × ℕ) → i < length xs → is_ring (get_or xs i d).0 ≡ true →
    remove (serials (nested xs)) (rings_before xs i) ≡ serials (nested (remove xs i))
remove_rings [] i d lt ring = absurd (omega arith)
remove_rings (x ∷ xs) zero d lt ring = rw ring refl
remove_rings (x ∷ xs) (suc i) d lt ring = grind (arith, common_steps, remove, remove_rings xs i d (omega arith) ring)

remove_no_ring : (xs : LinkList) (i : ℕ) (d : Name × ℕ) → i < length xs → is_ring (get_or xs i d).0 ≡ false →
    nested xs ≡ nested (remove xs i)
remove_no_ring [] i d lt other = absurd (omega arith)
remove_no_ring (x ∷ xs) zero d lt other = rw other refl
remove_no_ring (x ∷ xs) (suc i) d lt other = grind (arith, common_steps, remove_no_ring xs i d (omega arith) other)

-- the place among the nested keyrings
pub ring_within : (name : Name) (xs : LinkList) (i : ℕ) → place_of name xs ≡ Some i → is_ring name ≡ true →
    rings_before xs i < length (serials (nested xs))
ring_within name xs i h ring = within_at xs i (name, 0) (place_within name xs i (name, 0) h) (ring_at name xs i
    (name, 0) h ∙ ring)

-- a write among the nested keyrings, where the name is a keyring's, and else none
pub rings_displaced : (name : Name) (serial : ℕ) (xs : LinkList) (i : ℕ) → place_of name xs ≡ Some i →
    is_ring name ≡ true → set (serials (nested xs)) (rings_before xs i) serial ≡ serials (nested
    (link_put xs name serial))
rings_displaced name serial xs i h ring =
    let d : Name × ℕ = (name, serial) in
    set_rings xs i d d (place_within name xs i d h) (ring_at name xs i d h ∙ ring) ring
    ∙ ap (λ (links : LinkList). serials (nested links)) (linked_at name serial xs i d h)

pub rings_stay_displaced : (name : Name) (serial : ℕ) (xs : LinkList) (i : ℕ) → place_of name xs ≡ Some i →
    is_ring name ≡ false → serials (nested xs) ≡ serials (nested (link_put xs name serial))
rings_stay_displaced name serial xs i h other =
    let d : Name × ℕ = (name, serial) in
    ap serials (set_no_ring xs i d d (place_within name xs i d h) (ring_at name xs i d h ∙ other) other)
    ∙ ap (λ (links : LinkList). serials (nested links)) (linked_at name serial xs i d h)

-- ---- the link at a place goes
-- the place among the nested keyrings
pub ring_within_at : (xs : LinkList) (i : ℕ) (link : Name × ℕ) → slice_get xs i ≡ Some link → is_ring link.0 ≡ true →
    rings_before xs i < length (serials (nested xs))
ring_within_at xs i link here ring =
    within_at xs i link (slice_get_within xs i link here)
    (ap (λ (l : Name × ℕ). is_ring l.0) (get_or_from_slice_get xs i link link here) ∙ ring)

-- a removal among the nested keyrings, where the link is one to a keyring, and else none
pub rings_removed_at : (xs : LinkList) (i : ℕ) (link : Name × ℕ) → slice_get xs i ≡ Some link → is_ring link.0 ≡ true →
    remove (serials (nested xs)) (rings_before xs i) ≡ serials (nested (remove xs i))
rings_removed_at xs i link here ring =
    remove_rings xs i link (slice_get_within xs i link here)
    (ap (λ (l : Name × ℕ). is_ring l.0) (get_or_from_slice_get xs i link link here) ∙ ring)

pub rings_stay_removed_at : (xs : LinkList) (i : ℕ) (link : Name × ℕ) → slice_get xs i ≡ Some link →
    is_ring link.0 ≡ false → serials (nested xs) ≡ serials (nested (remove xs i))
rings_stay_removed_at xs i link here other =
    ap serials (remove_no_ring xs i link (slice_get_within xs i link here)
    (ap (λ (l : Name × ℕ). is_ring l.0) (get_or_from_slice_get xs i link link here) ∙ other))

-- where no link stands, none goes
pub removed_past : (xs : LinkList) (i : ℕ) → slice_get xs i ≡ None → remove xs i ≡ xs
removed_past [] zero none = refl
removed_past [] (suc i) none = refl
removed_past (x ∷ xs) zero none = absurd (none-some x (sym none))
removed_past (x ∷ xs) (suc i) none = ap (λ zs. x ∷ zs) (removed_past xs i none)

apart_removed : (name : Name) (xs : LinkList) (i : ℕ) → AllByRecursion (λ n. same_name name n ≡ false) (names xs) →
    AllByRecursion (λ n. same_name name n ≡ false) (names (remove xs i))
apart_removed name [] zero all = tt
apart_removed name [] (suc i) all = tt
apart_removed name (x ∷ xs) zero all = all.1
apart_removed name (x ∷ xs) (suc i) all = (all.0, apart_removed name xs i all.1)

unique_removed : (xs : LinkList) (i : ℕ) → IsUnique xs → IsUnique (remove xs i)
unique_removed [] zero u = u
unique_removed [] (suc i) u = u
unique_removed (x ∷ xs) zero u = IsDistinct-tail same_name x.0 (names xs) u
unique_removed (x ∷ xs) (suc i) u = IsDistinct-cons same_name x.0 (names (remove xs i))
    (apart_removed x.0 xs i (IsDistinct-head same_name x.0 (names xs) u))
    (unique_removed xs i (IsDistinct-tail same_name x.0 (names xs) u))

no_longer : (xs : LinkList) (i : ℕ) → length (remove xs i) ≤ length xs
no_longer [] zero = omega arith
no_longer [] (suc i) = omega arith
no_longer (x ∷ xs) zero = omega arith
no_longer (x ∷ xs) (suc i) = grind (arith, common_steps, no_longer xs i)

-- a removal keeps the two lists
pub AreLists-removed : (xs : LinkList) (rings after : List ℕ) (i : ℕ) → AreLists xs rings →
    after ≡ serials (nested (remove xs i)) → AreLists (remove xs i) after
AreLists-removed xs rings after i lists e = grind (arith, common_steps, no_longer, unique_removed)

-- the link at the place of a name has its serial
pub serial_at_named : (name : Name) (xs : LinkList) (i : ℕ) → place_of name xs ≡ Some i →
    slice_get (serials xs) i ≡ serial_named xs name
serial_at_named name xs i h =
    let d : Name × ℕ = (name, 0) in
    slice_get-map (λ (link : Name × ℕ). link.1) xs i
    ∙ (ap (option_map (λ (link : Name × ℕ). link.1)) (slice_get-get_or xs i d (place_within name xs i d h))
    ∙ sym (linked_as_at name xs i d h))

rings_last : (xs : LinkList) (link : Name × ℕ) → serials (nested (xs ++ link ∷ [])) ≡ serials (nested xs) ++ cond
    (is_ring link.0) (link.1 ∷ []) []
rings_last [] link = grind (arith, common_steps)
rings_last (x ∷ xs) link = grind (arith, common_steps, rings_last xs link)

-- a link in the place of another keeps the two lists
pub AreLists-displaced : (name : Name) (serial : ℕ) (xs : LinkList) (rings after : List ℕ) (i : ℕ) →
    AreLists xs rings → place_of name xs ≡ Some i → after ≡ serials (nested (link_put xs name serial)) →
    AreLists (link_put xs name serial) after
AreLists-displaced name serial xs rings after i lists h e =
    let d : Name × ℕ = (name, serial) in
    let long : length (link_put xs name serial) ≡ length xs = ap length (sym (linked_at name serial xs i d h))
    ∙ length-set xs i d in
    record {
      bound = let bound = lists.bound in
          omega arith;
      unique = IsUnique-linked name serial xs lists.unique;
      nested = e;
    }

-- so does one under a new name
AreLists-last : (name : Name) (serial : ℕ) (xs : LinkList) (rings : List ℕ) → AreLists xs rings →
    length xs < 65535 → serial_named xs name ≡ None → AreLists (xs ++ (name, serial) ∷ []) (rings ++ cond
    (is_ring name) (serial ∷ []) [])
AreLists-last name serial xs rings lists room none =
    record {
      bound = omega (arith, length-append xs ((name, serial) ∷ []));
      unique = subst (λ (links : LinkList). IsUnique links) (linked_last name serial xs none)
          (IsUnique-linked name serial xs lists.unique);
      nested = ap (λ (zs : List ℕ). zs ++ cond (is_ring name) (serial ∷ []) []) lists.nested
          ∙ sym (rings_last xs (name, serial));
    }

pub AreLists-last_ring : (name : Name) (serial : ℕ) (xs : LinkList) (rings : List ℕ) (links : LinkList)
    (after : List ℕ) → AreLists xs rings → length xs < 65535 → serial_named xs name ≡ None → is_ring name ≡ true →
    links ≡ xs ++ (name, serial) ∷ [] → after ≡ rings ++ serial ∷ [] → AreLists links after
AreLists-last_ring name serial xs rings links after lists room none ring e f =
    let made : AreLists (xs ++ (name, serial) ∷ []) (rings ++ serial ∷ []) =
    subst (λ (b : Bool). AreLists (xs ++ (name, serial) ∷ []) (rings ++ cond b (serial ∷ []) [])) ring
    (AreLists-last name serial xs rings lists room none) in
    rw (e, f) made

pub AreLists-last_other : (name : Name) (serial : ℕ) (xs : LinkList) (rings : List ℕ) (links : LinkList) →
    AreLists xs rings → length xs < 65535 → serial_named xs name ≡ None → is_ring name ≡ false →
    links ≡ xs ++ (name, serial) ∷ [] → AreLists links rings
AreLists-last_other name serial xs rings links lists room none other e =
    let made : AreLists (xs ++ (name, serial) ∷ []) (rings ++ []) =
    subst (λ (b : Bool). AreLists (xs ++ (name, serial) ∷ []) (rings ++ cond b (serial ∷ []) [])) other
    (AreLists-last name serial xs rings lists room none) in
    rw e (subst (λ (zs : List ℕ). AreLists (xs ++ (name, serial) ∷ []) zs) (append-nil rings) made)

-- no links
pub none_are_lists : {xs : LinkList} {rings : List ℕ} → xs ≡ [] → rings ≡ [] → AreLists xs rings
none_are_lists e f = grind (arith, common_steps, IsDistinct-from_apart)
