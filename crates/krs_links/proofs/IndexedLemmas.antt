-- What a look-up by a digest, and each change, say of the links.
use Rattle.std.proofs.Common.{[], ◌++◌, ◌+◌, ◌-◌, ◌<◌, ◌∙◌, ◌∷◌, ◌≡◌, ◌≢◌, ◌≤◌, ap, append-nil, arith, cond, drop}
use Rattle.std.proofs.Common.{false, find, get_or, IfNone, IfSome, length, List, nat_eq, None, Option, option_map, refl}
use Rattle.std.proofs.Common.{remove, set, slice_get, Some, subst, suc, swap_remove, sym, true, unwrap_or, zero}
use Rattle.std.proofs.Common.{ℕ}
use Rattle.indexmap.specs.IndexMap.{set_value_at}
use Rattle.std.specs.Cmp.{nat_eq_equiv}
use Rattle.std.specs.{List.{AllByRecursion, IsDistinct, position_from}, Map.{keys_of, lookup, values_of}}
use Rattle.std.proofs.lemmas.Iterator.Adapters.{position_from-zero}
use Rattle.std.proofs.lemmas.List.{take-set, Quantifiers.position-Some}
use Rattle.std.proofs.lemmas.Map.{Entries.lookup_from_place, Keys.{IsDistinct-head, IsDistinct-tail}}
use Rattle.std.proofs.lemmas.Option.{none-some, same_Some, slice_get-map, slice_get_within}
use Rattle.krs_types.specs.{Name.same_name, declared.name.Name.Name}
use Rattle.krs_types.proofs.Names.{equal_names, other_way}
use Rattle.krs_links.specs.Indexed.{AllStand, behind, link_of, linked_in, LinksNot, Stands, StandsNot, with_serial_at}
use Rattle.krs_links.specs.Links.{IsUnique, link_put, LinkList, names, place_of, serial_named, serials}
use Rattle.krs_links.specs.{Seeded.name_digest, declared.{index.Link.Link, seed.Seed.Seed}}
use Rattle.std.proofs.lemmas.Grind.{common_steps}

-- ---- a place
-- the name of the link at a place
pub name_in : (entries : List (ℕ × Link)) (i : ℕ) → slice_get (names (linked_in entries)) i ≡ option_map
    (λ (entry : ℕ × Link). entry.1.name) (slice_get entries i)
name_in [] i = refl
name_in (e ∷ es) zero = refl
name_in (e ∷ es) (suc i) = name_in es i

-- its serial
pub serial_in : (entries : List (ℕ × Link)) (i : ℕ) → slice_get (serials (linked_in entries)) i ≡ option_map
    (λ (entry : ℕ × Link). entry.1.serial) (slice_get entries i)
serial_in [] i = refl
serial_in (e ∷ es) zero = refl
serial_in (e ∷ es) (suc i) = serial_in es i

-- a name apart from all is apart from that at a place
apart_at : (name : Name) (xs : LinkList) (i : ℕ) (link : Name × ℕ) → AllByRecursion (λ n. same_name name n ≡ false)
    (names xs) → slice_get xs i ≡ Some link → same_name name link.0 ≡ false
apart_at name [] i link all here = absurd (none-some link here)
apart_at name (x ∷ xs) zero link all here = grind (arith, common_steps, unwrap_or)
apart_at name (x ∷ xs) (suc i) link all here = apart_at name xs i link all.1 here

-- a link of the name is the first of it
first_of : (name : Name) (n : ℕ) (xs : LinkList) (i : ℕ) (link : Name × ℕ) → IsUnique xs → slice_get xs i ≡ Some link →
    same_name name link.0 ≡ true → position_from (λ l. same_name name l.0) n xs ≡ Some (n + i)
first_of name n [] i link u here same = absurd (none-some link here)
first_of name n (x ∷ xs) zero link u here same =
    let is : x ≡ link = ap (λ o. unwrap_or o link) here in
    let head : same_name name x.0 ≡ true = subst (λ (l : Name × ℕ). same_name name l.0 ≡ true) (sym is) same in
    let none : n + 0 ≡ n = omega arith in
    rw (head, none) refl
first_of name n (x ∷ xs) (suc i) link u here same =
    let apart : same_name x.0 link.0 ≡ false = apart_at x.0 xs i link
    (IsDistinct-head same_name x.0 (names xs) u) here in
    let other : same_name x.0 name ≡ false = subst (λ (m : Name). same_name x.0 m ≡ false)
    (sym (equal_names name link.0 same)) apart in
    let head : same_name name x.0 ≡ false = other_way x.0 name other in
    let more : n + 1 + i ≡ n + suc i = omega arith in
    rw head (first_of name (n + 1) xs i link (IsDistinct-tail same_name x.0 (names xs) u) here same
    ∙ ap (λ k. Some k) more)

pub place_is : (name : Name) (entries : List (ℕ × Link)) (i number : ℕ) (link : Link) → IsUnique (linked_in entries) →
    slice_get entries i ≡ Some (number, link) → same_name name link.name ≡ true →
    place_of name (linked_in entries) ≡ Some i
place_is name entries i number link u here same =
    let there : slice_get (linked_in entries) i ≡ Some (link.name, link.serial) =
    slice_get-map link_of entries i ∙ ap (option_map link_of) here in
    position_from-zero (λ (l : Name × ℕ). same_name name l.0) (linked_in entries)
    ∙ (first_of name 0 (linked_in entries) i (link.name, link.serial) u there same ∙ ap (λ k. Some k) (zero_more i))
  where
    zero_more : (k : ℕ) → 0 + k ≡ k
    zero_more k = omega arith

-- ---- no place
-- where no link has the name, it has no place
nowhere_from : (name : Name) (n : ℕ) (entries : List (ℕ × Link))
    → ((i : ℕ) (e : ℕ × Link) → slice_get entries i ≡ Some e →
    same_name name e.1.name ≡ false) → position_from (λ l. same_name name l.0) n (linked_in entries) ≡ None
nowhere_from name n [] other = refl
nowhere_from name n (e ∷ es) other =
    let head : same_name name e.1.name ≡ false = other 0 e refl in
    rw head (nowhere_from name (n + 1) es (λ i f h. other (suc i) f h))

stands_at : (seed : Seed) (span : ℕ) (entries : List (ℕ × Link)) (i : ℕ) (e : ℕ × Link) → AllStand seed span entries →
    slice_get entries i ≡ Some e → Stands seed span e
stands_at seed span [] i e all here = absurd (none-some e here)
stands_at seed span (x ∷ xs) zero e all here = grind (arith, common_steps, unwrap_or)
stands_at seed span (x ∷ xs) (suc i) e all here = stands_at seed span xs i e all.1 here

-- a link that stands behind the name's digest is found there
other_at : (seed : Seed) (span digest : ℕ) (name : Name) (entries : List (ℕ × Link)) (i : ℕ) (e : ℕ × Link) →
    IsDistinct nat_eq (keys_of entries) → AllStand seed span entries → digest ≡ name_digest seed name →
    ((s : ℕ) → s < span → StandsNot name entries (behind digest s)) → slice_get entries i ≡ Some e →
    same_name name e.1.name ≡ false
other_at seed span digest name entries i e apart all is none here =
    elim (same_name name e.1.name) as (λ b. same_name name e.1.name ≡ b → b ≡ false) [
      | true ↦ λ same.
          let stands = stands_at seed span entries i e all here in
          let known : name_digest seed e.1.name ≡ digest =
          ap (name_digest seed) (sym (equal_names name e.1.name same)) ∙ sym is in
          let number : e.0 ≡ behind digest stands.0 = stands.2 ∙ ap (λ d. behind d stands.0) known in
          let found : lookup (nat_eq e.0) entries ≡ Some e.1 =
          lookup_from_place nat_eq_equiv entries i e.0 e.1 apart here in
          let found_there : lookup (nat_eq (behind digest stands.0)) entries ≡ Some e.1 =
          subst (λ (k : ℕ). lookup (nat_eq k) entries ≡ Some e.1) number found in
          sym same ∙ none stands.0 stands.1 e.1 found_there
      | false ↦ λ other. refl
    ] refl

pub no_place : (seed : Seed) (span digest : ℕ) (name : Name) (entries : List (ℕ × Link)) →
    IsDistinct nat_eq (keys_of entries) → AllStand seed span entries → digest ≡ name_digest seed name →
    ((s : ℕ) → s < span → StandsNot name entries (behind digest s)) → place_of name (linked_in entries) ≡ None
no_place seed span digest name entries apart all is none =
    position_from-zero (λ (l : Name × ℕ). same_name name l.0) (linked_in entries)
    ∙ nowhere_from name 0 entries (λ i e here. other_at seed span digest name entries i e apart all is none here)

-- ---- a link more
wider : (seed : Seed) (span more : ℕ) (entries : List (ℕ × Link)) → span ≤ more → AllStand seed span entries →
    AllStand seed more entries
wider seed span more [] le all = tt
wider seed span more (e ∷ es) le all = grind (arith, common_steps, wider seed span more es le all.1)

last_stands : (seed : Seed) (span : ℕ) (entries : List (ℕ × Link)) (e : ℕ × Link) → AllStand seed span entries →
    Stands seed span e → AllStand seed span (entries ++ e ∷ [])
last_stands seed span [] e all stands = (stands, tt)
last_stands seed span (x ∷ xs) e all stands = (all.0, last_stands seed span xs e all.1 stands)

pub AllStand-last : (seed : Seed) (span more digest steps : ℕ) (entries : List (ℕ × Link)) (link : Link) → span ≤ more →
    steps < more → digest ≡ name_digest seed link.name → AllStand seed span entries →
    AllStand seed more (entries ++ (behind digest steps, link) ∷ [])
AllStand-last seed span more digest steps entries link le below is all = grind (arith, common_steps, last_stands, wider)

-- ---- another serial
pub set_is : (entries : List (ℕ × Link)) (i serial : ℕ) (link : Link) → slice_get (values_of entries) i ≡ Some link →
    set_value_at entries i (record link { serial = serial }) ≡ with_serial_at entries i serial
set_is [] i serial link here = refl
set_is (e ∷ es) zero serial link here = grind (arith, common_steps, unwrap_or)
set_is (e ∷ es) (suc i) serial link here = ap (λ zs. e ∷ zs) (set_is es i serial link here)

pub unset_is : (entries : List (ℕ × Link)) (i serial : ℕ) → slice_get (values_of entries) i ≡ None →
    with_serial_at entries i serial ≡ entries
unset_is [] i serial none = refl
unset_is (e ∷ es) zero serial none = absurd (none-some e.1 (sym none))
unset_is (e ∷ es) (suc i) serial none = ap (λ zs. e ∷ zs) (unset_is es i serial none)

pub AllStand-set : (seed : Seed) (span : ℕ) (entries : List (ℕ × Link)) (i serial : ℕ) → AllStand seed span entries →
    AllStand seed span (with_serial_at entries i serial)
AllStand-set seed span [] i serial all = tt
AllStand-set seed span (e ∷ es) zero serial all = all
AllStand-set seed span (e ∷ es) (suc i) serial all = (all.0, AllStand-set seed span es i serial all.1)

put_at : (name : Name) (serial : ℕ) (entries : List (ℕ × Link)) (i : ℕ) (d : Name × ℕ)
    → i < length (linked_in entries) →
    same_name name (get_or (linked_in entries) i d).0 ≡ true →
    ((k : ℕ) → k < i → same_name name (get_or (linked_in entries) k d).0 ≡ false) →
    linked_in (with_serial_at entries i serial) ≡ link_put (linked_in entries) name serial
put_at name serial [] i d lt here before = absurd (omega arith)
put_at name serial (e ∷ es) zero d lt here before =
    rw here (ap (λ (n : Name). (n, serial) ∷ linked_in es) (sym (equal_names name e.1.name here)))
put_at name serial (e ∷ es) (suc i) d lt here before =
    let first : same_name name e.1.name ≡ false = before 0 (omega arith) in
    rw first (ap (λ zs. link_of e ∷ zs) (put_at name serial es i d (omega arith) here
    (λ k h. before (suc k) (omega arith))))

-- in the place of a name, it links
pub linked_in-set : (name : Name) (serial : ℕ) (entries : List (ℕ × Link)) (i : ℕ) →
    place_of name (linked_in entries) ≡ Some i →
    linked_in (with_serial_at entries i serial) ≡ link_put (linked_in entries) name serial
linked_in-set name serial entries i h =
    let d : Name × ℕ = (name, serial) in
    let at_place = position-Some (λ (link : Name × ℕ). same_name name link.0) (linked_in entries) i d h in
    put_at name serial entries i d at_place.0 at_place.1 at_place.2

-- ---- a serial
-- a name under which a serial is linked has a link with it
named_somewhere : (name : Name) (serial : ℕ) (entries : List (ℕ × Link))
    → serial_named (linked_in entries) name ≡ Some serial →
    (i : ℕ) × (e : ℕ × Link) × (slice_get entries i ≡ Some e) × (same_name name e.1.name ≡ true) × (e.1.serial ≡ serial)
named_somewhere name serial [] h = absurd (none-some serial h)
named_somewhere name serial (e ∷ es) h =
    elim (same_name name e.1.name) as (λ b. same_name name e.1.name ≡ b → option_map (λ (link : Name × ℕ). link.1)
    (cond b (Some (link_of e)) (find (λ (link : Name × ℕ). same_name name link.0) (linked_in es))) ≡ Some serial →
    (i : ℕ) × (d : ℕ × Link) × (slice_get (e ∷ es) i ≡ Some d) × (same_name name d.1.name ≡ true)
    × (d.1.serial ≡ serial)) [
      | true ↦ λ t here. (0, e, refl, t, same_Some e.1.serial serial here)
      | false ↦ λ t later. let r = named_somewhere name serial es later in (suc r.0, r.1, r.2, r.3, r.4)
    ] refl h

-- where none behind the name's digest has the serial, it is not linked under the name
pub not_linked : (seed : Seed) (span digest serial : ℕ) (name : Name) (entries : List (ℕ × Link)) →
    IsDistinct nat_eq (keys_of entries) → AllStand seed span entries → digest ≡ name_digest seed name →
    ((s : ℕ) → s < span → LinksNot serial entries (behind digest s))
    → serial_named (linked_in entries) name ≢ Some serial
not_linked seed span digest serial name entries apart all is none = λ linked.
    let there = named_somewhere name serial entries linked in
    let e : ℕ × Link = there.1 in
    let stands = stands_at seed span entries there.0 e all there.2 in
    let known : name_digest seed e.1.name ≡ digest = ap (name_digest seed)
    (sym (equal_names name e.1.name there.3)) ∙ sym is in
    let number : e.0 ≡ behind digest stands.0 = stands.2 ∙ ap (λ d. behind d stands.0) known in
    let found : lookup (nat_eq e.0) entries ≡ Some e.1 = lookup_from_place nat_eq_equiv entries there.0
    e.0 e.1 apart there.2 in
    none stands.0 stands.1 e.1 (subst (λ (k : ℕ). lookup (nat_eq k) entries ≡ Some e.1) number found) there.4

-- ---- a link less
pub linked_in-removed : (entries : List (ℕ × Link)) (i : ℕ) → linked_in (remove entries i)
    ≡ remove (linked_in entries) i
linked_in-removed [] zero = refl
linked_in-removed [] (suc i) = refl
linked_in-removed (e ∷ es) zero = refl
linked_in-removed (e ∷ es) (suc i) = ap (λ zs. link_of e ∷ zs) (linked_in-removed es i)

pub AllStand-removed : (seed : Seed) (span : ℕ) (entries : List (ℕ × Link)) (i : ℕ) → AllStand seed span entries →
    AllStand seed span (remove entries i)
AllStand-removed seed span [] zero all = tt
AllStand-removed seed span [] (suc i) all = tt
AllStand-removed seed span (e ∷ es) zero all = all.1
AllStand-removed seed span (e ∷ es) (suc i) all = (all.0, AllStand-removed seed span es i all.1)

-- ---- the last of a list
none_behind : {X : Type 0} (xs : List X) (i : ℕ) → length xs ≤ i → drop i xs ≡ []
none_behind [] zero h = refl
none_behind [] (suc i) h = refl
none_behind (x ∷ xs) zero h = absurd (omega (arith, h))
none_behind (x ∷ xs) (suc i) h = none_behind xs i (omega (arith, h))

-- nothing moves into the place of the last
last_removed : {X : Type 0} (xs : List X) (i : ℕ) (d : X) → suc i ≡ length xs → swap_remove xs i d ≡ remove xs i
last_removed xs i d last = grind (arith, common_steps, set, get_or, take-set, append-nil, none_behind)

nothing_removed : {X : Type 0} (xs : List X) (i : ℕ) → slice_get xs i ≡ None → remove xs i ≡ xs
nothing_removed [] zero none = refl
nothing_removed [] (suc i) none = refl
nothing_removed (x ∷ xs) zero none = absurd (none-some x (sym none))
nothing_removed (x ∷ xs) (suc i) none = ap (λ zs. x ∷ zs) (nothing_removed xs i none)

-- what the last leaves is what any that is taken out leaves
pub last_taken : {X : Type 0} (old new : List X) (i : ℕ) (o : Option X) → i ≡ length old - 1 → o ≡ slice_get old i
    → IfSome o (λ x. new ≡ swap_remove old i x) → IfNone o (new ≡ old) → new ≡ remove old i
last_taken old new i None last is some none = none ∙ sym (nothing_removed old i (sym is))
last_taken old new i (Some x) last is some none = grind (arith, common_steps, slice_get_within, last_removed)
