-- What the slots show by serial, and how that changes with a slot and with a place.
use Rattle.std.proofs.Common.{[], ◌∙◌, ◌∷◌, ◌≡◌, ◌≢◌, ap, arith, Bool, cond, false, is_some, IsSome, length, List}
use Rattle.std.proofs.Common.{nat_cmp, nat_eq, None, Option, option_map, refl, Some, subst, suc, sym, true, true≢false}
use Rattle.std.proofs.Common.{ℕ}
use Rattle.std.specs.BTreeMap.{is_at}
use Rattle.std.specs.{Cmp.unsigned_tied, List.{AllByRecursion, IsDistinct, Sorted.IsStrictlySortedBy}, Map.keys_of}
use Rattle.std.proofs.lemmas.Bool.Decides.{nat_tests}
use Rattle.std.proofs.lemmas.{Map.Keys.{IsDistinct-head, IsDistinct-tail}, Option.{none-some, same_Some}}
use Rattle.krs_model.specs.Table.{alter, at, put, Rises, Table, without}
use Rattle.krs_keys.specs.{Places.{HavePlaces, held, in_slots, IsChangedAt, place_of, with_slot}, declared.key.Key.Key}
use Rattle.krs_keys.proofs.RisingTables.{at_alter, at_put, at_without, either_way, length_put, rises_alter, rises_put}
use Rattle.krs_keys.proofs.RisingTables.{rises_without, same_tables}

-- what is at the place of a serial, where it has one
abbrev pub found : {X : Type 0} → List (Option X) → Option ℕ → Option X
found slots None = None
found slots (Some place) = held slots place

-- ---- numbers
equal_numbers : (k q : ℕ) → nat_eq k q ≡ true → k ≡ q
equal_numbers k q h = grind (arith, nat_tests)

pub same_number : (k : ℕ) → nat_eq k k ≡ true
same_number k = grind (arith, nat_tests)

pub other_number : (k q : ℕ) → k ≢ q → nat_eq k q ≡ false
other_number k q h = grind (arith, nat_tests)

-- ---- what the slots show
rises_slot : {X : Type 0} (es : Table X) (k : ℕ) (o : Option X) → Rises es → Rises (with_slot es k o)
rises_slot es k None s = rises_without es k s
rises_slot es k (Some v) s = rises_put es k v s

-- serials rise
pub rises_in_slots : {X : Type 0} (slots : List (Option X)) (es : List (ℕ × ℕ)) → Rises (in_slots slots es)
unfolding IsStrictlySortedBy
rises_in_slots slots [] = tt
rises_in_slots slots (e ∷ es) = rises_slot (in_slots slots es) e.0 (held slots e.1) (rises_in_slots slots es)

at_slot :
    {X : Type 0} (es : Table X) (k q : ℕ) (o : Option X) → Rises es
    → at (with_slot es k o) q ≡ cond (is_at (nat_cmp q) k) o (at es q)
at_slot es k q None s = at_without es k q s ∙ ap (λ b. cond b None (at es q)) (either_way k q)
at_slot es k q (Some v) s = at_put es k q v

found_either :
    {X : Type 0} (slots : List (Option X)) (b : Bool) (p : ℕ) (o : Option ℕ)
    → cond b (held slots p) (found slots o) ≡ found slots (cond b (Some p) o)
found_either slots true p o = refl
found_either slots false p o = refl

-- at each serial is what its place holds
pub at_in_slots :
    {X : Type 0} (slots : List (Option X)) (es : List (ℕ × ℕ)) (q : ℕ)
    → at (in_slots slots es) q ≡ found slots (place_of es q)
at_in_slots slots [] q = refl
at_in_slots slots (e ∷ es) q =
    at_slot (in_slots slots es) e.0 q (held slots e.1) (rises_in_slots slots es)
    ∙ (ap (λ b. cond b (held slots e.1) (at (in_slots slots es) q)) (unsigned_tied q e.0)
    ∙ (ap (cond (nat_eq q e.0) (held slots e.1)) (at_in_slots slots es q)
    ∙ found_either slots (nat_eq q e.0) e.1 (place_of es q)))

-- a table whose numbers rise, and which has at each serial what its place holds, is the one that is shown
pub is_shown :
    {X : Type 0} (slots : List (Option X)) (es : List (ℕ × ℕ)) (table : Table X) → Rises table
    → ((q : ℕ) → found slots (place_of es q) ≡ at table q) → in_slots slots es ≡ table
is_shown slots es table rises h =
    same_tables (in_slots slots es) table (rises_in_slots slots es) rises (λ q. at_in_slots slots es q ∙ h q)

-- ---- a serial that has no place
-- nothing is at it
nowhere : {X : Type 0} (o : Option X) → IsSome o → o ≡ None → ⊥
nowhere o some none = absurd (true≢false (sym some ∙ ap is_some none))

found_none :
    (slots : List (Option Key)) (o : Option ℕ) → ((p : ℕ) → o ≡ Some p → IsSome (held slots p)) → found slots o ≡ None
    → o ≡ None
found_none slots None holds h = refl
found_none slots (Some p) holds h = absurd (nowhere (held slots p) (holds p refl) h)

-- a serial at which nothing is shown has no place
pub no_place :
    (slots : List (Option Key)) (es : List (ℕ × ℕ)) (k : ℕ) → HavePlaces slots es → at (in_slots slots es) k ≡ None
    → place_of es k ≡ None
no_place slots es k have none =
    found_none slots (place_of es k) (λ p h. have.holds k p h) (sym (at_in_slots slots es k) ∙ none)

-- ---- a place that holds nothing is taken by a serial that has none
module _ (slots new : List (Option Key)) (es ns : List (ℕ × ℕ)) (k p : ℕ) (v : Key)
    (have : HavePlaces slots es) (vacant : held slots p ≡ None) (absent : place_of es k ≡ None)
    (here : held new p ≡ Some v) (others : (o : ℕ) → o ≢ p → held new o ≡ held slots o)
    (placed : (q : ℕ) → place_of ns q ≡ cond (nat_eq k q) (Some p) (place_of es q)) where
  -- no serial had the place
  off : (q o : ℕ) → place_of es q ≡ Some o → o ≢ p
  off q o h same = nowhere (held slots o) (have.holds q o h) (ap (held slots) same ∙ vacant)

  kept : (q : ℕ) (o : Option ℕ) → place_of es q ≡ o → found new o ≡ found slots o
  kept q None h = refl
  kept q (Some o) h = others o (off q o h)

  pub in_slots_put : in_slots new ns ≡ put (in_slots slots es) k v
  in_slots_put =
      is_shown new ns (put (in_slots slots es) k v) (rises_put (in_slots slots es) k v (rises_in_slots slots es))
      (λ q. ap (found new) (placed q)
      ∙ (elim (nat_eq k q) as (λ b. found new (cond b (Some p) (place_of es q))
      ≡ cond b (Some v) (at (in_slots slots es) q)) [
        | true ↦ here
        | false ↦ kept q (place_of es q) refl ∙ sym (at_in_slots slots es q)
      ] ∙ (ap (λ b. cond b (Some v) (at (in_slots slots es) q)) (sym (unsigned_tied k q) ∙ either_way k q)
      ∙ sym (at_put (in_slots slots es) k q v))))

  holds_taken : (q o : ℕ) → place_of ns q ≡ Some o → IsSome (held new o)
  holds_taken q o h =
      elim (nat_eq k q) as (λ b. cond b (Some p) (place_of es q) ≡ Some o → IsSome (held new o)) [
        | true ↦ λ same. subst (λ z. IsSome (held new z)) (same_Some p o same) (ap is_some here)
        | false ↦ λ was. ap is_some (others o (off q o was)) ∙ have.holds q o was
      ] (sym (placed q) ∙ h)

  apart_taken : (i j o : ℕ) → place_of ns i ≡ Some o → place_of ns j ≡ Some o → i ≡ j
  apart_taken i j o h g =
      elim (nat_eq k i) as (λ b. nat_eq k i ≡ b → cond b (Some p) (place_of es i) ≡ Some o → i ≡ j) [
        | true ↦ λ t is.
            elim (nat_eq k j) as (λ b. nat_eq k j ≡ b → cond b (Some p) (place_of es j) ≡ Some o → i ≡ j) [
              | true ↦ λ u also. sym (equal_numbers k i t) ∙ equal_numbers k j u
              | false ↦ λ u was. absurd (off j o was (sym (same_Some p o is)))
            ] refl (sym (placed j) ∙ g)
        | false ↦ λ t was.
            elim (nat_eq k j) as (λ b. nat_eq k j ≡ b → cond b (Some p) (place_of es j) ≡ Some o → i ≡ j) [
              | true ↦ λ u is. absurd (off i o was (sym (same_Some p o is)))
              | false ↦ λ u also. have.apart i j o was also
            ] refl (sym (placed j) ∙ g)
      ] refl (sym (placed i) ∙ h)

  -- a serial that had a place has it still
  stays : (q o : ℕ) → place_of es q ≡ Some o → place_of ns q ≡ Some o
  stays q o h =
      placed q ∙ (ap (λ b. cond b (Some p) (place_of es q)) (other_number k q
      (λ same. none-some o (sym absent ∙ (ap (place_of es) same ∙ h)))) ∙ h)

  used_taken : (o : ℕ) → IsSome (held new o) → (q : ℕ) × (place_of ns q ≡ Some o)
  used_taken o some =
      elim (nat_eq o p) as (λ b. nat_eq o p ≡ b → (q : ℕ) × (place_of ns q ≡ Some o)) [
        | true ↦ λ t. (
          k,
          placed k ∙ (ap (λ b. cond b (Some p) (place_of es k)) (same_number k)
              ∙ ap (λ z. Some z) (sym (equal_numbers o p t))),
        )
        | false ↦ λ t.
            let was = have.used o (sym (ap is_some (others o
            (λ same. true≢false (sym (ap (nat_eq o) (sym same) ∙ same_number o) ∙ t)))) ∙ some) in
            (was.0, stays was.0 o was.1)
      ] refl

  pub HavePlaces-put : HavePlaces new ns
  HavePlaces-put = record { holds = holds_taken; apart = apart_taken; used = used_taken }

-- ---- a serial gives its place back
module _ (slots new : List (Option Key)) (es ns : List (ℕ × ℕ)) (k p : ℕ)
    (have : HavePlaces slots es) (at_place : place_of es k ≡ Some p)
    (empty : held new p ≡ None) (others : (o : ℕ) → o ≢ p → held new o ≡ held slots o)
    (gone : (q : ℕ) → place_of ns q ≡ cond (nat_eq k q) None (place_of es q)) where
  -- a serial with another place
  other : (q o : ℕ) → nat_eq k q ≡ false → place_of es q ≡ Some o → o ≢ p
  other q o t h same =
      let one : k ≡ q = have.apart k q p at_place (h ∙ ap (λ z. Some z) same) in
      true≢false (sym (ap (nat_eq k) (sym one) ∙ same_number k) ∙ t)

  left : (q : ℕ) (o : Option ℕ) → nat_eq k q ≡ false → place_of es q ≡ o → found new o ≡ found slots o
  left q None t h = refl
  left q (Some o) t h = others o (other q o t h)

  pub in_slots_without : in_slots new ns ≡ without (in_slots slots es) k
  in_slots_without =
      let rises = rises_in_slots slots es in
      is_shown new ns (without (in_slots slots es) k) (rises_without (in_slots slots es) k rises)
      (λ q. ap (found new) (gone q)
      ∙ (elim (nat_eq k q) as (λ b. nat_eq k q ≡ b → found new (cond b None (place_of es q))
      ≡ cond b None (at (in_slots slots es) q)) [
        | true ↦ λ t. refl
        | false ↦ λ t. left q (place_of es q) t refl ∙ sym (at_in_slots slots es q)
      ] refl ∙ (ap (λ b. cond b None (at (in_slots slots es) q)) (sym (unsigned_tied k q))
      ∙ sym (at_without (in_slots slots es) k q rises))))

  was_placed : (q o : ℕ) → place_of ns q ≡ Some o → (nat_eq k q ≡ false) × (place_of es q ≡ Some o)
  was_placed q o h =
      elim (nat_eq k q) as (λ b. cond b None (place_of es q) ≡ Some o → (b ≡ false) × (place_of es q ≡ Some o)) [
        | true ↦ λ none. absurd (none-some o none)
        | false ↦ λ was. (refl, was)
      ] (sym (gone q) ∙ h)

  used_left : (o : ℕ) → IsSome (held new o) → (q : ℕ) × (place_of ns q ≡ Some o)
  used_left o some =
      let apart : o ≢ p = λ same. nowhere (held new o) some (ap (held new) same ∙ empty) in
      let was = have.used o (sym (ap is_some (others o apart)) ∙ some) in (
        was.0,
        gone was.0 ∙ (ap (λ b. cond b None (place_of es was.0)) (other_number k was.0
            (λ same. apart (same_Some o p (sym was.1 ∙ (ap (place_of es) (sym same) ∙ at_place))))) ∙ was.1),
      )

  pub HavePlaces-without : HavePlaces new ns
  HavePlaces-without = record {
    holds = λ q o h.
        let was = was_placed q o h in
        ap is_some (others o (other q o was.0 was.1)) ∙ have.holds q o was.1;
    apart = λ i j o h g. have.apart i j o (was_placed i o h).1 (was_placed j o g).1;
    used = used_left;
  }

-- ---- what a place holds is changed
mapped_is_some : {X Y : Type 0} (f : X → Y) (o : Option X) → is_some (option_map f o) ≡ is_some o
mapped_is_some f None = refl
mapped_is_some f (Some x) = refl

module _ (slots new : List (Option Key)) (es : List (ℕ × ℕ)) (p : ℕ) (f : Key → Key)
    (have : HavePlaces slots es) (changed : IsChangedAt p f slots new) where
  still : (o : ℕ) → is_some (held new o) ≡ is_some (held slots o)
  still o =
      ap is_some (changed o)
      ∙ elim (nat_eq p o) as (λ b. is_some (cond b (option_map f (held slots o)) (held slots o))
      ≡ is_some (held slots o)) [
        | true ↦ mapped_is_some f (held slots o)
        | false ↦ refl
      ]

  pub HavePlaces-alter : HavePlaces new es
  HavePlaces-alter = record {
    holds = λ q o h. still o ∙ have.holds q o h;
    apart = have.apart;
    used = λ o some. have.used o (sym (still o) ∙ some);
  }

  -- at the serial of that place
  pub in_slots_alter : (k : ℕ) → place_of es k ≡ Some p → in_slots new es ≡ alter (in_slots slots es) k f
  in_slots_alter k is =
      is_shown new es (alter (in_slots slots es) k f) (rises_alter (in_slots slots es) k f (rises_in_slots slots es))
      (λ q. elim (nat_eq k q) as (λ b. nat_eq k q ≡ b → found new (place_of es q)
      ≡ cond b (option_map f (at (in_slots slots es) k)) (at (in_slots slots es) q)) [
        | true ↦ λ t. ap (λ z. found new (place_of es z)) (sym (equal_numbers k q t))
            ∙ (ap (found new) is ∙ (changed p ∙ (ap (λ b. cond b (option_map f (held slots p)) (held slots p))
            (same_number p) ∙ ap (option_map f) (sym (at_in_slots slots es k ∙ ap (found slots) is)))))
        | false ↦ λ t. away q (place_of es q) t refl ∙ sym (at_in_slots slots es q)
      ] refl ∙ (ap (λ b. cond b (option_map f (at (in_slots slots es) k)) (at (in_slots slots es) q))
      (sym (unsigned_tied k q) ∙ either_way k q) ∙ sym (at_alter (in_slots slots es) k q f)))
    where
      away : (q : ℕ) (o : Option ℕ) → nat_eq k q ≡ false → place_of es q ≡ o → found new o ≡ found slots o
      away q None t h = refl
      away q (Some o) t h =
          changed o ∙ ap (λ b. cond b (option_map f (held slots o)) (held slots o)) (other_number p o
          (λ same. true≢false (sym (ap (nat_eq k)
          (sym (have.apart k q p is (h ∙ ap (λ z. Some z) (sym same)))) ∙ same_number k) ∙ t)))

mapped_same : {X : Type 0} (o : Option X) → option_map (λ x. x) o ≡ o
mapped_same None = refl
mapped_same (Some x) = refl

-- a place that is left as it was
pub in_slots_same :
    (slots new : List (Option Key)) (es : List (ℕ × ℕ)) (p : ℕ) → IsChangedAt p (λ key. key) slots new
    → in_slots new es ≡ in_slots slots es
in_slots_same slots new es p same =
    is_shown new es (in_slots slots es) (rises_in_slots slots es)
    (λ q. all (place_of es q) ∙ sym (at_in_slots slots es q))
  where
    all : (o : Option ℕ) → found new o ≡ found slots o
    all None = refl
    all (Some o) =
        same o ∙ elim (nat_eq p o) as (λ b. cond b (option_map (λ key. key) (held slots o)) (held slots o)
        ≡ held slots o) [
          | true ↦ mapped_same (held slots o)
          | false ↦ refl
        ]

-- ---- how many there are
-- a number that is none of those of a list has no place
no_other :
    (k : ℕ) (es : List (ℕ × ℕ)) → AllByRecursion (λ y. nat_eq k y ≡ false) (keys_of es) → place_of es k ≡ None
no_other k [] h = refl
no_other k (e ∷ es) h = rw h.0 (no_other k es h.1)

head_place : (e : ℕ × ℕ) (es : List (ℕ × ℕ)) → place_of (e ∷ es) e.0 ≡ Some e.1
head_place e es = rw (same_number e.0) refl

length_slot :
    (t : Table Key) (k : ℕ) (o : Option Key) → IsSome o → at t k ≡ None → length (with_slot t k o) ≡ suc (length t)
length_slot t k None some none = absurd (true≢false (sym some))
length_slot t k (Some v) some none = length_put t k v none

-- what is at the keyring, whose place was looked up
pub placed : (slots : List (Option Key)) (places : List (ℕ × ℕ)) (ring : ℕ) (looked_up : Option ℕ)
    → looked_up ≡ place_of places ring → at (in_slots slots places) ring ≡ found slots looked_up
placed slots places ring looked_up is = at_in_slots slots places ring ∙ ap (found slots) (sym is)

-- a place of the others is a place of all
later_place :
    (e : ℕ × ℕ) (es : List (ℕ × ℕ)) (q p : ℕ) → place_of es e.0 ≡ None → place_of es q ≡ Some p
    → place_of (e ∷ es) q ≡ Some p
later_place e es q p none h =
    ap (λ b. cond b (Some e.1) (place_of es q)) (other_number q e.0
    (λ same. none-some p (sym none ∙ (ap (place_of es) (sym same) ∙ h)))) ∙ h

-- as many keys are shown as serials have places
pub length_in_slots :
    (slots : List (Option Key)) (es : List (ℕ × ℕ)) → IsDistinct nat_eq (keys_of es)
    → ((q p : ℕ) → place_of es q ≡ Some p → IsSome (held slots p)) → length (in_slots slots es) ≡ length es
length_in_slots slots [] distinct holds = refl
length_in_slots slots (e ∷ es) distinct holds =
    let none = no_other e.0 es (IsDistinct-head nat_eq e.0 (keys_of es) distinct) in
    length_slot (in_slots slots es) e.0 (held slots e.1) (holds e.0 e.1 (head_place e es))
    (at_in_slots slots es e.0 ∙ ap (found slots) none)
    ∙ ap suc (length_in_slots slots es (IsDistinct-tail nat_eq e.0 (keys_of es) distinct)
    (λ q p h. holds q p (later_place e es q p none h)))
