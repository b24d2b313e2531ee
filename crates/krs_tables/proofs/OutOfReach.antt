-- A key is out of reach where all keyrings that link it are: these were all found where they are as many as its links.
use Rattle.std.proofs.Common.{[], ⊎_elim, ◌+◌, ◌-◌, ◌<◌, ◌==◌, ◌||◌, ◌∙◌, ◌∷◌, ◌≡◌, ◌≤◌, arith, cond, false, length}
use Rattle.std.proofs.Common.{List, None, Option, option_to_list, refl, Some, subst, suc, sym, true, true≢false, ℕ}
use Rattle.krs_types.specs.declared.context.Context.{Context}
use Rattle.krs_model.specs.{Levels.{is_in, levels}, Possession.{attached, followed_in}, Reach.links_of_key_at}
use Rattle.krs_model.specs.{State.{Key, State}, Sweep.links_of_key, Table.{at, Table, without}}
use Rattle.krs_hold.specs.Tally.{all_links, times}
use Rattle.krs_hold.proofs.{Exact.links-without, Places.without_other, Times.{in-times, times-cons}}
use Rattle.krs_walk.proofs.LevelsLemmas.{levels_from}
use Rattle.krs_walk.proofs.{ListsLemmas.{in_cons, in_head, in_none, in_tail}, PossessionLemmas.followed_linked}

-- these fall, all of them below a bound, and each is so
abbrev pub FallBelow : (ℕ → Type 0) → ℕ → List ℕ → Type 0
FallBelow P bound [] = Unit {0}
FallBelow P bound (r ∷ rs) = (r < bound) × P r × FallBelow P r rs

-- the keyring links the key
abbrev pub LinksKey : Table Key → ℕ → ℕ → Type 0
LinksKey keys k ring = is_in k (links_of_key_at keys ring) ≡ true

-- the key is in none of the first so many levels of the keyrings that a context follows
abbrev pub IsFar : State → Context → ℕ → ℕ → Type 0
IsFar s c n k = is_in k (levels (followed_in s c) (attached s c) n) ≡ false

-- so many keyrings that link the key were found up to this serial, and each is so
pub record AreFound (keys : Table Key) (P : ℕ → Type 0) (k last found : ℕ) : Type 0 where
  pub rings : List ℕ
  pub each : FallBelow (λ j. LinksKey keys k j × P j) (last + 1) rings
  pub count : found ≤ length rings

fall_moved : (P Q : ℕ → Type 0) (a b : ℕ) (rs : List ℕ) → a ≤ b
    → ((j : ℕ) → is_in j rs ≡ true → j < a → P j → Q j) → FallBelow P a rs → FallBelow Q b rs
fall_moved P Q a b [] up f h = h
fall_moved P Q a b (r ∷ rs) up f h = (
  omega (arith, up, h.0),
  f r (in_head r rs) h.0 h.1,
  fall_moved P Q r r rs (omega arith) (λ j there less p. f j (in_tail j r rs there) (omega (arith, less, h.0)) p) h.2,
)

each_falls : (P : ℕ → Type 0) (bound : ℕ) (rs : List ℕ) (j : ℕ) → FallBelow P bound rs → is_in j rs ≡ true → P j
each_falls P bound [] j h there = absurd (in_none j there)
each_falls P bound (r ∷ rs) j h there = ⊎_elim
    (λ (e : j ≡ r). subst P (sym e) h.1)
    (λ (later : is_in j rs ≡ true). each_falls P r rs j h.2 later)
    (in_cons j r rs there)

-- a keyring that is taken out of the table is not another
linked_without : (keys : Table Key) (k r j : ℕ) → (j ≡ r → ⊥) → LinksKey keys k j → LinksKey (without keys r) k j
linked_without keys k r j other linked =
    subst (λ o. is_in k (links_of_key o) ≡ true) (sym (without_other keys r j other)) linked

-- those that link a key are no more than its links
few_link : (k : ℕ) (rs : List ℕ) (bound : ℕ) (keys : Table Key) → FallBelow (LinksKey keys k) bound rs
    → length rs ≤ times k (all_links keys)
few_link k [] bound keys h = omega arith
few_link k (r ∷ rs) bound keys h =
    let rest = without keys r in
    let split = links-without keys r k in
    let one : 0 < times k (links_of_key (at keys r)) = in-times k (links_of_key (at keys r)) h.1 in
    let fewer : length rs ≤ times k (all_links rest) = few_link k rs r rest
    (fall_moved (LinksKey keys k) (LinksKey rest k) r r rs (omega arith)
    (λ j there less linked. linked_without keys k r j (λ e. omega (arith, e, less)) linked) h.2) in
    omega (arith, split, one, fewer)

-- where they are as many, there is no other
no_other : (keys : Table Key) (k bound : ℕ) (rs : List ℕ) (j : ℕ) → FallBelow (LinksKey keys k) bound rs
    → times k (all_links keys) ≤ length rs → LinksKey keys k j → is_in j rs ≡ false → ⊥
no_other keys k bound rs j h all linked out =
    let rest = without keys j in
    let split = links-without keys j k in
    let one : 0 < times k (links_of_key (at keys j)) = in-times k (links_of_key (at keys j)) linked in
    let fewer : length rs ≤ times k (all_links rest) = few_link k rs bound rest
    (fall_moved (LinksKey keys k) (LinksKey rest k) bound bound rs (omega arith)
    (λ q there less l. linked_without keys k j q
    (λ e. true≢false (sym there ∙ subst (λ (z : ℕ). is_in z rs ≡ false) (sym e) out)) l) h) in
    omega (arith, split, one, fewer, all)

-- so each that links it is so
all_are : (keys : Table Key) (P : ℕ → Type 0) (k last found : ℕ) → AreFound keys P k last found
    → times k (all_links keys) ≤ found → (j : ℕ) → LinksKey keys k j → P j
all_are keys P k last found h all j linked =
    let both = λ (q : ℕ). LinksKey keys k q × P q in
    let count = h.count in
    elim (is_in j h.rings) as (λ b. is_in j h.rings ≡ b → P j) [
      | true ↦ λ there. (each_falls both (last + 1) h.rings j h.each there).1
      | false ↦ λ out. absurd (no_other keys k (last + 1) h.rings j
          (fall_moved both (LinksKey keys k) (last + 1) (last + 1) h.rings (omega arith) (λ q there less p. p.0) h.each)
          (omega (arith, all, count)) linked out)
    ] refl

-- a key that isn't attached, and that only keyrings link which are out of reach
above_far : (s : State) (c : Context) (k n : ℕ) → is_in k (attached s c) ≡ false
    → ((j : ℕ) → LinksKey s.keys k j → IsFar s c n j) → IsFar s c (suc n) k
above_far s c k n alone above =
    elim (is_in k (levels (followed_in s c) (attached s c) (suc n))) as (λ b.
    is_in k (levels (followed_in s c) (attached s c) (suc n)) ≡ b → b ≡ false) [
      | true ↦ λ t. absurd (⊎_elim
          (λ (head : is_in k (attached s c) ≡ true). true≢false (sym head ∙ alone))
          (λ r. true≢false (sym r.1 ∙ above r.0 (followed_linked s.clock c.caller (at s.keys r.0) k r.2)))
          (levels_from (followed_in s c) (attached s c) n k t))
      | false ↦ λ t. refl
    ] refl

pub out_of_reach : (s : State) (c : Context) (k n last found : ℕ) → (n ≡ 0 → ⊥) → is_in k (attached s c) ≡ false
    → AreFound s.keys (IsFar s c (n - 1)) k last found → times k (all_links s.keys) ≤ found → IsFar s c n k
out_of_reach s c k n last found some alone h all =
    let more : suc (n - 1) ≡ n = omega arith in
    subst (λ (m : ℕ). IsFar s c m k) more
    (above_far s c k (n - 1) alone (all_are s.keys (IsFar s c (n - 1)) k last found h all))

-- none was found yet
pub none_found : (keys : Table Key) (P : ℕ → Type 0) (k : ℕ) → AreFound keys P k 0 0
none_found keys P k = record { rings = []; each = tt; count = omega arith }

-- one more
pub found_more : (keys : Table Key) (P : ℕ → Type 0) (k last next found more : ℕ) → last < next
    → LinksKey keys k next → P next → more ≤ found + 1 → AreFound keys P k last found → AreFound keys P k next more
found_more keys P k last next found more up linked far few h =
    let both = λ (q : ℕ). LinksKey keys k q × P q in
    let count = h.count in
    record {
      rings = next ∷ h.rings;
      each = (
        omega arith,
        (linked, far),
        fall_moved both both (last + 1) next h.rings (omega (arith, up)) (λ q there less p. p) h.each,
      );
      count = omega (arith, few, count);
    }

-- an attachment stands once in the list of itself
pub attached_once : (k : ℕ) (o : Option ℕ) → times k (option_to_list o) ≡ cond (is_in k (option_to_list o)) 1 0
attached_once k None = refl
attached_once k (Some held) =
    let one = times-cons k held [] in
    elim (held == k) as (λ b. times k (held ∷ []) ≡ cond b 1 0 + times k []
    → times k (held ∷ []) ≡ cond (b || false) 1 0) [
      | true ↦ λ e. omega (arith, e)
      | false ↦ λ e. omega (arith, e)
    ] one

-- no level has no key
pub none_far : (s : State) (c : Context) (k n : ℕ) → n ≡ 0 → IsFar s c n k
unfolding levels
none_far s c k n none = subst (λ (m : ℕ). IsFar s c m k) (sym none) refl
