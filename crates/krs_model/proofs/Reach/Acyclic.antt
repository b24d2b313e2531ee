-- Laws of reaching: what links fewer and a link more leave acyclic, and how many levels hold all that is reached.
use Rattle.std.proofs.Common.{[], ⊎_elim, ◌<◌, ◌==◌, ◌∷◌, ◌≡◌, ◌≤◌, ◌⊎◌, ap, arith, false, filter, flat_map, inl, inr}
use Rattle.std.proofs.Common.{length, List, not, refl, subst, suc, sym, true, true≢false, zero, ℕ}
use Rattle.std.proofs.lemmas.Bool.Decides.{nat_tests}
use Rattle.krs_model.specs.{Levels.{is_in, level, levels}, Reach.{Directly, Further, IsAcyclic, Reaches}}
use Rattle.krs_model.proofs.Reach.Levels.{in_flat, in_left, in_one, in_right, or_true, same_is, true_or}
use Rattle.std.proofs.lemmas.Grind.{common_steps}

-- along links and then along more
pub reaches_on : (links : ℕ → List ℕ) (a b c : ℕ) → Reaches links a b → Reaches links b c → Reaches links a c
reaches_on links a _ _ p (Directly b c h) = Further a b c p h
reaches_on links a _ _ p (Further b k c q h) = Further a k c (reaches_on links a b k p q) h

-- at a key, or reached from it
abbrev pub From : (ℕ → List ℕ) → ℕ → ℕ → Type 0
From links a b = (a ≡ b) ⊎ Reaches links a b

-- one link more
pub one_more : (links : ℕ → List ℕ) (a j b : ℕ) → From links a j → is_in b (links j) ≡ true → Reaches links a b
one_more links a j b (inl e) h = Directly a b (subst (λ (z : ℕ). is_in b (links z) ≡ true) (sym e) h)
one_more links a j b (inr p) h = Further a j b p h

-- each link stood before
abbrev pub AddsNone : (ℕ → List ℕ) → (ℕ → List ℕ) → Type 0
AddsNone old new = (j k : ℕ) → is_in k (new j) ≡ true → is_in k (old j) ≡ true

-- what is reached was reached before
pub reaches_fewer :
    (old new : ℕ → List ℕ) (a b : ℕ) → AddsNone old new → Reaches new a b → Reaches old a b
reaches_fewer old new _ _ fewer (Directly a b h) = Directly a b (fewer a b h)
reaches_fewer old new _ _ fewer (Further a j b p h) =
    Further a j b (reaches_fewer old new a j fewer p) (fewer j b h)

-- links taken out leave the keys acyclic
pub acyclic_fewer : (old new : ℕ → List ℕ) → AddsNone old new → IsAcyclic old → IsAcyclic new
acyclic_fewer old new fewer acyclic = λ a p. acyclic a (reaches_fewer old new a a fewer p)

-- each link stood before, or is the one from the ring to the key
abbrev pub AddsAtMost : (ℕ → List ℕ) → (ℕ → List ℕ) → ℕ → ℕ → Type 0
AddsAtMost old new ring key =
    (j k : ℕ) → is_in k (new j) ≡ true → (is_in k (old j) ≡ true) ⊎ ((j ≡ ring) × (k ≡ key))

-- what is reached with the new link was reached before, or goes over the new link
abbrev Over : (ℕ → List ℕ) → ℕ → ℕ → ℕ → ℕ → Type 0
Over old ring key a b = From old a ring × From old key b

over_more :
    (old new : ℕ → List ℕ) (ring key a j b : ℕ) → AddsAtMost old new ring key
    → (Reaches old a j) ⊎ (Over old ring key a j) → is_in b (new j) ≡ true → (Reaches old a b) ⊎
    (Over old ring key a b)
over_more old new ring key a j b adds was h =
    ⊎_elim (λ (o : is_in b (old j) ≡ true).
    ⊎_elim (λ (p : Reaches old a j). inl (Further a j b p o))
    (λ (w : Over old ring key a j). inr (w.0, inr (one_more old key j b w.1 o))) was)
    (λ (e : (j ≡ ring) × (b ≡ key)).
    ⊎_elim (λ (p : Reaches old a j). inr (inr (subst (λ (z : ℕ). Reaches old a z) e.0 p), inl (sym e.1)))
    (λ (w : Over old ring key a j). inr (w.0, inl (sym e.1))) was)
    (adds j b h)

reaches_before :
    (old new : ℕ → List ℕ) (ring key a b : ℕ) → AddsAtMost old new ring key → Reaches new a b
    → (Reaches old a b) ⊎ (Over old ring key a b)
reaches_before old new ring key _ _ adds (Directly a b h) =
    ⊎_elim (λ (o : is_in b (old a) ≡ true). inl (Directly a b o))
    (λ (e : (a ≡ ring) × (b ≡ key)). inr (inl e.0, inl (sym e.1)))
    (adds a b h)
reaches_before old new ring key _ _ adds (Further a j b p h) =
    over_more old new ring key a j b adds (reaches_before old new ring key a j adds p) h

-- from a key to itself over the new link: the ring was the key, or reached from it
over_closes : (old : ℕ → List ℕ) (ring key a : ℕ) → From old a ring → From old key a → From old key ring
over_closes old ring key a (inl e) k = subst (λ (z : ℕ). From old key z) e k
over_closes old ring key a (inr p) (inl e) = inr (subst (λ (z : ℕ). Reaches old z ring) (sym e) p)
over_closes old ring key a (inr p) (inr q) = inr (reaches_on old key a ring q p)

-- a link that closes no cycle leaves the keys acyclic, whatever it displaces
pub acyclic_adds :
    (old new : ℕ → List ℕ) (ring key : ℕ) → AddsAtMost old new ring key → (From old key ring → ⊥) → IsAcyclic old
    → IsAcyclic new
acyclic_adds old new ring key adds opens acyclic = λ a p.
    ⊎_elim (λ (q : Reaches old a a). acyclic a q)
    (λ (w : Over old ring key a a). opens (over_closes old ring key a w.0 w.1))
    (reaches_before old new ring key a a adds p)

-- two numbers are one, or not
pub is_or_not : (a b : ℕ) → (a ≡ b) ⊎ ((a == b) ≡ false)
is_or_not a b = grind (arith, nat_tests)

-- a list without a number; what is in it, and its length
abbrev less : ℕ → List ℕ → List ℕ
less a ks = filter (λ q. not (q == a)) ks

in_less : (a k : ℕ) (ks : List ℕ) → (k == a) ≡ false → is_in k ks ≡ true → is_in k (less a ks) ≡ true
in_less a k [] apart h = h
in_less a k (q ∷ ks) apart h = grind (arith, nat_tests, true_or, or_true, in_less a k ks apart)

less_in : (a k : ℕ) (ks : List ℕ) → is_in k (less a ks) ≡ true → (is_in k ks ≡ true) × ((k == a) ≡ false)
less_in a k [] h = absurd (true≢false (sym h))
less_in a k (q ∷ ks) h = grind (arith, nat_tests, or_true, true_or, less_in a k ks)

length_less_le : (a : ℕ) (ks : List ℕ) → length (less a ks) ≤ length ks
length_less_le a [] = omega arith
length_less_le a (q ∷ ks) = grind (arith, nat_tests, length_less_le a ks)

length_less : (a : ℕ) (ks : List ℕ) → is_in a ks ≡ true → length (less a ks) < length ks
length_less a [] h = absurd (true≢false (sym h))
length_less a (q ∷ ks) h = grind (arith, nat_tests, length_less_le, length_less a ks)

-- the links to other keys than this
abbrev past : (ℕ → List ℕ) → ℕ → ℕ → List ℕ
past links a j = less a (links j)

-- from a key that this one links, and on without it
abbrev Onward : (ℕ → List ℕ) → ℕ → ℕ → Type 0
Onward links a b = (c : ℕ) × (is_in c (past links a a) ≡ true) × From (past links a) c b

-- what is reached from a key is the key, or reached onward
onward : (links : ℕ → List ℕ) (a b : ℕ) → Reaches links a b → (a ≡ b) ⊎ Onward links a b
onward links _ _ (Directly a b h) =
    ⊎_elim (λ (e : b ≡ a). inl (sym e)) (λ apart. inr (b, in_less a b (links a) apart h, inl refl)) (is_or_not b a)
onward links _ _ (Further a k b p h) =
    ⊎_elim (λ (e : b ≡ a). inl (sym e)) (λ apart.
    ⊎_elim (λ (e : a ≡ k).
    let linked : is_in b (links a) ≡ true = subst (λ (z : ℕ). is_in b (links z) ≡ true) (sym e) h in
    inr (b, in_less a b (links a) apart linked, inl refl))
    (λ (r : Onward links a k).
    let further = one_more (past links a) r.0 k b r.2 (in_less a b (links k) apart h) in inr (r.0, r.1, inr further))
    (onward links a k p)) (is_or_not b a)

from_onward : (links : ℕ → List ℕ) (a b : ℕ) → From links a b → (a ≡ b) ⊎ Onward links a b
from_onward links a b (inl e) = inl e
from_onward links a b (inr p) = onward links a b p

-- what a key of a list links is in the flattened list
flat_in :
    (links : ℕ → List ℕ) (xs : List ℕ) (j k : ℕ) → is_in j xs ≡ true → is_in k (links j) ≡ true
    → is_in k (flat_map links xs) ≡ true
flat_in links [] j k i h = absurd (true≢false (sym i))
flat_in links (x ∷ xs) j k i h = grind (arith, nat_tests, in_left, in_right, true_or, flat_in links xs j k)

-- all that is in one list is in the other
abbrev pub AllIn : List ℕ → List ℕ → Type 0
AllIn xs ys = (k : ℕ) → is_in k xs ≡ true → is_in k ys ≡ true

-- with no link more, no level has more
level_all :
    (old new : ℕ → List ℕ) (heads : List ℕ) (n : ℕ) → AddsNone old new → AllIn (level new heads n) (level old heads n)
unfolding level
level_all old new heads zero fewer k h = h
level_all old new heads (suc n) fewer k h =
    grind (arith, nat_tests, in_flat, flat_in, level_all old new heads n fewer)

levels_all :
    (old new : ℕ → List ℕ) (heads : List ℕ) (n : ℕ) → AddsNone old new
    → AllIn (levels new heads n) (levels old heads n)
unfolding levels
levels_all old new heads zero fewer k h = h
levels_all old new heads (suc n) fewer k h =
    grind (arith, nat_tests, in_left, in_right, level_all, in_one, levels_all old new heads n fewer k)

level_shift :
    (links : ℕ → List ℕ) (heads : List ℕ) (n : ℕ) → level links (flat_map links heads) n ≡ level links heads (suc n)
unfolding level
level_shift links heads zero = refl
level_shift links heads (suc n) = ap (flat_map links) (level_shift links heads n)

-- the levels below what the heads link are levels below the heads
levels_shift :
    (links : ℕ → List ℕ) (heads : List ℕ) (n : ℕ)
    → AllIn (levels links (flat_map links heads) n) (levels links heads (suc n))
unfolding levels
levels_shift links heads zero k h = absurd (true≢false (sym h))
levels_shift links heads (suc n) k h =
    grind (arith, nat_tests, in_left, in_right, level_shift, in_one, levels_shift links heads n k)

-- the heads are the first level
pub heads_first : (links : ℕ → List ℕ) (heads : List ℕ) (n : ℕ) → AllIn heads (levels links heads (suc n))
unfolding level levels
heads_first links heads zero k h = h
heads_first links heads (suc n) k h = grind (arith, common_steps, in_left, heads_first links heads n k h)

-- what keys of a list link is in the list
abbrev pub IsClosed : (ℕ → List ℕ) → List ℕ → Type 0
IsClosed links ks = (j k : ℕ) → is_in j ks ≡ true → is_in k (links j) ≡ true → is_in k ks ≡ true

-- without a key its list is still closed
closed_past : (links : ℕ → List ℕ) (ks : List ℕ) (a : ℕ) → IsClosed links ks → IsClosed (past links a) (less a ks)
closed_past links ks a closed = grind (arith, nat_tests, less_in, in_less)

fewer_past : (links : ℕ → List ℕ) (a : ℕ) → AddsNone links (past links a)
fewer_past links a = λ j k h. (less_in a k (links j) h).0

-- of the keys that are left one is passed with each level
pub reached_in_levels :
    (n : ℕ) (links : ℕ → List ℕ) (heads ks : List ℕ) (a b : ℕ) → length ks ≤ n → is_in a ks ≡ true → IsClosed links ks
    → is_in a heads ≡ true → From links a b → is_in b (levels links heads n) ≡ true
reached_in_levels zero links heads ks a b few there closed head reached = grind (arith, common_steps, length_less)
reached_in_levels (suc n) links heads ks a b few there closed head reached =
    ⊎_elim (λ (e : a ≡ b). heads_first links heads n b (subst (λ (z : ℕ). is_in z heads ≡ true) e head))
    (λ (r : Onward links a b).
    let some : length (less a ks) < length ks = length_less a ks there in
    let on = less_in a r.0 (links a) r.1 in
    let next = flat_map links heads in
    let found = reached_in_levels n (past links a) next (less a ks) r.0 b (omega arith)
    (in_less a r.0 ks on.1 (closed a r.0 there on.0)) (closed_past links ks a closed)
    (flat_in links heads a r.0 head on.0) r.2 in
    levels_shift links heads n b (levels_all links (past links a) next n (fewer_past links a) b found))
    (from_onward links a b reached)

-- whatever is reached from a key of a closed list is in as many levels as the list has keys
pub closed_levels :
    (links : ℕ → List ℕ) (ks : List ℕ) (a b : ℕ) → is_in a ks ≡ true → IsClosed links ks → From links a b
    → is_in b (levels links (a ∷ []) (length ks)) ≡ true
closed_levels links ks a b there closed reached = grind (arith, common_steps, reached_in_levels, same_is)

level_reached : (links : ℕ → List ℕ) (a b n : ℕ) → is_in b (level links (a ∷ []) n) ≡ true → From links a b
unfolding level
level_reached links a b zero h = grind (arith, common_steps, ⊎_elim, nat_tests, true≢false, true_or)
level_reached links a b (suc n) h =
    let r = in_flat links (level links (a ∷ []) n) b h in
    inr (one_more links a r.0 b (level_reached links a r.0 n r.1) r.2)

-- what is in some levels from a key is the key, or reached from it
pub levels_reached : (links : ℕ → List ℕ) (a b n : ℕ) → is_in b (levels links (a ∷ []) n) ≡ true → From links a b
unfolding levels
levels_reached links a b zero h = absurd (true≢false (sym h))
levels_reached links a b (suc n) h = grind (arith, nat_tests, level_reached, in_one, levels_reached links a b n)
