-- Which keyrings that JOIN made are listed, and under what, after a change.
use Rattle.std.proofs.Common.{[], ◌&&◌, ◌+◌, ◌<◌, ◌||◌, ◌∙◌, ◌∷◌, ◌≡◌, All, ap, arith, Bool, cond, eqb-true, false}
use Rattle.std.proofs.Common.{filter, is_eq, is_le, List, nat_cmp, nat_eq, None, not, Option, option_map, refl}
use Rattle.std.proofs.Common.{slice_index_or, Some, subst, suc, sym, true, true≢false, zero, ℕ}
use Rattle.std.specs.{BTreeMap.{is_at, Range.range_contains}, Cmp.{nat_cmp_is, unsigned_tied}, List.list_any}
use Rattle.std.specs.{Ordering.ordering_then, declared.cmp.Ordering.{Ordering, TheVariants.{Equal, Greater, Less}}}
use Rattle.std.specs.declared.ops.Bound.TheVariants.{Excluded, Included, Unbounded}
use Rattle.std.proofs.lemmas.{Cmp.ranked, List.Elements.filter_passes}
use Rattle.krs_types.specs.{Kind.same_kind, declared.{kind.Kind.TheVariants.Keyring, name.Name.Name}}
use Rattle.krs_model.specs.{Queues.place_cmp, Table.{alter, at, map_values, put, Rises, Table, without}}
use Rattle.krs_links.specs.{Seeded.digest, declared.seed.Seed.Seed}
use Rattle.krs_keys.specs.Changes.{changed, revokes}
use Rattle.krs_keys.specs.Sessions.{AreSessions, is_digest, lists, ListsKey, session_digest, UnlistsKey}
use Rattle.krs_keys.specs.declared.{key.{Change.Change, Key.Key}, sessions.Sessions.Sessions}
use Rattle.krs_keys.proofs.AfterChanges.{IsHidden, told_alter, told_changed, told_map, told_put, told_without}
use Rattle.krs_keys.specs.declared.key.Change.TheVariants as change

-- ---- changes of keys
none_passes : (a b : Bool) → (a && (b && false)) ≡ false
none_passes true true = refl
none_passes true false = refl
none_passes false b = refl

-- a change that keeps the name of a key, and whether it is one that JOIN made and that isn't revoked
abbrev pub KeepsSession : (Key → Key) → Type 0
KeepsSession f =
    (v : Key) → ((f v).name ≡ v.name) × (((f v).joined && not (f v).revoked) ≡ (v.joined && not v.revoked))

pub session-changed : (change : Change) → revokes change ≡ false → KeepsSession (changed change)
session-changed (change.Payload payload) h v = (refl, refl)
session-changed (change.Mask mask) h v = (refl, refl)
session-changed (change.Owner uid gid) h v = (refl, refl)
session-changed (change.Expiry expiry) h v = (refl, refl)
session-changed change.Revoked h v = absurd (true≢false h)
session-changed change.Cleared h v = (refl, refl)
session-changed change.Closed h v = (refl, refl)

hidden : (d : ℕ) (seed : Seed) (f : Key → Key) → KeepsSession f → IsHidden (λ o. is_digest d (session_digest seed o)) f
hidden d seed f keeps None = refl
hidden d seed f keeps (Some v) =
    ap (λ (n : Name). is_digest d (cond (same_kind n.kind Keyring && ((f v).joined && not (f v).revoked))
    (Some (digest seed n.desc)) None))
    (keeps v).0
    ∙ ap (λ (b : Bool). is_digest d (cond (same_kind v.name.kind Keyring && b) (Some (digest seed v.name.desc)) None))
    (keeps v).1

pub sessions_alter :
    (s : Sessions) (keys : Table Key) (k : ℕ) (f : Key → Key) → KeepsSession f → AreSessions s keys
    → AreSessions s (alter keys k f)
sessions_alter s keys k f keeps are d q =
    are d q ∙ sym (told_alter (λ o. is_digest d (session_digest s.seed o)) keys k q f (hidden d s.seed f keeps))

pub sessions_map :
    (s : Sessions) (keys : Table Key) (f : Key → Key) → KeepsSession f → AreSessions s keys
    → AreSessions s (map_values f keys)
sessions_map s keys f keeps are d q =
    are d q ∙ sym (told_map (λ o. is_digest d (session_digest s.seed o)) keys q f (hidden d s.seed f keeps))

-- a key that is revoked is listed no more than one that is gone
not_listed : (d : ℕ) (seed : Seed) (c : Change) (o : Option Key) → revokes c ≡ true
    → is_digest d (session_digest seed (option_map (changed c) o)) ≡ false
not_listed d seed c None h = refl
not_listed d seed (change.Payload payload) (Some v) h = absurd (true≢false (sym h))
not_listed d seed (change.Mask mask) (Some v) h = absurd (true≢false (sym h))
not_listed d seed (change.Owner uid gid) (Some v) h = absurd (true≢false (sym h))
not_listed d seed (change.Expiry expiry) (Some v) h = absurd (true≢false (sym h))
not_listed d seed change.Revoked (Some v) h =
    ap (λ b. is_digest d (cond b (Some (digest seed v.name.desc)) None))
    (none_passes (same_kind v.name.kind Keyring) v.joined)
not_listed d seed change.Cleared (Some v) h = absurd (true≢false (sym h))
not_listed d seed change.Closed (Some v) h = absurd (true≢false (sym h))

pub sessions_revoked :
    (s : Sessions) (keys : Table Key) (k : ℕ) (c : Change) → revokes c ≡ true → Rises keys
    → AreSessions s (without keys k) → AreSessions s (alter keys k (changed c))
sessions_revoked s keys k c revoked rises are d q =
    are d q
    ∙ (told_without (λ o. is_digest d (session_digest s.seed o)) keys k q rises
    ∙ (ap (λ b. cond (nat_eq k q) b (is_digest d (session_digest s.seed (at keys q))))
    (sym (not_listed d s.seed c (at keys k) revoked))
    ∙ sym (told_changed (λ o. is_digest d (session_digest s.seed o)) keys k q (changed c))))

-- ---- a key more, and a key less
then_tied : (o p : Ordering) → is_eq (ordering_then o p) ≡ (is_eq o && is_eq p)
then_tied Less p = refl
then_tied Equal p = refl
then_tied Greater p = refl

-- two places are one where both numbers are
pub tied : (a b c d : ℕ) → is_at (place_cmp (a, b)) (c, d) ≡ (nat_eq a c && nat_eq b d)
tied a b c d =
    then_tied (nat_cmp a c) (nat_cmp b d)
    ∙ (ap (λ x. x && is_eq (nat_cmp b d)) (unsigned_tied a c) ∙ ap (λ y. nat_eq a c && y) (unsigned_tied b d))

more : (b c l : Bool) → (c ≡ true → l ≡ false) → cond (b && c) true l ≡ cond c b l
more true true l h = refl
more true false l h = refl
more false true l h = h refl
more false false l h = refl

less : (b c l : Bool) → (c ≡ true → l ≡ b) → cond (b && c) false l ≡ cond c false l
less true true l h = refl
less true false l h = refl
less false true l h = h refl
less false false l h = refl

-- none of them is listed, and none is to be
none_more : (c l : Bool) → (c ≡ true → l ≡ false) → l ≡ cond c false l
none_more true l h = h refl
none_more false l h = refl

-- what was so of a serial is so of an equal one
at_equal : (P : ℕ → Bool) (k q : ℕ) (b : Bool) → P k ≡ b → nat_eq k q ≡ true → P q ≡ b
at_equal P k q b h t = ap P (sym (eqb-true k q t)) ∙ h

-- the key's digest and serial are listed
pub lists_put :
    (old new : Sessions) (k g : ℕ) (v : Key) → session_digest old.seed (Some v) ≡ Some g → new.seed ≡ old.seed
    → ((d q : ℕ) → lists new d q ≡ cond (is_at (place_cmp (g, k)) (d, q)) true (lists old d q))
    → ListsKey k v old new
lists_put old new k g v is seed listed keys absent are d q =
    let none : lists old d k ≡ false = are d k ∙ ap (λ o. is_digest d (session_digest old.seed o)) absent in
    listed d q
    ∙ (ap (λ b. cond b true (lists old d q)) (tied g k d q)
    ∙ (more (nat_eq g d) (nat_eq k q) (lists old d q) (at_equal (lists old d) k q false none)
    ∙ (ap (cond (nat_eq k q) (nat_eq g d)) (are d q)
    ∙ (ap (λ o. cond (nat_eq k q) (is_digest d o) (is_digest d (session_digest old.seed (at keys q)))) (sym is)
    ∙ (sym (told_put (λ o. is_digest d (session_digest old.seed o)) keys k q v)
    ∙ ap (λ e. is_digest d (session_digest e (at (put keys k v) q))) (sym seed))))))

-- it has none, and nothing is listed
pub lists_none :
    (s : Sessions) (k : ℕ) (v : Key) → session_digest s.seed (Some v) ≡ None → ListsKey k v s s
lists_none s k v is keys absent are d q =
    let none : lists s d k ≡ false = are d k ∙ ap (λ o. is_digest d (session_digest s.seed o)) absent in
    none_more (nat_eq k q) (lists s d q) (at_equal (lists s d) k q false none)
    ∙ (ap (cond (nat_eq k q) false) (are d q)
    ∙ (ap (λ o. cond (nat_eq k q) (is_digest d o) (is_digest d (session_digest s.seed (at keys q)))) (sym is)
    ∙ sym (told_put (λ o. is_digest d (session_digest s.seed o)) keys k q v)))

-- the key's digest and serial are not listed any more
pub unlists_put :
    (old new : Sessions) (k g : ℕ) (v : Key) → session_digest old.seed (Some v) ≡ Some g → new.seed ≡ old.seed
    → ((d q : ℕ) → lists new d q ≡ cond (is_at (place_cmp (g, k)) (d, q)) false (lists old d q))
    → UnlistsKey k v old new
unlists_put old new k g v is seed unlisted keys rises there are d q =
    let one : lists old d k ≡ nat_eq g d =
    are d k ∙ (ap (λ o. is_digest d (session_digest old.seed o)) there ∙ ap (is_digest d) is) in
    unlisted d q
    ∙ (ap (λ b. cond b false (lists old d q)) (tied g k d q)
    ∙ (less (nat_eq g d) (nat_eq k q) (lists old d q) (at_equal (lists old d) k q (nat_eq g d) one)
    ∙ (ap (cond (nat_eq k q) false) (are d q)
    ∙ (sym (told_without (λ o. is_digest d (session_digest old.seed o)) keys k q rises)
    ∙ ap (λ e. is_digest d (session_digest e (at (without keys k) q))) (sym seed)))))

-- it had none, and nothing was listed
pub unlists_none :
    (s : Sessions) (k : ℕ) (v : Key) → session_digest s.seed (Some v) ≡ None → UnlistsKey k v s s
unlists_none s k v is keys rises there are d q =
    let none : lists s d k ≡ false =
    are d k ∙ (ap (λ o. is_digest d (session_digest s.seed o)) there ∙ ap (is_digest d) is) in
    none_more (nat_eq k q) (lists s d q) (at_equal (lists s d) k q false none)
    ∙ (ap (cond (nat_eq k q) false) (are d q)
    ∙ sym (told_without (λ o. is_digest d (session_digest s.seed o)) keys k q rises))

-- ---- those of one digest
first_of_both : (a b : Bool) → (a && b) ≡ true → a ≡ true
first_of_both true b h = refl
first_of_both false b h = h

second_of_both : (a b : Bool) → (a && b) ≡ true → b ≡ true
second_of_both true b h = h
second_of_both false b h = absurd (true≢false (sym h))

or_after : (a b : Bool) → b ≡ true → (a || b) ≡ true
or_after true b h = refl
or_after false b h = h

-- what one of them has, one that a weaker test leaves has
any_left :
    {X : Type 0} (p q r : X → Bool) (xs : List X) → ((x : X) → p x ≡ true → q x ≡ true)
    → ((x : X) → p x ≡ true → r x ≡ true) → list_any p xs ≡ true → list_any r (filter q xs) ≡ true
any_left p q r [] hq hr t = t
any_left p q r (x ∷ xs) hq hr h =
    elim (p x) as (λ b. p x ≡ b → (b || list_any p xs) ≡ true
    → list_any r (cond (q x) (x ∷ filter q xs) (filter q xs)) ≡ true) [
      | true ↦ λ t u. rw (hq x t) (rw (hr x t) refl)
      | false ↦ λ t u. elim (q x) as (λ b. list_any r (cond b (x ∷ filter q xs) (filter q xs)) ≡ true) [
        | true ↦ or_after (r x) (list_any r (filter q xs)) (any_left p q r xs hq hr u)
        | false ↦ any_left p q r xs hq hr u
      ]
    ] refl h

same : (k : ℕ) → nat_cmp k k ≡ Equal
same k = sym (nat_cmp_is k k Equal refl)

least : (n : ℕ) → is_le (nat_cmp 0 n) ≡ true
least zero = refl
least (suc n) = let less : nat_cmp 0 (suc n) ≡ Less = sym (nat_cmp_is 0 (suc n) Less (omega arith)) in rw less refl

pub above : (k n : ℕ) → is_le (ordering_then (nat_cmp (k + 1) k) (nat_cmp 0 n)) ≡ false
above k n = let more : nat_cmp (k + 1) k ≡ Greater = sym (nat_cmp_is (k + 1) k Greater (omega arith)) in rw more refl

pub starts : (k n : ℕ) → is_le (ordering_then (nat_cmp k k) (nat_cmp 0 n)) ≡ true
starts k n = rw (same k) (least n)

bears : (g k a b : ℕ) → is_at (place_cmp (g, k)) (a, b) ≡ true → (g ≡ a) × (nat_eq k b ≡ true)
bears g k a b t =
    let two : (nat_eq g a && nat_eq k b) ≡ true = sym (tied g k a b) ∙ t in
    (eqb-true g a (first_of_both (nat_eq g a) (nat_eq k b) two), second_of_both (nat_eq g a) (nat_eq k b) two)

-- from the first place of a digest to that of the next
pub up_to_next :
    (g k : ℕ) (rings : List (ℕ × ℕ)) → list_any (is_at (place_cmp (g, k))) rings ≡ true
    → list_any (λ e. nat_eq k e.1)
    (filter (range_contains place_cmp (Included (g, 0)) (Excluded (g + 1, 0))) rings) ≡ true
up_to_next g k rings =
    any_left (is_at (place_cmp (g, k))) (range_contains place_cmp (Included (g, 0)) (Excluded (g + 1, 0)))
    (λ e. nat_eq k e.1) rings
    (λ e t. subst (λ (x : ℕ). range_contains place_cmp (Included (g, 0)) (Excluded (g + 1, 0)) (x, e.1) ≡ true)
    (bears g k e.0 e.1 t).0 (rw (starts g e.1, above g e.1) refl))
    (λ e t. (bears g k e.0 e.1 t).1)

-- from the first place of the greatest digest on
pub up_to_end :
    (g k : ℕ) (rings : List (ℕ × ℕ)) → list_any (is_at (place_cmp (g, k))) rings ≡ true
    → list_any (λ e. nat_eq k e.1) (filter (range_contains place_cmp (Included (g, 0)) Unbounded) rings) ≡ true
up_to_end g k rings =
    any_left (is_at (place_cmp (g, k))) (range_contains place_cmp (Included (g, 0)) Unbounded)
    (λ e. nat_eq k e.1) rings
    (λ e t. subst (λ (x : ℕ). range_contains place_cmp (Included (g, 0)) Unbounded (x, e.1) ≡ true)
    (bears g k e.0 e.1 t).0 (rw (starts g e.1) refl))
    (λ e t. (bears g k e.0 e.1 t).1)

-- ---- and no others
below : (g a b : ℕ) → a < g → is_le (ordering_then (nat_cmp g a) (nat_cmp 0 b)) ≡ false
below g a b l = let more : nat_cmp g a ≡ Greater = sym (nat_cmp_is g a Greater l) in rw more refl

behind : (g a b : ℕ) → g + 1 < a → is_le (ordering_then (nat_cmp (g + 1) a) (nat_cmp 0 b)) ≡ true
behind g a b l = let less : nat_cmp (g + 1) a ≡ Less = sym (nat_cmp_is (g + 1) a Less l) in rw less refl

-- what is of a greater digest stands at the next one's first place, or behind it
next_on : (g a b : ℕ) → g < a → is_le (ordering_then (nat_cmp (g + 1) a) (nat_cmp 0 b)) ≡ true
next_on g a b l = elim (nat_cmp (g + 1) a) as (λ o. o ≡ nat_cmp (g + 1) a
    → is_le (ordering_then (nat_cmp (g + 1) a) (nat_cmp 0 b)) ≡ true) [
      | Less ↦ λ t. behind g a b (ranked (g + 1) a Less t)
      | Equal ↦ λ t. subst (λ (n : ℕ). is_le (ordering_then (nat_cmp (g + 1) n) (nat_cmp 0 b)) ≡ true)
          (ranked (g + 1) a Equal t) (starts (g + 1) b)
      | Greater ↦ λ t. let more : a < g + 1 = ranked (g + 1) a Greater t in absurd (omega (arith, l, more))
    ] refl

of_digest :
    (g : ℕ) (e : ℕ × ℕ) → range_contains place_cmp (Included (g, 0)) (Excluded (g + 1, 0)) e ≡ true → e.0 ≡ g
of_digest g e h =
    let from = is_le (ordering_then (nat_cmp g e.0) (nat_cmp 0 e.1)) in
    let past = is_le (ordering_then (nat_cmp (g + 1) e.0) (nat_cmp 0 e.1)) in
    elim (nat_cmp e.0 g) as (λ o. o ≡ nat_cmp e.0 g → e.0 ≡ g) [
      | Less ↦ λ t. absurd (true≢false (sym (first_of_both from (not past) h) ∙ below g e.0 e.1 (ranked e.0 g Less t)))
      | Equal ↦ λ t. ranked e.0 g Equal t
      | Greater ↦ λ t. absurd (true≢false (sym (second_of_both from (not past) h)
          ∙ ap (λ b. not b) (next_on g e.0 e.1 (ranked e.0 g Greater t))))
    ] refl

-- from the first place of a digest to that of the next there are none but its own
pub alone :
    (g : ℕ) (rings : List (ℕ × ℕ))
    → All (λ e. e.0 ≡ g) (filter (range_contains place_cmp (Included (g, 0)) (Excluded (g + 1, 0))) rings)
alone g rings k d b =
    let kept = range_contains place_cmp (Included (g, 0)) (Excluded (g + 1, 0)) in
    of_digest g (slice_index_or (filter kept rings) k d) (filter_passes kept rings k d b)
