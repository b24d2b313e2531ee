-- Which keyrings nest and which links close a cycle where a thread or process keyring is made.
use Rattle.std.proofs.Common.{[], ⊎_elim, ◌∙◌, ◌∷◌, ◌≡◌, ◌≢◌, ap, arith, Bool, Err, false, filter, length, List}
use Rattle.std.proofs.{Common.{nat_cmp, None, Option, refl, subst, suc, sym, true, ℕ}, lemmas.Bool.Decides.nat_tests}
use Rattle.std.specs.{declared.cmp.Ordering.TheVariants.{Equal, Greater, Less}, Ordering.match_ordering}
use Rattle.krs_types.specs.declared.errno.Errno.TheVariants.{EDEADLK, ELOOP}
use Rattle.krs_model.specs.{Asks.Linked.{linked, nestable, unless}, Levels.{is_in, levels}}
use Rattle.krs_model.specs.{Possession.links_of_content, Reach.{closes, has_chain, is_ring}}
use Rattle.krs_model.specs.{Reach.{links_of_key_at, nested_in, nesting_depth}, Sound.AllLinked, State.Key}
use Rattle.krs_model.specs.{Sweep.links_of_key, Table.{at, put, Table}}
use Rattle.krs_model.proofs.{MadeKeyring.State.{at_other, either_at}, Reach.Acyclic.heads_first}
use Rattle.krs_model.proofs.{Reach.Levels.{levels_linked, only_in, same_is}, Sound.Changes.not_there}
use Rattle.krs_model.proofs.Tables.Tests.{AgreeOn, filter_agree}
use Rattle.std.proofs.lemmas.Grind.{common_steps}

-- what is linked is not the new keyring
pub linked_other :
    (es : Table Key) (n j k : ℕ) → AllLinked es → at es n ≡ None → is_in k (links_of_key_at es j) ≡ true → k ≢ n
linked_other es n j k linked none i e =
    not_there (at es k) (linked j k i) (ap (λ (z : ℕ). at es z) e ∙ none)

-- an empty keyring adds no link
pub same_links :
    (es : Table Key) (n : ℕ) (v : Key) → at es n ≡ None → links_of_content v.content ≡ []
    → links_of_key_at (put es n v) ≡ links_of_key_at es
same_links es n v none empty =
    let each : (k : ℕ) → links_of_key_at (put es n v) k ≡ links_of_key_at es k = λ k.
    either_at (λ (o was : Option Key). links_of_key o ≡ links_of_key was) es n k v none (λ e. empty) (λ o. refl) in
    λ i k. each k i

-- and no nested keyring
pub same_nested :
    (es : Table Key) (n : ℕ) (v : Key) → AllLinked es → at es n ≡ None → links_of_content v.content ≡ []
    → nested_in (put es n v) ≡ nested_in es
same_nested es n v linked none empty =
    let ring : ℕ → Bool = λ k. is_ring (at (put es n v) k) in
    let was : ℕ → Bool = λ k. is_ring (at es k) in
    let agree : (j : ℕ) → AgreeOn (links_of_key_at es j) ring was = λ j k i.
    ap is_ring (at_other es n k v (linked_other es n j k linked none i)) in
    let each : (j : ℕ) → nested_in (put es n v) j ≡ nested_in es j = λ j.
    ap (λ (links : ℕ → List ℕ). filter ring (links j)) (same_links es n v none empty)
    ∙ filter_agree ring was (links_of_key_at es j) (agree j) in
    λ i j. each j i

-- a chain of nested keyrings hangs down where one did
pub same_chain :
    (es : Table Key) (n k count : ℕ) (v : Key) → AllLinked es → at es n ≡ None → links_of_content v.content ≡ []
    → has_chain (put es n v) k count ≡ has_chain es k count
unfolding has_chain
same_chain es n k count v linked none empty = grind (arith, common_steps, same_nested)

-- a link from the new keyring to another key closes no cycle
pub closes_other :
    (es : Table Key) (n k : ℕ) (v : Key) → AllLinked es → at es n ≡ None → links_of_content v.content ≡ [] → k ≢ n
    → closes (put es n v) k n ≡ false
unfolding closes
closes_other es n k v linked none empty other =
    let keys = put es n v in
    let all = levels (links_of_key_at keys) (k ∷ []) (length keys) in
    let never : is_in n all ≡ true → ⊥ = λ h.
    ⊎_elim (λ (i : is_in n (k ∷ []) ≡ true). other (sym (only_in n k i)))
    (λ (r : (j : ℕ) × (is_in j all ≡ true) × (is_in n (links_of_key_at keys j) ≡ true)).
    let was : is_in n (links_of_key_at es r.0) ≡ true =
    subst (λ (links : ℕ → List ℕ). is_in n (links r.0) ≡ true) (same_links es n v none empty) r.2 in
    linked_other es n r.0 n linked none was refl)
    (levels_linked (links_of_key_at keys) (k ∷ []) (length keys) n h) in
    grind (arith, nat_tests)

put_more : (es : Table Key) (n : ℕ) (v : Key) → (m : ℕ) × (length (put es n v) ≡ suc m)
put_more [] n v = (0, refl)
put_more (e ∷ es) n v =
    elim (nat_cmp n e.0) as (λ r. (m : ℕ)
    × (length (match_ordering r ((n, v) ∷ e ∷ es) ((e.0, v) ∷ es) (e ∷ put es n v)) ≡ suc m)) [
      | Less ↦ (length (e ∷ es), refl)
      | Equal ↦ (length es, refl)
      | Greater ↦ (length (put es n v), refl)
    ]

-- a link from the new keyring to itself does
pub closes_self : (es : Table Key) (n : ℕ) (v : Key) → closes (put es n v) n n ≡ true
unfolding closes
closes_self es n v = grind (arith, common_steps, heads_first, same_is, put_more es n v)

-- another key is nested in the new keyring where no chain is too long
pub nestable_other :
    (es : Table Key) (n k : ℕ) (v : Key) → AllLinked es → at es n ≡ None → links_of_content v.content ≡ [] → k ≢ n
    → nestable (put es n v) n k ≡ unless (has_chain es k nesting_depth) ELOOP
unfolding nestable
nestable_other es n k v linked none empty other = search (closes_other, same_chain) depth 8

-- the new keyring is not nested in itself
pub nestable_self : (es : Table Key) (n : ℕ) (v : Key) → nestable (put es n v) n n ≡ Err EDEADLK
unfolding nestable
nestable_self es n v = search closes_self depth 8
