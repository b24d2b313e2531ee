-- What a key that goes out of every keyring and every attachment owes the numbers: keyctl(2), KEYCTL_INVALIDATE.
use Rattle.std.proofs.Common.{[], ⊎_elim, ◌++◌, ◌+◌, ◌==◌, ◌∙◌, ◌∷◌, ◌≡◌, ap, arith, cond, false, filter, IsSome, List}
use Rattle.std.proofs.Common.{None, not, Option, option_map, option_to_list, refl, replicate, Some, subst, suc, sym}
use Rattle.std.proofs.{Common.{true, zero, ℕ}, lemmas.Bool.{cases_eq, Decides.nat_tests}}
use Rattle.krs_types.specs.declared.context.{Context.Context, UidRings.UidRings}
use Rattle.krs_model.specs.Asks.Invalidating.{context_without, detached, invalidated, rings_without}
use Rattle.krs_model.specs.Asks.Linked.{unlinked_content, without_link}
use Rattle.krs_model.specs.{Possession.links_of_content, State.{Content, Key, Links, Payload, State}}
use Rattle.krs_model.specs.{Sweep.{context_roots, process_roots, roots, uid_roots}, Table.{at, map_values, Table}}
use Rattle.krs_model.proofs.{Reach.Levels.same_is, Tables.Changes.at_map}
use Rattle.krs_hold.specs.Tally.{all_less, all_links, IsTallied, number_at, times}
use Rattle.krs_hold.proofs.{Gathered.gathered, Tallies.tallied_let_go_all}
use Rattle.krs_hold.proofs.Times.{times-append, times-cons, times-other, times-same}
use Rattle.std.proofs.lemmas.Grind.{common_steps}
use Rattle.krs_model.proofs.Sweep.HeldKeys.{other_is}

-- how often a serial is left where one key goes
abbrev pub left : ℕ → ℕ → ℕ → ℕ
left serial q n = cond (q == serial) 0 n

left-none : (serial q : ℕ) → 0 ≡ left serial q 0
left-none serial q = elim (q == serial) as (λ b. ◌≡◌ {A = ℕ} 0 (cond b 0 0)) [ true ↦ refl | false ↦ refl ]

left-plus : (serial q m n : ℕ) → left serial q m + left serial q n ≡ left serial q (m + n)
left-plus serial q m n = grind (arith, common_steps, cond)

-- of two lists, one after the other
times-both :
    (serial q : ℕ) (xs ys zs ws : List ℕ) → times q zs ≡ left serial q (times q xs)
    → times q ws ≡ left serial q (times q ys) → times q (zs ++ ws) ≡ left serial q (times q (xs ++ ys))
times-both serial q xs ys zs ws first second = grind (arith, common_steps, times-append, left-plus)

-- of the entries of a table, where it holds of each
times-map :
    {X : Type 0} (g : X → List ℕ) (f : X → X) (serial q : ℕ) (es : Table X)
    → ((v : X) → times q (g (f v)) ≡ left serial q (times q (g v)))
    → times q (gathered g (map_values f es)) ≡ left serial q (times q (gathered g es))
times-map g f serial q [] each = left-none serial q
times-map g f serial q (e ∷ es) each = grind (arith, common_steps, times-both, gathered, times-map g f serial q es each)

-- the key itself is gone, and another stays
gone-one : (serial q k : ℕ) → (k == serial) ≡ true → 0 ≡ left serial q (cond (k == q) 1 0)
gone-one serial q k h = grind (arith, nat_tests)

kept-one : (serial q k : ℕ) → (k == serial) ≡ false → cond (k == q) 1 0 ≡ left serial q (cond (k == q) 1 0)
kept-one serial q k h = grind (arith, nat_tests)

-- of a list without the key
pub times-others :
    (serial q : ℕ) (ks : List ℕ)
    → times q (filter (λ k. not (k == serial)) ks) ≡ left serial q (times q ks)
times-others serial q [] = left-none serial q
times-others serial q (k ∷ ks) =
    grind (arith, common_steps, filter, cond, left-plus, times-cons, gone-one, kept-one, times-others serial q ks)

detached_list :
    (serial : ℕ) (o : Option ℕ)
    → option_to_list (detached serial o) ≡ filter (λ k. not (k == serial)) (option_to_list o)
detached_list serial None = refl
detached_list serial (Some k) = grind (arith, common_steps, option_to_list, cond)

-- of an attachment that is let go of, where it is of the key
times-detached :
    (serial q : ℕ) (o : Option ℕ)
    → times q (option_to_list (detached serial o)) ≡ left serial q (times q (option_to_list o))
times-detached serial q o = ap (times q) (detached_list serial o) ∙ times-others serial q (option_to_list o)

times-two :
    (serial q : ℕ) (a b : Option ℕ)
    → times q (option_to_list (detached serial a) ++ option_to_list (detached serial b))
    ≡ left serial q (times q (option_to_list a ++ option_to_list b))
times-two serial q a b = grind (arith, common_steps, times-both, option_to_list, times-detached)

-- of all attachments
pub times-roots : (s : State) (serial q : ℕ) → times q (roots (invalidated s serial))
    ≡ left serial q (times q (roots s))
times-roots s serial q =
    let two : Option ℕ → Option ℕ → List ℕ = λ a b. option_to_list a ++ option_to_list b in
    let contexts = times-map (λ (c : Context). two c.thread c.session) (context_without serial) serial q s.contexts
    (λ c. times-two serial q c.thread c.session) in
    let processes = times-map (λ (o : Option ℕ). option_to_list o) (detached serial) serial q s.processes
    (λ o. times-detached serial q o) in
    let uids = times-map (λ (r : UidRings). two r.user r.session) (rings_without serial) serial q s.uids
    (λ r. times-two serial q r.user r.session) in
    let new = invalidated s serial in
    times-both serial q (context_roots s.contexts) (process_roots s.processes ++ uid_roots s.uids)
    (context_roots new.contexts) (process_roots new.processes ++ uid_roots new.uids) contexts
    (times-both serial q (process_roots s.processes) (uid_roots s.uids) (process_roots new.processes)
    (uid_roots new.uids) processes uids)

times-content :
    (serial q : ℕ) (content : Content)
    → times q (links_of_content (unlinked_content serial content)) ≡ left serial q (times q (links_of_content content))
times-content serial q (Payload bytes) = left-none serial q
times-content serial q (Links ks) = times-others serial q ks

-- of all links
times-links :
    (keys : Table Key) (serial q : ℕ)
    → times q (all_links (map_values (without_link serial) keys)) ≡ left serial q (times q (all_links keys))
times-links keys serial q =
    times-map (λ (key : Key). links_of_content key.content) (without_link serial) serial q keys
    (λ key. times-content serial q key.content)

-- a serial stands as often in a list of itself as the list is long, and no other does
times-itself : (n serial : ℕ) → times serial (replicate n serial) ≡ n
times-itself zero serial = refl
times-itself (suc n) serial = grind (arith, common_steps, times-same, replicate, times-itself n serial)

times-no_other : (n serial q : ℕ) → (q ≡ serial → ⊥) → times q (replicate n serial) ≡ 0
times-no_other zero serial q apart = refl
times-no_other (suc n) serial q apart =
    grind (arith, common_steps, times-other, replicate, times-no_other n serial q apart)

left-same : (serial n : ℕ) → left serial serial n ≡ 0
left-same serial n = ap (λ b. cond b 0 n) (same_is serial serial refl)

left-other : (serial q n : ℕ) → (q ≡ serial → ⊥) → left serial q n ≡ n
left-other serial q n apart = ap (λ b. cond b 0 n) (other_is q serial apart)

some_mapped : (f : Key → Key) (o : Option Key) → IsSome (option_map f o) → IsSome o
some_mapped f None h = h
some_mapped f (Some key) h = refl

-- the links and attachments of the key are what is let go of
pub tallied_whole :
    (s : State) (serial : ℕ) (numbers : Table ℕ) → IsTallied s.keys (roots s) [] numbers
    → IsTallied (invalidated s serial).keys (roots (invalidated s serial)) []
    (all_less (replicate (number_at numbers serial) serial) numbers)
tallied_whole s serial numbers h =
    let new = invalidated s serial in
    let owed = replicate (number_at numbers serial) serial in
    let told : ℕ → Type 0 = λ q.
    number_at numbers q ≡ times q (owed ++ []) + (times q (roots new) + times q (all_links new.keys)) in
    tallied_let_go_all new.keys (roots new) owed [] numbers (record {
      counted = λ k there.
          h.counted k (some_mapped (without_link serial) (at s.keys k)
          (subst IsSome (at_map (without_link serial) s.keys k) there));
      exact = λ q. ⊎_elim
          (λ (e : q ≡ serial). subst told (sym e)
          (let all = times-append serial owed [] in
          let own = times-itself (number_at numbers serial) serial in
          let attached = times-roots s serial serial ∙ left-same serial (times serial (roots s)) in
          let linked = times-links s.keys serial serial ∙ left-same serial (times serial (all_links s.keys)) in
          omega (arith, all, own, attached, linked)))
          (λ (apart : q ≡ serial → ⊥).
          let was = h.exact q in
          let all = times-append q owed [] in
          let none = times-no_other (number_at numbers serial) serial q apart in
          let attached = times-roots s serial q ∙ left-other serial q (times q (roots s)) apart in
          let linked = times-links s.keys serial q ∙ left-other serial q (times q (all_links s.keys)) apart in
          omega (arith, was, all, none, attached, linked))
          (cases_eq q serial);
    })
