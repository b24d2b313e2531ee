-- What each change of keys, attachments or numbers owes the others.
use Rattle.std.proofs.Common.{[], ⊎_elim, ◌++◌, ◌+◌, ◌-◌, ◌∙◌, ◌∷◌, ◌≡◌, ◌≤◌, ap, arith, cond, is_some, IsSome}
use Rattle.std.proofs.Common.{List, None, Option, option_map, refl, Some, subst, sym, true≢false, unwrap_or, ℕ}
use Rattle.std.proofs.lemmas.Bool.{cases_eq}
use Rattle.krs_model.specs.{Possession.links_of_content, State.Key, Table.{alter, at, put, Table}}
use Rattle.krs_model.proofs.Tables.Changes.{at_alter_same, at_put_same}
use Rattle.krs_hold.specs.Tally.{all_less, all_links, IsTallied, number_at, one_less, one_more, times, with_number}
use Rattle.krs_hold.proofs.Gathered.{times-alter, times-put}
use Rattle.krs_hold.proofs.{Places.{alter_other, is_some_alter, put_other}, Times.{times-other, times-same}}
use Rattle.std.proofs.lemmas.Grind.{common_steps}

number_map : (f : ℕ → ℕ) (o : Option ℕ) → IsSome o → unwrap_or (option_map f o) 0 ≡ f (unwrap_or o 0)
number_map f None h = absurd (true≢false (sym h))
number_map f (Some n) h = refl

number_less : (o : Option ℕ) → unwrap_or (option_map (λ n. n - 1) o) 0 ≡ unwrap_or o 0 - 1
number_less None = omega arith
number_less (Some n) = refl

-- a number changed at one place
changed_at :
    (keys : Table Key) (attached before after : List ℕ) (numbers : Table ℕ) (k : ℕ) (f : ℕ → ℕ)
    → number_at (alter numbers k f) k ≡ times k after + (times k attached + times k (all_links keys))
    → ((q : ℕ) → (q ≡ k → ⊥) → times q before ≡ times q after) → IsTallied keys attached before numbers
    → IsTallied keys attached after (alter numbers k f)
changed_at keys attached before after numbers k f here others h = record {
  counted = λ q s. is_some_alter numbers k q f ∙ h.counted q s;
  exact = λ q. ⊎_elim
      (λ (e : q ≡ k). subst (λ (z : ℕ).
      number_at (alter numbers k f) z ≡ times z after + (times z attached + times z (all_links keys))) (sym e) here)
      (λ (n : q ≡ k → ⊥). ap (λ (o : Option ℕ). unwrap_or o 0) (alter_other numbers k q f n)
      ∙ (h.exact q ∙ ap (λ m. m + (times q attached + times q (all_links keys))) (others q n)))
      (cases_eq q k);
}

-- one holder more is owed, by an attachment or a link that is not there yet
pub tallied_hold :
    (keys : Table Key) (attached owed : List ℕ) (numbers : Table ℕ) (k : ℕ) → IsSome (at numbers k)
    → IsTallied keys attached owed numbers → IsTallied keys attached (k ∷ owed) (one_more k numbers)
tallied_hold keys attached owed numbers k there h =
    grind (arith, common_steps, unwrap_or, at_alter_same, number_map, changed_at, times-same, times-other)

-- one holder less takes off what was owed
pub tallied_let_go :
    (keys : Table Key) (attached owed : List ℕ) (numbers : Table ℕ) (k : ℕ)
    → IsTallied keys attached (k ∷ owed) numbers → IsTallied keys attached owed (one_less k numbers)
tallied_let_go keys attached owed numbers k h =
    grind (arith, common_steps, unwrap_or, at_alter_same, number_less, changed_at, times-same, times-other)

-- and so for each of a list
pub tallied_let_go_all :
    (keys : Table Key) (attached ks owed : List ℕ) (numbers : Table ℕ) → IsTallied keys attached (ks ++ owed) numbers
    → IsTallied keys attached owed (all_less ks numbers)
tallied_let_go_all keys attached [] owed numbers h = h
tallied_let_go_all keys attached (k ∷ ks) owed numbers h =
    grind (
      arith,
      common_steps,
      tallied_let_go,
      tallied_let_go_all keys attached ks owed (one_less k numbers) (tallied_let_go keys attached (ks ++ owed)
          numbers k h),
    )

-- room changes no number
pub number_with : (numbers : Table ℕ) (k q : ℕ) → number_at (with_number k numbers) q ≡ number_at numbers q
number_with numbers k q =
    grind (arith, common_steps, cond, is_some, ⊎_elim, unwrap_or, at_put_same, put_other, cases_eq)

pub some_with : (numbers : Table ℕ) (k : ℕ) → IsSome (at (with_number k numbers) k)
some_with numbers k = grind (arith, common_steps, is_some, cond, at_put_same)

pub more_with :
    (numbers : Table ℕ) (k q : ℕ) → IsSome (at numbers q) → IsSome (at (with_number k numbers) q)
more_with numbers k q there = grind (arith, common_steps, ⊎_elim, some_with, is_some, cond, put_other, cases_eq)

-- room for a further count changes no number
pub tallied_with :
    (keys : Table Key) (attached owed : List ℕ) (numbers : Table ℕ) (k : ℕ) → IsTallied keys attached owed numbers
    → IsTallied keys attached owed (with_number k numbers)
tallied_with keys attached owed numbers k h = grind (arith, common_steps, more_with, number_with)

-- a new key, for which there is room: what it links was owed
pub tallied_put :
    (keys : Table Key) (attached due owed : List ℕ) (numbers : Table ℕ) (k : ℕ) (key : Key) → at keys k ≡ None
    → IsSome (at numbers k) → ((q : ℕ) → times q due ≡ times q owed + times q (links_of_content key.content))
    → IsTallied keys attached due numbers → IsTallied (put keys k key) attached owed numbers
tallied_put keys attached due owed numbers k key absent there same h = record {
  counted = λ q s. ⊎_elim
      (λ (e : q ≡ k). subst (λ (z : ℕ). IsSome (at numbers z)) (sym e) there)
      (λ (n : q ≡ k → ⊥). h.counted q (subst IsSome (put_other keys k q key n) s))
      (cases_eq q k);
  exact = λ q.
      let was = h.exact q in
      let both = same q in
      let split = times-put (λ (v : Key). links_of_content v.content) keys k key q absent in
      omega (arith, was, both, split);
}

-- attachments come and go for what is owed
pub tallied_attached :
    (keys : Table Key) (before after due owed : List ℕ) (numbers : Table ℕ)
    → ((q : ℕ) → times q due + times q before ≡ times q owed + times q after) → IsTallied keys before due numbers
    → IsTallied keys after owed numbers
tallied_attached keys before after due owed numbers same h = record {
  counted = h.counted;
  exact = λ q. let was = h.exact q in let both = same q in omega (arith, was, both);
}

-- what a key links becomes something else, for what is owed
pub tallied_relinked :
    (keys : Table Key) (attached due owed : List ℕ) (numbers : Table ℕ) (j : ℕ) (f : Key → Key) (v : Key)
    → at keys j ≡ Some v
    → ((q : ℕ) → times q due + times q (links_of_content v.content)
    ≡ times q owed + times q (links_of_content (f v).content))
    → IsTallied keys attached due numbers → IsTallied (alter keys j f) attached owed numbers
tallied_relinked keys attached due owed numbers j f v found same h = record {
  counted = λ q s. h.counted q (sym (is_some_alter keys j q f) ∙ s);
  exact = λ q.
      let was = h.exact q in
      let both = same q in
      let split = times-alter (λ (x : Key). links_of_content x.content) keys j f q v found in
      omega (arith, was, both, split);
}

-- one list after the other
pub all_less-append :
    (xs ys : List ℕ) (numbers : Table ℕ) → all_less (xs ++ ys) numbers ≡ all_less ys (all_less xs numbers)
all_less-append [] ys numbers = refl
all_less-append (x ∷ xs) ys numbers = all_less-append xs ys (one_less x numbers)

-- one holder more: at its own serial, and at another
pub number_more : (numbers : Table ℕ) (k : ℕ) → number_at (one_more k numbers) k ≤ number_at numbers k + 1
number_more numbers k = grind (arith, common_steps, unwrap_or, option_map, at_alter_same)

pub number_other :
    (numbers : Table ℕ) (k q : ℕ) → (q ≡ k → ⊥) → number_at (one_more k numbers) q ≡ number_at numbers q
number_other numbers k q apart = grind (arith, common_steps, unwrap_or, alter_other)
