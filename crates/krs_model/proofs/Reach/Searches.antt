-- Laws of a search: how searches join, and where an answer stands.
use Rattle.std.proofs.Common.{[], ⊎_elim, ◌++◌, ◌<◌, ◌||◌, ◌∙◌, ◌∷◌, ◌≡◌, ◌≤◌, ◌⊎◌, ap, arith, Bool, cond, Err, false}
use Rattle.std.proofs.Common.{find, flat_map, inl, inr, List, None, Ok, Option, refl, slice_get, Some, suc, sym, true}
use Rattle.std.proofs.{Common.{true≢false, zero, ℕ}, lemmas.Bool.{cases_lt, Decides.nat_tests}}
use Rattle.std.proofs.lemmas.{List.Folds.{find-append, list_any-append}, Option.{none-some, same_Some}}
use Rattle.std.specs.{List.list_any, Option.option_or}
use Rattle.krs_types.specs.declared.{context.Context.Context, errno.Errno.{Errno, TheVariants.{EACCES, EKEYEXPIRED}}}
use Rattle.krs_types.specs.declared.{errno.Errno.TheVariants.{EKEYREVOKED, ENOKEY}, name.Name.Name}
use Rattle.krs_types.specs.Refusing.{or_refuse}
use Rattle.krs_model.specs.{Laws.{HasNoAnswer, in_turn, IsBefore, IsFault, IsFirstAnswer, IsMet}, Levels.level}
use Rattle.krs_model.specs.{Levels.{levels, search_depth}, Possession.{attached, possessed}, Search.{entered, fault}}
use Rattle.krs_model.specs.Search.{found, found_by, is_answer, is_denied, is_expired, is_revoked, or_next, requested}
use Rattle.krs_model.specs.{Search.{searched, Searcher, searcher_of, sought, weightier}, State.State}
use Rattle.std.proofs.lemmas.Grind.{common_steps}

-- the weightier of two faults is that of the matches of both
faults_join : (r e d r2 e2 d2 : Bool) → weightier (fault r e d) (fault r2 e2 d2) ≡ fault (r || r2) (e || e2) (d || d2)
faults_join true e d true e2 d2 = refl
faults_join true e d false true d2 = refl
faults_join true e d false false true = refl
faults_join true e d false false false = refl
faults_join false true d true e2 d2 = refl
faults_join false true d false true d2 = refl
faults_join false true d false false true = refl
faults_join false true d false false false = refl
faults_join false false true true e2 d2 = refl
faults_join false false true false true d2 = refl
faults_join false false true false false true = refl
faults_join false false true false false false = refl
faults_join false false false true e2 d2 = refl
faults_join false false false false true d2 = refl
faults_join false false false false false true = refl
faults_join false false false false false false = refl

answers_join : (e f g : Errno) (a b : Option ℕ) → weightier e f ≡ g
    → or_refuse g (option_or a b) ≡ or_next (or_refuse e a) (or_refuse f b)
answers_join e f g (Some k) b h = refl
answers_join e f g None (Some k) h = refl
answers_join e f g None None h = ap Err (sym h)

-- what is sought in two lists is sought in the first, then in the second
pub sought_append : (by : Searcher) (name : Name) (xs ys : List ℕ)
    → sought by name (xs ++ ys) ≡ or_next (sought by name xs) (sought by name ys)
sought_append by name xs ys = search (find-append, list_any-append, answers_join, faults_join) depth 8

pub in_turn_flat : (by : Searcher) (name : Name) (heads : List ℕ)
    → sought by name (flat_map (searched by) heads) ≡ in_turn (λ head. found_by by head name) heads
in_turn_flat by name [] = refl
in_turn_flat by name (head ∷ heads) = search (sought_append, in_turn_flat by name heads) depth 8

pub request_in_turn : (s : State) (c : Context) (name : Name)
    → requested s c name ≡ in_turn (λ head. found s c head name) (attached s c)
unfolding requested found possessed
request_in_turn s c name = in_turn_flat (searcher_of s c) name (attached s c)

-- one element more before which nothing passes
fails_more : (p : ℕ → Bool) (x : ℕ) (xs : List ℕ) (i k : ℕ) → p x ≡ false
    → ((j : ℕ) → slice_get xs j ≡ Some k → p k ≡ false) → slice_get (x ∷ xs) i ≡ Some k → p k ≡ false
fails_more p x xs zero k t later at = ap p (sym (same_Some x k at)) ∙ t
fails_more p x xs (suc i) k t later at = later i at

-- a list in which nothing passes
none_passes : (p : ℕ → Bool) (xs : List ℕ) (i k : ℕ) → find p xs ≡ None → slice_get xs i ≡ Some k → p k ≡ false
none_passes p [] i k none at = absurd (none-some k at)
none_passes p (x ∷ xs) i k none at = grind (arith, nat_tests, none-some, fails_more, none_passes p xs)

-- the first that passes stands at a place, and what stands before it fails
record IsFirst (p : ℕ → Bool) (xs : List ℕ) (k : ℕ) : Type 0 where
  pub place : ℕ
  pub passes : p k ≡ true
  pub stands : slice_get xs place ≡ Some k
  pub before : (i j : ℕ) → i < place → slice_get xs i ≡ Some j → p j ≡ false

first_more : (p : ℕ → Bool) (x : ℕ) (xs : List ℕ) (k place i j : ℕ) → p x ≡ false
    → ((i j : ℕ) → i < place → slice_get xs i ≡ Some j → p j ≡ false) → i < suc place → slice_get (x ∷ xs) i ≡ Some j
    → p j ≡ false
first_more p x xs k place zero j t before lt at = ap p (sym (same_Some x j at)) ∙ t
first_more p x xs k place (suc i) j t before lt at = before i j (omega arith) at

first_passes : (p : ℕ → Bool) (xs : List ℕ) (k : ℕ) → find p xs ≡ Some k → IsFirst p xs k
first_passes p [] k h = absurd (none-some k h)
first_passes p (x ∷ xs) k h =
    elim (p x) as (λ b. p x ≡ b → cond b (Some x) (find p xs) ≡ Some k → IsFirst p (x ∷ xs) k) [
      | true ↦ grind (arith, common_steps, same_Some)
      | false ↦ λ t e. let r = first_passes p xs k e in
          record {
            place = suc r.place;
            passes = r.passes;
            stands = r.stands;
            before = λ i j lt at. first_more p x xs
                k r.place i j t r.before lt at;
          }
    ] refl h

-- an answer in the first n levels
record IsLeast (p : ℕ → Bool) (links : ℕ → List ℕ) (heads : List ℕ) (n k : ℕ) : Type 0 where
  pub depth : ℕ
  pub place : ℕ
  pub passes : p k ≡ true
  pub bound : depth < n
  pub stands : slice_get (level links heads depth) place ≡ Some k
  pub first : (m i j : ℕ) → IsBefore m i depth place → slice_get (level links heads m) i ≡ Some j → p j ≡ false

option_parts : (a b : Option ℕ) (k : ℕ) → option_or a b ≡ Some k → (a ≡ Some k) ⊎ ((a ≡ None) × (b ≡ Some k))
option_parts None b k h = inr (refl, h)
option_parts (Some x) b k h = inl h

option_none : (a b : Option ℕ) → option_or a b ≡ None → (a ≡ None) × (b ≡ None)
option_none None b h = (refl, h)
option_none (Some x) b h = absurd (none-some x (sym h))

last_or_less : (m n : ℕ) → m < suc n → (m ≡ n) ⊎ (m < n)
last_or_less m n lt = ⊎_elim (λ (less : m < n). inr less) (λ (le : n ≤ m). inl (omega arith)) (cases_lt m n)

-- nothing passes in the first n levels
none_above : (p : ℕ → Bool) (links : ℕ → List ℕ) (heads : List ℕ) (n m i j : ℕ) → find p (levels links heads n) ≡ None
    → m < n → slice_get (level links heads m) i ≡ Some j → p j ≡ false
unfolding levels
none_above p links heads zero m i j none lt at = absurd (omega arith)
none_above p links heads (suc n) m i j none lt at =
    grind (arith, nat_tests, option_none, find-append, none_passes, last_or_less, none_above p links heads n m i j)

least_passes : (p : ℕ → Bool) (links : ℕ → List ℕ) (heads : List ℕ) (n k : ℕ) → find p (levels links heads n) ≡ Some k
    → IsLeast p links heads n k
unfolding levels
least_passes p links heads zero k h = absurd (none-some k h)
least_passes p links heads (suc n) k h =
    ⊎_elim (λ (above : find p (levels links heads n) ≡ Some k). let r = least_passes p links heads n k above in
    record {
      depth = r.depth;
      place = r.place;
      passes = r.passes;
      bound = omega arith;
      stands = r.stands;
      first = r.first;
    })
    (λ here. let r = first_passes p (level links heads n) k here.1 in
    record {
      depth = n;
      place = r.place;
      passes = r.passes;
      bound = omega arith;
      stands = r.stands;
      first = grind (arith, common_steps, ⊎_elim, none_above, slice_get);
    })
    (option_parts (find p (levels links heads n)) (find p (level links heads n)) k
    (sym (find-append p (levels links heads n) (level links heads n)) ∙ h))

found_first : (e : Errno) (o : Option ℕ) (k : ℕ) → or_refuse e o ≡ Ok k → o ≡ Some k
found_first e None k h = cc
found_first e (Some x) k h = cc

refused_none : (e f : Errno) (o : Option ℕ) → or_refuse e o ≡ Err f → o ≡ None
refused_none e f None h = refl
refused_none e f (Some x) h = cc

pub found_is_first : (s : State) (c : Context) (head : ℕ) (name : Name) (serial : ℕ) → found s c head name ≡ Ok serial
    → IsFirstAnswer (searcher_of s c) head name serial
unfolding found searched possessed
found_is_first s c head name serial h =
    let by = searcher_of s c in
    let r = least_passes (is_answer by name) (entered by) (head ∷ []) (suc search_depth) serial
    (found_first _ (find (is_answer by name) (searched by head)) serial h) in
    grind (arith, nat_tests)

pub refused_has_none : (s : State) (c : Context) (head : ℕ) (name : Name) (error : Errno)
    → found s c head name ≡ Err error → HasNoAnswer (searcher_of s c) head name
unfolding found searched possessed
refused_has_none s c head name error h n i other le at =
    let by = searcher_of s c in
    let less : n < suc search_depth = omega arith in
    none_above (is_answer by name) (entered by) (head ∷ []) (suc search_depth) n i other
    (refused_none _ error (find (is_answer by name) (searched by head)) h) less at

-- where one passes, one is found
any_found : (p : ℕ → Bool) (xs : List ℕ) → list_any p xs ≡ true → (k : ℕ) × (find p xs ≡ Some k)
any_found p [] h = absurd (true≢false (sym h))
any_found p (x ∷ xs) h =
    elim (p x) as (λ b. (b || list_any p xs) ≡ true → (k : ℕ) × (cond b (Some x) (find p xs) ≡ Some k)) [
      | true ↦ λ e. (x, refl)
      | false ↦ λ e. any_found p xs e
    ] h

-- where none passes, none is found
none_found : (p : ℕ → Bool) (xs : List ℕ) → list_any p xs ≡ false → find p xs ≡ None
none_found p [] h = refl
none_found p (x ∷ xs) h = grind (arith, nat_tests, true≢false, none_found p xs)

-- a test is met in the levels just where one of their keys passes
any_met : (by : Searcher) (head : ℕ) (p : ℕ → Bool) → list_any p (searched by head) ≡ true → IsMet by head p
unfolding searched
any_met by head p h =
    let k = any_found p (searched by head) h in
    let r = least_passes p (entered by) (head ∷ []) (suc search_depth) k.0 k.1 in
    (r.depth, r.place, k.0, omega (arith, r.bound), r.stands, r.passes)

met_any : (by : Searcher) (head : ℕ) (p : ℕ → Bool) → IsMet by head p → list_any p (searched by head) ≡ true
unfolding searched
met_any by head p (depth, place, serial, bound, stands, passes) =
    elim (list_any p (searched by head)) as (λ b. list_any p (searched by head) ≡ b → b ≡ true) [
      | true ↦ λ e. refl
      | false ↦ λ e. absurd (true≢false (sym passes
          ∙ none_above p (entered by) (head ∷ []) (suc search_depth) depth place
          serial (none_found p (searched by head) e) (omega (arith, bound)) stands))
    ] refl

unmet : (by : Searcher) (head : ℕ) (p : ℕ → Bool) → (IsMet by head p → ⊥) → list_any p (searched by head) ≡ false
unmet by head p never = grind (arith, nat_tests, any_met)

-- which fault it is, by which of the three are there
revoked_fault : (r e d : Bool) → r ≡ true → fault r e d ≡ EKEYREVOKED
revoked_fault true e d h = refl
revoked_fault false e d h = absurd (true≢false (sym h))

expired_fault : (r e d : Bool) → r ≡ false → e ≡ true → fault r e d ≡ EKEYEXPIRED
expired_fault true e d h i = absurd (true≢false h)
expired_fault false true d h i = refl
expired_fault false false d h i = absurd (true≢false (sym i))

denied_fault : (r e d : Bool) → r ≡ false → e ≡ false → d ≡ true → fault r e d ≡ EACCES
denied_fault true e d h i j = absurd (true≢false h)
denied_fault false true d h i j = absurd (true≢false i)
denied_fault false false true h i j = refl
denied_fault false false false h i j = absurd (true≢false (sym j))

no_fault : (r e d : Bool) → r ≡ false → e ≡ false → d ≡ false → fault r e d ≡ ENOKEY
no_fault true e d h i j = absurd (true≢false h)
no_fault false true d h i j = absurd (true≢false i)
no_fault false false true h i j = absurd (true≢false j)
no_fault false false false h i j = refl

refused_with : (e f : Errno) (o : Option ℕ) → or_refuse e o ≡ Err f → e ≡ f
refused_with e f None h = cc
refused_with e f (Some x) h = cc

pub refused_faults : (s : State) (c : Context) (head : ℕ) (name : Name) (error : Errno)
    → found s c head name ≡ Err error
    → IsFault (searcher_of s c) head name error
unfolding found possessed
refused_faults s c head name error h =
    let by = searcher_of s c in
    let revoked = list_any (is_revoked by name) (searched by head) in
    let expired = list_any (is_expired by name) (searched by head) in
    let denied = list_any (is_denied by name) (searched by head) in
    let is : error ≡ fault revoked expired denied =
    sym (refused_with _ error (find (is_answer by name) (searched by head)) h) in
    record {
      revoked = λ met. is ∙ revoked_fault revoked expired denied (met_any by head (is_revoked by name) met);
      expired = λ never met. is
          ∙ expired_fault revoked expired denied (unmet by head (is_revoked by name) never)
          (met_any by head (is_expired by name) met);
      denied = λ never nor met. is
          ∙ denied_fault revoked expired denied (unmet by head (is_revoked by name) never)
          (unmet by head (is_expired by name) nor) (met_any by head (is_denied by name) met);
      none = grind (arith, nat_tests, no_fault, unmet);
    }
