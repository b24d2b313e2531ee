-- What a search and a request meet where a thread or process keyring is made.
use Rattle.std.proofs.Common.{[], ⊎_elim, ◌&&◌, ◌++◌, ◌==◌, ◌||◌, ◌∙◌, ◌∷◌, ◌≡◌, ◌≢◌, ap, arith, Bool, cond, Err}
use Rattle.std.proofs.Common.{false, flat_map, IsSome, List, None, not, Ok, Option, option_to_list, refl, Result}
use Rattle.std.proofs.Common.{Some, subst, suc, sym, true, true≢false, unwrap_or, zero, ℕ}
use Rattle.std.proofs.lemmas.{Bool.Decides.nat_tests, Grind.flat_map-append}
use Rattle.std.specs.List.{list_any}
use Rattle.krs_types.specs.declared.{context.Context.Context, errno.Errno.{Errno, TheVariants.ENOKEY}, name.Name.Name}
use Rattle.krs_types.specs.Refusing.{or_refuse}
use Rattle.krs_model.specs.{Access.is_over, Asks.Linked.linked, Laws.in_turn, Levels.{is_in, level, levels}}
use Rattle.krs_model.specs.{Levels.search_depth, Linking.is_named, Making.special_ring, Possession.attached}
use Rattle.krs_model.specs.{Possession.{links_of_content, possessed}, Search.{entered, fault, found}}
use Rattle.krs_model.specs.Search.{grants_search, is_answer, is_denied, is_expired, is_match, is_open, is_revoked}
use Rattle.krs_model.specs.Search.{open_links, or_next, requested, searched, Searcher, searcher_of, sought}
use Rattle.krs_model.specs.{Sound.{AllAttached, AllLinked}, State.{Key, State}, Sweep.{links_of_key, process_roots}}
use Rattle.krs_model.specs.Table.{at, Table}
use Rattle.krs_model.proofs.MadeKeyring.Lookups.{none_followed, possessed_other, rights_new, there_new}
use Rattle.krs_model.proofs.{MadeKeyring.{Nesting.linked_other, State.{at_other, HasMade}}, Reach.Acyclic.is_or_not}
use Rattle.krs_model.proofs.Reach.Levels.{in_flat, in_left, in_one, in_right, levels_linked, only_in, same_is}
use Rattle.krs_model.proofs.{Reach.Searches.{in_turn_flat, sought_append}, Sound.Attached.{attached_at, context_keys}}
use Rattle.krs_model.proofs.{Sound.{Attached.{in_context, in_process}, Changes.not_there}, Tables.Changes.at_put_same}
use Rattle.krs_model.proofs.Tables.Tests.{AgreeOn, any_agree, find_agree}
use Rattle.std.proofs.lemmas.Grind.{common_steps}

-- another key grants SEARCH as it did
grants_other :
    (s t : State) (c d : Context) (desc before after : List ℕ) (k : ℕ) (key : Key) → HasMade s c t d desc before after
    → at s.keys s.next_serial ≡ None → k ≢ s.next_serial
    → grants_search (searcher_of t d) k key ≡ grants_search (searcher_of s c) k key
grants_other s t c d desc before after k key made none other = grind (arith, nat_tests, possessed_other)

-- and is open as it was
open_other :
    (s t : State) (c d : Context) (desc before after : List ℕ) (k : ℕ) (key : Key) → HasMade s c t d desc before after
    → at s.keys s.next_serial ≡ None → k ≢ s.next_serial
    → is_open (searcher_of t d) k key ≡ is_open (searcher_of s c) k key
open_other s t c d desc before after k key made none other = grind (arith, nat_tests, grants_other)

pub there_is :
    (s t : State) (c d : Context) (desc before after : List ℕ) (k : ℕ) → HasMade s c t d desc before after
    → k ≢ s.next_serial → at t.keys k ≡ at s.keys k
there_is s t c d desc before after k made other = grind (arith, nat_tests, at_other)

links_other :
    (by was : Searcher) (k : ℕ) (o : Option Key) → ((key : Key) → is_open by k key ≡ is_open was k key)
    → open_links by k o ≡ open_links was k o
links_other by was k None same = refl
links_other by was k (Some key) same = ap (λ (b : Bool). cond b (links_of_content key.content) []) (same key)

-- a search enters what it did
pub same_entered :
    (s t : State) (c d : Context) (desc before after : List ℕ) → HasMade s c t d desc before after
    → at s.keys s.next_serial ≡ None → entered (searcher_of t d) ≡ entered (searcher_of s c)
same_entered s t c d desc before after made none =
    let n = s.next_serial in
    let ring = special_ring desc c.caller in
    let by = searcher_of t d in
    let was = searcher_of s c in
    let new : entered by n ≡ entered was n =
    ap (λ (es : Table Key). open_links by n (at es n)) made.keys
    ∙ (ap (open_links by n) (at_put_same s.keys n ring)
    ∙ (none_followed (is_open by n ring) [] refl ∙ ap (open_links was n) (sym none))) in
    let old : (k : ℕ) → k ≢ n → entered by k ≡ entered was k = λ k other.
    ap (open_links by k) (there_is s t c d desc before after k made other)
    ∙ links_other by was k (at s.keys k) (λ key. open_other s t c d desc before after k key made none other) in
    let each : (k : ℕ) → entered by k ≡ entered was k = λ k.
    ⊎_elim (λ (e : k ≡ n). subst (λ (z : ℕ). entered by z ≡ entered was z) (sym e) new)
    (λ (apart : (k == n) ≡ false). old k (λ e. true≢false (sym (same_is k n e) ∙ apart))) (is_or_not k n) in
    λ i k. each k i

-- none of these is the new keyring
abbrev pub AreOthers : ℕ → List ℕ → Type 0
AreOthers n serials = (k : ℕ) → is_in k serials ≡ true → k ≢ n

abbrev sought_by : Bool → Bool → Bool → Option ℕ → Result ℕ Errno
sought_by revoked expired denied answer = or_refuse (fault revoked expired denied) answer

-- what is sought among other keys is what was
pub sought_other :
    (s t : State) (c d : Context) (desc before after : List ℕ) (name : Name) (serials : List ℕ)
    → HasMade s c t d desc before after → at s.keys s.next_serial ≡ None → AreOthers s.next_serial serials
    → sought (searcher_of t d) name serials ≡ sought (searcher_of s c) name serials
sought_other s t c d desc before after name serials made none others =
    let by = searcher_of t d in
    let was = searcher_of s c in
    let there : (k : ℕ) → is_in k serials ≡ true → at t.keys k ≡ at s.keys k = λ k i.
    there_is s t c d desc before after k made (others k i) in
    let revoked : AgreeOn serials (is_revoked by name) (is_revoked was name) = λ k i.
    ap (is_match name (λ key. key.revoked)) (there k i) in
    let expired : AgreeOn serials (is_expired by name) (is_expired was name) = λ k i.
    ap (λ (clock : ℕ). is_match name (λ key. is_over clock key.expiry) (at t.keys k)) made.clock
    ∙ ap (is_match name (λ key. is_over s.clock key.expiry)) (there k i) in
    let denied : AgreeOn serials (is_denied by name) (is_denied was name) = λ k i.
    let each : (key : Key) → not (grants_search by k key) ≡ not (grants_search was k key) = λ key.
    ap not (grants_other s t c d desc before after k key made none (others k i)) in
    ap (λ (holds : Key → Bool). is_match name holds (at t.keys k)) (λ j key. each key j)
    ∙ ap (is_match name (λ key. not (grants_search was k key))) (there k i) in
    let answers : AgreeOn serials (is_answer by name) (is_answer was name) = λ k i.
    let each : (key : Key) → is_open by k key ≡ is_open was k key = λ key.
    open_other s t c d desc before after k key made none (others k i) in
    ap (λ (holds : Key → Bool). is_match name holds (at t.keys k)) (λ j key. each key j)
    ∙ ap (is_match name (is_open was k)) (there k i) in
    let any : (Name → ℕ → Bool) → Bool = λ p. list_any (p name) serials in
    rw (
      any_agree (is_revoked by name) (is_revoked was name) serials revoked,
      any_agree (is_expired by name)
          (is_expired was name) serials expired,
      any_agree (is_denied by name) (is_denied was name) serials denied,
      find_agree (is_answer by name) (is_answer was name) serials answers,
    )

entered_in : (b : Bool) (links : List ℕ) (k : ℕ) → is_in k (cond b links []) ≡ true → is_in k links ≡ true
entered_in true links k h = h
entered_in false links k h = absurd (true≢false (sym h))

entered_linked :
    (by : Searcher) (j k : ℕ) (o : Option Key) → is_in k (open_links by j o) ≡ true → is_in k (links_of_key o) ≡ true
entered_linked by j k None h = h
entered_linked by j k (Some key) h = entered_in (is_open by j key) (links_of_content key.content) k h

-- a search from another key comes to others alone
pub searched_others :
    (by : Searcher) (n head : ℕ) → AllLinked by.keys → at by.keys n ≡ None → head ≢ n → AreOthers n (searched by head)
unfolding searched
searched_others by n head linked none other k h =
    grind (arith, nat_tests, only_in, linked_other, entered_linked, levels_linked)

same_searched :
    (s t : State) (c d : Context) (desc before after : List ℕ) → HasMade s c t d desc before after
    → at s.keys s.next_serial ≡ None → searched (searcher_of t d) ≡ searched (searcher_of s c)
unfolding searched
same_searched s t c d desc before after made none = grind (arith, nat_tests, same_entered)

-- a search from another key finds what it did
pub found_other :
    (s t : State) (c d : Context) (desc before after : List ℕ) (head : ℕ) (name : Name)
    → HasMade s c t d desc before after → AllLinked s.keys → at s.keys s.next_serial ≡ None → head ≢ s.next_serial
    → found t d head name ≡ found s c head name
unfolding found possessed
found_other s t c d desc before after head name made linked none other =
    let was = searcher_of s c in
    rw (
      same_searched s t c d desc before after made none,
      sought_other s t c d desc before after name (searched
          was head) made none (searched_others was s.next_serial head linked none other),
    )

-- the attached keyrings of a context are there
abbrev pub AreThere : State → Context → Type 0
AreThere s c = (k : ℕ) → is_in k (attached s c) ≡ true → IsSome (at s.keys k)

process_root :
    (es : Table (Option ℕ)) (process k : ℕ) → is_in k (option_to_list (unwrap_or (at es process) None)) ≡ true
    → is_in k (process_roots es) ≡ true
process_root es process k h =
    elim (at es process) as (λ o. at es process ≡ o → is_in k (option_to_list (unwrap_or o None)) ≡ true
    → is_in k (process_roots es) ≡ true) [
      | None ↦ λ e i. absurd (true≢false (sym i))
      | Some ring ↦ λ e i. attached_at option_to_list es process ring k e i
    ] refl h

-- so they are in a store that stands
pub attached_there :
    (s : State) (number : ℕ) (c : Context) → at s.contexts number ≡ Some c → AllAttached s → AreThere s c
attached_there s number c is attached k h =
    let of_context : is_in k (context_keys c) ≡ true → IsSome (at s.keys k) = λ i.
    attached k (in_context s k (attached_at context_keys s.contexts number c k is i)) in
    grind (arith, common_steps, option_to_list, in_process, process_root, nat_tests, in_left, in_right, in_one)

heads_others :
    (by : Searcher) (n : ℕ) (heads : List ℕ) → AllLinked by.keys → at by.keys n ≡ None → AreOthers n heads
    → AreOthers n (flat_map (searched by) heads)
heads_others by n heads linked none others k h = grind (arith, nat_tests, in_flat, searched_others)

-- from a keyring that links nothing, a search comes to it alone
level_alone : (links : ℕ → List ℕ) (n m : ℕ) → links n ≡ [] → level links (n ∷ []) (suc m) ≡ []
unfolding level
level_alone links n zero empty = ap (λ (xs : List ℕ). xs ++ []) empty
level_alone links n (suc m) empty = ap (flat_map links) (level_alone links n m empty)

levels_alone : (links : ℕ → List ℕ) (n m : ℕ) → links n ≡ [] → levels links (n ∷ []) (suc m) ≡ n ∷ []
unfolding level levels
levels_alone links n zero empty = refl
levels_alone links n (suc m) empty = search (level_alone, levels_alone links n m empty) depth 8

searched_new : (by : Searcher) (n : ℕ) → at by.keys n ≡ None → searched by n ≡ n ∷ []
unfolding searched
searched_new by n none = levels_alone (entered by) n search_depth (ap (open_links by n) none)

one_sought :
    (named : Bool) (n : ℕ)
    → sought_by ((named && false) || false) ((named && false) || false) ((named && false) || false)
    (cond (named && true) (Some n) None) ≡ cond named (Ok n) (Err ENOKEY)
one_sought true n = refl
one_sought false n = refl

-- the new keyring alone is found by its name
sought_new :
    (s t : State) (c d : Context) (desc before after : List ℕ) (name : Name) → HasMade s c t d desc before after
    → sought (searcher_of t d) name (s.next_serial ∷ [])
    ≡ cond (is_named name (Some (special_ring desc c.caller))) (Ok s.next_serial) (Err ENOKEY)
sought_new s t c d desc before after name made = grind (arith, nat_tests, there_new, rights_new, one_sought)

-- the new keyring's place in a request is between the keyrings before it and those after it
between :
    (by : Searcher) (name : Name) (named : Bool) (n : ℕ) (before after : List ℕ)
    → or_next (sought by name before) (or_next (cond named (Ok n) (Err ENOKEY)) (sought by name after))
    ≡ cond named (or_next (sought by name before) (Ok n)) (sought by name (before ++ after))
between by name true n before after = refl
between by name false n before after = rw (← (sought_append by name [] after), ← (sought_append by name before after))

-- a request finds the new keyring where it is of that name and no keyring that is attached before it has an answer;
-- for another name it finds what it did
pub requested_with :
    (s t : State) (c d : Context) (desc before after : List ℕ) (name : Name) → HasMade s c t d desc before after
    → AllLinked s.keys → at s.keys s.next_serial ≡ None → AreThere s c
    → requested t d name
    ≡ cond (is_named name (Some (special_ring desc c.caller)))
    (or_next (in_turn (λ head. found s c head name) before) (Ok s.next_serial)) (requested s c name)
unfolding requested found possessed
requested_with s t c d desc before after name made linked none there =
    let n = s.next_serial in
    let by = searcher_of t d in
    let was = searcher_of s c in
    let named = is_named name (Some (special_ring desc c.caller)) in
    let from : List ℕ → List ℕ = flat_map (searched was) in
    let others : AreOthers n (before ++ after) = λ k i e.
    not_there (at s.keys k) (there k (ap (is_in k) made.was ∙ i)) (ap (λ (z : ℕ). at s.keys z) e ∙ none) in
    let first : AreOthers n (from before) =
    heads_others was n before linked none (λ k i. others k (in_left k before after i)) in
    let last : AreOthers n (from after) =
    heads_others was n after linked none (λ k i. others k (in_right k before after i)) in
    let parts : flat_map (searched was) (before ++ (n ∷ after)) ≡ from before ++ ((n ∷ []) ++ from after) =
    flat_map-append (searched was) before (n ∷ after)
    ∙ ap (λ (xs : List ℕ). from before ++ (xs ++ from after)) (searched_new was n none) in
    rw (
      same_searched s t c d desc before after made none,
      made.is,
      parts,
      sought_append by name (from before) ((n
          ∷ []) ++ from after),
      sought_append by name (n ∷ []) (from after),
      sought_other s t c d desc before after name
          (from before) made none first,
      sought_other s t c d desc before after name (from after) made none last,
      sought_new s t c d desc before after name made,
      between was name named n (from before) (from after),
      in_turn_flat was name before,
      ← (flat_map-append (searched was) before after),
      ← made.was,
    )
