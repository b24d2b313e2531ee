-- SEARCH and REQUEST where a thread or process keyring is made for the destination, from what the store has looked up
-- to what they come to.
use Rattle.std.proofs.Common.{[], ◌∙◌, ◌∷◌, ◌≡◌, ◌≢◌, ap, Bool, cond, Err, false, find, FitsSigned, flat_map, IsSome}
use Rattle.std.proofs.Common.{List, None, of_z, Ok, Option, option_to_list, refl, Result, Some, subst, sym, to_z, true}
use Rattle.std.proofs.{Common.{w32, ℕ, ℤ}, lemmas.{Int.to_z-of_z, Option.{none-some, same_Some}}}
use Rattle.krs_types.specs.{Growth.has_destination, Refusing.{◌>>=◌, or_refuse}, Rights.{SEARCH}}
use Rattle.krs_types.specs.declared.ask.Answer.TheVariants.{Number}
use Rattle.krs_types.specs.declared.{context.Context.Context, errno.Errno.{Errno, TheVariants.{ELOOP, ENOKEY}}}
use Rattle.krs_types.specs.declared.{name.Name.Name, rights.Want.TheVariants.Granted}
use Rattle.krs_model.specs.Asks.{Changing.changed, Finding.{found_into, if_linkable, requested_into, sought_into}}
use Rattle.krs_model.specs.{Asks.Linked.{linked_into, name_of, unless}, Laws.in_turn, Linking.{linking, ring_links}}
use Rattle.krs_model.specs.{Lookup.{context_of, look_up}, Making.{special_ring, within_serials}, Outcome.Outcome}
use Rattle.krs_model.specs.{Possession.{possessed}, Reach.{has_chain, nesting_depth}}
use Rattle.krs_model.specs.Search.{found, is_match, is_open, or_next, requested, searcher_of}
use Rattle.krs_model.specs.{Sound.IsSound, State.{Key, State}, Table.at}
use Rattle.krs_model.proofs.Lookups.Laws.{look_up_usable}
use Rattle.krs_model.proofs.MadeKeyring.Links.{found_into_new, found_into_self, linked_into_new, requested_into_new}
use Rattle.krs_model.proofs.MadeKeyring.{Links.sought_into_new, Searches.requested_with}
use Rattle.krs_model.proofs.{Reach.Searches.found_is_first, Sound.Changes.not_there}
use Rattle.krs_tables.specs.Specials.{Makes, special_name, with_ring}
use Rattle.krs_tables.specs.declared.making.Special.{Special, TheVariants.{Process, Thread}}
use Rattle.krs_tables.proofs.MadeFor.{before, behind, context_with, is_new, IsNew}
use Rattle.krs_ring_asks.specs.Beside.{beside, found_before, found_in, found_made, is_of_name, or_itself}
use Rattle.krs_ring_asks.specs.Found.{found_below, if_granted, request_named, search_named}
use Rattle.krs_ring_asks.proofs.SearchAndRequest.{wanted_of}
use Rattle.std.proofs.Common.{arith}
use Rattle.std.proofs.lemmas.Grind.{common_steps}

-- an answer is a key that is there
match_there : (name : Name) (holds : Key → Bool) (o : Option Key) → is_match name holds o ≡ true → IsSome o
match_there name holds None h = h
match_there name holds (Some key) h = refl

found_there :
    (s : State) (c : Context) (head : ℕ) (name : Name) (k : ℕ) → found s c head name ≡ Ok k → IsSome (at s.keys k)
found_there s c head name k h =
    match_there name (is_open (searcher_of s c) k) (at s.keys k) (found_is_first s c head name k h).answer

first_found : (e : Errno) (o : Option ℕ) (k : ℕ) → or_refuse e o ≡ Ok k → o ≡ Some k
first_found e None k h = cc
first_found e (Some x) k h = cc

-- what is found passes the test
find_passes : (p : ℕ → Bool) (xs : List ℕ) (k : ℕ) → find p xs ≡ Some k → p k ≡ true
find_passes p [] k h = absurd (none-some k h)
find_passes p (x ∷ xs) k h =
    elim (p x) as (λ b. p x ≡ b → cond b (Some x) (find p xs) ≡ Some k → p k ≡ true) [
      | true ↦ λ t m. subst (λ (z : ℕ). p z ≡ true) (same_Some x k m) t
      | false ↦ λ t m. find_passes p xs k m
    ] refl h

requested_there :
    (s : State) (c : Context) (name : Name) (k : ℕ) → requested s c name ≡ Ok k → IsSome (at s.keys k)
unfolding requested possessed
requested_there s c name k h = grind (arith, common_steps, flat_map, first_found, match_there, find_passes)

before_there :
    (special : Special) (s : State) (c : Context) (name : Name) (k : ℕ) → found_before special s c name ≡ Ok k
    → IsSome (at s.keys k)
before_there Thread s c name k h = cc
before_there Process s c name k h = grind (arith, common_steps, found_there)

-- and so it is not the keyring that is made
other : (s : State) (k : ℕ) → at s.keys s.next_serial ≡ None → IsSome (at s.keys k) → k ≢ s.next_serial
other s k none there e = not_there (at s.keys k) there (ap (λ (z : ℕ). at s.keys z) e ∙ none)

or_later : (answer : Result ℕ Errno) (n : ℕ) → or_next (or_next answer (Err ENOKEY)) (Ok n) ≡ or_next answer (Ok n)
or_later (Ok k) n = refl
or_later (Err e) n = refl

behind_thread :
    (s : State) (c : Context) (name : Name) (thread : Option ℕ) (n : ℕ)
    → or_next (in_turn (λ head. found s c head name) (option_to_list thread)) (Ok n)
    ≡ or_next (found_in s c name thread) (Ok n)
behind_thread s c name None n = refl
behind_thread s c name (Some ring) n = or_later (found s c ring name) n

-- what is found before the keyring that is made, else that keyring
first_is :
    (special : Special) (s : State) (c : Context) (name : Name) (n : ℕ)
    → or_next (in_turn (λ head. found s c head name) (before special c)) (Ok n)
    ≡ or_next (found_before special s c name) (Ok n)
first_is Thread s c name n = refl
first_is Process s c name n = behind_thread s c name c.thread n

-- what a request finds where the keyring is made
asked :
    (special : Special) (s : State) (number : ℕ) (c : Context) (dest : ℤ) (name : Name)
    → IsNew special s number c dest
    → requested (with_ring special s number c) (context_with special s c) name
    ≡ cond (is_of_name special c name) (or_next (found_before special s c name) (Ok s.next_serial))
    (requested s c name)
asked special s number c dest name new =
    requested_with s (with_ring special s number c) c (context_with special s c) (special_name special).desc
    (before special c) (behind special s c) name new.made new.fit.linked new.fit.none new.fit.heads
    ∙ ap (λ (r : Result ℕ Errno). cond (is_of_name special c name) r (requested s c name))
    (first_is special s c name s.next_serial)

-- the link of a key in the keyring that is made
abbrev new_link : State → State → ℕ → Key → Outcome
new_link s t serial key =
    unless (has_chain s.keys serial nesting_depth) ELOOP >>= (λ nests.
    within_serials s (Ok (changed t s.next_serial (linking t.keys (name_of key) serial), Number serial)))

by_chain :
    (s t : State) (serial : ℕ) (key : Key) (chain : Bool)
    → within_serials s (◌>>=◌ {B = State × _} (unless chain ELOOP >>= (λ nests.
    Ok (changed t s.next_serial (linking t.keys (name_of key) serial)))) (λ new. Ok (new, Number serial)))
    ≡ (unless chain ELOOP >>= (λ nests.
    within_serials s (Ok (changed t s.next_serial (linking t.keys (name_of key) serial), Number serial))))
by_chain s t serial key true = refl
by_chain s t serial key false = refl

by_key :
    (s t : State) (c : Context) (ring : ℕ × Key) (serial : ℕ) (o : Option Key)
    → ((key : Key) → linked_into t ring (serial, key)
    ≡ (unless (has_chain s.keys serial nesting_depth) ELOOP >>= (λ nests.
    Ok (changed t s.next_serial (linking t.keys (name_of key) serial)))))
    → within_serials s (or_refuse ENOKEY o >>= (λ key. if_linkable s c serial key >>= (λ l.
    linked_into t ring l >>= (λ new. Ok (new, Number serial)))))
    ≡ ((or_refuse ENOKEY o >>= (λ key. if_granted s c serial key)) >>= (λ key.
    or_refuse ENOKEY o >>= (λ linked. new_link s t serial linked)))
by_key s t c ring serial None into = refl
by_key s t c ring serial (Some key) into = grind (arith, common_steps, by_chain)

-- what was found, linked in the keyring that is made
abbrev into_new : Special → State → ℕ → Context → Result ℕ Errno → Outcome
into_new special s number c answer =
    found_into (with_ring special s number c) (context_with special s c)
    (s.next_serial, special_ring (special_name special).desc c.caller) answer

module _ (special : Special) (s : State) (client number : ℕ) (c : Context) (dest : ℤ)
    (own : context_of s client number ≡ Ok c) (new : IsNew special s number c dest) where
  -- a key that was found is linked there
  found_new : (k : ℕ) → IsSome (at s.keys k)
      → within_serials s (into_new special s number c (Ok k)) ≡ found_made special s client number k
  found_new k there =
      let t = with_ring special s number c in
      let d = context_with special s c in
      let desc = (special_name special).desc in
      let ring : ℕ × Key = (s.next_serial, special_ring desc c.caller) in
      let first = before special c in
      let last = behind special s c in
      let apart : k ≢ s.next_serial = other s k new.fit.none there in
      ap (within_serials s) (found_into_new s t c d desc first last k new.made new.fit.none apart)
      ∙ (by_key s t c ring k (at s.keys k)
      (λ key. linked_into_new s t c d desc first last (k, key) new.made new.fit.linked new.fit.none apart)
      ∙ sym (rw own refl))

  by_answer : (answer : Result ℕ Errno) → ((k : ℕ) → answer ≡ Ok k → IsSome (at s.keys k))
      → within_serials s (into_new special s number c answer)
      ≡ (answer >>= (λ k. found_made special s client number k))
  by_answer (Ok k) there = found_new k (there k refl)
  by_answer (Err e) there = refl

  -- the keyring that was found itself is not
  by_itself : (answer : Result ℕ Errno) → ((k : ℕ) → answer ≡ Ok k → IsSome (at s.keys k))
      → within_serials s (into_new special s number c (or_next answer (Ok s.next_serial)))
      ≡ (or_itself answer >>= (λ k. found_made special s client number k))
  by_itself (Ok k) there = found_new k (there k refl)
  by_itself (Err e) there =
      ap (within_serials s) (found_into_self s (with_ring special s number c) c (context_with special s c)
      (special_name special).desc (before special c) (behind special s c) new.made)

  by_name : (name : Name) (named : Bool)
      → within_serials s (into_new special s number c
      (cond named (or_next (found_before special s c name) (Ok s.next_serial)) (requested s c name)))
      ≡ (cond named (or_itself (found_before special s c name)) (requested s c name)
      >>= (λ k. found_made special s client number k))
  by_name name true = by_itself (found_before special s c name) (before_there special s c name)
  by_name name false = by_answer (requested s c name) (requested_there s c name)

  by_links : (name : Name) (head : ℕ) (links : Result (List ℕ) Errno)
      → within_serials s (links >>= (λ heads. into_new special s number c (found s c head name)))
      ≡ ((links >>= (λ heads. found s c head name)) >>= (λ k. found_made special s client number k))
  by_links name head (Ok links) = by_answer (found s c head name) (found_there s c head name)
  by_links name head (Err e) = refl

-- what is refused first is the answer
refused_first :
    {A : Type 0} (e : Errno) (first : Result A Errno) (next : A → Outcome) → first ≡ Err e → (first >>= next) ≡ Err e
refused_first e first next h = rw h refl

-- what SEARCH has looked up, with a destination that is made
pub record SeeksNew (special : Special) (s : State) (client number : ℕ) (head : ℤ)
    (sought : Result Name Errno) (dest : ℤ)
    (c : Context) (name : Name) (from : ℕ × Key) : Type 0 where
  pub own : context_of s client number ≡ Ok c
  pub named : sought ≡ Ok name
  pub from_found : look_up s c head (Granted SEARCH) ≡ Ok from
  pub wanted : has_destination dest ≡ true
  pub new : IsNew special s number c dest

module _ (special : Special) (s : State) (client number : ℕ) (head : ℤ) (sought : Result Name Errno) (dest : ℤ)
    (c : Context) (name : Name) (from : ℕ × Key) where
  pub seeks_new : IsSound s → FitsSigned w32 head → FitsSigned w32 dest → context_of s client number ≡ Ok c
      → sought ≡ Ok name → look_up s c (to_z w32 (of_z w32 head)) (Granted SEARCH) ≡ Ok from
      → (of_z w32 dest ≡ 0 → ⊥) → Makes (Some special) s number c (to_z w32 (of_z w32 dest))
      → SeeksNew special s client number head sought dest c name from
  seeks_new sound head_fits dest_fits own named from_found wanted makes =
      let makes_it = subst (Makes (Some special) s number c) (to_z-of_z w32 dest dest_fits) makes in
      record {
        own = own;
        named = named;
        from_found = ap (λ id. look_up s c id (Granted SEARCH)) (sym (to_z-of_z w32 head head_fits)) ∙ from_found;
        wanted = wanted_of dest wanted;
        new = is_new special s client number c dest makes_it sound own;
      }

  search_is_new : SeeksNew special s client number head sought dest c name from
      → search_named s client number head sought dest
      ≡ within_serials s (sought_into (with_ring special s number c) (context_with special s c) from name dest)
  unfolding search_named
  search_is_new l = rw (l.own, l.named, l.from_found, l.wanted, l.new.is) refl

  -- a search whose destination is made comes to the link of what it finds
  search_new : SeeksNew special s client number head sought dest c name from
      → search_named s client number head sought dest
      ≡ (found_below s c from name >>= (λ k. found_made special s client number k))
  search_new l =
      let there : at s.keys from.0 ≡ Some from.1 = (look_up_usable s c head (Granted SEARCH) from l.from_found).there in
      let apart : from.0 ≢ s.next_serial = other s from.0 l.new.fit.none (rw there refl) in
      let into = sought_into_new s (with_ring special s number c) c (context_with special s c)
      (special_name special).desc (before special c) (behind special s c) from name dest l.new.made l.new.fit.linked
      l.new.fit.none l.new.named apart in
      search_is_new l ∙ (ap (within_serials s) into
      ∙ by_links special s client number c dest l.own l.new name from.0 (ring_links from.1.content))

  -- a search that finds nothing
  pub search_new_refused : (e : Errno) → SeeksNew special s client number head sought dest c name from
      → found_below s c from name ≡ Err e → (search_named s client number head sought dest ≡ Err e) × (s ≡ s)
  search_new_refused e l h = (
    search_new l ∙ refused_first e (found_below s c from name) (λ k. found_made special s client number k) h,
    refl,
  )

  -- a search that finds a key
  pub search_new_links : (serial : ℕ) → SeeksNew special s client number head sought dest c name from
      → found_below s c from name ≡ Ok serial
      → search_named s client number head sought dest ≡ found_made special s client number serial
  search_new_links serial l found_it = search_new l ∙ rw found_it refl

-- what REQUEST has looked up, with a destination that is made
pub record RequestsNew (special : Special) (s : State) (client number : ℕ) (sought : Result Name Errno) (dest : ℤ)
    (c : Context) (name : Name) : Type 0 where
  pub own : context_of s client number ≡ Ok c
  pub named : sought ≡ Ok name
  pub wanted : has_destination dest ≡ true
  pub new : IsNew special s number c dest

module _ (special : Special) (s : State) (client number : ℕ) (sought : Result Name Errno) (dest : ℤ) (c : Context)
    (name : Name) where
  pub requests_new : IsSound s → FitsSigned w32 dest → context_of s client number ≡ Ok c → sought ≡ Ok name
      → (of_z w32 dest ≡ 0 → ⊥) → Makes (Some special) s number c (to_z w32 (of_z w32 dest))
      → RequestsNew special s client number sought dest c name
  requests_new sound dest_fits own named wanted makes =
      let makes_it = subst (Makes (Some special) s number c) (to_z-of_z w32 dest dest_fits) makes in
      record {
        own = own;
        named = named;
        wanted = wanted_of dest wanted;
        new = is_new special s client number c dest makes_it sound own;
      }

  request_is_new : RequestsNew special s client number sought dest c name
      → request_named s client number sought dest
      ≡ within_serials s (requested_into (with_ring special s number c) (context_with special s c) name dest)
  unfolding request_named
  request_is_new l = rw (l.own, l.named, l.wanted, l.new.is) refl

  -- a request whose destination is made comes to the link of what it finds beside it
  request_new : RequestsNew special s client number sought dest c name
      → request_named s client number sought dest
      ≡ (beside special s c name >>= (λ k. found_made special s client number k))
  request_new l =
      let into = requested_into_new s (with_ring special s number c) c (context_with special s c)
      (special_name special).desc (before special c) (behind special s c) name dest l.new.made l.new.named in
      request_is_new l
      ∙ (ap (within_serials s) (into ∙ ap (into_new special s number c) (asked special s number c dest name l.new))
      ∙ by_name special s client number c dest l.own l.new name (is_of_name special c name))

  -- a request that finds nothing beside it
  pub request_new_refused : (e : Errno) → RequestsNew special s client number sought dest c name
      → beside special s c name ≡ Err e → (request_named s client number sought dest ≡ Err e) × (s ≡ s)
  request_new_refused e l h =
      (request_new l ∙ refused_first e (beside special s c name) (λ k. found_made special s client number k) h, refl)

  -- a request that finds a key
  pub request_new_links : (serial : ℕ) → RequestsNew special s client number sought dest c name
      → beside special s c name ≡ Ok serial
      → request_named s client number sought dest ≡ found_made special s client number serial
  request_new_links serial l found_it = request_new l ∙ rw found_it refl
