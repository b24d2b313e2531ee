-- What JOIN owes the definitions, and the numbers of holders.
use Rattle.std.proofs.Common.{[], ◌&&◌, ◌++◌, ◌+◌, ◌∙◌, ◌∷◌, ◌≡◌, ◌≤◌, ap, arith, Bool, codes, cond, false, find}
use Rattle.std.proofs.Common.{IfSome, IsSome, List, nat_cmp, nat_lt, None, Ok, Option}
use Rattle.std.proofs.Common.{option_map, option_to_list, refl, Some, subst, sym, true, ℕ}
use Rattle.std.proofs.lemmas.{Bool.Decides.nat_tests, Option.{none-some, same_Some}}
use Rattle.krs_types.specs.declared.{ask.Answer.TheVariants.Number, caller.Caller.Caller, context.Context.Context}
use Rattle.krs_model.specs.Asks.Joining.{join, joinable, joined_to, session_joined, session_named, session_ring}
use Rattle.krs_model.specs.{Asks.Joining.session_to, Lookup.context_of, Making.{with_new, within_serials}, State.State}
use Rattle.krs_model.specs.{Sweep.{context_roots, process_roots, roots, uid_roots}, Table.{alter, at, put, Table}}
use Rattle.krs_model.proofs.{Sound.Attached.context_keys, Tables.Changes.is_at_same}
use Rattle.krs_keys.specs.Keys.{AreFit, AreNamed, AreOfKind, IsOfKind, name_at, named_links_of_content, seen, shown}
use Rattle.krs_keys.specs.declared.key.{Content.Content, Key.Key}
use Rattle.krs_keys.proofs.{KindsLemmas.kinds_put, LinkNames.fit_put}
use Rattle.krs_hold.specs.Tally.{all_less, IsTallied, one_more, times, with_number}
use Rattle.krs_hold.proofs.{Gathered.times-alter, KeyTallies.tallied_insert}
use Rattle.krs_hold.proofs.Tallies.{some_with, tallied_attached, tallied_hold, tallied_let_go_all, tallied_with}
use Rattle.krs_hold.proofs.Times.{times-append}
use Rattle.krs_tables.proofs.Owners.{own_there}
use Rattle.krs_context_asks.specs.Joined.{IsEmptyRing, joined_anew, session_in, session_key}
use Rattle.krs_model.specs.State as model
use Rattle.std.proofs.lemmas.Grind.{common_steps}

there_later :
    {X : Type 0} (e : ℕ × X) (es : Table X) (o : Option ℕ) → IfSome o (λ k. IsSome (at es k))
    → IfSome o (λ k. IsSome (at (e ∷ es) k))
there_later e es None h = tt
there_later {X = X} e es (Some k) h = grind (arith, common_steps, nat_cmp)

-- what is found in a table is at its number
pub find_there :
    {X : Type 0} (p : ℕ × X → Bool) (es : Table X)
    → IfSome (option_map (λ (e : ℕ × X). e.0) (find p es)) (λ k. IsSome (at es k))
find_there p [] = tt
find_there {X = X} p (e ∷ es) =
    elim (p e) as (λ b. IfSome (option_map (λ (x : ℕ × X). x.0) (cond b (Some e) (find p es)))
    (λ k. IsSome (at (e ∷ es) k))) [
      | true ↦ rw (is_at_same e.0) refl
      | false ↦ there_later e es (option_map (λ (x : ℕ × X). x.0) (find p es)) (find_there p es)
    ]

own_context :
    (o : Option Context) (left : Option ℕ) → option_map (λ (c : Context). c.session) o ≡ Some left
    → (c : Context) × (o ≡ Some c) × (c.session ≡ left)
own_context None left h = absurd (none-some left h)
own_context (Some c) left h = (c, refl, same_Some c.session left h)

-- one keyring is attached in the place of another
session_times :
    (s : State) (number ring q : ℕ) (left : Option ℕ) → session_in s number ≡ Some left
    → times q (ring ∷ []) + times q (roots s)
    ≡ times q (option_to_list left) + times q (roots (joined_to s number ring))
session_times s number ring q left own =
    let c = own_context (at s.contexts number) left own in
    let rest = process_roots s.processes ++ uid_roots s.uids in
    let a = times-alter context_keys s.contexts number (session_to ring) q c.0 c.1 in
    let b = times-append q (context_roots s.contexts) rest in
    let d = times-append q (context_roots (alter s.contexts number (session_to ring))) rest in
    let e = times-append q (option_to_list c.0.thread) (ring ∷ []) in
    let f = times-append q (option_to_list c.0.thread) (option_to_list c.0.session) in
    let g : times q (option_to_list c.0.session) ≡ times q (option_to_list left) =
    ap (λ (o : Option ℕ). times q (option_to_list o)) c.2 in
    omega (arith, a, b, d, e, f, g)

-- another session keyring is held, and the one before is let go of
pub joined_tallied :
    (keys : Table model.Key) (s : State) (number ring : ℕ) (left : Option ℕ) (numbers : Table ℕ)
    → session_in s number ≡ Some left → IsSome (at numbers ring) → IsTallied keys (roots s) [] numbers
    → IsTallied keys (roots (joined_to s number ring)) [] (all_less (option_to_list left) (one_more ring numbers))
joined_tallied keys s number ring left numbers own there h =
    let after = roots (joined_to s number ring) in
    tallied_let_go_all keys after (option_to_list left) [] (one_more ring numbers)
    (tallied_attached keys (roots s) after (ring ∷ []) (option_to_list left ++ []) (one_more ring numbers)
    (λ q.
    let a = session_times s number ring q left own in
    let b = times-append q (option_to_list left) [] in
    omega (arith, a, b))
    (tallied_hold keys (roots s) [] numbers ring there h))

bare_links : (key : Key) → IsEmptyRing key → named_links_of_content key.content ≡ []
bare_links key empty = ap named_links_of_content empty.1

-- a new empty keyring, for which there is room
pub made_joined_tallied :
    (es : Table Key) (s : State) (number n : ℕ) (left : Option ℕ) (key : Key) (numbers : Table ℕ) → at es n ≡ None
    → IsEmptyRing key → session_in s number ≡ Some left → IsTallied (shown es) (roots s) [] numbers
    → IsTallied (shown (put es n key)) (roots (joined_to s number n)) []
    (all_less (option_to_list left) (one_more n (with_number n numbers)))
made_joined_tallied es s number n left key numbers none empty own h =
    let there = some_with numbers n in
    joined_tallied (shown (put es n key)) s number n left (with_number n numbers) own there
    (tallied_insert es (roots s) [] [] (with_number n numbers) n key none there (λ q. rw (bare_links key empty) refl)
    (tallied_with (shown es) (roots s) [] numbers n h))

-- links have the names of their keys, and only keyrings have links, where an empty keyring is put in
pub empty_fit :
    (es : Table Key) (n : ℕ) (key : Key) → at es n ≡ None → IsEmptyRing key → AreFit es → AreFit (put es n key)
empty_fit es n key none empty fit =
    fit_put es n key none
    (subst (λ (links : _). AreNamed (name_at (put es n key)) links) (sym (bare_links key empty)) tt) fit

pub empty_kind : (key : Key) → IsEmptyRing key → IsOfKind key.name.kind key.content
empty_kind key empty =
    subst (λ (content : Content). IsOfKind key.name.kind content) (sym empty.1) (rw empty.0 refl)

pub empty_kinds : (es : Table Key) (n : ℕ) (key : Key) → IsEmptyRing key → AreOfKind es → AreOfKind (put es n key)
empty_kinds es n key empty kinds = kinds_put es n key (empty_kind key empty) kinds

-- the keyrings that JOIN makes, as the definitions see them
pub seen-session_key : (name : List ℕ) (c : Caller) → seen (session_key name c) ≡ session_ring name c
seen-session_key name c = grind (arith, common_steps, codes)

and_none : (b : Bool) → (b && false) ≡ false
and_none true = refl
and_none false = refl

-- a serial is left
pub joined_anew_is :
    (s : State) (number : ℕ) (key : model.Key) → s.next_serial ≤ 2147483647
    → joined_anew s number key ≡ Ok (joined_to (with_new s key) number s.next_serial, Number s.next_serial)
joined_anew_is s number key few = grind (arith, common_steps, nat_lt, nat_tests, and_none)

join_named :
    (s : State) (client number : ℕ) (name : List ℕ) (c : Context) → context_of s client number ≡ Ok c
    → session_named name ≡ Ok (tt {0})
    → join s client number name ≡ within_serials s (session_joined s number c name (joinable s c.caller name))
unfolding join
join_named s client number name c own named = rw (own, named) refl

found_is :
    (s : State) (number ring : ℕ) (name : List ℕ) (c : Context) (o : Option (ℕ × model.Key))
    → Some ring ≡ option_map (λ (e : ℕ × model.Key). e.0) o
    → within_serials s (session_joined s number c name o) ≡ Ok (joined_to s number ring, Number ring)
found_is s number ring name c None h = absurd (none-some ring (sym h))
found_is s number ring name c (Some e) h = grind (arith, common_steps, same_Some, nat_lt, nat_tests)

-- JOIN of a keyring that is there
pub join_finds :
    (s : State) (client number ring : ℕ) (name : List ℕ) (c : Context) → context_of s client number ≡ Ok c
    → session_named name ≡ Ok (tt {0})
    → Some ring ≡ option_map (λ (e : ℕ × model.Key). e.0) (joinable s c.caller name)
    → join s client number name ≡ Ok (joined_to s number ring, Number ring)
join_finds s client number ring name c own named found =
    join_named s client number name c own named ∙ found_is s number ring name c (joinable s c.caller name) found

none_is :
    (s : State) (number : ℕ) (name : List ℕ) (c : Context) (o : Option (ℕ × model.Key))
    → None ≡ option_map (λ (e : ℕ × model.Key). e.0) o
    → within_serials s (session_joined s number c name o) ≡ joined_anew s number (session_ring name c.caller)
none_is s number name c None h = refl
none_is s number name c (Some e) h = absurd (none-some e.0 h)

-- JOIN of a new keyring
pub join_makes :
    (s : State) (client number : ℕ) (name : List ℕ) (c : Context) → context_of s client number ≡ Ok c
    → session_named name ≡ Ok (tt {0}) → None ≡ option_map (λ (e : ℕ × model.Key). e.0) (joinable s c.caller name)
    → join s client number name ≡ joined_anew s number (seen (session_key name c.caller))
join_makes s client number name c own named none =
    join_named s client number name c own named
    ∙ (none_is s number name c (joinable s c.caller name) none
    ∙ ap (joined_anew s number) (sym (seen-session_key name c.caller)))

own_in :
    (o : Option Context) (c : Context) → o ≡ Some c → option_map (λ (x : Context). x.session) o ≡ Some c.session
own_in o c h = ap (option_map (λ (x : Context). x.session)) h

-- the session keyring of a context that is the client's
pub session_own :
    (s : State) (client number : ℕ) (c : Context) → context_of s client number ≡ Ok c
    → session_in s number ≡ Some c.session
session_own s client number c own = own_in (at s.contexts number) c (own_there s client number c own)
