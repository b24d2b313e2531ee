-- What the store's own steps owe the numbers of holders.
use Rattle.std.proofs.Common.{[], ⊎_elim, ◌++◌, ◌+◌, ◌∙◌, ◌∷◌, ◌≡◌, ◌≤◌, ap, arith, Bool, cond, false, filter, IfSome}
use Rattle.std.proofs.Common.{IsSome, List, None, not, Option, option_map, option_to_list, refl, Some, subst, sym, true}
use Rattle.std.proofs.{Common.{true≢false, unwrap_or, ℕ}, lemmas.Option.{none-some, same_Some}}
use Rattle.krs_types.specs.{Kind.same_kind, declared.context.{Context.Context, UidRings.UidRings}}
use Rattle.krs_types.specs.declared.{kind.Kind.{Kind, TheVariants.Keyring}, name.Name.Name}
use Rattle.krs_model.specs.{Asks.Adding.IsKeyringAt, Levels.is_in, Reach.links_of_key_at}
use Rattle.krs_model.specs.Sweep.{context_roots, links_of_key, process_roots, roots, uid_roots}
use Rattle.krs_model.specs.Table.{alter, at, put, Table}
use Rattle.krs_model.proofs.{Reach.Levels.{in_right, same_is}, Sound.Attached.{attached_at, in_uid, uid_keys}}
use Rattle.krs_model.proofs.Tables.Changes.{alter_none, at_map, at_or_apart, at_put_other}
use Rattle.krs_links.specs.Links.{LinkList, serials}
use Rattle.krs_keys.specs.{Changes.changed, Keys.{AreFit, displaced_at, name_at, named_links_of_content, seen}}
use Rattle.krs_keys.specs.Keys.{seen_content, shown, with_entry, without_key}
use Rattle.krs_keys.specs.declared.key.{Change.Change, Content.{Content, TheVariants.{Links, Payload}}, Key.Key}
use Rattle.krs_keys.proofs.KeysLemmas.{serials-content}
use Rattle.krs_hold.specs.{Taken.taken_at, Tally.all_less}
use Rattle.krs_hold.specs.Tally.{all_links, AreExact, IsTallied, number_at, one_less, one_more, times, with_number}
use Rattle.krs_hold.proofs.Gathered.{times-filter, times-put}
use Rattle.krs_hold.proofs.KeyTallies.{tallied_change, tallied_insert, tallied_link, tallied_unlink}
use Rattle.krs_hold.proofs.Places.{is_some_alter}
use Rattle.krs_hold.proofs.Tallies.{all_less-append, more_with, number_other, some_with, tallied_attached, tallied_hold}
use Rattle.krs_hold.proofs.{Tallies.{tallied_let_go_all, tallied_with}, Times.{in-times, times-append, times-cons}}
use Rattle.krs_tables.specs.Holding.{more_of}
use Rattle.krs_tables.specs.{Making.first_content, View.state_of, declared.tables.Tables.TheInside.Inside}
use Rattle.krs_model.specs.State as model

pub changed_tallied : (keys : Table Key) (attached : List ℕ) (numbers : Table ℕ) (k : ℕ) (c : Change)
    → AreExact keys numbers attached → AreExact (alter keys k (changed c))
    (all_less (taken_at c (at keys k)) numbers) attached
changed_tallied keys attached numbers k c h =
    elim (at keys k) as (λ o. at keys k ≡ o → AreExact (alter keys k (changed c)) (all_less (taken_at c o) numbers)
    attached) [
      | None ↦ λ e. rw (alter_none keys k (changed c) e) h
      | Some v ↦ λ e. tallied_change keys attached numbers k c v e h
    ] refl

-- the keyring that links a key
linking_ring :
    (serial : ℕ) (o : Option Key) → is_in serial (links_of_key (option_map seen o)) ≡ true
    → (v : Key) × (o ≡ Some v) × (is_in serial (serials (named_links_of_content v.content)) ≡ true)
linking_ring serial None h = absurd (true≢false (sym h))
linking_ring serial (Some v) h = (v, refl, ap (is_in serial) (serials-content v.content) ∙ h)

pub unlinked_tallied :
    (keys : Table Key) (attached : List ℕ) (numbers : Table ℕ) (ring serial : ℕ) → AreFit keys
    → is_in serial (links_of_key_at (shown keys) ring) ≡ true → AreExact keys numbers attached
    → AreExact (alter keys ring (without_key serial)) (one_less serial numbers) attached
unlinked_tallied keys attached numbers ring serial fit found h =
    let linked = subst (λ (o : Option model.Key). is_in serial (links_of_key o) ≡ true) (at_map seen keys ring) found in
    let v = linking_ring serial (at keys ring) linked in
    tallied_unlink keys attached numbers (name_at keys) ring serial v.0 v.1 (fit ring v.0 v.1) v.2 h

key_shown : (o : Option Key) (x : model.Key) → option_map seen o ≡ Some x
    → (key : Key) × (o ≡ Some key) × (seen key ≡ x)
key_shown None x h = absurd (none-some x h)
key_shown (Some key) x h = (key, refl, same_Some (seen key) x h)

ring_content : (content : Content) (serials : List ℕ) → seen_content content ≡ model.Links serials
    → (links : LinkList) × (content ≡ Links links)
ring_content (Payload bytes) serials h = absurd cc
ring_content (Links links) serials h = (links, refl)

some_named : (name : Name) (o : Option Key) → option_map (λ (key : Key). key.name) o ≡ Some name
    → IsSome (option_map seen o)
some_named name None h = absurd (none-some name h)
some_named name (Some key) h = refl

pub linked_tallied : (s : Inside) (attached : List ℕ) (ring serial : ℕ) (name : Name)
    → name_at s.keys.keys serial ≡ Some name → IsKeyringAt (state_of s) ring → AreExact s.keys.keys s.holders attached
    → AreExact (alter s.keys.keys ring (with_entry name serial))
    (all_less (option_to_list (displaced_at s.keys.keys ring name)) (one_more serial s.holders)) attached
linked_tallied s attached ring serial name there keyring h =
    let es = s.keys.keys in
    let is = key_shown (at es ring) keyring.0 (sym (at_map seen es ring) ∙ keyring.1) in
    let links = ring_content is.0.content keyring.2 (ap (λ (x : model.Key). x.content) is.2 ∙ keyring.3) in
    tallied_link es attached s.holders ring name serial is.0 links.0 is.1 links.1
    (h.counted serial (subst IsSome (sym (at_map seen es serial)) (some_named name (at es serial) there))) h

pub made_tallied : (s : Inside) (attached : List ℕ) (ring : ℕ) (name : Name) (key : Key)
    → at s.keys.keys s.keys.next ≡ None → named_links_of_content key.content ≡ [] → IsKeyringAt (state_of s) ring
    → AreExact s.keys.keys s.holders attached → AreExact (alter (put s.keys.keys s.keys.next key) ring
    (with_entry name s.keys.next)) (all_less (option_to_list (displaced_at (put s.keys.keys s.keys.next key) ring
    name)) (one_more s.keys.next (with_number s.keys.next s.holders))) attached
made_tallied s attached ring name key none bare keyring h =
    let es = s.keys.keys in
    let n = s.keys.next in
    let room = tallied_with (shown es) attached [] s.holders n h in
    let one =
    tallied_insert es attached [] [] (with_number n s.holders) n key none (some_with s.holders n)
    (λ q. rw bare refl) room in
    let is = key_shown (at es ring) keyring.0 (sym (at_map seen es ring) ∙ keyring.1) in
    let links = ring_content is.0.content keyring.2 (ap (λ (x : model.Key). x.content) is.2 ∙ keyring.3) in
    let there : at (put es n key) ring ≡ Some is.0 =
    ⊎_elim (λ (q : ring ≡ n). absurd (none-some is.0 (sym none ∙ subst (λ (z : ℕ). at es z ≡ Some is.0) q is.1)))
    (λ apart. at_put_other es n ring key apart ∙ is.1) (at_or_apart ring n) in
    tallied_link (put es n key) attached (with_number n s.holders) ring name n is.0 links.0 there links.1
    (some_with s.holders n) one

no_links : (ring : Bool) (payload : List ℕ) → named_links_of_content (cond ring (Links []) (Payload payload)) ≡ []
no_links true payload = refl
no_links false payload = refl

pub first_links : (kind : Kind) (payload : List ℕ) → named_links_of_content (first_content kind payload) ≡ []
first_links kind payload = no_links (same_kind kind Keyring) payload

-- what is attached has a number
pub attached_counted : (keys : Table model.Key) (attached : List ℕ) (numbers : Table ℕ) (k : ℕ)
    → IsTallied keys attached [] numbers → is_in k attached ≡ true → IsSome (at numbers k)
attached_counted keys attached numbers k h i =
    let some = in-times k attached i in
    let sum : number_at numbers k ≡ 0 + (times k attached + times k (all_links keys)) = h.exact k in
    elim (at numbers k) as (λ o. unwrap_or o 0 ≡ 0 + (times k attached + times k (all_links keys)) → IsSome o) [
      | None ↦ λ e. absurd (omega (arith, e, some))
      | Some n ↦ λ e. refl
    ] sum

pub more_tallied : (keys : Table model.Key) (attached : List ℕ) (numbers : Table ℕ) (o : Option ℕ)
    → IfSome o (λ k. IsSome (at numbers k)) → IsTallied keys attached [] numbers
    → IsTallied keys attached (option_to_list o) (more_of o numbers)
more_tallied keys attached numbers None there h = h
more_tallied keys attached numbers (Some k) there h = tallied_hold keys attached [] numbers k there h

pub counted_of : (keys : Table model.Key) (attached : List ℕ) (numbers : Table ℕ) (o : Option ℕ)
    → IsTallied keys attached [] numbers → IfSome o (λ k. is_in k attached ≡ true)
    → IfSome o (λ k. IsSome (at numbers k))
counted_of keys attached numbers None h i = i
counted_of keys attached numbers (Some k) h i = attached_counted keys attached numbers k h i

context_times : (es : Table Context) (k : ℕ) (c : Context) (q : ℕ) → at es k ≡ None
    → times q (context_roots (put es k c)) ≡ times q (option_to_list c.thread ++ option_to_list c.session)
    + times q (context_roots es)
context_times es k c q none =
    times-put (λ (x : Context). option_to_list x.thread ++ option_to_list x.session) es k c q none

process_times : (es : Table (Option ℕ)) (k : ℕ) (o : Option ℕ) (q : ℕ) → at es k ≡ None
    → times q (process_roots (put es k o)) ≡ times q (option_to_list o) + times q (process_roots es)
process_times es k o q none = times-put (λ (x : Option ℕ). option_to_list x) es k o q none

-- one more context, with its process
pub context_tallied : (keys : Table model.Key) (contexts : Table Context) (processes : Table (Option ℕ))
    (uids : List ℕ) (numbers : Table ℕ) (m : ℕ) (c : Context) → at contexts m ≡ None → at processes m ≡ None
    → c.thread ≡ None → IfSome c.session (λ k. is_in k (context_roots contexts ++ (process_roots processes ++ uids))
    ≡ true) → IsTallied keys (context_roots contexts ++ (process_roots processes ++ uids)) [] numbers
    → IsTallied keys (context_roots (put contexts m c) ++ (process_roots (put processes m None) ++ uids)) []
    (more_of c.session numbers)
context_tallied keys contexts processes uids numbers m c no_context no_process no_thread held h =
    let before = context_roots contexts ++ (process_roots processes ++ uids) in
    let after = context_roots (put contexts m c) ++ (process_roots (put processes m None) ++ uids) in
    tallied_attached keys before after (option_to_list c.session) [] (more_of c.session numbers)
    (λ q.
    let a = context_times contexts m c q no_context in
    let b = process_times processes m None q no_process in
    let d = times-append q (context_roots contexts) (process_roots processes ++ uids) in
    let e = times-append q (process_roots processes) uids in
    let f = times-append q (context_roots (put contexts m c)) (process_roots (put processes m None) ++ uids) in
    let g = times-append q (process_roots (put processes m None)) uids in
    let i : times q (option_to_list c.thread ++ option_to_list c.session) ≡ times q (option_to_list c.session) =
    ap (λ (o : Option ℕ). times q (option_to_list o ++ option_to_list c.session)) no_thread in
    omega (arith, a, b, d, e, f, g, i))
    (more_tallied keys before numbers c.session (counted_of keys before numbers c.session h held) h)

-- one list and then others
pub less_then : (xs ys zs : List ℕ) (numbers : Table ℕ) → all_less zs (all_less ys (all_less xs numbers))
    ≡ all_less ((xs ++ ys) ++ zs) numbers
less_then xs ys zs numbers =
    sym (all_less-append (xs ++ ys) zs numbers ∙ ap (all_less zs) (all_less-append xs ys numbers))

pub then_less : (xs ys : List ℕ) (numbers : Table ℕ) → all_less ys (all_less xs numbers) ≡ all_less (xs ++ ys) numbers
then_less xs ys numbers = sym (all_less-append xs ys numbers)

-- the contexts of a client go, and what has no context then
pub left_tallied : (keys : Table model.Key) (contexts : Table Context) (processes : Table (Option ℕ))
    (uids : Table UidRings) (p : ℕ × Context → Bool) (r : ℕ × Option ℕ → Bool) (u : ℕ × UidRings → Bool)
    (numbers : Table ℕ) → IsTallied keys (context_roots contexts ++ (process_roots processes ++ uid_roots uids)) []
    numbers → IsTallied keys (context_roots (filter (λ e. not (p e)) contexts)
    ++ (process_roots (filter r processes) ++ uid_roots (filter u uids))) []
    (all_less (uid_roots (filter (λ e. not (u e)) uids)) (all_less (process_roots (filter (λ e. not (r e)) processes))
    (all_less (context_roots (filter p contexts)) numbers)))
left_tallied keys contexts processes uids p r u numbers h =
    let cs = context_roots (filter p contexts) in
    let ps = process_roots (filter (λ e. not (r e)) processes) in
    let us = uid_roots (filter (λ e. not (u e)) uids) in
    let ds = context_roots (filter (λ e. not (p e)) contexts) in
    let qs = process_roots (filter r processes) in
    let vs = uid_roots (filter u uids) in
    let after = ds ++ (qs ++ vs) in
    subst (λ (zs : Table ℕ). IsTallied keys after [] zs) (sym (less_then cs ps us numbers))
    (tallied_let_go_all keys after ((cs ++ ps) ++ us) [] numbers
    (tallied_attached keys (context_roots contexts ++ (process_roots processes ++ uid_roots uids)) after []
    (((cs ++ ps) ++ us) ++ []) numbers
    (λ q.
    let a = times-filter (λ (x : Context). option_to_list x.thread ++ option_to_list x.session) p contexts q in
    let b = times-filter (λ (x : Option ℕ). option_to_list x) r processes q in
    let d = times-filter (λ (x : UidRings). option_to_list x.user ++ option_to_list x.session) u uids q in
    let e = times-append q (context_roots contexts) (process_roots processes ++ uid_roots uids) in
    let f = times-append q (process_roots processes) (uid_roots uids) in
    let g = times-append q ds (qs ++ vs) in
    let i = times-append q qs vs in
    let j = times-append q ((cs ++ ps) ++ us) [] in
    let k = times-append q (cs ++ ps) us in
    let l = times-append q cs ps in
    omega (arith, a, b, d, e, f, g, i, j, k, l)) h))

-- two new keys: the first is linked by the second, and attached; the second is attached twice
pub first_tallied : (es : Table Key) (before after : List ℕ) (numbers : Table ℕ) (n m : ℕ) (a b : Key)
    → at es n ≡ None → at (put es n a) m ≡ None → named_links_of_content a.content ≡ []
    → serials (named_links_of_content b.content) ≡ n ∷ [] → ((q : ℕ) → times q after
    ≡ times q (m ∷ m ∷ n ∷ []) + times q before) → IsTallied (shown es) before [] numbers
    → IsTallied (shown (put (put es n a) m b)) after [] (one_more m
    (one_more m (one_more n (one_more n (with_number m (with_number n numbers))))))
first_tallied es before after numbers n m a b none none_next bare links attach h =
    let x = with_number m (with_number n numbers) in
    let n0 : IsSome (at x n) = more_with (with_number n numbers) m n (some_with numbers n) in
    let m0 : IsSome (at x m) = some_with (with_number n numbers) m in
    let more : (zs : Table ℕ) (k q : ℕ) → IsSome (at zs q) → IsSome (at (one_more k zs) q) =
    λ zs k q there. is_some_alter zs k q (λ z. z + 1) ∙ there in
    let h0 =
    tallied_with (shown es) before [] (with_number n numbers) m (tallied_with (shown es) before [] numbers n h) in
    let x1 = one_more n x in
    let h1 = tallied_hold (shown es) before [] x n n0 h0 in
    let x2 = one_more n x1 in
    let h2 = tallied_hold (shown es) before (n ∷ []) x1 n (more x n n n0) h1 in
    let m2 : IsSome (at x2 m) = more x1 n m (more x n m m0) in
    let x3 = one_more m x2 in
    let h3 = tallied_hold (shown es) before (n ∷ n ∷ []) x2 m m2 h2 in
    let m3 : IsSome (at x3 m) = more x2 m m m2 in
    let x4 = one_more m x3 in
    let h4 = tallied_hold (shown es) before (m ∷ n ∷ n ∷ []) x3 m m3 h3 in
    let n4 : IsSome (at x4 n) = more x3 m n (more x2 m n (more x1 n n (more x n n n0))) in
    let m4 : IsSome (at x4 m) = more x3 m m m3 in
    let h5 =
    tallied_insert es before (m ∷ m ∷ n ∷ n ∷ []) (m ∷ m ∷ n ∷ n ∷ []) x4 n a none n4
    (λ q. let e : times q (serials (named_links_of_content a.content))
    ≡ 0 = ap (λ (ls : LinkList). times q (serials ls)) bare in omega (arith, e)) h4 in
    let h6 = tallied_insert (put es n a) before (m ∷ m ∷ n ∷ n ∷ []) (m ∷ m ∷ n ∷ []) x4 m b none_next m4
    (λ q.
    let e : times q (serials (named_links_of_content b.content)) ≡ times q (n ∷ []) = ap (times q) links in
    let a1 = times-cons q m (m ∷ n ∷ n ∷ []) in
    let a2 = times-cons q m (n ∷ n ∷ []) in
    let a3 = times-cons q n (n ∷ []) in
    let b1 = times-cons q m (m ∷ n ∷ []) in
    let b2 = times-cons q m (n ∷ []) in
    let b3 = times-cons q n [] in
    omega (arith, e, a1, a2, a3, b1, b2, b3)) h5 in
    tallied_attached (shown (put (put es n a) m b)) before after (m ∷ m ∷ n ∷ []) [] x4
    (λ q. let e = attach q in omega (arith, e)) h6

-- what the first context of a uid attaches, and the uid
pub first_times : (contexts : Table Context) (processes : Table (Option ℕ)) (uids : Table UidRings) (k u n m : ℕ)
    (c : Context) (rings : UidRings) → at contexts k ≡ None → at processes k ≡ None → at uids u ≡ None
    → c.thread ≡ None → c.session ≡ Some m → rings.user ≡ Some n → rings.session ≡ Some m → (q : ℕ)
    → times q (context_roots (put contexts k c) ++ (process_roots (put processes k None)
    ++ uid_roots (put uids u rings))) ≡ times q (m ∷ m ∷ n ∷ [])
    + times q (context_roots contexts ++ (process_roots processes ++ uid_roots uids))
first_times contexts processes uids k u n m c rings no_context no_process no_uid thread session user user_session q =
    let a = context_times contexts k c q no_context in
    let b = process_times processes k None q no_process in
    let d = times-put (λ (x : UidRings). option_to_list x.user ++ option_to_list x.session) uids u rings q no_uid in
    let e = times-append q (context_roots contexts) (process_roots processes ++ uid_roots uids) in
    let f = times-append q (process_roots processes) (uid_roots uids) in
    let g =
    times-append q (context_roots (put contexts k c)) (process_roots (put processes k None)
    ++ uid_roots (put uids u rings)) in
    let i = times-append q (process_roots (put processes k None)) (uid_roots (put uids u rings)) in
    let j : times q (option_to_list c.thread ++ option_to_list c.session) ≡ times q (m ∷ []) =
    rw (thread, session) refl in
    let l : times q (option_to_list rings.user ++ option_to_list rings.session) ≡ times q (n ∷ m ∷ []) =
    rw (user, user_session) refl in
    let o1 = times-cons q m (m ∷ n ∷ []) in
    let o2 = times-cons q m (n ∷ []) in
    let o3 = times-cons q n [] in
    let o4 = times-cons q n (m ∷ []) in
    let o5 = times-cons q m [] in
    omega (arith, a, b, d, e, f, g, i, j, l, o1, o2, o3, o4, o5)

pub first_counted : (keys : Table model.Key) (after : List ℕ) (numbers r1 r2 r3 r4 : Table ℕ) (n m one two : ℕ)
    → one ≡ n → two ≡ m → r1 ≡ with_number one numbers → r2 ≡ with_number two r1 → r3 ≡ one_more one (one_more one r2)
    → r4 ≡ one_more two (one_more two r3) → IsTallied keys after []
    (one_more m (one_more m (one_more n (one_more n (with_number m (with_number n numbers))))))
    → IsTallied keys after [] r4
first_counted keys after numbers r1 r2 r3 r4 n m one two a b c d e f h = rw (f, e, d, c, a, b) h

pub room_on : (numbers new : Table ℕ) (one two most : ℕ) → (two ≡ one → ⊥) → new ≡ one_more one (one_more one numbers)
    → number_at numbers two + 2 ≤ most → number_at new two + 2 ≤ most
room_on numbers new one two most apart e h =
    let same : number_at new two ≡ number_at numbers two =
    ap (λ (zs : Table ℕ). number_at zs two) e ∙ (number_other (one_more one numbers) one two apart
    ∙ number_other numbers one two apart) in
    omega (arith, same, h)

-- the session keyring of a uid is attached
session_attached_at : (s : model.State) (uid : ℕ) (rings : UidRings) (o : Option ℕ) → at s.uids uid ≡ Some rings
    → rings.session ≡ o → IfSome o (λ k. is_in k (roots s) ≡ true)
session_attached_at s uid rings None there is = tt
session_attached_at s uid rings (Some k) there is =
    let mine : is_in k (option_to_list rings.session) ≡ true = rw (is, same_is k k refl) refl in
    in_uid s k (attached_at uid_keys s.uids uid rings k there
    (in_right k (option_to_list rings.user) (option_to_list rings.session) mine))

pub session_attached : (s : model.State) (uid : ℕ) (rings : UidRings) → at s.uids uid ≡ Some rings
    → IfSome rings.session (λ k. is_in k (roots s) ≡ true)
session_attached s uid rings there = session_attached_at s uid rings rings.session there refl
