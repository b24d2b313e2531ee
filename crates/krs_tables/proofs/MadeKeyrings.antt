-- A thread or process keyring that is made and attached: what it comes to in the definitions, and who holds what.
use Rattle.std.proofs.Common.{[], ⊎_elim, ◌++◌, ◌+◌, ◌∙◌, ◌∷◌, ◌≡◌, ◌≤◌, ap, arith, codes, false, IfOk, IsOk, IsSome}
use Rattle.std.proofs.Common.{List, nat_cmp, nat_lt, None, Ok, Option, option_map, option_to_list, refl, Result, Some}
use Rattle.std.proofs.Common.{subst, sym, true, true≢false, unwrap_or, ℕ}
use Rattle.std.specs.BTreeMap.{is_at}
use Rattle.std.proofs.lemmas.{Bool.Decides.nat_tests, Option.none-some}
use Rattle.krs_types.specs.{Kind.same_kind, declared.{ask.Answer.{Answer, TheVariants.Number}, context.Context.Context}}
use Rattle.krs_types.specs.declared.{errno.Errno.Errno, kind.Kind.TheVariants.Keyring, name.Name.Name}
use Rattle.krs_model.specs.{Asks.{Changing.changed, Linked.name_of}, Linking.linking, Lookup.context_of}
use Rattle.krs_model.specs.Making.{special_ring, thread_to, with_process, with_thread, within_serials}
use Rattle.krs_model.specs.{Reach.{has_chain, nesting_depth}, Sweep.{context_roots, process_roots, roots, uid_roots}}
use Rattle.krs_model.specs.Table.{alter, at, IsBelow, put, Table}
use Rattle.krs_model.proofs.Sound.NewContexts.{own_process_there}
use Rattle.krs_model.proofs.Tables.Changes.{at_map, at_or_apart, at_put_other, is_at_same, put_map}
use Rattle.krs_ctx.specs.Anchors.{anchored, Anchors, anchors_of}
use Rattle.krs_links.specs.Links.{LinkList, serials}
use Rattle.krs_keys.specs.{Keys.{AreNamed, name_at, seen, shown}, Table.{Keys, with_key}, declared.key.Key.Key}
use Rattle.krs_keys.proofs.{KindsLemmas.kinds_put, LinkNames.fit_put}
use Rattle.krs_hold.specs.Tally.{IsTallied, number_at, one_more, times, with_number}
use Rattle.krs_hold.proofs.{Gathered.times-alter, KeyTallies.tallied_insert, Places.{alter_put, is_some_alter}}
use Rattle.krs_hold.proofs.Tallies.{number_other, number_with, some_with, tallied_attached, tallied_hold, tallied_with}
use Rattle.krs_hold.proofs.Times.{times-append, times-cons}
use Rattle.krs_tables.specs.{Holding.{HasRoom, more_of}, Specials.{AreLinksTo, attached_as, HasPlace, IsMissing}}
use Rattle.krs_tables.specs.Specials.{linking_made, maker_of, ring_at, ring_key, ring_made, special_name, with_ring}
use Rattle.krs_tables.specs.{View.{IsConsistent, state_of}, declared.making.{Maker.Maker, Special.Special}}
use Rattle.krs_tables.specs.declared.{making.Special.TheVariants.{Process, Thread}, tables.Tables.TheInside.Inside}
use Rattle.krs_tables.proofs.{Links.name_kept, Owners.own_there, Wanting.accepted}
use Rattle.krs_model.specs.Sound as standing
use Rattle.krs_model.specs.State as model

-- the new keyring is attached once, and all else as often as before
pub attached_times :
    (special : Special) (maker : Maker) (s : model.State) (n q : ℕ) → HasPlace special maker s
    → times q (roots (anchored s (attached_as special maker n (anchors_of s)))) ≡ times q (n ∷ []) + times q (roots s)
attached_times Thread maker s n q place =
    let c = place.0 in
    let others = process_roots s.processes ++ uid_roots s.uids in
    let altered = alter s.contexts maker.number (thread_to n) in
    let a = times-alter (λ (x : Context). option_to_list x.thread ++ option_to_list x.session) s.contexts maker.number
    (thread_to n) q c place.1 in
    let none : times q (option_to_list c.thread ++ option_to_list c.session) ≡ times q (option_to_list c.session) =
    ap (λ (o : Option ℕ). times q (option_to_list o ++ option_to_list c.session)) place.2 in
    let new = times-append q (n ∷ []) (option_to_list c.session) in
    let was = times-append q (context_roots s.contexts) others in
    let is = times-append q (context_roots altered) others in
    omega (arith, a, none, new, was, is)
attached_times Process maker s n q place =
    let altered = alter s.processes maker.process (λ (was : Option ℕ). Some n) in
    let a =
    times-alter (λ (x : Option ℕ). option_to_list x) s.processes maker.process (λ (was : Option ℕ). Some n) q None
    place in
    let others = uid_roots s.uids in
    let was = times-append q (context_roots s.contexts) (process_roots s.processes ++ others) in
    let was_rest = times-append q (process_roots s.processes) others in
    let is = times-append q (context_roots s.contexts) (process_roots altered ++ others) in
    let is_rest = times-append q (process_roots altered) others in
    omega (arith, a, was, was_rest, is, is_rest)

-- the made keyring of the definitions
pub ring_alone :
    (special : Special) (s : model.State) (number : ℕ) (c : Context)
    → with_ring special s number c ≡ ring_at special (maker_of number c) [] s
ring_alone Thread s number c = refl
ring_alone Process s number c = refl

-- what is linked is not the new key
named_other :
    (s : Inside) (k : ℕ) (name : Name) → IsBelow s.keys.keys s.keys.next → name_at s.keys.keys k ≡ Some name
    → is_at (nat_cmp k) s.keys.next ≡ false
named_other s k name unused named =
    let n = s.keys.next in
    ⊎_elim (λ (e : k ≡ n). absurd (none-some name (sym (ap (option_map (λ (key : Key). key.name))
    (ap (λ (z : ℕ). at s.keys.keys z) e ∙ unused n (omega arith))) ∙ named)))
    (λ apart. apart) (at_or_apart k n)

not_at : (k n : ℕ) → is_at (nat_cmp k) n ≡ false → k ≡ n → ⊥
not_at k n apart e =
    absurd (true≢false (sym (subst (λ (z : ℕ). is_at (nat_cmp k) z ≡ true) e (is_at_same k)) ∙ apart))

-- a count that is raised leaves room at another
pub room_beside :
    (s : Inside) (links : LinkList) (linked : Option ℕ) (ring : ℕ) (mid new : Table ℕ)
    → IsBelow s.keys.keys s.keys.next → AreLinksTo (state_of s) links linked → ring ≡ s.keys.next
    → mid ≡ with_number ring s.holders → new ≡ one_more ring mid → HasRoom s.holders linked → HasRoom new linked
room_beside s links None ring mid new unused are n m e room = tt
room_beside s links (Some k) ring mid new unused are n m e room =
    let named = name_kept s k are.0 are.1 in
    let apart = not_at k s.keys.next (named_other s k are.0 unused named) in
    let same : number_at new k ≡ number_at s.holders k =
    ap (λ (zs : Table ℕ). number_at zs k) e
    ∙ (number_other mid ring k (λ h. apart (h ∙ n))
    ∙ (ap (λ (zs : Table ℕ). number_at zs k) m ∙ number_with s.holders ring k)) in
    omega (arith, same, room)

-- the new keyring's links name their keys
ring_fits :
    (s : Inside) (special : Special) (maker : Maker) (links : LinkList) (linked : Option ℕ)
    → IsBelow s.keys.keys s.keys.next → AreLinksTo (state_of s) links linked
    → AreNamed (name_at (put s.keys.keys s.keys.next (ring_key special maker links))) links
ring_fits s special maker links None unused are = rw are tt
ring_fits s special maker links (Some k) unused are =
    let es = s.keys.keys in
    let n = s.keys.next in
    let named = name_kept s k are.0 are.1 in
    let there : (key : Key) → name_at (put es n key) k ≡ Some are.0 = λ key.
    ap (option_map (λ (v : Key). v.name)) (at_put_other es n k key (named_other s k are.0 unused named)) ∙ named in
    rw are.2 (there (ring_key special maker ((are.0, k) ∷ [])), tt, refl)

named_is_there : (o : Option Key) (name : Name) → option_map (λ (v : Key). v.name) o ≡ Some name
    → IsSome (option_map seen o)
named_is_there None name h = absurd (none-some name h)
named_is_there (Some key) name h = refl

-- what it links, and itself, are counted once more
ring_counted :
    (s : Inside) (special : Special) (maker : Maker) (links : LinkList) (linked : Option ℕ) (attached : List ℕ)
    → IsBelow s.keys.keys s.keys.next → AreLinksTo (state_of s) links linked
    → IsTallied (shown s.keys.keys) attached [] s.holders
    → IsTallied (shown (put s.keys.keys s.keys.next (ring_key special maker links))) attached (s.keys.next ∷ [])
    (more_of linked (one_more s.keys.next (with_number s.keys.next s.holders)))
ring_counted s special maker links None attached unused are h =
    let es = s.keys.keys in
    let n = s.keys.next in
    let a = with_number n s.holders in
    let there = some_with s.holders n in
    let one = tallied_hold (shown es) attached [] a n there (tallied_with (shown es) attached [] s.holders n h) in
    let stays : IsSome (at (one_more n a) n) = is_some_alter a n n (λ z. z + 1) ∙ there in
    tallied_insert es attached (n ∷ []) (n ∷ []) (one_more n a) n (ring_key special maker links)
    (unused n (omega arith)) stays
    (λ q. let e : times q (serials links) ≡ 0 = ap (λ (ls : LinkList). times q (serials ls)) are in
    omega (arith, e)) one
ring_counted s special maker links (Some k) attached unused are h =
    let es = s.keys.keys in
    let n = s.keys.next in
    let a = with_number n s.holders in
    let there = some_with s.holders n in
    let with = tallied_with (shown es) attached [] s.holders n h in
    let one = tallied_hold (shown es) attached [] a n there with in
    let stays : IsSome (at (one_more n a) n) = is_some_alter a n n (λ z. z + 1) ∙ there in
    let known : IsSome (at (shown es) k) =
    subst IsSome (sym (at_map seen es k)) (named_is_there (at es k) are.0 (name_kept s k are.0 are.1)) in
    let counted : IsSome (at (one_more n a) k) = is_some_alter a n k (λ z. z + 1) ∙ with.counted k known in
    let two = tallied_hold (shown es) attached (n ∷ []) (one_more n a) k counted one in
    let both : IsSome (at (one_more k (one_more n a)) n) = is_some_alter (one_more n a) k n (λ z. z + 1) ∙ stays in
    tallied_insert es attached (k ∷ n ∷ []) (n ∷ []) (one_more k (one_more n a)) n (ring_key special maker links)
    (unused n (omega arith)) both
    (λ q.
    let e : times q (serials links) ≡ times q (k ∷ []) = ap (λ (ls : LinkList). times q (serials ls)) are.2 in
    let x = times-cons q k (n ∷ []) in
    let y = times-cons q k [] in
    omega (arith, e, x, y)) two

pub ring_kind : (special : Special) → same_kind (special_name special).kind Keyring ≡ true
ring_kind Thread = refl
ring_kind Process = refl

-- the store with the new keyring is sound
pub ring_sound :
    (s : Inside) (special : Special) (maker : Maker) (links : LinkList) (linked : Option ℕ) (keys : Keys)
    (contexts : Anchors) (numbers : Table ℕ) → IsConsistent s → IsBelow s.keys.keys s.keys.next
    → HasPlace special maker (state_of s) → AreLinksTo (state_of s) links linked
    → keys ≡ with_key s.keys (ring_key special maker links)
    → contexts ≡ attached_as special maker s.keys.next s.contexts
    → numbers ≡ more_of linked (one_more s.keys.next (with_number s.keys.next s.holders))
    → IsConsistent (record s { keys = keys; contexts = contexts; holders = numbers })
ring_sound s special maker links linked keys contexts numbers sound unused place are k c e =
    let es = s.keys.keys in
    let n = s.keys.next in
    let base = state_of s in
    let key = ring_key special maker links in
    let after = put es n key in
    rw (k, c, e) (record {
      fit = fit_put es n key (unused n (omega arith)) (ring_fits s special maker links linked unused are) sound.fit;
      kinds = kinds_put es n key (ring_kind special) sound.kinds;
      tallied =
          tallied_attached (shown after) (roots base) (roots (anchored base
          (attached_as special maker n (anchors_of base))))
          (n ∷ []) [] (more_of linked (one_more n (with_number n s.holders)))
          (λ q. let e = attached_times special maker base n q place in omega (arith, e))
          (ring_counted s special maker links linked (roots base) unused are sound.tallied);
    })

seen_ring :
    (s : model.State) (special : Special) (maker : Maker) (links : LinkList) (linked : Option ℕ)
    → AreLinksTo s links linked
    → seen (ring_key special maker links)
    ≡ record (seen (ring_key special maker [])) { content = model.Links (option_to_list linked) }
seen_ring s special maker links None are = ap (λ (ls : LinkList). seen (ring_key special maker ls)) are
seen_ring s special maker links (Some k) are = ap (λ (ls : LinkList). seen (ring_key special maker ls)) are.2

-- and is that of the definitions
pub ring_told :
    (s : Inside) (special : Special) (maker : Maker) (links : LinkList) (linked : Option ℕ) (keys : Keys)
    (contexts : Anchors) (numbers : Table ℕ) → AreLinksTo (state_of s) links linked
    → keys ≡ with_key s.keys (ring_key special maker links)
    → contexts ≡ attached_as special maker s.keys.next s.contexts
    → state_of (record s { keys = keys; contexts = contexts; holders = numbers })
    ≡ ring_at special maker (option_to_list linked) (state_of s)
ring_told s special maker links linked keys contexts numbers are k c =
    let es = s.keys.keys in
    let n = s.keys.next in
    let base = anchored (state_of s) (attached_as special maker n s.contexts) in
    let is : shown (put es n (ring_key special maker links))
    ≡ put (shown es) n (record (seen (ring_key special maker [])) { content = model.Links (option_to_list linked) }) =
    put_map seen es n (ring_key special maker links)
    ∙ ap (put (shown es) n) (seen_ring (state_of s) special maker links linked are) in
    rw (k, c) (ap (λ (zs : Table model.Key). record base { keys = zs; next_serial = n + 1 }) is)

-- a further serial is within the last one, or none is left
pub within_next :
    (s t : model.State) (answer : Answer) → t.next_serial ≡ s.next_serial + 1 → s.next_serial ≤ 2147483647
    → within_serials s (Ok (t, answer)) ≡ Ok (t, answer)
within_next s t answer next few =
    let low : nat_lt 2147483648 t.next_serial ≡ false = grind (arith, nat_tests) in
    let up : nat_lt s.next_serial t.next_serial ≡ true = grind (arith, nat_tests) in
    rw (up, low) refl

ring_next :
    (special : Special) (s : model.State) (number : ℕ) (c : Context)
    → (with_ring special s number c).next_serial ≡ s.next_serial + 1
ring_next Thread s number c = refl
ring_next Process s number c = refl

no_ring : (o : Option (Option ℕ)) → IsSome o → unwrap_or o None ≡ None → o ≡ Some None
no_ring None there none = absurd (true≢false (sym there))
no_ring (Some o) there none = ap Some none

place_of :
    (special : Special) (s : model.State) (number : ℕ) (c : Context) → at s.contexts number ≡ Some c
    → IsSome (at s.processes c.process) → IsMissing special s c → HasPlace special (maker_of number c) s
place_of Thread s number c is there missing = (c, is, missing)
place_of Process s number c is there missing = no_ring (at s.processes c.process) there missing

-- where a keyring is missing there is a place for it
pub has_place :
    (special : Special) (s : model.State) (client number : ℕ) (c : Context) (maker : Maker) → standing.IsSound s
    → context_of s client number ≡ Ok c → maker ≡ maker_of number c
    → IfOk (context_of s client number) (IsMissing special s) → HasPlace special maker s
has_place special s client number c maker sound own e missing =
    let is = own_there s client number c own in
    let none : IsMissing special s c =
    subst (λ (r : Result Context Errno). IfOk r (IsMissing special s)) own missing in
    rw e (place_of special s number c is (own_process_there s number c is sound.placed) none)

-- what is made alone
pub alone_done :
    (special : Special) (s new : model.State) (client number n : ℕ) (c : Context) (maker : Maker)
    → context_of s client number ≡ Ok c → maker ≡ maker_of number c → s.next_serial ≤ 2147483647
    → new ≡ ring_at special maker [] s → n ≡ s.next_serial
    → ring_made special s client number ≡ Ok (new, Number n)
alone_done special s new client number n c maker own e few is serial =
    let t = with_ring special s number c in
    let made : new ≡ t = is ∙ (ap (λ (m : Maker). ring_at special m [] s) e ∙ sym (ring_alone special s number c)) in
    rw (own, made, serial) (within_next s t (Number s.next_serial) (ring_next special s number c) few)

-- it is accepted where a serial is left
pub alone_accepted :
    (special : Special) (s : model.State) (client number : ℕ) (c : Context) → context_of s client number ≡ Ok c
    → s.next_serial ≤ 2147483647 → IsOk (ring_made special s client number)
alone_accepted special s client number c own few =
    let maker = maker_of number c in
    accepted _ _ (alone_done special s (ring_at special maker [] s) client number s.next_serial c
    maker own refl few refl
    refl)

-- the made keyring of the definitions, with a link
pub ring_linking :
    (special : Special) (s : model.State) (number : ℕ) (c : Context) (keys : Table model.Key) (name : Name) (k : ℕ)
    → changed (with_ring special s number c) s.next_serial (linking keys name k)
    ≡ ring_at special (maker_of number c) (k ∷ []) s
ring_linking Thread s number c keys name k =
    let ring = special_ring (codes "_tid") c.caller in
    ap (λ (zs : Table model.Key). record (with_thread s number c) { keys = zs })
    (alter_put s.keys s.next_serial ring (linking keys name k))
ring_linking Process s number c keys name k =
    let ring = special_ring (codes "_pid") c.caller in
    ap (λ (zs : Table model.Key). record (with_process s c) { keys = zs })
    (alter_put s.keys s.next_serial ring (linking keys name k))

-- what is made with a link
pub linking_done :
    (special : Special) (s new : model.State) (client number k : ℕ) (c : Context) (maker : Maker) (key : model.Key)
    (answer : Answer) → context_of s client number ≡ Ok c → maker ≡ maker_of number c → at s.keys k ≡ Some key
    → has_chain s.keys k nesting_depth ≡ false → s.next_serial ≤ 2147483647 → new ≡ ring_at special maker (k ∷ []) s
    → linking_made special s client number k answer ≡ Ok (new, answer)
linking_done special s new client number k c maker key answer own e there short few is =
    let t = with_ring special s number c in
    let linked = changed t s.next_serial (linking t.keys (name_of key) k) in
    let made : new ≡ linked =
    is ∙ (ap (λ (m : Maker). ring_at special m (k ∷ []) s) e
    ∙ sym (ring_linking special s number c t.keys (name_of key) k)) in
    rw (own, there, short, made) (within_next s linked answer (ring_next special s number c) few)

-- it is accepted where the key nests no keyring too deep and a serial is left
pub linking_accepted :
    (special : Special) (s : model.State) (client number k : ℕ) (c : Context) (key : model.Key) (answer : Answer)
    → context_of s client number ≡ Ok c → at s.keys k ≡ Some key → has_chain s.keys k nesting_depth ≡ false
    → s.next_serial ≤ 2147483647 → IsOk (linking_made special s client number k answer)
linking_accepted special s client number k c key answer own there short few =
    let maker = maker_of number c in
    accepted _ _ (linking_done special s (ring_at special maker (k ∷ []) s) client number k c maker key answer own refl
    there short few refl)
