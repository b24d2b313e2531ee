-- What asks share, by right: keyrings that are made, links, moved links, keys that are found, keys that are added.
use Rattle.std.proofs.Common.{[], ap, Bool, codes, cond, false, find, flat_map, inl, inr, List, None, not, Ok, Option}
use Rattle.std.proofs.Common.{refl, Result, Some, subst, sym, true, true≢false, ℕ, ℤ, ◌∙◌, ◌∷◌, ◌≡◌, ⊎_elim}
use Rattle.std.proofs.lemmas.Option.{none-some, same_Some}
use Rattle.krs_types.specs.KeyId.{key_id_of}
use Rattle.krs_types.specs.Kind.{same_kind}
use Rattle.krs_types.specs.Perm.{group_byte, other_byte}
use Rattle.krs_types.specs.Refusing.{or_refuse}
use Rattle.krs_types.specs.Rights.{has_all, LINK, WRITE}
use Rattle.krs_types.specs.declared.ask.Op.{Op, TheVariants.Add}
use Rattle.krs_types.specs.declared.caller.Caller.{Caller}
use Rattle.krs_types.specs.declared.context.Context.{Context}
use Rattle.krs_types.specs.declared.errno.Errno.{Errno}
use Rattle.krs_types.specs.declared.errno.Errno.TheVariants.{ENOKEY}
use Rattle.krs_types.specs.declared.key_id.KeyId.{KeyId}
use Rattle.krs_types.specs.declared.kind.Kind.TheVariants.{Keyring}
use Rattle.krs_types.specs.declared.name.Name.{Name}
use Rattle.krs_types.specs.declared.rights.Want.TheVariants.{Granted}
use Rattle.krs_types.proofs.KindRows.{has_row}
use Rattle.krs_model.specs.Access.{is_alive, is_over, rights_on}
use Rattle.krs_model.specs.Asks.Adding.{added, admitted, by_match, if_room, Made, new_key, over_match, Place}
use Rattle.krs_model.specs.Asks.Adding.{place_of, Updated}
use Rattle.krs_model.specs.Asks.Changing.{paid_with, updated}
use Rattle.krs_model.specs.Asks.Finding.{found_into, if_linkable}
use Rattle.krs_model.specs.Asks.Linked.{linked_into, name_of, unlinked_content, without_link}
use Rattle.krs_model.specs.Levels.{is_in}
use Rattle.krs_model.specs.Linking.{is_named, link_named, linked_content, ring_links}
use Rattle.krs_model.specs.Lookup.{context_of, look_up, serial_of}
use Rattle.krs_model.specs.Making.{made_for, own_ring, special_ring}
use Rattle.krs_model.specs.Possession.{attached, links_of_content, possessed}
use Rattle.krs_model.specs.Reach.{links_of_key_at}
use Rattle.krs_model.specs.Revocation.{Names}
use Rattle.krs_model.specs.Search.{found, grants_search, is_answer, is_match, is_open, requested, searched, Searcher}
use Rattle.krs_model.specs.Search.{searcher_of, sought}
use Rattle.krs_model.specs.State.{Content, Key, Links, Payload, State}
use Rattle.krs_model.specs.Sweep.{links_of_key}
use Rattle.krs_model.specs.Table.{alter, at, put, Table}
use Rattle.krs_model.specs.Usable.{IsUsable}
use Rattle.krs_model.proofs.Asks.Adding.{no_links, place_found, place_writes}
use Rattle.krs_model.proofs.Asks.Later.{bind_ok, same_ok}
use Rattle.krs_model.proofs.Asks.LaterByAsk.{IsMoved, linked_into_is, Moves, Stays}
use Rattle.krs_model.proofs.Asks.Outcomes.{Meets, meets_after, meets_ok}
use Rattle.krs_model.proofs.Isolation.Births.{made_own}
use Rattle.krs_model.proofs.Isolation.Links.{linkable_grants}
use Rattle.krs_model.proofs.Lookups.Laws.{look_up_usable}
use Rattle.krs_model.proofs.Lookups.Serials.{found_serial, refused_is}
use Rattle.krs_model.proofs.MadeKeyring.State.{HasMadeFor, MadeNone, MadeOne}
use Rattle.krs_model.proofs.MadeKeyring.Which.{IsMade, made_for_is, NoneMade, ProcessMade, ThreadMade}
use Rattle.krs_model.proofs.Sound.Changes.{in_linked_content}
use Rattle.krs_model.proofs.Sound.KeyChanges.{unlinked_lessens, updated_lessens}
use Rattle.krs_model.proofs.Sound.Links.{linkable_is}
use Rattle.krs_model.proofs.Tables.{Changes.at_put_same, Counts.part_in}
use Rattle.krs_laws.specs.Integrity.{AsksAs, IsMadeBy, IsMatch, IsWritten, WritesAt, Written}
use Rattle.krs_laws.proofs.KeyLimits.{both}
use Rattle.krs_laws.proofs.Rightly.{linkable_made, LinkedByRight, names_found, rewritten, right_made, Rightly}
use Rattle.krs_laws.proofs.Rightly.{rightly_put, rightly_same, rightly_then, rightly_written, written_made}
use Rattle.std.proofs.Common.{arith}
use Rattle.std.proofs.lemmas.Grind.{common_steps}

-- a keyring that the service makes for a caller, with a mask that gives others nothing
pub ring_made :
    (s : State) (client context : ℕ) (op : Op) (desc : List ℕ) (perm : ℕ) (joined : Bool) (caller : Caller)
    → AsksAs s client context op caller → group_byte perm ≡ 0 → other_byte perm ≡ 0
    → IsMadeBy s client context op (own_ring desc perm joined caller)
ring_made s client context op desc perm joined caller asks group other = grind (arith, common_steps, made_own)

pub links_nothing :
    {A : Type 0} (k : ℕ) (links : List ℕ) → links ≡ [] → is_in k links ≡ true → A
links_nothing k links none i = absurd (true≢false (sym i ∙ ap (is_in k) none))

is_made_rightly :
    (s : State) (client number : ℕ) (op : Op) (c : Context) (id : Result KeyId Errno) (made : State × Context)
    → at s.keys s.next_serial ≡ None → AsksAs s client number op c.caller → IsMade s number c id made
    → Rightly s client number op made.0.keys
is_made_rightly s client number op c id _ none asks NoneMade = rightly_same s client number op
is_made_rightly s client number op c id _ none asks (ThreadMade is yet) =
    grind (arith, common_steps, rightly_same, rightly_put, codes, ring_made, links_nothing)
is_made_rightly s client number op c id _ none asks (ProcessMade is yet) =
    grind (arith, common_steps, rightly_same, rightly_put, codes, ring_made, links_nothing)

pub made_rightly :
    (s : State) (client number : ℕ) (op : Op) (c : Context) (id : ℤ) → at s.keys s.next_serial ≡ None
    → AsksAs s client number op c.caller → Rightly s client number op (made_for s number c id).0.keys
made_rightly s client number op c id none asks =
    is_made_rightly s client number op c (key_id_of id) (made_for s number c id) none asks (made_for_is s number c id)

-- a further link, in a keyring that may be written, to a key that may be linked
pub linked_rightly :
    (s t new : State) (client context : ℕ) (op : Op) (into found : ℕ × Key)
    → ((was : Key) → at s.keys into.0 ≡ Some was → IsWritten s client context op into.0)
    → LinkedByRight s client context found.0 → linked_into t into found ≡ Ok new → Rightly s client context op t.keys
    → Rightly s client context op new.keys
linked_rightly s t new client context op into found right may linked was =
    let displaced : ℕ → Bool = λ k. is_named (name_of found.1) (at t.keys k) in
    subst (λ (z : State). Rightly s client context op z.keys) (linked_into_is t into found new linked).is
    (rightly_written s client context op t.keys into.0 (linked_content displaced found.0) right
    (λ k v i. ⊎_elim (λ (there : is_in k (links_of_content v.content) ≡ true). inl there)
    (λ (e : k ≡ found.0). inr (subst (LinkedByRight s client context) (sym e) may))
    (in_linked_content displaced found.0 v.content k i)) was)

pub unlinked_rightly :
    (s : State) (client context : ℕ) (op : Op) (keys : Table Key) (from serial : ℕ)
    → ((was : Key) → at s.keys from ≡ Some was → IsWritten s client context op from)
    → Rightly s client context op keys → Rightly s client context op (alter keys from (without_link serial))
unlinked_rightly s client context op keys from serial right was =
    rightly_written s client context op keys from (unlinked_content serial) right
    (λ k v i. inl (part_in _ _ k ((unlinked_lessens serial).links v) i)) was

pub moved_rightly :
    (s t : State) (client context : ℕ) (op : Op) (found from into : ℕ × Key) (new : State)
    → ((was : Key) → at s.keys into.0 ≡ Some was → IsWritten s client context op into.0)
    → ((was : Key) → at s.keys from.0 ≡ Some was → IsWritten s client context op from.0)
    → LinkedByRight s client context found.0 → IsMoved t found from into new → Rightly s client context op t.keys
    → Rightly s client context op new.keys
moved_rightly s t client context op found from into _ right out may Stays was = was
moved_rightly s t client context op found from into _ right out may (Moves mid linked) was =
    unlinked_rightly s client context op mid.keys from.0 found.0 out
    (linked_rightly s t mid client context op into found right may linked was)

-- what a search finds is alive
passes : (p : ℕ → Bool) (ks : List ℕ) (k : ℕ) → find p ks ≡ Some k → p k ≡ true
passes p [] k h = cc
passes p (x ∷ ks) k h =
    elim (p x) as (λ b. p x ≡ b → cond b (Some x) (find p ks) ≡ Some k → p k ≡ true) [
      | true ↦ λ t e. subst (λ (z : ℕ). p z ≡ true) (same_Some x k e) t
      | false ↦ λ t e. passes p ks k e
    ] refl h

abbrev pub FindsAlive : State → Result ℕ Errno → Type 0
FindsAlive s answer =
    (serial : ℕ) (key : Key) → answer ≡ Ok serial → at s.keys serial ≡ Some key → is_alive s.clock key ≡ true

alive_answer :
    (by : Searcher) (name : Name) (serial : ℕ) (o : Option Key) (key : Key) → o ≡ Some key
    → is_match name (is_open by serial) o ≡ true → is_alive by.clock key ≡ true
alive_answer by name serial None key there match = absurd (none-some key there)
alive_answer by name serial (Some was) key there match =
    let entered : is_open by serial was ≡ true = (both (is_named name (Some was)) (is_open by serial was) match).1 in
    subst (λ (z : Key). is_alive by.clock z ≡ true) (same_Some was key there)
    (both (is_alive by.clock was) (grants_search by serial was) entered).0

sought_alive :
    (s : State) (c : Context) (name : Name) (ks : List ℕ) → FindsAlive s (sought (searcher_of s c) name ks)
sought_alive s c name ks serial key h there =
    let by = searcher_of s c in
    alive_answer by name serial (at s.keys serial) key there
    (passes (is_answer by name) ks serial (refused_is (find (is_answer by name) ks) _ serial h))

pub found_alive : (s : State) (c : Context) (head : ℕ) (name : Name) → FindsAlive s (found s c head name)
unfolding found possessed
found_alive s c head name = sought_alive s c name (searched (searcher_of s c) head)

pub requested_alive : (s : State) (c : Context) (name : Name) → FindsAlive s (requested s c name)
unfolding requested possessed
requested_alive s c name = sought_alive s c name (flat_map (searched (searcher_of s c)) (attached s c))

not_true : (b : Bool) → not b ≡ true → b ≡ false
not_true true h = cc
not_true false h = refl

alive_usable :
    (s : State) (c : Context) (serial : ℕ) (key : Key) → at s.keys serial ≡ Some key → is_alive s.clock key ≡ true
    → has_all (rights_on key c.caller (possessed s c serial)) LINK ≡ true
    → IsUsable s c (Granted LINK) (serial, key)
alive_usable s c serial key there alive grants =
    let parts = both (not key.revoked) (not (is_over s.clock key.expiry)) alive in
    record {
      there = there;
      live = not_true key.revoked parts.0;
      running = not_true (is_over s.clock key.expiry) parts.1;
      granted = grants;
    }

-- a key that was found is linked into the destination
pub found_rightly :
    (s : State) (client context : ℕ) (op : Op) (c : Context) (dest : ℤ) (made : State × Context) (into : ℕ × Key)
    (answer : Result ℕ Errno) → context_of s client context ≡ Ok c → at s.keys s.next_serial ≡ None
    → HasMadeFor s c dest made → WritesAt op dest → FindsAlive made.0 answer
    → look_up made.0 made.1 dest (Granted WRITE) ≡ Ok into → Rightly s client context op made.0.keys
    → Meets (λ (new : State). Rightly s client context op new.keys) (found_into made.0 made.1 into answer)
found_rightly s client context op c dest made into answer own none has writes alive goes was =
    meets_after answer _ (λ serial finds.
    meets_after (or_refuse ENOKEY (at made.0.keys serial)) _ (λ key is.
    meets_after (if_linkable made.0 made.1 serial key) _ (λ found same.
    meets_after (linked_into made.0 into found) _ (λ new linked.
    let there = refused_is (at made.0.keys serial) ENOKEY key is in
    let may = linkable_made s client context c dest made (serial, key) own has none
    (alive_usable made.0 made.1 serial key there (alive serial key finds there)
    (linkable_grants made.0 made.1 serial key found same)) in
    meets_ok (linked_rightly s made.0 new client context op into found
    (λ old before. written_made s client context op c dest made into old own has none writes goes before)
    (subst (λ (x : ℕ × Key). LinkedByRight s client context x.0) (linkable_is made.0 made.1 serial key found same) may)
    linked was)))))

-- ---- ADD
-- another payload, by right
pub updated_then :
    (s : State) (client context : ℕ) (op : Op) (keys : Table Key) (n : ℕ) (payload : List ℕ)
    → ((before : Key) → at s.keys n ≡ Some before → IsWritten s client context op n)
    → Rightly s client context op keys → Rightly s client context op (alter keys n (updated payload))
updated_then s client context op keys n payload written was =
    rightly_then s client context op keys n (updated payload)
    (λ before after there is right.
    let once = rewritten s client context op n (paid_with payload) before after (written before there) right in
    record {
      kind = once.kind;
      desc = once.desc;
      joined = once.joined;
      content = Written (written before there);
      uid = once.uid;
      gid = once.gid;
      perm = once.perm;
      expiry = inr (inr (refl, written before there));
      revoked = once.revoked;
      closed = once.closed;
    })
    (λ key none is mine. record { caller = mine.caller; asks = mine.asks; own = mine.own; gid = mine.gid })
    (λ k v i. inl (part_in _ _ k ((updated_lessens payload).links v) i)) was

-- the key that is updated is linked by the keyring, by that name
room_updates :
    (s : State) (ring : ℕ × Key) (f : ℕ) (links : List ℕ) (displaced : Option ℕ)
    → if_room s ring links displaced ≡ Ok (Updated f) → ⊥
room_updates s ring f links displaced h = grind (arith, common_steps, bind_ok)

match_updates :
    (s : State) (c : Context) (ring : ℕ × Key) (f : ℕ) (links : List ℕ) (found : ℕ) (o : Option Key)
    → over_match s c ring links found o ≡ Ok (Updated f) → found ≡ f
match_updates s c ring f links found None h = absurd (room_updates s ring f links None h)
match_updates s c ring f links found (Some key) h = grind (arith, common_steps, room_updates)

by_match_updates :
    (s : State) (c : Context) (ring : ℕ × Key) (f : ℕ) (links : List ℕ) (found : Option ℕ)
    → by_match s c ring links found ≡ Ok (Updated f) → found ≡ Some f
by_match_updates s c ring f links None h = absurd (room_updates s ring f links None h)
by_match_updates s c ring f links (Some found) h =
    ap (λ (k : ℕ). Some k) (match_updates s c ring f links found (at s.keys found) h)

record Updates (s : State) (c : Context) (name : Name) (id : ℤ) (f : ℕ) : Type 0 where
  ring : ℕ × Key
  is : look_up s c id (Granted WRITE) ≡ Ok ring
  links : List ℕ
  holds : ring_links ring.1.content ≡ Ok links
  match : link_named s.keys name links ≡ Some f

place_updates :
    (s : State) (c : Context) (name : Name) (id : ℤ) (f : ℕ) → place_of s c name id ≡ Ok (Updated f)
    → Updates s c name id f
unfolding place_of
place_updates s c name id f h =
    let a = bind_ok (look_up s c id (Granted WRITE)) _ (Updated f) h in
    let b = bind_ok (ring_links a.0.1.content) _ (Updated f) a.2 in
    record {
      ring = a.0;
      is = a.1;
      links = b.0;
      holds = b.1;
      match = by_match_updates s c a.0 f b.0 (link_named s.keys name b.0) b.2;
    }

holds_is : (content : Content) (links : List ℕ) → ring_links content ≡ Ok links → links_of_content content ≡ links
holds_is (Payload bytes) links h = cc
holds_is (Links was) links h = same_ok (Ok was) was links refl h

found_in : (p : ℕ → Bool) (ks : List ℕ) (k : ℕ) → find p ks ≡ Some k → is_in k ks ≡ true
found_in p [] k h = cc
found_in p (x ∷ ks) k h = grind (arith, common_steps, found_in p ks k)

matched :
    (s : State) (c : Context) (type_name desc payload : List ℕ) (id : ℤ) (name : Name) (f : ℕ)
    → admitted type_name desc payload ≡ Ok name → (u : Updates s c name id f)
    → IsMatch s (Add type_name desc payload id) u.ring.0 f
matched s c type_name desc payload id name f fit u =
    let there = (look_up_usable s c id (Granted WRITE) u.ring u.is).there in
    let linked : links_of_key_at s.keys u.ring.0 ≡ u.links =
    ap (λ (o : Option Key). links_of_key o) there ∙ holds_is u.ring.1.content u.links u.holds in
    let named : ℕ → Bool = λ k. is_named name (at s.keys k) in
    (ap (is_in f) linked ∙ found_in named u.links f u.match, (name, fit, passes named u.links f u.match))

-- a keyring that was made links nothing, so nothing is updated there
matched_made :
    (s : State) (client context : ℕ) (c : Context) (type_name desc payload : List ℕ) (id : ℤ) (made : State × Context)
    (name : Name) (f : ℕ) → context_of s client context ≡ Ok c → admitted type_name desc payload ≡ Ok name
    → HasMadeFor s c id made → Updates made.0 made.1 name id f
    → (ring : ℕ) × Names s client context id ring × IsMatch s (Add type_name desc payload id) ring f
matched_made s client context c type_name desc payload id _ name f own fit MadeNone u = (
  u.ring.0,
  names_found s client context c id (Granted WRITE) u.ring own u.is,
  matched s c type_name desc payload id name f fit u,
)
matched_made s client context c type_name desc payload id _ name f own fit (MadeOne t d what before after has new) u =
    let there = (look_up_usable t d id (Granted WRITE) u.ring u.is).there in
    let ring : s.next_serial ≡ u.ring.0 =
    same_ok (serial_of t d id) s.next_serial u.ring.0 new (found_serial t d id (Granted WRITE) u.ring u.is) in
    let is : at t.keys u.ring.0 ≡ Some (special_ring what c.caller) =
    ap (λ (z : ℕ). at t.keys z) (sym ring) ∙ ap (λ (es : Table Key). at es s.next_serial) has.keys
    ∙ at_put_same s.keys s.next_serial (special_ring what c.caller) in
    let links : [] ≡ u.links =
    holds_is (Links []) u.links
    (ap (λ (v : Key). ring_links v.content) (same_Some _ u.ring.1 (sym is ∙ there)) ∙ u.holds) in
    absurd (none-some f (ap (λ (ks : List ℕ). link_named t.keys name ks) links ∙ u.match))

pub added_rightly :
    (s : State) (client context : ℕ) (c : Context) (type_name desc payload : List ℕ) (ring : ℤ)
    (made : State × Context) (name : Name) (place : Place) → context_of s client context ≡ Ok c
    → AsksAs s client context (Add type_name desc payload ring) made.1.caller
    → at s.keys s.next_serial ≡ None → at s.keys made.0.next_serial ≡ None → HasMadeFor s c ring made
    → admitted type_name desc payload ≡ Ok name → place_of made.0 made.1 name ring ≡ Ok place
    → Rightly s client context (Add type_name desc payload ring) made.0.keys
    → Rightly s client context (Add type_name desc payload ring) (added made.0 made.1 name payload place).keys
added_rightly s client context c type_name desc payload ring made name (Updated serial) own asks none next has fit is
    was =
    let op = Add type_name desc payload ring in
    let writes = place_writes made.0 made.1 name ring serial is in
    let m = matched_made s client context c type_name desc payload ring made name serial own fit has
    (place_updates made.0 made.1 name ring serial is) in
    updated_then s client context op made.0.keys serial payload
    (λ old there. record {
      right = right_made s client context c ring made (Granted WRITE) (serial, writes.0) old own has none there
          writes.1;
      id = ring;
      writes = refl;
      named = m.0;
      names = m.1;
      is = inr m.2;
    })
    was
added_rightly s client context c type_name desc payload ring made name (Made r) own asks none next has fit is was =
    let op = Add type_name desc payload ring in
    let found = place_found made.0 made.1 name ring r is in
    let n = made.0.next_serial in
    let key = new_key name payload made.1.caller.uid made.1.caller.gid in
    let mine : IsMadeBy s client context op key = record {
      caller = made.1.caller;
      asks = asks;
      own = made_own made.1.caller.uid key refl (has_row name.kind).group (has_row name.kind).other;
      gid = refl;
    } in
    let displaced : ℕ → Bool = λ k. is_named name (at made.0.keys k) in
    rightly_written s client context op (put made.0.keys n key) r (linked_content displaced n)
    (λ old there. subst (IsWritten s client context op) (sym found.2)
    (written_made s client context op c ring made found.0 old own has none refl found.1
    (subst (λ (z : ℕ). at s.keys z ≡ Some old) found.2 there)))
    (λ k v i. ⊎_elim (λ (there : is_in k (links_of_content v.content) ≡ true). inl there)
    (λ (e : k ≡ n). inr (inl (subst (λ (z : ℕ). at s.keys z ≡ None) (sym e) next)))
    (in_linked_content displaced n v.content k i))
    (rightly_put s client context op made.0.keys n key next mine
    (λ k i. links_nothing k (links_of_content key.content) (no_links (same_kind name.kind Keyring) payload) i) was)
