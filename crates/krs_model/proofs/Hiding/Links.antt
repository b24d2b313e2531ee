-- Links, and keyrings that asks make, with the payloads hidden.
use Rattle.std.proofs.Common.{[], ◌∷◌, ◌≡◌, ap, Bool, codes, Err, find, length, List, None, Ok, Option}
use Rattle.std.proofs.Common.{arith, refl, Result, Some, suc, ℕ, ℤ}
use Rattle.krs_types.specs.declared.{context.Context.Context, errno.Errno.Errno, key_id.KeyId.KeyId}
use Rattle.krs_types.specs.declared.key_id.KeyId.TheVariants.{Process, Serial, Session, Thread, User, UserSession}
use Rattle.krs_types.specs.{declared.name.Name.Name, KeyId.key_id_of}
use Rattle.krs_model.specs.Asks.{Linked.{link_check, linked_into, nestable}}
use Rattle.krs_model.specs.{Asks.Linked.{unlinked_content, without_link}, Hiding.{blind, blind_content, blind_key}}
use Rattle.krs_model.specs.{Hiding.{blind_keys, Hiding, over}, Linking.is_named}
use Rattle.krs_model.specs.{Linking.{link_named, linked_content, linking, ring_links}, Making.{made_at, made_for}}
use Rattle.krs_model.specs.Making.{process_made, special_ring, thread_made, thread_to, with_process, with_thread}
use Rattle.krs_model.specs.{Making.within_serials, Outcome.Outcome, Possession.process_ring, Reach.closes}
use Rattle.krs_model.specs.{Reach.{has_chain, is_ring, links_of_key_at}, State.{Content, Key, Links}}
use Rattle.krs_model.specs.{State.{Payload, State}, Sweep.links_of_key, Table.{at, Table}}
use Rattle.krs_model.proofs.Hiding.{Accepted.blind_done, Keys.{alter_blind, put_blind, seen}, Lookups.blind_found}
use Rattle.krs_model.proofs.Hiding.{Lookups.same_links, Over.{after, either}}
use Rattle.std.proofs.lemmas.Grind.{common_steps}

-- a keyring links what it did
pub same_ring_links : (h : List ℕ → List ℕ) (content : Content)
    → ring_links (blind_content h content) ≡ ring_links content
same_ring_links h (Payload bytes) = refl
same_ring_links h (Links serials) = refl

-- each key has the name that it had
pub same_named : (hide : Hiding) (keys : Table Key) (name : Name) (k : ℕ)
    → is_named name (at (blind_keys hide keys) k) ≡ is_named name (at keys k)
same_named hide keys name k = seen hide keys (is_named name) k (λ v. refl)

pub same_link_named : (hide : Hiding) (keys : Table Key) (name : Name) (links : List ℕ)
    → link_named (blind_keys hide keys) name links ≡ link_named keys name links
same_link_named hide keys name links = λ i. find (λ k. same_named hide keys name k i) links

pub same_links_at : (hide : Hiding) (keys : Table Key) (k : ℕ)
    → links_of_key_at (blind_keys hide keys) k ≡ links_of_key_at keys k
same_links_at hide keys k = seen hide keys links_of_key k (λ v. same_links (hide k) v.content)

same_length : (hide : Hiding) (keys : Table Key) → length (blind_keys hide keys) ≡ length keys
same_length hide [] = refl
same_length hide (e ∷ es) = ap suc (same_length hide es)

same_closes : (hide : Hiding) (keys : Table Key) (key ring : ℕ)
    → closes (blind_keys hide keys) key ring ≡ closes keys key ring
unfolding closes
same_closes hide keys key ring = grind (arith, common_steps, same_links_at, same_length)

same_chain : (hide : Hiding) (keys : Table Key) (serial count : ℕ)
    → has_chain (blind_keys hide keys) serial count ≡ has_chain keys serial count
unfolding has_chain
same_chain hide keys serial count =
    let ring : (k : ℕ) → is_ring (at (blind_keys hide keys) k) ≡ is_ring (at keys k) = λ k.
    seen hide keys is_ring k (λ v. refl) in
    grind (arith, common_steps, same_links_at)

same_check : (hide : Hiding) (keys : Table Key) (ring : ℕ × Key) (links : List ℕ) (found : ℕ × Key)
    → link_check (blind_keys hide keys) (blind_found hide ring) links (blind_found hide found)
    ≡ link_check keys ring links found
unfolding nestable
same_check hide keys ring links found = search (same_closes, same_chain, same_link_named) depth 8

linked_blind : (h : List ℕ → List ℕ) (displaced : ℕ → Bool) (serial : ℕ) (content : Content)
    → linked_content displaced serial (blind_content h content)
    ≡ blind_content h (linked_content displaced serial content)
linked_blind h displaced serial (Payload bytes) = refl
linked_blind h displaced serial (Links serials) = refl

-- one more link
pub linking_blind : (hide : Hiding) (keys : Table Key) (name : Name) (serial n : ℕ) (v : Key)
    → linking (blind_keys hide keys) name serial (blind_key (hide n) v)
    ≡ blind_key (hide n) (linking keys name serial v)
linking_blind hide keys name serial n v = search (same_named, linked_blind) depth 8

pub linked_into_blind : (hide : Hiding) (s : State) (into found : ℕ × Key)
    → linked_into (blind hide s) (blind_found hide into) (blind_found hide found)
    ≡ over (blind hide) (linked_into s into found)
linked_into_blind hide s into found =
    grind (arith, common_steps, same_ring_links, after, same_check, alter_blind, linking_blind)

-- a store and a context, with the payloads of the store hidden
abbrev pub blind_made : Hiding → State × Context → State × Context
blind_made hide made = (blind hide made.0, made.1)

thread_made_blind : (hide : Hiding) (s : State) (number : ℕ) (c : Context) (ring : Option ℕ)
    → thread_made (blind hide s) number c ring ≡ blind_made hide (thread_made s number c ring)
thread_made_blind hide s number c (Some ring) = refl
thread_made_blind hide s number c None =
    let t = with_thread s number c in
    let to : Table Key → State × Context = λ es. (record t { keys = es }, thread_to s.next_serial c) in
    ap to (put_blind hide s.keys s.next_serial (special_ring (codes "_tid") c.caller))

process_made_blind : (hide : Hiding) (s : State) (c : Context) (ring : Option ℕ)
    → process_made (blind hide s) c ring ≡ blind_made hide (process_made s c ring)
process_made_blind hide s c (Some ring) = refl
process_made_blind hide s c None =
    let t = with_process s c in
    let to : Table Key → State × Context = λ es. (record t { keys = es }, c) in
    ap to (put_blind hide s.keys s.next_serial (special_ring (codes "_pid") c.caller))

made_at_blind : (hide : Hiding) (s : State) (number : ℕ) (c : Context) (id : Result KeyId Errno)
    → made_at (blind hide s) number c id ≡ blind_made hide (made_at s number c id)
made_at_blind hide s number c (Err e) = refl
made_at_blind hide s number c (Ok (Serial n)) = refl
made_at_blind hide s number c (Ok Thread) = thread_made_blind hide s number c c.thread
made_at_blind hide s number c (Ok Process) = process_made_blind hide s c (process_ring s c.process)
made_at_blind hide s number c (Ok Session) = refl
made_at_blind hide s number c (Ok User) = refl
made_at_blind hide s number c (Ok UserSession) = refl

-- the store and the context with a keyring made
pub made_blind : (hide : Hiding) (s : State) (number : ℕ) (c : Context) (id : ℤ)
    → made_for (blind hide s) number c id ≡ blind_made hide (made_for s number c id)
unfolding made_for
made_blind hide s number c id = made_at_blind hide s number c (key_id_of id)

pub within_blind : (hide : Hiding) (s : State) (r : Outcome)
    → within_serials (blind hide s) (over (blind_done hide) r) ≡ over (blind_done hide) (within_serials s r)
within_blind hide s (Err e) = refl
within_blind hide s (Ok done) = search either depth 8

unlinked_blind : (h : List ℕ → List ℕ) (serial : ℕ) (content : Content)
    → unlinked_content serial (blind_content h content) ≡ blind_content h (unlinked_content serial content)
unlinked_blind h serial (Payload bytes) = refl
unlinked_blind h serial (Links serials) = refl

pub without_blind : (h : List ℕ → List ℕ) (serial : ℕ) (v : Key)
    → without_link serial (blind_key h v) ≡ blind_key h (without_link serial v)
without_blind h serial v = grind (arith, common_steps, unlinked_blind)
