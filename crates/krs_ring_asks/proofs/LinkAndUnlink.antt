-- LINK and UNLINK, from what the store has looked up to what they come to.
use Rattle.std.proofs.Common.{◌∙◌, ◌≡◌, arith, Bool, Err, false, FitsSigned, IfSome, IsSome, List, nat_lt, None}
use Rattle.std.proofs.Common.{of_z, Ok, Option, option_map, refl, Result, Some, subst, sym, to_z, true, true≢false, w32}
use Rattle.std.proofs.{Common.{ℕ, ℤ}, lemmas.{Bool.Decides.nat_tests, Int.to_z-of_z}}
use Rattle.krs_types.specs.{Refusing.{◌>>=◌, or_refuse}, Rights.{LINK, WRITE}, declared.ask.Answer.Answer}
use Rattle.krs_types.specs.declared.{ask.Answer.TheVariants.Nothing, context.Context.Context, errno.Errno.Errno}
use Rattle.krs_types.specs.declared.{errno.Errno.TheVariants.{ENOKEY, EPERM}, fault.Fault.Fault}
use Rattle.krs_types.specs.declared.{fault.Fault.TheVariants.{Memory, Refused}, rights.Want.{Want, TheVariants.Granted}}
use Rattle.krs_model.specs.Asks.{Adding.IsKeyringAt, Changing.changed}
use Rattle.krs_model.specs.Asks.Linked.{if_linked, link, name_of, nestable, unless, unlink, without_link}
use Rattle.krs_model.specs.Linking.{linking, ring_links}
use Rattle.krs_model.specs.{Lookup.{context_of, look_up, serial_of}, Making.{made_for, within_serials}, Outcome.Fails}
use Rattle.krs_model.specs.{Possession.links_of_content, Reach.links_of_key_at}
use Rattle.krs_model.specs.{State.{Content, Key, Links, Payload, State}, Table.at}
use Rattle.krs_model.proofs.Lookups.Laws.{look_up_usable}
use Rattle.krs_tables.specs.Linked.{name_in, Puts, room_in, Takes}
use Rattle.std.proofs.lemmas.Grind.{common_steps}

-- a keyring that was looked up
pub record IsFoundRing (s : State) (ring : ℕ × Key) : Type 0 where
  pub there : at s.keys ring.0 ≡ Some ring.1
  pub links : ring_links ring.1.content ≡ Ok (links_of_key_at s.keys ring.0)

links_are : (content : Content) (links : List ℕ) → ring_links content ≡ Ok links
    → ring_links content ≡ Ok (links_of_content content)
links_are (Payload bytes) links h = absurd cc
links_are (Links serials) links h = refl

pub ring_at_hand : (s : State) (ring : ℕ × Key) (links : List ℕ) → at s.keys ring.0 ≡ Some ring.1
    → ring_links ring.1.content ≡ Ok links → IsFoundRing s ring
ring_at_hand s ring links there is = grind (arith, common_steps, links_are)

pub found_ring : (s : State) (c : Context) (id : ℤ) (ring : ℕ × Key) (links : List ℕ)
    → look_up s c id (Granted WRITE) ≡ Ok ring → ring_links ring.1.content ≡ Ok links → IsFoundRing s ring
found_ring s c id ring links found is =
    ring_at_hand s ring links (look_up_usable s c id (Granted WRITE) ring found).there is

ring_content : (content : Content) (links : List ℕ) → ring_links content ≡ Ok links
    → (serials : List ℕ) × (content ≡ Links serials)
ring_content (Payload bytes) links h = absurd cc
ring_content (Links serials) links h = (serials, refl)

pub found_is_ring : (s : State) (ring : ℕ × Key) → IsFoundRing s ring → IsKeyringAt s ring.0
found_is_ring s ring is = grind (arith, common_steps, ring_content)

-- what is not refused does not hold
pub not_refused : (bad : Bool) (e : Errno) (x : Unit {0}) → unless bad e ≡ Ok x → bad ≡ false
not_refused true e x h = absurd cc
not_refused false e x h = refl

-- a keyring that takes links is not closed
pub open_ring : (ring : Key) → unless ring.closed EPERM ≡ Ok (tt {0}) → ring.closed ≡ false
open_ring ring h = not_refused ring.closed EPERM (tt {0}) h

-- what LINK has looked up
pub record LooksUp (s : State) (client context : ℕ) (key ring : ℤ) (c : Context) (into found : ℕ × Key) : Type 0 where
  pub own : context_of s client context ≡ Ok c
  pub made : made_for s context c ring ≡ (s, c)
  pub ring_found : look_up s c ring (Granted WRITE) ≡ Ok into
  pub key_found : look_up s c key (Granted LINK) ≡ Ok found
  pub is_ring : IsFoundRing s into
  pub unclosed : into.1.closed ≡ false
  pub nests : nestable s.keys into.0 found.0 ≡ Ok (tt {0})

-- ids come as numbers of 32 bits, and are read as signed ones
pub looks_up : (s : State) (client context : ℕ) (key ring : ℤ) (c : Context) (into found : ℕ × Key) (links : List ℕ)
    → FitsSigned w32 key → FitsSigned w32 ring → context_of s client context ≡ Ok c
    → made_for s context c ring ≡ (s, c) → look_up s c (to_z w32 (of_z w32 ring)) (Granted WRITE) ≡ Ok into
    → look_up s c (to_z w32 (of_z w32 key)) (Granted LINK) ≡ Ok found → ring_links into.1.content ≡ Ok links
    → unless into.1.closed EPERM ≡ Ok (tt {0})
    → nestable s.keys into.0 found.0 ≡ Ok (tt {0}) → LooksUp s client context key ring c into found
looks_up s client context key ring c into found links key_fits ring_fits own made ring_found key_found is opens nests =
    grind (arith, common_steps, to_z-of_z, w32, found_ring, open_ring)

-- the keyring that LINK has looked up
pub ring_looked_up : (s : State) (ring : ℤ) (c : Context) (into : ℕ × Key) (links : List ℕ) → FitsSigned w32 ring
    → look_up s c (to_z w32 (of_z w32 ring)) (Granted WRITE) ≡ Ok into → ring_links into.1.content ≡ Ok links
    → IsKeyringAt s into.0
ring_looked_up s ring c into links ring_fits ring_found is =
    found_is_ring s into (found_ring s c (to_z w32 (of_z w32 ring)) into links ring_found is)

pub key_looked_up : (s : State) (id : ℤ) (c : Context) (want : Want) (found : ℕ × Key)
    → look_up s c id want ≡ Ok found → at s.keys found.0 ≡ Some found.1
key_looked_up s id c want found is = (look_up_usable s c id want found is).there

-- an ask that takes no serials is within them
pub within_as :
    (s t : State) (a : Answer) → t.next_serial ≡ s.next_serial → within_serials s (Ok (t, a)) ≡ Ok (t, a)
within_as s t a same = grind (arith, common_steps, nat_lt, nat_tests)

answered :
    (room : Result (Unit {0}) Errno) (x : State)
    → ◌>>=◌ {B = State × Answer} (room >>= (λ there. Ok x)) (λ new. Ok (new, Nothing))
    ≡ ◌>>=◌ {B = State × Answer} room (λ there. Ok (x, Nothing))
answered (Ok there) x = refl
answered (Err e) x = refl

-- LINK comes to what the room of the keyring says
link_met : (s : State) (client context : ℕ) (key ring : ℤ) (c : Context) (into found : ℕ × Key)
    → LooksUp s client context key ring c into found → link s client context key ring
    ≡ within_serials s (room_in s.keys into.0 (name_of found.1)
    >>= (λ room. Ok (changed s into.0 (linking s.keys (name_of found.1) found.0), Nothing)))
unfolding link
link_met s client context key ring c into found l = grind (arith, common_steps, answered)

-- the link of a key that is there has the key's name
pub put_under : (s new : State) (r : Result (Unit {0}) Fault) (ring serial : ℕ) (key : Key)
    → at s.keys serial ≡ Some key → IfSome (name_in s serial) (λ name. Puts s r new ring name serial)
    → Puts s r new ring (name_of key) serial
put_under s new r ring serial key there h = grind (arith, common_steps, option_map)

pub link_done : (s new : State) (client context : ℕ) (key ring : ℤ) (c : Context) (into found : ℕ × Key)
    → LooksUp s client context key ring c into found → Puts s (Ok (tt {0})) new into.0 (name_of found.1) found.0
    → link s client context key ring ≡ Ok (new, Nothing)
link_done s new client context key ring c into found l puts =
    let changes = changed s into.0 (linking s.keys (name_of found.1) found.0) in
    link_met s client context key ring c into found l
    ∙ (rw (puts.0, puts.1) (within_as s changes Nothing refl))

-- no room, or no memory where there is room
failed_room : (s t : State) (room : Result (Unit {0}) Errno) (a : Answer) (e : Fault)
    → t.next_serial ≡ s.next_serial → Fails e room → Fails e (within_serials s (room >>= (λ there. Ok (t, a))))
failed_room s t (Ok there) a Memory same h = rw (within_as s t a same) refl
failed_room s t (Err x) a Memory same h = absurd cc
failed_room s t room a (Refused x) same h = rw h refl

pub link_failed : (s new : State) (client context : ℕ) (key ring : ℤ) (c : Context) (into found : ℕ × Key) (e : Fault)
    → LooksUp s client context key ring c into found → Puts s (Err e) new into.0 (name_of found.1) found.0
    → Fails e (link s client context key ring) × (new ≡ s)
link_failed s new client context key ring c into found e l puts = (
  subst (Fails e) (sym (link_met s client context key ring c into found l))
      (failed_room s (changed s into.0 (linking s.keys (name_of found.1) found.0))
      (room_in s.keys into.0 (name_of found.1)) Nothing e refl puts.0),
  puts.1,
)

-- what UNLINK has looked up
pub record LooksFor (s : State) (client context : ℕ) (key ring : ℤ) (c : Context) (from : ℕ × Key)
    (serial : ℕ) : Type 0 where
  pub own : context_of s client context ≡ Ok c
  pub ring_found : look_up s c ring (Granted WRITE) ≡ Ok from
  pub named : serial_of s c key ≡ Ok serial
  pub there : IsSome (at s.keys serial)
  pub is_ring : IsFoundRing s from

pub looks_for : (s : State) (client context : ℕ) (key ring : ℤ) (c : Context) (from : ℕ × Key) (serial : ℕ)
    (links : List ℕ) → FitsSigned w32 key → FitsSigned w32 ring → context_of s client context ≡ Ok c
    → look_up s c (to_z w32 (of_z w32 ring)) (Granted WRITE) ≡ Ok from
    → serial_of s c (to_z w32 (of_z w32 key)) ≡ Ok serial → IsSome (at s.keys serial)
    → ring_links from.1.content ≡ Ok links → LooksFor s client context key ring c from serial
looks_for s client context key ring c from serial links key_fits ring_fits own ring_found named there is =
    grind (arith, common_steps, to_z-of_z, w32, found_ring)

some_or : (o : Option Key) → IsSome o → (k : Key) × (or_refuse ENOKEY o ≡ Ok k)
some_or None h = absurd (true≢false (sym h))
some_or (Some k) h = (k, refl)

unlink_met : (s : State) (client context : ℕ) (key ring : ℤ) (c : Context) (from : ℕ × Key) (serial : ℕ)
    → LooksFor s client context key ring c from serial → unlink s client context key ring
    ≡ (if_linked serial (links_of_key_at s.keys from.0) >>=
    (λ linked. Ok (changed s from.0 (without_link serial), Nothing)))
unfolding unlink
unlink_met s client context key ring c from serial l = grind (arith, common_steps, some_or)

pub unlink_done : (s new : State) (client context : ℕ) (key ring : ℤ) (c : Context) (from : ℕ × Key) (serial : ℕ)
    → LooksFor s client context key ring c from serial → Takes s (Ok (tt {0})) new from.0 serial
    → unlink s client context key ring ≡ Ok (new, Nothing)
unlink_done s new client context key ring c from serial l takes =
    unlink_met s client context key ring c from serial l ∙ rw (takes.0, takes.1) refl

pub unlink_failed : (s new : State) (client context : ℕ) (key ring : ℤ) (c : Context) (from : ℕ × Key) (serial : ℕ)
    (e : Errno) → LooksFor s client context key ring c from serial → Takes s (Err e) new from.0 serial
    → (unlink s client context key ring ≡ Err e) × (new ≡ s)
unlink_failed s new client context key ring c from serial e l takes =
    (unlink_met s client context key ring c from serial l ∙ rw (takes.0, takes.1.0) refl, takes.1.1)
