-- MOVE, from what the store has looked up to what it comes to.
use Rattle.std.proofs.Common.{[], ⊎_elim, ◌&&◌, ◌==◌, ◌∙◌, ◌≡◌, ◌≢◌, ap, Bool, cond, eqb-true, Err, false, FitsSigned}
use Rattle.std.proofs.Common.{IfSome, is_some, IsSome, List, nat_lt, None, of_z, Ok, Option, option_map, refl, Result}
use Rattle.std.proofs.Common.{arith, Some, sym, to_z, true, true≢false, w32, ℕ, ℤ}
use Rattle.std.proofs.lemmas.{Int.to_z-of_z, Option.none-some}
use Rattle.krs_types.specs.{Refusing.{◌>>=◌}, Rights.{LINK, WRITE}, declared.ask.Answer.Answer}
use Rattle.krs_types.specs.declared.{ask.Answer.TheVariants.Nothing, context.Context.Context, errno.Errno.Errno}
use Rattle.krs_types.specs.declared.errno.Errno.TheVariants.{EINVAL, ELOOP, ENOSPC}
use Rattle.krs_types.specs.declared.fault.Fault.{Fault, TheVariants.{Memory, Refused}}
use Rattle.krs_types.specs.declared.{name.Name.Name, rights.Want.TheVariants.Granted}
use Rattle.krs_model.specs.Asks.Changing.{changed}
use Rattle.krs_model.specs.Asks.Linked.{if_linked, linked_into, name_of, nestable, unless, without_link}
use Rattle.krs_model.specs.Asks.Moving.{move_link, moved, moved_over, moved_to}
use Rattle.krs_model.specs.{Levels.is_in, Linking.{link_named, linking, ring_links}, Lookup.{context_of, look_up}}
use Rattle.krs_model.specs.Making.{made_for, special_ring, within_serials}
use Rattle.krs_model.specs.{Outcome.{Fails, Outcome}, Reach.{has_chain, links_of_key_at, nesting_depth}}
use Rattle.krs_model.specs.{State.{Key, State}, Table.{alter, at, Table}}
use Rattle.krs_model.proofs.Asks.Later.{bind_ok, same_ok, same_state, within_ok}
use Rattle.krs_model.proofs.Asks.LaterByAsk.{IsMoved, linked_into_is, moved_is, Moves, Stays}
use Rattle.krs_model.proofs.{Lookups.Laws.look_up_usable, MadeKeyring.{Links.linked_into_new, Lookups.look_up_new}}
use Rattle.krs_model.proofs.{MadeKeyring.State.at_other, Tables.Changes.{at_alter_other, at_or_apart}}
use Rattle.krs_links.specs.Links.{serial_named}
use Rattle.krs_keys.specs.Keys.{FindsByName, named_links_of_content, seen}
use Rattle.krs_keys.proofs.KeysLemmas.{serials-content}
use Rattle.krs_tables.specs.{Linked.{name_in, Puts, room_in}, Specials.{linking_made, special_name, with_ring}}
use Rattle.krs_tables.specs.declared.making.Special.{Special, TheVariants.{Process, Thread}}
use Rattle.krs_tables.proofs.MadeFor.{before, behind, context_with, IsNew}
use Rattle.krs_ring_asks.specs.Moved.{moved_at, moved_links, moved_new}
use Rattle.krs_ring_asks.proofs.LinkAndUnlink.{IsFoundRing, put_under, within_as}
use Rattle.krs_keys.specs.declared.key.Key as keys
use Rattle.krs_ring_asks.specs.Moved as specs
use Rattle.std.proofs.lemmas.Grind.{common_steps}

-- what takes no serial is within them
within_same :
    (s : State) (r : Outcome) → ((x : State × Answer) → r ≡ Ok x → x.0.next_serial ≡ s.next_serial)
    → within_serials s r ≡ r
within_same s (Err e) same = refl
within_same s (Ok x) same = within_as s x.0 x.1 (same x refl)

-- a move takes none
is_moved_serial :
    (s : State) (found from into : ℕ × Key) (new : State) → IsMoved s found from into new
    → new.next_serial ≡ s.next_serial
is_moved_serial s found from into _ Stays = refl
is_moved_serial s found from into _ (Moves mid linked) = grind (arith, common_steps, linked_into_is)

moved_serial :
    (s : State) (c : Context) (exclusive : Bool) (found from : ℕ × Key) (to : ℤ) (x : State × Answer)
    → moved_to s c exclusive found from to ≡ Ok x → x.0.next_serial ≡ s.next_serial
moved_serial s c exclusive found from to x h = grind (arith, common_steps, bind_ok, same_ok, is_moved_serial, moved_is)

-- what MOVE has looked up before the second keyring
pub record LooksUpMoved (s : State) (client number : ℕ) (key from : ℤ) (flags : ℕ) (c : Context)
    (found source : ℕ × Key) : Type 0 where
  pub own : context_of s client number ≡ Ok c
  pub known : unless (nat_lt 1 flags) EINVAL ≡ Ok (tt {0})
  pub key_found : look_up s c key (Granted LINK) ≡ Ok found
  pub ring_found : look_up s c from (Granted WRITE) ≡ Ok source

-- into a keyring that is there
pub move_at_is :
    (s : State) (client number : ℕ) (key from to : ℤ) (flags : ℕ) (c : Context) (found source : ℕ × Key)
    → LooksUpMoved s client number key from flags c found source → made_for s number c to ≡ (s, c)
    → move_link s client number key from to flags ≡ moved_at s client number found.0 source.0 to flags
unfolding move_link
move_at_is s client number key from to flags c found source l made =
    let goes = moved_to s c (flags == 1) found source to in
    let key_there = (look_up_usable s c key (Granted LINK) found l.key_found).there in
    let ring_there = (look_up_usable s c from (Granted WRITE) source l.ring_found).there in
    let here : move_link s client number key from to flags ≡ within_serials s goes =
    rw (l.own, l.known, l.key_found, l.ring_found, made) refl in
    let there : moved_at s client number found.0 source.0 to flags ≡ goes = rw (l.own, key_there, ring_there) refl in
    here ∙ (within_same s goes (λ x h. moved_serial s c (flags == 1) found source to x h) ∙ sym there)

-- a keyring without links has none of that name
none_displaced :
    (t : State) (exclusive : Bool) (found : ℕ × Key) (from : ℕ) (into : ℕ × Key)
    → moved_over t exclusive found from into []
    ≡ (linked_into t into found >>= (λ mid. Ok (changed mid from (without_link found.0))))
none_displaced t true found from into = refl
none_displaced t false found from into = refl

-- one link less takes no serial
room_kept :
    (b : Bool) (x : State) (from serial : ℕ)
    → cond b (Err ENOSPC) (Ok (changed x from (without_link serial), Nothing))
    ≡ ◌>>=◌ {A = State × Answer} {B = State × Answer} (cond b (Err ENOSPC) (Ok (x, Nothing)))
    (λ made. Ok (changed made.0 from (without_link serial), made.1))
room_kept true x from serial = refl
room_kept false x from serial = refl

-- the same links and refusals, with the serials looked at before the link goes out, or behind it
abbrev going : State → ℕ → ℕ → Result (Unit {0}) Errno → Result State Errno
going x from serial nests =
    ◌>>=◌ {B = State} (nests >>= (λ n. Ok x)) (λ mid. Ok (changed mid from (without_link serial)))

abbrev coming : State → State → ℕ → ℕ → Result (Unit {0}) Errno → Outcome
coming s x from serial nests =
    ◌>>=◌ {A = State × Answer} {B = State × Answer} (nests >>= (λ n. within_serials s (Ok (x, Nothing))))
    (λ made. Ok (changed made.0 from (without_link serial), made.1))

nested_within :
    (s x : State) (from serial : ℕ) (nests : Result (Unit {0}) Errno)
    → within_serials s (going x from serial nests >>= (λ (new : State). Ok (new, Nothing)))
    ≡ coming s x from serial nests
nested_within s x from serial (Err e) = refl
nested_within s x from serial (Ok n) = grind (arith, common_steps, room_kept, nat_lt)

linked_within :
    (s x : State) (from serial : ℕ) (there : Result ℕ Errno) (nests : Result (Unit {0}) Errno)
    → within_serials s ((there >>= (λ k. going x from serial nests)) >>= (λ (new : State). Ok (new, Nothing)))
    ≡ (there >>= (λ k. coming s x from serial nests))
linked_within s x from serial (Err e) nests = refl
linked_within s x from serial (Ok k) nests = nested_within s x from serial nests

links_within :
    (s x : State) (from serial : ℕ) (links : Result (List ℕ) Errno) (nests : Result (Unit {0}) Errno)
    → within_serials s ((links >>= (λ l. if_linked serial l >>= (λ k. going x from serial nests)))
    >>= (λ (new : State). Ok (new, Nothing)))
    ≡ (links >>= (λ l. if_linked serial l >>= (λ k. coming s x from serial nests)))
links_within s x from serial (Err e) nests = refl
links_within s x from serial (Ok l) nests = linked_within s x from serial (if_linked serial l) nests

not_one : (a b : ℕ) → a ≢ b → (a == b) ≡ false
not_one a b other = grind (arith, common_steps, eqb-true)

-- into a keyring that is made for it
pub move_new_is :
    (special : Special) (s : State) (client number : ℕ) (key from to : ℤ) (flags : ℕ) (c : Context)
    (found source : ℕ × Key)
    → LooksUpMoved s client number key from flags c found source → IsNew special s number c to
    → move_link s client number key from to flags ≡ moved_new special s client number found.0 source.0
unfolding move_link
move_new_is special s client number key from to flags c found source l new =
    let t = with_ring special s number c in
    let d = context_with special s c in
    let n = s.next_serial in
    let desc = (special_name special).desc in
    let into : ℕ × Key = (n, special_ring desc c.caller) in
    let exclusive = flags == 1 in
    let there = (look_up_usable s c key (Granted LINK) found l.key_found).there in
    let source_there = (look_up_usable s c from (Granted WRITE) source l.ring_found).there in
    let unused : (k : ℕ) (v : Key) → at s.keys k ≡ Some v → k ≢ n = λ k v is e.
    none-some v (sym (ap (λ (z : ℕ). at s.keys z) e ∙ new.fit.none) ∙ is) in
    let nests : Result (Unit {0}) Errno = unless (has_chain s.keys found.0 nesting_depth) ELOOP in
    let x : State = changed t n (linking t.keys (name_of found.1) found.0) in
    let over : cond (source.0 == n) (Ok t) (moved_over t exclusive found source.0 into [])
    ≡ going x source.0 found.0 nests =
    ap (λ (b : Bool). cond b (Ok t) (moved_over t exclusive found source.0 into []))
    (not_one source.0 n (unused source.0 source.1 source_there))
    ∙ (none_displaced t exclusive found source.0 into
    ∙ ap (λ (r : Result State Errno). r >>= (λ mid. Ok (changed mid source.0 (without_link found.0))))
    (linked_into_new s t c d desc (before special c) (behind special s c) found new.made new.fit.linked new.fit.none
    (unused found.0 found.1 there))) in
    let by_links : Result State Errno → Result State Errno = λ r.
    ring_links source.1.content >>= (λ links. if_linked found.0 links >>= (λ k. r)) in
    let goes : ℕ × Key → Outcome = λ to_ring. moved t exclusive found source to_ring >>= (λ y. Ok (y, Nothing)) in
    let looked : moved_to t d exclusive found source to ≡ goes into =
    ap (λ (r : Result (ℕ × Key) Errno). r >>= goes)
    (look_up_new s t c d desc (before special c) (behind special s c) to WRITE new.made new.named refl) in
    let here : move_link s client number key from to flags
    ≡ within_serials s (moved_to t d exclusive found source to) =
    rw (l.own, l.known, l.key_found, l.ring_found)
    (ap (λ (y : State × Context). within_serials s (moved_to y.0 y.1 exclusive found source to)) new.is) in
    let through : within_serials s (goes into)
    ≡ within_serials s (by_links (going x source.0 found.0 nests) >>= (λ (y : State). Ok (y, Nothing))) =
    ap (λ (r : Result State Errno). within_serials s (by_links r >>= (λ (y : State). Ok (y, Nothing)))) over in
    let back : moved_new special s client number found.0 source.0
    ≡ (ring_links source.1.content >>= (λ links. if_linked found.0 links
    >>= (λ k. coming s x source.0 found.0 nests))) = rw (source_there, l.own, there) refl in
    here ∙ (ap (within_serials s) looked ∙ (through
    ∙ (links_within s x source.0 found.0 (ring_links source.1.content) nests ∙ sym back)))

-- ids come as numbers of 32 bits, and are read as signed ones
pub looks_up_moved :
    (s : State) (client number : ℕ) (key from : ℤ) (flags : ℕ) (c : Context) (found source : ℕ × Key)
    → FitsSigned w32 key → FitsSigned w32 from → context_of s client number ≡ Ok c
    → unless (nat_lt 1 flags) EINVAL ≡ Ok (tt {0})
    → look_up s c (to_z w32 (of_z w32 key)) (Granted LINK) ≡ Ok found
    → look_up s c (to_z w32 (of_z w32 from)) (Granted WRITE) ≡ Ok source
    → LooksUpMoved s client number key from flags c found source
looks_up_moved s client number key from flags c found source key_fits from_fits own known key_found
    ring_found =
    grind (arith, common_steps, to_z-of_z, w32)

-- ---- the link that goes out
-- another keyring keeps its links
links_stay :
    (keys : Table Key) (ring other : ℕ) (f : Key → Key) → other ≢ ring
    → links_of_key_at (alter keys ring f) other ≡ links_of_key_at keys other
links_stay keys ring other f apart = grind (arith, common_steps, ⊎_elim, at_alter_other, at_or_apart)

-- what is linked, by the test
pub linked_is : (serial : ℕ) (links : List ℕ) (x : ℕ) → if_linked serial links ≡ Ok x → is_in serial links ≡ true
linked_is serial links x h = grind (arith, common_steps)

some_is : (o : Option Key) → IsSome o → (k : Key) × (o ≡ Some k)
some_is None h = absurd (true≢false (sym h))
some_is (Some k) h = (k, refl)

-- the first keyring still links the key once the second does
pub put_leaves :
    (s mid : State) (from into serial : ℕ) → IsSome (at s.keys serial) → from ≢ into
    → IfSome (name_in s serial) (λ name. Puts s (Ok (tt {0})) mid into name serial)
    → is_in serial (links_of_key_at s.keys from) ≡ true → is_in serial (links_of_key_at mid.keys from) ≡ true
put_leaves s mid from into serial there apart puts linked = grind (arith, common_steps, some_is, put_under, links_stay)

at_with_ring :
    (special : Special) (s : State) (number : ℕ) (c : Context) (k : ℕ) → k ≢ s.next_serial
    → at (with_ring special s number c).keys k ≡ at s.keys k
at_with_ring Thread s number c k other = at_other s.keys s.next_serial k _ other
at_with_ring Process s number c k other = at_other s.keys s.next_serial k _ other

-- and once a keyring was made that does
pub making_leaves :
    (special : Special) (s mid : State) (client number serial from : ℕ) (answer : Answer)
    → at s.keys s.next_serial ≡ None → linking_made special s client number serial Nothing ≡ Ok (mid, answer)
    → is_in serial (links_of_key_at s.keys from) ≡ true → is_in serial (links_of_key_at mid.keys from) ≡ true
making_leaves special s mid client number serial from answer none h linked =
    grind (arith, common_steps, bind_ok, same_state, within_ok, true≢false, links_stay, at_with_ring)

-- ---- into a keyring that is there
-- whether a keyring has a link of that name
pub free_told :
    (s : State) (into : ℕ) (ring : keys.Key) (name : Name) (exclusive : Bool) → at s.keys into ≡ Some (seen ring)
    → FindsByName s.keys ring
    → (exclusive && is_some (serial_named (named_links_of_content ring.content) name)) ≡ false
    → (exclusive && is_some (link_named s.keys name (links_of_key_at s.keys into))) ≡ false
free_told s into ring name exclusive there finds free = grind (arith, common_steps, serials-content, is_some)

-- what a move into a keyring that is there has looked up and tested
pub record MayMove (s : State) (client number serial from : ℕ) (to : ℤ) (flags : ℕ) (c : Context) (key source : Key)
    (into : ℕ × Key) : Type 0 where
  pub own : context_of s client number ≡ Ok c
  pub there : at s.keys serial ≡ Some key
  pub is_source : IsFoundRing s (from, source)
  pub ring_found : look_up s c to (Granted WRITE) ≡ Ok into
  pub is_ring : IsFoundRing s into
  pub linked : is_in serial (links_of_key_at s.keys from) ≡ true
  pub apart : (from == into.0) ≡ false
  pub free :
      ((flags == 1) && is_some (link_named s.keys (name_of key) (links_of_key_at s.keys into.0))) ≡ false
  pub unclosed : into.1.closed ≡ false
  pub nests : nestable s.keys into.0 serial ≡ Ok (tt {0})

move_answered :
    (room : Result (Unit {0}) Errno) (x : State) (from serial : ℕ)
    → ◌>>=◌ {B = State × Answer} (◌>>=◌ {B = State} (◌>>=◌ {B = State} room (λ there. Ok x))
    (λ new. Ok (changed new from (without_link serial)))) (λ new. Ok (new, Nothing))
    ≡ ◌>>=◌ {B = State × Answer} room (λ there. Ok (changed x from (without_link serial), Nothing))
move_answered (Ok there) x from serial = refl
move_answered (Err e) x from serial = refl

-- it comes to what the room of the keyring says
move_met :
    (s : State) (client number serial from : ℕ) (to : ℤ) (flags : ℕ) (c : Context) (key source : Key)
    (into : ℕ × Key)
    → MayMove s client number serial from to flags c key source into
    → moved_at s client number serial from to flags
    ≡ (room_in s.keys into.0 (name_of key)
    >>= (λ room. Ok (moved_links s from into.0 (name_of key) serial, Nothing)))
move_met s client number serial from to flags c key source into l = grind (arith, common_steps, move_answered)

-- the link of a key that is there has the key's name
moves_under :
    (s new : State) (r : Result (Unit {0}) Fault) (from into serial : ℕ) (key : Key) → at s.keys serial ≡ Some key
    → IfSome (name_in s serial) (λ name. specs.Moves s r new from into name serial)
    → specs.Moves s r new from into (name_of key) serial
moves_under s new r from into serial key there h = grind (arith, common_steps, option_map)

pub move_done :
    (s new : State) (client number serial from : ℕ) (to : ℤ) (flags : ℕ) (c : Context) (key source : Key)
    (into : ℕ × Key)
    → MayMove s client number serial from to flags c key source into
    → IfSome (name_in s serial) (λ name. specs.Moves s (Ok (tt {0})) new from into.0 name serial)
    → moved_at s client number serial from to flags ≡ Ok (new, Nothing)
move_done s new client number serial from to flags c key source into l moves =
    grind (arith, common_steps, moves_under, move_met)

-- no room, or no memory where there is room
fails_room :
    (room : Result (Unit {0}) Errno) (x : State × Answer) (e : Fault) → Fails e room
    → Fails e (room >>= (λ there. Ok x))
fails_room (Ok there) x Memory h = refl
fails_room (Err y) x Memory h = absurd cc
fails_room room x (Refused e) h = rw h refl

pub move_failed :
    (s new : State) (client number serial from : ℕ) (to : ℤ) (flags : ℕ) (c : Context) (key source : Key)
    (into : ℕ × Key) (e : Fault)
    → MayMove s client number serial from to flags c key source into
    → IfSome (name_in s serial) (λ name. specs.Moves s (Err e) new from into.0 name serial)
    → Fails e (moved_at s client number serial from to flags) × (new ≡ s)
move_failed s new client number serial from to flags c key source into e l moves =
    grind (arith, common_steps, moves_under, move_met, fails_room)
