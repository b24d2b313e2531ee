-- SEARCH and REQUEST with a destination, from what the store has looked up to what they come to.
use Rattle.std.proofs.Common.{◌∙◌, ◌≡◌, ap, arith, Err, FitsSigned, List, negsuc, None, of_z, Ok, Option, pos}
use Rattle.std.proofs.{Common.{refl, Result, Some, suc, sym, to_z, true, w32, zero, ℕ, ℤ}, lemmas.Int.to_z-of_z}
use Rattle.krs_types.specs.{Growth.has_destination, Refusing.{◌>>=◌, or_refuse}, Rights.{SEARCH, WRITE}}
use Rattle.krs_types.specs.declared.ask.Answer.{Answer, TheVariants.Number}
use Rattle.krs_types.specs.declared.{context.Context.Context, errno.Errno.{Errno, TheVariants.{ENOKEY, EPERM}}}
use Rattle.krs_types.specs.declared.{name.Name.Name, rights.Want.TheVariants.Granted}
use Rattle.krs_model.specs.Asks.{Changing.changed, Finding.{found_into, if_linkable, requested_into, sought_into}}
use Rattle.krs_model.specs.{Asks.Linked.{linked_into, name_of, nestable, unless}, Linking.{linking, ring_links}}
use Rattle.krs_model.specs.{Lookup.{context_of, look_up}, Making.{made_for, within_serials}, Outcome.{Is, Outcome}}
use Rattle.krs_model.specs.{Search.{found, requested}, State.{Key, State}}
use Rattle.krs_tables.specs.Linked.{room_in}
use Rattle.krs_ring_asks.specs.Found.{if_granted, link_found, request_named, search_named}
use Rattle.krs_ring_asks.proofs.LinkAndUnlink.{IsFoundRing, within_as}
use Rattle.std.proofs.lemmas.Grind.{common_steps}

-- what was sought, as it was found
pub as_sought : (found meant : Result Name Errno) → Is (λ name. name) found meant → meant ≡ found
as_sought (Ok name) meant is = is
as_sought (Err e) meant is = is

-- a link whose tests are these
by_tests :
    (s t : State) (answer : Answer) (unclosed nests room : Result (Unit {0}) Errno) → t.next_serial ≡ s.next_serial
    → within_serials s (◌>>=◌ {B = State × Answer} (◌>>=◌ {B = State} (unclosed >>= (λ w. nests >>= (λ x. room)))
    (λ y. Ok t)) (λ new. Ok (new, answer)))
    ≡ ◌>>=◌ {B = State × Answer} unclosed (λ w. nests >>= (λ x. room >>= (λ y. Ok (t, answer))))
by_tests s t answer (Ok w) (Ok x) (Ok y) same = within_as s t answer same
by_tests s t answer (Ok w) (Ok x) (Err e) same = refl
by_tests s t answer (Ok w) (Err e) room same = refl
by_tests s t answer (Err e) nests room same = refl

-- the link of a key that was found
abbrev linked_tests : State → ℕ × Key → ℕ → Key → Outcome
linked_tests s into serial key =
    unless into.1.closed EPERM >>= (λ unclosed. nestable s.keys into.0 serial >>= (λ nests.
    room_in s.keys into.0 (name_of key) >>= (λ room.
    Ok (changed s into.0 (linking s.keys (name_of key) serial), Number serial))))

into_is :
    (s : State) (into : ℕ × Key) (serial : ℕ) (key : Key) → IsFoundRing s into
    → within_serials s (◌>>=◌ {B = State × Answer} (linked_into s into (serial, key))
    (λ new. Ok (new, Number serial)))
    ≡ linked_tests s into serial key
into_is s into serial key is =
    rw is.links (by_tests s (changed s into.0 (linking s.keys (name_of key) serial)) (Number serial)
    (unless into.1.closed EPERM) (nestable s.keys into.0 serial) (room_in s.keys into.0 (name_of key)) refl)

by_key :
    (s : State) (c : Context) (into : ℕ × Key) (serial : ℕ) (o : Option Key) → IsFoundRing s into
    → within_serials s (or_refuse ENOKEY o >>= (λ key. if_linkable s c serial key
    >>= (λ l. linked_into s into l >>= (λ new. Ok (new, Number serial)))))
    ≡ ((or_refuse ENOKEY o >>= (λ key. if_granted s c serial key)) >>= (λ key. linked_tests s into serial key))
by_key s c into serial None is = refl
by_key s c into serial (Some key) is = grind (arith, common_steps, into_is)

-- a found key is linked where it grants LINK and the tests of a link let it through
pub found_is :
    (s : State) (client number : ℕ) (c : Context) (into : ℕ × Key) (serial : ℕ) → context_of s client number ≡ Ok c
    → IsFoundRing s into → within_serials s (found_into s c into (Ok serial))
    ≡ link_found s client number into.0 serial
found_is s client number c into serial own is = grind (arith, common_steps, by_key)

-- what SEARCH has looked up, with a destination that is there
pub record Seeks (s : State) (client number : ℕ) (head : ℤ) (sought : Result Name Errno) (dest : ℤ) (c : Context)
    (name : Name) (from : ℕ × Key) : Type 0 where
  pub own : context_of s client number ≡ Ok c
  pub named : sought ≡ Ok name
  pub from_found : look_up s c head (Granted SEARCH) ≡ Ok from
  pub made : made_for s number c dest ≡ (s, c)
  pub wanted : has_destination dest ≡ true

-- a number that is not 0 is a destination
pub wanted_of : (z : ℤ) → (of_z w32 z ≡ 0 → ⊥) → has_destination z ≡ true
wanted_of (pos zero) h = absurd (h refl)
wanted_of (pos (suc n)) h = refl
wanted_of (negsuc n) h = refl

module _ (s : State) (client number : ℕ) (head : ℤ) (sought : Result Name Errno) (dest : ℤ) (c : Context)
    (name : Name) (from : ℕ × Key) where
  search_is : Seeks s client number head sought dest c name from
      → search_named s client number head sought dest ≡ within_serials s (sought_into s c from name dest)
  unfolding search_named
  search_is seeks = rw (seeks.own, seeks.named, seeks.from_found, seeks.wanted, seeks.made) refl

  pub seeks : FitsSigned w32 head → FitsSigned w32 dest → context_of s client number ≡ Ok c → sought ≡ Ok name
      → look_up s c (to_z w32 (of_z w32 head)) (Granted SEARCH) ≡ Ok from → (of_z w32 dest ≡ 0 → ⊥)
      → made_for s number c (to_z w32 (of_z w32 dest)) ≡ (s, c)
      → Seeks s client number head sought dest c name from
  seeks head_fits dest_fits own named from_found wanted made =
      record {
        own = own;
        named = named;
        from_found = ap (λ id. look_up s c id (Granted SEARCH)) (sym (to_z-of_z w32 head head_fits)) ∙ from_found;
        made = ap (made_for s number c) (sym (to_z-of_z w32 dest dest_fits)) ∙ made;
        wanted = wanted_of dest wanted;
      }

  -- a search whose destination and key were found comes to the link of the key
  pub search_links : (into : ℕ × Key) (links : List ℕ) (serial : ℕ)
      → Seeks s client number head sought dest c name from → look_up s c dest (Granted WRITE) ≡ Ok into
      → ring_links from.1.content ≡ Ok links → IsFoundRing s into → found s c from.0 name ≡ Ok serial
      → search_named s client number head sought dest ≡ link_found s client number into.0 serial
  search_links into links serial l into_found heads is key_found = search_is l
      ∙ (rw (into_found, heads, is.links, key_found) refl ∙ found_is s client number c into serial l.own is)

  -- a search whose destination is refused
  pub search_unlooked : (e : Errno) → Seeks s client number head sought dest c name from
      → look_up s c dest (Granted WRITE) ≡ Err e → (search_named s client number head sought dest ≡ Err e) × (s ≡ s)
  search_unlooked e l h = (search_is l ∙ rw h refl, refl)

  -- a search whose destination is no keyring
  pub search_no_ring : (into : ℕ × Key) (links : List ℕ) (e : Errno)
      → Seeks s client number head sought dest c name from → look_up s c dest (Granted WRITE) ≡ Ok into
      → ring_links from.1.content ≡ Ok links → ring_links into.1.content ≡ Err e
      → (search_named s client number head sought dest ≡ Err e) × (s ≡ s)
  search_no_ring into links e l into_found heads h = (search_is l ∙ rw (into_found, heads, h) refl, refl)

-- what REQUEST has looked up, with a destination that is there
pub record Requests (s : State) (client number : ℕ) (sought : Result Name Errno) (dest : ℤ) (c : Context)
    (name : Name) : Type 0 where
  pub own : context_of s client number ≡ Ok c
  pub named : sought ≡ Ok name
  pub made : made_for s number c dest ≡ (s, c)
  pub wanted : has_destination dest ≡ true

module _ (s : State) (client number : ℕ) (sought : Result Name Errno) (dest : ℤ) (c : Context) (name : Name) where
  pub requests : FitsSigned w32 dest → context_of s client number ≡ Ok c → sought ≡ Ok name
      → (of_z w32 dest ≡ 0 → ⊥) → made_for s number c (to_z w32 (of_z w32 dest)) ≡ (s, c)
      → Requests s client number sought dest c name
  requests dest_fits own named wanted made = record {
    own = own;
    named = named;
    made = ap (made_for s number c) (sym (to_z-of_z w32 dest dest_fits)) ∙ made;
    wanted = wanted_of dest wanted;
  }

  request_is : Requests s client number sought dest c name
      → request_named s client number sought dest ≡ within_serials s (requested_into s c name dest)
  unfolding request_named
  request_is l = rw (l.own, l.named, l.wanted, l.made) refl

  -- a request whose destination and key were found comes to the link of the key
  pub request_links : (into : ℕ × Key) (serial : ℕ) → Requests s client number sought dest c name
      → look_up s c dest (Granted WRITE) ≡ Ok into → IsFoundRing s into → requested s c name ≡ Ok serial
      → request_named s client number sought dest ≡ link_found s client number into.0 serial
  request_links into serial l into_found is key_found = request_is l
      ∙ (rw (into_found, is.links, key_found) refl ∙ found_is s client number c into serial l.own is)

  -- a request whose destination is no keyring
  pub request_no_ring : (into : ℕ × Key) (e : Errno) → Requests s client number sought dest c name
      → look_up s c dest (Granted WRITE) ≡ Ok into → ring_links into.1.content ≡ Err e
      → (request_named s client number sought dest ≡ Err e) × (s ≡ s)
  request_no_ring into e l into_found h = (request_is l ∙ rw (into_found, h) refl, refl)
