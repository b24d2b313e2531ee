-- What is proved of ADD.
use Rattle.std.proofs.Common.{[], ◌&&◌, ◌<◌, ◌^◌, ◌∙◌, ◌≡◌, ◌≤◌, ap, arith, Bool, cond, Err, false, inl, inr, is_some}
use Rattle.std.proofs.Common.{IsSome, List, nat_lt, None, not, Ok, Option, refl, Result, Some, subst, sym, true}
use Rattle.std.proofs.{Common.{true≢false, ℕ, ℤ}, lemmas.Bool.Decides.nat_tests}
use Rattle.krs_types.specs.declared.ask.{Answer.{Answer, TheVariants.{Bytes, Nothing, Number}}, Op.Op}
use Rattle.krs_types.specs.declared.{ask.Op.TheVariants.Add, context.Context.Context, errno.Errno.Errno}
use Rattle.krs_types.specs.declared.{errno.Errno.TheVariants.{ENOSPC}, kind.DescRule.DescRule}
use Rattle.krs_types.specs.declared.kind.{DescRule.TheVariants.{AnyText, WithoutDot, WithService}, Kind.Kind}
use Rattle.krs_types.specs.{declared.{name.Name.Name, rights.Want.TheVariants.Granted}, Kind.{checked, described_by}}
use Rattle.krs_types.specs.{Kind.paid, Rights.{has_all, WRITE}}
use Rattle.krs_types.proofs.Names.{and_left, and_right}
use Rattle.krs_model.specs.{Access.{is_alive, rights_on}, Asks.Adding.{add, added, added_serial, admitted, by_match}}
use Rattle.krs_model.specs.Asks.Adding.{if_room, IsKeyringAt, Made, made, new_key, over_match, Place, place_of}
use Rattle.krs_model.specs.Asks.{Adding.Updated, Changing.{is_updatable, updated}, Linked.name_of}
use Rattle.krs_model.specs.{Confidentiality.HasToItself, Hiding.{hidden_added, Hides, Hiding, serial_in}}
use Rattle.krs_model.specs.{Levels.is_in, Linking.{is_named, link_named, linking, ring_links}, Lookup.context_of}
use Rattle.krs_model.specs.{Lookup.look_up, Making.{made_for, with_new}, Notes.Telling.{about, about_added}}
use Rattle.krs_model.specs.{Notes.Telling.{about_link, named}, Outcome.Outcome, Possession.links_of_content}
use Rattle.krs_model.specs.{Possession.possessed, Reach.{Directly, Further, links_of_key_at, Reaches}, Search.found}
use Rattle.krs_model.specs.{Sound.{is_links, IsFitting}, State.{Key, Links, Payload, State}, Table.{alter, at}}
use Rattle.krs_model.specs.{Table.{IsBelow, put}, Usable.IsUsable}
use Rattle.krs_model.proofs.Asks.{Houses.{HousesIn, made_houses}, Later.{bind_ok, changed_comes, Comes, comes_trans}}
use Rattle.krs_model.proofs.Asks.{Later.{same_ok, with_new_comes}, LaterByAsk.made_for_comes, Lawful.IsLawful}
use Rattle.krs_model.proofs.Asks.NewSerials.{IsWithin, place_is, same_counts, small_there}
use Rattle.krs_model.proofs.Asks.NotedKeys.{about_link_small, about_small, IsThere, there_ends}
use Rattle.krs_model.proofs.Asks.{Outcomes.{meets_after, meets_ok}, Plain.{IsPlain, plain, plain_ok, plains}}
use Rattle.krs_model.proofs.{Hiding.Adding.{add_blind, IsHidden}}
use Rattle.krs_model.proofs.Isolation.Guarded.{changed_guarded, Guarded, lessens_keeps, next_apart}
use Rattle.krs_model.proofs.Isolation.{Keys.{changed_enclosed, no_rights, not_found}, Links.{IsOther, later_made}}
use Rattle.krs_model.proofs.Isolation.{Links.{made_alone, new_enclosed, other_made}, Untouched.{AreSame, made_same}}
use Rattle.krs_model.proofs.{Isolation.Untouched.{other_same, put_same, same_trans}, Lookups.Laws.in_by_match}
use Rattle.krs_model.proofs.{Lookups.{Laws.made_in_ring, Serials.own_there}, MadeKeyring.Links.place_of_new}
use Rattle.krs_model.proofs.{MadeKeyring.State.{HasMadeFor, made_for_has, MadeNone, MadeOne}, Notes.Fitting.AllSmall}
use Rattle.krs_model.proofs.{Reach.Acyclic.From, Sound.Changes.{at_further, changed_stands, in_linked_content}}
use Rattle.krs_model.proofs.Sound.Changes.{linked_stands, LinksTo, not_there, Stands, there_alter, with_linked}
use Rattle.krs_model.proofs.Sound.{KeyChanges.updated_lessens, Links.named_same, NewContexts.empty_stands}
use Rattle.krs_model.proofs.Sound.NewContexts.{made_for_stands, own_process_there, some_there}
use Rattle.krs_model.proofs.Tables.Changes.{at_put_same}
use Rattle.krs_types.specs.declared.note.KeyEvent.TheVariants as told_of
use Rattle.std.proofs.lemmas.Grind.{common_steps}

-- the key comes first, then its link
made_comes : (s : State) (ring : ℕ) (name : Name) (key : Key) → Comes s (made s ring name key)
made_comes s ring name key =
    let one = with_new s key in
    let link = linking s.keys name s.next_serial in
    comes_trans s one _ (with_new_comes s key) (changed_comes one ring link (λ v h. h))

added_comes :
    (s : State) (c : Context) (name : Name) (payload : List ℕ) (place : Place)
    → Comes s (added s c name payload place)
added_comes s c name payload (Updated serial) = changed_comes s serial (updated payload) (λ v h. h)
added_comes s c name payload (Made ring) = made_comes s ring name (new_key name payload c.caller.uid c.caller.gid)

-- an updated key was not put into a keyring that the ask made
updated_within :
    (s : State) (c : Context) (name : Name) (id : ℤ) (k : ℕ) (made : State × Context) → HasMadeFor s c id made
    → place_of made.0 made.1 name id ≡ Ok (Updated k) → IsWithin s made.0
updated_within s c name id k _ MadeNone h = same_counts s s refl
updated_within s c name id k _ (MadeOne t d desc before after made named) h =
    let no : cond (nat_lt 2147483647 t.next_serial) (Err ENOSPC) (Ok (Made s.next_serial)) ≡ Ok (Updated k) =
    sym (place_of_new s t c d desc before after name id made named) ∙ h in
    grind (arith, nat_tests)

added_within :
    (s : State) (c : Context) (name : Name) (payload : List ℕ) (id : ℤ) (place : Place) (made : State × Context)
    → HasMadeFor s c id made → place_of made.0 made.1 name id ≡ Ok place
    → IsWithin s (added made.0 made.1 name payload place)
added_within s c name payload id (Updated k) made has h = updated_within s c name id k made has h
added_within s c name payload id (Made ring) made has h =
    let room : made.0.next_serial ≤ 2147483647 = place_is made.0 made.1 name id (Made ring) h in
    inr (omega arith)

added_there :
    (s : State) (c : Context) (name : Name) (payload : List ℕ) (id : ℤ) (place : Place)
    → place_of s c name id ≡ Ok place → IsSome (at (added s c name payload place).keys (added_serial s place))
added_there s c name payload id (Updated k) h =
    there_alter s.keys k (updated payload) k (place_is s c name id (Updated k) h)
added_there s c name payload id (Made ring) h = search (at_put_same, there_alter) depth 8

add_there :
    (s new : State) (client context : ℕ) (type_name desc payload : List ℕ) (ring : ℤ) (answer : Answer)
    → add s client context type_name desc payload ring ≡ Ok (new, answer) → IsThere new answer
unfolding add
add_there s new client context type_name desc payload ring answer h =
    grind (arith, nat_tests, bind_ok, there_ends, added_there)

added_small :
    (s mid : State) (ring : Result ℕ Errno) (answer : Answer) → IsBelow mid.keys 2147483648 → IsThere mid answer
    → AllSmall (about_added s.keys ring answer)
added_small s mid ring Nothing few there = tt
added_small s mid ring (Bytes bytes) few there = tt
added_small s mid ring (Number serial) few there =
    elim (is_some (at s.keys serial)) as
    (λ b. AllSmall (cond b (about told_of.Updated (Ok serial)) (about_link told_of.Linked ring (Ok serial)))) [
      | true ↦ about_small told_of.Updated (Ok serial)
      | false ↦ about_link_small told_of.Linked ring (Ok serial) (λ k is.
          subst (λ (n : ℕ). n < 2 ^ 32) (same_ok (Ok serial) serial k refl is)
          (small_there mid.keys serial few (there serial refl)))
    ]

plain_described : (rule : DescRule) (desc : List ℕ) → IsPlain (described_by rule desc)
plain_described AnyText desc = plain_ok
plain_described WithService desc = search plain
plain_described WithoutDot desc = search plain

plain_checked : (kind : Kind) (desc payload : List ℕ) → IsPlain (checked kind desc payload)
plain_checked kind desc payload = search (plains, plain_described)

plain_admitted : (type_name desc payload : List ℕ) → IsPlain (admitted type_name desc payload)
unfolding admitted
plain_admitted type_name desc payload = search (plains, plain_checked)

plain_if_room :
    (s : State) (ring : ℕ × Key) (links : List ℕ) (displaced : Option ℕ) → IsPlain (if_room s ring links displaced)
plain_if_room s ring links displaced = search plains

plain_over :
    (s : State) (c : Context) (ring : ℕ × Key) (links : List ℕ) (k : ℕ) (o : Option Key)
    → IsPlain (over_match s c ring links k o)
plain_over s c ring links k None = plain_if_room s ring links None
plain_over s c ring links k (Some key) = search (plain, plain_if_room)

plain_match :
    (s : State) (c : Context) (ring : ℕ × Key) (links : List ℕ) (o : Option ℕ) → IsPlain (by_match s c ring links o)
plain_match s c ring links None = plain_if_room s ring links None
plain_match s c ring links (Some k) = plain_over s c ring links k (at s.keys k)

plain_place : (s : State) (c : Context) (name : Name) (ring : ℤ) → IsPlain (place_of s c name ring)
unfolding place_of
plain_place s c name ring = search (plains, plain_match)

added_houses :
    (s t : State) (client context : ℕ) (op : Op) (c : Context) (name : Name) (payload : List ℕ) (place : Place)
    → HousesIn s client context op t → HousesIn s client context op (added t c name payload place)
added_houses s t client context op c name payload (Updated serial) h = h
added_houses s t client context op c name payload (Made ring) h = h

first_form : (ring : Bool) (payload : List ℕ) → is_links (cond ring (Links []) (Payload payload)) ≡ ring
first_form true payload = refl
first_form false payload = refl

pub no_links : (ring : Bool) (payload : List ℕ) → links_of_content (cond ring (Links []) (Payload payload)) ≡ []
no_links true payload = refl
no_links false payload = refl

-- what is reached goes over a first link
first_link : (links : ℕ → List ℕ) (a b : ℕ) → Reaches links a b → (c : ℕ) × (is_in c (links a) ≡ true)
first_link links _ _ (Directly a b h) = (b, h)
first_link links _ _ (Further a j b p h) = first_link links a j p

-- a new key, and its link
made_stands :
    (s : State) (ring : ℕ) (name : Name) (key : Key) → IsKeyringAt s ring → name_of key ≡ name
    → links_of_content key.content ≡ []
    → IsFitting key → Stands s → Stands (made s ring name key)
made_stands s ring name key is named empty fits stands =
    let n = s.next_serial in
    let one = with_new s key in
    let none : at s.keys n ≡ None = stands.unused n (omega arith) in
    let ring_there : IsSome (at s.keys ring) = some_there s.keys ring is.0 is.1 in
    let nothing : (k : ℕ) → is_in k (links_of_content key.content) ≡ true → ⊥ = λ k i.
    true≢false (sym (ap (is_in k) (sym empty) ∙ i)) in
    let first : Stands one = empty_stands s key empty fits stands in
    let mine : at one.keys n ≡ Some key = at_put_same s.keys n key in
    let unreached : From (links_of_key_at one.keys) n ring → ⊥ =
    grind (arith, nat_tests, not_there, first_link) in
    let same : (k : ℕ) → IsSome (at s.keys k) → at one.keys k ≡ at s.keys k = λ k there.
    at_further s.keys n k key none there in
    let displaced : ℕ → Bool = λ k. is_named name (at s.keys k) in
    let alike : (q : Name) → is_named q (at one.keys n) ≡ true → (k : ℕ) → LinksTo k (at one.keys ring)
    → is_named q (at one.keys k) ≡ displaced k = λ q h k i.
    let was : is_in k (links_of_key_at s.keys ring) ≡ true = subst (LinksTo k) (same ring ring_there) i in
    let name_is : q ≡ name = named_same q key (ap (is_named q) (sym mine) ∙ h) ∙ named in
    ap (is_named q) (same k (stands.linked ring k was)) ∙ ap (λ (m : Name). is_named m (at s.keys k)) name_is in
    linked_stands one ring n displaced (some_there one.keys n key mine) unreached alike first

added_stands :
    (s : State) (c : Context) (name : Name) (payload : List ℕ) (id : ℤ) (place : Place)
    → place_of s c name id ≡ Ok place → Stands s → Stands (added s c name payload place)
added_stands s c name payload id (Updated serial) is stands =
    changed_stands s serial (updated payload) (updated_lessens payload) stands
added_stands s c name payload id (Made ring) is stands =
    search (made_stands, made_in_ring, no_links, first_form) depth 8

added_fits : (hide : Hiding) (meant : Outcome) (payload : List ℕ) (kind : Kind) → Hides hide
    → paid kind (hidden_added hide meant payload) ≡ paid kind payload
added_fits hide (Ok done) payload kind hides = hides (serial_in done.1) kind payload
added_fits hide (Err e) payload kind hides = hides 0 kind payload

added_guarded :
    (uid : ℕ) (private : ℕ → Bool) (P : Type 0) (s : State) (c : Context) (name : Name)
    (payload : List ℕ) (place : Place)
    → HasToItself uid private s → Guarded uid private P (added s c name payload place)
added_guarded uid private P s c name payload (Updated serial) alone =
    search (changed_guarded, lessens_keeps, updated_lessens) depth 8
added_guarded uid private P s c name payload (Made ring) alone =
    grind (arith, nat_tests, next_apart, in_linked_content, later_made, changed_enclosed, new_enclosed, no_links)

-- no room is an updated key
room_makes :
    (s : State) (ring : ℕ × Key) (f : ℕ) (links : List ℕ) (displaced : Option ℕ)
    → if_room s ring links displaced ≡ Ok (Updated f) → ⊥
room_makes s ring f links displaced h = grind (arith, nat_tests, bind_ok)

-- the key that ADD updates may be written
abbrev pub Writes : State → Context → ℕ → Type 0
Writes s c f = (key : Key) × IsUsable s c (Granted WRITE) (f, key)

opposite : (b : Bool) → not b ≡ true → b ≡ false
opposite true h = cc
opposite false h = refl

alive_writes :
    (s : State) (c : Context) (found : ℕ) (key : Key) → at s.keys found ≡ Some key
    → (is_alive s.clock key && is_updatable key.kind) ≡ true
    → has_all (rights_on key c.caller (possessed s c found)) WRITE ≡ true → Writes s c found
alive_writes s c found key there alive grants = grind (arith, nat_tests, and_left, opposite, and_right)

match_writes :
    (s : State) (c : Context) (ring : ℕ × Key) (f : ℕ) (links : List ℕ) (found : ℕ) (o : Option Key)
    → at s.keys found ≡ o → over_match s c ring links found o ≡ Ok (Updated f) → Writes s c f
match_writes s c ring f links found None is h = absurd (room_makes s ring f links None h)
match_writes s c ring f links found (Some key) is h = grind (arith, common_steps, alive_writes, room_makes)

by_match_writes :
    (s : State) (c : Context) (ring : ℕ × Key) (f : ℕ) (links : List ℕ) (found : Option ℕ)
    → by_match s c ring links found ≡ Ok (Updated f) → Writes s c f
by_match_writes s c ring f links None h = absurd (room_makes s ring f links None h)
by_match_writes s c ring f links (Some found) h = match_writes s c ring f links found (at s.keys found) refl h

pub place_writes :
    (s : State) (c : Context) (name : Name) (id : ℤ) (f : ℕ) → place_of s c name id ≡ Ok (Updated f) → Writes s c f
unfolding place_of
place_writes s c name id f h =
    let a = bind_ok (look_up s c id (Granted WRITE)) _ (Updated f) h in
    let b = bind_ok (ring_links a.0.1.content) _ (Updated f) a.2 in
    by_match_writes s c a.0 f b.0 (link_named s.keys name b.0) b.2

-- nor is a key made in a keyring that may not be written
pub place_found :
    (s : State) (c : Context) (name : Name) (id : ℤ) (r : ℕ) → place_of s c name id ≡ Ok (Made r)
    → (found : ℕ × Key) × (look_up s c id (Granted WRITE) ≡ Ok found) × (r ≡ found.0)
unfolding place_of
place_found s c name id r h =
    let a = bind_ok (look_up s c id (Granted WRITE)) _ (Made r) h in grind (arith, common_steps, bind_ok, in_by_match)

added_same :
    (uid : ℕ) (private : ℕ → Bool) (s : State) (c : Context) (name : Name) (payload : List ℕ) (id : ℤ) (place : Place)
    → place_of s c name id ≡ Ok place → IsOther uid private s c → HasToItself uid private s
    → AreSame private s.keys (added s c name payload place).keys
added_same uid private s c name payload id (Updated serial) is other alone =
    let writes = place_writes s c name id serial is in
    other_same private s.keys serial (updated payload) (λ m.
    let rights = no_rights uid private s c serial writes.0 alone.enclosed other.none other.apart m writes.1.there in
    true≢false (sym writes.1.granted ∙ ap (λ (n : ℕ). has_all n WRITE) rights.1))
added_same uid private s c name payload id (Made ring) is other alone =
    let n = s.next_serial in
    let key = new_key name payload c.caller.uid c.caller.gid in
    let displaced : ℕ → Bool = λ k. is_named name (at s.keys k) in
    let r = place_found s c name id ring is in
    same_trans private s.keys (put s.keys n key) (alter (put s.keys n key) ring (with_linked displaced n))
    (put_same private s.keys n key (next_apart uid private s alone))
    (other_same private (put s.keys n key) ring (with_linked displaced n)
    (λ m. not_found uid private s c id (Granted WRITE) r.0 alone.enclosed other.none other.apart refl r.1
    (subst (λ (z : ℕ). private z ≡ true) r.2 m)))

pub add_law :
    (s : State) (client context : ℕ) (type_name desc payload : List ℕ) (ring : ℤ)
    → IsLawful s client context (Add type_name desc payload ring)
unfolding add
add_law s client context type_name desc payload ring = record {
  small = search (added_small, add_there) depth 8;
  plain = search (plains, plain_admitted, plain_place) depth 12;
  blind = λ hide hides.
      let meant = add s client context type_name desc payload ring in
      let other = hidden_added hide meant payload in
      let hidden : (done : State × Answer) → meant ≡ Ok done → IsHidden hide payload other done =
      grind (arith, common_steps) in
      add_blind hide s client context type_name desc payload other ring
      (λ kind. added_fits hide meant payload kind hides) hidden;
  fares =
      meets_after (context_of s client context) _ (λ c own.
      meets_after (admitted type_name desc payload) _ (λ name _.
      let made = made_for s context c ring in
      let there = own_there s client context c own in
      meets_after (place_of made.0 made.1 name ring) _ (λ place is.
      meets_ok (record {
        comes = λ other. comes_trans s made.0 (added made.0 made.1 name payload place) (made_for_comes s context c ring)
            (added_comes made.0 made.1 name payload place);
        counts = λ placed. added_within s c name payload ring place made
            (made_for_has s context c ring (own_process_there s context c there placed)) is;
        houses = added_houses s made.0 client context (Add type_name desc payload ring) made.1 name payload place
            (made_houses s client context (Add type_name desc payload ring) c ring own);
        stands = λ stands. added_stands made.0 made.1 name payload ring place is
            (made_for_stands s context c ring stands);
        guards = λ uid private stands alone.
            added_guarded uid private _ made.0 made.1 name payload place
            (made_alone uid private s context c ring alone);
        keeps = λ uid private stands alone other.
            inl (same_trans private s.keys made.0.keys (added made.0 made.1 name payload place).keys
            (made_same uid private s context c ring alone)
            (added_same uid private made.0 made.1 name payload ring place is
            (other_made uid private s client context c ring stands alone own other)
            (made_alone uid private s context c ring alone)));
      }))));
}
