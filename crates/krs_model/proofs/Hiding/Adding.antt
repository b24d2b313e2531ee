-- ADD with the payloads hidden.
use Rattle.std.proofs.Common.{[], ◌∙◌, ◌≡◌, ap, arith, Bool, cond, Err, false, List, None, Ok, Option, refl, Result}
use Rattle.std.proofs.{Common.{Some, true, ℕ, ℤ}, lemmas.Bool.Decides.nat_tests}
use Rattle.krs_types.specs.declared.{ask.Answer.{Answer, TheVariants.Number}, context.Context.Context}
use Rattle.krs_types.specs.declared.{errno.Errno.Errno, kind.Kind.{Kind, TheVariants.Keyring}, name.Name.Name}
use Rattle.krs_types.specs.{Kind.{described, described_as, kind_named, paid, same_kind}, Refusing.◌>>=◌}
use Rattle.krs_model.specs.Asks.Adding.{add, added, added_in, added_serial, admitted, by_match, Made, made, new_key}
use Rattle.krs_model.specs.{Asks.Adding.{over_match, Place, place_of, Updated}, Hiding.{blind, blind_content}}
use Rattle.krs_model.specs.{Hiding.{blind_keys, Hiding, over}, Linking.linking, Lookup.context_of, Making.made_for}
use Rattle.krs_model.specs.{State.{Key, Links, Payload, State}, Table.{at, put, Table}}
use Rattle.krs_model.proofs.Hiding.{Accepted.{blind_done, paid_blind}, Keys.{alter_blind, put_blind, seen}}
use Rattle.krs_model.proofs.Hiding.Links.{linking_blind, made_blind, same_link_named, same_ring_links}
use Rattle.krs_model.proofs.Hiding.{Lookups.{blind_found, look_up_blind, same_possessed}, Over.{after, bound, given}}

same_admitted :
    (type_name desc payload other : List ℕ) → ((kind : Kind) → paid kind other ≡ paid kind payload)
    → admitted type_name desc other ≡ admitted type_name desc payload
unfolding admitted
same_admitted type_name desc payload other fits = λ i.
    kind_named type_name >>= (λ kind.
    (described desc >>= (λ any_key. described_as kind desc >>= (λ own. fits kind i)))
    >>= (λ fit. Ok (record { kind = kind; desc = desc })))

same_over :
    (hide : Hiding) (s : State) (c : Context) (ring : ℕ × Key) (links : List ℕ) (found : ℕ) (o : Option Key)
    → over_match (blind hide s) c (blind_found hide ring) links found o ≡ over_match s c ring links found o
same_over hide s c ring links found None = refl
same_over hide s c ring links found (Some key) = search same_possessed depth 8

same_by :
    (hide : Hiding) (s : State) (c : Context) (ring : ℕ × Key) (links : List ℕ) (match : Option ℕ)
    → by_match (blind hide s) c (blind_found hide ring) links match ≡ by_match s c ring links match
same_by hide s c ring links None = refl
same_by hide s c ring links (Some found) =
    same_over hide s c ring links found (at (blind_keys hide s.keys) found)
    ∙ seen hide s.keys (over_match s c ring links found) found (λ v. refl)

as_it_is : {A : Type 0} (r : Result A Errno) → r ≡ over (λ x. x) r
as_it_is (Ok x) = refl
as_it_is (Err e) = refl

-- the added key goes where it went
pub same_place : (hide : Hiding) (s : State) (c : Context) (name : Name) (ring : ℤ)
    → place_of (blind hide s) c name ring ≡ over (λ place. place) (place_of s c name ring)
unfolding place_of
same_place hide s c name ring =
    search (look_up_blind, bound, same_ring_links, after, same_by, same_link_named, as_it_is) depth 8

first_blind : (h : List ℕ → List ℕ) (ring : Bool) (payload other : List ℕ) → other ≡ h payload
    → cond ring (Links []) (Payload other) ≡ blind_content h (cond ring (Links []) (Payload payload))
first_blind h true payload other is = refl
first_blind h false payload other is = ap Payload is

added_blind :
    (hide : Hiding) (s : State) (c : Context) (name : Name) (payload other : List ℕ) (place : Place)
    → other ≡ hide (added_serial s place) payload
    → added (blind hide s) c name other place ≡ blind hide (added s c name payload place)
added_blind hide s c name payload other (Updated serial) is = grind (arith, nat_tests, alter_blind, paid_blind)
added_blind hide s c name payload other (Made ring) is =
    let n = s.next_serial in
    let key = new_key name payload c.caller.uid c.caller.gid in
    let to : Table Key → State = λ es. record (made s ring name key) { keys = es } in
    let links : Key → Key = linking (blind hide s).keys name n in
    rw (
      first_blind (hide n) (same_kind name.kind Keyring) payload other is,
      put_blind hide s.keys n key,
      alter_blind hide (put s.keys n key) ring (linking s.keys name n) links (λ v. linking_blind hide s.keys name n
          ring v),
    )

-- the payload of what is answered is hidden as this
abbrev pub IsHidden : Hiding → List ℕ → List ℕ → State × Answer → Type 0
IsHidden hide payload other done = (serial : ℕ) → done.1 ≡ Number serial → other ≡ hide serial payload

added_in_blind :
    (hide : Hiding) (s : State) (c : Context) (name : Name) (payload other : List ℕ) (ring : ℤ)
    → ((done : State × Answer) → added_in s c name payload ring ≡ Ok done → IsHidden hide payload other done)
    → added_in (blind hide s) c name other ring ≡ over (blind_done hide) (added_in s c name payload ring)
added_in_blind hide s c name payload other ring is =
    grind (arith, nat_tests, same_place, as_it_is, given, added_blind)

-- an ADD with another payload, which the same types take, and which is the hidden one of the key that it answers
pub add_blind :
    (hide : Hiding) (s : State) (client context : ℕ) (type_name desc payload other : List ℕ) (ring : ℤ)
    → ((kind : Kind) → paid kind other ≡ paid kind payload)
    → ((done : State × Answer) → add s client context type_name desc payload ring ≡ Ok done
    → IsHidden hide payload other done)
    → add (blind hide s) client context type_name desc other ring
    ≡ over (blind_done hide) (add s client context type_name desc payload ring)
unfolding add context_of
add_blind hide s client context type_name desc payload other ring fits is =
    let known = IsHidden hide payload other in
    rw (given (blind_done hide) known (context_of s client context) _ _ (λ c _ of_context. let hidden = made_for
    (blind hide s) context c ring in let was = made_for s context c ring in ap (λ (r : Result Name Errno). r >>= (λ
    name. added_in hidden.0 hidden.1 name other ring)) (same_admitted type_name desc payload other fits) ∙ given
    (blind_done hide) known (admitted type_name desc payload) _ _ (λ name _ of_name. ap (λ (m : State × Context).
    added_in m.0 m.1 name other ring) (made_blind hide s context c ring) ∙ added_in_blind hide was.0 was.1 name
    payload other ring of_name) of_context) is)
