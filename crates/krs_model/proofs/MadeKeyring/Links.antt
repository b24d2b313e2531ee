-- What links to a thread or process keyring that is made, and what is added to it.
use Rattle.std.proofs.Common.{◌≡◌, ◌≢◌, arith, cond, Err, IsSome, List, nat_lt, None, Ok, refl}
use Rattle.std.proofs.{Common.{Result, Some, ℕ, ℤ}, lemmas.Bool.Decides.nat_tests}
use Rattle.krs_types.specs.declared.{ask.Answer.TheVariants.{Nothing, Number}, context.Context.Context}
use Rattle.krs_types.specs.declared.errno.Errno.{Errno, TheVariants.{EDEADLK, ELOOP, ENOKEY, ENOSPC}}
use Rattle.krs_types.specs.{declared.{name.Name.Name, rights.Want.TheVariants.Granted}, Refusing.{◌>>=◌, or_refuse}}
use Rattle.krs_types.specs.Rights.{LINK}
use Rattle.krs_model.specs.Asks.{Adding.{Made, place_of}, Changing.changed, Finding.{found_into, got, if_linkable}}
use Rattle.krs_model.specs.Asks.{Finding.{requested_into, sought_into}, Linked.{linked, linked_into, name_of, unless}}
use Rattle.krs_model.specs.{Linking.{linking, ring_links}, Lookup.{look_up, serial_of}, Making.special_ring}
use Rattle.krs_model.specs.{Reach.{has_chain, nesting_depth}, Search.{found, requested}}
use Rattle.krs_model.specs.{Sound.{AllLinked, IsSound}, State.{Key, State}, Table.at}
use Rattle.krs_model.proofs.MadeKeyring.Lookups.{look_up_new, possessed_other, rights_new, there_new}
use Rattle.krs_model.proofs.MadeKeyring.{Nesting.{nestable_other, nestable_self}, Searches.{AreThere, attached_there}}
use Rattle.krs_model.proofs.MadeKeyring.{Searches.{found_other, there_is}, State.HasMade}
use Rattle.krs_model.proofs.Sound.NewContexts.{own_process_there}
use Rattle.std.proofs.lemmas.Grind.{common_steps}

-- a new keyring has room
after_room :
    (nests : Result (Unit {0}) Errno) (left : Result State Errno)
    → ◌>>=◌ {B = State} (◌>>=◌ {B = Unit {0}} nests (λ x. Ok tt)) (λ x. left) ≡ ◌>>=◌ {B = State} nests (λ x. left)
after_room (Ok x) left = refl
after_room (Err e) left = refl

-- the new keyring links another key where no chain of nested keyrings is too long
pub linked_into_new :
    (s t : State) (c d : Context) (desc before after : List ℕ) (found : ℕ × Key) → HasMade s c t d desc before after
    → AllLinked s.keys → at s.keys s.next_serial ≡ None → found.0 ≢ s.next_serial
    → linked_into t (s.next_serial, special_ring desc c.caller) found
    ≡ (unless (has_chain s.keys found.0 nesting_depth) ELOOP >>= (λ nests.
    Ok (changed t s.next_serial (linking t.keys (name_of found.1) found.0))))
linked_into_new s t c d desc before after found made linked none other =
    grind (arith, nat_tests, nestable_other, after_room)

-- it does not link itself
pub linked_into_self :
    (s t : State) (c d : Context) (desc before after : List ℕ) (key : Key) → HasMade s c t d desc before after
    → linked_into t (s.next_serial, special_ring desc c.caller) (s.next_serial, key) ≡ Err EDEADLK
linked_into_self s t c d desc before after key made = grind (arith, nat_tests, after_room, nestable_self)

-- a key is added to the new keyring where a second serial is left
pub place_of_new :
    (s t : State) (c d : Context) (desc before after : List ℕ) (name : Name) (id : ℤ)
    → HasMade s c t d desc before after → serial_of t d id ≡ Ok s.next_serial
    → place_of t d name id ≡ cond (nat_lt 2147483647 t.next_serial) (Err ENOSPC) (Ok (Made s.next_serial))
unfolding place_of
place_of_new s t c d desc before after name id made named = grind (arith, nat_tests, look_up_new)

-- whether another key that was found grants LINK
pub linkable_other :
    (s t : State) (c d : Context) (desc before after : List ℕ) (k : ℕ) (key : Key) → HasMade s c t d desc before after
    → at s.keys s.next_serial ≡ None → k ≢ s.next_serial → if_linkable t d k key ≡ if_linkable s c k key
linkable_other s t c d desc before after k key made none other = grind (arith, nat_tests, possessed_other)

-- another key that was found is linked to the new keyring where it grants LINK
pub found_into_new :
    (s t : State) (c d : Context) (desc before after : List ℕ) (k : ℕ) → HasMade s c t d desc before after
    → at s.keys s.next_serial ≡ None → k ≢ s.next_serial
    → found_into t d (s.next_serial, special_ring desc c.caller) (Ok k)
    ≡ (or_refuse ENOKEY (at s.keys k) >>= (λ key. if_linkable s c k key >>= (λ linkable.
    linked_into t (s.next_serial, special_ring desc c.caller) linkable >>= (λ new. Ok (new, Number k)))))
found_into_new s t c d desc before after k made none other = grind (arith, common_steps, linkable_other, there_is)

-- the new keyring that was found is not linked to itself
pub found_into_self :
    (s t : State) (c d : Context) (desc before after : List ℕ) → HasMade s c t d desc before after
    → found_into t d (s.next_serial, special_ring desc c.caller) (Ok s.next_serial) ≡ Err EDEADLK
found_into_self s t c d desc before after made = grind (arith, nat_tests, there_new, rights_new, linked_into_self)

-- a link in the new keyring
pub linked_new :
    (s t : State) (c d : Context) (desc before after : List ℕ) (key id : ℤ) → HasMade s c t d desc before after
    → serial_of t d id ≡ Ok s.next_serial
    → linked t d key id
    ≡ (look_up t d key (Granted LINK) >>= (λ from.
    linked_into t (s.next_serial, special_ring desc c.caller) from >>= (λ new. Ok (new, Nothing))))
linked_new s t c d desc before after key id made named = grind (arith, nat_tests, look_up_new)

-- a search whose destination is the new keyring
pub sought_into_new :
    (s t : State) (c d : Context) (desc before after : List ℕ) (head : ℕ × Key) (name : Name) (id : ℤ)
    → HasMade s c t d desc before after → AllLinked s.keys → at s.keys s.next_serial ≡ None
    → serial_of t d id ≡ Ok s.next_serial → head.0 ≢ s.next_serial
    → sought_into t d head name id
    ≡ (ring_links head.1.content >>= (λ links.
    found_into t d (s.next_serial, special_ring desc c.caller) (found s c head.0 name)))
sought_into_new s t c d desc before after head name id made linked none named other =
    grind (arith, nat_tests, look_up_new, found_other)

-- a request whose destination is the new keyring; what it comes to says `requested_with`
pub requested_into_new :
    (s t : State) (c d : Context) (desc before after : List ℕ) (name : Name) (id : ℤ)
    → HasMade s c t d desc before after → serial_of t d id ≡ Ok s.next_serial
    → requested_into t d name id
    ≡ found_into t d (s.next_serial, special_ring desc c.caller) (requested t d name)
requested_into_new s t c d desc before after name id made named = grind (arith, nat_tests, look_up_new)

-- the serial of the new keyring
pub got_new :
    (s t : State) (c d : Context) (desc before after : List ℕ) (id : ℤ) → HasMade s c t d desc before after
    → serial_of t d id ≡ Ok s.next_serial
    → got t d id ≡ Ok (t, Number s.next_serial)
got_new s t c d desc before after id made named = grind (arith, nat_tests, look_up_new)

-- what a sound store has where a keyring may be made for a context of it
pub record IsFit (s : State) (c : Context) : Type 0 where
  pub linked : AllLinked s.keys
  pub none : at s.keys s.next_serial ≡ None
  pub heads : AreThere s c
  pub process : IsSome (at s.processes c.process)

pub sound_fit : (s : State) (number : ℕ) (c : Context) → at s.contexts number ≡ Some c → IsSound s → IsFit s c
sound_fit s number c is sound = grind (arith, nat_tests, attached_there, own_process_there)
