-- What a uid has to itself where a key is linked, or made.
use Rattle.std.proofs.Common.{[], ⊎_elim, ◌+◌, ◌<◌, ◌∙◌, ◌≡◌, ◌≢◌, ap, arith, Bool, inl, List, Ok, refl, Result, Some}
use Rattle.std.proofs.{Common.{subst, sym, true, true≢false, ℕ, ℤ}, lemmas.Bool.Decides.nat_tests}
use Rattle.krs_types.specs.declared.{caller.Caller.Caller, context.Context.Context, errno.Errno.Errno}
use Rattle.krs_types.specs.{declared.key_id.KeyId.KeyId, KeyId.key_id_of, Rights.{has_all, LINK}}
use Rattle.krs_model.specs.{Access.rights_on, Asks.{Adding.made, Finding.if_linkable, Linked.{linked, linked_into}}}
use Rattle.krs_model.specs.{Asks.Linked.name_of, Confidentiality.{AreEnclosed, HasToItself}, Levels.is_in}
use Rattle.krs_model.specs.{Linking.is_named, Lookup.context_of, Making.{made_for, with_new}}
use Rattle.krs_model.specs.{Possession.{links_of_content, possessed}, Search.found, State.{Key, State}, Table.at}
use Rattle.krs_model.proofs.{Asks.LaterByAsk.linked_into_is, Isolation.Attachments.{attaches_none, thread_unattached}}
use Rattle.krs_model.proofs.Isolation.{Attachments.with_process_unattached, Guarded.{changed_guarded, Guarded}}
use Rattle.krs_model.proofs.Isolation.{Guarded.{next_apart, NotBy}, Keys.{AttachesNone, KeepsOwn, no_rights}}
use Rattle.krs_model.proofs.{Isolation.Keys.put_enclosed, Lookups.Serials.own_there, MadeKeyring.State.HasMade}
use Rattle.krs_model.proofs.MadeKeyring.{State.{HasMadeFor, made_for_has, MadeNone, MadeOne}, Which.IsMade}
use Rattle.krs_model.proofs.{MadeKeyring.Which.{made_for_is, NoneMade, ProcessMade, ThreadMade}, Reach.Levels.in_left}
use Rattle.krs_model.proofs.{Reach.Levels.{in_one, in_right, only_in}, Sound.Changes.{in_linked_content, Stands}}
use Rattle.krs_model.proofs.Sound.{Changes.with_linked, Links.linkable_is, NewContexts.own_process_there}

-- a new key that links nothing
pub new_enclosed :
    (uid : ℕ) (private : ℕ → Bool) (s : State) (key : Key) → links_of_content key.content ≡ []
    → HasToItself uid private s
    → AreEnclosed uid private (with_new s key).keys
new_enclosed uid private s key empty alone = grind (arith, nat_tests, put_enclosed, next_apart, true≢false)

pub later_made : (uid : ℕ) (private : ℕ → Bool) (s : State) → HasToItself uid private s → (k : ℕ) → private k ≡ true
    → k < s.next_serial + 1
later_made uid private s alone k m = let less : k < s.next_serial = alone.made k m in omega arith

is_made_alone :
    (uid : ℕ) (private : ℕ → Bool) (s : State) (number : ℕ) (c : Context) (id : Result KeyId Errno)
    (made : State × Context)
    → IsMade s number c id made → HasToItself uid private s → HasToItself uid private made.0
is_made_alone uid private s number c id _ NoneMade alone = alone
is_made_alone uid private s number c id _ (ThreadMade is none) alone =
    search (later_made, new_enclosed, thread_unattached, next_apart) depth 8
is_made_alone uid private s number c id _ (ProcessMade is none) alone =
    search (later_made, new_enclosed, with_process_unattached, next_apart) depth 8

-- a made thread or process keyring
pub made_alone :
    (uid : ℕ) (private : ℕ → Bool) (s : State) (number : ℕ) (c : Context) (id : ℤ) → HasToItself uid private s
    → HasToItself uid private (made_for s number c id).0
made_alone uid private s number c id alone =
    is_made_alone uid private s number c (key_id_of id) (made_for s number c id) (made_for_is s number c id) alone

has_made_none :
    (private : ℕ → Bool) (s t : State) (c d : Context) (desc before after : List ℕ)
    → HasMade s c t d desc before after → (private s.next_serial ≡ true → ⊥) → AttachesNone private s c
    → AttachesNone private t d
has_made_none private s t c d desc before after made fresh none =
    grind (arith, nat_tests, in_left, only_in, in_right, in_one)

made_for_none :
    (private : ℕ → Bool) (s : State) (c : Context) (id : ℤ) (made : State × Context) → HasMadeFor s c id made
    → (private s.next_serial ≡ true → ⊥) → AttachesNone private s c
    → (AttachesNone private made.0 made.1) × (made.1.caller ≡ c.caller)
made_for_none private s c id _ MadeNone fresh none = (none, refl)
made_for_none private s c id _ (MadeOne t d desc before after has is) fresh none =
    (has_made_none private s t c d desc before after has fresh none, has.caller)

-- a context of another uid as it is with the keyring made
pub record IsOther (uid : ℕ) (private : ℕ → Bool) (s : State) (c : Context) : Type 0 where
  pub none : AttachesNone private s c
  pub apart : c.caller.uid ≢ uid

pub other_made :
    (uid : ℕ) (private : ℕ → Bool) (s : State) (client context : ℕ) (c : Context) (id : ℤ) → Stands s
    → HasToItself uid private s
    → context_of s client context ≡ Ok c → NotBy uid s client context
    → IsOther uid private (made_for s context c id).0 (made_for s context c id).1
other_made uid private s client context c id stands alone own other =
    let there = own_there s client context c own in
    let apart = other c own in
    let none = attaches_none uid private s context c alone.unattached there apart in
    let has = made_for_has s context c id (own_process_there s context c there stands.placed) in
    let r = made_for_none private s c id (made_for s context c id) has (next_apart uid private s alone) none in
    record { none = r.0; apart = λ e. apart (ap (λ (z : Caller). z.uid) (sym r.1) ∙ e) }

-- one link more, to none of these keys
pub linked_guarded :
    (uid : ℕ) (private : ℕ → Bool) (P : Type 0) (s : State) (into found : ℕ × Key) (new : State)
    → (P → private found.0 ≡ true → ⊥) → linked_into s into found ≡ Ok new → HasToItself uid private s
    → Guarded uid private P new
linked_guarded uid private P s into found new apart linked alone =
    let is = linked_into_is s into found new linked in
    let displaced : ℕ → Bool = λ k. is_named (name_of found.1) (at s.keys k) in
    let f = with_linked displaced found.0 in
    let keeps : P → KeepsOwn uid private into.0 f = λ p. record {
      own = λ v m h. h;
      links = λ v k m i. ⊎_elim (λ (was : is_in k (links_of_content v.content) ≡ true). inl was)
          (λ (e : k ≡ found.0). absurd (apart p (subst (λ (z : ℕ). private z ≡ true) e m)))
          (in_linked_content displaced found.0 v.content k i);
    } in
    subst (Guarded uid private P) is.is (changed_guarded uid private P s into.0 f keeps alone)

pub linkable_grants :
    (s : State) (c : Context) (serial : ℕ) (key : Key) (found : ℕ × Key) → if_linkable s c serial key ≡ Ok found
    → has_all (rights_on key c.caller (possessed s c serial)) LINK ≡ true
linkable_grants s c serial key found h = grind (arith, nat_tests)

pub other_linkable :
    (uid : ℕ) (private : ℕ → Bool) (s : State) (c : Context) (serial : ℕ) (key : Key) (found : ℕ × Key)
    → HasToItself uid private s → IsOther uid private s c → at s.keys serial ≡ Some key
    → if_linkable s c serial key ≡ Ok found → private found.0 ≡ true → ⊥
other_linkable uid private s c serial key found alone other there is m =
    grind (arith, nat_tests, linkable_is, no_rights, true≢false, linkable_grants)
