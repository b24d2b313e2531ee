-- What comes from a state by what asks share: made keyrings, links, moved links and keys that were found.
use Rattle.std.proofs.Common.{◌&&◌, ◌==◌, ◌≡◌, arith, Bool, codes, cond, false, is_some, List, Ok, refl, Result}
use Rattle.std.proofs.{Common.{subst, true, ℕ, ℤ}, lemmas.Bool.Decides.nat_tests}
use Rattle.krs_types.specs.declared.{context.Context.Context, errno.Errno.{Errno, TheVariants.EEXIST}}
use Rattle.krs_types.specs.{declared.key_id.KeyId.KeyId, KeyId.key_id_of, Refusing.◌>>=◌}
use Rattle.krs_model.specs.Asks.{Changing.changed, Linked.{if_linked, linked_into, name_of, nestable, unless}}
use Rattle.krs_model.specs.{Asks.{Linked.without_link, Moving.{moved, moved_over}}, Linking.{link_named, linking}}
use Rattle.krs_model.specs.{Linking.ring_links, Making.{made_for, special_ring, with_new, with_process, with_thread}}
use Rattle.krs_model.specs.{Search.found, State.{Key, State}}
use Rattle.krs_model.proofs.Asks.Later.{bind_ok, changed_comes, Comes, comes_trans, same_comes, same_ok}
use Rattle.krs_model.proofs.{Asks.Later.with_new_comes, MadeKeyring.Which.{IsMade, made_for_is, NoneMade}}
use Rattle.krs_model.proofs.MadeKeyring.Which.{ProcessMade, ThreadMade}

-- a made thread or process keyring
is_made_comes :
    (s : State) (number : ℕ) (c : Context) (id : Result KeyId Errno) (made : State × Context)
    → IsMade s number c id made → Comes s made.0
is_made_comes s number c id _ NoneMade = same_comes s s refl refl refl refl
is_made_comes s number c id _ (ThreadMade is none) =
    let one = with_new s (special_ring (codes "_tid") c.caller) in
    comes_trans s one _ (with_new_comes s _) (same_comes one (with_thread s number c) refl refl refl refl)
is_made_comes s number c id _ (ProcessMade is none) =
    let one = with_new s (special_ring (codes "_pid") c.caller) in
    comes_trans s one _ (with_new_comes s _) (same_comes one (with_process s c) refl refl refl refl)

pub made_for_comes : (s : State) (number : ℕ) (c : Context) (id : ℤ) → Comes s (made_for s number c id).0
made_for_comes s number c id =
    is_made_comes s number c (key_id_of id) (made_for s number c id) (made_for_is s number c id)

-- an accepted link closes no cycle and nests none too deep, and is a change of its keyring alone
pub record IsLinked (s : State) (into found : ℕ × Key) (new : State) : Type 0 where
  pub nests : nestable s.keys into.0 found.0 ≡ Ok tt
  pub is : changed s into.0 (linking s.keys (name_of found.1) found.0) ≡ new

pub linked_into_is :
    (s : State) (into found : ℕ × Key) (new : State) → linked_into s into found ≡ Ok new → IsLinked s into found new
linked_into_is s into found new h = grind (arith, nat_tests, bind_ok, same_ok)

pub linked_into_comes :
    (s : State) (into found : ℕ × Key) (new : State) → linked_into s into found ≡ Ok new → Comes s new
linked_into_comes s into found new h =
    subst (Comes s) (linked_into_is s into found new h).is
    (changed_comes s into.0 (linking s.keys (name_of found.1) found.0) (λ v gone. gone))

-- an accepted move: nothing changes, or the second keyring links the key, and the first does not any more
pub data IsMoved (s : State) (found from into : ℕ × Key) : State → Type 0 where
  Stays : IsMoved s found from into s
  Moves : (mid : State) → linked_into s into found ≡ Ok mid
      → IsMoved s found from into (changed mid from.0 (without_link found.0))

moved_over_is :
    (s : State) (exclusive : Bool) (found from into : ℕ × Key) (links : List ℕ) (new : State)
    → moved_over s exclusive found from.0 into links ≡ Ok new → IsMoved s found from into new
moved_over_is s exclusive found from into links new h =
    let left : State → State = λ mid. changed mid from.0 (without_link found.0) in
    let taken = exclusive && is_some (link_named s.keys (name_of found.1) links) in
    let a = bind_ok (unless taken EEXIST) (λ x. linked_into s into found >>= (λ mid. Ok (left mid))) new h in
    let b = bind_ok (linked_into s into found) (λ mid. Ok (left mid)) new a.2 in
    subst (IsMoved s found from into) (same_ok (Ok (left b.0)) (left b.0) new refl b.2) (Moves b.0 b.1)

pub moved_is :
    (s : State) (exclusive : Bool) (found from into : ℕ × Key) (new : State)
    → moved s exclusive found from into ≡ Ok new → IsMoved s found from into new
moved_is s exclusive found from into new h =
    let a = bind_ok (ring_links from.1.content) _ new h in
    let b = bind_ok (ring_links into.1.content) _ new a.2 in
    let c = bind_ok (if_linked found.0 a.0) _ new b.2 in
    elim (from.0 == into.0) as
    (λ one. cond one (Ok s) (moved_over s exclusive found from.0 into b.0) ≡ Ok new → IsMoved s found from into new) [
      | true ↦ λ is. subst (IsMoved s found from into) (same_ok (Ok s) s new refl is) Stays
      | false ↦ λ is. moved_over_is s exclusive found from into b.0 new is
    ] c.2
