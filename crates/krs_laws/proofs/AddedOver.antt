-- What ADD overwrote leaves no trace.
use Rattle.std.proofs.Common.{ap, arith, codes, List, Ok, refl, Result, subst, sym, ℕ, ℤ, ◌+◌, ◌<◌}
use Rattle.std.proofs.Common.{◌∙◌, ◌≡◌}
use Rattle.krs_types.specs.declared.ask.{Answer.{Answer, TheVariants.Number}, Op.{Op, TheVariants.Add}}
use Rattle.krs_types.specs.declared.{context.Context.Context, errno.Errno.Errno, key_id.KeyId.KeyId, name.Name.Name}
use Rattle.krs_types.specs.{KeyId.key_id_of}
use Rattle.krs_model.specs.Asks.Adding.{add, added, added_in, added_serial, admitted, Made, Place, place_of, Updated}
use Rattle.krs_model.specs.{Hiding.{blind, Hiding, over}, Lookup.{context_of, serial_of}, Making.made_for}
use Rattle.krs_model.specs.{Making.special_ring, Outcome.Outcome}
use Rattle.krs_model.specs.{Secrecy.HidesOnly, State.{Key, raised, State}, Step.{Ends, Step}, Table.{IsBelow}}
use Rattle.krs_model.specs.Table.{IsDistinct, put}
use Rattle.krs_model.proofs.{Asks.Later.{bind_ok, same_ok}, Hiding.{Adding.same_place, Links.made_blind}}
use Rattle.krs_model.proofs.{Hiding.Sweeps.same_there, Isolation.Flows.given_below, MadeKeyring.Which.IsMade}
use Rattle.krs_model.proofs.MadeKeyring.Which.{made_for_is, NoneMade, ProcessMade, ThreadMade}
use Rattle.krs_model.proofs.Tables.{Distinct.put_distinct, Entries.rises_distinct}
use Rattle.krs_laws.specs.Overwritten.{AddsForget}
use Rattle.krs_laws.proofs.Overwriting.{AsksAlike, served_same, then_ok, updated_keys}
use Rattle.std.proofs.lemmas.Grind.{common_steps}

-- ---- the state that it meets, with a keyring made where it wants one
record IsAbove (s : State) (n : ℕ) : Type 0 where
  distinct : IsDistinct s.keys
  given : n < s.next_serial

more_above : (s : State) (n : ℕ) (ring : Key) (t : State) → IsBelow s.keys s.next_serial → IsAbove s n
    → t.keys ≡ put s.keys s.next_serial ring → t.next_serial ≡ s.next_serial + 1 → IsAbove t n
more_above s n ring t below above keys next = grind (arith, common_steps, put_distinct)

made_above :
    (s : State) (number : ℕ) (c : Context) (id : Result KeyId Errno) (made : State × Context) (n : ℕ)
    → IsBelow s.keys s.next_serial → IsAbove s n → IsMade s number c id made → IsAbove made.0 n
made_above s number c id _ n below above NoneMade = above
made_above s number c id _ n below above (ThreadMade is none) =
    more_above s n (special_ring (codes "_tid") c.caller) _ below above refl refl
made_above s number c id _ n below above (ProcessMade is none) =
    more_above s n (special_ring (codes "_pid") c.caller) _ below above refl refl

-- ---- what it leaves
-- where the serial was given before, the payload that was hidden is overwritten
added_same :
    (hide : Hiding) (s : State) (c : Context) (name : Name) (payload : List ℕ) (serial : ℕ) (place : Place)
    → IsAbove s serial → HidesOnly serial hide → added_serial s place ≡ serial
    → ◌≡◌ {A = State × Answer} (added (blind hide s) c name payload place, Number (added_serial (blind hide s) place))
    (added s c name payload place, Number (added_serial s place))
added_same hide s c name payload serial (Updated found) above only is = grind (arith, common_steps, updated_keys)
added_same hide s c name payload serial (Made ring) above only is = grind (arith, common_steps)

numbered : (r : Outcome) (a b : State) (n k : ℕ) → r ≡ Ok (a, Number n) → r ≡ Ok (b, Number k) → n ≡ k
numbered r a b n k was is = grind (arith, common_steps, same_ok)

add_same :
    (hide : Hiding) (s : State) (client context : ℕ) (type_name desc payload : List ℕ) (ring : ℤ) (serial : ℕ)
    (mid : State) → IsBelow s.keys s.next_serial → IsAbove s serial → HidesOnly serial hide
    → add s client context type_name desc payload ring ≡ Ok (mid, Number serial)
    → add (blind hide s) client context type_name desc payload ring ≡ Ok (mid, Number serial)
unfolding add context_of
add_same hide s client context type_name desc payload ring serial mid below above only h =
    let end : State × Answer = (mid, Number serial) in
    let a = bind_ok (context_of s client context) _ end h in
    let b = bind_ok (admitted type_name desc payload) _ end a.2 in
    let made = made_for s context a.0 ring in
    let d = bind_ok (place_of made.0 made.1 b.0 ring) _ end b.2 in
    let new = added made.0 made.1 b.0 payload d.0 in
    let given = added_serial made.0 d.0 in
    let is = numbered (Ok (new, Number given)) new mid given serial refl d.2 in
    let in_made = made_above s context a.0 (key_id_of ring) made serial below above (made_for_is s context a.0 ring) in
    then_ok (context_of (blind hide s) client context) _ a.0 end a.1
    (then_ok (admitted type_name desc payload) _ b.0 end b.1
    (ap (λ (x : State × Context). added_in x.0 x.1 b.0 payload ring) (made_blind hide s context a.0 ring)
    ∙ then_ok (place_of (blind hide made.0) made.1 b.0 ring) _ d.0 end
    (same_place hide made.0 made.1 b.0 ring ∙ ap (over (λ (p : Place). p)) d.1)
    (ap (λ (x : State × Answer). Ok x) (added_same hide made.0 made.1 b.0 payload serial d.0 in_made only is) ∙ d.2)))

add_alike :
    (hide : Hiding) (s : State) (client context : ℕ) (type_name desc payload : List ℕ) (ring : ℤ) (serial : ℕ)
    → IsBelow s.keys s.next_serial → IsAbove s serial → HidesOnly serial hide
    → AsksAlike s (blind hide s) client context (Add type_name desc payload ring) (Number serial)
unfolding context_of serial_of
add_alike hide s client context type_name desc payload ring serial below above only =
    grind (arith, common_steps, same_there, add_same)

pub adds_forget : AddsForget
unfolding Step
adds_forget hide old new event serial sound only adds step =
    let up = raised old event.moment in
    let given = given_below old.keys old.next_serial serial adds.key sound.unused adds.there in
    let alike = add_alike hide up event.lane event.ask.context adds.type_name adds.desc adds.payload adds.ring serial
    sound.unused (record { distinct = rises_distinct old.keys sound.rising; given = given }) only in
    subst (λ (r : Result Answer Errno). Ends (blind hide up) event.lane event.ask.context event.ask.op r new)
    (sym adds.told)
    (served_same hide up new event.lane event.ask.context event.ask.op (Number serial)
    (subst (λ (o : Op). AsksAlike up (blind hide up) event.lane event.ask.context o (Number serial))
    (sym adds.asked) alike)
    (subst (λ (r : Result Answer Errno). Ends up event.lane event.ask.context event.ask.op r new) adds.told step))
