-- A new key is its maker's own, and linked from nowhere but where it was put.
use Rattle.std.proofs.Common.{◌+◌, ◌||◌, ◌∙◌, ◌≡◌, ap, arith, Bool, Err, false, IsSome, leb-true, List, nat_le}
use Rattle.std.proofs.Common.{None, Ok, Option, refl, Result, Some, sym, true, true≢false, ℕ, ℤ}
use Rattle.std.proofs.lemmas.{Bool.Decides.nat_tests, Option.same_Some}
use Rattle.krs_types.specs.declared.ask.{Answer.Answer, Op.{Op, TheVariants.{Add, GetId, Hello, Join}}}
use Rattle.krs_types.specs.declared.{caller.Caller.Caller, context.{Context.Context, UidRings.UidRings}}
use Rattle.krs_types.specs.declared.{errno.Errno.Errno, event.Event.Event, key_id.KeyId.KeyId, name.Name.Name}
use Rattle.krs_types.specs.{declared.rights.Want.TheVariants.Granted, KeyId.key_id_of, Perm.{group_byte, other_byte}}
use Rattle.krs_types.specs.Rights.{WRITE}
use Rattle.krs_types.proofs.KindRows.{has_row}
use Rattle.krs_model.specs.Asks.Adding.{add, added, admitted, Made, Place, place_of, Updated}
use Rattle.krs_model.specs.Asks.{Finding.{get_id, made_where}, Hello.{hello, with_uid}, Joining.join}
use Rattle.krs_model.specs.{Asks.Joining.{session_joined, session_ring}, Confidentiality.{ActsAs, AreEnclosed}}
use Rattle.krs_model.specs.Confidentiality.{HasToItself, is_own, IsFor, IsGivenAway, MakesForItself, may_make}
use Rattle.krs_model.specs.{Confidentiality.with_made, Linking.{link_named, ring_links}, Lookup.context_of}
use Rattle.krs_model.specs.{Lookup.{look_up, serial_of}, Making.made_for, Notes.Posting.{Post, posted_in}}
use Rattle.krs_model.specs.{Sound.IsSound, State.{Key, raised, State}, Step.{Ends, outcome_of, posts_by, Step}}
use Rattle.krs_model.specs.{Sweep.IsSweep, Table.{at, IsBelow, put, Table}}
use Rattle.krs_model.proofs.Asks.{Later.{bind_ok, same_ok}, Outcomes.{Meets, meets_after, meets_ok, meets_within}}
use Rattle.krs_model.proofs.Isolation.{Growth.{of_made, same_owner, step_grows}, Guarded.lessens_keeps}
use Rattle.krs_model.proofs.Isolation.{Keys.{changed_enclosed, kept_enclosed}, Steps.raised_alone}
use Rattle.krs_model.proofs.{Lookups.{Laws.in_by_match, Serials.found_serial}, MadeKeyring.Which.IsMade}
use Rattle.krs_model.proofs.{MadeKeyring.Which.{made_for_is, NoneMade, ProcessMade, ThreadMade}, Reach.Levels.or_true}
use Rattle.krs_model.proofs.{Reach.Levels.true_or, Sound.Changes.{at_put, not_there, Stands, with_linked}}
use Rattle.krs_model.proofs.Sound.{KeyChanges.updated_lessens, Steps.{raised_sound, sound_stands, step_sound}}
use Rattle.krs_model.proofs.Sweep.Laws.{linking_is_there}
use Rattle.std.proofs.lemmas.Grind.{common_steps}

-- these keys, and all serials that are not given yet
abbrev or_late : (ℕ → Bool) → ℕ → ℕ → Bool
or_late private n k = private k || nat_le n k

in_late : (private : ℕ → Bool) (n : ℕ) → or_late private n n ≡ true
in_late private n = or_true (private n) (nat_le n n) (grind (arith, nat_tests))

after_late : (private : ℕ → Bool) (n : ℕ) → or_late private n (n + 1) ≡ true
after_late private n = or_true (private (n + 1)) (nat_le n (n + 1)) (grind (arith, nat_tests))

late_enclosed :
    (uid : ℕ) (private : ℕ → Bool) (s : State) → Stands s → HasToItself uid private s
    → AreEnclosed uid (or_late private s.next_serial) s.keys
late_enclosed uid private s stands alone = grind (arith, nat_tests, not_there, leb-true, true_or)

put_own :
    (uid : ℕ) (set : ℕ → Bool) (es : Table Key) (n : ℕ) (key : Key) → set n ≡ true → is_own uid key ≡ true
    → AreEnclosed uid set es → AreEnclosed uid set (put es n key)
put_own uid set es n key private own alone = grind (arith, nat_tests, same_Some, at_put)

pub made_own :
    (uid : ℕ) (key : Key) → key.uid ≡ uid → group_byte key.perm ≡ 0 → other_byte key.perm ≡ 0 → is_own uid key ≡ true
made_own uid key own group other = grind (arith, nat_tests)

-- these keys are the uid's own, and linked among themselves
abbrev Encloses : ℕ → (ℕ → Bool) → State → Type 0
Encloses uid set s = AreEnclosed uid set s.keys

is_made_own :
    (uid : ℕ) (set : ℕ → Bool) (s : State) (number : ℕ) (c : Context) (id : Result KeyId Errno) (made : State × Context)
    → IsMade s number c id made → set s.next_serial ≡ true → c.caller.uid ≡ uid → AreEnclosed uid set s.keys
    → AreEnclosed uid set made.0.keys
is_made_own uid set s number c id _ NoneMade next own alone = alone
is_made_own uid set s number c id _ (ThreadMade is none) next own alone = search (put_own, made_own) depth 8
is_made_own uid set s number c id _ (ProcessMade is none) next own alone = search (put_own, made_own) depth 8

made_for_own :
    (uid : ℕ) (set : ℕ → Bool) (s : State) (number : ℕ) (c : Context) (id : ℤ) → set s.next_serial ≡ true
    → c.caller.uid ≡ uid → AreEnclosed uid set s.keys → AreEnclosed uid set (made_for s number c id).0.keys
made_for_own uid set s number c id next own alone =
    is_made_own uid set s number c (key_id_of id) (made_for s number c id) (made_for_is s number c id) next own alone

is_made_next :
    (set : ℕ → Bool) (s : State) (number : ℕ) (c : Context) (id : Result KeyId Errno) (made : State × Context)
    → IsMade s number c id made → set s.next_serial ≡ true → set (s.next_serial + 1) ≡ true
    → (set made.0.next_serial ≡ true) × (made.1.caller ≡ c.caller)
is_made_next set s number c id _ NoneMade here next = (here, refl)
is_made_next set s number c id _ (ThreadMade is none) here next = (next, refl)
is_made_next set s number c id _ (ProcessMade is none) here next = (next, refl)

where_own :
    (uid : ℕ) (set : ℕ → Bool) (create : Bool) (s : State) (number : ℕ) (c : Context) (id : ℤ)
    → set s.next_serial ≡ true → c.caller.uid ≡ uid → AreEnclosed uid set s.keys
    → AreEnclosed uid set (made_where create s number c id).0.keys
where_own uid set true s number c id next own alone = made_for_own uid set s number c id next own alone
where_own uid set false s number c id next own alone = alone

ruleset keeping = (meets_after, meets_within, meets_ok, same_owner)

get_id_keeps :
    (uid : ℕ) (set : ℕ → Bool) (s : State) (client context : ℕ) (id : ℤ) (create : Bool) → ActsAs uid s client context
    → set s.next_serial ≡ true → AreEnclosed uid set s.keys
    → Meets (Encloses uid set) (get_id s client context id create)
unfolding get_id
get_id_keeps uid set s client context id create ask next alone = search (keeping, where_own) depth 12

session_own : (uid : ℕ) (name : List ℕ) (c : Caller) → c.uid ≡ uid → is_own uid (session_ring name c) ≡ true
session_own uid name c own = grind (arith, nat_tests, made_own)

joined_keeps :
    (uid : ℕ) (set : ℕ → Bool) (s : State) (number : ℕ) (c : Context) (name : List ℕ) (answer : Option (ℕ × Key))
    → set s.next_serial ≡ true → c.caller.uid ≡ uid → AreEnclosed uid set s.keys
    → Meets (Encloses uid set) (session_joined s number c name answer)
joined_keeps uid set s number c name (Some found) next own alone = meets_ok alone
joined_keeps uid set s number c name None next own alone = search (meets_ok, put_own, session_own) depth 8

join_keeps :
    (uid : ℕ) (set : ℕ → Bool) (s : State) (client context : ℕ) (name : List ℕ) → ActsAs uid s client context
    → set s.next_serial ≡ true → AreEnclosed uid set s.keys → Meets (Encloses uid set) (join s client context name)
unfolding join
join_keeps uid set s client context name ask next alone = search (joined_keeps, keeping) depth 12

uid_keeps :
    (uid : ℕ) (set : ℕ → Bool) (s : State) (c : Caller) (rings : Option UidRings) → set s.next_serial ≡ true
    → set (s.next_serial + 1) ≡ true → c.uid ≡ uid → AreEnclosed uid set s.keys
    → AreEnclosed uid set (with_uid s c rings).keys
uid_keeps uid set s c (Some rings) here next own alone = alone
uid_keeps uid set s c None here next own alone = search (put_own, made_own) depth 8

hello_keeps :
    (uid : ℕ) (set : ℕ → Bool) (s : State) (client : ℕ) (c : Caller) → c.uid ≡ uid → set s.next_serial ≡ true
    → set (s.next_serial + 1) ≡ true → AreEnclosed uid set s.keys → Meets (Encloses uid set) (hello s client c)
unfolding hello
hello_keeps uid set s client c own here next alone = search (keeping, uid_keeps) depth 12

-- where a key is made, it is in the keyring that the id names
made_named :
    (s : State) (c : Context) (name : Name) (id : ℤ) (r : ℕ) → place_of s c name id ≡ Ok (Made r)
    → serial_of s c id ≡ Ok r
unfolding place_of
made_named s c name id r h =
    let a = bind_ok (look_up s c id (Granted WRITE)) _ (Made r) h in
    let b = bind_ok (ring_links a.0.1.content) _ (Made r) a.2 in
    let here : r ≡ a.0.0 = in_by_match s c a.0 r b.0 (link_named s.keys name b.0) b.2 in
    found_serial s c id (Granted WRITE) a.0 a.1 ∙ ap (λ (z : ℕ). Ok z) (sym here)

added_keeps :
    (uid : ℕ) (set : ℕ → Bool) (s : State) (c : Context) (name : Name) (payload : List ℕ) (id : ℤ) (place : Place)
    → place_of s c name id ≡ Ok place → ((into : ℕ) → serial_of s c id ≡ Ok into → set into ≡ true)
    → set s.next_serial ≡ true → c.caller.uid ≡ uid → AreEnclosed uid set s.keys
    → AreEnclosed uid set (added s c name payload place).keys
added_keeps uid set s c name payload id (Updated serial) is within next own alone =
    search (changed_enclosed, lessens_keeps, updated_lessens) depth 8
added_keeps uid set s c name payload id (Made ring) is within next own alone =
    grind (arith, common_steps, made_named, with_linked, nat_tests, changed_enclosed, put_own, made_own, has_row)

add_keeps :
    (uid : ℕ) (set : ℕ → Bool) (s : State) (client context : ℕ) (type_name desc payload : List ℕ) (ring : ℤ)
    → ((c : Context) → context_of s client context ≡ Ok c → (into : ℕ)
    → serial_of (made_for s context c ring).0 (made_for s context c ring).1 ring ≡ Ok into → set into ≡ true)
    → ActsAs uid s client context → set s.next_serial ≡ true → set (s.next_serial + 1) ≡ true
    → AreEnclosed uid set s.keys → Meets (Encloses uid set) (add s client context type_name desc payload ring)
unfolding add
add_keeps uid set s client context type_name desc payload ring within ask here next alone =
    meets_after (context_of s client context) _ (λ c own.
    meets_after (admitted type_name desc payload) _ (λ name _.
    let made = made_for s context c ring in
    let private = same_owner uid s client context c ask own in
    let after = is_made_next set s context c (key_id_of ring) made (made_for_is s context c ring) here next in
    let owner : made.1.caller.uid ≡ uid = ap (λ (z : Caller). z.uid) after.1 ∙ private in
    meets_after (place_of made.0 made.1 name ring) _ (λ place is.
    meets_ok (added_keeps uid set made.0 made.1 name payload ring place is (within c own) after.0 owner
    (made_for_own uid set s context c ring here private alone)))))

outcome_keeps :
    (uid : ℕ) (private : ℕ → Bool) (s : State) (client context : ℕ) (op : Op) → Stands s → HasToItself uid private s
    → MakesForItself uid private s client context op
    → Meets (Encloses uid (or_late private s.next_serial)) (outcome_of s client context op)
outcome_keeps uid private s client context (Hello caller) stands alone makes =
    search (hello_keeps, in_late, after_late, late_enclosed) depth 8
outcome_keeps uid private s client context (GetId id create) stands alone makes =
    search (get_id_keeps, in_late, late_enclosed) depth 8
outcome_keeps uid private s client context (Join name) stands alone makes =
    search (join_keeps, in_late, late_enclosed) depth 8
outcome_keeps uid private s client context (Add type_name desc payload ring) stands alone makes =
    grind (arith, nat_tests, same_ok, add_keeps, in_late, after_late, late_enclosed)
outcome_keeps uid private s client context op stands alone makes = absurd makes

same_acts :
    (uid : ℕ) (s : State) (moment client number : ℕ) → ActsAs uid (raised s moment) client number
    → ActsAs uid s client number
unfolding context_of
same_acts uid s moment client number acts = record { context = acts.context; there = acts.there; own = acts.own }

-- such an ask may make keys, and is for the uid
makes_may :
    (uid : ℕ) (private : ℕ → Bool) (s : State) (moment client context : ℕ) (op : Op)
    → MakesForItself uid private (raised s moment) client context op
    → (may_make op ≡ true) × IsFor uid s client context op
makes_may uid private s moment client context (Hello caller) makes = (refl, makes)
makes_may uid private s moment client context (GetId id create) makes = grind (arith, common_steps, same_acts)
makes_may uid private s moment client context (Join name) makes = (refl, same_acts uid s moment client context makes)
makes_may uid private s moment client context (Add type_name desc payload ring) makes =
    (refl, same_acts uid s moment client context makes.0)
makes_may uid private s moment client context op makes = absurd makes

swept_keeps :
    (uid : ℕ) (set : ℕ → Bool) (old new : State) → IsSweep old new → AreEnclosed uid set old.keys
    → AreEnclosed uid set new.keys
swept_keeps uid set old new s alone = grind (arith, common_steps, kept_enclosed)

posted_keys : (ps : List Post) (s : State) → (posted_in ps s).keys ≡ s.keys
posted_keys ps s = refl

ended_keeps :
    (uid : ℕ) (private : ℕ → Bool) (s new : State) (client context : ℕ) (op : Op) (reply : Result Answer Errno)
    → IsSound s → HasToItself uid private s → MakesForItself uid private s client context op
    → Ends s client context op reply new → AreEnclosed uid (or_late private s.next_serial) new.keys
ended_keeps uid private s new client context op (Ok answer) sound alone makes serves =
    let set : ℕ → Bool = or_late private s.next_serial in
    let mid = (outcome_keeps uid private s client context op (sound_stands s sound) alone makes).meets serves.mid answer
    serves.meant in
    let swept = swept_keeps uid set serves.mid serves.swept serves.sweep mid in
    let ps : List Post = posts_by s client context op answer serves.swept.keys in
    grind (arith, nat_tests, posted_keys)
ended_keeps uid private s new client context op (Err e) sound alone makes ends =
    grind (arith, nat_tests, late_enclosed, sound_stands)

late_is_made :
    (private : ℕ → Bool) (old new : State) (j : ℕ) → IsBelow new.keys new.next_serial → IsSome (at new.keys j)
    → or_late private old.next_serial j ≡ true → with_made private old new j ≡ true
late_is_made private old new j unused there m = grind (arith, nat_tests, or_true, not_there, true_or)

-- an ask that makes keys for its own uid gives none away
none_given :
    (uid : ℕ) (private : ℕ → Bool) (old new : State) → IsBelow new.keys new.next_serial
    → AreEnclosed uid (or_late private old.next_serial) new.keys
    → IsGivenAway uid (with_made private old new) new.keys → ⊥
none_given uid private old new unused alone given =
    grind (arith, nat_tests, or_true, of_made, true≢false, linking_is_there, late_is_made)

pub step_births :
    (uid : ℕ) (private : ℕ → Bool) (old new : State) (event : Event) → IsSound old → HasToItself uid private old
    → Step old event new
    → MakesForItself uid private (raised old event.moment) event.lane event.ask.context event.ask.op
    → HasToItself uid (with_made private old new) new
unfolding Step
step_births uid private old new event sound alone step makes =
    let up = raised old event.moment in
    let above = raised_sound old event.moment sound in
    let may = makes_may uid private old event.moment event.lane event.ask.context event.ask.op makes in
    let kept = ended_keeps uid private up new event.lane event.ask.context event.ask.op event.reply above
    (raised_alone uid private old event.moment alone) makes step in
    let after = step_sound old new event sound step in
    step_grows uid private old new event sound alone step may.0 may.1 (none_given uid private old new after.unused kept)
