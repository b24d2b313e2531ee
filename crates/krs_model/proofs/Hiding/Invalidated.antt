-- The key of an accepted INVALIDATE is gone: nothing holds it, and the sweep takes it.
use Rattle.std.proofs.Common.{[], ⊎_elim, ◌++◌, ◌<◌, ◌==◌, ◌∙◌, ◌∷◌, ◌≡◌, ◌≤◌, ap, arith, Bool, cond, false, filter}
use Rattle.std.proofs.Common.{IsSome, List, None, not, Ok, Option, option_map, option_to_list, refl, Some, subst, sym}
use Rattle.std.proofs.{Common.{true, true≢false, ℕ, ℤ}, lemmas.Bool.Decides.nat_tests}
use Rattle.krs_types.specs.declared.ask.{Answer.{Answer, TheVariants.Nothing}, Op.TheVariants.Invalidate}
use Rattle.krs_types.specs.{declared.{event.Event.Event, rights.Want.TheVariants.Granted}, Rights.SEARCH}
use Rattle.krs_model.specs.Asks.Invalidating.{context_without, detached, invalidate, invalidated, rings_without}
use Rattle.krs_model.specs.{Asks.Linked.{unlinked_content, without_link}, Levels.is_in, Outcome.Outcome}
use Rattle.krs_model.specs.{Possession.links_of_content, Revocation.IsServed, Secrecy.IsGone, State.{Content, Key}}
use Rattle.krs_model.specs.{State.{Links, Payload, raised, State}, Step.Step, Sweep.{Attached, context_roots, IsHeld}}
use Rattle.krs_model.specs.{Sweep.{IsSweep, Linked, links_of_key, process_roots, roots, uid_roots}, Table.at}
use Rattle.krs_model.specs.Table.{IsBelow, map_values, Table}
use Rattle.krs_model.proofs.{Asks.{Later.{is_gone, same_state}, LaterByStep.swept_follows}, Hiding.Gone.gone_of}
use Rattle.krs_model.proofs.History.Revocations.{accepted_came, accepted_finds, Finds, given_serial, one_named}
use Rattle.krs_model.proofs.{Reach.Levels.in_one, Sound.Attached.{attached_by, attachments, context_keys, uid_keys}}
use Rattle.krs_model.proofs.Tables.Changes.{at_kept, at_map}
use Rattle.std.proofs.lemmas.Grind.{common_steps}

detached_out : (serial : ℕ) (o : Option ℕ) → is_in serial (option_to_list (detached serial o)) ≡ true → ⊥
detached_out serial None h = true≢false (sym h)
detached_out serial (Some j) h = grind (arith, nat_tests, true≢false)

-- what no entry attaches is not attached
none_attached :
    {X : Type 0} (g : X → List ℕ) (f : X → X) (es : Table X) (q : ℕ) → ((v : X) → is_in q (g (f v)) ≡ true → ⊥)
    → is_in q (attachments g (map_values f es)) ≡ true → ⊥
none_attached {X = X} g f [] q never h = true≢false (sym h)
none_attached {X = X} g f (e ∷ es) q never h = grind (arith, nat_tests, in_one, none_attached g f es q never)

both_out : (serial : ℕ) (a b : Option ℕ)
    → is_in serial (option_to_list (detached serial a) ++ option_to_list (detached serial b)) ≡ true → ⊥
both_out serial a b h = grind (arith, common_steps, ⊎_elim, detached_out, in_one, option_to_list)

filtered_out : (serial : ℕ) (l : List ℕ) → is_in serial (filter (λ k. not (k == serial)) l) ≡ true → ⊥
filtered_out serial [] h = true≢false (sym h)
filtered_out serial (k ∷ ks) h = grind (arith, nat_tests, filtered_out serial ks)

unlinked_out : (serial : ℕ) (content : Content)
    → is_in serial (links_of_content (unlinked_content serial content)) ≡ true → ⊥
unlinked_out serial (Payload bytes) h = true≢false (sym h)
unlinked_out serial (Links links) h = filtered_out serial links h

no_link : (serial : ℕ) (o : Option Key) → is_in serial (links_of_key (option_map (without_link serial) o)) ≡ true → ⊥
no_link serial None h = true≢false (sym h)
no_link serial (Some key) h = unlinked_out serial key.content h

not_held_by : (keys : Table Key) (attached : List ℕ) (k serial : ℕ) → k ≡ serial
    → (is_in serial attached ≡ true → ⊥) → ((j : ℕ) → is_in serial (links_of_key (at keys j)) ≡ true → ⊥)
    → IsHeld keys attached k → ⊥
not_held_by keys attached _ serial same free alone (Attached k i) = grind (arith, common_steps)
not_held_by keys attached _ serial same free alone (Linked j k held i) = grind (arith, common_steps)

not_held : (s : State) (serial : ℕ) → IsHeld (invalidated s serial).keys (roots (invalidated s serial)) serial → ⊥
not_held s serial held =
    let new : State = invalidated s serial in
    not_held_by new.keys (roots new) serial serial refl
    (attached_by (context_roots new.contexts) (process_roots new.processes) (uid_roots new.uids) serial
    (none_attached context_keys (context_without serial) s.contexts serial
    (λ v h. both_out serial v.thread v.session h))
    (none_attached option_to_list (detached serial) s.processes serial (λ v h. detached_out serial v h))
    (none_attached uid_keys (rings_without serial) s.uids serial (λ v h. both_out serial v.user v.session h)))
    (λ j i. no_link serial (at s.keys j)
    (subst (λ (o : Option Key). is_in serial (links_of_key o) ≡ true) (at_map (without_link serial) s.keys j) i))
    held

-- nothing is left of a key that isn't held
dropped : (b : Bool) (o : Option Key) → (IsSome o → b ≡ true → ⊥) → is_gone (cond b o None) ≡ true
dropped true None never = refl
dropped true (Some key) never = absurd (never refl refl)
dropped false o never = refl

abbrev if_invalidated : State → (ℕ × Key) → Outcome
if_invalidated s found = Ok (invalidated s found.0, Nothing)

invalidate_finds :
    (s new : State) (client context : ℕ) (id : ℤ) (answer : Answer) → invalidate s client context id ≡ Ok (new, answer)
    → Finds s client context id (if_invalidated s) (new, answer)
unfolding invalidate
invalidate_finds s new client context id answer h =
    accepted_finds s client context id (Granted SEARCH) (if_invalidated s) (new, answer) h

pub invalidated_gone : (old new : State) (event : Event) (serial : ℕ) → IsBelow old.keys old.next_serial
    → Step old event new → IsServed old event Invalidate serial → IsGone new serial
invalidated_gone old new event serial below step served =
    let came = accepted_came old new event (Invalidate served.id) step served.asked served.accepted in
    let up = raised old event.moment in
    let serves = came.serves in
    let found = invalidate_finds up serves.mid event.lane event.ask.context served.id came.answer serves.meant in
    let here : found.serial ≡ serial =
    one_named up event.lane event.ask.context served.id found.serial serial found.names served.names in
    let after : State = invalidated up found.serial in
    let mid_is : after ≡ serves.mid =
    same_state (Ok (after, Nothing)) after serves.mid Nothing came.answer refl found.then in
    let sweep : IsSweep after serves.swept = subst (λ (t : State). IsSweep t serves.swept) (sym mid_is) serves.sweep in
    let swept_gone : is_gone (at serves.swept.keys found.serial) ≡ true =
    ap (λ (es : Table Key). is_gone (at es found.serial)) sweep.keys
    ∙ (ap is_gone (at_kept sweep.kept after.keys found.serial)
    ∙ dropped (sweep.kept found.serial) (at after.keys found.serial)
    (λ there kept. not_held up found.serial (sweep.picks.only found.serial there kept))) in
    let keys_are : new.keys ≡ serves.swept.keys = ap (λ (t : State). t.keys) serves.posted in
    let given : found.serial < up.next_serial = given_serial up found.serial found.key below found.there in
    let next_is : serves.mid.next_serial ≡ up.next_serial = sym (ap (λ (t : State). t.next_serial) mid_is) in
    let on : serves.mid.next_serial ≤ new.next_serial = (swept_follows serves).next in
    grind (arith, nat_tests, gone_of)
