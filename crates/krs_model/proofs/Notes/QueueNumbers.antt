-- Queues that are opened: a number is given once.
use Rattle.std.proofs.Common.{◌<◌, ◌∙◌, ◌≡◌, ◌≤◌, ap, arith, Err, List, None, Ok, option_map, refl, Result, Some}
use Rattle.std.proofs.{Common.{ℕ}, lemmas.Bool.Decides.nat_tests}
use Rattle.krs_types.specs.declared.ask.{Answer.{Answer, TheVariants.Number}, Op.{Op, TheVariants.OpenQueue}}
use Rattle.krs_types.specs.declared.{errno.Errno.Errno, event.Event.Event, note.Record.Record}
use Rattle.krs_model.specs.Asks.{Leaving.left, Watching.{after_read, new_queue, with_filter}}
use Rattle.krs_model.specs.{Notes.Posting.{after_notes, records_for}, Receiving.IsOpening}
use Rattle.krs_model.specs.{Sound.IsSound, State.{raised, State}, Step.{Ends, posts_by, Step}, Table.at}
use Rattle.krs_model.proofs.Asks.Effects.{Closes, Effect, effect_of, Filters, Leaves, OfKeys, Opens}
use Rattle.krs_model.proofs.{Asks.{Effects.{Reads, Unwatches, Watches}, Later.same_ok}, Notes.Called.none_called}
use Rattle.krs_model.proofs.{Notes.Called.{served_at, served_next}, Sound.Steps.raised_sound}
use Rattle.krs_model.proofs.Tables.Changes.{at_alter_none, at_filter_none, at_or_apart, at_put_other, at_put_same}
use Rattle.krs_model.proofs.Tables.Changes.{at_without_none}
use Rattle.std.proofs.lemmas.Grind.{common_steps}

-- a number that was given is not given again
effect_gone :
    (s : State) (client context : ℕ) (op : Op) (mid : State) (answer : Answer) (q : ℕ) → q < s.next_queue
    → at s.queues q ≡ None → Effect s client context op mid answer → at mid.queues q ≡ None
unfolding left
effect_gone s client context _ _ _ q lt none (OfKeys op mid answer other comes stays) = grind (arith, common_steps)
effect_gone s client context _ _ _ q lt none (Opens capacity fits) = grind (arith, nat_tests, at_put_other, at_or_apart)
effect_gone s client context _ _ _ q lt none (Filters number entries queue there) =
    at_alter_none s.queues number q (with_filter entries) none
effect_gone s client context _ _ _ q lt none (Reads number room queue there) =
    at_alter_none s.queues number q (after_read room) none
effect_gone s client context _ _ _ q lt none (Closes number queue there) = at_without_none s.queues number q none
effect_gone s client context _ _ _ q lt none (Watches id watch_id number key n queue here there is small) = none
effect_gone s client context _ _ _ q lt none (Unwatches id watch_id number key n queue here names there is has) = none
effect_gone s client context _ _ _ q lt none Leaves = at_filter_none _ s.queues q none

ends_gone :
    (s new : State) (client context : ℕ) (op : Op) (reply : Result Answer Errno) (q : ℕ)
    → Ends s client context op reply new → q < s.next_queue → at s.queues q ≡ None → at new.queues q ≡ None
ends_gone s new client context op (Ok answer) q serves lt none =
    let mid = serves.mid in
    let rs = records_for q (posts_by s client context op answer new.keys) in
    served_at serves q ∙ ap (option_map (after_notes rs)) (effect_gone s client context op mid answer q lt none
    (effect_of s client context op mid answer serves.meant))
ends_gone s new client context op (Err e) q ends lt none = ap (λ (t : State). at t.queues q) ends.1 ∙ none

pub step_gone :
    (old new : State) (event : Event) (q : ℕ) → Step old event new → q < old.next_queue → at old.queues q ≡ None
    → at new.queues q ≡ None
unfolding Step
step_gone old new event q step lt none = grind (arith, common_steps, ends_gone)

-- numbers rise
effect_next :
    (s : State) (client context : ℕ) (op : Op) (mid : State) (answer : Answer) → Effect s client context op mid answer
    → s.next_queue ≤ mid.next_queue
unfolding left
effect_next s client context _ _ _ (OfKeys op mid answer other comes stays) = grind (arith, nat_tests)
effect_next s client context _ _ _ (Opens capacity fits) = omega arith
effect_next s client context _ _ _ (Filters number entries queue there) = omega arith
effect_next s client context _ _ _ (Reads number room queue there) = omega arith
effect_next s client context _ _ _ (Closes number queue there) = omega arith
effect_next s client context _ _ _ (Watches id watch_id number key n queue here there is small) = omega arith
effect_next s client context _ _ _ (Unwatches id watch_id number key n queue here names there is has) = omega arith
effect_next s client context _ _ _ Leaves = omega arith

ends_next :
    (s new : State) (client context : ℕ) (op : Op) (reply : Result Answer Errno) → Ends s client context op reply new
    → s.next_queue ≤ new.next_queue
ends_next s new client context op (Ok answer) serves =
    let mid = serves.mid in
    let more : s.next_queue ≤ mid.next_queue = search (effect_next, effect_of) depth 8 in
    let same : new.next_queue ≡ mid.next_queue = served_next serves in
    omega arith
ends_next s new client context op (Err e) ends = grind (arith, nat_tests)

pub step_next :
    (old new : State) (event : Event) → Step old event new → old.next_queue ≤ new.next_queue
unfolding Step
step_next old new event step = grind (arith, common_steps, ends_next)

-- a queue that is opened gets the next number, and nothing waits in it
record Opened (s mid : State) (client q capacity : ℕ) : Type 0 where
  number : q ≡ s.next_queue
  there : at mid.queues q ≡ Some (new_queue client capacity)

opened_by :
    (s : State) (client context : ℕ) (op : Op) (mid : State) (answer : Answer) (q capacity : ℕ)
    → op ≡ OpenQueue capacity → answer ≡ Number q → Effect s client context op mid answer
    → Opened s mid client q capacity
opened_by s client context _ _ _ q capacity asked gave (OfKeys op mid answer other comes stays) = cc
opened_by s client context _ _ _ q capacity asked gave (Opens other fits) = grind (arith, nat_tests, at_put_same)
opened_by s client context _ _ _ q capacity asked gave (Filters number entries queue there) = absurd cc
opened_by s client context _ _ _ q capacity asked gave (Reads number other queue there) = absurd cc
opened_by s client context _ _ _ q capacity asked gave (Closes number queue there) = absurd cc
opened_by s client context _ _ _ q capacity asked gave (Watches id watch_id number key n queue here there is small) = cc
opened_by s client context _ _ _ q capacity asked gave
    (Unwatches id watch_id number key n queue here names there is has) =
    absurd cc
opened_by s client context _ _ _ q capacity asked gave Leaves = absurd cc

ends_opened :
    (s new : State) (client context : ℕ) (op : Op) (reply : Result Answer Errno) (q capacity : ℕ) → IsSound s
    → Ends s client context op reply new → op ≡ OpenQueue capacity → reply ≡ Ok (Number q)
    → (q ≡ s.next_queue) × (at new.queues q ≡ Some (new_queue client capacity))
ends_opened s new client context op (Ok answer) q capacity sound serves asked gave =
    let mid = serves.mid in
    let effect = effect_of s client context op mid answer serves.meant in
    let is : answer ≡ Number q = same_ok (Ok answer) answer (Number q) refl gave in
    let opened = opened_by s client context op mid answer q capacity asked is effect in
    let none : at s.queues q ≡ None = sound.orderly.unused q (let e = opened.number in omega arith) in
    let nothing = none_called s mid client context op answer new.keys q sound serves.meant none in
    let rs = records_for q (posts_by s client context op answer new.keys) in (
      opened.number,
      served_at serves q ∙ (ap (option_map (after_notes rs)) opened.there
          ∙ ap (λ (notes : List Record). Some (after_notes notes (new_queue client capacity))) nothing),
    )
ends_opened s new client context op (Err e) q capacity sound ends asked gave = absurd cc

pub step_opened :
    (old new : State) (event : Event) (q capacity : ℕ) → IsSound old → Step old event new → IsOpening q capacity event
    → (q ≡ old.next_queue) × (at new.queues q ≡ Some (new_queue event.lane capacity))
unfolding Step
step_opened old new event q capacity sound step opening =
    ends_opened (raised old event.moment) new event.lane event.ask.context event.ask.op event.reply q capacity
    (raised_sound old event.moment sound) step opening.asked opening.gave
