-- Queues and what waits in them stay within their limits.
use Rattle.std.proofs.Common.{[], ap, arith, Bool, filter, length, List, nat_cmp, nat_le, nat_lt, not}
use Rattle.std.proofs.Common.{Ok, refl, Some, subst, sym, ℕ, ◌++◌, ◌+◌, ◌-◌, ◌<◌, ◌==◌, ◌∙◌, ◌∷◌, ◌≡◌, ◌≤◌}
use Rattle.std.proofs.lemmas.{Bool.Decides.nat_tests, Option.{none-some, same_Some}}
use Rattle.krs_types.specs.declared.ask.{Answer.Answer, Op.{Op, TheVariants.{OpenQueue, SetFilter}}}
use Rattle.krs_types.specs.declared.{errno.Errno.TheVariants.{ENFILE}, note.{FilterEntry.FilterEntry, Record.Record}}
use Rattle.krs_model.specs.Asks.{Leaving.left, Linked.unless, Watching.{after_read, new_queue, open_queue, opened}}
use Rattle.krs_model.specs.Asks.Watching.{filtered, set_filter, with_filter}
use Rattle.krs_model.specs.Notes.{Bytes.{bytes_of}, Filter.filter_of, Front.behind}
use Rattle.krs_model.specs.Notes.{Posting.{after_note, after_notes, Post, post_all, records_for}, Stream.room_of}
use Rattle.krs_model.specs.{Notes.Waiting.{after_post, total_room}, Orderly.AreOrderly}
use Rattle.krs_model.specs.{Queues.{Queues, queues_of}, State.{Queue, State}, Step.{outcome_of, posts_by, Serves}}
use Rattle.krs_model.specs.Table.{alter, at, put, Table, without}
use Rattle.krs_model.proofs.Asks.Done.{Closes, Effect, Filters, Leaves, OfKeys, Opens, Reads, Unwatches, Watches}
use Rattle.krs_model.proofs.{Asks.Later.bind_ok, Notes.{Called.served_at, Streams.total_room-with_loss}}
use Rattle.krs_model.proofs.Tables.{Distinct.at_filter_some, Each.{every_alter, every_put, mapped_is}}
use Rattle.krs_model.proofs.Tables.Entries.{without_was}
use Rattle.std.proofs.lemmas.Grind.{common_steps}

-- ---- what waits
abbrev Fits : Queue → Type 0
Fits queue = total_room queue.waiting ≤ queue.capacity

abbrev pub AllWait : Table Queue → Type 0
AllWait queues = (number : ℕ) (queue : Queue) → at queues number ≡ Some queue → Fits queue

room_one : (note : Record) → room_of note ≤ 1
room_one note = grind (arith, common_steps)

room_appended : (waiting : List Record) (note : Record) → total_room (waiting ++ note ∷ [])
    ≡ total_room waiting + room_of note
room_appended [] note = omega arith
room_appended (w ∷ ws) note = let later = room_appended ws note in omega arith

post_fits : (capacity : ℕ) (note : Record) (waiting : List Record) → total_room waiting ≤ capacity
    → total_room (after_post capacity note waiting) ≤ capacity
post_fits capacity note waiting fits =
    grind (arith, common_steps, nat_lt, nat_tests, room_appended, room_one, total_room-with_loss)

notes_fit : (notes : List Record) (queue : Queue) → Fits queue → Fits (after_notes notes queue)
notes_fit [] queue fits = fits
notes_fit (note ∷ notes) queue fits =
    grind (
      arith,
      common_steps,
      post_fits,
      notes_fit notes (after_note note queue) (post_fits queue.capacity note queue.waiting fits),
    )

behind_room : (room : ℕ) (waiting : List Record) → total_room (behind room waiting) ≤ total_room waiting
behind_room room [] = omega arith
behind_room room (note ∷ notes) = grind (arith, common_steps, nat_le, behind_room (room - length (bytes_of note)) notes)

-- ---- how many there are
alter_length : {X : Type 0} (es : Table X) (k : ℕ) (f : X → X) → length (alter es k f) ≡ length es
alter_length [] k f = refl
alter_length (e ∷ es) k f = grind (arith, common_steps, nat_cmp, alter_length es k f)

put_length : {X : Type 0} (es : Table X) (k : ℕ) (v : X) → length (put es k v) ≤ length es + 1
put_length [] k v = omega arith
put_length (e ∷ es) k v = grind (arith, common_steps, nat_cmp, put_length es k v)

without_length : {X : Type 0} (es : Table X) (k : ℕ) → length (without es k) ≤ length es
without_length [] k = omega arith
without_length (e ∷ es) k = grind (arith, common_steps, nat_cmp, without_length es k)

pub filter_length : {X : Type 0} (p : X → Bool) (es : List X) → length (filter p es) ≤ length es
filter_length p [] = omega arith
filter_length p (e ∷ es) = grind (arith, common_steps, filter_length p es)

posted_length : (ps : List Post) (queues : Table Queue) → length (post_all ps queues) ≡ length queues
posted_length [] queues = refl
posted_length (p ∷ ps) queues =
    grind (arith, common_steps, alter_length, posted_length ps (alter queues p.0 (after_note p.1)))

few_open : (n : ℕ) (x : Unit {0}) → unless (nat_le 256 n) ENFILE ≡ Ok x → n < 256
few_open n x h = grind (arith, common_steps, nat_le, nat_tests)

opened_few : (s : State) (client context capacity : ℕ) (end : State × Answer)
    → outcome_of s client context (OpenQueue capacity) ≡ Ok end → length s.queues < 256
unfolding open_queue opened
opened_few s client context capacity end h = grind (arith, common_steps, bind_ok, nat_le, few_open)

-- ---- filters
abbrev HasShortFilter : Queue → Type 0
HasShortFilter queue = (entries : List FilterEntry) → queue.filter ≡ Some entries → length entries ≤ 16

good_short : (entries good : List FilterEntry) → filter_of entries ≡ Ok good → length entries ≤ 16
good_short entries good h = grind (arith, common_steps, nat_le, nat_tests)

filtered_short : (s : State) (client context number : ℕ) (entries : List FilterEntry) (end : State × Answer)
    → outcome_of s client context (SetFilter number entries) ≡ Ok end → length entries ≤ 16
unfolding set_filter filtered
filtered_short s client context number entries end h = grind (arith, common_steps, bind_ok, good_short)

notes_filter : (notes : List Record) (queue : Queue) → HasShortFilter queue → HasShortFilter (after_notes notes queue)
notes_filter [] queue short = short
notes_filter (note ∷ notes) queue short = notes_filter notes (after_note note queue) short

-- what an accepted ask leaves of queues
pub record QueuesWithin (queues : Table Queue) : Type 0 where
  pub few : length queues ≤ 256
  pub wait : AllWait queues
  pub filters : (number : ℕ) (queue : Queue) → at queues number ≡ Some queue → HasShortFilter queue

effect_within :
    (s : State) (client context : ℕ) (op : Op) (mid : State) (answer : Answer)
    → outcome_of s client context op ≡ Ok (mid, answer) → AreOrderly (queues_of s)
    → Effect s client context op mid answer → QueuesWithin s.queues → QueuesWithin mid.queues
unfolding left
effect_within s client context _ _ _ h orderly (OfKeys op mid answer other comes none) was =
    subst QueuesWithin (sym (ap (λ (q : Queues). q.queues) comes.queues)) was
effect_within s client context _ _ _ h orderly (Opens capacity held) was =
    let few = opened_few s client context capacity _ h in
    let more = put_length s.queues s.next_queue (new_queue client capacity) in
    record {
      few = omega arith;
      wait = every_put Fits s.queues s.next_queue (new_queue client capacity) (omega arith) was.wait;
      filters = every_put HasShortFilter s.queues s.next_queue (new_queue client capacity)
          (λ entries none. absurd (none-some entries none)) was.filters;
    }
effect_within s client context _ _ _ h orderly (Filters number entries queue there) was = record {
  few = let same = alter_length s.queues number (with_filter entries) in let few = was.few in omega arith;
  wait = every_alter Fits s.queues number (with_filter entries) (λ q _ fits. fits) was.wait;
  filters = every_alter HasShortFilter s.queues number (with_filter entries) (λ q _ short es is.
      subst (λ (fs : List FilterEntry). length fs ≤ 16) (same_Some entries es is)
      (filtered_short s client context number entries _ h)) was.filters;
}
effect_within s client context _ _ _ h orderly (Reads number room queue there) was = record {
  few = let same = alter_length s.queues number (after_read room) in let few = was.few in omega arith;
  wait = every_alter Fits s.queues number (after_read room)
      (λ q _ fits. let less = behind_room room q.waiting in omega arith) was.wait;
  filters = every_alter HasShortFilter s.queues number (after_read room) (λ q _ short. short) was.filters;
}
effect_within s client context _ _ _ h orderly (Closes number queue there) was = record {
  few = let less = without_length s.queues number in let few = was.few in omega arith;
  wait = λ k q here. was.wait k q (without_was s.queues number k q orderly.distinct here);
  filters = λ k q here. was.filters k q (without_was s.queues number k q orderly.distinct here);
}
effect_within s client context _ _ _ h orderly (Watches id watch_id number key n queue known there asked fits) was = was
effect_within s client context _ _ _ h orderly (Unwatches id watch_id number key n queue known named
    there asked id_was) was =
    was
effect_within s client context _ _ _ h orderly Leaves was = record {
  few = let less = filter_length (λ e. not (e.1.client == client)) s.queues in let few = was.few in omega arith;
  wait = λ k q here.
      was.wait k q (at_filter_some (λ e. not (e.1.client == client)) s.queues k q orderly.distinct here);
  filters = λ k q here.
      was.filters k q (at_filter_some (λ e. not (e.1.client == client)) s.queues k q orderly.distinct here);
}

pub served_within :
    (s new : State) (client context : ℕ) (op : Op) (answer : Answer) (serves : Serves s client context op answer new)
    → AreOrderly (queues_of s) → Effect s client context op serves.mid answer → QueuesWithin s.queues
    → QueuesWithin new.queues
served_within s new client context op answer serves orderly effect was =
    let mid = effect_within s client context op serves.mid answer serves.meant orderly effect was in
    let swept : serves.swept.queues ≡ serves.mid.queues = ap (λ (t : State). t.queues) serves.sweep.rest in
    let same : length new.queues ≡ length serves.swept.queues =
    ap (λ (t : State). length t.queues) serves.posted ∙ posted_length
    (posts_by s client context op answer serves.swept.keys) serves.swept.queues in
    record {
      few = let few = mid.few in let e = ap (λ (q : Table Queue). length q) swept in omega arith;
      wait = λ number queue there.
          let old = mapped_is _ (at serves.mid.queues number) queue (sym (served_at serves number) ∙ there) in
          subst Fits old.2 (notes_fit (records_for number _) old.0 (mid.wait number old.0 old.1));
      filters = λ number queue there.
          let old = mapped_is _ (at serves.mid.queues number) queue (sym (served_at serves number) ∙ there) in
          subst HasShortFilter old.2
          (notes_filter (records_for number _) old.0 (mid.filters number old.0 old.1));
    }
