-- What is proved of WATCH and the asks of queues.
use Rattle.std.proofs.Common.{[], ◌∙◌, ◌∷◌, ◌≡◌, ◌≤◌, ap, arith, Bool, false, IsSome, leb-true, List, negsuc, None}
use Rattle.std.proofs.Common.{not, Ok, Option, pos, refl, Some, suc, true, zero, ℕ, ℤ}
use Rattle.std.proofs.lemmas.Bool.Decides.{nat_tests}
use Rattle.krs_types.specs.declared.ask.Answer.{Answer, TheVariants.{Bytes, Nothing, Number}}
use Rattle.krs_types.specs.declared.ask.Op.TheVariants.{CloseQueue, OpenQueue, ReadQueue, SetFilter, Watch}
use Rattle.krs_types.specs.declared.{context.Context.Context, errno.Errno.Errno, note.FilterEntry.FilterEntry}
use Rattle.krs_types.specs.{declared.{note.Record.Record, rights.Want.TheVariants.Granted}, Rights.VIEW}
use Rattle.krs_model.specs.Asks.{Linked.unless, Watching.{after_read, close_queue, closed, filtered, open_queue}}
use Rattle.krs_model.specs.Asks.Watching.{opened, read_out, read_queue, set_filter, unwatched, watch, watch_id_of}
use Rattle.krs_model.specs.Asks.Watching.{watched, with_filter, with_queue, with_watching, without_queue}
use Rattle.krs_model.specs.{Lookup.{context_of, look_up, serial_of}, Notes.{Bytes.bytes_of_all, Filter.filter_of}}
use Rattle.krs_model.specs.{Notes.{Front.{front, readable}, Telling.named, Waiting.is_capacity}, Queues.queue_of}
use Rattle.krs_model.specs.{Queues.{Queues, queues_of, with_queues, with_watch}, State.{Queue, State}, Table.alter}
use Rattle.krs_model.specs.Table.{at, Table}
use Rattle.krs_model.proofs.Asks.Done.{Closes, Effect, end_of, ends_as, Filters, Opens, queue_there, readable_is}
use Rattle.krs_model.proofs.Asks.{Done.{Reads, unwatched_is, Unwatches, Watches}, Fares.fares, Later.bind_ok}
use Rattle.krs_model.proofs.Asks.{Later.same_ok, Lawful.IsLawful, Plain.{IsPlain, plain, plain_err, plain_ok, plains}}
use Rattle.krs_model.proofs.Hiding.{Accepted.blind_done, Over.after, Seen.{is_seen, steps}}
use Rattle.krs_model.proofs.Lookups.{Laws.look_up_usable, Serials.found_serial}

unless_ok : (bad : Bool) (error : Errno) (x : Unit {0}) → unless bad error ≡ Ok x → bad ≡ false
unless_ok true error x h = cc
unless_ok false error x h = refl

not_false : (b : Bool) → not b ≡ false → b ≡ true
not_false true h = refl
not_false false h = cc

opened_is :
    (q : Queues) (client capacity : ℕ) (x : Queues × ℕ) → opened q client capacity ≡ Ok x
    → (is_capacity capacity ≡ true) × ((with_queue q client capacity, q.next_queue) ≡ x)
unfolding opened
opened_is q client capacity x h = grind (arith, nat_tests, bind_ok, not_false, unless_ok, same_ok)

filter_is : (entries good : List FilterEntry) → filter_of entries ≡ Ok good → entries ≡ good
filter_is entries good h = grind (arith, nat_tests)

filtered_is :
    (q : Queues) (client number : ℕ) (entries : List FilterEntry) (x : Queues × Unit {0})
    → filtered q client number entries ≡ Ok x
    → (queue : Queue) × (at q.queues number ≡ Some queue)
    × ((record q { queues = alter q.queues number (with_filter entries) }, tt) ≡ x)
unfolding filtered
filtered_is q client number entries x h = grind (arith, nat_tests, bind_ok, after, queue_there, filter_is, same_ok)

read_out_is :
    (q : Queues) (client number room : ℕ) (x : Queues × List ℕ) → read_out q client number room ≡ Ok x
    → (queue : Queue) × (at q.queues number ≡ Some queue)
    × ((record q { queues = alter q.queues number (after_read room) }, bytes_of_all (front room queue.waiting)) ≡ x)
unfolding read_out
read_out_is q client number room x h = grind (arith, nat_tests, bind_ok, after, queue_there, readable_is, same_ok)

closed_is :
    (q : Queues) (client number : ℕ) (x : Queues × Unit {0}) → closed q client number ≡ Ok x
    → (queue : Queue) × (at q.queues number ≡ Some queue) × ((without_queue q number, tt) ≡ x)
unfolding closed
closed_is q client number x h = grind (arith, nat_tests, bind_ok, queue_there, same_ok)

watched_is :
    (q : Queues) (client number key n : ℕ) (x : Queues × Unit {0}) → watched q client number key n ≡ Ok x
    → (queue : Queue) × (at q.queues number ≡ Some queue)
    × ((record q { watches = with_watch q.watches key number n }, tt) ≡ x)
unfolding watched
watched_is q client number key n x h = grind (arith, nat_tests, bind_ok, queue_there, same_ok)

small_id : (watch_id : ℤ) (n : ℕ) → watch_id_of watch_id ≡ Ok (Some n) → n ≤ 255
small_id (pos m) n h = grind (arith, nat_tests, leb-true)
small_id (negsuc zero) n h = cc
small_id (negsuc (suc m)) n h = cc

pub opens :
    (s : State) (client context capacity : ℕ) (new : State) (answer : Answer)
    → open_queue s client capacity ≡ Ok (new, answer) → Effect s client context (OpenQueue capacity) new answer
unfolding open_queue
opens s client context capacity new answer h =
    let a = bind_ok (opened (queues_of s) client capacity) _ (new, answer) h in
    let is = opened_is (queues_of s) client capacity a.0 a.1 in
    let end : Queues × ℕ → State × Answer = λ x. end_of (with_queues s x.0) (Number x.1) in
    ends_as s client context _ _ new _ answer (Opens capacity is.0) (ap end is.1 ∙ same_ok _ _ _ refl a.2)

pub filters :
    (s : State) (client context number : ℕ) (entries : List FilterEntry) (new : State) (answer : Answer)
    → set_filter s client number entries ≡ Ok (new, answer)
    → Effect s client context (SetFilter number entries) new answer
unfolding set_filter
filters s client context number entries new answer h =
    let a = bind_ok (filtered (queues_of s) client number entries) _ (new, answer) h in
    let is = filtered_is (queues_of s) client number entries a.0 a.1 in
    let end : Queues × Unit {0} → State × Answer = λ x. (with_queues s x.0, Nothing) in
    ends_as s client context _ _ new _ answer (Filters number entries is.0 is.1) (ap end is.2 ∙ same_ok _ _ _ refl a.2)

pub reads :
    (s : State) (client context number room : ℕ) (new : State) (answer : Answer)
    → read_queue s client number room ≡ Ok (new, answer)
    → Effect s client context (ReadQueue number room) new answer
unfolding read_queue
reads s client context number room new answer h =
    let a = bind_ok (read_out (queues_of s) client number room) _ (new, answer) h in
    let is = read_out_is (queues_of s) client number room a.0 a.1 in
    let end : Queues × List ℕ → State × Answer = λ x. (with_queues s x.0, Bytes x.1) in
    ends_as s client context _ _ new _ answer (Reads number room is.0 is.1) (ap end is.2 ∙ same_ok _ _ _ refl a.2)

pub closes :
    (s : State) (client context number : ℕ) (new : State) (answer : Answer)
    → close_queue s client number ≡ Ok (new, answer) → Effect s client context (CloseQueue number) new answer
unfolding close_queue
closes s client context number new answer h =
    let a = bind_ok (closed (queues_of s) client number) _ (new, answer) h in
    let is = closed_is (queues_of s) client number a.0 a.1 in
    let end : Queues × Unit {0} → State × Answer = λ x. (with_queues s x.0, Nothing) in
    ends_as s client context _ _ new _ answer (Closes number is.0 is.1) (ap end is.2 ∙ same_ok _ _ _ refl a.2)

-- a watch set, or ended
watches_as :
    (s : State) (client context : ℕ) (id watch_id : ℤ) (number key : ℕ) (asked : Option ℕ) (queues : Queues)
    → IsSome (at s.keys key) → named s client context id ≡ Ok key → watch_id_of watch_id ≡ Ok asked
    → with_watching (queues_of s) client number key asked ≡ Ok queues
    → Effect s client context (Watch id number watch_id) (with_queues s queues) Nothing
watches_as s client context id watch_id number key (Some n) queues there names is h =
    let a = bind_ok (watched (queues_of s) client number key n) _ queues h in
    let set = watched_is (queues_of s) client number key n a.0 a.1 in
    let end : Queues × Unit {0} → State × Answer = λ x. (with_queues s x.0, Nothing) in
    let same : a.0.0 ≡ queues = same_ok _ _ _ refl a.2 in
    ends_as s client context _ _ _ _ Nothing
    (Watches id watch_id number key n set.0 there set.1 is (small_id watch_id n is))
    (ap end set.2 ∙ ap (λ (x : Queues). (with_queues s x, Nothing)) same)
watches_as s client context id watch_id number key None queues there names is h =
    let a = bind_ok (unwatched (queues_of s) client number key) _ queues h in
    let ended = unwatched_is (queues_of s) client number key a.0 a.1 in
    let same : a.0.0 ≡ queues = same_ok _ _ _ refl a.2 in
    ends_as s client context _ _ _ _ Nothing
    (Unwatches id watch_id number key a.0.1 ended.0 there names ended.1 is ended.2)
    (ap (λ (x : Queues). (with_queues s x, Nothing)) (ended.3 ∙ same))

named_is :
    (s : State) (client context : ℕ) (id : ℤ) (c : Context) (serial : ℕ) → context_of s client context ≡ Ok c
    → serial_of s c id ≡ Ok serial → named s client context id ≡ Ok serial
named_is s client context id c serial own is = rw own is

pub watches :
    (s : State) (client context : ℕ) (id watch_id : ℤ) (number : ℕ) (new : State) (answer : Answer)
    → watch s client context id number watch_id ≡ Ok (new, answer)
    → Effect s client context (Watch id number watch_id) new answer
unfolding watch
watches s client context id watch_id number new answer h =
    let a = bind_ok (context_of s client context) _ (new, answer) h in
    let b = bind_ok (watch_id_of watch_id) _ (new, answer) a.2 in
    let d = bind_ok (look_up s a.0 id (Granted VIEW)) _ (new, answer) b.2 in
    let e = bind_ok (with_watching (queues_of s) client number d.0.0 b.0) _ (new, answer) d.2 in
    let there = (look_up_usable s a.0 id (Granted VIEW) d.0 d.1).there in
    let names = named_is s client context id a.0 d.0.0 a.1 (found_serial s a.0 id (Granted VIEW) d.0 d.1) in
    let some : IsSome (at s.keys d.0.0) = rw there refl in
    grind (arith, nat_tests, ends_as, watches_as, same_ok)

plain_queue : (queues : Table Queue) (client number : ℕ) → IsPlain (queue_of queues client number)
plain_queue queues client number = search plain

plain_front : (room : ℕ) (waiting : List Record) → IsPlain (readable room waiting)
plain_front room [] = plain_err refl
plain_front room (note ∷ waiting) = search plain

plain_watch_id : (id : ℤ) → IsPlain (watch_id_of id)
plain_watch_id (pos n) = search plain
plain_watch_id (negsuc zero) = plain_ok
plain_watch_id (negsuc (suc n)) = plain_err refl

plain_watching :
    (s : Queues) (client number key : ℕ) (asked : Option ℕ) → IsPlain (with_watching s client number key asked)
unfolding watched unwatched
plain_watching s client number key (Some id) = search (plain, plain_queue)
plain_watching s client number key None = search (plain, plain_queue)

pub watch_law :
    (s : State) (client context : ℕ) (id : ℤ) (queue : ℕ) (watch_id : ℤ)
    → IsLawful s client context (Watch id queue watch_id)
unfolding watch
watch_law s client context id queue watch_id = record {
  small = λ mid answer few h. tt;
  plain = search (plains, plain_watch_id, plain_watching) depth 12;
  blind = λ hide hides. is_seen (blind_done hide) (search steps depth 12);
  fares = search fares depth 12;
}

pub open_queue_law : (s : State) (client context : ℕ) (capacity : ℕ) → IsLawful s client context (OpenQueue capacity)
unfolding open_queue opened
open_queue_law s client context capacity = record {
  small = λ mid answer few h. tt;
  plain = search plains depth 12;
  blind = λ hide hides. after (blind_done hide) (opened (queues_of s) client capacity) _ _ (λ x _. refl);
  fares = search fares depth 12;
}

pub set_filter_law :
    (s : State) (client context : ℕ) (queue : ℕ) (entries : List FilterEntry)
    → IsLawful s client context (SetFilter queue entries)
unfolding set_filter filtered
set_filter_law s client context queue entries = record {
  small = λ mid answer few h. tt;
  plain = search (plains, plain_queue) depth 12;
  blind = λ hide hides. after (blind_done hide) (filtered (queues_of s) client queue entries) _ _ (λ x _. refl);
  fares = search fares depth 12;
}

pub read_queue_law :
    (s : State) (client context : ℕ) (queue room : ℕ) → IsLawful s client context (ReadQueue queue room)
unfolding read_queue read_out
read_queue_law s client context queue room = record {
  small = λ mid answer few h. tt;
  plain = search (plains, plain_queue, plain_front) depth 12;
  blind = λ hide hides. after (blind_done hide) (read_out (queues_of s) client queue room) _ _ (λ x _. refl);
  fares = search fares depth 12;
}

pub close_queue_law : (s : State) (client context : ℕ) (queue : ℕ) → IsLawful s client context (CloseQueue queue)
unfolding close_queue closed
close_queue_law s client context queue = record {
  small = λ mid answer few h. tt;
  plain = search (plains, plain_queue) depth 12;
  blind = λ hide hides. after (blind_done hide) (closed (queues_of s) client queue) _ _ (λ x _. refl);
  fares = search fares depth 12;
}

pub ruleset watching_laws = (watch_law, open_queue_law, set_filter_law, read_queue_law, close_queue_law)
