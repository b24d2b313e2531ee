-- Queues and watches stay orderly: over what an accepted ask does to them, over the sweep, and over posts.
use Rattle.std.proofs.Common.{[], ⊎_elim, ◌<◌, ◌==◌, ◌^◌, ◌∙◌, ◌∷◌, ◌≡◌, ◌≤◌, ap, arith, Bool, cond, Err, false}
use Rattle.std.proofs.Common.{filter, IsSome, List, not, Ok, option_map, refl, Result, Some, subst, sym, true}
use Rattle.std.proofs.{Common.{true≢false, ℕ}, lemmas.{Bool.Decides.nat_tests, Option.{none-some, same_Some}}}
use Rattle.std.specs.BTreeMap.{is_at}
use Rattle.krs_types.specs.declared.{ask.{Answer.Answer, Op.Op}, errno.Errno.Errno}
use Rattle.krs_model.specs.Asks.{Leaving.left, Watching.{after_read, new_queue, watches_of, with_filter, with_queue}}
use Rattle.krs_model.specs.{Asks.Watching.without_queue, Notes.Posting.{after_note, after_notes, Post, post_all}}
use Rattle.krs_model.specs.Notes.{Posting.{posted, records_for}, Telling.{ended_by, ended_where, named}}
use Rattle.krs_model.specs.{Notes.Waiting.is_capacity, Orderly.{AreOrderly, Each, IsQueue, IsWatch}, Queues.place_cmp}
use Rattle.krs_model.specs.Queues.{Queues, queues_of, queues_without, Watch, watch_at, with_watch, without_watch}
use Rattle.krs_model.specs.{State.{Queue, State}, Sweep.{IsSweep, live_watches}, Table.{alter, at, IsBelow}}
use Rattle.krs_model.specs.Table.{IsDistinct, put, Table, without}
use Rattle.krs_model.proofs.Asks.Effects.{Closes, Effect, Filters, Leaves, OfKeys, Opens, Reads, Unwatches, Watches}
use Rattle.krs_model.proofs.{Asks.NewSerials.small_there, Notes.Fitting.{after_notes_fit, ArePosts, behind_fit}}
use Rattle.krs_model.proofs.Notes.{Fitting.{each_filter, each_on, posts_for}, Posts.at_post_all}
use Rattle.krs_model.proofs.{Reach.Levels.same_is, Sound.Changes.{some_mapped, there_alter, there_put}}
use Rattle.krs_model.proofs.Sound.Watches.{each_with, each_without, filter_rising, with_rising, without_rising}
use Rattle.krs_model.proofs.Tables.Changes.{at_alter_none, at_filter_none, at_or_apart, at_without_none}
use Rattle.krs_model.proofs.Tables.{Changes.{at_without_other, below_put}, Distinct.{alter_distinct, at_filter_some}}
use Rattle.krs_model.proofs.Tables.Distinct.{filter_distinct, has_entry, put_distinct, without_distinct}
use Rattle.krs_model.proofs.Tables.{Each.{every_alter, every_put, mapped_is}, Entries.without_was}
use Rattle.std.proofs.lemmas.Grind.{common_steps}

each_filter_on :
    (P Q : Watch → Type 0) (p : Watch → Bool) (ws : List Watch) → ((w : Watch) → p w ≡ true → P w → Q w) → Each P ws
    → Each Q (filter p ws)
each_filter_on P Q p [] f h = tt
each_filter_on P Q p (w ∷ ws) f h = grind (arith, nat_tests, each_filter_on P Q p ws f h.1)

-- a watch of a queue that is still there
still_watch :
    (old new : Table Queue) (w : Watch) → (IsSome (at old w.0.1) → IsSome (at new w.0.1)) → IsWatch old w
    → IsWatch new w
still_watch old new w still is = record { queue = still is.queue; key = is.key; id = is.id }

opened_orderly :
    (q : Queues) (client capacity : ℕ) → is_capacity capacity ≡ true → AreOrderly q
    → AreOrderly (with_queue q client capacity)
opened_orderly q client capacity fits orderly =
    let n = q.next_queue in
    let queue = new_queue client capacity in
    let queues = put q.queues n queue in
    let good : IsQueue queue = record { capacity = fits; fit = tt } in
    record {
      unused = below_put q.queues queues n queue refl orderly.unused;
      distinct = put_distinct q.queues n queue (orderly.unused n (omega arith)) orderly.distinct;
      watches = search (each_on, still_watch, there_put) depth 8;
      rising = orderly.rising;
      queues = every_put IsQueue q.queues n queue good orderly.queues;
    }

altered_orderly :
    (q : Queues) (n : ℕ) (f : Queue → Queue) → ((x : Queue) → IsQueue x → IsQueue (f x)) → AreOrderly q
    → AreOrderly (record q { queues = alter q.queues n f })
altered_orderly q n f good orderly =
    let queues = alter q.queues n f in
    record {
      unused = λ k le. at_alter_none q.queues n k f (orderly.unused k le);
      distinct = alter_distinct q.queues n f orderly.distinct;
      watches = search (each_on, still_watch, there_alter) depth 8;
      rising = orderly.rising;
      queues = every_alter IsQueue q.queues n f (λ v _. good v) orderly.queues;
    }

not_same : (a n : ℕ) → not (a == n) ≡ true → a ≡ n → ⊥
not_same a n h same =
    true≢false (sym h ∙ ap not (same_is a n same))

closed_orderly : (q : Queues) (n : ℕ) → AreOrderly q → AreOrderly (without_queue q n)
closed_orderly q n orderly =
    let queues = without q.queues n in
    let still : (w : Watch) → not (w.0.1 == n) ≡ true → IsWatch q.queues w → IsWatch queues w = λ w other is.
    still_watch q.queues queues w (λ there.
    ⊎_elim (λ (same : w.0.1 ≡ n). absurd (not_same w.0.1 n other same))
    (λ apart. subst IsSome (sym (at_without_other q.queues n w.0.1 apart)) there) (at_or_apart w.0.1 n)) is in
    record {
      unused = λ k le. at_without_none q.queues n k (orderly.unused k le);
      distinct = without_distinct q.queues n orderly.distinct;
      watches = each_filter_on (IsWatch q.queues) (IsWatch queues) _ q.watches still orderly.watches;
      rising = filter_rising _ q.watches orderly.rising;
      queues = λ k v there. orderly.queues k v (without_was q.queues n k v orderly.distinct there);
    }

watched_orderly :
    (q : Queues) (key number n : ℕ) → key < 2 ^ 32 → IsSome (at q.queues number) → n ≤ 255 → AreOrderly q
    → AreOrderly (record q { watches = with_watch q.watches key number n })
watched_orderly q key number n small there fits orderly = grind (arith, nat_tests, each_with, with_rising)

unwatched_orderly :
    (q : Queues) (key number : ℕ) → AreOrderly q
    → AreOrderly (record q { watches = without_watch q.watches key number })
unwatched_orderly q key number orderly = search (each_without, without_rising) depth 8

left_orderly :
    (q : Queues) (client : ℕ) → AreOrderly q
    → AreOrderly (record q {
      queues = queues_without client q.queues;
      watches = watches_of (queues_without client q.queues) q.watches;
    })
left_orderly q client orderly =
    let queues = queues_without client q.queues in
    record {
      unused = λ k le. at_filter_none _ q.queues k (orderly.unused k le);
      distinct = filter_distinct _ q.queues orderly.distinct;
      watches = search (each_filter_on, still_watch, has_entry) depth 8;
      rising = filter_rising _ q.watches orderly.rising;
      queues = λ k v there. orderly.queues k v (at_filter_some _ q.queues k v orderly.distinct there);
    }

-- what an accepted ask does
pub effect_orderly :
    (s : State) (client context : ℕ) (op : Op) (mid : State) (answer : Answer)
    → Effect s client context op mid answer → IsBelow s.keys 2147483648 → AreOrderly (queues_of s)
    → AreOrderly (queues_of mid)
unfolding left
effect_orderly s client context _ _ _ (OfKeys op new answer other comes none) few orderly = grind (arith, common_steps)
effect_orderly s client context _ _ _ (Opens capacity fits) few orderly =
    opened_orderly (queues_of s) client capacity fits orderly
effect_orderly s client context _ _ _ (Filters number entries queue there) few orderly =
    altered_orderly (queues_of s) number (with_filter entries)
    (λ x is. record { capacity = is.capacity; fit = is.fit }) orderly
effect_orderly s client context _ _ _ (Reads number room queue there) few orderly =
    altered_orderly (queues_of s) number (after_read room)
    (λ x is. record { capacity = is.capacity; fit = behind_fit room x.waiting is.fit }) orderly
effect_orderly s client context _ _ _ (Closes number queue there) few orderly =
    closed_orderly (queues_of s) number orderly
effect_orderly s client context _ _ _ (Watches id watch_id number key n queue here there asked small) few orderly =
    watched_orderly (queues_of s) key number n (small_there s.keys key few here)
    (rw there refl) small orderly
effect_orderly s client context _ _ _ (Unwatches id watch_id number key n queue here names there asked is) few
    orderly =
    unwatched_orderly (queues_of s) key number orderly
effect_orderly s client context _ _ _ Leaves few orderly = left_orderly (queues_of s) client orderly

-- the sweep
pub sweep_orderly : (mid swept : State) → IsSweep mid swept → AreOrderly (queues_of mid) → AreOrderly (queues_of swept)
sweep_orderly mid swept sweep orderly =
    let watches = live_watches swept.keys mid.watches in
    let live : AreOrderly (record (queues_of mid) { watches = watches }) = record {
      unused = orderly.unused;
      distinct = orderly.distinct;
      watches = each_filter (IsWatch mid.queues) _ mid.watches orderly.watches;
      rising = filter_rising _ mid.watches orderly.rising;
      queues = orderly.queues;
    } in
    subst AreOrderly (sym (ap queues_of sweep.rest)) live

post_all_distinct : (ps : List Post) (queues : Table Queue) → IsDistinct queues → IsDistinct (post_all ps queues)
post_all_distinct [] queues h = h
post_all_distinct (p ∷ ps) queues h =
    post_all_distinct ps (alter queues p.0 (after_note p.1)) (alter_distinct queues p.0 (after_note p.1) h)

-- the posts
pub posted_orderly : (ps : List Post) (q : Queues) → ArePosts ps → AreOrderly q → AreOrderly (posted ps q)
posted_orderly ps q fit orderly =
    let queues = post_all ps q.queues in
    let came : ℕ → Queue → Queue = λ k. after_notes (records_for k ps) in
    record {
      unused = λ k le. at_post_all ps q.queues k ∙ ap (option_map (came k)) (orderly.unused k le);
      distinct = post_all_distinct ps q.queues orderly.distinct;
      watches = search (each_on, still_watch, at_post_all, some_mapped) depth 8;
      rising = orderly.rising;
      queues = λ k v there.
          let was = mapped_is (came k) (at q.queues k) v (sym (at_post_all ps q.queues k) ∙ there) in
          subst IsQueue was.2
          (after_notes_fit (records_for k ps) was.0 (posts_for k ps fit) (orderly.queues k was.0 was.1));
    }

-- a watch that is found is one of them
found_watch :
    (P : Watch → Type 0) (ws : List Watch) (key number n : ℕ) → Each P ws → watch_at ws key number ≡ Some n
    → (w : Watch) × P w × (w.1 ≡ n)
found_watch P [] key number n h is = absurd (none-some n is)
found_watch P (w ∷ ws) key number n h is =
    elim (is_at (place_cmp (key, number)) w.0) as
    (λ b. cond b (Some w.1) (watch_at ws key number) ≡ Some n → (v : Watch) × P v × (v.1 ≡ n)) [
      | true ↦ λ here. (w, h.0, same_Some w.1 n here)
      | false ↦ λ later. found_watch P ws key number n h.1 later
    ] is

pub ended_set :
    (ws : List Watch) (key : Result ℕ Errno) (number n : ℕ) → ended_where ws key number (Ok (Some n)) ≡ []
ended_set ws (Err e) number n = refl
ended_set ws (Ok key) number n = refl

-- the watch that an accepted ask ends
pub ended_watch :
    (s : State) (client context : ℕ) (op : Op) (mid : State) (answer : Answer)
    → Effect s client context op mid answer → IsBelow s.keys 2147483648 → AreOrderly (queues_of s)
    → Each (IsWatch s.queues) (ended_by s client context op)
ended_watch s client context _ _ _ (OfKeys op new answer other comes none) few orderly = rw none tt
ended_watch s client context _ _ _ (Opens capacity fits) few orderly = tt
ended_watch s client context _ _ _ (Filters number entries queue there) few orderly = tt
ended_watch s client context _ _ _ (Reads number room queue there) few orderly = tt
ended_watch s client context _ _ _ (Closes number queue there) few orderly = tt
ended_watch s client context _ _ _ (Watches id watch_id number key n queue here there asked small) few orderly =
    rw (asked, ended_set s.watches (named s client context id) number n) tt
ended_watch s client context _ _ _ (Unwatches id watch_id number key n queue here names there asked is) few orderly =
    grind (arith, nat_tests, found_watch, small_there)
ended_watch s client context _ _ _ Leaves few orderly = tt
