-- Queues and watches end by right.
use Rattle.std.proofs.Common.{[], ◌==◌, ◌∙◌, ◌∷◌, ◌≡◌, ◌⊎◌, ap, arith, Bool, Err, false, filter, inl, inr, is_eq}
use Rattle.std.proofs.Common.{is_some, IsOk}
use Rattle.std.proofs.Common.{ap₂, List, nat_le, negsuc, None, not, Ok, Option, option_map, pos, refl, Result, Some}
use Rattle.std.proofs.Common.{subst, suc, sym, true, zero, ℕ, ℤ, ⊎_elim}
use Rattle.std.proofs.lemmas.{Bool.Decides.nat_tests, Grind.common_steps, Option.{none-some, same_Some}}
use Rattle.std.specs.List.{list_any}
use Rattle.krs_types.specs.declared.ask.{Answer.Answer, Op.{Op, TheVariants.{CloseQueue, Leave, SetFilter}}}
use Rattle.krs_types.specs.declared.{errno.Errno.{Errno, TheVariants.EBUSY}, event.Event.Event, note.Record.Record}
use Rattle.krs_types.specs.{Rights.VIEW, declared.rights.Want.TheVariants.Granted}
use Rattle.krs_types.specs.declared.ask.Op.TheVariants as asks
use Rattle.krs_model.specs.Asks.{Leaving.left, Linked.unless}
use Rattle.krs_model.specs.Asks.{Watching.{after_read, new_queue, unwatched, watch, watch_id_of, watched}}
use Rattle.krs_model.specs.Asks.Watching.{with_filter, with_watching}
use Rattle.krs_model.specs.Notes.{Front.behind, Posting.{after_note, after_notes, records_for}}
use Rattle.krs_model.specs.{Lookup.{context_of, look_up}}
use Rattle.krs_model.specs.Queues.{queue_of, queues_without, Queues, queues_of, Watch, watch_at, with_watch}
use Rattle.krs_model.specs.Queues.{without_watch, with_queues}
use Rattle.krs_model.specs.{Revocation.Names, Sound.IsSound, State.{Queue, raised, State}}
use Rattle.krs_model.specs.{Step.{Ends, outcome_of, posts_by, Serves, Step}}
use Rattle.krs_model.specs.{Sweep.live_watches, Table.{at, Table, without}}
use Rattle.krs_model.proofs.Asks.Effects.{Closes, Effect, effect_of, Filters, Leaves, OfKeys, Opens, Reads, Unwatches}
use Rattle.krs_model.proofs.Asks.Effects.{Watches}
use Rattle.krs_model.proofs.Asks.{Done.unwatched_is, Later.{bind_ok, same_ok}, Outcomes.{Meets, meets_after, meets_ok}}
use Rattle.krs_model.proofs.{Lookups.Serials.found_serial, Notes.Called.served_at}
use Rattle.krs_model.proofs.{Sound.Steps.{legal_sound, raised_sound}}
use Rattle.krs_model.proofs.{Tables.Distinct.{at_without_same, has_entry}}
use Rattle.krs_laws.specs.Going.{AllQueuesAreByRight, QueueBegins, QueuesByRight, QueueStays}
use Rattle.krs_laws.specs.Noting.{IsWatched, OwnsQueue, queue_asked}
use Rattle.krs_laws.proofs.Attaching.{begins_now, Begun, Ended, ends_now, NeverThere, not_other, Now, now_alter}
use Rattle.krs_laws.proofs.Attaching.{now_filter, now_put, now_same, now_without, Stayed, stays_now}
use Rattle.krs_laws.proofs.Watchers.{owners_ask, same_place}

-- ---- queues
-- a queue as it was, but for what waits
queue_same : (client : ℕ) (op : Op) (number : ℕ) (queue : Queue) (waiting : List Record)
    → QueueStays client op number queue (record queue { waiting = waiting })
queue_same client op number queue waiting = record { same_client = refl; same_capacity = refl; filter = inl refl }

-- whose queue ends, and by what
abbrev EndsQueue : ℕ → Op → ℕ → Queue → Type 0
EndsQueue client op number queue = (queue.client ≡ client) × ((op ≡ CloseQueue number) ⊎ (op ≡ Leave))

abbrev QueueNow : ℕ → Op → ℕ → Option Queue → Option Queue → Type 0
QueueNow client op number = Now (QueueStays client op number) (EndsQueue client op number) (QueueBegins client op)

queue_now :
    (s : State) (client context : ℕ) (op : Op) (mid : State) (answer : Answer) → IsSound s
    → ((number : ℕ) → queue_asked op ≡ Some number → OwnsQueue s client number)
    → Effect s client context op mid answer → (k : ℕ) → QueueNow client op k (at s.queues k) (at mid.queues k)
unfolding left
queue_now s client context _ _ _ sound owns (OfKeys op new answer other comes none) k =
    subst (λ (es : Table Queue). QueueNow client op k (at s.queues k) (at es k))
    (sym (ap (λ (q : Queues). q.queues) comes.queues))
    (now_same _ _ _ (at s.queues k) (λ a i. queue_same client _ k a a.waiting))
queue_now s client context _ _ _ sound owns (Opens capacity fits) k =
    now_put _ _ _ s.queues s.next_queue k (new_queue client capacity)
    (sound.orderly.unused s.next_queue (omega arith)) (λ a. queue_same client _ k a a.waiting)
    (λ e. record { own = refl; asked = refl; filter = refl })
queue_now s client context _ _ _ sound owns (Filters number entries queue there) k =
    now_alter _ _ _ s.queues number k (with_filter entries) (λ a. queue_same client _ k a a.waiting)
    (λ e a i. let mine = owns number refl in record {
      same_client = refl;
      same_capacity = refl;
      filter = inr (
        ap (λ (q : Queue). q.client) (same_Some a mine.queue (sym i ∙ mine.there)) ∙ mine.own,
        (entries, ap (λ (n : ℕ). SetFilter n entries) (sym e), refl),
      );
    })
queue_now s client context _ _ _ sound owns (Reads number room queue there) k =
    now_alter _ _ _ s.queues number k (after_read room) (λ a. queue_same client _ k a a.waiting)
    (λ e a i. queue_same client _ k a (behind room a.waiting))
queue_now s client context _ _ _ sound owns (Closes number queue there) k =
    let mine = owns number refl in
    now_without _ _ _ s.queues number k sound.orderly.distinct (λ a. queue_same client _ k a a.waiting)
    (λ e a i. (
      ap (λ (q : Queue). q.client) (same_Some a mine.queue (sym i ∙ mine.there)) ∙ mine.own,
      inl (ap CloseQueue (sym e)),
    ))
queue_now s client context _ _ _ sound owns (Watches id watch_id number key n queue here there asked small) k =
    now_same _ _ _ (at s.queues k) (λ a i. queue_same client _ k a a.waiting)
queue_now s client context _ _ _ sound owns (Unwatches id watch_id number key n queue here names there asked is) k =
    now_same _ _ _ (at s.queues k) (λ a i. queue_same client _ k a a.waiting)
queue_now s client context _ _ _ sound owns Leaves k =
    now_filter _ _ _ (λ e. not (e.1.client == client)) s.queues k (at s.queues k) (at s.queues k)
    sound.orderly.distinct refl (λ none. none)
    (now_same _ _ _ (at s.queues k) (λ a i. queue_same client _ k a a.waiting))
    (λ a b was stay t. (sym stay.same_client ∙ not_other b.client client t, inr refl))

-- ---- watches
in_filter : (p : Watch → Bool) (ws : List Watch) (w : Watch) → IsWatched w ws → p w ≡ true → IsWatched w (filter p ws)
in_filter p [] w h passes = absurd h
in_filter p (v ∷ ws) w h passes = grind (arith, common_steps, in_filter p ws w)

kept_set :
    (ws : List Watch) (key number n : ℕ) (w : Watch) → watch_at ws key number ≡ None → IsWatched w ws
    → IsWatched w (with_watch ws key number n)
kept_set [] key number n w none h = absurd h
kept_set (v ∷ ws) key number n w none h = grind (arith, common_steps, none-some, kept_set ws key number n w)

kept_unset :
    (ws : List Watch) (key number : ℕ) (w : Watch) → IsWatched w ws
    → IsWatched w (without_watch ws key number) ⊎ ((key, number) ≡ w.0)
kept_unset [] key number w h = absurd h
kept_unset (v ∷ ws) key number w h = grind (arith, common_steps, same_place, is_eq, kept_unset ws key number w)

none_there : {X : Type 0} (o : Option X) → is_some o ≡ false → o ≡ None
none_there None h = refl
none_there (Some v) h = cc

-- the watch is ended by WATCH with -1
abbrev IsUnwatched : State → ℕ → ℕ → Op → Watch → Type 0
IsUnwatched s client context op w =
    (id : ℤ) × (op ≡ asks.Watch id w.0.1 (negsuc zero)) × Names s client context id w.0.0 × OwnsQueue s client w.0.1

-- what becomes of a watch before the sweep
abbrev WatchNow : State → ℕ → ℕ → Op → State → Watch → Type 0
WatchNow s client context op mid w =
    IsWatched w mid.watches ⊎ (at mid.queues w.0.1 ≡ None) ⊎ IsUnwatched s client context op w

ends_watch : (watch_id : ℤ) → watch_id_of watch_id ≡ Ok None → watch_id ≡ negsuc zero
ends_watch (pos m) h = grind (arith, common_steps, nat_le)
ends_watch (negsuc zero) h = refl
ends_watch (negsuc (suc m)) h = cc

free_is : (o : Option ℕ) (x : Unit {0}) → unless (is_some o) EBUSY ≡ Ok x → o ≡ None
free_is None x h = refl
free_is (Some n) x h = cc

watching_keeps :
    (s : State) (client context number key : ℕ) (id watch_id : ℤ) (asked : Option ℕ) (queues : Queues)
    → watch_id_of watch_id ≡ Ok asked → Names s client context id key → OwnsQueue s client number
    → with_watching (queues_of s) client number key asked ≡ Ok queues → (w : Watch) → IsWatched w s.watches
    → WatchNow s client context (asks.Watch id number watch_id) (with_queues s queues) w
unfolding watched
watching_keeps s client context number key id watch_id (Some n) queues is names owns h w there =
    let set = bind_ok (watched (queues_of s) client number key n) _ queues h in
    let own = bind_ok (queue_of s.queues client number) _ set.0 set.1 in
    let free = bind_ok (unless (is_some (watch_at s.watches key number)) EBUSY) _ set.0 own.2 in
    let more : Queues = record (queues_of s) { watches = with_watch s.watches key number n } in
    let same : more ≡ queues =
    ap (λ (x : Queues × Unit {0}). x.0) (same_ok (Ok (more, tt)) (more, tt) set.0 refl free.2)
    ∙ same_ok (Ok set.0.0) set.0.0 queues refl set.2 in
    inl (subst (λ (q : Queues). IsWatched w q.watches) same
    (kept_set s.watches key number n w (free_is (watch_at s.watches key number) free.0 free.1) there))
watching_keeps s client context number key id watch_id None queues is names owns h w there =
    let ended = bind_ok (unwatched (queues_of s) client number key) _ queues h in
    let gone = unwatched_is (queues_of s) client number key ended.0 ended.1 in
    let less : Queues = record (queues_of s) { watches = without_watch s.watches key number } in
    let same : less ≡ queues = gone.3 ∙ same_ok (Ok ended.0.0) ended.0.0 queues refl ended.2 in
    ⊎_elim (λ (stays : IsWatched w (without_watch s.watches key number)).
    inl (subst (λ (q : Queues). IsWatched w q.watches) same stays))
    (λ (e : (key, number) ≡ w.0).
    inr (inr (
      id,
      ap₂ (asks.Watch id) (ap (λ (x : ℕ × ℕ). x.1) e) (ends_watch watch_id is),
      subst (Names s client context id) (ap (λ (x : ℕ × ℕ). x.0) e) names,
      subst (OwnsQueue s client) (ap (λ (x : ℕ × ℕ). x.1) e) owns,
    )))
    (kept_unset s.watches key number w there)

watch_keeps :
    (s : State) (client context number : ℕ) (id watch_id : ℤ) → OwnsQueue s client number
    → Meets (λ (new : State). (w : Watch) → IsWatched w s.watches
    → WatchNow s client context (asks.Watch id number watch_id) new w) (watch s client context id number watch_id)
unfolding watch
watch_keeps s client context number id watch_id owns =
    meets_after (context_of s client context) _ (λ c own.
    meets_after (watch_id_of watch_id) _ (λ asked known.
    meets_after (look_up s c id (Granted VIEW)) _ (λ there is.
    meets_after (with_watching (queues_of s) client number there.0 asked) _ (λ queues set.
    meets_ok (watching_keeps s client context number there.0 id watch_id asked queues known
    (record { whose = c; own = own; named = found_serial s c id (Granted VIEW) there is }) owns set)))))

-- a queue that is there is one of the queues
queue_in : (queues : Table Queue) (k : ℕ) → list_any (λ e. e.0 == k) queues ≡ false → at queues k ≡ None
queue_in queues k h = none_there (at queues k) (has_entry queues k ∙ h)

-- what passes a test stays, and what doesn't ends so
passes_or :
    {P : Type 0} (p : Watch → Bool) (ws : List Watch) (w : Watch) → IsWatched w ws → (p w ≡ false → P)
    → IsWatched w (filter p ws) ⊎ P
passes_or {P} p ws w there end =
    elim (p w) as (λ b. p w ≡ b → IsWatched w (filter p ws) ⊎ P) [
      | true ↦ λ t. inl (in_filter p ws w there t)
      | false ↦ λ t. inr (end t)
    ] refl

not_this : (a b : ℕ) → not (a == b) ≡ false → a ≡ b
not_this a b h = grind (arith, nat_tests)

watch_now :
    (s : State) (client context : ℕ) (op : Op) (mid : State) (answer : Answer) → IsSound s
    → ((number : ℕ) → queue_asked op ≡ Some number → OwnsQueue s client number)
    → outcome_of s client context op ≡ Ok (mid, answer) → Effect s client context op mid answer → (w : Watch)
    → IsWatched w s.watches → WatchNow s client context op mid w
unfolding left
watch_now s client context _ _ _ sound owns h (OfKeys op new answer other comes none) w there =
    inl (subst (λ (q : Queues). IsWatched w q.watches) (sym comes.queues) there)
watch_now s client context _ _ _ sound owns h (Opens capacity fits) w there = inl there
watch_now s client context _ _ _ sound owns h (Filters number entries queue is) w there = inl there
watch_now s client context _ _ _ sound owns h (Reads number room queue is) w there = inl there
watch_now s client context _ _ _ sound owns h (Closes number queue is) w there =
    passes_or (λ v. not (v.0.1 == number)) s.watches w there
    (λ t. inl (ap (at (without s.queues number)) (not_this w.0.1 number t)
    ∙ at_without_same s.queues number sound.orderly.distinct))
watch_now s client context _ _ _ sound owns h (Watches id watch_id number key n queue here is asked small) w there =
    (watch_keeps s client context number id watch_id (owns number refl)).meets _ _ h w there
watch_now s client context _ _ _ sound owns h (Unwatches id watch_id number key n queue here names is asked was) w there
    =
    (watch_keeps s client context number id watch_id (owns number refl)).meets _ _ h w there
watch_now s client context _ _ _ sound owns h Leaves w there =
    passes_or (λ v. list_any (λ e. e.0 == v.0.1) (queues_without client s.queues)) s.watches w there
    (λ t. inl (queue_in (queues_without client s.queues) w.0.1 t))

-- ---- of a step
record SameQueue (before after : Queue) : Type 0 where
  client : after.client ≡ before.client
  capacity : after.capacity ≡ before.capacity
  filter : after.filter ≡ before.filter

notes_keep : (notes : List Record) (queue : Queue) → SameQueue queue (after_notes notes queue)
notes_keep [] queue = record { client = refl; capacity = refl; filter = refl }
notes_keep (note ∷ notes) queue =
    let more = notes_keep notes (after_note note queue) in
    record { client = more.client; capacity = more.capacity; filter = more.filter }

stays_on :
    (client : ℕ) (op : Op) (number : ℕ) (a b c : Queue) → QueueStays client op number a b → SameQueue b c
    → QueueStays client op number a c
stays_on client op number a b c stay more = grind (arith, common_steps)

begins_on : (client : ℕ) (op : Op) (b c : Queue) → QueueBegins client op b → SameQueue b c → QueueBegins client op c
begins_on client op b c begin more = grind (arith, common_steps)

served_queues_now :
    (client : ℕ) (op : Op) (number : ℕ) (notes : List Record) (o p : Option Queue) → QueueNow client op number o p
    → QueueNow client op number o (option_map (after_notes notes) p)
served_queues_now client op number notes _ _ NeverThere = NeverThere
served_queues_now client op number notes _ _ (Stayed a b stay) =
    Stayed a (after_notes notes b) (stays_on client op number a b _ stay (notes_keep notes b))
served_queues_now client op number notes _ _ (Ended a end) = Ended a end
served_queues_now client op number notes _ _ (Begun b begin) =
    Begun (after_notes notes b) (begins_on client op b _ begin (notes_keep notes b))

served_queues :
    (s new : State) (event : Event) (answer : Answer) → IsSound s
    → ((number : ℕ) → queue_asked event.ask.op ≡ Some number → OwnsQueue s event.lane number)
    → Serves s event.lane event.ask.context event.ask.op answer new → QueuesByRight s event new
served_queues s new event answer sound owns serves =
    let client = event.lane in
    let context = event.ask.context in
    let op = event.ask.op in
    let mid = serves.mid in
    let effect = effect_of s client context op mid answer serves.meant in
    let now : (k : ℕ) → QueueNow client op k (at s.queues k) (at new.queues k) = λ k.
    subst (QueueNow client op k (at s.queues k)) (sym (served_at serves k))
    (served_queues_now client op k (records_for k (posts_by s client context op answer new.keys)) (at s.queues k)
    (at mid.queues k) (queue_now s client context op mid answer sound owns effect k)) in
    let keys : new.keys ≡ serves.swept.keys = ap (λ (t : State). t.keys) serves.posted in
    let watches : new.watches ≡ live_watches serves.swept.keys mid.watches =
    ap (λ (t : State). t.watches) serves.posted ∙ ap (λ (t : State). t.watches) serves.sweep.rest in
    record {
      ends = λ k a was is. ends_now a (now k) was is;
      stays = λ k a b was is. stays_now a b (now k) was is;
      begins = λ k b was is. begins_now b (now k) was is;
      watches = λ w there. ⊎_elim
          (λ (h : IsWatched w mid.watches). ⊎_elim
          (λ stays. inl (subst (IsWatched w) (sym watches) stays))
          (λ gone. inr (inr (inl (ap (λ ks. at ks w.0.0) keys ∙ none_there (at serves.swept.keys w.0.0) gone))))
          (passes_or (λ v. is_some (at serves.swept.keys v.0.0)) mid.watches w h (λ t. t)))
          (λ rest. ⊎_elim
          (λ (none : at mid.queues w.0.1 ≡ None). inr (inl (served_at serves w.0.1 ∙ ap (option_map _) none)))
          (λ by. inr (inr (inr by))) rest)
          (watch_now s client context op mid answer sound owns serves.meant effect w there);
    }

refused_queues : (s new : State) (event : Event) → new ≡ s → QueuesByRight s event new
refused_queues s new event same = subst (QueuesByRight s event) (sym same) (record {
  ends = λ k a was is. absurd (none-some a (sym is ∙ was));
  stays = λ k a b was is. rw (same_Some a b (sym was ∙ is)) (queue_same event.lane event.ask.op k b b.waiting);
  begins = λ k b was is. absurd (none-some b (sym was ∙ is));
  watches = λ w there. inl there;
})

ended_queues :
    (s new : State) (event : Event) (reply : Result Answer Errno) → IsSound s
    → (IsOk reply → (number : ℕ) → queue_asked event.ask.op ≡ Some number → OwnsQueue s event.lane number)
    → Ends s event.lane event.ask.context event.ask.op reply new → QueuesByRight s event new
ended_queues s new event (Ok answer) sound owns ends = served_queues s new event answer sound (owns refl) ends
ended_queues s new event (Err e) sound owns ends = refused_queues s new event ends.1

step_queues :
    (old new : State) (event : Event) → IsSound old → Step old event new
    → QueuesByRight (raised old event.moment) event new
unfolding Step
step_queues old new event sound step =
    ended_queues (raised old event.moment) new event event.reply (raised_sound old event.moment sound)
    (λ accepted number is. let own = owners_ask old new event number step accepted is in
    record { queue = own.queue; there = own.there; own = own.own }) step

pub all_end : (start : State) → IsSound start → AllQueuesAreByRight start
all_end start sound before old legal event new step =
    step_queues old new event (legal_sound start before old sound legal) step
