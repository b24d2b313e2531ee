-- Queues are their owners', and watches are set by right.
use Rattle.std.proofs.Common.{[], ◌==◌, ◌∙◌, ◌∷◌, ◌≡◌, ◌⊎◌, ap, arith, Err, inl, inr, is_eq, is_some, IsOk}
use Rattle.std.proofs.Common.{List, nat_cmp, nat_le, negsuc, None, not, Ok, Option, pos, refl, Result, Some, subst, suc}
use Rattle.std.proofs.{Common.{sym, true≢false, zero, ℕ, ℤ}, lemmas.{Bool.Decides.nat_tests, Option.none-some}}
use Rattle.std.proofs.lemmas.Option.{same_Some}
use Rattle.std.specs.{declared.cmp.Ordering.TheVariants.{Equal}}
use Rattle.krs_types.specs.declared.ask.{Answer.Answer, Op.{Op, TheVariants.{CloseQueue, Leave, OpenQueue, ReadQueue}}}
use Rattle.krs_types.specs.declared.{ask.Op.TheVariants.SetFilter, errno.Errno.{Errno, TheVariants.{EBUSY}}}
use Rattle.krs_types.specs.declared.{event.Event.Event, rights.Want.TheVariants.Granted}
use Rattle.krs_types.specs.{Rights.VIEW}
use Rattle.krs_model.specs.Asks.{Leaving.left, Linked.unless, Watching.{close_queue, closed, filtered, read_out}}
use Rattle.krs_model.specs.Asks.Watching.{read_queue, set_filter, unwatched, watch, watch_id_of, watched, with_watching}
use Rattle.krs_model.specs.{Lookup.{context_of, look_up}, Orderly.Each, Queues.{if_own_queue, place_cmp, queue_of}}
use Rattle.krs_model.specs.{Queues.{Queues, queues_of, Watch, watch_at, with_watch, without_watch}, Revocation.Names}
use Rattle.krs_model.specs.{Sound.IsSound, State.{Queue, raised, State}, Step.{Ends, outcome_of, Step}}
use Rattle.krs_model.specs.{Sweep.live_watches, Table.at}
use Rattle.krs_model.proofs.Asks.Done.{Closes, Effect, Filters, Leaves, OfKeys, Opens, queue_there, Reads, unwatched_is}
use Rattle.krs_model.proofs.Asks.{Done.{Unwatches, Watches}, Effects.effect_of, Later.{bind_ok, same_ok}}
use Rattle.krs_model.proofs.{Asks.Outcomes.{Meets, meets_after, meets_nested, meets_ok}, Lookups.Serials.found_serial}
use Rattle.krs_model.proofs.{Notes.Fitting.{each_filter, each_on}, Sound.Watches.each_without, Tables.Changes.same_at}
use Rattle.krs_laws.specs.{Integrity.HasRight, Noting.{AllWatchesAreByRight, IsSetBy, IsWatched, OwnsQueue}}
use Rattle.krs_laws.specs.Noting.{queue_asked, QueuesAreTheirOwners, WatchesByRight}
use Rattle.krs_laws.proofs.Rightly.{right_found}
use Rattle.krs_types.specs.declared.ask.Op.TheVariants as asks
use Rattle.std.proofs.lemmas.Grind.{common_steps}

-- ---- queues are their owners'
own_is : (client : ℕ) (found queue : Queue) → if_own_queue client found ≡ Ok queue → queue.client ≡ client
own_is client found queue h = grind (arith, common_steps, same_ok, nat_tests)

owner_of :
    (s : State) (client number : ℕ) (queue : Queue) → queue_of s.queues client number ≡ Ok queue
    → OwnsQueue s client number
owner_of s client number queue h = grind (arith, common_steps, bind_ok, queue_there, own_is)

-- watched or not, the queue is the client's
watching_owner :
    (s : State) (client number key : ℕ) (asked : Option ℕ) (queues : Queues)
    → with_watching (queues_of s) client number key asked ≡ Ok queues → OwnsQueue s client number
unfolding watched unwatched
watching_owner s client number key (Some id) queues h = grind (arith, common_steps, bind_ok, owner_of)
watching_owner s client number key None queues h = grind (arith, common_steps, bind_ok, owner_of)

ruleset owners = (meets_nested, meets_after, meets_ok, owner_of, watching_owner)

asked_owner :
    (s : State) (client context : ℕ) (op : Op) (number : ℕ) → queue_asked op ≡ Some number
    → Meets (λ (new : State). OwnsQueue s client number) (outcome_of s client context op)
unfolding watch set_filter filtered read_queue read_out close_queue closed
asked_owner s client context (asks.Watch id queue watch_id) number is =
    subst (λ (n : ℕ). Meets (λ (new : State). OwnsQueue s client n) (watch s client context id queue watch_id))
    (same_Some queue number is) (search owners depth 12)
asked_owner s client context (SetFilter queue entries) number is =
    subst (λ (n : ℕ). Meets (λ (new : State). OwnsQueue s client n) (set_filter s client queue entries))
    (same_Some queue number is) (search owners depth 12)
asked_owner s client context (ReadQueue queue room) number is =
    subst (λ (n : ℕ). Meets (λ (new : State). OwnsQueue s client n) (read_queue s client queue room))
    (same_Some queue number is) (search owners depth 12)
asked_owner s client context (CloseQueue queue) number is =
    subst (λ (n : ℕ). Meets (λ (new : State). OwnsQueue s client n) (close_queue s client queue))
    (same_Some queue number is) (search owners depth 12)
asked_owner s client context op number is = absurd (none-some number is)

ended_owner :
    (s new : State) (client context : ℕ) (op : Op) (reply : Result Answer Errno) (number : ℕ) → IsOk reply
    → queue_asked op ≡ Some number → Ends s client context op reply new → OwnsQueue s client number
ended_owner s new client context op (Ok answer) number accepted is ends =
    (asked_owner s client context op number is).meets ends.mid answer ends.meant
ended_owner s new client context op (Err e) number accepted is ends = absurd (true≢false (sym accepted))

pub owners_ask : QueuesAreTheirOwners
unfolding Step
owners_ask old new event number step accepted is =
    let own = ended_owner (raised old event.moment) new event.lane event.ask.context event.ask.op
    event.reply number accepted
    is step in
    record { queue = own.queue; there = own.there; own = own.own }

-- ---- watches are set by right
abbrev IsSetRightly : State → ℕ → ℕ → Op → Watch → Type 0
IsSetRightly s client context op w = IsWatched w s.watches ⊎ IsSetBy s client context op w

-- each watch is one of them
pub all_watched : (ws : List Watch) → Each (λ w. IsWatched w ws) ws
all_watched [] = tt
all_watched (w ∷ ws) = grind (arith, common_steps, each_on, all_watched ws)

were_set : (s : State) (client context : ℕ) (op : Op) → Each (IsSetRightly s client context op) s.watches
were_set s client context op =
    each_on (λ w. IsWatched w s.watches) (IsSetRightly s client context op) s.watches (λ w there. inl there)
    (all_watched s.watches)

-- the order of places is of both numbers
pub same_place : (x y : ℕ × ℕ) → place_cmp x y ≡ Equal → x ≡ y
same_place x y h = grind (arith, common_steps, nat_cmp, same_at, is_eq)

-- with one more watch, in the place of one that stands there
each_set :
    (P : Watch → Type 0) (ws : List Watch) (key number n : ℕ) → P ((key, number), n) → Each P ws
    → Each P (with_watch ws key number n)
each_set P [] key number n new h = (new, tt)
each_set P (w ∷ ws) key number n new h = grind (arith, common_steps, same_place, each_set P ws key number n new h.1)

-- an id that sets a watch is a number
id_is : (watch_id : ℤ) (n : ℕ) → watch_id_of watch_id ≡ Ok (Some n) → watch_id ≡ pos n
id_is (pos m) n h = grind (arith, common_steps, pos, nat_le)
id_is (negsuc zero) n h = cc
id_is (negsuc (suc m)) n h = cc

watching_set :
    (s : State) (client context number key : ℕ) (id watch_id : ℤ) (asked : Option ℕ) (queues : Queues)
    → watch_id_of watch_id ≡ Ok asked → Names s client context id key → HasRight s client context (Granted VIEW) key
    → with_watching (queues_of s) client number key asked ≡ Ok queues
    → Each (IsSetRightly s client context (asks.Watch id number watch_id)) queues.watches
unfolding watched
watching_set s client context number key id watch_id (Some n) queues is names right h =
    let op = asks.Watch id number watch_id in
    let set = bind_ok (watched (queues_of s) client number key n) _ queues h in
    let own = bind_ok (queue_of s.queues client number) _ set.0 set.1 in
    let free = bind_ok (unless (is_some (watch_at s.watches key number)) EBUSY) _ set.0 own.2 in
    let more : Queues = record (queues_of s) { watches = with_watch s.watches key number n } in
    let same : more ≡ queues =
    ap (λ (x : Queues × Unit {0}). x.0) (same_ok (Ok (more, tt)) (more, tt) set.0 refl free.2)
    ∙ same_ok (Ok set.0.0) set.0.0 queues refl set.2 in
    let new : IsSetBy s client context op ((key, number), n) = record {
      id = id;
      asked = ap (asks.Watch id number) (id_is watch_id n is);
      names = names;
      right = right;
      own = owner_of s client number own.0 own.1;
    } in
    subst (λ (q : Queues). Each (IsSetRightly s client context op) q.watches) same
    (each_set (IsSetRightly s client context op) s.watches key number n (inr new) (were_set s client context op))
watching_set s client context number key id watch_id None queues is names right h =
    let op = asks.Watch id number watch_id in
    let ended = bind_ok (unwatched (queues_of s) client number key) _ queues h in
    let gone = unwatched_is (queues_of s) client number key ended.0 ended.1 in
    let less : Queues = record (queues_of s) { watches = without_watch s.watches key number } in
    let same : less ≡ queues = gone.3 ∙ same_ok (Ok ended.0.0) ended.0.0 queues refl ended.2 in
    subst (λ (q : Queues). Each (IsSetRightly s client context op) q.watches) same
    (each_without (IsSetRightly s client context op) s.watches key number (were_set s client context op))

watch_set :
    (s : State) (client context number : ℕ) (id watch_id : ℤ)
    → Meets (λ (new : State). Each (IsSetRightly s client context (asks.Watch id number watch_id)) new.watches)
    (watch s client context id number watch_id)
unfolding watch
watch_set s client context number id watch_id =
    meets_after (context_of s client context) _ (λ c own.
    meets_after (watch_id_of watch_id) _ (λ asked known.
    meets_after (look_up s c id (Granted VIEW)) _ (λ there is.
    meets_after (with_watching (queues_of s) client number there.0 asked) _ (λ queues set.
    meets_ok (watching_set s client context number there.0 id watch_id asked queues known
    (record { whose = c; own = own; named = found_serial s c id (Granted VIEW) there is })
    (right_found s client context c id (Granted VIEW) there own is) set)))))

effect_set :
    (s : State) (client context : ℕ) (op : Op) (mid : State) (answer : Answer)
    → outcome_of s client context op ≡ Ok (mid, answer)
    → Effect s client context op mid answer → Each (IsSetRightly s client context op) mid.watches
unfolding left
effect_set s client context _ _ _ h (OfKeys op mid answer other comes none) =
    subst (Each (IsSetRightly s client context op)) (sym (ap (λ (q : Queues). q.watches) comes.queues))
    (were_set s client context op)
effect_set s client context _ _ _ h (Opens capacity held) = were_set s client context (OpenQueue capacity)
effect_set s client context _ _ _ h (Filters number entries queue there) =
    were_set s client context (SetFilter number entries)
effect_set s client context _ _ _ h (Reads number room queue there) =
    were_set s client context (ReadQueue number room)
effect_set s client context _ _ _ h (Closes number queue there) =
    let op = CloseQueue number in
    each_filter (IsSetRightly s client context op) (λ w. not (w.0.1 == number)) s.watches (were_set s client context op)
effect_set s client context _ _ _ h (Watches id watch_id number key n queue known there asked fits) =
    (watch_set s client context number id watch_id).meets _ _ h
effect_set s client context _ _ _ h (Unwatches id watch_id number key n queue known named there asked was) =
    let op = asks.Watch id number watch_id in
    each_without (IsSetRightly s client context op) s.watches key number (were_set s client context op)
effect_set s client context _ _ _ h Leaves =
    each_filter (IsSetRightly s client context Leave) _ s.watches (were_set s client context Leave)

ended_set :
    (s new : State) (event : Event) (reply : Result Answer Errno)
    → Ends s event.lane event.ask.context event.ask.op reply new → WatchesByRight s event new
ended_set s new event (Ok answer) ends =
    let client = event.lane in
    let context = event.ask.context in
    let mid = ends.mid in
    let op = event.ask.op in
    let set = effect_set s client context op mid answer ends.meant
    (effect_of s client context op mid answer ends.meant) in
    let is : new.watches ≡ live_watches ends.swept.keys mid.watches =
    ap (λ (t : State). t.watches) ends.posted ∙ ap (λ (t : State). t.watches) ends.sweep.rest in
    subst (Each (IsSetRightly s client context op)) (sym is)
    (each_filter (IsSetRightly s client context op) (λ w. is_some (at ends.swept.keys w.0.0)) mid.watches set)
ended_set s new event (Err e) ends =
    subst (λ (t : State). Each (IsSetRightly s event.lane event.ask.context event.ask.op) t.watches) (sym ends.1)
    (were_set s event.lane event.ask.context event.ask.op)

pub step_set : (old new : State) (event : Event) → Step old event new
    → WatchesByRight (raised old event.moment) event new
unfolding Step
step_set old new event step = ended_set (raised old event.moment) new event event.reply step

pub all_set : (start : State) → IsSound start → AllWatchesAreByRight start
all_set start sound before old legal event new step = step_set old new event step
