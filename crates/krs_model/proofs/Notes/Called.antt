-- What a step calls for of a queue.
use Rattle.std.proofs.Common.{[], ◌++◌, ◌∙◌, ◌∷◌, ◌≡◌, ap, arith, Bool, eqb-true, filter, flat_map, is_some, IsSome}
use Rattle.std.proofs.Common.{length, List, map, None, not, Ok, option_map, refl, Result, subst, sym, true≢false, ℕ}
use Rattle.std.proofs.lemmas.{Bool.Decides.nat_tests, List.Filters.length-filter_both}
use Rattle.krs_types.specs.declared.{ask.{Answer.Answer, Op.Op}, errno.Errno.Errno, note.Record.Record}
use Rattle.krs_model.specs.{Asks.Leaving.left, Notes.Posting.{after_notes, dropped_watches, Note, note_for}}
use Rattle.krs_model.specs.Notes.Posting.{passes_at, Post, post_all, posts_of, records_for, removal_for, watches_at}
use Rattle.krs_model.specs.{Notes.Telling.{ended_by, notes_of}, Orderly.{AreOrderly, Each, IsWatch}, Queues.Queues}
use Rattle.krs_model.specs.{Queues.{queues_of, Watch}, Sound.IsSound, State.{Key, Queue, State}, Step.outcome_of}
use Rattle.krs_model.specs.{Step.{posts_by, Serves, watches_left}, Sweep.{IsSweep, IsSwept}, Table.{at, Table}}
use Rattle.krs_model.proofs.Asks.Effects.{Closes, Effect, effect_of, Filters, Leaves, OfKeys, Opens, Reads, Unwatches}
use Rattle.krs_model.proofs.{Asks.Effects.Watches, Notes.{Fitting.{each_filter, each_on}, Posts.at_post_all}}
use Rattle.krs_model.proofs.{Notes.Posts.records_for-append, Sound.{Queues.ended_watch, Watches.each_with}}
use Rattle.krs_model.proofs.{Sound.Watches.each_without, Sweep.Laws.{one_sweep, swept_sweep}}
use Rattle.std.proofs.lemmas.Grind.{common_steps}

-- nothing is posted to a queue that is not there
none_of_note :
    (queues : Table Queue) (q : ℕ) (ps : List Post) → at queues q ≡ None
    → records_for q (filter (λ p. passes_at (at queues p.0) p.1) ps) ≡ []
none_of_note queues q [] none = refl
none_of_note queues q (p ∷ ps) none = grind (arith, nat_tests, eqb-true, none_of_note queues q ps none)

none_of_notes :
    (s : Queues) (q : ℕ) (notes : List Note) → at s.queues q ≡ None
    → records_for q (flat_map (posts_of s) notes) ≡ []
none_of_notes s q [] none = refl
none_of_notes s q (note ∷ notes) none =
    records_for-append q (posts_of s note) (flat_map (posts_of s) notes)
    ∙ (ap (λ (rs : List Record). rs ++ records_for q (flat_map (posts_of s) notes))
    (none_of_note s.queues q (map (note_for note) (watches_at note.key s.watches)) none)
    ∙ none_of_notes s q notes none)

-- a watch of a queue that is there
abbrev pub IsKnown : Table Queue → Watch → Type 0
IsKnown queues w = IsSome (at queues w.0.1)

none_of_ended :
    (queues : Table Queue) (q : ℕ) (ws : List Watch) → Each (IsKnown queues) ws → at queues q ≡ None
    → records_for q (map removal_for ws) ≡ []
none_of_ended queues q [] h none = refl
none_of_ended queues q (w ∷ ws) h none =
    grind (arith, nat_tests, true≢false, eqb-true, none_of_ended queues q ws h.1 none)

known_append :
    (queues : Table Queue) (vs ws : List Watch) → Each (IsKnown queues) vs → Each (IsKnown queues) ws
    → Each (IsKnown queues) (vs ++ ws)
known_append queues [] ws f g = g
known_append queues (v ∷ vs) ws f g = (f.0, known_append queues vs ws f.1 g)

known_watches : (q : Queues) → AreOrderly q → Each (IsKnown q.queues) q.watches
known_watches q orderly = each_on (IsWatch q.queues) (IsKnown q.queues) q.watches (λ w is. is.queue) orderly.watches

-- the watches that an ask leaves, before the sweep, are of queues that were there before it
left_known :
    (s : State) (client context : ℕ) (op : Op) (mid : State) (answer : Answer)
    → Effect s client context op mid answer → AreOrderly (queues_of s) → Each (IsKnown s.queues) mid.watches
unfolding left
left_known s client context _ _ _ (OfKeys op new answer other comes none) orderly =
    subst (λ (q : Queues). Each (IsKnown s.queues) q.watches) (sym comes.queues) (known_watches (queues_of s) orderly)
left_known s client context _ _ _ (Opens capacity fits) orderly = known_watches (queues_of s) orderly
left_known s client context _ _ _ (Filters number entries queue there) orderly = known_watches (queues_of s) orderly
left_known s client context _ _ _ (Reads number room queue there) orderly = known_watches (queues_of s) orderly
left_known s client context _ _ _ (Closes number queue there) orderly =
    each_filter (IsKnown s.queues) _ s.watches (known_watches (queues_of s) orderly)
left_known s client context _ _ _ (Watches id watch_id number key n queue here there asked small) orderly =
    each_with (IsKnown s.queues) s.watches key number n (rw there refl) (λ w known. known)
    (known_watches (queues_of s) orderly)
left_known s client context _ _ _ (Unwatches id watch_id number key n queue here names there asked is) orderly =
    each_without (IsKnown s.queues) s.watches key number (known_watches (queues_of s) orderly)
left_known s client context _ _ _ Leaves orderly =
    each_filter (IsKnown s.queues) _ s.watches (known_watches (queues_of s) orderly)

-- the watches that an ask leaves, told of what it comes to
dropped_is :
    (meant : Result (State × Answer) Errno) (mid : State) (answer : Answer) (keys : Table Key)
    → meant ≡ Ok (mid, answer)
    → dropped_watches keys (watches_left meant) ≡ dropped_watches keys mid.watches
dropped_is meant mid answer keys is = grind (arith, common_steps)

-- an accepted ask calls for nothing of a queue that was not there
pub none_called :
    (s mid : State) (client context : ℕ) (op : Op) (answer : Answer) (keys : Table Key) (q : ℕ) → IsSound s
    → outcome_of s client context op ≡ Ok (mid, answer) → at s.queues q ≡ None
    → records_for q (posts_by s client context op answer keys) ≡ []
none_called s mid client context op answer keys q sound meant none =
    let notes = notes_of s client context op answer in
    let effect = effect_of s client context op mid answer meant in
    let ended = ended_by s client context op in
    let dropped = dropped_watches keys (watches_left (outcome_of s client context op)) in
    let ended_known : Each (IsKnown s.queues) ended = each_on (IsWatch s.queues) (IsKnown s.queues) ended
    (λ w is. is.queue) (ended_watch s client context op mid answer effect sound.few sound.orderly) in
    let left : Each (IsKnown s.queues) (dropped_watches keys mid.watches) =
    each_filter (IsKnown s.queues) _ mid.watches
    (left_known s client context op mid answer effect sound.orderly) in
    let dropped_known : Each (IsKnown s.queues) dropped = subst (Each (IsKnown s.queues))
    (sym (dropped_is (outcome_of s client context op) mid answer keys meant)) left in
    search (records_for-append, none_of_notes, none_of_ended, known_append) depth 8

-- what a queue is after a step, by what it was before the sweep
served_queues :
    {s new : State} {client context : ℕ} {op : Op} {answer : Answer} (serves : Serves s client context op answer new)
    → new.queues ≡ post_all (posts_by s client context op answer new.keys) serves.mid.queues
served_queues {s} {new} {client} {context} {op} {answer} serves = grind (arith, nat_tests)

pub served_at :
    {s new : State} {client context : ℕ} {op : Op} {answer : Answer} (serves : Serves s client context op answer new)
    (q : ℕ)
    → at new.queues q
    ≡ option_map (after_notes (records_for q (posts_by s client context op answer new.keys))) (at serves.mid.queues q)
served_at {s} {new} {client} {context} {op} {answer} serves q =
    let ps = posts_by s client context op answer new.keys in
    ap (λ (queues : Table Queue). at queues q) (served_queues serves) ∙ at_post_all ps serves.mid.queues q

pub served_next :
    {s new : State} {client context : ℕ} {op : Op} {answer : Answer} (serves : Serves s client context op answer new)
    → new.next_queue ≡ serves.mid.next_queue
served_next serves =
    ap (λ (t : State). t.next_queue) serves.posted ∙ ap (λ (t : State). t.next_queue) serves.sweep.rest

none_long : (ws : List Watch) → length ws ≡ 0 → ws ≡ []
none_long [] h = refl
none_long (w ∷ ws) h = absurd (omega arith)

-- where a filter leaves all, what it takes away is nothing
dropped_none : (p : Watch → Bool) (ws : List Watch) → filter p ws ≡ ws → filter (λ w. not (p w)) ws ≡ []
dropped_none p ws h =
    let both = length-filter_both p (λ w. not (p w)) (λ w. refl) ws in
    let all : length (filter p ws) ≡ length ws = ap length h in
    none_long (filter (λ w. not (p w)) ws) (omega arith)

-- the sweep of what is swept takes no watch away
pub swept_drops_none :
    (mid swept : State) → IsSwept mid → IsSweep mid swept → dropped_watches swept.keys mid.watches ≡ []
swept_drops_none mid swept is sweep =
    let same : swept ≡ mid = one_sweep mid swept mid sweep (swept_sweep mid is) in
    rw (same, dropped_none (λ w. is_some (at mid.keys w.0.0)) mid.watches is.watches)

-- what an accepted ask posts that has no notes, ends no watch and leaves a swept state
pub posts_none :
    {s new : State} {client context : ℕ} {op : Op} {answer : Answer} (serves : Serves s client context op answer new)
    → notes_of s client context op answer ≡ [] → ended_by s client context op ≡ [] → IsSwept serves.mid
    → posts_by s client context op answer new.keys ≡ []
posts_none {s} {new} {client} {context} {op} {answer} serves no_notes none_ended is =
    grind (arith, nat_tests, dropped_is, swept_drops_none)

-- of a queue that the sweep leaves none, where the ask has no notes and ends no watch
pub gone_called :
    {s new : State} {client context : ℕ} {op : Op} {answer : Answer} (serves : Serves s client context op answer new)
    (q : ℕ) → notes_of s client context op answer ≡ [] → ended_by s client context op ≡ []
    → AreOrderly (queues_of serves.mid) → at serves.mid.queues q ≡ None
    → records_for q (posts_by s client context op answer new.keys) ≡ []
gone_called {s} {new} {client} {context} {op} {answer} serves q no_notes none_ended orderly none =
    let mid = serves.mid in
    let meant = outcome_of s client context op in
    let dropped = dropped_watches new.keys mid.watches in
    let known : Each (IsKnown mid.queues) dropped = search (each_filter, known_watches) depth 8 in
    rw (no_notes, none_ended) (ap (λ (ws : List Watch). records_for q (map removal_for ws))
    (dropped_is meant mid answer new.keys serves.meant) ∙ none_of_ended mid.queues q dropped known none)
