-- Each record that a step calls for is called for by a watch.
use Rattle.std.proofs.Common.{[], ⊎_elim, ◌++◌, ◌==◌, ◌∙◌, ◌∷◌, ◌≡◌, ◌⊎◌, ap, Bool, cond, eqb-true, Err, false, filter}
use Rattle.std.proofs.Common.{flat_map, inl, inr, is_eq, is_some, List, map, not, Ok, refl, Result, Some, subst, sym}
use Rattle.std.proofs.Common.{true, ℕ}
use Rattle.std.specs.{List.AllByRecursion, declared.cmp.Ordering.TheVariants.{Equal, Greater, Less}}
use Rattle.std.proofs.lemmas.Option.{none-some, same_Some}
use Rattle.krs_types.specs.declared.{ask.{Answer.Answer, Op.Op}, errno.Errno.Errno}
use Rattle.krs_model.specs.{Asks.Leaving.left, Notes.Posting.{dropped_watches, Note, note_for, Post, posts, posts_of}}
use Rattle.krs_model.specs.Notes.{Posting.{records_for, removal_for, watches_at}, Telling.{ended_by, notes_of}}
use Rattle.krs_model.specs.{Orderly.Each, Outcome.Outcome, Queues.{place_cmp, Queues, queues_of, Watch, watch_at}}
use Rattle.krs_model.specs.{Receiving.called, Sound.IsSound, State.{Key, raised, State}}
use Rattle.krs_model.specs.{Step.{Ends, posts_by, Serves, Step, watches_left}, Sweep.IsSwept, Table.{at, Table}}
use Rattle.krs_model.proofs.Asks.Effects.{Closes, Effect, effect_of, Filters, Leaves, OfKeys, Opens, Reads, Unwatches}
use Rattle.krs_model.proofs.{Asks.Effects.Watches, Notes.Called.swept_drops_none}
use Rattle.krs_model.proofs.{Notes.Fitting.each_filter, Sound.{Queues.ended_set, Steps.{legal_sound, raised_sound}}}
use Rattle.krs_model.proofs.{Sound.Watches.each_without, Sweep.QueueAsks.effect_swept}
use Rattle.krs_laws.specs.Noting.{AllNotesAreCalledFor, IsCalledFor, IsWatched}
use Rattle.krs_laws.proofs.Watchers.{all_watched, same_place}
use Rattle.std.proofs.Common.{arith}
use Rattle.std.proofs.lemmas.Grind.{common_steps}

-- ---- posts
-- each of these posts is called for by one of these watches
abbrev AreCalledFor : List Watch → List Post → Type 0
AreCalledFor ws [] = Unit {0}
AreCalledFor ws (p ∷ ps) = IsCalledFor ws p.0 p.1 × AreCalledFor ws ps

called_append : (ws : List Watch) (ps qs : List Post) → AreCalledFor ws ps → AreCalledFor ws qs
    → AreCalledFor ws (ps ++ qs)
called_append ws [] qs f g = g
called_append ws (p ∷ ps) qs f g = (f.0, called_append ws ps qs f.1 g)

called_filter : (ws : List Watch) (passes : Post → Bool) (ps : List Post) → AreCalledFor ws ps
    → AreCalledFor ws (filter passes ps)
called_filter ws passes [] h = tt
called_filter ws passes (p ∷ ps) h = grind (arith, common_steps, called_filter ws passes ps h.1)

-- those for one queue
called_at : (ws : List Watch) (q : ℕ) (ps : List Post) → AreCalledFor ws ps
    → AllByRecursion (IsCalledFor ws q) (records_for q ps)
called_at ws q [] h = tt
called_at ws q (p ∷ ps) h = grind (arith, common_steps, eqb-true, called_at ws q ps h.1)

-- ---- notes and removals
told_called : (all : List Watch) (note : Note) (ws : List Watch) → Each (λ w. IsWatched w all) ws
    → AreCalledFor all (map (note_for note) (watches_at note.key ws))
told_called all note [] h = tt
told_called all note (w ∷ ws) h =
    let more = told_called all note ws h.1 in
    elim (w.0.0 == note.key) as (λ b. (w.0.0 == note.key) ≡ b
    → AreCalledFor all (map (note_for note) (cond b (w ∷ watches_at note.key ws) (watches_at note.key ws)))) [
      | true ↦ λ t.
          (subst (λ (key : ℕ). IsWatched ((key, w.0.1), w.1) all) (eqb-true w.0.0 note.key t) h.0, more)
      | false ↦ λ t. more
    ] refl

notes_called : (s : Queues) (notes : List Note) → AreCalledFor s.watches (flat_map (posts_of s) notes)
notes_called s [] = tt
notes_called s (note ∷ notes) =
    called_append s.watches (posts_of s note) (flat_map (posts_of s) notes)
    (called_filter s.watches _ (map (note_for note) (watches_at note.key s.watches))
    (told_called s.watches note s.watches (all_watched s.watches))) (notes_called s notes)

removals_called : (all ws : List Watch) → Each (λ w. IsWatched w all) ws → AreCalledFor all (map removal_for ws)
removals_called all [] h = tt
removals_called all (w ∷ ws) h = (h.0, removals_called all ws h.1)

-- ---- watches that end
-- a watch that is found is one of them
found_watched : (ws : List Watch) (key number n : ℕ) → watch_at ws key number ≡ Some n → IsWatched ((key, number), n) ws
found_watched [] key number n h = absurd (none-some n h)
found_watched (w ∷ ws) key number n h =
    elim (place_cmp (key, number) w.0) as (λ r. place_cmp (key, number) w.0 ≡ r
    → cond (is_eq r) (Some w.1) (watch_at ws key number) ≡ Some n → IsWatched ((key, number), n) (w ∷ ws)) [
      | Less ↦ λ t i. inr (found_watched ws key number n i)
      | Equal ↦ λ t i. inl (λ j. (sym (same_place (key, number) w.0 t) j, same_Some w.1 n i j))
      | Greater ↦ λ t i. inr (found_watched ws key number n i)
    ] refl h

-- the watch that an accepted ask ends
ended_called :
    (s : State) (client context : ℕ) (op : Op) (mid : State) (answer : Answer)
    → Effect s client context op mid answer → Each (λ w. IsWatched w s.watches) (ended_by s client context op)
ended_called s client context _ _ _ (OfKeys op new answer other comes none) = rw none tt
ended_called s client context _ _ _ (Opens capacity fits) = tt
ended_called s client context _ _ _ (Filters number entries queue there) = tt
ended_called s client context _ _ _ (Reads number room queue there) = tt
ended_called s client context _ _ _ (Closes number queue there) = tt
ended_called s client context _ _ _ (Watches id watch_id number key n queue here there asked small) =
    grind (arith, common_steps, ended_set)
ended_called s client context _ _ _ (Unwatches id watch_id number key n queue here names there asked is) =
    grind (arith, common_steps, found_watched)
ended_called s client context _ _ _ Leaves = tt

-- an ask sets no watch, or leaves a swept state
mid_watched :
    (s : State) (client context : ℕ) (op : Op) (mid : State) (answer : Answer) → IsSound s
    → Effect s client context op mid answer → Each (λ w. IsWatched w s.watches) mid.watches ⊎ IsSwept mid
unfolding left
mid_watched s client context _ _ _ sound (OfKeys op new answer other comes none) =
    inl (subst (Each (λ w. IsWatched w s.watches)) (sym (ap (λ (q : Queues). q.watches) comes.queues))
    (all_watched s.watches))
mid_watched s client context _ _ _ sound (Opens capacity fits) = inl (all_watched s.watches)
mid_watched s client context _ _ _ sound (Filters number entries queue there) = inl (all_watched s.watches)
mid_watched s client context _ _ _ sound (Reads number room queue there) = inl (all_watched s.watches)
mid_watched s client context _ _ _ sound (Closes number queue there) =
    inl (each_filter (λ w. IsWatched w s.watches) (λ w. not (w.0.1 == number)) s.watches (all_watched s.watches))
mid_watched s client context _ _ _ sound (Watches id watch_id number key n queue here there asked small) =
    inr (effect_swept s client context _ _ _ sound
    (Watches id watch_id number key n queue here there asked small) refl (λ e. absurd cc))
mid_watched s client context _ _ _ sound (Unwatches id watch_id number key n queue here names there asked is) =
    inl (each_without (λ w. IsWatched w s.watches) s.watches key number (all_watched s.watches))
mid_watched s client context _ _ _ sound Leaves =
    inl (each_filter (λ w. IsWatched w s.watches) _ s.watches (all_watched s.watches))

-- those whose keys the sweep drops
dropped_called :
    (s new : State) (client context : ℕ) (op : Op) (answer : Answer) → IsSound s
    → (serves : Serves s client context op answer new)
    → Each (λ w. IsWatched w s.watches) (dropped_watches new.keys serves.mid.watches)
dropped_called s new client context op answer sound serves =
    let mid = serves.mid in
    let keys : new.keys ≡ serves.swept.keys = ap (λ (t : State). t.keys) serves.posted in
    ⊎_elim (λ (each : Each (λ w. IsWatched w s.watches) mid.watches).
    each_filter (λ w. IsWatched w s.watches) (λ w. not (is_some (at new.keys w.0.0))) mid.watches each)
    (λ (swept : IsSwept mid).
    subst (Each (λ w. IsWatched w s.watches))
    (sym (ap (λ (ks : Table Key). dropped_watches ks mid.watches) keys
    ∙ swept_drops_none mid serves.swept swept serves.sweep)) tt)
    (mid_watched s client context op mid answer sound (effect_of s client context op mid answer serves.meant))

each_append : (P : Watch → Type 0) (ws vs : List Watch) → Each P ws → Each P vs → Each P (ws ++ vs)
each_append P [] vs f g = g
each_append P (w ∷ ws) vs f g = (f.0, each_append P ws vs f.1 g)

served_called :
    (s new : State) (client context : ℕ) (op : Op) (answer : Answer) → IsSound s
    → Serves s client context op answer new → AreCalledFor s.watches (posts_by s client context op answer new.keys)
served_called s new client context op answer sound serves =
    let mid = serves.mid in
    let notes = notes_of s client context op answer in
    let ended = ended_by s client context op in
    let gone : List Watch → List Watch = λ ws. ended ++ dropped_watches new.keys ws in
    let all = removals_called s.watches (gone mid.watches) (each_append (λ w. IsWatched w s.watches) ended
    (dropped_watches new.keys mid.watches)
    (ended_called s client context op mid answer (effect_of s client context op mid answer serves.meant))
    (dropped_called s new client context op answer sound serves)) in
    subst (λ (meant : Outcome). AreCalledFor s.watches (posts (queues_of s) notes (gone (watches_left meant))))
    (sym serves.meant)
    (called_append s.watches (flat_map (posts_of (queues_of s)) notes) (map removal_for (gone mid.watches))
    (notes_called (queues_of s) notes) all)

ended_notes :
    (s new : State) (client context : ℕ) (op : Op) (reply : Result Answer Errno) (q : ℕ) → IsSound s
    → Ends s client context op reply new
    → AllByRecursion (IsCalledFor s.watches q) (called q s client context op reply new.keys)
ended_notes s new client context op (Ok answer) q sound ends =
    called_at s.watches q (posts_by s client context op answer new.keys)
    (served_called s new client context op answer sound ends)
ended_notes s new client context op (Err e) q sound ends = tt

pub all_called : (start : State) → IsSound start → AllNotesAreCalledFor start
unfolding Step
all_called start sound before old legal event new step number =
    ended_notes (raised old event.moment) new event.lane event.ask.context event.ask.op event.reply number
    (raised_sound old event.moment (legal_sound start before old sound legal)) step
