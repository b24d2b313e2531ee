-- Records go out by rising queue, and the removal records of an ask by rising key, then queue.
use Rattle.std.proofs.Common.{[], ◌++◌, ◌<◌, ◌==◌, ◌∙◌, ◌∷◌, ◌≡◌, ap, arith, Bool, cond, eqb-true, false, filter}
use Rattle.std.proofs.{Common.{List, map, nat_cmp, refl, subst, sym, true, ℕ}, lemmas.Bool.Decides.nat_tests}
use Rattle.std.specs.{Cmp.{nat_cmp_is, ranked}, declared.cmp.Ordering.TheVariants.{Equal, Less}}
use Rattle.std.specs.Ordering.{ordering_then}
use Rattle.krs_types.specs.declared.ask.{Answer.Answer, Op.Op}
use Rattle.krs_model.specs.Notes.Posting.{dropped_watches, Note, note_for, Post, posts_of, watches_at}
use Rattle.krs_model.specs.{Notes.Telling.ended_by, Ordering.{AreAbove, GoByQueue}, Orderly.{AreOrderly, AreRising}}
use Rattle.krs_model.specs.{Orderly.Each, Queues.{place_cmp, Queues, Watch}, Sound.IsSound, State.State}
use Rattle.krs_model.specs.Sweep.{IsSweep}
use Rattle.krs_model.proofs.{Asks.Effects.Effect, Notes.Called.swept_drops_none, Sound.Queues.effect_orderly}
use Rattle.krs_model.proofs.{Sound.Watches.filter_rising, Sweep.QueueAsks.effect_ends}

-- posts of watches of a key behind one of that key
abbrev IsOf : ℕ → ℕ → Watch → Type 0
IsOf key number w = place_cmp (key, number) w.0 ≡ Less

equal_is : (a b : ℕ) → a ≡ b → nat_cmp a b ≡ Equal
equal_is a b same = sym (nat_cmp_is a b Equal same)

less_of : (m n : ℕ) → nat_cmp m n ≡ Less → m < n
less_of m n h = ranked m n Less (sym h)

second_of : (a b m n : ℕ) → a ≡ b → ordering_then (nat_cmp a b) (nat_cmp m n) ≡ Less → m < n
second_of a b m n same h = less_of m n (sym (ap (λ o. ordering_then o (nat_cmp m n)) (equal_is a b same)) ∙ h)

above_watch :
    (note : Note) (number : ℕ) (ws : List Watch) → Each (IsOf note.key number) ws
    → AreAbove number (map (note_for note) (watches_at note.key ws))
above_watch note number [] h = tt
above_watch note number (w ∷ ws) h = grind (arith, nat_tests, second_of, eqb-true, above_watch note number ws h.1)

told_by_queue :
    (note : Note) (ws : List Watch) → AreRising ws → GoByQueue (map (note_for note) (watches_at note.key ws))
told_by_queue note [] h = tt
told_by_queue note (w ∷ ws) h =
    let more = told_by_queue note ws h.1 in
    elim (w.0.0 == note.key) as (λ b. (w.0.0 == note.key) ≡ b
    → GoByQueue (map (note_for note) (cond b (w ∷ watches_at note.key ws) (watches_at note.key ws)))) [
      | true ↦ λ t.
          let behind : Each (IsOf note.key w.0.1) ws =
          subst (λ (k : ℕ). Each (IsOf k w.0.1) ws) (eqb-true w.0.0 note.key t) h.0 in
          (above_watch note w.0.1 ws behind, more)
      | false ↦ λ t. more
    ] refl

above_filter : (number : ℕ) (p : Post → Bool) (ps : List Post) → AreAbove number ps → AreAbove number (filter p ps)
above_filter number p [] h = tt
above_filter number p (x ∷ ps) h = grind (arith, nat_tests, above_filter number p ps h.1)

filter_by_queue : (p : Post → Bool) (ps : List Post) → GoByQueue ps → GoByQueue (filter p ps)
filter_by_queue p [] h = tt
filter_by_queue p (x ∷ ps) h = grind (arith, nat_tests, above_filter, filter_by_queue p ps h.1)

-- one note goes to its queues by rising number
pub notes_by_queue : (q : Queues) (note : Note) → AreOrderly q → GoByQueue (posts_of q note)
notes_by_queue q note orderly = search (filter_by_queue, told_by_queue) depth 8

-- the removal records of an accepted ask go out by rising key, then queue
pub ended_rising :
    (s : State) (client context : ℕ) (op : Op) (mid : State) (answer : Answer) (swept : State) → IsSound s
    → Effect s client context op mid answer → IsSweep mid swept
    → AreRising (ended_by s client context op ++ dropped_watches swept.keys mid.watches)
ended_rising s client context op mid answer swept sound effect sweep =
    grind (arith, nat_tests, effect_orderly, filter_rising, swept_drops_none, effect_ends)
