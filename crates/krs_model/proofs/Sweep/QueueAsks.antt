-- An ask of queues leaves a swept state: keys and attachments stay, and watches are at keys that are there.
use Rattle.std.proofs.Common.{[], ◌∷◌, ◌≡◌, ◌⊎◌, ap, arith, Bool, cond, false, filter, inl, inr, is_some, IsSome}
use Rattle.std.proofs.Common.{length, List, not, refl, true, ℕ}
use Rattle.std.proofs.lemmas.List.Filters.{length-filter_both}
use Rattle.krs_types.specs.declared.ask.{Answer.Answer, Op.{Op, TheVariants.Leave}}
use Rattle.krs_model.specs.{Notes.Telling.{ended_by, named}, Orderly.Each, Queues.Watch, Sound.IsSound, State.Key}
use Rattle.krs_model.specs.{State.State, Sweep.{IsSwept, live_watches}, Table.{at, Table}}
use Rattle.krs_model.proofs.Asks.Effects.{Closes, Effect, Filters, is_of_queues, Leaves, OfKeys, Opens, Reads}
use Rattle.krs_model.proofs.{Asks.Effects.{Unwatches, Watches}, Notes.Fitting.each_filter, Sound.Queues.ended_set}
use Rattle.krs_model.proofs.Sound.Watches.{each_with, each_without}
use Rattle.std.proofs.lemmas.Grind.{common_steps}

-- the key of a watch is there
abbrev pub IsLive : Table Key → Watch → Type 0
IsLive keys w = IsSome (at keys w.0.0)

tail_of : List Watch → List Watch
tail_of [] = []
tail_of (w ∷ ws) = ws

pub live_each : (keys : Table Key) (ws : List Watch) → live_watches keys ws ≡ ws → Each (IsLive keys) ws
unfolding tail_of
live_each keys [] h = tt
live_each keys (w ∷ ws) h =
    let p : Watch → Bool = λ v. is_some (at keys v.0.0) in
    elim (is_some (at keys w.0.0)) as (λ b. is_some (at keys w.0.0) ≡ b
    → cond b (w ∷ filter p ws) (filter p ws) ≡ w ∷ ws → Each (IsLive keys) (w ∷ ws)) [
      | true ↦ λ t e. (t, live_each keys ws (ap tail_of e))
      | false ↦ λ t e.
          let size : length (filter p ws) ≡ length (w ∷ ws) = ap length e in
          let both = length-filter_both p (λ v. not (p v)) (λ v. refl) ws in
          absurd (omega arith)
    ] refl h

pub each_live : (keys : Table Key) (ws : List Watch) → Each (IsLive keys) ws → live_watches keys ws ≡ ws
each_live keys [] h = refl
each_live keys (w ∷ ws) h = search (each_live keys ws h.1) depth 8

-- what is left after an ask of queues but LEAVE is swept
pub effect_swept :
    (s : State) (client context : ℕ) (op : Op) (mid : State) (answer : Answer) → IsSound s
    → Effect s client context op mid answer → is_of_queues op ≡ true → (op ≡ Leave → ⊥) → IsSwept mid
effect_swept s client context _ _ _ sound (OfKeys op new answer other comes none) of_queues not_leave = cc
effect_swept s client context _ _ _ sound (Opens capacity fits) of_queues not_leave = grind (arith, common_steps)
effect_swept s client context _ _ _ sound (Filters number entries queue there) of_queues not_leave =
    record { keys = sound.swept.keys; watches = sound.swept.watches }
effect_swept s client context _ _ _ sound (Reads number room queue there) of_queues not_leave =
    record { keys = sound.swept.keys; watches = sound.swept.watches }
effect_swept s client context _ _ _ sound (Closes number queue there) of_queues not_leave =
    search (live_each, each_live, each_filter) depth 8
effect_swept s client context _ _ _ sound
    (Watches id watch_id number key n queue here there asked small) of_queues not_leave =
    search (live_each, each_live, each_with) depth 8
effect_swept s client context _ _ _ sound
    (Unwatches id watch_id number key n queue here names there asked is) of_queues not_leave =
    search (live_each, each_live, each_without) depth 8
effect_swept s client context _ _ _ sound Leaves of_queues not_leave = absurd (not_leave refl)

-- an ask that ends one watch, and leaves a swept state
pub record EndsOne (s : State) (client context : ℕ) (op : Op) (mid : State) : Type 0 where
  pub watch : Watch
  pub is : ended_by s client context op ≡ watch ∷ []
  pub swept : IsSwept mid

-- an accepted ask ends no watch itself, or one
pub effect_ends :
    (s : State) (client context : ℕ) (op : Op) (mid : State) (answer : Answer) → IsSound s
    → Effect s client context op mid answer
    → (ended_by s client context op ≡ []) ⊎ (EndsOne s client context op mid)
effect_ends s client context _ _ _ sound (OfKeys op new answer other comes none) = inl none
effect_ends s client context _ _ _ sound (Opens capacity fits) = inl refl
effect_ends s client context _ _ _ sound (Filters number entries queue there) = inl refl
effect_ends s client context _ _ _ sound (Reads number room queue there) = inl refl
effect_ends s client context _ _ _ sound (Closes number queue there) = inl refl
effect_ends s client context _ _ _ sound (Watches id watch_id number key n queue here there asked small) =
    inl (rw asked (ended_set s.watches (named s client context id) number n))
effect_ends s client context _ _ _ sound (Unwatches id watch_id number key n queue here names there asked is) =
    inr (record {
      watch = ((key, number), n);
      is = rw (names, asked, is) refl;
      swept = effect_swept s client context _ _ _ sound
          (Unwatches id watch_id number key n queue here names there asked is) refl (λ e. absurd cc);
    })
effect_ends s client context _ _ _ sound Leaves = inl refl
