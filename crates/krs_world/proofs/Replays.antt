-- A list of events leads to one store, or can't have happened.
use Rattle.std.proofs.Common.{[], ⊎_elim, ◌++◌, ◌+◌, ◌<◌, ◌∙◌, ◌∷◌, ◌≡◌, ◌≢◌, ap, Bool, drop, Err, false, get_or}
use Rattle.std.proofs.Common.{arith, length, List, Ok, refl, Result, subst, suc, sym, take, take-append-drop, true, ℕ}
use Rattle.std.proofs.Math.Seq.{drop-cons}
use Rattle.krs_types.specs.{Growth.grows, declared.ask.{Answer.Answer, Op.{Op, TheVariants.OpenQueue}}}
use Rattle.krs_types.specs.declared.{errno.Errno.{Errno, TheVariants.ENOMEM}, event.Event.Event}
use Rattle.krs_model.specs.{Asks.Watching.{open_queue, opened}, History.event_of, Outcome.Outcome}
use Rattle.krs_model.specs.{State.{raised, State}, Step.{Ends, outcome_of, Step}}
use Rattle.krs_model.proofs.History.{Determined.one_step, Steps.refusal_stays}
use Rattle.krs_world.specs.Replay.{FoundNoMemory, Replayed, Replays, ReplaysTo}
use Rattle.std.proofs.lemmas.Grind.{common_steps}

-- what is true isn't false
pub no_both : (b : Bool) → b ≡ true → b ≡ false → ⊥
no_both b holds fails = let both : true ≡ false = sym holds ∙ fails in cc

-- the reply of what an ask comes to
abbrev replied : Outcome → Result Answer Errno
replied (Ok done) = Ok done.1
replied (Err e) = Err e

reply_is : (s new : State) (client context : ℕ) (op : Op) (reply : Result Answer Errno)
    → Ends s client context op reply new → (reply ≡ Err ENOMEM → grows op ≡ true → ⊥)
    → reply ≡ replied (outcome_of s client context op)
reply_is s new client context op (Ok answer) ends not = sym (ap replied ends.meant)
reply_is s new client context op (Err e) ends not = grind (arith, common_steps, ⊎_elim)

-- what is asked of a state is answered with one reply, unless an ask that may find no memory found none
only_reply : (old a b : State) (e f : Event) → e.lane ≡ f.lane → e.moment ≡ f.moment → e.ask ≡ f.ask → Step old e a
    → Step old f b → (FoundNoMemory e → ⊥) → f.reply ≢ Err ENOMEM → e.reply ≡ f.reply
unfolding Step
only_reply old a b e f lane moment ask first second memory other = grind (arith, common_steps, reply_is)

-- an event that the store answers otherwise can't have happened
pub answered_else : (old new other : State) (event : Event) (reply : Result Answer Errno)
    → Step old (event_of event.lane event.moment event.ask reply) new → reply ≢ event.reply → reply ≢ Err ENOMEM
    → (FoundNoMemory event → ⊥) → Replayed old event other → ⊥
answered_else old new other event reply step differs memory found replayed =
    grind (arith, common_steps, ⊎_elim, only_reply)

-- a queue of no records is refused in every store
pub none_held : (old new : State) (lane moment context : ℕ) (reply : Result Answer Errno)
    → Step old (event_of lane moment (record { context = context; op = OpenQueue 0 }) reply) new
    → new ≡ raised old moment
unfolding Step open_queue opened
none_held old new lane moment context (Ok answer) step = absurd (let is = step.meant in cc)
none_held old new lane moment context (Err e) step = step.1

-- an event leads to one state
stays : (old new : State) (event : Event) → Step old event new → FoundNoMemory event → new ≡ raised old event.moment
stays old new event step found = grind (arith, common_steps, refusal_stays)

one_replayed : (old a b : State) (event : Event) → Replayed old event a → Replayed old event b → a ≡ b
one_replayed old a b event f g = grind (arith, common_steps, ⊎_elim, one_step, stays)

-- one event more
replays_more : (start mid next : State) (events : List Event) (event : Event) → ReplaysTo start events mid
    → Replayed mid event next → ReplaysTo start (events ++ event ∷ []) next
replays_more start mid next [] event r step = (next, subst (λ (s : State). Replayed s event next) (sym r) step, refl)
replays_more start mid next (x ∷ xs) event r step = (r.0, r.1, replays_more r.0 mid next xs event r.2 step)

-- what happened after a beginning
replays_on : (start mid end : State) (xs ys : List Event) (event : Event) → ReplaysTo start xs mid
    → ReplaysTo start (xs ++ event ∷ ys) end → (next : State) × Replayed mid event next
replays_on start mid end [] ys event r all = (all.0, subst (λ (s : State). Replayed s event all.0) r all.1)
replays_on start mid end (x ∷ xs) ys event r all =
    let same : all.0 ≡ r.0 = one_replayed start all.0 r.0 x all.1 r.1 in
    replays_on r.0 mid end xs ys event r.2 (subst (λ (s : State). ReplaysTo s (xs ++ event ∷ ys) end) same all.2)

-- The same, by places in the list.
pub further : (start mid next : State) (events : List Event) (i : ℕ) (event : Event)
    → take (i + 1) events ≡ take i events ++ event ∷ [] → ReplaysTo start (take i events) mid → Replayed mid event next
    → ReplaysTo start (take (i + 1) events) next
further start mid next events i event is so_far step = grind (arith, common_steps, replays_more)

pub stops : (start mid : State) (events : List Event) (i : ℕ) (event : Event) → i < length events
    → event ≡ get_or events i event → ReplaysTo start (take i events) mid
    → ((other : State) → Replayed mid event other → ⊥) → Replays start events → ⊥
stops start mid events i event within is so_far never all =
    let split : take i events ++ event ∷ drop (suc i) events ≡ events =
    (λ j. take i events ++ is j ∷ drop (suc i) events)
    ∙ (ap (λ (l : List Event). take i events ++ l) (sym (drop-cons events i event within))
    ∙ take-append-drop i events) in
    let on = replays_on start mid all.0 (take i events) (drop (suc i) events) event so_far
    (subst (λ (l : List Event). ReplaysTo start l all.0) (sym split) all.1) in never on.0 on.1
