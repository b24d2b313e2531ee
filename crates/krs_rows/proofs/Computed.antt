-- What is computed of an ask is a step of the store, and each step is what is computed, memory aside.
use Rattle.std.proofs.Common.{[], ◌∷◌, ◌≡◌, ◌⊎◌, ap, ap₂, Err, inl, inr, IsOk, List, Ok, refl, Result, subst, sym, true}
use Rattle.std.proofs.Common.{ℕ}
use Rattle.krs_types.specs.Growth.{grows}
use Rattle.krs_types.specs.declared.{ask.{Answer.Answer, Ask.Ask, Op.Op}, errno.Errno.{Errno, TheVariants.ENOMEM}}
use Rattle.krs_types.specs.declared.event.Event.{Event}
use Rattle.krs_model.specs.{History.{event_of, IsLegal}, Outcome.Outcome, Sound.IsSound, State.{raised, State}}
use Rattle.krs_model.specs.{Step.{Ends, outcome_of, Serves, Step}, Sweep.IsSweep}
use Rattle.krs_model.proofs.Asks.{Laws.law_of, Total.{held_in, picks_held}}
use Rattle.krs_model.proofs.{History.Determined.one_served, Sound.{Changes.Stands, Steps.{raised_sound, sound_stands}}}
use Rattle.krs_model.proofs.Sound.Steps.{step_sound}
use Rattle.krs_rows.specs.Answers.{answered, answers, HaveMemory, IsDue, replies, served, swept}

is_sweep : (s : State) → Stands s → IsSweep s (swept s)
is_sweep s stands = record { kept = held_in s; picks = picks_held s stands; keys = refl; rest = refl }

-- an accepted ask serves as is computed
serves :
    (s mid : State) (client context : ℕ) (op : Op) (answer : Answer) → IsSound s
    → outcome_of s client context op ≡ Ok (mid, answer)
    → Serves s client context op answer (served s client context op (Ok (mid, answer))).1
serves s mid client context op answer sound is =
    let stood = ((law_of s client context op).fares.meets mid answer is).stands (sound_stands s sound) in
    record { mid = mid; swept = swept mid; meant = is; sweep = is_sweep mid stood; posted = refl }

ends_so :
    (s : State) (client context : ℕ) (op : Op) (meant : Outcome) → IsSound s → outcome_of s client context op ≡ meant
    → Ends s client context op (served s client context op meant).0 (served s client context op meant).1
ends_so s client context op (Err e) sound is = (inl is, refl)
ends_so s client context op (Ok done) sound is = serves s done.0 client context op done.1 sound is

accepted :
    (s : State) (client context : ℕ) (op : Op) (meant : Outcome) → IsOk meant
    → IsOk (served s client context op meant).0
accepted s client context op (Err e) h = h
accepted s client context op (Ok done) h = h

-- what an ask ends with is what is computed, or ENOMEM
abbrev Due : State → ℕ → ℕ → Op → Result Answer Errno → State → Outcome → Type 0
Due s client context op reply new meant =
    ((reply ≡ (served s client context op meant).0) × (new ≡ (served s client context op meant).1))
    ⊎ ((reply ≡ Err ENOMEM) × (grows op ≡ true) × IsOk (served s client context op meant).0 × (new ≡ s))

ends_due :
    (s : State) (client context : ℕ) (op : Op) (reply : Result Answer Errno) (new : State) → IsSound s
    → Ends s client context op reply new → Due s client context op reply new (outcome_of s client context op)
ends_due s client context op (Ok answer) new sound ends =
    subst (Due s client context op (Ok answer) new) (sym ends.meant)
    (inl (refl, one_served ends (serves s ends.mid client context op answer sound ends.meant)))
ends_due s client context op (Err e) new sound (inl refused, stays) =
    subst (Due s client context op (Err e) new) (sym refused) (inl (refl, stays))
ends_due s client context op (Err e) new sound (inr lacks, stays) =
    inr (ap Err lacks.0, lacks.1, accepted s client context op (outcome_of s client context op) lacks.2, stays)

pub may_be_answered :
    (old : State) (lane moment : ℕ) (ask : Ask) → IsSound old
    → Step old (event_of lane moment ask (answered old lane moment ask).0) (answered old lane moment ask).1
unfolding Step
may_be_answered old lane moment ask sound =
    let up = raised old moment in
    ends_so up lane ask.context ask.op (outcome_of up lane ask.context ask.op) (raised_sound old moment sound) refl

pub is_answered : (old new : State) (event : Event) → IsSound old → Step old event new → IsDue old event new
unfolding Step
is_answered old new event sound step =
    ends_due (raised old event.moment) event.lane event.ask.context event.ask.op event.reply new
    (raised_sound old event.moment sound) step

tail_of : {A : Type 0} {x y : A} {xs ys : List A} → x ∷ xs ≡ y ∷ ys → xs ≡ ys
tail_of same = cc

pub legal_from :
    (start : State) (events : List Event) → IsSound start → answers start events ≡ replies events
    → (end : State) × IsLegal start events end
unfolding IsLegal
legal_from start [] sound same = (start, refl)
legal_from start (event ∷ events) sound same =
    let due = answered start event.lane event.moment event.ask in
    let first : due.0 ≡ event.reply = cc in
    let step : Step start event due.1 =
    subst (λ reply. Step start (event_of event.lane event.moment event.ask reply) due.1) first
    (may_be_answered start event.lane event.moment event.ask sound) in
    let rest = legal_from due.1 events (step_sound start due.1 event sound step) (tail_of same) in
    (rest.0, (due.1, step, rest.1))

pub answers_alone :
    (start : State) (events : List Event) (end : State) → IsSound start → IsLegal start events end → HaveMemory events
    → answers start events ≡ replies events
unfolding IsLegal
answers_alone start [] end sound legal memory = refl
answers_alone start (event ∷ events) end sound (next, step, rest) memory =
    elim (is_answered start next event sound step) [
      | inl due ↦
          ap₂ ◌∷◌ (sym due.0)
          (subst (λ s. answers s events ≡ replies events) due.1
          (answers_alone next events end (step_sound start next event sound step) rest memory.1))
      | inr lacks ↦ absurd (memory.0 lacks.0)
    ]
