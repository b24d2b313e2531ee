-- What the reply of an accepted read spells.
use Rattle.std.proofs.Common.{[], ⊎_elim, ◌∙◌, ◌≡◌, ap, arith, Err, List, Ok, refl, Result, sym, true≢false, ℕ}
use Rattle.krs_types.specs.declared.ask.{Answer.{Answer, TheVariants.Bytes}, Op.{Op, TheVariants.ReadQueue}}
use Rattle.krs_types.specs.declared.{errno.Errno.Errno, event.Event.Event, note.Record.Record}
use Rattle.krs_model.specs.{Notes.{Bytes.{AllFit, bytes_of_all}, Front.front}, Receiving.{IsRead, Takes}}
use Rattle.krs_model.specs.{Sound.IsSound, State.{raised, State}, Step.{Ends, Step}}
use Rattle.krs_model.proofs.Asks.Effects.{Closes, Effect, effect_of, Filters, is_of_queues, Leaves, OfKeys, Opens}
use Rattle.krs_model.proofs.{Asks.{Effects.{Reads, Unwatches, Watches}, Later.same_ok}, Notes.Bytes.spelled_once}
use Rattle.krs_model.proofs.Notes.{Fitting.front_fit, Taken.{bytes_given, no_other, not_both, queue_read}}
use Rattle.krs_model.proofs.{Sound.Steps.raised_sound, Tables.Changes.at_or_apart}
use Rattle.std.proofs.lemmas.Grind.{common_steps}

-- whether an ask is an accepted read of a queue
pub data Reading (q : ℕ) (op : Op) (answer : Answer) : Type 0 where
  IsReading :
      (room : ℕ) (notes : List Record) → op ≡ ReadQueue q room → AllFit notes → answer ≡ Bytes (bytes_of_all notes)
      → Reading q op answer
  NotReading : ((room : ℕ) (bytes : List ℕ) → op ≡ ReadQueue q room → answer ≡ Bytes bytes → ⊥) → Reading q op answer

effect_reading :
    (s : State) (client context : ℕ) (op : Op) (mid : State) (answer : Answer) (q : ℕ) → IsSound s
    → Effect s client context op mid answer → Reading q op answer
effect_reading s client context _ _ _ q sound (OfKeys op mid answer other comes stays) =
    NotReading (λ room bytes asked gave. true≢false (sym (ap is_of_queues asked) ∙ other))
effect_reading s client context _ _ _ q sound (Opens capacity fits) = NotReading (λ room bytes asked gave. absurd cc)
effect_reading s client context _ _ _ q sound (Filters number entries queue there) = grind (arith, common_steps)
effect_reading s client context _ _ _ q sound (Reads number room queue there) =
    let fits = front_fit room queue.waiting (sound.orderly.queues number queue there).fit in
    ⊎_elim (λ (e : q ≡ number).
    IsReading room (front room queue.waiting) (ap (λ (k : ℕ). ReadQueue k room) (sym e)) fits refl)
    (λ apart. NotReading (λ other bytes asked gave. no_other q number (ap queue_read asked) apart))
    (at_or_apart q number)
effect_reading s client context _ _ _ q sound (Closes number queue there) = grind (arith, common_steps)
effect_reading s client context _ _ _ q sound (Watches id watch_id number key n queue here there is small) =
    NotReading (λ room bytes asked gave. absurd cc)
effect_reading s client context _ _ _ q sound (Unwatches id watch_id number key n queue here names there is has) =
    NotReading (λ room bytes asked gave. absurd cc)
effect_reading s client context _ _ _ q sound Leaves = NotReading (λ room bytes asked gave. absurd cc)

-- whether an event is
pub data Read (q : ℕ) (event : Event) : Type 0 where
  IsOne : (notes : List Record) → AllFit notes → IsRead q event (bytes_of_all notes) → Read q event
  IsNone : ((bytes : List ℕ) → IsRead q event bytes → ⊥) → Read q event

answer_read :
    (q : ℕ) (event : Event) (answer : Answer) → event.reply ≡ Ok answer → Reading q event.ask.op answer → Read q event
answer_read q event answer reply (IsReading room notes asked fits gave) =
    IsOne notes fits (record { room = room; asked = asked; gave = reply ∙ ap (λ (a : Answer). Ok a) gave })
answer_read q event answer reply (NotReading never) =
    IsNone (λ bytes read. never read.room bytes read.asked
    (same_ok event.reply answer (Bytes bytes) reply read.gave))

ends_read :
    (s new : State) (event : Event) (reply : Result Answer Errno) (q : ℕ) → event.reply ≡ reply → IsSound s
    → Ends s event.lane event.ask.context event.ask.op reply new → Read q event
ends_read s new event (Ok answer) q is sound serves = search (effect_of, answer_read, effect_reading) depth 8
ends_read s new event (Err e) q is sound ends =
    IsNone (λ bytes read. not_both event.reply (Bytes bytes) e read.gave is)

pub step_read : (old new : State) (event : Event) (q : ℕ) → IsSound old → Step old event new → Read q event
unfolding Step
step_read old new event q sound step =
    ends_read (raised old event.moment) new event event.reply q refl (raised_sound old event.moment sound) step

same_bytes : (event : Event) (a b : List ℕ) → event.reply ≡ Ok (Bytes a) → event.reply ≡ Ok (Bytes b) → a ≡ b
same_bytes event a b h k = ap bytes_given (same_ok event.reply (Bytes a) (Bytes b) h k)

-- an event's reply spells one list of records
pub takes_some : (q : ℕ) (event : Event) → Read q event → (took : List Record) × Takes q event took
takes_some q event (IsOne notes fits read) = (
  notes,
  record {
    spelled = λ bytes other. (fits, same_bytes event bytes (bytes_of_all notes) other.gave read.gave);
    nothing = λ never. absurd (never (bytes_of_all notes) read);
  },
)
takes_some q event (IsNone never) =
    ([], record { spelled = λ bytes read. absurd (never bytes read); nothing = λ none. refl })

pub takes_one :
    (q : ℕ) (event : Event) (a b : List Record) → Read q event → Takes q event a → Takes q event b → a ≡ b
takes_one q event a b (IsOne notes fits read) f g =
    let left = f.spelled (bytes_of_all notes) read in
    let right = g.spelled (bytes_of_all notes) read in
    spelled_once a b left.0 right.0 (sym left.1 ∙ right.1)
takes_one q event a b (IsNone never) f g = f.nothing never ∙ sym (g.nothing never)
