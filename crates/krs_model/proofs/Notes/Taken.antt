-- What a step takes from a queue, and what it makes of it.
use Rattle.std.proofs.Common.{[], ⊎_elim, ◌++◌, ◌-◌, ◌∙◌, ◌∷◌, ◌≡◌, ◌⊎◌, ap, append-nil, arith, cond, Err, false, inl}
use Rattle.std.proofs.Common.{inr, length, List, map, nat_cmp, nat_le, None, Ok, option_map, refl, Result, Some}
use Rattle.std.proofs.{Common.{subst, sym, true, true≢false, ℕ}, lemmas.{Bool.Decides.nat_tests, Option.none-some}}
use Rattle.std.proofs.lemmas.Option.{same_Some}
use Rattle.std.specs.BTreeMap.{is_at}
use Rattle.krs_types.specs.declared.ask.{Answer.{Answer, TheVariants.Bytes}, Op.{Op, TheVariants.ReadQueue}}
use Rattle.krs_types.specs.declared.{errno.Errno.Errno, event.Event.Event, note.Record.Record}
use Rattle.krs_model.specs.{Asks.{Leaving.left, Watching.after_read}, Notes.Bytes.{AllFit, bytes_of, bytes_of_all}}
use Rattle.krs_model.specs.Notes.{Front.{behind, front}, Posting.{after_note, after_notes, records_for}, Stream.Move}
use Rattle.krs_model.specs.Notes.{Stream.{Posted, Took}, Telling.{ended_by, notes_of}, Waiting.MovesTo}
use Rattle.krs_model.specs.{Queues.{Queues, queues_without}, Receiving.{called, called_for, Takes}, Sound.IsSound}
use Rattle.krs_model.specs.{State.{Queue, raised, State}, Step.{Ends, posts_by, Serves, Step}, Sweep.IsSwept}
use Rattle.krs_model.specs.Table.{alter, at, without}
use Rattle.krs_model.proofs.Asks.Effects.{Closes, Effect, effect_of, Filters, is_of_queues, Leaves, OfKeys, Opens}
use Rattle.krs_model.proofs.{Asks.{Effects.{Reads, Unwatches, Watches}, Later.same_ok}, Notes.Bytes.spelled_once}
use Rattle.krs_model.proofs.Notes.{Called.{gone_called, none_called, posts_none, served_at}, Fitting.AllPost}
use Rattle.krs_model.proofs.{Notes.Fitting.{front_fit, posts_for}, Sound.{Queues.effect_orderly, Steps.posts_by_fit}}
use Rattle.krs_model.proofs.{Sound.Steps.raised_sound, Tables.Changes.{at_alter_other, at_alter_same, at_or_apart}}
use Rattle.krs_model.proofs.Tables.{Changes.{at_put_other, at_without_other, is_at_same}, Distinct.at_filter_some}
use Rattle.krs_model.proofs.Tables.Distinct.{at_without_same}
use Rattle.std.proofs.lemmas.Grind.{common_steps}

-- moves one after the other
pub moves_append :
    (capacity : ℕ) (a b : List Move) (start mid end : List Record) → MovesTo capacity start a mid
    → MovesTo capacity mid b end → MovesTo capacity start (a ++ b) end
moves_append capacity [] b start mid end l m = subst (λ (w : List Record). MovesTo capacity w b end) (sym l) m
moves_append capacity (Posted r ∷ a) b start mid end l m = (l.0, moves_append capacity a b _ mid end l.1 m)
moves_append capacity (Took r ∷ a) b start mid end l m = (l.0, l.1, moves_append capacity a b l.0 mid end l.2 m)

took_move :
    (capacity room : ℕ) (waiting : List Record)
    → MovesTo capacity waiting (map Took (front room waiting)) (behind room waiting)
took_move capacity room [] = refl
took_move capacity room (r ∷ rs) =
    let left = room - length (bytes_of r) in
    elim (nat_le (length (bytes_of r)) room) as (λ b. MovesTo capacity (r ∷ rs)
    (map Took (cond b (r ∷ front left rs) [])) (cond b (behind left rs) (r ∷ rs))) [
      | true ↦ (rs, refl, took_move capacity left rs)
      | false ↦ refl
    ]

-- a queue that is there before and after a step, with what came and what was taken
pub record Stays (old : Queue) (all : List Move) (new : Queue) : Type 0 where
  pub capacity : new.capacity ≡ old.capacity
  pub moves : MovesTo old.capacity old.waiting all new.waiting

posted_move :
    (notes : List Record) (queue : Queue) → AllPost notes → Stays queue (map Posted notes) (after_notes notes queue)
posted_move [] queue h = record { capacity = refl; moves = refl }
posted_move (note ∷ notes) queue h = search (posted_move notes (after_note note queue) h.1) depth 8

-- from a queue of the same capacity in which the same waits
stays_from :
    (old mine new : Queue) (all : List Move) → mine.capacity ≡ old.capacity → mine.waiting ≡ old.waiting
    → Stays mine all new
    → Stays old all new
stays_from old mine new all capacity waiting stays = grind (arith, nat_tests)

-- what an accepted ask takes of a queue
pub record TakesOf (q : ℕ) (op : Op) (answer : Answer) (took : List Record) : Type 0 where
  pub spelled :
      (room : ℕ) (bytes : List ℕ) → op ≡ ReadQueue q room → answer ≡ Bytes bytes
      → AllFit took × (bytes ≡ bytes_of_all took)
  pub nothing : ((room : ℕ) (bytes : List ℕ) → op ≡ ReadQueue q room → answer ≡ Bytes bytes → ⊥) → took ≡ []

-- what is known of a queue over an accepted ask that calls for these records of it
record Told (s mid new : State) (client context : ℕ) (op : Op) (answer : Answer) (q : ℕ)
    (rs : List Record) : Type 0 where
  is : at new.queues q ≡ option_map (after_notes rs) (at mid.queues q)
  fit : AllPost rs
  gone :
      notes_of s client context op answer ≡ [] → ended_by s client context op ≡ [] → at mid.queues q ≡ None → rs ≡ []
  quiet : notes_of s client context op answer ≡ [] → ended_by s client context op ≡ [] → IsSwept mid → rs ≡ []

-- the queue is gone, with nothing called for and nothing taken; or it is there
abbrev pub After : ℕ → Queue → State → List Record → List Record → Type 0
After q queue new rs took =
    ((at new.queues q ≡ None) × (rs ≡ []) × (took ≡ []))
    ⊎ ((now : Queue) × (at new.queues q ≡ Some now) × Stays queue (map Posted rs ++ map Took took) now)

-- a queue that the ask leaves with what waits in it
still_after :
    {s mid new : State} {client context : ℕ} {op : Op} {answer : Answer} {q : ℕ} {rs : List Record}
    (told : Told s mid new client context op answer q rs) (queue mine : Queue) (took : List Record)
    → at mid.queues q ≡ Some mine → mine.capacity ≡ queue.capacity → mine.waiting ≡ queue.waiting → took ≡ []
    → After q queue new rs took
still_after {q = q} {rs = rs} told queue mine took there capacity waiting none =
    grind (arith, nat_tests, stays_from, posted_move, append-nil)

-- which queue an ask reads
abbrev pub queue_read : Op → ℕ
queue_read (ReadQueue queue room) = queue
queue_read op = 0

abbrev pub bytes_given : Answer → List ℕ
bytes_given (Bytes bytes) = bytes
bytes_given answer = []

pub no_other : (q number : ℕ) → number ≡ q → is_at (nat_cmp q) number ≡ false → ⊥
no_other q number same apart = grind (arith, common_steps, true≢false, is_at_same, nat_cmp)

-- a queue that was there
effect_after :
    (s new : State) (client context : ℕ) (op : Op) (mid : State) (answer : Answer) (q : ℕ) (queue : Queue)
    (rs took : List Record)
    → IsSound s → Told s mid new client context op answer q rs → TakesOf q op answer took → at s.queues q ≡ Some queue
    → Effect s client context op mid answer → After q queue new rs took
unfolding left
effect_after s new client context _ _ _ q queue rs took sound told takes there
    (OfKeys op mid answer other comes none) =
    let same : at mid.queues q ≡ Some queue = ap (λ (x : Queues). at x.queues q) comes.queues ∙ there in
    still_after told queue queue took same refl refl
    (takes.nothing (λ room bytes asked is. true≢false (sym (ap is_of_queues asked) ∙ other)))
effect_after s new client context _ _ _ q queue rs took sound told takes there (Opens capacity fits) =
    grind (arith, nat_tests, none-some, at_put_other, at_or_apart, still_after)
effect_after s new client context _ _ _ q queue rs took sound told takes there (Filters number entries was here) =
    grind (arith, nat_tests, at_alter_same, still_after, at_alter_other, at_or_apart)
effect_after s new client context _ _ _ q queue rs took sound told takes there (Reads number room was here) =
    let f = after_read room in
    ⊎_elim (λ (e : q ≡ number).
    let one : was ≡ queue = same_Some was queue
    (sym here ∙ subst (λ (k : ℕ). at s.queues k ≡ Some queue) e there) in
    let none : rs ≡ [] = told.quiet refl refl (record { keys = sound.swept.keys; watches = sound.swept.watches }) in
    let fits : AllFit (front room queue.waiting) =
    front_fit room queue.waiting (sound.orderly.queues q queue there).fit in
    let bytes : List ℕ = bytes_of_all (front room was.waiting) in
    let spells = takes.spelled room bytes (ap (λ (k : ℕ). ReadQueue k room) (sym e)) refl in
    let gave : bytes ≡ bytes_of_all (front room queue.waiting) =
    ap (λ (x : Queue). bytes_of_all (front room x.waiting)) one in
    let all : took ≡ front room queue.waiting =
    spelled_once took (front room queue.waiting) spells.0 fits (sym spells.1 ∙ gave) in
    let same : at (alter s.queues number f) q ≡ Some (f queue) =
    subst (λ (k : ℕ). at (alter s.queues k f) q ≡ Some (f queue)) e
    (at_alter_same s.queues q f ∙ ap (option_map f) there) in
    let moves : map Posted rs ++ map Took took ≡ map Took (front room queue.waiting) = rw (none, all) refl in
    let stays : Stays queue (map Took (front room queue.waiting)) (f queue) = record {
      capacity = refl;
      moves = took_move queue.capacity room queue.waiting;
    } in
    let after : after_notes rs (f queue) ≡ f queue = rw none refl in
    inr (
      f queue,
      told.is ∙ (ap (option_map (after_notes rs)) same ∙ ap Some after),
      subst (λ (all : List Move). Stays queue all (f queue)) (sym moves) stays,
    ))
    (λ apart. still_after told queue queue took (at_alter_other s.queues number q f apart ∙ there) refl refl
    (takes.nothing (λ other bytes asked is. no_other q number (ap queue_read asked) apart)))
    (at_or_apart q number)
effect_after s new client context _ _ _ q queue rs took sound told takes there (Closes number was here) =
    let none : took ≡ [] = takes.nothing (λ room bytes asked is. absurd cc) in
    ⊎_elim (λ (e : q ≡ number).
    let gone : at (without s.queues number) q ≡ None =
    subst (λ (k : ℕ). at (without s.queues k) q ≡ None) e (at_without_same s.queues q sound.orderly.distinct) in
    inl (told.is ∙ ap (option_map (after_notes rs)) gone, told.gone refl refl gone, none))
    (λ apart. still_after told queue queue took (at_without_other s.queues number q apart ∙ there) refl refl none)
    (at_or_apart q number)
effect_after s new client context _ _ _ q queue rs took sound told takes there
    (Watches id watch_id number key n was here is_there asked small) =
    still_after told queue queue took there refl refl (takes.nothing (λ room bytes asks is. absurd cc))
effect_after s new client context _ _ _ q queue rs took sound told takes there
    (Unwatches id watch_id number key n was here names is_there asked is) =
    still_after told queue queue took there refl refl (takes.nothing (λ room bytes asks gave. absurd cc))
effect_after s new client context _ _ _ q queue rs took sound told takes there Leaves =
    let none : took ≡ [] = takes.nothing (λ room bytes asked is. absurd cc) in
    let left_queues = queues_without client s.queues in
    elim (at left_queues q) as (λ o. at left_queues q ≡ o → After q queue new rs took) [
      | None ↦ λ gone. inl (told.is ∙ ap (option_map (after_notes rs)) gone, told.gone refl refl gone, none)
      | Some still ↦ λ is.
          let was : at s.queues q ≡ Some still = at_filter_some _ s.queues q still sound.orderly.distinct is in
          let same : still ≡ queue = same_Some still queue (sym was ∙ there) in
          still_after told queue still took is (ap (λ (x : Queue). x.capacity) same)
          (ap (λ (x : Queue). x.waiting) same)
          none
    ] refl

told_of :
    {s new : State} {client context : ℕ} {op : Op} {answer : Answer} (serves : Serves s client context op answer new)
    (q : ℕ) → IsSound s
    → Told s serves.mid new client context op answer q (records_for q (posts_by s client context op answer new.keys))
told_of {s} {new} {client} {context} {op} {answer} serves q sound =
    let mid = serves.mid in
    let effect = effect_of s client context op mid answer serves.meant in
    let orderly = effect_orderly s client context op mid answer effect sound.few sound.orderly in
    record {
      is = served_at serves q;
      fit = search (posts_for, posts_by_fit) depth 8;
      gone = λ no_notes none_ended none. gone_called serves q no_notes none_ended orderly none;
      quiet = λ no_notes none_ended is. ap (records_for q) (posts_none serves no_notes none_ended is);
    }

-- over an ask, accepted or not
ends_after :
    (s new : State) (client context : ℕ) (op : Op) (reply : Result Answer Errno) (q : ℕ) (queue : Queue)
    (took : List Record) → IsSound s → Ends s client context op reply new
    → ((answer : Answer) → reply ≡ Ok answer → TakesOf q op answer took)
    → ((e : Errno) → reply ≡ Err e → took ≡ []) → at s.queues q ≡ Some queue
    → After q queue new (called q s client context op reply new.keys) took
ends_after s new client context op (Ok answer) q queue took sound serves takes none there =
    search (effect_after, told_of, effect_of) depth 8
ends_after s new client context op (Err e) q queue took sound ends takes none there = grind (arith, nat_tests)

-- what is taken of an event's reply is that of its answer
takes_answer :
    (q : ℕ) (event : Event) (took : List Record) (answer : Answer) → Takes q event took → event.reply ≡ Ok answer
    → TakesOf q event.ask.op answer took
takes_answer q event took answer takes reply = record {
  spelled = λ room bytes asked is.
      takes.spelled bytes (record { room = room; asked = asked; gave = reply ∙ ap (λ (a : Answer). Ok a) is });
  nothing = grind (arith, nat_tests, same_ok);
}

pub not_both : (reply : Result Answer Errno) (answer : Answer) (e : Errno) → reply ≡ Ok answer → reply ≡ Err e → ⊥
not_both reply answer e ok err = absurd cc

refused_takes :
    (q : ℕ) (event : Event) (took : List Record) (e : Errno) → Takes q event took → event.reply ≡ Err e → took ≡ []
refused_takes q event took e takes reply = grind (arith, common_steps, not_both)

-- a queue that is there before a step
pub step_after :
    (old new : State) (event : Event) (q : ℕ) (queue : Queue) (took : List Record) → IsSound old → Step old event new
    → Takes q event took → at old.queues q ≡ Some queue → After q queue new (called_for q old event new) took
unfolding Step
step_after old new event q queue took sound step takes there =
    search (ends_after, raised_sound, takes_answer, refused_takes) depth 8

-- a queue that is not there is not read
unread :
    (s : State) (client context : ℕ) (op : Op) (mid : State) (answer : Answer) (q room : ℕ) → op ≡ ReadQueue q room
    → at s.queues q ≡ None → Effect s client context op mid answer → ⊥
unread s client context _ _ _ q room asked none (OfKeys op mid answer other comes stays) = cc
unread s client context _ _ _ q room asked none (Opens capacity fits) = absurd cc
unread s client context _ _ _ q room asked none (Filters number entries queue there) = absurd cc
unread s client context _ _ _ q room asked none (Reads number other queue there) = cc
unread s client context _ _ _ q room asked none (Closes number queue there) = absurd cc
unread s client context _ _ _ q room asked none (Watches id watch_id number key n queue here there is small) = absurd cc
unread s client context _ _ _ q room asked none (Unwatches id watch_id number key n queue here names there is has) = cc
unread s client context _ _ _ q room asked none Leaves = absurd cc

-- nor is anything called for of it
ends_nothing :
    (s new : State) (client context : ℕ) (op : Op) (reply : Result Answer Errno) (q : ℕ) → IsSound s
    → Ends s client context op reply new → at s.queues q ≡ None → called q s client context op reply new.keys ≡ []
ends_nothing s new client context op (Ok answer) q sound serves none = grind (arith, common_steps, none_called)
ends_nothing s new client context op (Err e) q sound ends none = refl

answer_unread :
    (s new : State) (client context : ℕ) (op : Op) (reply : Result Answer Errno) (q room : ℕ) (bytes : List ℕ)
    → Ends s client context op reply new → at s.queues q ≡ None → op ≡ ReadQueue q room → reply ≡ Ok (Bytes bytes) → ⊥
answer_unread s new client context op (Ok answer) q room bytes serves none asked gave =
    search (unread, effect_of) depth 8
answer_unread s new client context op (Err e) q room bytes ends none asked gave = absurd cc

-- a queue that is not there before a step
pub step_nothing :
    (old new : State) (event : Event) (q : ℕ) (took : List Record) → IsSound old → Step old event new
    → Takes q event took → at old.queues q ≡ None → (called_for q old event new ≡ []) × (took ≡ [])
unfolding Step
step_nothing old new event q took sound step takes none =
    let up = raised old event.moment in (
      ends_nothing up new event.lane event.ask.context event.ask.op event.reply q (raised_sound old event.moment sound)
          step none,
      takes.nothing
          (λ bytes read. answer_unread up new event.lane event.ask.context event.ask.op event.reply q read.room
          bytes step none read.asked read.gave),
    )
