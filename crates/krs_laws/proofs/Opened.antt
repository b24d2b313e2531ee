-- Whose queues are, and that nothing is left where all clients have left.
use Rattle.std.proofs.Common.{[], ap, append_assoc, Err, inl, inr, List, None, not, Ok, Option, option_map, refl}
use Rattle.std.proofs.Common.{Result, Some, subst, sym, ℕ, ⊎_elim, ◌++◌, ◌==◌, ◌∙◌, ◌∷◌, ◌≡◌, ◌⊎◌}
use Rattle.std.proofs.lemmas.Option.{none-some, same_Some}
use Rattle.krs_types.specs.declared.ask.{Answer.{Answer, TheVariants.Number}, Op.{Op, TheVariants.{Hello, Leave}}}
use Rattle.krs_types.specs.declared.{ask.Op.TheVariants.OpenQueue, caller.Caller.Caller, context.Context.Context}
use Rattle.krs_types.specs.declared.{errno.Errno.Errno, event.Event.Event}
use Rattle.krs_model.specs.{Asks.{Leaving.left, Watching.{after_read, new_queue, with_filter}}, Belonging.HasGreeted}
use Rattle.krs_model.specs.{Belonging.HasStayed, History.IsLegal, Notes.Posting.{after_notes, records_for}}
use Rattle.krs_model.specs.{Queues.Queues, Sound.IsSound, State.{Queue, raised, starting_at, State}, Step.Ends}
use Rattle.krs_model.specs.{Step.{posts_by, Step}, Table.{alter, at, IsDistinct, Table}}
use Rattle.krs_model.proofs.Asks.Effects.{Closes, Effect, effect_of, Filters, Leaves, OfKeys, Opens, Reads, Unwatches}
use Rattle.krs_model.proofs.{Asks.Effects.Watches, History.Belongings.{contexts_greeted, notes_client, stayed_more}}
use Rattle.krs_model.proofs.{History.Belongings.step_leaves, Notes.Called.served_at, Sound.Changes.at_change}
use Rattle.krs_model.proofs.Sound.{Changes.{at_put, IsChanged, IsPut}, Steps.{legal_keeps, legal_sound, start_sound}}
use Rattle.krs_model.proofs.Tables.{Distinct.at_filter_some, Entries.without_was}
use Rattle.krs_laws.specs.{Belonging.{HasOpened, QueuesAreTheirClients}, Emptied.{AreEmptiedByLeaving, HaveLeft}}
use Rattle.krs_laws.specs.Emptied.{IsEmpty, IsLeft}
use Rattle.krs_laws.proofs.Leftovers.{all_gone}
use Rattle.std.proofs.Common.{arith}
use Rattle.std.proofs.lemmas.Grind.{common_steps}

-- ---- whence a queue is
-- one of the same client was there
abbrev WasThere : Table Queue → ℕ → Queue → Type 0
WasThere queues m queue = (was : Queue) × (at queues m ≡ Some was) × (queue.client ≡ was.client)

-- its client has just opened it, or it was there
abbrev Whence : Table Queue → ℕ → Op → Answer → ℕ → Queue → Type 0
Whence queues client op answer m queue =
    ((queue.client ≡ client) × (capacity : ℕ) × (op ≡ OpenQueue capacity) × (answer ≡ Number m))
    ⊎ WasThere queues m queue

changed_was :
    (f : Queue → Queue) (o : Option Queue) (queue : Queue) → ((q : Queue) → (f q).client ≡ q.client)
    → option_map f o ≡ Some queue → (was : Queue) × (o ≡ Some was) × (queue.client ≡ was.client)
changed_was f None queue stays h = absurd (none-some queue h)
changed_was f (Some q) queue stays h =
    (q, refl, ap (λ (z : Queue). z.client) (sym (same_Some (f q) queue h)) ∙ stays q)

alter_was :
    (es : Table Queue) (n : ℕ) (f : Queue → Queue) → ((q : Queue) → (f q).client ≡ q.client) → (m : ℕ) (queue : Queue)
    → at (alter es n f) m ≡ Some queue → WasThere es m queue
alter_was es n f stays m queue there =
    ⊎_elim (λ (r : IsChanged es n f m). changed_was f (at es m) queue stays (sym r.1 ∙ there))
    (λ same. (queue, sym same ∙ there, refl)) (at_change es n m f)

effect_whence :
    (s : State) (client context : ℕ) (op : Op) (mid : State) (answer : Answer) → IsDistinct s.queues
    → Effect s client context op mid answer → (m : ℕ) (queue : Queue) → at mid.queues m ≡ Some queue
    → Whence s.queues client op answer m queue
unfolding left
effect_whence s client context _ _ _ distinct (OfKeys op new answer other comes none) m queue there =
    inr (queue, sym (ap (λ (q : Queues). at q.queues m) comes.queues) ∙ there, refl)
effect_whence s client context _ _ _ distinct (Opens capacity fits) m queue there =
    let new = new_queue client capacity in
    ⊎_elim
    (λ (r : IsPut s.queues s.next_queue new m). inl (
      ap (λ (z : Queue). z.client) (sym (same_Some new queue (sym r.1 ∙ there))),
      capacity,
      refl,
      ap Number (sym r.0),
    ))
    (λ same. inr (queue, sym same ∙ there, refl)) (at_put s.queues s.next_queue m new)
effect_whence s client context _ _ _ distinct (Filters number entries was here) m queue there =
    inr (alter_was s.queues number (with_filter entries) (λ q. refl) m queue there)
effect_whence s client context _ _ _ distinct (Reads number room was here) m queue there =
    inr (alter_was s.queues number (after_read room) (λ q. refl) m queue there)
effect_whence s client context _ _ _ distinct (Closes number was here) m queue there =
    inr (queue, without_was s.queues number m queue distinct there, refl)
effect_whence s client context _ _ _ distinct (Watches id watch_id number key n was known here asked
    fits) m queue there =
    inr (queue, there, refl)
effect_whence s client context _ _ _ distinct (Unwatches id watch_id number key n was known named here asked is) m queue
    there =
    inr (queue, there, refl)
effect_whence s client context _ _ _ distinct Leaves m queue there =
    inr (queue, at_filter_some (λ e. not (e.1.client == client)) s.queues m queue distinct there, refl)

whence_same :
    (queues : Table Queue) (client : ℕ) (op : Op) (answer : Answer) (m : ℕ) (a b : Queue) → a.client ≡ b.client
    → Whence queues client op answer m b → Whence queues client op answer m a
whence_same queues client op answer m a b same h = grind (arith, common_steps, ⊎_elim)

-- its client has just opened it, or it was there
abbrev Comes : Table Queue → ℕ → Op → Result Answer Errno → ℕ → Queue → Type 0
Comes queues client op reply m queue =
    ((queue.client ≡ client) × (capacity : ℕ) × (op ≡ OpenQueue capacity) × (reply ≡ Ok (Number m)))
    ⊎ WasThere queues m queue

ended_comes :
    (s new : State) (client context : ℕ) (op : Op) (reply : Result Answer Errno) → IsDistinct s.queues
    → Ends s client context op reply new → (m : ℕ) (queue : Queue) → at new.queues m ≡ Some queue
    → Comes s.queues client op reply m queue
ended_comes s new client context op (Ok answer) distinct ends m queue there =
    let notes = records_for m (posts_by s client context op answer new.keys) in
    let mid = ends.mid in
    let was = changed_was (after_notes notes) (at mid.queues m) queue (notes_client notes)
    (sym (served_at ends m) ∙ there) in
    let effect = effect_of s client context op mid answer ends.meant in
    ⊎_elim (λ opened. inl (opened.0, opened.1, opened.2, ap (λ (a : Answer). Ok a) opened.3)) (λ old. inr old)
    (whence_same s.queues client op answer m queue was.0 was.2
    (effect_whence s client context op mid answer distinct effect m was.0 was.1))
ended_comes s new client context op (Err e) distinct ends m queue there =
    inr (queue, ap (λ (t : State). at t.queues m) (sym ends.1) ∙ there, refl)

step_comes :
    (old new : State) (event : Event) → IsSound old → Step old event new → (m : ℕ) (queue : Queue)
    → at new.queues m ≡ Some queue → Comes old.queues event.lane event.ask.op event.reply m queue
unfolding Step
step_comes old new event sound step m queue there =
    ended_comes (raised old event.moment) new event.lane event.ask.context event.ask.op event.reply
    sound.orderly.distinct step m queue there

-- ---- queues are their clients'
opened_more :
    (client number : ℕ) (past : List Event) (event : Event) → HasOpened client number past
    → (event.lane ≡ client → event.ask.op ≡ Leave → ⊥) → HasOpened client number (past ++ event ∷ [])
opened_more client number past event h unlike = (
  h.0,
  h.1,
  h.2 ++ event ∷ [],
  ap (λ (l : List Event). l ++ event ∷ []) h.3 ∙ append_assoc h.0 (h.1 ∷ h.2) (event ∷ []),
  h.4,
  stayed_more client h.2 event h.5 unlike,
)

abbrev AreOpened : State → List Event → Type 0
AreOpened s past =
    (number : ℕ) (queue : Queue) → at s.queues number ≡ Some queue → HasOpened queue.client number past

opened_on :
    (old new : State) (past : List Event) (event : Event) → IsSound old → AreOpened old past → Step old event new
    → AreOpened new (past ++ event ∷ [])
opened_on old new past event sound known step number queue there =
    let unlike : event.lane ≡ queue.client → event.ask.op ≡ Leave → ⊥ =
    λ by is. (step_leaves old new event step is).queues number queue there (sym by) in
    ⊎_elim
    (λ (opened : (queue.client ≡ event.lane) × (capacity : ℕ) × (event.ask.op ≡ OpenQueue capacity)
    × (event.reply ≡ Ok (Number number))). (
      past,
      event,
      [],
      refl,
      record {
        by = sym opened.0;
        capacity = opened.1;
        asked = opened.2;
        gave = opened.3;
      },
      tt,
    ))
    (λ (was : WasThere old.queues number queue).
    opened_more queue.client number past event
    (subst (λ (z : ℕ). HasOpened z number past) (sym was.2) (known number was.0 was.1)) unlike)
    (step_comes old new event sound step number queue there)

from_empty :
    (n : ℕ) (events : List Event) (end : State) → IsLegal (starting_at n) events end → AreOpened end events
from_empty n events end legal =
    legal_keeps AreOpened opened_on (starting_at n) end [] events (start_sound n)
    (λ k queue h. absurd (none-some queue h)) legal

pub queues_are : (start : State) → QueuesAreTheirClients start
queues_are start empty events end legal =
    from_empty empty.0 events end (subst (λ (s : State). IsLegal s events end) empty.1 legal)

-- ---- all have left
left_stayed : (client : ℕ) (events : List Event) → IsLeft client events → HasStayed client events → ⊥
left_stayed client [] gone stays = gone
left_stayed client (event ∷ events) gone stays =
    ⊎_elim (λ here. stays.0 here.0 here.1) (λ later. left_stayed client events later stays.1) gone

-- whoever asked anything but LEAVE has not stayed since
none_stays :
    (client : ℕ) (before : List Event) (event : Event) (later : List Event) → HaveLeft (before ++ event ∷ later)
    → event.lane ≡ client → (event.ask.op ≡ Leave → ⊥) → HasStayed client later → ⊥
none_stays client [] event later all by unlike stays =
    ⊎_elim (λ here. unlike here.1)
    (λ gone. left_stayed client later (subst (λ (z : ℕ). IsLeft z later) by gone) stays) all.0
none_stays client (e ∷ before) event later all by unlike stays =
    none_stays client before event later all.1 by unlike stays

unlike_hello : (op : Op) (caller : Caller) → op ≡ Hello caller → op ≡ Leave → ⊥
unlike_hello op caller is leaves = absurd cc

unlike_open : (op : Op) (capacity : ℕ) → op ≡ OpenQueue capacity → op ≡ Leave → ⊥
unlike_open op capacity is leaves = absurd cc

no_context :
    (events : List Event) (c : Context) → HaveLeft events → HasGreeted c.client c.caller events → ⊥
no_context events c all greeted =
    none_stays c.client greeted.0 greeted.1 greeted.2 (subst HaveLeft greeted.3 all) greeted.4.by
    (unlike_hello greeted.1.ask.op c.caller greeted.4.asked) greeted.5

no_queue : (events : List Event) (client number : ℕ) → HaveLeft events → HasOpened client number events → ⊥
no_queue events client number all opened =
    none_stays client opened.0 opened.1 opened.2 (subst HaveLeft opened.3 all) opened.4.by
    (unlike_open opened.1.ask.op opened.4.capacity opened.4.asked) opened.5

left_empty : (n : ℕ) (events : List Event) (end : State) → IsLegal (starting_at n) events end
    → HaveLeft events → IsEmpty end
left_empty n events end legal all =
    all_gone end (legal_sound (starting_at n) events end (start_sound n) legal) (λ client. record {
      contexts = λ number c there e. no_context events c all (contexts_greeted n events end legal number c there);
      queues = λ number queue there e.
          no_queue events queue.client number all (from_empty n events end legal number queue there);
    })

pub emptied_by_leaving : (start : State) → AreEmptiedByLeaving start
emptied_by_leaving start empty events end legal all =
    left_empty empty.0 events end (subst (λ (s : State). IsLegal s events end) empty.1 legal) all
