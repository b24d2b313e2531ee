-- Each step leaves a store within its limits.
use Rattle.std.proofs.Common.{[], ap, arith, Err, filter, nat_le, Ok, Result, subst, sym, true, ℕ, ◌∙◌, ◌≡◌, ◌≤◌}
use Rattle.std.proofs.lemmas.{Bool.Decides.nat_tests, Option.none-some}
use Rattle.krs_types.specs.declared.{ask.{Answer.Answer, Op.Op}, context.Context.Context, errno.Errno.Errno}
use Rattle.krs_types.specs.declared.event.Event.{Event}
use Rattle.krs_model.specs.{Asks.Hello.context_count, Notes.Waiting.is_capacity, Sound.IsSound, State.{Key, raised}}
use Rattle.krs_model.specs.{State.{starting_at, State}, Step.{Ends, outcome_of, Step}, Table.{at, Table}}
use Rattle.krs_model.proofs.{Asks.{Effects.effect_of, Laws.law_of}, Sound.Steps.{legal_keeps, legal_sound}}
use Rattle.krs_model.proofs.{Sound.Steps.{raised_sound, sound_stands}}
use Rattle.krs_model.proofs.{Tables.{Changes.at_kept, Each.kept_is, Entries.rises_distinct}}
use Rattle.krs_laws.specs.Limits.{IsWithinLimits, StaysWithinLimits}
use Rattle.krs_laws.proofs.{ContextLimits.{AllGrouped, hello_few, houses_few, houses_grouped}}
use Rattle.krs_laws.proofs.{KeyLimits.{AllShort, both}, KeyLimitsByAsk.all_short}
use Rattle.krs_laws.proofs.QueueLimits.{QueuesWithin, served_within}
use Rattle.std.proofs.lemmas.Grind.{common_steps}

-- but for capacities, which IsSound has
record Within (s : State) : Type 0 where
  keys : AllShort s.keys
  contexts : (client : ℕ) → context_count client s.contexts ≤ 64
  groups : AllGrouped s.contexts
  queues : QueuesWithin s.queues

ended_within :
    (s new : State) (client context : ℕ) (op : Op) (reply : Result Answer Errno) → IsSound s → Within s
    → Ends s client context op reply new → Within new
ended_within s new client context op (Err e) sound was ends = subst Within (sym ends.1) was
ended_within s new client context op (Ok answer) sound was ends =
    let mid = ends.mid in
    let kept = ends.sweep.kept in
    let houses = ((law_of s client context op).fares.meets mid answer ends.meant).houses in
    let short = (all_short s client context op (sound_stands s sound) was.keys).meets mid answer ends.meant in
    let keys : new.keys ≡ filter (λ e. kept e.0) mid.keys =
    ap (λ (t : State). t.keys) ends.posted ∙ ends.sweep.keys in
    let contexts : new.contexts ≡ mid.contexts =
    ap (λ (t : State). t.contexts) ends.posted ∙ ap (λ (t : State). t.contexts) ends.sweep.rest in
    record {
      keys = record {
        each = λ k key there. short.each k key (kept_is (kept k) (at mid.keys k) key
            (sym (ap (λ (es : Table Key). at es k) keys ∙ at_kept kept mid.keys k) ∙ there));
        descs = λ k key there. short.descs k key (kept_is (kept k) (at mid.keys k) key
            (sym (ap (λ (es : Table Key). at es k) keys ∙ at_kept kept mid.keys k) ∙ there));
      };
      groups = subst AllGrouped (sym contexts)
          (houses_grouped s client context op mid.contexts mid.processes mid.uids
          (rises_distinct s.contexts sound.housed.contexts_rise) houses
          (λ caller is. hello_few s client context caller (mid, answer)
          (subst (λ (o : Op). outcome_of s client context o ≡ Ok (mid, answer)) is ends.meant)) was.groups);
      contexts = λ other. subst (λ (es : Table Context). context_count other es ≤ 64) (sym contexts)
          (houses_few s client context op mid.contexts mid.processes mid.uids houses other
          (was.contexts other));
      queues = served_within s new client context op answer ends sound.orderly
          (effect_of s client context op mid answer ends.meant) was.queues;
    }

step_within : (old new : State) (event : Event) → IsSound old → Within old → Step old event new → Within new
unfolding Step
step_within old new event sound was step =
    ended_within (raised old event.moment) new event.lane event.ask.context event.ask.op event.reply
    (raised_sound old event.moment sound) (record
    { keys = was.keys; contexts = was.contexts; groups = was.groups; queues = was.queues }) step

capacity_most : (n : ℕ) → is_capacity n ≡ true → n ≤ 4096
capacity_most n h = let high = (both (nat_le 1 n) (nat_le n 4096) h).1 in grind (arith, nat_tests)

within_limits : (s : State) → IsSound s → Within s → IsWithinLimits s
within_limits s sound within = record {
  keys = within.keys.each;
  descs = within.keys.descs;
  contexts = within.contexts;
  groups = within.groups;
  queues = within.queues.few;
  filters = λ number queue entries there is. within.queues.filters number queue there entries is;
  waiting = λ number queue there. (
    within.queues.wait number queue there,
    capacity_most queue.capacity
        (sound.orderly.queues number queue there).capacity,
  );
}

pub stays_within : (start : State) → IsSound start → IsWithinLimits start → StaysWithinLimits start
stays_within start sound limits events end legal =
    within_limits end (legal_sound start events end sound legal)
    (legal_keeps (λ s _. Within s) (λ old new _ event. step_within old new event) start end [] events sound (record {
      keys = record { each = limits.keys; descs = limits.descs };
      contexts = limits.contexts;
      groups = limits.groups;
      queues = record {
        few = limits.queues;
        wait = λ number queue there. (limits.waiting number queue there).0;
        filters = λ number queue there entries is. limits.filters number queue entries there is;
      };
    }) legal)

pub empty_within : (n : ℕ) → IsWithinLimits (starting_at n)
empty_within n = grind (arith, common_steps, none-some)
