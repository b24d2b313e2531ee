-- Between an ask and its sweep each watch is at a key that is there: an ask takes no key away.
use Rattle.std.proofs.Common.{◌≡◌, ap, subst, sym, ℕ}
use Rattle.krs_types.specs.declared.ask.{Answer.Answer, Op.Op}
use Rattle.krs_model.specs.{Asks.Leaving.left, Orderly.Each, Queues.Queues, Sound.IsSound, State.{raised, State}}
use Rattle.krs_model.specs.Sweep.{live_watches}
use Rattle.krs_model.proofs.Asks.Effects.{Closes, Effect, effect_of, Filters, Leaves, OfKeys, Opens, Reads, Unwatches}
use Rattle.krs_model.proofs.{Asks.Effects.Watches, Notes.Fitting.{each_filter, each_on}, Sound.Steps.raised_sound}
use Rattle.krs_model.proofs.{Sound.Watches.{each_with, each_without}, Sweep.QueueAsks.{each_live, IsLive, live_each}}
use Rattle.krs_tables.specs.Serving.{Tells}

-- what an accepted ask does leaves each watch at a key that is there
effect_live :
    (s : State) (client context : ℕ) (op : Op) (mid : State) (answer : Answer)
    → Effect s client context op mid answer → Each (IsLive s.keys) s.watches → Each (IsLive mid.keys) mid.watches
unfolding left
effect_live s client context _ _ _ (OfKeys op new answer other comes none) live =
    subst (Each (IsLive new.keys)) (sym (ap (λ (q : Queues). q.watches) comes.queues))
    (each_on (IsLive s.keys) (IsLive new.keys) s.watches (λ w here. comes.there w.0.0 here) live)
effect_live s client context _ _ _ (Opens capacity fits) live = live
effect_live s client context _ _ _ (Filters number entries queue there) live = live
effect_live s client context _ _ _ (Reads number room queue there) live = live
effect_live s client context _ _ _ (Closes number queue there) live = each_filter (IsLive s.keys) _ s.watches live
effect_live s client context _ _ _ (Watches id watch_id number key n queue here there asked small) live =
    each_with (IsLive s.keys) s.watches key number n here (λ w is. is) live
effect_live s client context _ _ _ (Unwatches id watch_id number key n queue here names there asked is) live =
    each_without (IsLive s.keys) s.watches key number live
effect_live s client context _ _ _ Leaves live = each_filter (IsLive s.keys) _ s.watches live

-- for a store whose clock was raised first: an accepted ask that was told of leaves each watch at a key that is there
pub told_live :
    {old up told : State} {client context : ℕ} {op : Op} {answer : Answer} (moment : ℕ) → IsSound old
    → up ≡ raised old moment → Tells up client context op answer told
    → live_watches told.keys told.watches ≡ told.watches
told_live {old} {up} {told} {client} {context} {op} {answer} moment sound raise tells =
    let above : IsSound up = subst IsSound (sym raise) (raised_sound old moment sound) in
    let mid = tells.mid in
    let live = effect_live up client context op mid answer (effect_of up client context op mid answer tells.meant)
    (live_each up.keys up.watches above.swept.watches) in
    subst (λ (t : State). live_watches t.keys t.watches ≡ t.watches) (sym tells.posted)
    (each_live mid.keys mid.watches live)
