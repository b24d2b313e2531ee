use Rattle.std.proofs.Common.{◌∙◌, ◌≡◌, ap, List, None, Some, subst, sym}
use Rattle.krs_model.specs.Queues.{Watch, watch_at}
use Rattle.krs_watch.specs.Watched.{AreListed}
use Rattle.krs_watch.proofs.WatchesLemmas.{accepted, both_changed, refused, taken_back}
use Rattle.krs_watch.proofs.watches.Watches.insert.Goals as goal

pub invariant_of-self-then-is_err : goal.invariant_of-self-then-is_err
invariant_of-self-then-is_err c =
    let s = c.self.inside in
    let k = c.args.key in
    let n = c.args.number in
    let none : watch_at s.by_key.entries k n ≡ None =
    ap (λ (ws : List Watch). watch_at ws k n) c.self.view_is ∙ c.requires in
    subst (λ (ws : List Watch). AreListed ws c.remove.new.self.keys)
    (sym (refused c.insert-2.result (sym c.if-is_err.ensures.value) c.insert-2.ensures.err))
    (taken_back s.by_key.entries s.by_queue.keys c.insert.new.self.keys c.remove.new.self.keys k n none
    (λ q. c.in_ok-insert.ensures.updates.0 q) (λ q. c.remove.ensures.updates.0 q) c.self.invariant)

pub invariant_of-self-else-is_err : goal.invariant_of-self-else-is_err
invariant_of-self-else-is_err c =
    let s = c.self.inside in
    let new = accepted c.insert-2.result (sym c.if-is_err.ensures.value) c.insert-2.ensures.updates in
    both_changed s.by_key.entries c.insert-2.new.self.entries s.by_queue.keys c.insert.new.self.keys c.args.key
    c.args.number (Some c.args.id) (λ q. new.0 q) (λ q. c.in_ok-insert.ensures.updates.0 q) c.self.invariant
