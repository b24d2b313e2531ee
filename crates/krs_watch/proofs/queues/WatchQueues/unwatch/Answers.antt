use Rattle.std.proofs.Common.{◌∙◌, ◌≡◌, ap, List, Ok, rules, Some, sym, ℕ}
use Rattle.krs_types.specs.declared.note.Record.TheVariants.{Removal}
use Rattle.krs_model.specs.{Asks.Watching.{Change, unwatched}, Notes.Posting.after_note}
use Rattle.krs_model.specs.{Queues.{Queues, Watch, watch_at, without_watch}, State.Queue, Table.{alter, Table}}
use Rattle.krs_watch.proofs.{ChangesLemmas.ends_watch, QueuedLemmas.{queued_alter, queued_less}}
use Rattle.krs_watch.proofs.queues.WatchQueues.unwatch.Goals as goal

pub returns-in_default : goal.returns-in_default
unfolding unwatched
returns-in_default c = search rules

pub returns : goal.returns
returns c =
    let s = c.self.inside in
    let queues = s.queues.entries in
    let watches = s.watches in
    let key = c.args.key in
    let number = c.args.number in
    let id = c.in-Some.watch in
    let all : Table Queue → List Watch → Queues =
    λ zs ws. record { queues = zs; watches = ws; next_queue = s.next_queue } in
    let made : Table Queue → List Watch → Change (Unit {0}) = λ zs ws. Ok (all zs ws, tt) in
    let there : watch_at watches key number ≡ Some id = rw (← c.number.ensures) (sym c.in-Some.ensures.id) in
    let told : c.post.new.queues.entries ≡ alter queues number (after_note (Removal id key)) =
    c.post.ensures ∙ ap (λ (n : ℕ). alter queues number (after_note (Removal id n)))
    (c.from-id.ensures ∙ c.number-2.ensures) in
    let left : c.remove.new.self ≡ without_watch watches key number =
    c.remove.ensures.watches ∙ ap (λ (n : ℕ). without_watch watches n number) c.number.ensures in
    rw (← c.self.view_is) (
    ends_watch (all queues watches) c.args.client number key id c.in_ok-check_own.ensures there
    ∙ (ap (λ (zs : Table Queue). made zs (without_watch watches key number)) (sym told)
    ∙ ap (λ (ws : List Watch). made c.post.new.queues.entries ws) (sym left))
    )

pub invariant_of-self : goal.invariant_of-self
invariant_of-self c =
    let s = c.self.inside in
    queued_less s.queues.entries s.watches c.remove.new.self c.number.result c.args.number c.remove.ensures.watches
    c.self.invariant

pub invariant_of-self-2 : goal.invariant_of-self-2
invariant_of-self-2 c =
    let s = c.self.inside in
    queued_alter s.queues.entries c.post.new.queues.entries c.remove.new.self c.args.number
    (after_note (Removal c.in-Some.watch c.from-id.result)) c.post.ensures
    (queued_less s.queues.entries s.watches c.remove.new.self c.number.result c.args.number c.remove.ensures.watches
    c.self.invariant)
