use Rattle.std.proofs.Common.{◌∙◌, ◌≡◌, ap, Ok, Option, subst, sym, ℕ}
use Rattle.krs_types.specs.declared.ask.{Answer.TheVariants.Nothing, Op.TheVariants.Watch}
use Rattle.krs_model.specs.{Asks.Watching.watched, Queues.{Queues, queues_of, with_queues}, State.{Key, State}}
use Rattle.krs_keys.specs.Keys.{seen}
use Rattle.krs_watch.specs.Changes.{watch_ended}
use Rattle.krs_tables.specs.{Serving.Tells, View.state_of}
use Rattle.krs_store.proofs.Watched.{looks_at, LooksAt, watch_ends, watch_set}
use Rattle.krs_store.proofs.watching.watch.Goals.{in-None+in_ok-unwatch-in-None, in-Some+in_ok-watch-in-Some}
use Rattle.krs_store.proofs.watching.watch.Goals as goal

pub returns-clause-step : goal.returns-clause-step
returns-clause-step c =
    let s = state_of c.tables.inside in
    let x = c.in_ok-context.context.now in
    let found : ℕ × Key = (c.in_ok-key.key, seen c.in_ok-key.field-0-1.now) in
    let l = looks_at c.args.tables.now c.args.client c.args.number c.args.id c.args.watch x c.in_ok-asked.asked found
    c.ranges.id c.ranges.watch c.in_ok-context.ensures c.in_ok-asked.ensures c.in_ok-key.ensures.found in
    let now = c.args.tables.now in
    let told : State → Type 0 =
    λ t. Tells now c.args.client c.args.number (Watch c.args.id c.args.queue c.args.watch) Nothing t in
    let looks : Option ℕ → Type 0 = λ o. LooksAt now c.args.client c.args.number c.args.id c.args.watch x o found in
    elim c.match-asked.branch [
      | in-Some+in_ok-watch-in-Some w ↦
          let q : Queues = w.watch.new.self in
          let n = w.in-Some.id in
          let set : watched (queues_of s) c.args.client c.args.queue found.0 n ≡ Ok (q, tt) =
          ap (λ (k : ℕ). watched (queues_of s) c.args.client c.args.queue k n) (sym c.new-key.ensures)
          ∙ w.in_ok-watch-in-Some.ensures in
          let here = subst (λ (t : State). watched (queues_of t) c.args.client c.args.queue found.0 n ≡ Ok (q, tt))
          c.tables.view_is set in
          subst told (sym (w.tables-is ∙ ap (λ (t : State). with_queues t q) c.tables.view_is))
          (watch_set now q c.args.client c.args.number c.args.id c.args.watch c.args.queue n x found
          (subst looks w.in-Some.is l) here)
      | in-None+in_ok-unwatch-in-None w ↦
          let q : Queues = w.unwatch.new.self in
          let ended : watch_ended (queues_of s) c.args.client c.args.queue found.0 ≡ Ok (q, tt) =
          ap (λ (k : ℕ). watch_ended (queues_of s) c.args.client c.args.queue k) (sym c.new-key.ensures)
          ∙ w.in_ok-unwatch-in-None.ensures in
          let here = subst (λ (t : State). watch_ended (queues_of t) c.args.client c.args.queue found.0 ≡ Ok (q, tt))
          c.tables.view_is ended in
          subst told (sym (w.tables-is ∙ ap (λ (t : State). with_queues t q) c.tables.view_is))
          (watch_ends now q c.args.client c.args.number c.args.id c.args.watch c.args.queue x found
          (subst looks w.in-None.is l) here)
    ]
