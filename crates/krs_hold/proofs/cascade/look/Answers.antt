use Rattle.std.proofs.Common.{◌&&◌, ◌∙◌, ◌≡◌, ◌≤◌, ap, arith, false, not, sym, ℕ}
use Rattle.krs_keys.specs.Hashed.{by_serial}
use Rattle.krs_hold.specs.{Chain.Chained, Told.{lists, tells}}
use Rattle.krs_hold.proofs.{Anchoring.spares_all, Steps.{dropped_chain, dropped_exact, dropped_spares, dropped_weighs}}
use Rattle.krs_hold.proofs.Steps.{kept_chain, kept_exact, rest_weighs}
use Rattle.krs_hold.proofs.{ToldKeys.tells_listed, WatchedKeys.{untold, unwatched_goes}}
use Rattle.krs_hold.proofs.cascade.look.Goals.{else-has, then-has}
use Rattle.krs_hold.proofs.cascade.look.Goals as goal
use Rattle.std.proofs.lemmas.Grind.{common_steps}

pub returns-then-holders-gt0-clause-chained : goal.returns-then-holders-gt0-clause-chained
returns-then-holders-gt0-clause-chained g c = grind (arith, common_steps, kept_chain)

pub returns-then-holders-gt0-clause-less : goal.returns-then-holders-gt0-clause-less
returns-then-holders-gt0-clause-less g c =
    rest_weighs _ _ _ _
    (record { chained = c.requires; counts = c.rest-next.ensures.counts; after = c.rest-next.ensures.next })

pub returns-then-holders-gt0-clause-exact : goal.returns-then-holders-gt0-clause-exact
returns-then-holders-gt0-clause-exact g c = λ a h.
    kept_exact _ a _ _ _ _
    (record { chained = c.requires; counts = c.rest-next.ensures.counts; after = c.rest-next.ensures.next }) h

pub returns-then-holders-gt0-clause-spared : goal.returns-then-holders-gt0-clause-spared
returns-then-holders-gt0-clause-spared g c = λ a h. spares_all a c.args.keys.now.keys

pub returns-clause-chained : goal.returns-clause-chained
returns-clause-chained g c =
    let u : Chained = record { counts = by_serial c.drop_key.new.counts.entries; first = c.drop_key.result } in
    dropped_chain c.args.keys.now.keys (by_serial c.args.counts.now.entries) c.args.serial _ _ u
    (record { chained = c.requires; counts = c.rest-next.ensures.counts; after = c.rest-next.ensures.next })
    (record { no_count = c.drop_key.ensures.no_count; counts = c.drop_key.ensures.counts })

pub returns-clause-less : goal.returns-clause-less
returns-clause-less g c =
    let u : Chained = record { counts = by_serial c.drop_key.new.counts.entries; first = c.drop_key.result } in
    dropped_weighs c.args.keys.now.keys (by_serial c.args.counts.now.entries) c.args.serial _ _ u
    (record { chained = c.requires; counts = c.rest-next.ensures.counts; after = c.rest-next.ensures.next })
    (record { no_count = c.drop_key.ensures.no_count; counts = c.drop_key.ensures.counts })

empty : (n m : ℕ) → n ≡ m → n ≤ 0 → m ≡ 0
empty n m e h = omega (arith, e, h)

pub returns-clause-exact : goal.returns-clause-exact
returns-clause-exact g c = λ a h.
    let u : Chained = record { counts = by_serial c.drop_key.new.counts.entries; first = c.drop_key.result } in
    dropped_exact c.args.keys.now.keys c.drop_key.new.keys.keys a c.args.serial
    (by_serial c.rest-next.new.counts.entries) c.rest-next.result u (ap (λ t. t.keys) c.drop_key.ensures.keys)
    c.drop_key.ensures.gone
    (record { no_count = c.drop_key.ensures.no_count; counts = c.drop_key.ensures.counts })
    (empty _ _ c.holders.ensures c.if-holders-gt0.false)
    (kept_exact _ a _ _ _ _
    (record { chained = c.requires; counts = c.rest-next.ensures.counts; after = c.rest-next.ensures.next }) h)

pub returns-clause-spared : goal.returns-clause-spared
returns-clause-spared g c = λ a h.
    dropped_spares c.args.keys.now.keys c.drop_key.new.keys.keys a c.args.serial
    (by_serial c.rest-next.new.counts.entries)
    (ap (λ t. t.keys) c.drop_key.ensures.keys) c.drop_key.ensures.gone
    (empty _ _ c.holders.ensures c.if-holders-gt0.false)
    (kept_exact _ a _ _ _ _
    (record { chained = c.requires; counts = c.rest-next.ensures.counts; after = c.rest-next.ensures.next }) h)

pub returns-clause-watched : goal.returns-clause-watched
returns-clause-watched g c =
    let has = g.W.KeySet.has c.args.watched.now in
    let k = c.args.serial in
    let keys = c.args.keys.now.keys in
    let is : has k ≡ c.has.result = ap has (sym c.new.ensures) ∙ sym c.has.ensures in
    let told : has k && not (tells c.if-has.told k) ≡ false = elim c.if-has.branch [
      | then-has w ↦ untold (has k) _ (tells_listed c.if-has.told k c.ranges.serial.fits
          (ap (λ t. lists t k) w.told-is ∙ w.tell.ensures.itself))
      | else-has w ↦ ap (λ b. b && not (tells c.if-has.told k)) (is ∙ w.if-has.false)
    ] in
    unwatched_goes (λ q. has q && not (tells c.if-has.told q)) keys c.drop_key.new.keys.keys k told
    (ap (λ t. t.keys) c.drop_key.ensures.keys)
