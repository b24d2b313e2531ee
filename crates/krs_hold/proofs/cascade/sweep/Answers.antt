use Rattle.std.proofs.Common.{[], ◌∙◌, arith, Option, subst, ℕ}
use Rattle.krs_keys.specs.{Hashed.by_serial, Keys.shown}
use Rattle.krs_hold.specs.{Chain.IsChained, Told.tells}
use Rattle.krs_hold.proofs.{Anchoring.{keeps_anchored, spares_all, spares_on}, Exact.counted_from, ToldKeys.tells_more}
use Rattle.krs_hold.proofs.WatchedKeys.{goes_on}
use Rattle.krs_hold.proofs.cascade.sweep.Goals as goal
use Rattle.std.proofs.lemmas.Grind.{common_steps}

pub dropping-init : goal.dropping-init
dropping-init g c = grind (arith, common_steps, spares_all)

pub dropping-preserved : goal.dropping-preserved
dropping-preserved g c =
    let before = c.dropping.invariant in
    let says = c.look-first.ensures in
    record {
      chained = says.chained;
      exact = λ a h. says.exact a (before.exact a h);
      spared = λ a h. spares_on a _ _ _ (before.spared a h) (says.spared a (before.exact a h));
      watched = goes_on _ (tells c.dropping.told) _ _ _ _ (λ k. tells_more c.dropping.told _ k (says.more k))
          before.watched says.watched;
      next = says.next ∙ before.next;
    }

pub returns-clause-anchored : goal.returns-clause-anchored
returns-clause-anchored g c = λ a h.
    let left = by_serial c.dropping.counts.entries in
    keeps_anchored a c.args.keys.now.keys c.dropping.keys.keys left c.len.ensures.ordered
    (subst (λ (o : Option ℕ). IsChained left o) c.in_default.is c.dropping.invariant.chained)
    (counted_from (shown c.dropping.keys.keys) a [] left (c.dropping.invariant.exact a h))
    (c.dropping.invariant.spared a h)
