use Rattle.std.proofs.Common.{[], ◌∙◌, ◌∷◌, ap, arith, get_or, true≢false, ℕ}
use Rattle.krs_model.specs.Reach.{nested_in}
use Rattle.krs_keys.specs.Keys.{shown}
use Rattle.krs_walk.specs.Lists.{join}
use Rattle.krs_walk.proofs.CycleLemmas.{apart_of, found_closes, found_reached, missed_closes, missed_reached, same_of}
use Rattle.krs_walk.proofs.CycleLemmas.{walk_goes_on, walk_starts}
use Rattle.krs_walk.proofs.cycle.walk_to.Goals as goal
use Rattle.std.proofs.lemmas.Grind.{common_steps}

pub walk-init : goal.walk-init
walk-init c =
    walk_starts (nested_in (shown c.args.keys.now.keys)) c.args.key c.args.ring c.join.new.self
    (c.in_ok-join.ensures ∙ ap (λ zs. join zs (c.args.key ∷ [])) c.requires.seen)

pub walk-preserved : goal.walk-preserved
walk-preserved c =
    let links = nested_in (shown c.args.keys.now.keys) in
    let all = c.walk.seen in
    walk_goes_on links c.args.key c.args.ring c.walk.place all c.join-in-walk.new.self c.walk.invariant
    (omega (arith, c.len.ensures.is))
    (apart_of c.at-here.result c.args.ring (get_or all c.walk.place 0) c.eq.result c.eq.ensures c.if-eq.false
    c.at-here.ensures)
    (c.in_ok-join-2.ensures ∙ (ap (join all) c.rings_of.ensures
    ∙ ap (λ (k : ℕ). join all (links k)) c.at-here.ensures))

pub returns-then-eq-clause-closes : goal.returns-then-eq-clause-closes
returns-then-eq-clause-closes c = grind (arith, common_steps, found_closes, same_of, get_or)

pub returns-then-eq-clause-reached : goal.returns-then-eq-clause-reached
returns-then-eq-clause-reached c = grind (arith, common_steps, found_reached, same_of, get_or)

pub returns-clause-closes : goal.returns-clause-closes
returns-clause-closes c = grind (arith, common_steps, missed_closes)

pub returns-clause-reached : goal.returns-clause-reached
returns-clause-reached c = grind (arith, common_steps, true≢false, missed_reached)
