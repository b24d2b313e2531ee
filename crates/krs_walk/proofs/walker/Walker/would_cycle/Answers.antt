use Rattle.std.proofs.{Common.{[], ◌∙◌, ◌∷◌, ◌≡◌, arith, length, sym, true≢false}, lemmas.List.nil_from_length}
use Rattle.krs_model.specs.Reach.{nested_in}
use Rattle.krs_keys.specs.Keys.{shown}
use Rattle.krs_walk.proofs.CycleLemmas.{leaf_misses, missed_closes, missed_reached, self_closes}
use Rattle.krs_walk.proofs.walker.Walker.would_cycle.Goals as goal
use Rattle.krs_model.proofs.Reach.Levels.{equal_is, same_is}
use Rattle.std.proofs.lemmas.Grind.{common_steps}

pub returns-then-eq-clause-closes : goal.returns-then-eq-clause-closes
returns-then-eq-clause-closes c = grind (arith, common_steps, self_closes, equal_is)

pub returns-then-is_empty-clause-closes : goal.returns-then-is_empty-clause-closes
returns-then-is_empty-clause-closes c =
    let keys = shown c.args.keys.now.keys in
    let leaf : nested_in keys c.args.key ≡ [] =
    sym c.rings_of.ensures ∙ nil_from_length c.rings_of.result.now
    (equal_is (length c.rings_of.result.now) 0 (sym c.is_empty.ensures ∙ c.if-is_empty.true)) in
    sym (missed_closes keys c.args.key c.args.ring 1 (c.args.key ∷ [])
    c.only_keyrings_link.ensures.only c.requires.ring
    (leaf_misses (nested_in keys) c.args.key c.args.ring leaf
    (λ e. true≢false (sym (same_is c.args.key c.args.ring e) ∙ (sym c.eq.ensures ∙ c.if-eq.false))))
    (omega arith))

pub returns-then-is_empty-clause-reached : goal.returns-then-is_empty-clause-reached
returns-then-is_empty-clause-reached c =
    let keys = shown c.args.keys.now.keys in
    let leaf : nested_in keys c.args.key ≡ [] =
    sym c.rings_of.ensures ∙ nil_from_length c.rings_of.result.now
    (equal_is (length c.rings_of.result.now) 0 (sym c.is_empty.ensures ∙ c.if-is_empty.true)) in (
      λ t. absurd (true≢false (sym t)),
      λ closing. absurd (missed_reached keys c.args.key c.args.ring 1 (c.args.key ∷ [])
          c.only_keyrings_link.ensures.only c.requires.ring
          (leaf_misses (nested_in keys) c.args.key c.args.ring leaf
          (λ e. true≢false (sym (same_is c.args.key c.args.ring e) ∙ (sym c.eq.ensures ∙ c.if-eq.false))))
          (omega arith) closing),
    )
