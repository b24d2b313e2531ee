use Rattle.std.proofs.{Common.{[], ◌∙◌, ◌≡◌, arith, length, sym}, lemmas.List.nil_from_length}
use Rattle.krs_model.specs.Reach.{nested_in, nesting_depth}
use Rattle.krs_keys.specs.Keys.{shown}
use Rattle.krs_walk.proofs.{HeightLemmas.{leaf_height, none_longer}}
use Rattle.krs_walk.proofs.walker.Walker.height_of.Goals as goal
use Rattle.krs_model.proofs.Reach.Levels.{equal_is}

pub returns-then-is_empty-clause-height : goal.returns-then-is_empty-clause-height
returns-then-is_empty-clause-height c =
    leaf_height (shown c.args.keys.now.keys) c.args.key
    (sym c.rings_of.ensures ∙ nil_from_length c.rings_of.result.now
    (equal_is (length c.rings_of.result.now) 0 (sym c.is_empty.ensures ∙ c.if-is_empty.true)))

pub returns-then-is_empty-clause-shallow : goal.returns-then-is_empty-clause-shallow
returns-then-is_empty-clause-shallow c =
    let keys = shown c.args.keys.now.keys in
    let leaf : nested_in keys c.args.key ≡ [] =
    sym c.rings_of.ensures ∙ nil_from_length c.rings_of.result.now
    (equal_is (length c.rings_of.result.now) 0 (sym c.is_empty.ensures ∙ c.if-is_empty.true)) in
    none_longer keys c.args.key 1 nesting_depth (omega arith) (leaf_height keys c.args.key leaf).longest
