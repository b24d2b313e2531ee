use Rattle.std.proofs.Common.{◌∙◌, refl, sym}
use Rattle.krs_keys.specs.Keys.{seen}
use Rattle.krs_walk.specs.Searching.{searcher_for}
use Rattle.krs_walk.proofs.SoughtLemmas.{key_comes_to, seen_there}
use Rattle.krs_walk.proofs.search.Search.judge_match_by.Goals as goal

pub returns-then-key-clause-sought : goal.returns-then-key-clause-sought
returns-then-key-clause-sought c =
    let s = c.args.self.now in
    sym (key_comes_to (searcher_for s) s.name.now c.args.serial (seen c.args.key.now) _ _ _ _
    (seen_there s.keys.now.keys c.args.serial c.args.key.now c.requires.key)
    c.requires.named c.if-key.true refl refl)

pub returns-then-is_over-clause-sought : goal.returns-then-is_over-clause-sought
returns-then-is_over-clause-sought c =
    let s = c.args.self.now in
    sym (key_comes_to (searcher_for s) s.name.now c.args.serial (seen c.args.key.now) _ _ _ _
    (seen_there s.keys.now.keys c.args.serial c.args.key.now c.requires.key)
    c.requires.named c.if-key.false (sym c.is_over.ensures ∙ c.if-is_over.true) refl)

pub returns-then-branch-clause-sought : goal.returns-then-branch-clause-sought
returns-then-branch-clause-sought c =
    let s = c.args.self.now in
    sym (key_comes_to (searcher_for s) s.name.now c.args.serial (seen c.args.key.now) _ _ _ _
    (seen_there s.keys.now.keys c.args.serial c.args.key.now c.requires.key)
    c.requires.named c.if-key.false (sym c.is_over.ensures ∙ c.if-is_over.false)
    (sym c.in_ok-grants_by.ensures.grants ∙ c.if-branch.true))

pub returns-else-branch-clause-sought : goal.returns-else-branch-clause-sought
returns-else-branch-clause-sought c =
    let s = c.args.self.now in
    sym (key_comes_to (searcher_for s) s.name.now c.args.serial (seen c.args.key.now) _ _ _ _
    (seen_there s.keys.now.keys c.args.serial c.args.key.now c.requires.key)
    c.requires.named c.if-key.false (sym c.is_over.ensures ∙ c.if-is_over.false)
    (sym c.in_ok-grants_by.ensures.grants ∙ c.if-branch.false))
