use Rattle.std.proofs.Common.{◌∙◌, refl, sym}
use Rattle.krs_keys.specs.Keys.{seen}
use Rattle.krs_walk.specs.Searching.{searcher_for}
use Rattle.krs_walk.proofs.SoughtLemmas.{key_comes_to, seen_there}
use Rattle.krs_walk.proofs.search.Search.judge_match.Goals as goal

pub returns-then-key : goal.returns-then-key
returns-then-key c =
    let s = c.args.self.now in
    sym (key_comes_to (searcher_for s) s.name.now c.args.serial (seen c.args.key.now) _ _ _ _
    (seen_there s.keys.now.keys c.args.serial c.args.key.now c.requires.key)
    c.requires.named c.if-key.true refl refl)

pub returns-then-is_over : goal.returns-then-is_over
returns-then-is_over c =
    let s = c.args.self.now in
    sym (key_comes_to (searcher_for s) s.name.now c.args.serial (seen c.args.key.now) _ _ _ _
    (seen_there s.keys.now.keys c.args.serial c.args.key.now c.requires.key)
    c.requires.named c.if-key.false (sym c.is_over.ensures ∙ c.if-is_over.true) refl)

pub returns-then-grants : goal.returns-then-grants
returns-then-grants c =
    let s = c.args.self.now in
    sym (key_comes_to (searcher_for s) s.name.now c.args.serial (seen c.args.key.now) _ _ _ _
    (seen_there s.keys.now.keys c.args.serial c.args.key.now c.requires.key)
    c.requires.named c.if-key.false (sym c.is_over.ensures ∙ c.if-is_over.false)
    (sym c.grants.ensures ∙ c.if-grants.true))

pub returns-else-grants : goal.returns-else-grants
returns-else-grants c =
    let s = c.args.self.now in
    sym (key_comes_to (searcher_for s) s.name.now c.args.serial (seen c.args.key.now) _ _ _ _
    (seen_there s.keys.now.keys c.args.serial c.args.key.now c.requires.key)
    c.requires.named c.if-key.false (sym c.is_over.ensures ∙ c.if-is_over.false)
    (sym c.grants.ensures ∙ c.if-grants.false))
