use Rattle.std.proofs.Common.{◌∙◌, ◌≡◌, ap, arith, Err, IfOk, List, option_copied, subst, sym, ℕ}
use Rattle.krs_model.specs.Search.{or_next}
use Rattle.krs_walk.specs.Searching.{sought_in}
use Rattle.krs_walk.proofs.SearchLemmas.{entered_absent, entered_there, nothing_joined, nothing_sought, rings_entered}
use Rattle.krs_walk.proofs.search.Search.visit.Goals as goal
use Rattle.std.proofs.lemmas.Grind.{common_steps}

pub returns-in_default-clause-sought : goal.returns-in_default-clause-sought
returns-in_default-clause-sought c = grind (arith, common_steps, nothing_sought, entered_absent, option_copied)

pub returns-in_default-clause-joined : goal.returns-in_default-clause-joined
returns-in_default-clause-joined c = grind (arith, common_steps, nothing_joined, entered_absent, option_copied)

pub returns-then-not-branch-clause-sought : goal.returns-then-not-branch-clause-sought
returns-then-not-branch-clause-sought c =
    nothing_sought c.args.self.now c.args.ring c.args.fault
    (entered_there c.args.self.now c.args.ring c.in-Some.key.now _ (sym c.get.ensures ∙ ap option_copied c.in-Some.is)
    (sym c.in_ok-enters.ensures.enters ∙ c.if-not-branch.true))

pub returns-then-not-branch-clause-joined : goal.returns-then-not-branch-clause-joined
returns-then-not-branch-clause-joined c =
    nothing_joined c.args.self.now c.args.ring c.args.seen.now
    (entered_there c.args.self.now c.args.ring c.in-Some.key.now _ (sym c.get.ensures ∙ ap option_copied c.in-Some.is)
    (sym c.in_ok-enters.ensures.enters ∙ c.if-not-branch.true))

pub returns-clause-sought : goal.returns-clause-sought
returns-clause-sought c =
    subst (λ (zs : List ℕ). IfOk c.examine.result (λ r. r ≡ or_next (Err c.args.fault)
    (sought_in c.args.self.now zs)))
    (sym (entered_there c.args.self.now c.args.ring c.in-Some.key.now _
    (sym c.get.ensures ∙ ap option_copied c.in-Some.is) (sym c.in_ok-enters.ensures.enters
    ∙ c.if-not-branch.false)))
    c.examine.ensures.sought

pub returns-clause-joined : goal.returns-clause-joined
returns-clause-joined c = grind (arith, common_steps, rings_entered, option_copied)
