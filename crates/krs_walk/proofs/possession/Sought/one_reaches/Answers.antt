use Rattle.std.proofs.Common.{◌+◌, ◌∙◌, ap, arith, false, Option, option_to_list, sym, ℕ}
use Rattle.krs_walk.specs.Seeking.{links_it, links_within, nested, one_links}
use Rattle.krs_walk.proofs.{HintLemmas.{from_nested, one_level_more}, ListsLemmas.{or_left}}
use Rattle.krs_walk.proofs.possession.Sought.one_reaches.Goals as goal
use Rattle.krs_model.proofs.Reach.Levels.{equal_is}
use Rattle.std.proofs.lemmas.Grind.{common_steps}

pub returns-then-eq : goal.returns-then-eq
returns-then-eq c = grind (arith, common_steps, equal_is, option_to_list, or_left, one_level_more)

pub returns-else-eq : goal.returns-else-eq
returns-else-eq c = λ nests depth linked.
    let s = c.args.self.now in
    ap (λ (o : Option ℕ). one_links s (depth + 1) (option_to_list o)) c.in-Some.is
    ∙ or_left (links_within s (depth + 1) c.in-Some.head) false
    (from_nested (links_it s) (nested s) c.in-Some.head c.args.ring depth (sym c.nests.ensures ∙ nests) linked)
