use Rattle.std.proofs.Common.{[], ◌++◌, ◌∙◌, ◌∷◌, ◌≡◌, rules, sym}
use Rattle.krs_links.specs.Indexed.{linked}
use Rattle.krs_links.proofs.{LinksLemmas.linked_last, PlacesLemmas.{AreLists-last_other, AreLists-last_ring}}
use Rattle.krs_links.proofs.lists.append.Goals as goal
use Rattle.std.proofs.Common.{arith}
use Rattle.std.proofs.lemmas.Grind.{common_steps}

pub returns-then-not-is-clause-links : goal.returns-then-not-is-clause-links
returns-then-not-is-clause-links c = grind (arith, common_steps, linked_last)

pub returns-then-not-is-clause-found : goal.returns-then-not-is-clause-found
returns-then-not-is-clause-found c =
    let links = linked c.args.index.now in
    let other = rw c.kind.ensures at (sym c.is.ensures ∙ c.if-not-is.true) in
    record {
      lists = AreLists-last_other c.args.name c.args.serial links c.args.rings.now.items _
          c.requires.found.lists c.requires.room c.requires.none other c.in_ok-push.ensures.ok;
      indexed = c.in_ok-push.ensures.indexed;
    }

pub returns-clause-links : goal.returns-clause-links
returns-clause-links c = grind (arith, common_steps, linked_last)

pub returns-clause-found : goal.returns-clause-found
returns-clause-found c =
    let links = linked c.args.index.now in
    let ring = rw c.kind.ensures at (sym c.is.ensures ∙ c.if-not-is.false) in
    let pushed : c.push-3.new.self.items ≡ c.args.rings.now.items ++ c.args.serial ∷ [] = search rules in
    record {
      lists = AreLists-last_ring c.args.name c.args.serial links c.args.rings.now.items _ _
          c.requires.found.lists c.requires.room c.requires.none ring c.in_ok-push-2.ensures.ok pushed;
      indexed = c.in_ok-push-2.ensures.indexed;
    }
