use Rattle.std.proofs.Common.{◌∙◌, ◌≡◌, ap, ok_or, sym}
use Rattle.krs_types.specs.declared.errno.Errno.TheVariants.{ENOENT}
use Rattle.krs_links.specs.{Indexed.linked, Links.serial_named}
use Rattle.krs_links.proofs.{LinksLemmas.unlinked_none, PlacesLemmas.{linked_as_at, serial_at_named, unlinked_at}}
use Rattle.krs_links.proofs.table.LinkTable.remove.Goals.{After-ok_or}
use Rattle.krs_links.proofs.table.LinkTable.remove.Goals as goal
use Rattle.std.proofs.Common.{arith}
use Rattle.std.proofs.lemmas.Grind.{common_steps}

pub returns-in_default-clause-links : goal.returns-in_default-clause-links
returns-in_default-clause-links c = grind (arith, common_steps, unlinked_none)

-- the serial at the place of the name is the one that is linked under it
named : (c : After-ok_or) → c.remove_at.result ≡ serial_named c.args.self.now c.args.name.now
named c = grind (arith, common_steps, serial_at_named)

pub returns-clause-value : goal.returns-clause-value
returns-clause-value c = c.ok_or.ensures.value ∙ ap (λ found. ok_or found ENOENT) (named c)

pub returns-clause-links : goal.returns-clause-links
returns-clause-links c = grind (arith, common_steps, unlinked_at)

pub returns-clause-err : goal.returns-clause-err
returns-clause-err c =
    rw (
      c.ok_or.ensures.value,
      c.remove_at.ensures.removed,
      serial_at_named c.args.name.now (linked c.self.inside.entries) c.in-Some.place (sym c.in-Some.ensures.place),
      linked_as_at c.args.name.now (linked c.self.inside.entries) c.in-Some.place (c.args.name.now, 0)
          (sym c.in-Some.ensures.place),
    ) tt
