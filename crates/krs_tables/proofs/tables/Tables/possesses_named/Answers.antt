use Rattle.std.proofs.Common.{◌≡◌, Some, subst, sym}
use Rattle.krs_model.specs.State.{State}
use Rattle.krs_tables.specs.Linked.{name_in}
use Rattle.krs_tables.proofs.Links.{name_kept}
use Rattle.krs_tables.proofs.tables.Tables.possesses_named.Goals as goal

pub possesses_hinted-requires-clause-name : goal.possesses_hinted-requires-clause-name
possesses_hinted-requires-clause-name c =
    name_kept c.self.inside c.args.serial c.args.name.now
    (subst (λ (t : State). name_in t c.args.serial ≡ Some c.args.name.now) (sym c.self.view_is) c.requires)

pub possesses_unhinted-requires-clause-name : goal.possesses_unhinted-requires-clause-name
possesses_unhinted-requires-clause-name c =
    name_kept c.self.inside c.args.serial c.args.name.now
    (subst (λ (t : State). name_in t c.args.serial ≡ Some c.args.name.now) (sym c.self.view_is) c.requires)
