use Rattle.std.proofs.Common.{◌∙◌, ap}
use Rattle.krs_model.specs.Table.{at}
use Rattle.krs_keys.specs.Places.{by_place}
use Rattle.krs_keys.proofs.key_table.KeyTable.get.Goals as goal

pub returns : goal.returns
returns c =
    c.get.ensures
    ∙ (ap (at (by_place c.self.inside.keys)) c.number.ensures ∙ ap (λ t. at t.keys c.args.serial) c.self.view_is)
