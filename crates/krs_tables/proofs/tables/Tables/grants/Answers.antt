-- What is granted without possession.
use Rattle.std.proofs.Common.{◌∙◌, ◌≡◌, ap, false, option_map, rules, sym, tests, true}
use Rattle.krs_types.specs.Rights.{allows}
use Rattle.krs_model.specs.{Access.rights_on, Asks.Linked.name_of, Possession.possessed}
use Rattle.krs_keys.specs.Keys.{seen}
use Rattle.krs_tables.proofs.Grants.{allows_more}
use Rattle.krs_tables.proofs.tables.Tables.grants.Goals as goal

pub returns-then-allows : goal.returns-then-allows
returns-then-allows c =
    let granted : allows c.args.want (rights_on (seen c.args.key.now) c.args.context.now.caller false) false ≡ true =
    ap (λ n. allows c.args.want n false) (sym c.grants.ensures) ∙ sym c.if-allows.ensures in
    sym (allows_more c.args.want (seen c.args.key.now) c.args.context.now.caller
    (possessed c.args.self.now c.args.context.now c.args.serial) granted)

pub possesses_named-possessed-requires : goal.possesses_named-possessed-requires
possesses_named-possessed-requires c = ap (option_map name_of) c.requires

pub returns : goal.returns
returns c = search (rules, tests)
