use Rattle.std.proofs.Common.{◌∙◌}
use Rattle.krs_tables.proofs.{MadeKeyrings.{alone_accepted, alone_done, has_place}, Wanting.wanting_as}
use Rattle.krs_tables.proofs.tables.Tables.make_alone.Goals as goal

pub make_ring-requires-clause-place : goal.make_ring-requires-clause-place
make_ring-requires-clause-place c =
    has_place c.args.special c.args.self.now c.args.client c.args.number c.in_ok-context_of.field-0.now
    c.of-maker.result c.requires.sound c.in_ok-context_of.ensures c.of-maker.ensures c.requires.missing

pub returns : goal.returns
returns c =
    alone_done c.args.special c.args.self.now c.make_ring.new.self c.args.client c.args.number c.number.result
    c.in_ok-context_of.field-0.now c.of-maker.result c.in_ok-context_of.ensures c.of-maker.ensures
    c.in_ok-check_serial.ensures.ok c.in_ok-ring.ensures.ok (c.number.ensures ∙ c.in_ok-ring.ensures.serial)

pub returns-in_err-ring : goal.returns-in_err-ring
returns-in_err-ring c =
    wanting_as _ _ _ _ c.from_residual-in_err-ring.ensures.1
    (alone_accepted c.args.special c.args.self.now c.args.client c.args.number c.in_ok-context_of.field-0.now
    c.in_ok-context_of.ensures c.in_ok-check_serial.ensures.ok)
    c.in_err-ring.ensures.err
