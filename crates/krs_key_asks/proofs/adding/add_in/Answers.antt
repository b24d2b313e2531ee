use Rattle.std.proofs.Common.{◌∙◌, ap, Ok}
use Rattle.krs_model.proofs.Lookups.Laws.{made_in_ring}
use Rattle.krs_key_asks.specs.Places.{meant}
use Rattle.krs_key_asks.proofs.adding.add_in.Goals as goal

pub make-requires-clause-ring : goal.make-requires-clause-ring
make-requires-clause-ring c =
    made_in_ring c.args.tables.now c.in_ok-context.context.now _ _ c.in-Make.ring
    (c.in_ok-serial.ensures.place ∙ ap (λ p. Ok (meant p)) c.in-Make.is)
