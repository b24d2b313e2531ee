use Rattle.std.proofs.Common.{ap, rules}
use Rattle.krs_desk.specs.declared.slot.SlotValue.TheVariants.{Home}
use Rattle.krs_desk.proofs.Seats.{front}
use Rattle.krs_desk.proofs.desk.Desk.fetch.Goals as goal

pub exchange-requires : goal.exchange-requires
exchange-requires c =
    let had = c.take-turn.ensures.had c.if-turn-ne-FREE.false in
    (search rules, (Home had.last, front (ap (λ m. m.1) had.has)))
