use Rattle.krs_desk.proofs.KeptTurns.{busy_told, idle_told}
use Rattle.krs_desk.proofs.seat.Seat.is_idle.Goals as goal

pub returns-clause-idle : goal.returns-clause-idle
returns-clause-idle c =
    let seat = c.self.inside in
    idle_told seat.token.table_id seat.lane seat.idle seat.served seat.token.me c.args.self.now c.self.invariant.0
    c.self.view_is

pub returns-clause-busy : goal.returns-clause-busy
returns-clause-busy c =
    let seat = c.self.inside in
    busy_told seat.token.table_id seat.lane seat.idle seat.served seat.token.me c.args.self.now c.self.invariant.0
    c.self.view_is
