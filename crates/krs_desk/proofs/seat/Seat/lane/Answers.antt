use Rattle.krs_desk.proofs.KeptTurns.{lane_told}
use Rattle.krs_desk.proofs.seat.Seat.lane.Goals as goal

pub returns : goal.returns
returns c =
    let seat = c.self.inside in
    lane_told seat.token.table_id seat.lane seat.idle seat.served seat.token.me c.args.self.now c.self.invariant.0
    c.self.view_is
