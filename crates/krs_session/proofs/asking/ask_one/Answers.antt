use Rattle.std.proofs.Common.{refl}
use Rattle.krs_model.specs.History.{event_of}
use Rattle.krs_session.proofs.asking.ask_one.Goals as goal

pub returns-clause-asked : goal.returns-clause-asked
returns-clause-asked g c = (
  event_of (g.D.Keeper.lane_of c.args.seat.now) c.now-moment.result c.args.ask c.call-reply.result,
  refl,
  refl,
  record { led = c.call-reply.ensures.led; moments = c.now-moment.ensures.ticked; lanes = (refl, tt) },
)

pub returns-clause-anew : goal.returns-clause-anew
returns-clause-anew g c = (c.now-moment.result, c.now-moment.new.self, c.now-moment.ensures.anew)
