use Rattle.krs_ring_asks.proofs.Detaching.{takes_same}
use Rattle.krs_ring_asks.proofs.invalidating.unlink_in.Goals as goal

pub returns-in-Some : goal.returns-in-Some
returns-in-Some c = takes_same _ _ c.take_link.result c.in-Some.ring c.args.serial c.take_link.ensures
