use Rattle.std.proofs.Common.{refl}
use Rattle.krs_session.proofs.connection.Connection.told_behind.Goals as goal

pub returns-in-Taken-clause-writes : goal.returns-in-Taken-clause-writes
returns-in-Taken-clause-writes g c =
    record { led = g.met.D.Keeper.starts _; clock = refl; reads = (refl, refl) }
