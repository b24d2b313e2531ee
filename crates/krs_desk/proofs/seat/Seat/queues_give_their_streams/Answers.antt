use Rattle.std.proofs.Common.{subst}
use Rattle.krs_model.specs.Receiving.{GivesStreams}
use Rattle.krs_model.proofs.History.Streams.{gives_streams}
use Rattle.krs_desk.specs.{Seen.GivesItsStreams, Sitting.Sitting}
use Rattle.krs_desk.proofs.{KeptTurns.knows, Seen.gives_its_streams}
use Rattle.krs_desk.proofs.seat.Seat.queues_give_their_streams.Goals as goal

pub returns-clause-seen : goal.returns-clause-seen
returns-clause-seen c =
    let seated = knows _ _ _ _ c.self.invariant.0 in
    subst (λ (s : Sitting). GivesItsStreams s.opening s.part.seen) c.self.view_is
    (gives_its_streams _ seated.last _ seated.sound seated.legal)

pub returns-clause-always : goal.returns-clause-always
returns-clause-always c =
    subst (λ (s : Sitting). GivesStreams s.opening) c.self.view_is
    (gives_streams _ (knows _ _ _ _ c.self.invariant.0).sound)
