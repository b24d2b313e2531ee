use Rattle.std.proofs.Common.{ap}
use Rattle.krs_desk.specs.Seated.{Me}
use Rattle.krs_desk.proofs.{Helps.{behind, served_behind}, Seats.front}
use Rattle.krs_desk.proofs.desk.Desk.serve_behind.Goals as goal

pub serve-reply-requires-clause-has : goal.serve-reply-requires-clause-has
serve-reply-requires-clause-has c =
    let b = c.requires.behind in
    (b.1, front (ap (λ (k : Me). k.1) (behind c.args.token.now.me _ b.0 b.1 b.2 c.turn.ensures.2)))

pub returns-clause-served : goal.returns-clause-served
returns-clause-served c =
    served_behind c.args.idle c.args.token.now.me c.turn.new.self.me c.serve-reply.new.token.me
    c.turn_back.new.token.me _
    c.requires.hand c.turn.ensures.2 c.serve-reply.ensures.served c.turn_back.ensures.turned
