use Rattle.krs_serve.proofs.sessions.serve_one.Goals as goal

pub returns-clause-session : goal.returns-clause-session
returns-clause-session g c = c.serve_entry-seat.ensures.session.0
