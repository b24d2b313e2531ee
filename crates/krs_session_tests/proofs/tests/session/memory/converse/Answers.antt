use Rattle.std.proofs.Common.{[], ◌++◌, ◌∷◌}
use Rattle.krs_session_tests.proofs.tests.session.memory.converse.Goals as goal

pub returns-clause-session : goal.returns-clause-session
returns-clause-session g c =
    let s = c.run-ended.ensures.session in (
      s.frames,
      s.events ++ s.last ∷ [],
      c.a_session_is_its_asks_and_leave.ensures c.args.seat.now c.run-ended.new.seat c.new-reader.result
          c.run-ended.new.reader c.new-writer.result c.run-ended.new.writer (record { at = 100 })
          c.run-ended.new.clock _ _
          c.run-ended.result s,
    )
