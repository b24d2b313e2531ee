use Rattle.std.proofs.Common.{refl}
use Rattle.krs_serve.specs.Sessions.{entry}
use Rattle.krs_serve.proofs.entry.serve_entry.Goals as goal

pub returns-clause-session : goal.returns-clause-session
returns-clause-session g c = (
  record {
    last = entry c.run-ended.new.reader c.run-ended.new.writer c.run-ended.new.clock;
    session = c.run-ended.ensures.session;
    count = c.run-ended.ensures.count;
    bounded = c.run-ended.ensures.bounded;
    not_wire = c.run-ended.ensures.not_wire;
  },
  refl,
  refl,
  refl,
)
