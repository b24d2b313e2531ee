use Rattle.std.proofs.Common.{refl}
use Rattle.krs_ctl.proofs.script.run_script_at.Goals as goal

pub returns-clause-ends : goal.returns-clause-ends
returns-clause-ends g c = record {
  last = c.run_by-status.new.client;
  ends = c.run_by-status.ensures.ends;
  left = refl;
}
