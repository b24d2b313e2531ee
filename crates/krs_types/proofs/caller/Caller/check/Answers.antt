use Rattle.std.proofs.Common.{rules}
use Rattle.krs_types.proofs.caller.Caller.check.Goals as goal

pub returns-then-groups-gt-MAX_GROUPS : goal.returns-then-groups-gt-MAX_GROUPS
returns-then-groups-gt-MAX_GROUPS c = search rules

pub returns : goal.returns
returns c = search rules
