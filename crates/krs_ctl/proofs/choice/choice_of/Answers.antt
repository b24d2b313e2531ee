use Rattle.std.proofs.Common.{map, refl, string_bytes}
use Rattle.clap.specs.Words.{fault_of}
use Rattle.krs_ctl.specs.CommandLine.{client}
use Rattle.krs_ctl.proofs.CommandLineLemmas.{leads_by_fault, leads_of_spelled}
use Rattle.krs_ctl.proofs.choice.choice_of.Goals as goal

pub returns-in-Ok : goal.returns-in-Ok
returns-in-Ok c =
    leads_of_spelled (map string_bytes c.args.words.now) c.in-Ok.choice c.in-Ok.ensures.spelled c.in-Ok.ensures.faults

pub returns-in-Err : goal.returns-in-Err
returns-in-Err c =
    let words = map string_bytes c.args.words.now in
    leads_by_fault (fault_of client words) c.in-Err.error c.told.result c.in-Err.ensures.faults
    c.told.ensures words refl
