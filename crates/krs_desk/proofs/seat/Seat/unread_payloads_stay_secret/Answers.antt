use Rattle.std.proofs.Common.{subst}
use Rattle.krs_model.proofs.Hiding.Clients.{tells_no_unread}
use Rattle.krs_model.proofs.Hiding.{Gone.tells_nobody, Others.has_others, Told.tells_by_reads_alone}
use Rattle.krs_desk.specs.{Seen.TellsNobodyAfter, Sitting.Sitting}
use Rattle.krs_desk.proofs.{KeptTurns.knows, Seen.told_to_nobody}
use Rattle.krs_desk.proofs.seat.Seat.unread_payloads_stay_secret.Goals as goal

pub returns-clause-alone : goal.returns-clause-alone
returns-clause-alone c = tells_by_reads_alone

pub returns-clause-unread : goal.returns-clause-unread
returns-clause-unread c = tells_no_unread

pub returns-clause-others : goal.returns-clause-others
returns-clause-others c = has_others

pub returns-clause-gone : goal.returns-clause-gone
returns-clause-gone c = tells_nobody

pub returns-clause-ended : goal.returns-clause-ended
returns-clause-ended c = subst (λ (s : Sitting). TellsNobodyAfter s.opening) c.self.view_is
    (told_to_nobody _ (knows _ _ _ _ c.self.invariant.0).sound.unused)
