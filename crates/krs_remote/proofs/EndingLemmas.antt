-- Whole scripts over a connection.
use Rattle.std.proofs.Common.{◌≡◌, List, Option, ℕ}
use Rattle.krs_script.specs.Running.{Ends}
use Rattle.krs_remote.specs.Remote.{Acts, Breaks, EndsRemote, Talk, talk_on}

-- a script that was run from the first ask on
pub ends_remote : (input c v sent0 sent1 left : Option (List ℕ)) (start last : Talk) (status : ℕ)
    → start ≡ talk_on sent0 left → Ends Acts Breaks input c v start last last.refused status → last.sent ≡ sent1
    → EndsRemote input c v sent0 sent1 left status
ends_remote input c v sent0 sent1 left start last status is ends sent = (last, rw is at ends, sent)
