use Rattle.krs_guarded.proofs.Peers.{peers_change}
use Rattle.krs_guarded.proofs.guarded.no_peer_changes_anothers_keys.Goals as goal

pub returns : goal.returns
returns c = peers_change
