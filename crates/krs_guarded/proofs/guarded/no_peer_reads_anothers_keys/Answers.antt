use Rattle.krs_guarded.proofs.Peers.{peers_read}
use Rattle.krs_guarded.proofs.guarded.no_peer_reads_anothers_keys.Goals as goal

pub returns : goal.returns
returns c = peers_read
