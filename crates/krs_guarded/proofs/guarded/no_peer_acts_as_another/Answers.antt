use Rattle.krs_guarded.proofs.Peers.{peers_act}
use Rattle.krs_guarded.proofs.guarded.no_peer_acts_as_another.Goals as goal

pub returns : goal.returns
returns c = peers_act
