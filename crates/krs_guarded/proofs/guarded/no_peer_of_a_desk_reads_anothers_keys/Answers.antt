use Rattle.krs_guarded.proofs.Peers.{peers_act, peers_change, peers_read, peers_seen}
use Rattle.krs_guarded.proofs.guarded.no_peer_of_a_desk_reads_anothers_keys.Goals as goal

pub returns : goal.returns
returns c =
    let seat = c.args.seat.now in
    let one = c.has_seen_one_history.ensures in
    record {
      seen = peers_seen seat.opening one.0 seat.part.seen one.1;
      acts = peers_act seat.opening;
      reads = peers_read seat.opening;
      changes = peers_change seat.opening;
    }
