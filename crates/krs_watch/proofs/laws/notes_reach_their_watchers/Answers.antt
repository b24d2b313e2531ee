use Rattle.krs_watch.proofs.WatchersLemmas.{reaches_watchers}
use Rattle.krs_watch.proofs.laws.notes_reach_their_watchers.Goals as goal

pub returns : goal.returns
returns c = reaches_watchers
