use Rattle.krs_model.proofs.Notes.Posts.{at_post_all}
use Rattle.krs_watch.proofs.laws.posts_reach_their_queues.Goals as goal

pub returns : goal.returns
returns c = at_post_all
