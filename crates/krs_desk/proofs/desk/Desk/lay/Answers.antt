use Rattle.krs_desk.proofs.Dealing.{begins_at}
use Rattle.krs_desk.proofs.desk.Desk.lay.Goals as goal

pub new-requires : goal.new-requires
new-requires c =
    begins_at _ c.args.lanes c.args.words.items _ _ c.as_slice.ensures.value c.requires.slots c.requires.words.0
    c.requires.words.1 c.requires.words.2
