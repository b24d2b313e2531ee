use Rattle.std.proofs.Common.{rules}
use Rattle.krs_desk.proofs.Joining.{checks_at}
use Rattle.krs_desk.proofs.meeting.check.Goals as goal

pub load-requires : goal.load-requires
load-requires g c = (
  search rules,
  search rules,
  rw c.requires.key (checks_at c.args.board.now.key _ _ c.args.token.now.me c.requires.rests.0),
)
