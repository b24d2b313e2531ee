use Rattle.std.proofs.Common.{rules}
use Rattle.krs_wire.proofs.replies.reply_at.Goals as goal

pub returns-in-None : goal.returns-in-None
returns-in-None c = search rules
