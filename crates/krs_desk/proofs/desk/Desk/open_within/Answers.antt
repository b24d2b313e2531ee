use Rattle.std.proofs.Common.{rules}
use Rattle.krs_desk.proofs.Words.{first_words}
use Rattle.krs_desk.proofs.desk.Desk.open_within.Goals as goal

pub lay-requires-clause-words : goal.lay-requires-clause-words
lay-requires-clause-words c = first_words c.args.lanes c.in-Ok.words.items (search rules)
