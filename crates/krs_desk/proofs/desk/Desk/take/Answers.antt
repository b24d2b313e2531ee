use Rattle.std.proofs.Common.{rules}
use Rattle.krs_desk.proofs.TurnSteps.{takes_at}
use Rattle.krs_desk.proofs.desk.Desk.take.Goals as goal

pub compare_exchange-requires : goal.compare_exchange-requires
compare_exchange-requires c = (
  search rules,
  search rules,
  takes_at c.self.inside.table.key _ _ c.args.token.now.me c.requires.rests.0 c.requires.rests.1,
)
