use Rattle.std.proofs.Common.{rules}
use Rattle.krs_desk.proofs.{Helps.{brought_is, brought_mine}, Serves.brings_at}
use Rattle.krs_desk.proofs.desk.Desk.bring_back.Goals as goal

pub compare_exchange-requires : goal.compare_exchange-requires
compare_exchange-requires c = (search rules, search rules, brings_at _ _ _ c.args.token.now.me c.requires.held)

pub returns-clause-brought : goal.returns-clause-brought
returns-clause-brought c =
    brought_is c.args.token.now.me c.compare_exchange.new.seat.me 0 c.requires.held c.compare_exchange.ensures.2

pub returns-clause-mine : goal.returns-clause-mine
returns-clause-mine c =
    brought_mine c.args.token.now.me c.compare_exchange.new.seat.me 0 c.requires.held c.compare_exchange.ensures.2
