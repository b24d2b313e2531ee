use Rattle.std.proofs.Common.{rules}
use Rattle.krs_desk.proofs.KeptTurns.{gives_back}
use Rattle.krs_desk.proofs.desk.Desk.give_back.Goals as goal

pub bring-requires-clause-held : goal.bring-requires-clause-held
bring-requires-clause-held c = (c.requires.kept (search rules)).holds

pub returns-clause-given : goal.returns-clause-given
returns-clause-given c =
    gives_back c.args.served.now c.args.token.now.me c.bring.new.token.me (search rules)
    (c.requires.kept (search rules))
    c.bring.ensures.brought
