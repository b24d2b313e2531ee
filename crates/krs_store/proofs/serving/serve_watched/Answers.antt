use Rattle.krs_store.proofs.Noting.{ran_told}
use Rattle.krs_store.proofs.serving.serve_watched.Goals as goal

pub returns-in-Ok-clause-told : goal.returns-in-Ok-clause-told
returns-in-Ok-clause-told c =
    ran_told c.args.tables.now c.run.new.tables c.tell.new.tables c.args.client c.args.ask.context c.args.ask.op
    c.in-Ok.answer c.foretell-tellings.result c.in-Ok.ensures.step c.foretell-tellings.ensures c.tell.ensures
