use Rattle.std.proofs.{Common.{◌∙◌, ap}, lemmas.Result.IfOk-weaker}
use Rattle.krs_model.specs.State.{starting_at, State}
use Rattle.krs_desk.specs.Sitting.{fresh_seats}
use Rattle.krs_serve.proofs.DaemonLemmas.{all_opened, all_unasked}
use Rattle.krs_serve.proofs.connection.new_desk.Goals as goal

pub returns-clause-empty : goal.returns-clause-empty
returns-clause-empty g =
    let lanes = g.args.options.now.lanes in
    IfOk-weaker g.open.result _ _
    (λ d h. all_opened d.0 (starting_at 3) lanes d.1.items
    (h ∙ ap (λ (a : State). fresh_seats d.0 a lanes) g.seeded.ensures)) g.open.ensures.seats

pub returns-clause-unasked : goal.returns-clause-unasked
returns-clause-unasked g =
    IfOk-weaker g.open.result _ _
    (λ d h. all_unasked d.0 (starting_at 3) g.args.options.now.lanes d.1.items
    (h ∙ ap (λ (a : State). fresh_seats d.0 a g.args.options.now.lanes) g.seeded.ensures)) g.open.ensures.seats
