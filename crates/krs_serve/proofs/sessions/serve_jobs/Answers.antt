use Rattle.std.proofs.{Common.{◌<◌, arith, length, rules, slice_index_or}, lemmas.Result.IfOk-weaker}
use Rattle.krs_serve.specs.Sessions.{ServesEntry}
use Rattle.krs_serve.proofs.sessions.serve_jobs.Goals as goal

pub returns-clause-each : goal.returns-clause-each
returns-clause-each g c =
    IfOk-weaker c.map_vec.result _ _ (λ served h i d e lt.
    let long : i < length c.args.jobs.items = omega (arith, lt, c.args.jobs.ok.0) in
    let one = (h i e long).1 in
    let r = slice_index_or served.items i e in
    let done : ServesEntry g.R.Source g.C.Clock g.W.Sink g.D.Keeper.leads g.D.Keeper.lane_of c.args.turns one.job.0
    one.job.1 r.0 r.1 = (let met = one.call.met in search rules) in
    rw (one.job_is d) done) c.map_vec.ensures.each

pub returns-clause-ready : goal.returns-clause-ready
returns-clause-ready g c =
    IfOk-weaker c.map_vec.result _ _ (λ served h i e lt.
    let long : i < length c.args.jobs.items = omega (arith, lt, c.args.jobs.ok.0) in
    let one = (h i e long).1 in
    let met = one.call.met in
    search rules) c.map_vec.ensures.each
