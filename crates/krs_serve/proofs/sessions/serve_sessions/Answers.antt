use Rattle.std.proofs.{Common.{◌<◌, ◌≡◌, arith, length, zip}, lemmas.Slice.Zip.{get_or-zip, length-zip}}
use Rattle.krs_serve.specs.Sessions.{ServesEntry}
use Rattle.krs_serve.proofs.SessionsLemmas.{all_zip_at, as_many}
use Rattle.krs_serve.proofs.sessions.serve_sessions.Goals as goal

pub serve_jobs-requires-after_bounds : goal.serve_jobs-requires-after_bounds
serve_jobs-requires-after_bounds g c κs within = λ k d lt.
    let list = c.args.list.items in
    let seats = c.args.seats.items in
    let in_pairs : k < length (zip list seats) = rw c.in-Ok.ensures at lt in
    let same : length seats ≡ length list = omega (arith, c.requires.places, c.args.seats.ok.0, c.args.list.ok.0) in
    let in_list : k < length list = omega (arith, in_pairs, same, length-zip list seats) in
    let in_seats : k < length seats = omega (arith, in_list, same) in
    rw (c.in-Ok.ensures, get_or-zip list seats k d in_list in_seats) (
      c.requires.ready k d.1 in_seats,
      c.requires.room k d.0 in_list,
    )

pub returns-in-Ok-serve_jobs-clause-one_each : goal.returns-in-Ok-serve_jobs-clause-one_each
returns-in-Ok-serve_jobs-clause-one_each g c =
    let list = c.args.list in
    let seats = c.args.seats in
    let served = c.in-Ok-serve_jobs.served in
    let jobs = c.in-Ok.jobs in
    let same : length seats.items ≡ length list.items = omega (arith, c.requires.places, seats.ok.0, list.ok.0) in
    let each : length served.items ≡ length jobs.items =
    omega (arith, c.in-Ok-serve_jobs.ensures.len, served.ok.0, jobs.ok.0) in
    let all = as_many list.items seats.items served.items jobs.items c.in-Ok.ensures same each in
    omega (arith, all, served.ok.0, list.ok.0)

pub returns-in-Ok-serve_jobs-clause-in_order : goal.returns-in-Ok-serve_jobs-clause-in_order
returns-in-Ok-serve_jobs-clause-in_order g c =
    let served = c.in-Ok-serve_jobs.served in
    let jobs = c.in-Ok.jobs in
    let each : length served.items ≡ length jobs.items =
    omega (arith, c.in-Ok-serve_jobs.ensures.len, served.ok.0, jobs.ok.0) in
    let all = all_zip_at jobs.items served.items
    (λ job done. ServesEntry g.R.Source g.C.Clock g.W.Sink g.D.Keeper.leads g.D.Keeper.lane_of c.args.turns
    job.0 job.1 done.0 done.1) each
    (λ i d e lt. c.in-Ok-serve_jobs.ensures.each i d e (omega (arith, lt, jobs.ok.0))) in
    rw c.in-Ok.ensures at all

pub returns-in-Ok-serve_jobs-clause-ready : goal.returns-in-Ok-serve_jobs-clause-ready
returns-in-Ok-serve_jobs-clause-ready g c = λ k d lt.
    c.in-Ok-serve_jobs.ensures.ready k d
    (omega (arith, lt, c.in-Ok-serve_jobs.served.ok.0, c.in-Ok-serve_jobs.ensures.len))
