use Rattle.std.proofs.{Common.{◌∙◌, ◌≡◌, ap, arith, length, map}, lemmas.List.length-map}
use Rattle.krs_serve.specs.Sessions.{ServesEntry}
use Rattle.krs_serve.proofs.SessionsLemmas.{each_second}
use Rattle.krs_serve.proofs.sessions.run_sessions.Goals as goal

pub returns-in-Ok-clause-one_each : goal.returns-in-Ok-clause-one_each
returns-in-Ok-clause-one_each g c =
    let served = c.in_ok-served.served in
    let ends = c.in-Ok.ends in
    let all : ends.items ≡ map (λ done. done.1) served.items =
    c.in-Ok.ensures ∙ ap (λ l. map (λ done. done.1) l) c.deref.ensures.value in
    let many : length ends.items ≡ length served.items = ap length all ∙ length-map served.items (λ done. done.1) in
    omega (arith, many, c.in_ok-served.ensures.one_each, ends.ok.0, served.ok.0)

-- each ended so, whatever it left of its seat
pub returns-in-Ok-clause-in_order : goal.returns-in-Ok-clause-in_order
returns-in-Ok-clause-in_order g c =
    rw (c.in-Ok.ensures, c.deref.ensures.value) (each_second
    (λ job done. ServesEntry g.R.Source g.C.Clock g.W.Sink g.D.Keeper.leads g.D.Keeper.lane_of c.args.turns
    job.0 job.1 done.0 done.1)
    (λ job ended. (last_seat : _) × ServesEntry g.R.Source g.C.Clock g.W.Sink g.D.Keeper.leads g.D.Keeper.lane_of
    c.args.turns job.0 job.1 last_seat ended)
    (λ job done one. (done.0, one)) _ c.in_ok-served.served.items
    c.in_ok-served.ensures.in_order)
