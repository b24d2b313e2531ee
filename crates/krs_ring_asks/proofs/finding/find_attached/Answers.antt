use Rattle.std.proofs.Common.{◌∙◌, ◌≡◌, ap, subst, sym}
use Rattle.krs_model.specs.{Outcome.Is, Possession.process_ring, Search.{requested, requested_with}, State.State}
use Rattle.krs_walk.proofs.FindingLemmas.{requested_is}
use Rattle.krs_tables.specs.View.{state_of}
use Rattle.krs_ring_asks.proofs.finding.find_attached.Goals as goal

pub returns : goal.returns
returns c =
    let s = state_of c.tables.inside in
    let x = c.args.context.now in
    let name = c.args.name.now in
    let ring : c.process_ring-ring.result ≡ process_ring s x.process =
    c.process_ring-ring.ensures ∙ ap (λ (t : State). process_ring t x.process) (sym c.tables.view_is) in
    let asked : requested_with s.keys s.clock x c.process_ring-ring.result name ≡ requested c.args.tables.now x name =
    ap (λ r. requested_with s.keys s.clock x r name) ring
    ∙ (requested_is s x name ∙ ap (λ (t : State). requested t x name) c.tables.view_is) in
    subst (Is (λ k. k) c.request.result) asked c.request.ensures
