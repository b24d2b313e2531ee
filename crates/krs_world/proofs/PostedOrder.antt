-- A posted call stands behind all that its seat had seen as it was posted.
use Rattle.std.proofs.Common.{◌∙◌, ◌≡◌, ap, append_assoc, arith, List, refl, subst, sym, ℕ}
use lib.ListN.{get_elem?}
use mathlib.Core.Option.{some}
use Rattle.krs_types.specs.declared.event.Event.{Event}
use Rattle.krs_model.specs.{History.event_of, Lists.Begins}
use Rattle.krs_world.specs.{History.{Fits, StandsAfter}, Knowing.{collected, one}, Order.KeepsPostedOrder}
use Rattle.krs_world.specs.World.{begun, cell_of, IsOneHistory, World}
use Rattle.krs_world.specs.declared.{step.Kind.TheVariants.Collect, view.{Cell.TheVariants.Answered, Part.Part}}
use Rattle.krs_world.proofs.{Beginning.begins_world, Keeping.{prefix_trans, set_at}, Orders.{log_grows, runs_grow}}
use Rattle.krs_world.proofs.Worlds.{cell_at, get_map, history_is, runs_keep, step_as}
use Rattle.std.proofs.lemmas.Grind.{common_steps}

-- what stands behind a list goes on to stand behind it where the history grows
stands_on : (had : List Event) (e : Event) (log later : List Event)
    → StandsAfter had e log → Begins log later → StandsAfter had e later
stands_on had e log later s b = grind (arith, common_steps, append_assoc)

pub posted_order : KeepsPostedOrder
posted_order opening lanes before after mid next end lane p size log first at step second history =
    let o : IsOneHistory mid = runs_keep (begun opening lanes) before mid (begins_world opening lanes) first in
    let then_one : IsOneHistory next = step_as mid lane p (Collect size) next o at step in
    let last : IsOneHistory end = runs_keep next after end then_one second in
    let h = step.0 in
    let e : Event = event_of lane h.moment h.ask h.reply in
    let q : Part = collected p h.seen e in
    let here : get_elem? next.seats lane ≡ some q =
    subst (λ (z : World). get_elem? z.seats lane ≡ some q) (sym step.1) (set_at mid.seats lane q p at) in
    let known = o.history.each lane (one mid.opening p) (get_map (one mid.opening) mid.seats lane p at) in
    let number : p.lane ≡ lane = o.lanes lane p at in
    let cell : cell_of mid.cells p.lane ≡ Answered h.moment h.ask h.reply =
    ap (cell_of mid.cells) number ∙ cell_at mid.cells lane (Answered h.moment h.ask h.reply) h.cell in
    let fits : Fits o.history.log p (Answered h.moment h.ask h.reply) = subst (Fits o.history.log p) cell known.fits in
    let whole : log ≡ last.history.log =
    history_is end.opening (cell_of end.cells) end.seats end.turn last.history log history in
    let grown : Begins o.history.log log = subst (Begins o.history.log) (sym whole)
    (prefix_trans o.history.log then_one.history.log last.history.log
    (log_grows mid lane p (Collect size) next o then_one at step) (runs_grow next after end then_one last second)) in
    let stands : StandsAfter fits.0 e o.history.log =
    subst (λ (n : ℕ). StandsAfter fits.0 (event_of n h.moment h.ask h.reply) o.history.log) number fits.3 in
    (h.moment, h.ask, fits.0, h.reply, q, fits.1, here, refl, stands_on fits.0 e o.history.log log stands grown)
