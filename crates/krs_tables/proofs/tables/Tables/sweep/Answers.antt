use Rattle.std.proofs.Common.{◌≡◌, subst, sym}
use Rattle.krs_hold.specs.Told.{tells}
use Rattle.krs_model.specs.{Reach.{IsAcyclic, links_of_key_at}, State.State, Sweep.{live_watches, roots}}
use Rattle.krs_tables.specs.View.{state_of}
use Rattle.krs_tables.proofs.Definitions.{IsSweptTable, sweep_told}
use Rattle.krs_tables.proofs.Removals.{dropped_told, sweeps_dropped}
use Rattle.krs_tables.proofs.tables.Tables.sweep.Goals.{After-sweep}
use Rattle.krs_tables.proofs.tables.Tables.sweep.Goals as goal

-- what a sweep leaves of the keys
told : (c : After-sweep) → IsSweptTable c.self.inside c.sweep-told.new.keys.keys
told c = let s = c.self.inside in
    sweep_told s c.sweep-told.new.keys.keys c.self.invariant
    (c.sweep-told.ensures.swept (roots (state_of s)) c.self.invariant.tallied
    (subst (λ (t : State). IsAcyclic (links_of_key_at t.keys)) (sym c.self.view_is) c.requires.acyclic))

pub sweep-requires : goal.sweep-requires
sweep-requires c =
    dropped_told (tells c.sweep-told.result) c.self.inside.keys.keys c.sweep-told.new.keys.keys
    c.self.inside.queues.watches c.sweep-told.ensures.watched
    (subst (λ (t : State). live_watches t.keys t.watches ≡ t.watches) (sym c.self.view_is) c.requires.live)

pub invariant_of-self : goal.invariant_of-self
invariant_of-self c = let told = told (goal.at.invariant_of-self c).After-sweep in record {
  fit = told.fit;
  kinds = told.kinds;
  tallied = c.sweep-told.ensures.exact (roots (state_of c.self.inside)) c.self.invariant.tallied;
}

pub returns : goal.returns
returns c =
    rw (← c.self.view_is, c.sweep-told.ensures.next)
    (sweeps_dropped c.self.inside c.sweep-told.new.keys.keys c.sweep.new.self
    (told (goal.at.returns c).After-sweep) c.sweep.ensures)
