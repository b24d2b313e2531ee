use Rattle.std.proofs.Common.{◌∙◌, subst, sym}
use Rattle.krs_types.specs.declared.fault.Fault.{Fault}
use Rattle.krs_model.specs.{Outcome.Fails, Sound.IsSound, State.State, Step.{outcome_of, Serves, Step}}
use Rattle.krs_model.proofs.{Asks.Refusals.refusal_is_no_memory, Sound.Steps.raised_sound}
use Rattle.krs_tables.proofs.{PostsAndSweep.{applied_sound, serves_in_turn, told_acyclic}, WatchedKeys.told_live}
use Rattle.krs_key_asks.specs.Taking.{answer_of}
use Rattle.krs_store.proofs.store.Store.apply_into.Goals as goal

pub invariant_of-self : goal.invariant_of-self
invariant_of-self g c =
    applied_sound c.args.moment c.self.invariant c.raise.ensures (serves_in_turn c.in-Ok.ensures.told c.sweep.ensures)

pub invariant_of-self-in-Err-Memory : goal.invariant_of-self-in-Err-Memory
invariant_of-self-in-Err-Memory g c =
    subst IsSound (sym (c.in-Err-Memory.ensures.told.1 ∙ c.raise.ensures))
    (raised_sound c.self.inside.tables c.args.moment c.self.invariant)

pub invariant_of-self-in-Err-Refused : goal.invariant_of-self-in-Err-Refused
invariant_of-self-in-Err-Refused g c =
    subst IsSound (sym (c.in-Err-Refused.ensures.told.1 ∙ c.raise.ensures))
    (raised_sound c.self.inside.tables c.args.moment c.self.invariant)

pub sweep-requires : goal.sweep-requires
sweep-requires g c = record {
  acyclic = told_acyclic c.args.moment c.self.invariant c.raise.ensures c.in-Ok.ensures.told;
  live = told_live c.args.moment c.self.invariant c.raise.ensures c.in-Ok.ensures.told;
}

pub serve_into-requires : goal.serve_into-requires
serve_into-requires g c = record {
  sound = subst IsSound (sym c.raise.ensures) (raised_sound c.self.inside.tables c.args.moment c.self.invariant);
}

pub returns-in-Ok-clause-step : goal.returns-in-Ok-clause-step
unfolding Step
returns-in-Ok-clause-step g c =
    rw c.accepted.ensures.reply
    (rw (← c.self.view_is)
    (subst (λ (s : State). Serves s c.args.client c.args.ask.context c.args.ask.op
    (answer_of c.in-Ok.given) c.sweep.new.self)
    c.raise.ensures (serves_in_turn c.in-Ok.ensures.told c.sweep.ensures)))

pub returns-in-Err-Refused-clause-memory : goal.returns-in-Err-Refused-clause-memory
returns-in-Err-Refused-clause-memory g c = λ _.
    refusal_is_no_memory c.raise.new.self c.args.client c.args.ask.context c.args.ask.op c.in-Err-Refused.errno
    (subst (λ (f : Fault). Fails f (outcome_of c.raise.new.self c.args.client c.args.ask.context c.args.ask.op))
    c.in-Err-Refused.field-0-is c.in-Err-Refused.ensures.told.0)
