use Rattle.std.proofs.Common.{◌∙◌, ap, arith, is_some, sym}
use Rattle.krs_keys.specs.Hashed.{by_serial}
use Rattle.krs_keys.proofs.HashedLemmas.{at_by_serial, by_serial_put}
use Rattle.krs_hold.specs.Tally.{with_number}
use Rattle.krs_hold.proofs.Numbers.{chain_made, no_number, number_made, number_stays}
use Rattle.krs_hold.proofs.holders.Holders.made.Goals as goal
use Rattle.std.proofs.lemmas.Grind.{common_steps}

pub returns-then-contains_key-clause-ok : goal.returns-then-contains_key-clause-ok
returns-then-contains_key-clause-ok c = grind (arith, common_steps, is_some, at_by_serial, number_stays)

pub invariant_of-self : goal.invariant_of-self
invariant_of-self c =
    let es = c.self.inside.counts.entries in
    let absent = ap is_some (at_by_serial es c.number-serial.result)
    ∙ (sym c.contains_key.ensures ∙ c.if-contains_key.false) in
    chain_made (by_serial es) _ c.self.inside.first _ absent (by_serial_put es _ _ _ c.in-Ok.ensures.updates.0)
    c.self.invariant

pub returns-in-Ok-clause-ok : goal.returns-in-Ok-clause-ok
returns-in-Ok-clause-ok c =
    let es = c.self.inside.counts.entries in
    let absent = ap is_some (at_by_serial es c.number-serial.result)
    ∙ (sym c.contains_key.ensures ∙ c.if-contains_key.false) in
    number_made (by_serial es) _ c.self.inside.first _ _ c.self.view_is absent
    (by_serial_put es _ _ _ c.in-Ok.ensures.updates.0)
    ∙ ap (λ k. with_number k c.args.self.now) c.number-serial.ensures

pub returns-in-Err-clause-there : goal.returns-in-Err-clause-there
returns-in-Err-clause-there c = grind (arith, common_steps, is_some, at_by_serial, no_number)
