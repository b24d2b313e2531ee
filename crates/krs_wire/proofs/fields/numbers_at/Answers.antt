use Rattle.std.proofs.Common.{[], ◌++◌, ◌+◌, ◌-◌, ◌∷◌, ◌≡◌, ap, arith, List, rules, subst, sym, w32, ℕ}
use Rattle.krs_wire.specs.{Faulting.or_bad_body, Field.{many_read, number}}
use Rattle.krs_wire.proofs.{CountLemmas.{many_done, many_ends, many_on, with_front}, SizeLemmas.{number_long, too_many}}
use Rattle.krs_wire.proofs.fields.numbers_at.Goals as goal
use Rattle.std.proofs.lemmas.Grind.{common_steps}

pub loop-preserved : goal.loop-preserved
loop-preserved c =
    let next =
    many_on (number w32) c.loop.numbers.items c.args.count c.loop.counter c.loop.rest.now c.in-Ok.number
    c.in-Ok.after.now _ c.loop-test.true c.in-Ok.ensures.read c.loop.invariant in
    let pushed : c.push.new.self.items ≡ c.loop.numbers.items ++ c.in-Ok.number ∷ [] = search rules in
    subst (λ (xs : List ℕ). with_front xs (many_read (number w32) (c.args.count - (c.loop.counter + 1))
    c.in-Ok.after.now) ≡ many_read (number w32) c.args.count c.args.bytes.now) (sym pushed) next

pub returns-clause-read : goal.returns-clause-read
returns-clause-read c = grind (arith, common_steps, many_done, w32)

pub returns-in-Err-clause-read : goal.returns-in-Err-clause-read
returns-in-Err-clause-read c =
    λ other. many_ends (number w32) c.loop.numbers.items c.args.count c.loop.counter c.loop.rest.now c.in-Err.fault _
    c.loop-test.true (c.in-Err.ensures.read other) c.loop.invariant

pub returns-then-bytes-count-clause-read : goal.returns-then-bytes-count-clause-read
returns-then-bytes-count-clause-read c = λ other.
    ap (λ o. or_bad_body o) (too_many (number w32) 4 number_long c.args.count c.args.bytes.now
    (omega (arith, c.if-bytes-count.true)))
