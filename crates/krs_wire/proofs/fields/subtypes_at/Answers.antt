use Rattle.std.proofs.Common.{◌+◌, ◌-◌, ◌<◌, ◌∙◌, ◌≡◌, length, length-set, List, subst, sym, take, take_all, w32, ℕ}
use Rattle.std.proofs.lemmas.List.{take_more_set}
use Rattle.krs_wire.specs.{Field.{many_read, number}}
use Rattle.krs_wire.proofs.CountLemmas.{many_done, many_ends, many_on, with_front}
use Rattle.krs_wire.proofs.fields.subtypes_at.Goals as goal
use Rattle.std.proofs.Common.{arith}
use Rattle.std.proofs.lemmas.Grind.{common_steps}

pub loop-place-preserved : goal.loop-place-preserved
loop-place-preserved c =
    let words = c.loop-place.words in
    let place = c.loop-place.place in
    let lt : place < length words = rw c.loop-place.invariant.0 c.loop-place-test.true in
    let next =
    many_on (number w32) (take place words) 8 place c.loop-place.rest.now c.in-Ok.word c.in-Ok.after.now _
    c.loop-place-test.true c.in-Ok.ensures.read c.loop-place.invariant.1 in (
      length-set words place c.in-Ok.word ∙ c.loop-place.invariant.0,
      subst (λ (xs : List ℕ). with_front xs (many_read (number w32) (8 - (place + 1)) c.in-Ok.after.now)
          ≡ many_read (number w32) 8 c.args.bytes.now) (sym (take_more_set words place c.in-Ok.word lt)) next,
    )

pub returns : goal.returns
returns c = grind (arith, common_steps, take_all, many_done, w32, with_front)

pub returns-in-Err : goal.returns-in-Err
returns-in-Err c =
    λ other. many_ends (number w32) (take c.loop-place.place c.loop-place.words) 8 c.loop-place.place
    c.loop-place.rest.now c.in-Err.fault _ c.loop-place-test.true (c.in-Err.ensures.read other) c.loop-place.invariant.1
