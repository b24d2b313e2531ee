use Rattle.std.proofs.Common.{[], ◌++◌, ◌+◌, ◌-◌, ◌∷◌, ◌≡◌, ap, arith, List, rules, subst, sym}
use Rattle.krs_types.specs.declared.note.FilterEntry.{FilterEntry}
use Rattle.krs_wire.specs.{Bodies.entry_field, Faulting.or_bad_body, Field.many_read}
use Rattle.krs_wire.proofs.{CountLemmas.{many_done, many_ends, many_on, with_front}, SizeLemmas.{entry_long, too_many}}
use Rattle.krs_wire.proofs.fields.so_many_entries_at.Goals as goal
use Rattle.std.proofs.lemmas.Grind.{common_steps}

pub loop-preserved : goal.loop-preserved
loop-preserved c =
    let next = many_on entry_field c.loop.entries.items c.args.count c.loop.counter c.loop.rest.now c.in-Ok.entry
    c.in-Ok.after.now _ c.loop-test.true c.in-Ok.ensures c.loop.invariant in
    let pushed : c.push.new.self.items ≡ c.loop.entries.items ++ c.in-Ok.entry ∷ [] = search rules in
    subst (λ (xs : List FilterEntry).
    with_front xs (many_read entry_field (c.args.count - (c.loop.counter + 1)) c.in-Ok.after.now)
    ≡ many_read entry_field c.args.count c.args.bytes.now) (sym pushed) next

pub returns-clause-read : goal.returns-clause-read
returns-clause-read c = grind (arith, common_steps, many_done)

pub returns-in-Err-clause-read : goal.returns-in-Err-clause-read
returns-in-Err-clause-read c = λ other.
    many_ends entry_field c.loop.entries.items c.args.count c.loop.counter c.loop.rest.now c.in-Err.fault _
    c.loop-test.true (c.in-Err.ensures other) c.loop.invariant

pub returns-then-bytes-count-clause-read : goal.returns-then-bytes-count-clause-read
returns-then-bytes-count-clause-read c = λ other.
    ap (λ o. or_bad_body o) (too_many entry_field 44 entry_long c.args.count c.args.bytes.now
    (omega (arith, c.if-bytes-count.true)))
