use Rattle.std.proofs.Common.{◌++◌, arith, length, w32}
use Rattle.std.specs.Int.{to_le_bytes}
use Rattle.krs_wire.specs.Bodies.{entry_field}
use Rattle.krs_wire.proofs.{CountLemmas.length_entries, PutLemmas.{fit_one, then_one}}
use Rattle.krs_wire.proofs.put.put_entries.Goals as goal
use Rattle.std.proofs.lemmas.Grind.{common_steps}

pub loop-line-preserved : goal.loop-line-preserved
loop-line-preserved c =
    let lines = c.as_slice-lines.result.now in
    let i = c.loop-line.line-index in
    let front = c.args.out.now.items ++ to_le_bytes w32 (length lines) in
    record {
      written = then_one entry_field lines i _ c.loop-line-test.true front c.loop-line.out.items
          c.put_entry.new.out.items c.loop-line.invariant.written c.in_ok-put_entry.ensures.ok;
      fits = fit_one entry_field lines i _ c.loop-line-test.true c.loop-line.invariant.fits
          c.in_ok-put_entry.ensures.fits;
    }

pub returns-then-lines-gt-MAX_LENGTH-clause-long : goal.returns-then-lines-gt-MAX_LENGTH-clause-long
returns-then-lines-gt-MAX_LENGTH-clause-long c = grind (arith, common_steps, length_entries)
