use Rattle.std.proofs.Common.{◌<◌, ◌≡◌, arith, IfSome, length}
use Rattle.std.specs.Io.{BufRead.take_through, Buffered.reader_remaining}
use Rattle.krs_words.proofs.LinesLemmas.{ReadsLines-first}
use Rattle.krs_words.proofs.lines.read_line.Goals as goal

pub returns-in-Ok-clause-found : goal.returns-in-Ok-clause-found
returns-in-Ok-clause-found g c =
    let held : IfSome (reader_remaining g.R.Read.remaining c.args.reader.now)
    (λ bytes. c.read_until.new.buf.items ≡ take_through 10 bytes) =
    rw c.clear.ensures.items at c.in-Ok.ensures.bytes in
    let some : 0 < length c.read_until.new.buf.items =
    omega (arith, c.in-Ok.ensures.ok, c.in-Ok.field-0-test.1, c.read_until.new.buf.ok.0) in
    λ _. ReadsLines-first _ _ c.read_until.new.buf.items _ held c.in-Ok.ensures.rest some c.drop_newline.ensures
