use Rattle.krs_words.specs.Writing.{WritesSome}
use Rattle.krs_words.proofs.writing.write_whole.Given as goal

-- what was written and what is left are the bytes
abbrev pub invariant-loop : goal.invariant-loop
invariant-loop g l =
    WritesSome (g.W.Write.contents l.initial.writer) (g.W.Write.contents l.writer) l.bytes l.rest
