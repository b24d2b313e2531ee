use Rattle.std.proofs.Common.{◌++◌, ◌≡◌}
use Rattle.std.specs.Char.{Escape.escape_ascii, Iter.escape_byte_rest}
use Rattle.krs_script.proofs.telling.push_escaped.Given as goal

-- with what is still to come of the byte the text is the whole
abbrev pub invariant-loop-shown : goal.invariant-loop-shown
invariant-loop-shown l = l.text.items ++ escape_byte_rest l.shown-iterator ≡ l.initial.text.items ++ escape_ascii l.byte
