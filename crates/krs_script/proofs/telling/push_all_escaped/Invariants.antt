use Rattle.std.proofs.Common.{◌++◌, ◌≡◌, flat_map, take}
use Rattle.std.specs.Char.Escape.{escape_ascii}
use Rattle.krs_script.proofs.telling.push_all_escaped.Given as goal

-- the bytes so far are escaped
abbrev pub invariant-loop-byte : goal.invariant-loop-byte
invariant-loop-byte l = l.text.items ≡ l.initial.text.items ++ flat_map escape_ascii (take l.byte-index l.bytes)
