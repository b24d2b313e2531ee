-- Which asks make a context for a caller: keyretain(1), "Commands".
use Rattle.std.specs.Prelude.{Bool, false, true}
use Rattle.krs_types.specs.declared.ask.Op.{Op, TheVariants.Hello}

abbrev pub is_hello : Op → Bool
is_hello (Hello caller) = true
is_hello _ = false
