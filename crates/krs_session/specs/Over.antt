-- What `Over` shows: its reader or writer, and its counts.
use Rattle.std.specs.Prelude.{ℕ}
use Rattle.krs_session.specs.declared.over.Over.{Over}

abbrev pub over_end : {E : Type 0} → Over E → E
over_end o = o.end

-- reads into room, those of them that gave no bytes
abbrev pub over_reads : {E : Type 0} → Over E → ℕ
over_reads o = o.reads

abbrev pub over_empties : {E : Type 0} → Over E → ℕ
over_empties o = o.empties

-- failed reads and writes, and writes that took none of a piece that isn't empty
abbrev pub over_failures : {E : Type 0} → Over E → ℕ
over_failures o = o.failures
