-- The words that the daemon is told, and what it does by them: keyretaind(8), "SYNOPSIS".
use Rattle.std.specs.Prelude.{IfErr, IfOk, map, Result, string_bytes}
use Rattle.std.specs.{IoError.error_kind, Vec.Iter.into_iter_items}
use Rattle.std.specs.declared.alloc.Global.{Global}
use Rattle.std.specs.declared.io.Error.{Error}
use Rattle.std.specs.declared.string.String.{String}
use Rattle.std.specs.declared.vec.IntoIter.{IntoIter}
use Rattle.krs_listen.specs.Choice.{IsUnread, LeadsTo}
use Rattle.krs_listen.specs.declared.choice.Choice.{Choice}

-- the words of a program, or why they can't be had
abbrev pub Words : Type 0
Words = Result (IntoIter (String Global) Global) Error

-- where they lead
abbrev pub Lead : Words → Choice → Type 0
Lead words choice = IfOk words (λ words. LeadsTo (map string_bytes (into_iter_items words)) choice)
    × IfErr words (λ error. IsUnread (error_kind error) choice)

-- what is chosen is where the words lead that were told
abbrev pub IsAsTold : (Words → Type 0) → Choice → Type 0
IsAsTold told choice = (words : Words) × told words × Lead words choice
