-- What a test wants of a reply.
use Rattle.std.specs.Prelude.{◌==◌, Bool, bytes_eq, Err, false, Ok, Result, true}
use Rattle.krs_types.specs.Errno.{number_of}
use Rattle.krs_types.specs.declared.{ask.Answer.{Answer, TheVariants.{Bytes, Nothing, Number}}, errno.Errno.Errno}
use Rattle.krs_store_asks.specs.declared.Want.{Want}
use Rattle.krs_store_asks.specs.declared.Want.TheVariants as want

-- the reply is the one that is wanted
abbrev pub is_wanted : Result Answer Errno → Want → Bool
is_wanted (Ok Nothing) want.Nothing = true
is_wanted (Ok (Number got)) (want.Number number) = got == number
is_wanted (Ok (Bytes got)) (want.Bytes bytes) = bytes_eq got bytes.now
is_wanted (Err got) (want.Refused errno) = number_of got == number_of errno
is_wanted _ _ = false
