-- The reply to an ask whose bytes a taker may have.
use Rattle.std.specs.Prelude.{List, None, Ok, Option, Result, Some, ℕ}
use Rattle.krs_types.specs.declared.{ask.Answer.{Answer, TheVariants.Bytes}, errno.Errno.Errno}
use Rattle.krs_store.specs.declared.told.Told.{Told, TheVariants.{Reply, Taken}}

-- the reply that was told
abbrev pub reply_of : Told → Result Answer Errno
reply_of (Reply reply) = reply
reply_of (Taken bytes) = Ok (Bytes bytes.value)

-- what of it a taker has
abbrev pub bytes_of : Told → Option (List ℕ)
bytes_of (Reply reply) = None
bytes_of (Taken bytes) = Some bytes.value
