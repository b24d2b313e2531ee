-- How the bytes of a key or a queue are listed: keyretain(1), "Commands"; profile, hidden describe.
use Rattle.std.specs.Prelude.{◌%◌, ◌&&◌, ◌==◌, Bool, codes, Err, false, if◌then◌else◌, length, List, nat_eq, Ok, Result}
use Rattle.std.specs.{Prelude.ℕ, List.starts_with}
use Rattle.krs_types.specs.declared.{ask.Answer.{Answer, TheVariants.{Bytes, Nothing, Number}}, errno.Errno.Errno}
use Rattle.krs_words.specs.declared.output.Output.{Output, TheVariants.{Records, Reply, Serials}}

-- DESCRIBE was accepted, and the key's type, which stands before the first `;`, is that of a keyring
abbrev pub is_keyring : Result Answer Errno → Bool
is_keyring (Ok (Bytes text)) = starts_with nat_eq text (codes "keyring;")
is_keyring (Ok Nothing) = false
is_keyring (Ok (Number n)) = false
is_keyring (Err e) = false

-- what the bytes that READ gave are shown as, by the reply to DESCRIBE: a keyring's as serials, all others as they
-- are
abbrev pub listing : List ℕ → Result Answer Errno → Output
listing bytes described =
    if is_keyring described && (length bytes % 4 == 0) then Serials bytes else Reply (Ok (Bytes bytes))

-- what a READ_QUEUE comes to: the records that it gave, or its refusal
abbrev pub records_of : Result Answer Errno → Output
records_of (Ok (Bytes bytes)) = Records bytes
records_of (Ok Nothing) = Reply (Ok Nothing)
records_of (Ok (Number n)) = Reply (Ok (Number n))
records_of (Err e) = Reply (Err e)
