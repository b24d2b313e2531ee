-- Rows of the last numbers: profile, serials run out.
use Rattle.std.specs.Prelude.{[], ◌∷◌, Err, false, List, true}
use Rattle.krs_types.specs.declared.ask.Op.TheVariants.{GetId, Read}
use Rattle.krs_types.specs.declared.errno.Errno.TheVariants.{ENOSPC, ENOKEY}
use Rattle.krs_rows.specs.Words.{◌⇒◌, add, hello, hex, join, Line, number, thread_ring, user, user_session}

-- what needs more serials than are left
abbrev pub last_serials : List Line
last_serials =
    hello 1000 1000 [] ⇒ number 1 ∷ add "user" "k" "x" user ⇒ Err ENOSPC ∷ join "" ⇒ Err ENOSPC ∷ Read user ⇒ hex "" ∷
    Read user_session ⇒ hex "feffff7f" ∷ hello 1000 1000 [] ⇒ number 2 ∷ hello 1001 1000 [] ⇒ Err ENOSPC ∷ []

-- a key in a keyring that is to be made needs two
abbrev pub one_serial_left : List Line
one_serial_left =
    hello 1000 1000 [] ⇒ number 1 ∷ add "user" "k" "x" thread_ring ⇒ Err ENOSPC ∷ GetId thread_ring false ⇒ Err ENOKEY ∷
    GetId thread_ring true ⇒ number 2147483647 ∷ add "user" "k" "x" thread_ring ⇒ Err ENOSPC ∷ []
