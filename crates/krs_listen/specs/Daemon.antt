-- What the daemon prints and answers: keyretaind(8), "DESCRIPTION" and "EXIT STATUS".
use Rattle.std.specs.Prelude.{◌++◌, ◌+◌, ◌<◌, ◌≡◌, ◌⊎◌, codes, decimal, List, None, Option, Some, string_bytes, ℕ}
use Rattle.krs_listen.specs.{Saying.{Heard, Says}, Telling.{not_text, TellsOf}, declared.acceptor.Accepted.Accepted}
use Rattle.krs_listen.specs.declared.acceptor.Accepted.TheVariants.{All, Failed}
use Rattle.krs_listen.specs.declared.choice.Choice.{Choice, TheVariants.{Memory, Refused, Serve, Shown, Usage}}
use Rattle.krs_listen.specs.declared.options.Options.{Options}

-- what it prints once clients can connect
abbrev pub listening_line : List ℕ → List ℕ
listening_line path = codes "listening " ++ path ++ codes "\n"

-- what it prints after so many connections
abbrev pub served_line : ℕ → List ℕ
served_line connections = codes "served " ++ decimal connections ++ codes "\n"

-- how many connections it serves before it ends: as many as it is told, or more than ever come
abbrev pub connections_of : Option ℕ → ℕ
connections_of None = 18446744073709551615
connections_of (Some connections) = connections

-- How the accepting of so many connections ended, by what the acceptor had counted before it and after it: all of them
-- were accepted and no accept failed, or one failed, which ended it before that.
abbrev pub AcceptsBy : ℕ → ℕ → ℕ → ℕ → ℕ → Accepted → Type 0
AcceptsBy connections accepted0 accepted1 failures0 failures1 All =
    (accepted1 ≡ accepted0 + connections) × (failures1 ≡ failures0)
AcceptsBy connections accepted0 accepted1 failures0 failures1 Failed =
    (accepted1 < accepted0 + connections) × (failures1 ≡ failures0 + 1)

-- a failed accept is told, and nothing else is printed while connections are accepted
abbrev pub TellsAccepted : Accepted → Heard → Heard → Type 0
TellsAccepted All old new = new ≡ old
TellsAccepted Failed old new = Says old new (codes "error: accept\n")

-- What it prints and tells at its end, and its status: its last connection was served, and nothing is told, or an
-- accept failed, and why is told.
abbrev pub SaysAsItEnds : ℕ → Heard → Heard → Heard → Heard → ℕ → Type 0
SaysAsItEnds connections old new old_errors new_errors status =
    (Says old new (served_line connections) × (new_errors ≡ old_errors) × (status ≡ 0))
    ⊎ (Says old new (codes "error: accept\n") × TellsOf (codes "accept") old_errors new_errors × (status ≡ 3))

-- the same, by what its acceptor counted
abbrev pub SaysAsItEndsBy : ℕ → ℕ → ℕ → Heard → Heard → Heard → Heard → ℕ → Type 0
SaysAsItEndsBy connections accepted failures old new old_errors new_errors status =
    (AcceptsBy connections 0 accepted 0 failures All
    × Says old new (served_line connections) × (new_errors ≡ old_errors) × (status ≡ 0))
    ⊎ (AcceptsBy connections 0 accepted 0 failures Failed
    × Says old new (codes "error: accept\n") × TellsOf (codes "accept") old_errors new_errors × (status ≡ 3))

-- What a daemon prints and tells by its options, with its status: it lacks memory, or can't bind its path and tells
-- why, or it listens and then ends. Of a line that an output fails to take whole a beginning is written, and it goes
-- on.
abbrev pub SaysAsItServes : Options → Heard → Heard → Heard → Heard → ℕ → Type 0
SaysAsItServes options old new old_errors new_errors status =
    (Says old new (codes "error 12 ENOMEM\n") × (new_errors ≡ old_errors) × (status ≡ 1))
    ⊎ ((Says old new (codes "error: socket\n") × TellsOf (string_bytes options.path) old_errors
    new_errors × (status ≡ 3))
    ⊎ ((listening : Heard) × Says old listening (listening_line (string_bytes options.path))
    × SaysAsItEnds (connections_of options.accept) listening new old_errors new_errors status))

-- What is printed, what is told on standard error, and the status. What is refused of the words is told, and nothing is
-- printed.
abbrev pub Answers : Choice → Heard → Heard → Heard → Heard → ℕ → Type 0
Answers (Serve options) old new old_errors new_errors status =
    SaysAsItServes options old new old_errors new_errors status
Answers Usage old new old_errors new_errors status =
    Says old new (codes "usage\n") × (status ≡ 2) × Says old_errors new_errors not_text
Answers Memory old new old_errors new_errors status =
    Says old new (codes "error 12 ENOMEM\n") × (status ≡ 1) × (new_errors ≡ old_errors)
Answers (Shown text) old new old_errors new_errors status =
    Says old new (string_bytes text) × (status ≡ 0) × (new_errors ≡ old_errors)
Answers (Refused text) old new old_errors new_errors status =
    Says old_errors new_errors (string_bytes text) × (status ≡ 2) × (new ≡ old)
