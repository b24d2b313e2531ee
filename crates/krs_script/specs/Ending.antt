-- How a script goes on and ends: keyretain(1), "Lines" and "EXIT STATUS".
use Rattle.std.specs.Prelude.{[], ◌++◌, ◌≡◌, ◌⊎◌, Bool, codes, Err, if◌then◌else◌, List, Ok, Option, Result, ℕ}
use Rattle.std.specs.Io.KnownBytes.{Appends}
use Rattle.krs_types.specs.declared.{ask.{Answer.{Answer, TheVariants.Number}, Op.Op}, errno.Errno.Errno}
use Rattle.krs_words.specs.{Writing.WritesFront, declared.stop.Stop.Stop}
use Rattle.krs_words.specs.declared.stop.Stop.TheVariants.{Connection, Memory, Printing, Reading, TooLong, Usage}
use Rattle.krs_types.specs.declared.ask.Op.TheVariants as op

-- how many lines are read at most: profile, limits
abbrev pub most_lines : ℕ
most_lines = 16777216

-- the status of a script: 0, or 1 where an ask was refused; where it stopped, by its cause
abbrev pub status_of : Result (Unit {0}) Stop → Bool → ℕ
status_of (Ok _) refused = if refused then 1 else 0
status_of (Err Usage) refused = 2
status_of (Err Memory) refused = 1
status_of (Err Reading) refused = 3
status_of (Err TooLong) refused = 3
status_of (Err Printing) refused = 3
status_of (Err Connection) refused = 3

-- the last line of a script that stopped, with its newline
abbrev pub last_line : Result (Unit {0}) Stop → List ℕ
last_line (Ok _) = []
last_line (Err Usage) = codes "usage\n"
last_line (Err Memory) = codes "error 12 ENOMEM\n"
last_line (Err Reading) = []
last_line (Err TooLong) = []
last_line (Err Printing) = []
last_line (Err Connection) = codes "error: connection\n"

-- This text was written, and this is the status with it. Or writing failed: then a beginning of it was written, and
-- the status is 3.
abbrev pub Says : Option (List ℕ) → Option (List ℕ) → List ℕ → ℕ → ℕ → Type 0
Says old new text wanted status =
    ((status ≡ wanted) × Appends old new text) ⊎ ((status ≡ 3) × WritesFront old new text)

-- what waited and the last line of a script were said, with its status
abbrev pub Finishes : Option (List ℕ) → List ℕ → Option (List ℕ) → Result (Unit {0}) Stop → Bool → ℕ → Type 0
Finishes old waiting new stopped refused status =
    Says old new (waiting ++ last_line stopped) (status_of stopped refused) status

-- the current context after an ask: the one that an accepted `hello` gave, else as before
abbrev pub context_after : ℕ → Op → Result Answer Errno → ℕ
context_after context (op.Hello caller) (Ok (Number n)) = n
context_after context _ _ = context
