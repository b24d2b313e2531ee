-- What the program does: keyretain(1), "DESCRIPTION" and "EXIT STATUS".
use Rattle.std.specs.Prelude.{◌≡◌, ◌⊎◌, codes, List, Option, string_bytes, ℕ}
use Rattle.krs_model.specs.State.{starting_at}
use Rattle.krs_words.specs.Saying.{Heard, Says as Tells}
use Rattle.krs_script.specs.Ending.{Says}
use Rattle.krs_remote.specs.{Call.EndsCall, Remote.EndsRemote}
use Rattle.krs_ctl.specs.{Choice.misuse_text, Connecting.Connecting, Running.EndsScript}
use Rattle.krs_ctl.specs.Telling.{TellsCall, TellsOver, TellsScript}
use Rattle.krs_ctl.specs.declared.choice.Call.{Call as CallIs}
use Rattle.krs_ctl.specs.declared.choice.Choice.{Choice, TheVariants.{Call, Memory, NoCommand, Refused, Remote, Script}}
use Rattle.krs_ctl.specs.declared.{choice.Choice.TheVariants.{Shown, Usage}, script.ScriptEnd.ScriptEnd}

-- there is no connection, or no memory to make one
abbrev pub SaysUnconnected : Option (List ℕ) → Option (List ℕ) → ℕ → Type 0
SaysUnconnected old new status =
    Says old new (codes "error: connection\n") 3 status ⊎ Says old new (codes "error 12 ENOMEM\n") 1 status

-- a script over a connection to a path, if one could be made
abbrev pub RunsAt : Connecting → (path : List ℕ) → Option (List ℕ) → Option (List ℕ) → Option (List ℕ) → ℕ → Type 0
RunsAt connecting path input old new status =
    (connecting.failed path × SaysUnconnected old new status)
    ⊎ connecting.over path (λ sent0 sent1 left. EndsRemote input old new sent0 sent1 left status)

-- a single call over a connection to its path, if one could be made
abbrev pub CallsAt : Connecting → CallIs → Option (List ℕ) → Option (List ℕ) → ℕ → Type 0
CallsAt connecting call old new status =
    (connecting.failed (string_bytes call.path) × SaysUnconnected old new status)
    ⊎ connecting.over (string_bytes call.path)
    (λ sent0 sent1 left. EndsCall call.caller call.command old new sent0 sent1 left status)

-- What is printed, and the status. A script runs on a new store, or over a connection; of one that stopped a line is
-- told on standard error, and of one with status 0, which came to its end with nothing refused, nothing; of a single
-- call what its status wants. What is refused of the words is told there, and nothing is printed; of words that are
-- none why, and of those that are no command, some text. Every other choice says one text on standard output, and
-- nothing on standard error. What is told stands there whole, or standard error has failed, or there was no memory for
-- it. Only a script over a path and a single call ask for a connection, and for one alone.
abbrev pub Answers : Connecting → Choice → Option (List ℕ) → Option (List ℕ) → Option (List ℕ) → Heard → Heard → ℕ
    → Type 0
Answers connecting Script input old new old_errors new_errors status =
    ((end : ScriptEnd) × EndsScript input old new (starting_at 3) end × (status ≡ end.status))
    × TellsScript status old_errors new_errors × (status ≡ 0 → new_errors ≡ old_errors) × connecting.unasked
Answers connecting (Remote path) input old new old_errors new_errors status =
    RunsAt connecting (string_bytes path) input old new status
    × TellsOver (string_bytes path) status old_errors new_errors × (status ≡ 0 → new_errors ≡ old_errors)
Answers connecting (Call call) input old new old_errors new_errors status =
    CallsAt connecting call old new status × TellsCall call status old_errors new_errors
Answers connecting (Usage why) input old new old_errors new_errors status =
    Says old new (codes "usage\n") 2 status × Tells old_errors new_errors (misuse_text why) × connecting.unasked
Answers connecting (NoCommand text) input old new old_errors new_errors status =
    Says old new (codes "usage\n") 2 status × Tells old_errors new_errors text.items × connecting.unasked
Answers connecting Memory input old new old_errors new_errors status =
    Says old new (codes "error 12 ENOMEM\n") 1 status × (new_errors ≡ old_errors) × connecting.unasked
Answers connecting (Shown text) input old new old_errors new_errors status =
    Says old new (string_bytes text) 0 status × (new_errors ≡ old_errors) × connecting.unasked
Answers connecting (Refused text) input old new old_errors new_errors status =
    Tells old_errors new_errors (string_bytes text) × (new ≡ old) × (status ≡ 2) × connecting.unasked
