-- A single call over a connection: keyretain(1), "Single calls".
use Rattle.std.specs.Prelude.{[], ◌++◌, ◌∷◌, ◌≡◌, ◌⊎◌, Bool, Err, false, if◌then◌else◌, List, None, Ok, Option, Result}
use Rattle.std.specs.Prelude.{Some, true, ℕ}
use Rattle.krs_types.specs.declared.{ask.Op.TheVariants.Hello, caller.Caller.Caller}
use Rattle.krs_words.specs.Parsed.{◌>>=◌}
use Rattle.krs_words.specs.{Printing.shown, declared.{output.Output.Output, stop.Stop.{Stop, TheVariants.Memory}}}
use Rattle.krs_commands.specs.Command.{command_of}
use Rattle.krs_commands.specs.declared.command.Command.{Command, TheVariants.{Ask, Context, Moment}}
use Rattle.krs_script.specs.Ending.{last_line, Says, status_of}
use Rattle.krs_remote.specs.Remote.{BreaksCall, CallsFor, Talk, talk_on}

-- a command that makes no context and sets nothing for lines that follow
abbrev pub is_single : Command → Bool
is_single (Context n) = false
is_single (Moment n) = false
is_single (Ask (Hello caller)) = false
is_single _ = true

-- the command that the words of a single call are
abbrev pub call_of : List (List ℕ) → Option Command
call_of words = do
  command ← command_of words
  if is_single command then Some command else None

-- the line that a single call prints
abbrev pub PrintsCall : Talk → Caller → Command → List ℕ → Talk → Type 0
PrintsCall old caller command line new =
    (output : Output) × CallsFor old caller command output new × (line ≡ shown output ++ 10 ∷ [])

-- a call that prints no line: it broke off; or memory ran out, before it or for its line
abbrev pub StopsCall : Talk → Caller → Command → Stop → Talk → Type 0
StopsCall old caller command Memory new =
    (new ≡ old)
    ⊎ (BreaksCall old caller command Memory new ⊎ ((output : Output) × CallsFor old caller command output new))
StopsCall old caller command stop new = BreaksCall old caller command stop new

-- what a call did, and the line that it comes to where nothing stopped it
abbrev pub Called : Talk → Caller → Command → List ℕ → Result (Unit {0}) Stop → Talk → Type 0
Called old caller command line (Ok _) new = PrintsCall old caller command line new
Called old caller command line (Err stop) new = (line ≡ []) × StopsCall old caller command stop new

-- a call from one state of its connection to another, what was printed, and the status
abbrev pub CallEnds : Talk → Caller → Command → Option (List ℕ) → Option (List ℕ) → Talk → ℕ → Type 0
CallEnds old caller command output0 output1 new status =
    (line : List ℕ) × (stopped : Result (Unit {0}) Stop) × Called old caller command line stopped new
    × Says output0 output1 (line ++ last_line stopped) (status_of stopped new.refused) status

-- a whole call, the tags of whose asks are 1, 2 and so on: what was sent, what was printed, and the status
abbrev pub EndsCall : Caller → Command → Option (List ℕ) → Option (List ℕ) → Option (List ℕ) → Option (List ℕ)
    → Option (List ℕ) → ℕ → Type 0
EndsCall caller command output0 output1 sent0 sent1 left status =
    (last : Talk) × CallEnds (talk_on sent0 left) caller command output0 output1 last status × (last.sent ≡ sent1)
