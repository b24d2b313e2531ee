-- What is told on standard error of a script or a call that stopped: keyretain(1), "EXIT STATUS".
use Rattle.std.specs.Prelude.{◌++◌, ◌≡◌, ◌≢◌, ◌⊎◌, codes, Err, IfErr, List, Ok, Result, string_bytes, ℕ}
use Rattle.krs_words.specs.{Saying.{Heard, Says}, declared.stop.Stop.{Stop, TheVariants.Usage}}
use Rattle.krs_script.specs.Telling.{quoted, stop_text}
use Rattle.krs_ctl.specs.declared.choice.Call.{Call}
use Rattle.krs_ctl.specs.declared.connecting.Failure.{Failure, TheVariants.{Failed, NoPlace, Unconnected}}

-- the line that tells something of a path
abbrev pub path_text : (path what : List ℕ) → List ℕ
path_text path what = codes "keyretain: " ++ quoted path ++ codes ": " ++ what ++ codes "\n"

-- such a line was said
abbrev pub TellsOf : (path : List ℕ) → Heard → Heard → Type 0
TellsOf path old new = (what : List ℕ) × Says old new (path_text path what)

-- Either nothing was said, or a line that tells a number, a line and why a script stopped there, with a hint. No clause
-- says that they are the script's own. With a status of 2 it says that the line is no command.
abbrev pub TellsScript : (status : ℕ) → Heard → Heard → Type 0
TellsScript status old new =
    (number : ℕ) × (line : List ℕ) × (stopped : Result (Unit {0}) Stop)
    × IfErr stopped (λ stop. (how : List ℕ) × Says old new (stop_text number line stop how))
    × (stopped ≡ Ok tt → new ≡ old)
    × (status ≡ 2 → stopped ≡ Err Usage)

-- of a script over a path: of the path where there is no connection, and else of the script
abbrev pub TellsOver : (path : List ℕ) → (status : ℕ) → Heard → Heard → Type 0
TellsOver path status old new = TellsOf path old new ⊎ TellsScript status old new

-- what is told of a call that fits no frame
abbrev pub frame_text : List ℕ
frame_text = codes "keyretain: it fits no frame, which has 65536 bytes at most; a payload has 32767 at most\n"

-- What is told of a call over a path, by its status, and by what is told of one that was refused. Of one that was
-- accepted it is nothing.
pub record TellsEnd (path refused : List ℕ) (status : ℕ) (old new : Heard) : Type 0 where
  pub refusal : status ≡ 1 → Says old new refused
  pub usage : status ≡ 2 → Says old new frame_text
  pub broken : status ≡ 3 → TellsOf path old new
  pub quiet : status ≢ 1 → status ≢ 2 → status ≢ 3 → new ≡ old

-- of a call some text where it was refused, and why it was not answered
abbrev pub TellsCall : Call → (status : ℕ) → Heard → Heard → Type 0
TellsCall call status old new = (refused : List ℕ) × TellsEnd (string_bytes call.path) refused status old new

-- what is told of a path where the guard has no place for a call, and where its connection failed
abbrev pub no_place_text : List ℕ
no_place_text = codes "keyretain-guard has no place left for this user: end other clients, or raise --per-uid"

abbrev pub failed_text : List ℕ
failed_text = codes "the connection failed, or gave no reply; or standard output cannot be written"

-- why a call was not answered
abbrev pub TellsFailure : (path : List ℕ) → Failure → Heard → Heard → Type 0
TellsFailure path (Unconnected error) old new = TellsOf path old new
TellsFailure path NoPlace old new = Says old new (path_text path no_place_text)
TellsFailure path Failed old new = Says old new (path_text path failed_text)
