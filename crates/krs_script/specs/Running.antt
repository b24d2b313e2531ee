-- What a script does and prints, whatever carries its commands out: keyretain(1), "Lines", "Commands" and "EXIT
-- STATUS". `acts` says what a command does, from one state to another, and what it comes to; `breaks` says what one did
-- that broke off, and for which cause.
use Rattle.std.specs.Prelude.{[], ◌++◌, ◌==◌, ◌||◌, ◌∷◌, ◌≡◌, ◌≤◌, ◌⊎◌, Bool, Err, false, IfSome, length, List}
use Rattle.std.specs.Prelude.{MatchBool, None, Ok, Option, Result, Some, ℕ}
use Rattle.krs_words.specs.{Lines.lines_of, Printing.shown, Words.{is_comment, words_of}, Writing.{Prints, WritesFront}}
use Rattle.krs_words.specs.declared.{output.Output.Output, stop.Stop.Stop}
use Rattle.krs_words.specs.declared.stop.Stop.TheVariants.{Connection, Memory, Printing, Reading, TooLong, Usage}
use Rattle.krs_commands.specs.{Command.command_of, declared.command.Command.Command}
use Rattle.krs_script.specs.Ending.{last_line, most_lines, Says, status_of}

-- comments and lines without words are skipped
abbrev pub is_skipped : List ℕ → Bool
is_skipped line = is_comment line || (length (words_of line) == 0)

-- a line that is not skipped, and no command
abbrev pub IsNoCommand : List ℕ → Type 0
IsNoCommand line = (is_skipped line ≡ false) × (command_of (words_of line) ≡ None)

-- a line that is this command
abbrev pub IsCommand : List ℕ → Command → Type 0
IsCommand line command = (is_skipped line ≡ false) × (command_of (words_of line) ≡ Some command)

-- a line that is a command does it and prints a line; one that is skipped does and prints nothing
abbrev pub TakesLine : {S : Type 0} → (S → Command → Output → S → Type 0) → S → List ℕ → List ℕ → S → Type 0
TakesLine acts old line text new = MatchBool (is_skipped line)
    ((new ≡ old) × (text ≡ []))
    ((command : Command) × (output : Output) × (command_of (words_of line) ≡ Some command)
    × acts old command output new × (text ≡ shown output ++ 10 ∷ []))

-- lines one after the other, and all that they print
abbrev pub TakesLines : {S : Type 0} → (S → Command → Output → S → Type 0) → S → List (List ℕ) → List ℕ → S → Type 0
TakesLines acts old [] text new = (new ≡ old) × (text ≡ [])
TakesLines {S = S} acts old (line ∷ lines) text new =
    (mid : S) × (first : List ℕ) × (rest : List ℕ) × TakesLine acts old line first mid × (text ≡ first ++ rest)
    × TakesLines acts mid lines rest new

-- the causes for which a command breaks off
abbrev pub IsCause : Stop → Type 0
IsCause stop = (stop ≡ Usage) ⊎ ((stop ≡ Memory) ⊎ (stop ≡ Connection))

-- a line whose command broke off
abbrev pub BreaksOff : {S : Type 0} → (S → Command → Stop → S → Type 0) → S → List ℕ → Stop → S → Type 0
BreaksOff breaks old line stop new = (command : Command) × IsCommand line command × breaks old command stop new

-- the lines of a reader begin with these; of a reader that does not tell its bytes this says nothing
abbrev pub BeginsWith : Option (List ℕ) → List (List ℕ) → Type 0
BeginsWith input lines = IfSome input (λ bytes. (rest : List (List ℕ)) × (lines_of bytes ≡ lines ++ rest))

-- Where a script stopped: at the end of its lines; at a line that is no command, or whose command broke off; behind as
-- many lines as are read at most; or, out of memory and where reading or printing failed, anywhere.
abbrev pub StopsBehind : {S : Type 0} → (S → Command → Stop → S → Type 0) → Option (List ℕ) → List (List ℕ) → S → S
    → Result (Unit {0}) Stop → Type 0
StopsBehind breaks input lines last new (Ok _) = (new ≡ last) × IfSome input (λ bytes. lines_of bytes ≡ lines)
StopsBehind breaks input lines last new (Err Usage) =
    (bad : List ℕ) × (((new ≡ last) × IsNoCommand bad) ⊎ BreaksOff breaks last bad Usage new)
    × BeginsWith input (lines ++ bad ∷ [])
StopsBehind breaks input lines last new (Err Memory) =
    ((new ≡ last) × BeginsWith input lines)
    ⊎ ((line : List ℕ) × BreaksOff breaks last line Memory new × BeginsWith input (lines ++ line ∷ []))
StopsBehind breaks input lines last new (Err Connection) =
    (line : List ℕ) × BreaksOff breaks last line Connection new × BeginsWith input (lines ++ line ∷ [])
StopsBehind breaks input lines last new (Err Reading) = (new ≡ last) × BeginsWith input lines
StopsBehind breaks input lines last new (Err TooLong) =
    (new ≡ last) × (length lines ≡ most_lines) × BeginsWith input lines
StopsBehind breaks input lines last new (Err Printing) = (new ≡ last) × BeginsWith input lines

-- What of the text was printed: all of it; a beginning where memory ran out; and where writing failed a beginning
-- of what waited and then the text was written, and nothing else.
abbrev pub IsPrinted : Option (List ℕ) → List ℕ → Option (List ℕ) → List ℕ → List ℕ → Result (Unit {0}) Stop → Type 0
IsPrinted old waiting new waits text (Ok _) = Prints old waiting new waits text
IsPrinted old waiting new waits text (Err Usage) = Prints old waiting new waits text
IsPrinted old waiting new waits text (Err Memory) =
    (printed : List ℕ) × (rest : List ℕ) × (text ≡ printed ++ rest) × Prints old waiting new waits printed
IsPrinted old waiting new waits text (Err Reading) = Prints old waiting new waits text
IsPrinted old waiting new waits text (Err TooLong) = Prints old waiting new waits text
IsPrinted old waiting new waits text (Err Connection) = Prints old waiting new waits text
IsPrinted old waiting new waits text (Err Printing) = WritesFront old new (waiting ++ text)

-- What became of one line, and what was printed: it was obeyed; it is no command; its command broke off; memory
-- ran out, before it or for what it prints; or writing failed.
abbrev pub ObeysLine : {S : Type 0} → (S → Command → Output → S → Type 0) → (S → Command → Stop → S → Type 0) → S
    → List ℕ → S → Option (List ℕ) → List ℕ → Option (List ℕ) → List ℕ → Result (Unit {0}) Stop → Type 0
ObeysLine acts breaks old line new before waiting after waits (Ok _) =
    (text : List ℕ) × TakesLine acts old line text new × Prints before waiting after waits text
ObeysLine acts breaks old line new before waiting after waits (Err Usage) =
    (((new ≡ old) × IsNoCommand line) ⊎ BreaksOff breaks old line Usage new) × Prints before waiting after waits []
ObeysLine acts breaks old line new before waiting after waits (Err Memory) =
    ((new ≡ old) ⊎ (BreaksOff breaks old line Memory new ⊎ ((text : List ℕ) × TakesLine acts old line text new)))
    × Prints before waiting after waits []
ObeysLine acts breaks old line new before waiting after waits (Err Connection) =
    BreaksOff breaks old line Connection new × Prints before waiting after waits []
ObeysLine acts breaks old line new before waiting after waits (Err Reading) = ⊥
ObeysLine acts breaks old line new before waiting after waits (Err TooLong) = ⊥
ObeysLine acts breaks old line new before waiting after waits (Err Printing) =
    (text : List ℕ) × TakesLine acts old line text new × WritesFront before after (waiting ++ text)

-- lines of a reader were obeyed from one state to another, as far as it went, and this was printed from one writer and
-- what waited for it to another
pub record Runs {S : Type 0} (acts : S → Command → Output → S → Type 0) (breaks : S → Command → Stop → S → Type 0)
    (input : Option (List ℕ)) (old new : S) (before : Option (List ℕ)) (waiting : List ℕ) (after : Option (List ℕ))
    (waits : List ℕ) (stopped : Result (Unit {0}) Stop) : Type 0 where
  pub lines : List (List ℕ)
  pub text : List ℕ
  pub last : S
  pub taken : TakesLines acts old lines text last
  pub bound : length lines ≤ most_lines
  pub behind : StopsBehind breaks input lines last new stopped
  pub prints : IsPrinted before waiting after waits text stopped

-- what of a script's text was printed: all of it; where memory ran out or writing failed, a beginning
abbrev pub IsShown : Result (Unit {0}) Stop → List ℕ → List ℕ → Type 0
IsShown (Ok _) text printed = printed ≡ text
IsShown (Err Usage) text printed = printed ≡ text
IsShown (Err Memory) text printed = (rest : List ℕ) × (text ≡ printed ++ rest)
IsShown (Err Reading) text printed = printed ≡ text
IsShown (Err TooLong) text printed = printed ≡ text
IsShown (Err Connection) text printed = printed ≡ text
IsShown (Err Printing) text printed = (rest : List ℕ) × (text ≡ printed ++ rest)

-- A whole script, from the state before its first line to the one that it leaves, where something was refused or not:
-- what was written is what its lines print, and the last line of a script that stopped, with the status of that; or
-- writing failed, and a beginning of this was written.
pub record Ends {S : Type 0} (acts : S → Command → Output → S → Type 0) (breaks : S → Command → Stop → S → Type 0)
    (input old new : Option (List ℕ)) (start end : S) (refused : Bool) (status : ℕ) : Type 0 where
  pub lines : List (List ℕ)
  pub text : List ℕ
  pub printed : List ℕ
  pub last : S
  pub stopped : Result (Unit {0}) Stop
  pub taken : TakesLines acts start lines text last
  pub bound : length lines ≤ most_lines
  pub behind : StopsBehind breaks input lines last end stopped
  pub shows : IsShown stopped text printed
  pub ends : Says old new (printed ++ last_line stopped) (status_of stopped refused) status
