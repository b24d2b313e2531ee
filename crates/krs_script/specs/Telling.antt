-- What is told on standard error where a program stopped, which no program reads: keyretain(1), "EXIT STATUS".
use Rattle.std.specs.Prelude.{[], ◌++◌, codes, decimal, flat_map, get_or, if◌then◌else◌, is_some, length, List, nat_lt}
use Rattle.std.specs.{Prelude.{take, ℕ}, Char.Escape.escape_ascii}
use Rattle.krs_words.specs.{Words.words_of, declared.stop.Stop.Stop}
use Rattle.krs_words.specs.declared.stop.Stop.TheVariants.{Connection, Memory, Printing, Reading, TooLong, Usage}
use Rattle.krs_commands.specs.Command.{command_of, row_of}

-- how many bytes of a word are quoted at most
abbrev pub most_quoted : ℕ
most_quoted = 64

-- A word as it is quoted: the first of its bytes, each that isn't printable as Rust's `escape_default` writes it, so
-- that it does no harm to a terminal or a log; and dots where it goes on.
abbrev pub quoted : List ℕ → List ℕ
quoted word =
    if nat_lt most_quoted (length word)
    then flat_map escape_ascii (take most_quoted word) ++ codes "..."
    else flat_map escape_ascii word

-- why words are no command here: no command has the first one, or not with these behind it, or it is one elsewhere
abbrev pub reason_text : List (List ℕ) → List ℕ
reason_text words =
    if is_some (command_of words) then codes "no command here: "
    else if is_some (row_of (get_or words 0 [])) then codes "not as it is used: "
    else codes "no such command: "

abbrev pub no_command_text : List (List ℕ) → List ℕ
no_command_text words = reason_text words ++ quoted (get_or words 0 [])

-- why a script stopped at this line
abbrev pub cause_text : Stop → List ℕ → List ℕ
cause_text Usage line = no_command_text (words_of line)
cause_text Memory line = codes "out of memory"
cause_text Reading line = codes "cannot be read"
cause_text TooLong line = codes "is the last that a script may have"
cause_text Printing line = codes "standard output cannot be written"
cause_text Connection line = codes "the connection failed"

-- how words are a command, told behind why they are none: where no command has the first one, where commands are
-- listed; of a single call that is a command of scripts, where it is one; else some text, as `how`
abbrev pub listed_text : List ℕ
listed_text = codes "\nkeyretain: keyretain --help lists the commands"

abbrev pub line_hint : List (List ℕ) → (how : List ℕ) → List ℕ
line_hint words how =
    if is_some (command_of words) then how
    else if is_some (row_of (get_or words 0 [])) then how
    else listed_text

abbrev pub call_hint : List (List ℕ) → (how : List ℕ) → List ℕ
call_hint words how =
    if is_some (command_of words) then codes "\nkeyretain: it is for scripts: keyretain --socket PATH script"
    else if is_some (row_of (get_or words 0 [])) then how
    else listed_text

-- what to do where a script stopped at this line: nothing but where it is no command, and where the connection failed
abbrev pub hint_text : Stop → List ℕ → (how : List ℕ) → List ℕ
hint_text Usage line how = line_hint (words_of line) how
hint_text Memory line how = []
hint_text Reading line how = []
hint_text TooLong line how = []
hint_text Printing line how = []
hint_text Connection line how =
    codes "\nkeyretain: a daemon that ended has lost all keys; begin anew, once it is started"

-- what is told of a script that stopped at the line of this number, with this hint at what to do
abbrev pub hinted_text : ℕ → List ℕ → Stop → (hint : List ℕ) → List ℕ
hinted_text number line stop hint =
    codes "keyretain: line " ++ decimal number ++ codes ": " ++ cause_text stop line ++ hint ++ codes "\n"

abbrev pub stop_text : ℕ → List ℕ → Stop → (how : List ℕ) → List ℕ
stop_text number line stop how = hinted_text number line stop (hint_text stop line how)

-- what is told of words that are no command, with such a hint
abbrev pub hinted_refusal : List (List ℕ) → (hint : List ℕ) → List ℕ
hinted_refusal words hint = codes "keyretain: " ++ no_command_text words ++ hint ++ codes "\n"

abbrev pub refusal_text : List (List ℕ) → (how : List ℕ) → List ℕ
refusal_text words how = hinted_refusal words (call_hint words how)
