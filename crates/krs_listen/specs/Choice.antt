-- What the daemon does, by its words: keyretaind(8), "DESCRIPTION".
use Rattle.std.specs.Prelude.{[], ⊤, ◌≡◌, ◌≢◌, ◌⊎◌, codes, List, None, Option, Some, string_bytes, ℕ}
use Rattle.clap.specs.Words.{fault_of, IsAmong}
use Rattle.clap.specs.declared.error.kind.ErrorKind.{ErrorKind, TheVariants.{DisplayHelp, DisplayVersion}}
use Rattle.clap.specs.declared.error.kind.ErrorKind.TheVariants.{MissingRequiredArgument, OutOfMemory, ValueValidation}
use Rattle.krs_listen.specs.CommandLine.{daemon, Spells}
use Rattle.krs_listen.specs.declared.choice.Choice.{Choice, TheVariants.{Memory, Refused, Serve, Shown, Usage}}
use Rattle.krs_listen.specs.declared.options.Options.{Options}
use Rattle.std.specs.declared.io.ErrorKind as io
use Rattle.std.specs.declared.io.ErrorKind.TheVariants as io_kind

-- what is told behind the text of an error of the reader of options: which numbers, and which path, are wanted
abbrev pub wanted_text : ErrorKind → List ℕ
wanted_text ValueValidation =
    codes "keyretaind: --lanes takes a number from 1 to 256, --accept one from 0 to 4294967295\n"
wanted_text MissingRequiredArgument =
    codes "keyretaind: --socket takes the path where it listens, which isn't there yet\n"
wanted_text kind = []

-- What is told for a kind of error of the reader of options, and the error's text, where memory was there for it: help
-- and version are shown, all others refused.
abbrev pub IsToldAs : ErrorKind → Option (List ℕ) → Choice → Type 0
IsToldAs kind text (Serve options) = ⊥
IsToldAs kind text Usage = ⊥
IsToldAs kind text Memory = (kind ≡ OutOfMemory) ⊎ (text ≡ None)
IsToldAs kind text (Shown shown) =
    ((kind ≡ DisplayHelp) ⊎ (kind ≡ DisplayVersion)) × (text ≡ Some (string_bytes shown))
IsToldAs kind text (Refused refused) =
    (kind ≢ DisplayHelp) × (kind ≢ DisplayVersion) × (kind ≢ OutOfMemory) × (text ≡ Some (string_bytes refused))

-- words that cannot be had: there was no memory for them, or they are no text, which is usage
abbrev pub IsUnread : io.ErrorKind → Choice → Type 0
IsUnread kind choice =
    (kind ≡ io_kind.OutOfMemory → choice ≡ Memory) × (kind ≢ io_kind.OutOfMemory → choice ≡ Usage)

-- words that were read: the daemon serves as the options say, or they are usage
abbrev pub choice_by : Option Options → Choice
choice_by None = Usage
choice_by (Some options) = Serve options

-- Where words lead: those in which `clap` finds no fault spell options, which are served, or none, which is usage; a
-- question for help or the version is shown an answer, and any other fault is refused; and memory may run out for any.
abbrev pub LeadsTo : List (List ℕ) → Choice → Type 0
LeadsTo words (Serve options) = Spells words (Some options) × (fault_of daemon words ≡ [])
LeadsTo words Usage = Spells words None × (fault_of daemon words ≡ [])
LeadsTo words Memory = ⊤
LeadsTo words (Shown shown) = IsAmong DisplayHelp (fault_of daemon words)
    ⊎ IsAmong DisplayVersion (fault_of daemon words)
LeadsTo words (Refused refused) = (kind : ErrorKind) × IsAmong kind (fault_of daemon words)
    × (kind ≢ DisplayHelp) × (kind ≢ DisplayVersion)
