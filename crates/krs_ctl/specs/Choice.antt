-- What the program does, by its words: keyretain(1), "DESCRIPTION".
use Rattle.std.specs.Prelude.{⊤, ◌≡◌, ◌≢◌, ◌⊎◌, codes, List, ℕ}
use Rattle.clap.specs.declared.error.kind.ErrorKind.{ErrorKind, TheVariants.{DisplayHelp, DisplayVersion, OutOfMemory}}
use Rattle.krs_ctl.specs.declared.choice.Choice.{Choice, TheVariants.Call}
use Rattle.krs_ctl.specs.declared.choice.Choice.TheVariants.{Memory, NoCommand, Refused, Remote, Script, Shown, Usage}
use Rattle.krs_ctl.specs.declared.choice.Misuse.{Misuse, TheVariants.{CallerOfScript, NoSocket, NotText, NoWords}}
use Rattle.std.specs.declared.io.ErrorKind as io
use Rattle.std.specs.declared.io.ErrorKind.TheVariants as io_kind

-- what is told for a kind of error of the reader of options: help and version are shown, all others refused; memory may
-- run out for any
abbrev pub Tells : ErrorKind → Choice → Type 0
Tells kind Script = ⊥
Tells kind (Remote path) = ⊥
Tells kind (Call call) = ⊥
Tells kind (Usage why) = ⊥
Tells kind (NoCommand text) = ⊥
Tells kind Memory = ⊤
Tells kind (Shown text) = (kind ≡ DisplayHelp) ⊎ (kind ≡ DisplayVersion)
Tells kind (Refused text) = (kind ≢ DisplayHelp) × (kind ≢ DisplayVersion) × (kind ≢ OutOfMemory)

-- words that cannot be had: there was no memory for them, or one is no text, which is usage
abbrev pub IsUnread : io.ErrorKind → Choice → Type 0
IsUnread kind choice =
    (kind ≡ io_kind.OutOfMemory → choice ≡ Memory) × (kind ≢ io_kind.OutOfMemory → choice ≡ Usage NotText)

-- what is told of words that are none which the program takes
abbrev pub misuse_text : Misuse → List ℕ
misuse_text NoWords = codes "keyretain: there is no command: see keyretain --help\n"
misuse_text NoSocket = codes
    "keyretain: --socket PATH is missing: where a daemon listens, which a single command is for\n"
misuse_text CallerOfScript = codes
    "keyretain: --uid and --gid are for a single command: a script names its caller by hello\n"
misuse_text NotText = codes "keyretain: an argument isn't UTF-8: hex: and digits spell any bytes of a payload\n"
