-- Which choice the words of the client make: keyretain(1), "SYNOPSIS" and "DESCRIPTION". `matches_of` says what `clap`
-- finds in words for a command line.
use Rattle.std.specs.Prelude.{[], ⊤, ◌<◌, ◌^◌, ◌∷◌, ◌≡◌, ◌≢◌, ◌⊎◌, codes, List, None, Option, option_map, pos, Some}
use Rattle.std.specs.Prelude.{string_bytes, true, unwrap_or, ℕ}
use Rattle.clap.specs.{Lexer.usize_max, Words.{App, fault_of, first_value, found_of, IsAmong, matched_of, matches_of}}
use Rattle.clap.specs.Words.{new_app, new_rule, one_text, raw_values, rows_of, Rule, with_rule}
use Rattle.clap.specs.declared.builder.action.ArgAction.TheVariants.{Append}
use Rattle.clap.specs.declared.error.kind.ErrorKind.{ErrorKind, TheVariants.{DisplayHelp, DisplayVersion}}
use Rattle.clap.specs.declared.parser.matches.{ArgMatches.ArgMatches, Found.Found}
use Rattle.std.specs.Str.Parse.{digits_value, IsNumeral, without_leading_plus}
use Rattle.krs_types.specs.declared.caller.Caller.{Caller}
use Rattle.krs_remote.specs.Call.{call_of}
use Rattle.krs_ctl.specs.declared.choice.Choice.{Choice, TheVariants.Call}
use Rattle.krs_ctl.specs.declared.choice.Choice.TheVariants.{Memory, NoCommand, Refused, Remote, Script, Shown, Usage}
use Rattle.krs_ctl.specs.declared.choice.Misuse.TheVariants.{CallerOfScript, NoSocket, NoWords}
use Rattle.clap.specs.declared.builder.value_parser.ValueParser.TheVariants as parser

-- `--socket PATH`; `--uid N` and `--gid N`, of 32 bits; and all words from the command on, whatever they begin with
abbrev pub option_rule : List ℕ → Rule
option_rule name = record (new_rule name) { long = Some name; value_names = 1 }

abbrev pub number_rule : List ℕ → Rule
number_rule name = record (option_rule name) { parser = Some (parser.Signed (pos 0) (pos 4294967295)) }

abbrev pub words_rule : Rule
words_rule = record (new_rule (codes "COMMAND")) {
  action = Some Append;
  range = Some (record { start_inclusive = 0; end_inclusive = usize_max });
  trailing_var_arg = true;
}

-- the client's command line
abbrev pub named : App
named = record (new_app (codes "keyretain")) { top = record (new_app (codes "keyretain")).top { has_version = true } }

abbrev pub client : App
client =
    with_rule (with_rule (with_rule (with_rule named (option_rule (codes "socket"))) (number_rule (codes "uid")))
    (number_rule (codes "gid"))) words_rule

-- the number that a text is in decimal digits, behind a `+` or not, if there is a text and it is one
abbrev pub IsGiven : Option (List ℕ) → Option ℕ → Type 0
IsGiven None number = number ≡ None
IsGiven (Some text) (Some number) =
    IsNumeral 10 (without_leading_plus text) × (number ≡ digits_value 10 (without_leading_plus text))
IsGiven (Some text) None =
    ¬ (IsNumeral 10 (without_leading_plus text) × (digits_value 10 (without_leading_plus text) < 2 ^ 32))

-- the caller that arguments name: of the uid and the gid that they give, each 0 where they give none, and in no groups
pub record Names (found : Found) (caller : Caller) : Type 0 where
  pub uid : Option ℕ
  pub gid : Option ℕ
  pub given_uid : IsGiven (one_text found (codes "uid")) uid
  pub given_gid : IsGiven (one_text found (codes "gid")) gid
  pub caller_uid : caller.uid ≡ unwrap_or uid 0
  pub caller_gid : caller.gid ≡ unwrap_or gid 0
  pub groups : caller.groups ≡ []

-- the words of the command, none where there are none
abbrev pub command_in : Found → List (List ℕ)
command_in found = unwrap_or (option_map raw_values (matched_of found (codes "COMMAND"))) []

-- they are the one word `script`
abbrev pub IsScript : Found → Type 0
IsScript found = command_in found ≡ codes "script" ∷ []

-- arguments name no caller
abbrev pub NameNone : Found → Type 0
NameNone found = (first_value found (codes "uid") ≡ None) × (first_value found (codes "gid") ≡ None)

-- what `script` chooses, which names no caller: a script over a connection to the path that is given, and on a store of
-- its own where none is
abbrev pub Runs : Found → Choice → Type 0
Runs found Script = NameNone found × (first_value found (codes "socket") ≡ None)
Runs found (Remote path) = NameNone found × (first_value found (codes "socket") ≡ Some (string_bytes path))
Runs found (Call call) = ⊥
Runs found (Usage why) = ¬ NameNone found × (why ≡ CallerOfScript)
Runs found (NoCommand text) = ⊥
Runs found Memory = ⊤
Runs found (Shown text) = ⊥
Runs found (Refused text) = ⊥

-- what the words of a single call choose for a caller over a connection to a path: the command that they spell, if any
abbrev pub CallsOver : List ℕ → Caller → List (List ℕ) → Choice → Type 0
CallsOver path caller words Script = ⊥
CallsOver path caller words (Remote other) = ⊥
CallsOver path caller words (Call call) =
    (string_bytes call.path ≡ path) × (call.caller ≡ caller) × (call_of words ≡ Some call.command)
CallsOver path caller words (Usage why) = ⊥
CallsOver path caller words (NoCommand text) = call_of words ≡ None
CallsOver path caller words Memory = ⊤
CallsOver path caller words (Shown text) = ⊥
CallsOver path caller words (Refused text) = ⊥

-- what words other than `script` choose: a single call over a connection to the path that is given, for the caller that
-- is named; where there is no word or no path, they are none that the program takes
abbrev pub Calls : Found → Choice → Type 0
Calls found Script = ⊥
Calls found (Remote path) = ⊥
Calls found (Call call) =
    (first_value found (codes "socket") ≡ Some (string_bytes call.path)) × Names found call.caller
    × (command_in found ≢ []) × (call_of (command_in found) ≡ Some call.command)
Calls found (Usage why) =
    ((command_in found ≡ []) × (why ≡ NoWords)) ⊎ ((first_value found (codes "socket") ≡ None) × (why ≡ NoSocket))
Calls found (NoCommand text) =
    (first_value found (codes "socket") ≢ None) × (command_in found ≢ []) × (call_of (command_in found) ≡ None)
Calls found Memory = ⊤
Calls found (Shown text) = ⊥
Calls found (Refused text) = ⊥

-- what arguments choose: the lines of a script, or a single call
abbrev pub Chooses : Found → Choice → Type 0
Chooses found choice = (IsScript found → Runs found choice) × (¬ IsScript found → Calls found choice)

-- the choice that words spell: `clap` finds these arguments in them, which choose it
abbrev pub Spells : List (List ℕ) → Choice → Type 0
Spells words choice = (matches : ArgMatches)
    × (rows_of (found_of matches) ≡ matches_of client words) × Chooses (found_of matches) choice

-- Where words lead: those in which `clap` finds no fault to the choice that they spell; a question for help or the
-- version is shown an answer, and any other fault is refused; and memory may run out for any.
abbrev pub LeadsTo : List (List ℕ) → Choice → Type 0
LeadsTo words Script = Spells words Script × (fault_of client words ≡ [])
LeadsTo words (Remote path) = Spells words (Remote path) × (fault_of client words ≡ [])
LeadsTo words (Call call) = Spells words (Call call) × (fault_of client words ≡ [])
LeadsTo words (Usage why) = Spells words (Usage why) × (fault_of client words ≡ [])
LeadsTo words (NoCommand text) = Spells words (NoCommand text) × (fault_of client words ≡ [])
LeadsTo words Memory = ⊤
LeadsTo words (Shown text) =
    IsAmong DisplayHelp (fault_of client words) ⊎ IsAmong DisplayVersion (fault_of client words)
LeadsTo words (Refused text) = (kind : ErrorKind) × IsAmong kind (fault_of client words)
    × (kind ≢ DisplayHelp) × (kind ≢ DisplayVersion)
