-- Which options the words of the daemon spell: keyretaind(8), "SYNOPSIS" and "DESCRIPTION". `matches_of` says what
-- `clap` finds in words for a command line.
use Rattle.std.specs.Prelude.{[], ◌<◌, ◌^◌, ◌∷◌, ◌≡◌, ◌≤◌, ◌⊎◌, codes, IfSome, List, None, Option, pos, Some}
use Rattle.std.specs.Prelude.{string_bytes, true, ℕ}
use Rattle.clap.specs.Words.{App, first_value, found_of, matches_of, new_app, new_rule, one_text, rows_of, Rule}
use Rattle.clap.specs.{Words.with_rule, declared.parser.matches.{ArgMatches.ArgMatches, Found.Found}}
use Rattle.std.specs.Str.Parse.{digits_value, IsNumeral, without_leading_plus}
use Rattle.krs_listen.specs.declared.options.Options.{Options}
use Rattle.clap.specs.declared.builder.value_parser.ValueParser.TheVariants as parser

-- `--socket PATH`, which must be there; `--lanes L`, 1 to 256, and 16 where it isn't there; `--accept N`
abbrev pub socket_rule : Rule
socket_rule = record (new_rule (codes "socket")) {
  long = Some (codes "socket");
  value_names = 1;
  required = true;
}

abbrev pub lanes_rule : Rule
lanes_rule = record (new_rule (codes "lanes")) {
  long = Some (codes "lanes");
  value_names = 1;
  parser = Some (parser.Signed (pos 1) (pos 256));
  defaults = codes "16" ∷ [];
}

abbrev pub accept_rule : Rule
accept_rule = record (new_rule (codes "accept")) {
  long = Some (codes "accept");
  value_names = 1;
  parser = Some (parser.Signed (pos 0) (pos 4294967295));
}

-- the daemon's command line
abbrev pub named : App
named = record (new_app (codes "keyretaind")) { top = record (new_app (codes "keyretaind")).top { has_version = true } }

abbrev pub daemon : App
daemon = with_rule (with_rule (with_rule named socket_rule) lanes_rule) accept_rule

-- the number that a text is in decimal digits, behind a `+` or not, if there is a text and it is one
abbrev pub IsGiven : Option (List ℕ) → Option ℕ → Type 0
IsGiven None number = number ≡ None
IsGiven (Some text) (Some number) =
    IsNumeral 10 (without_leading_plus text) × (number ≡ digits_value 10 (without_leading_plus text))
IsGiven (Some text) None =
    ¬ (IsNumeral 10 (without_leading_plus text) × (digits_value 10 (without_leading_plus text) < 2 ^ 32))

-- The options that arguments give. They give none without a path, or without a number of lanes that a desk may have.
abbrev pub Gives : Found → Option Options → Type 0
Gives found None = (first_value found (codes "socket") ≡ None)
    ⊎ ((lanes : Option ℕ) × IsGiven (one_text found (codes "lanes")) lanes
    × IfSome lanes (λ lanes. ¬ ((0 < lanes) × (lanes ≤ 256))))
Gives found (Some options) = (first_value found (codes "socket") ≡ Some (string_bytes options.path))
    × IsGiven (one_text found (codes "lanes")) (Some options.lanes)
    × IsGiven (one_text found (codes "accept")) options.accept

-- the options that words spell: `clap` finds these arguments in them, which give these options
abbrev pub Spells : List (List ℕ) → Option Options → Type 0
Spells words options = (matches : ArgMatches)
    × (rows_of (found_of matches) ≡ matches_of daemon words) × Gives (found_of matches) options
