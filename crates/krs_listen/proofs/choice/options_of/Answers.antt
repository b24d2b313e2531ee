use Rattle.std.proofs.Common.{◌∙◌, ◌≡◌, ap, codes, rules, Some, string_bytes, sym}
use Rattle.clap.specs.Words.{first_value, found_of, one_text}
use Rattle.std.specs.Str.Parse.{ExplainsUnsignedError, HasUnsignedDigitsIfOk, ParsesUnsigned}
use Rattle.krs_listen.specs.CommandLine.{IsGiven}
use Rattle.krs_listen.proofs.CommandLineLemmas.{gives_made, is_given, some_weaker}
use Rattle.krs_listen.proofs.choice.options_of.Goals as goal

pub returns : goal.returns
returns c =
    let found = found_of c.args.matches.now in
    let socket : first_value found (codes "socket") ≡ Some (string_bytes c.in_ok-to_string.field-0) = search rules in
    let lanes : IsGiven (one_text found (codes "lanes")) (Some c.in-Some-get_one.lanes) =
    rw c.in-Some-get_one.is at (is_given
    (λ bs r. ParsesUnsigned 32 10 bs r × ExplainsUnsignedError 10 bs r × HasUnsignedDigitsIfOk bs r)
    (one_text found (codes "lanes")) c.get_one.result (λ t r h. h.0) c.get_one.ensures.none c.get_one.ensures.value) in
    let accept = is_given
    (λ bs r. ParsesUnsigned 32 10 bs r × ExplainsUnsignedError 10 bs r × HasUnsignedDigitsIfOk bs r)
    (one_text found (codes "accept")) c.get_one-accept.result (λ t r h. h.0) c.get_one-accept.ensures.none
    c.get_one-accept.ensures.value in
    gives_made found c.new.result c.in-Some-get_one.lanes c.get_one-accept.result c.new.ensures.fits
    (some_weaker c.new.result _ _ (λ options same. socket
    ∙ ap (λ p. Some (string_bytes p)) (sym same)) c.new.ensures.path)
    c.new.ensures.lanes c.new.ensures.accept lanes accept
