-- What is printed for a reply: keyretain(1), "Commands".
use Rattle.std.specs.Prelude.{[], ◌&&◌, ◌++◌, ◌==◌, ◌∷◌, Bool, codes, decimal, Err, if◌then◌else◌, length, List, map}
use Rattle.std.specs.Prelude.{nat_le, Ok, Result, ℕ}
use Rattle.hex.specs.Hex.{encode_lower}
use Rattle.std.specs.{Int.{from_le_bytes, w32}, List.{join_with_byte, list_all}}
use Rattle.krs_types.specs.Errno.{name_of, number_of}
use Rattle.krs_types.specs.declared.{ask.Answer.{Answer, TheVariants.{Bytes, Nothing, Number}}, errno.Errno.Errno}
use Rattle.krs_words.specs.declared.output.Output.{Output, TheVariants.{Records, Reply, Serials}}

-- every byte prints as it is: from the space to the tilde
abbrev pub is_printable : List ℕ → Bool
is_printable bytes = list_all (λ b. nat_le 32 b && nat_le b 126) bytes

-- bytes as they are, or in hexadecimal where one does not print
abbrev pub shown_bytes : List ℕ → List ℕ
shown_bytes bytes = if is_printable bytes then bytes else codes ":hex:" ++ encode_lower bytes

-- the line of an answer, without its end
abbrev pub shown_answer : Answer → List ℕ
shown_answer Nothing = codes "ok"
shown_answer (Number n) = decimal n
shown_answer (Bytes bytes) = shown_bytes bytes

-- the line of a refusal, without its end: the error's number and name
abbrev pub shown_refusal : Errno → List ℕ
shown_refusal e = codes "error " ++ decimal (number_of e) ++ codes " " ++ name_of e

-- the line of a reply, without its end
abbrev pub shown_reply : Result Answer Errno → List ℕ
shown_reply (Ok answer) = shown_answer answer
shown_reply (Err e) = shown_refusal e

-- the serials that bytes spell, four each, the lowest first: profile, reading a keyring
abbrev pub serials_in : List ℕ → List ℕ
serials_in (a ∷ b ∷ c ∷ d ∷ bytes) = from_le_bytes w32 (a ∷ b ∷ c ∷ d ∷ []) ∷ serials_in bytes
serials_in _ = []

-- serials in decimal with one space between, nothing for none
abbrev pub shown_serials : List ℕ → List ℕ
shown_serials serials = join_with_byte 32 (map decimal serials)

-- a text of serials and one more
abbrev pub with_serial : List ℕ → ℕ → List ℕ
with_serial text serial = if length text == 0 then decimal serial else text ++ 32 ∷ decimal serial

-- the line of what a command comes to, without its end
abbrev pub shown : Output → List ℕ
shown (Reply reply) = shown_reply reply
shown (Serials bytes) = shown_serials (serials_in bytes)
shown (Records bytes) = encode_lower bytes
