-- Numbers, keys and data as words spell them: keyretain(1), "Lines"; profile, numbers in words.
use Rattle.std.specs.Prelude.{◌&&◌, ◌^◌, Bool, bytes_eq, codes, drop, if◌then◌else◌, length, List, nat_eq, nat_le}
use Rattle.std.specs.Prelude.{nat_lt, negsuc, None, Option, option_map, pos, Some, ℕ, ℤ}
use Rattle.hex.specs.Hex.{decode_of}
use Rattle.std.specs.Char.{is_ascii_digit, is_ascii_hexdigit}
use Rattle.std.specs.{List.{list_all, starts_with}, Result.result_ok, Str.Parse.digits_value}
use Rattle.krs_words.specs.Parsed.{each_of}

-- one decimal digit or more, and nothing else
abbrev pub is_decimal : List ℕ → Bool
is_decimal word = nat_lt 0 (length word) && list_all is_ascii_digit word

-- a decimal number below the limit, with leading zeros or without
abbrev pub number_below : ℕ → List ℕ → Option ℕ
number_below limit word =
    if is_decimal word && nat_lt (digits_value 10 word) limit then Some (digits_value 10 word) else None

-- a number of 32 bits, as uids, gids and contexts are
abbrev pub u32_of : List ℕ → Option ℕ
u32_of = number_below (2 ^ 32)

-- a number of 64 bits, as moments are
abbrev pub u64_of : List ℕ → Option ℕ
u64_of = number_below (2 ^ 64)

-- every word is a number of 32 bits
abbrev pub u32s_of : List (List ℕ) → Option (List ℕ)
u32s_of = each_of u32_of

-- one to eight hexadecimal digits of either case, leading zeros counted, and nothing else
abbrev pub is_hexadecimal : List ℕ → Bool
is_hexadecimal word = nat_lt 0 (length word) && nat_le (length word) 8 && list_all is_ascii_hexdigit word

-- a hexadecimal number, as masks are
abbrev pub hexadecimal_of : List ℕ → Option ℕ
hexadecimal_of word = if is_hexadecimal word then Some (digits_value 16 word) else None

-- a key or keyring: a serial, or the special ids -1 to -5 by the names that keyctl(1) gives them
abbrev pub key_of : List ℕ → Option ℤ
key_of word =
    if bytes_eq word (codes "@t") then Some (negsuc 0)
    else if bytes_eq word (codes "@p") then Some (negsuc 1)
    else if bytes_eq word (codes "@s") then Some (negsuc 2)
    else if bytes_eq word (codes "@u") then Some (negsuc 3)
    else if bytes_eq word (codes "@us") then Some (negsuc 4)
    else option_map pos (number_below (2 ^ 31) word)

-- a payload: the word's own bytes, or those that the digits after `hex:` spell, two for each
abbrev pub data_of : List ℕ → Option (List ℕ)
data_of word =
    if starts_with nat_eq word (codes "hex:") then result_ok (decode_of (drop 4 word)) else Some word

-- the id of a watch: a number, or `off` for -1, which ends it
abbrev pub watch_id_of : List ℕ → Option ℤ
watch_id_of word =
    if bytes_eq word (codes "off") then Some (negsuc 0) else option_map pos (number_below (2 ^ 31) word)
