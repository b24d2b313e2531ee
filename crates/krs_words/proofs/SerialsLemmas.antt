-- Serials that are shown one after the other.
use Rattle.std.proofs.Common.{[], ◌*◌, ◌++◌, ◌+◌, ◌-◌, ◌<◌, ◌^◌, ◌∙◌, ◌∷◌, ◌≡◌, ◌≤◌, ap, append_assoc, arith, decimal}
use Rattle.std.proofs.Common.{drop, get_or, length, length-drop, List, refl, sym, take, take_all, ℕ}
use Rattle.std.proofs.lemmas.{Bool.Decides.nat_tests, Fmt.decimal_nonempty}
use Rattle.krs_words.specs.Printing.{serials_in, shown_serials, with_serial}

-- what is shown where these serials follow a text
abbrev pub continued : List ℕ → List ℕ → List ℕ
continued [] serials = shown_serials serials
continued (b ∷ bs) [] = b ∷ bs
continued (b ∷ bs) (n ∷ serials) = (b ∷ bs) ++ 32 ∷ shown_serials (n ∷ serials)

pub continued-nil : (text : List ℕ) → continued text [] ≡ text
continued-nil [] = refl
continued-nil (b ∷ bs) = refl

-- a text with bytes
continued-some : (text serials : List ℕ) (n : ℕ) → 0 < length text
    → continued text (n ∷ serials) ≡ text ++ 32 ∷ shown_serials (n ∷ serials)
continued-some [] serials n some = absurd (omega arith)
continued-some (b ∷ bs) serials n some = refl

-- behind a text that ends with a serial
shown-first : (n : ℕ) (serials : List ℕ) → n < 2 ^ 64
    → continued (decimal n) serials ≡ shown_serials (n ∷ serials)
shown-first n [] low = continued-nil (decimal n)
shown-first n (m ∷ serials) low = continued-some (decimal n) serials m (decimal_nonempty n low)

shown-next : (b : ℕ) (bs : List ℕ) (n : ℕ) (serials : List ℕ)
    → continued ((b ∷ bs) ++ 32 ∷ decimal n) serials ≡ (b ∷ bs) ++ 32 ∷ shown_serials (n ∷ serials)
shown-next b bs n [] = refl
shown-next b bs n (m ∷ serials) = append_assoc (b ∷ bs) (32 ∷ decimal n) (32 ∷ shown_serials (m ∷ serials))

with_serial-some : (b : ℕ) (bs : List ℕ) (n : ℕ) → with_serial (b ∷ bs) n ≡ (b ∷ bs) ++ 32 ∷ decimal n
with_serial-some b bs n = grind (arith, nat_tests)

-- one more serial is shown
pub continued-more : (text serials : List ℕ) (n : ℕ) → n < 2 ^ 64
    → continued (with_serial text n) serials ≡ continued text (n ∷ serials)
continued-more [] serials n low = shown-first n serials low
continued-more (b ∷ bs) serials n low =
    ap (λ text. continued text serials) (with_serial-some b bs n) ∙ shown-next b bs n serials

-- the first serial of bytes
serials_in-more : (bytes : List ℕ) (n : ℕ) → 4 ≤ length bytes
    → n ≡ get_or bytes 0 0 + get_or bytes 1 0 * 256 + get_or bytes 2 0 * 65536 + get_or bytes 3 0 * 16777216
    → serials_in bytes ≡ n ∷ serials_in (drop 4 bytes)
serials_in-more [] n long is = absurd (omega arith)
serials_in-more (a ∷ []) n long is = absurd (omega arith)
serials_in-more (a ∷ b ∷ []) n long is = absurd (omega arith)
serials_in-more (a ∷ b ∷ c ∷ []) n long is = absurd (omega arith)
serials_in-more (a ∷ b ∷ c ∷ d ∷ bytes) n long is = ap (λ k. k ∷ serials_in bytes) (sym is)

-- a serial that is shown is left no more
pub shown_on : (text new left whole : List ℕ) (n : ℕ) → n < 2 ^ 64 → 4 ≤ length left
    → n ≡ get_or left 0 0 + get_or left 1 0 * 256 + get_or left 2 0 * 65536 + get_or left 3 0 * 16777216
    → new ≡ with_serial text n → continued text (serials_in left) ≡ whole
    → continued new (serials_in (take (length left - 4) (drop 4 left))) ≡ whole
shown_on text new left whole n low long is more so_far =
    rw (more, take_all (length left - 4) (drop 4 left) (omega (arith, length-drop 4 left)))
    (continued-more text (serials_in (drop 4 left)) n low)
    ∙ ap (continued text) (sym (serials_in-more left n long is)) ∙ so_far
