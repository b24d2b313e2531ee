-- Bytes of records, taken apart as their reader does it.
use Rattle.std.proofs.Common.{[], ◌%◌, ◌*◌, ◌++◌, ◌+◌, ◌/◌, ◌<◌, ◌∙◌, ◌∷◌, ◌≡◌, ◌≤◌, ap, append-nil, arith, bit_and}
use Rattle.std.proofs.Common.{get_or, length, List, refl, Some, suc, sym, w32, zero, ℕ}
use Rattle.std.specs.Int.{from_le_bytes, to_le_bytes}
use Rattle.std.proofs.lemmas.Nat.{and_mask, from_le_bytes-to_le_bytes_4, le_bytes_4, Bits.and_high_mask}
use Rattle.krs_types.specs.declared.note.Record.{Record, TheVariants.{Key, Loss, Removal}}
use Rattle.krs_model.specs.Notes.Bytes.{bytes_of, Fits, info_of, kind_word, size_of, subtype_of, tail_of, type_of}
use Rattle.krs_model.specs.Notes.Bytes.{watch_of}
use Rattle.krs_model.proofs.Notes.Bytes.{event_small}
use Rattle.krs_notes.specs.Laws.{EachIsSpelled, HasOneSpelling, NoneBeginsAnother, word_at}
use Rattle.krs_notes.proofs.Guessing.{guess-begins}

subtype_small : (r : Record) → subtype_of r < 256
subtype_small (Key e w k a) = event_small e
subtype_small (Removal w id) = omega arith
subtype_small Loss = omega arith

type_small : (r : Record) → type_of r < 256
type_small (Key e w k a) = omega arith
type_small (Removal w id) = omega arith
type_small Loss = omega arith

size_small : (r : Record) → size_of r < 128
size_small (Key e w k a) = omega arith
size_small (Removal w id) = omega arith
size_small Loss = omega arith

size_large : (r : Record) → 8 ≤ size_of r
size_large (Key e w k a) = omega arith
size_large (Removal w id) = omega arith
size_large Loss = omega arith

watch_small : (r : Record) → Fits r → watch_of r < 256
watch_small (Key e w k a) h = h.0
watch_small (Removal w id) h = h.0
watch_small Loss h = omega arith

length-bytes_of : (r : Record) → length (bytes_of r) ≡ size_of r
length-bytes_of (Key e w k a) = refl
length-bytes_of (Removal w id) = refl
length-bytes_of Loss = refl

-- the two fields of info, by their masks
info_length-is : (n : ℕ) → bit_and n 127 ≡ n % 128
info_length-is n = and_mask n 7

info_watch-is : (n : ℕ) → n < 65536 → bit_and n 65280 ≡ n / 256 * 256
info_watch-is n h = and_high_mask 16 8 (omega arith) n h

pub each_is_spelled : EachIsSpelled
each_is_spelled r h =
    let t = type_small r in
    let s = subtype_small r in
    let l = size_small r in
    let w = watch_small r h in
    let kind : word_at (bytes_of r) 0 ≡ kind_word r = from_le_bytes-to_le_bytes_4 (kind_word r) (omega arith) in
    let info : word_at (bytes_of r) 4 ≡ info_of r = from_le_bytes-to_le_bytes_4 (info_of r) (omega arith) in
    let size : bit_and (info_of r) 127 ≡ size_of r = info_length-is (info_of r) ∙ omega arith in
    let watch : bit_and (info_of r) 65280 ≡ 256 * watch_of r = info_watch-is (info_of r) (omega arith) ∙ omega arith in
    record {
      size = length-bytes_of r;
      note_type = ap (λ n. n % 16777216) kind ∙ omega arith;
      subtype = ap (λ n. n / 16777216) kind ∙ omega arith;
      info_length = ap (λ n. bit_and n 127) info ∙ size;
      info_watch = ap (λ n. bit_and n 65280) info ∙ watch;
      no_more_info = ap (λ n. bit_and n 127 + bit_and n 65280) info ∙ (omega arith ∙ sym info);
      tail = refl;
    }

four_small : (a b c d : ℕ) → a < 256 → b < 256 → c < 256 → d < 256 → (i : ℕ) → get_or (a ∷ b ∷ c ∷ d ∷ []) i 0 < 256
four_small a b c d ha hb hc hd zero = ha
four_small a b c d ha hb hc hd (suc zero) = hb
four_small a b c d ha hb hc hd (suc (suc zero)) = hc
four_small a b c d ha hb hc hd (suc (suc (suc zero))) = hd
four_small a b c d ha hb hc hd (suc (suc (suc (suc i)))) = omega arith

-- a word is the bytes that it was read of
word-is : (a b c d n : ℕ) → a < 256 → b < 256 → c < 256 → d < 256 → n ≡ from_le_bytes w32 (a ∷ b ∷ c ∷ d ∷ []) →
    to_le_bytes w32 n ≡ a ∷ b ∷ c ∷ d ∷ []
word-is a b c d n ha hb hc hd e = le_bytes_4 (a ∷ b ∷ c ∷ d ∷ []) n refl (four_small a b c d ha hb hc hd) e

pub one_spelling : HasOneSpelling
one_spelling r (a ∷ b ∷ c ∷ d ∷ e ∷ f ∷ g ∷ h ∷ rest) small s =
    let kind : kind_word r ≡ word_at (a ∷ b ∷ c ∷ d ∷ []) 0 =
    let t = s.note_type in let u = s.subtype in omega arith in
    let info : info_of r ≡ word_at (e ∷ f ∷ g ∷ h ∷ []) 0 = let t = s.info_length in let u = s.info_watch in
    let v = s.no_more_info in omega arith in
    let first = word-is a b c d (kind_word r) (small 0 0 (omega arith)) (small 1 0 (omega arith))
    (small 2 0 (omega arith)) (small 3 0 (omega arith)) kind in
    let second = word-is e f g h (info_of r) (small 4 0 (omega arith)) (small 5 0 (omega arith))
    (small 6 0 (omega arith)) (small 7 0 (omega arith)) info in
    sym (ap (λ (xs : List ℕ). xs ++ (to_le_bytes w32 (info_of r) ++ tail_of r)) first
    ∙ (ap (λ (xs : List ℕ). (a ∷ b ∷ c ∷ d ∷ []) ++ (xs ++ tail_of r)) second
    ∙ ap (λ (xs : List ℕ). a ∷ b ∷ c ∷ d ∷ e ∷ f ∷ g ∷ h ∷ xs) (sym s.tail)))
one_spelling r [] small s = let z = size_large r in let t = s.size in absurd (omega arith)
one_spelling r (a ∷ []) small s = let z = size_large r in let t = s.size in absurd (omega arith)
one_spelling r (a ∷ b ∷ []) small s = let z = size_large r in let t = s.size in absurd (omega arith)
one_spelling r (a ∷ b ∷ c ∷ []) small s = let z = size_large r in let t = s.size in absurd (omega arith)
one_spelling r (a ∷ b ∷ c ∷ d ∷ []) small s = let z = size_large r in let t = s.size in absurd (omega arith)
one_spelling r (a ∷ b ∷ c ∷ d ∷ e ∷ []) small s = let z = size_large r in let t = s.size in absurd (omega arith)
one_spelling r (a ∷ b ∷ c ∷ d ∷ e ∷ f ∷ []) small s = let z = size_large r in let t = s.size in absurd (omega arith)
one_spelling r (a ∷ b ∷ c ∷ d ∷ e ∷ f ∷ g ∷ []) small s =
    let z = size_large r in let t = s.size in absurd (omega arith)

-- one that began another would be the guess of the other's bytes
pub none_begins_another : NoneBeginsAnother
none_begins_another r s hr hs b =
    let one : Some s ≡ Some r = sym (guess-begins s (bytes_of s) hs ([], append-nil (bytes_of s)))
    ∙ guess-begins r (bytes_of s) hr b in
    cc
