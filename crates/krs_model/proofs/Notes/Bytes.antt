-- The bytes of records are those of no other records: each number of a record stands at its place in the bytes.
use Rattle.std.proofs.Common.{[], ◌*◌, ◌++◌, ◌+◌, ◌<◌, ◌∷◌, ◌≡◌, arith, List, refl, slice_index, sym, w32, w64, ℕ}
use Rattle.std.proofs.lemmas.{Bool.Decides.nat_tests, List.append_cancel_left, Nat.from_le_bytes-to_le_bytes_4}
use Rattle.std.proofs.lemmas.Nat.{from_le_bytes-to_le_bytes_8}
use Rattle.std.specs.Int.{from_le_bytes, to_le_bytes}
use Rattle.krs_types.specs.declared.note.KeyEvent.{KeyEvent, TheVariants.{Cleared, Instantiated, Invalidated, Linked}}
use Rattle.krs_types.specs.declared.note.{KeyEvent.TheVariants.{Revoked, Setattr, Unlinked, Updated}, Record.Record}
use Rattle.krs_types.specs.declared.note.Record.TheVariants.{Key, Loss, Removal}
use Rattle.krs_model.specs.Notes.Bytes.{AllFit, bytes_of, bytes_of_all, event_number, Fits}
use Rattle.std.proofs.lemmas.Grind.{common_steps}

-- the two words in front of every record
header_is : (t n s w : ℕ) (tail : List ℕ) → t < 256 → n < 256 → s < 256 → w < 256 →
    to_le_bytes w32 (t + 16777216 * n) ++ (to_le_bytes w32 (s + 256 * w) ++ tail)
    ≡ t ∷ 0 ∷ 0 ∷ n ∷ s ∷ w ∷ 0 ∷ 0 ∷ tail
header_is t n s w tail ht hn hs hw = grind (arith, nat_tests)

pub event_small : (e : KeyEvent) → event_number e < 256
event_small Instantiated = omega arith
event_small Updated = omega arith
event_small Linked = omega arith
event_small Unlinked = omega arith
event_small Cleared = omega arith
event_small Revoked = omega arith
event_small Invalidated = omega arith
event_small Setattr = omega arith

pub bytes_of-Key : (e : KeyEvent) (w k a : ℕ) → w < 256 →
    bytes_of (Key e w k a) ≡ 1 ∷ 0 ∷ 0 ∷ event_number e ∷ 16 ∷ w ∷ 0 ∷ 0 ∷ (to_le_bytes w32 k ++ to_le_bytes w32 a)
bytes_of-Key e w k a h = grind (arith, common_steps, header_is, w32, event_small)

pub bytes_of-Removal : (w id : ℕ) → w < 256 → bytes_of (Removal w id)
    ≡ 0 ∷ 0 ∷ 0 ∷ 0 ∷ 16 ∷ w ∷ 0 ∷ 0 ∷ to_le_bytes w64 id
bytes_of-Removal w id h = header_is 0 0 16 w (to_le_bytes w64 id) (omega arith) (omega arith) (omega arith) h

no_bytes : (r : Record) (rest : List ℕ) → [] ≡ bytes_of r ++ rest → ⊥
no_bytes (Key e w k a) rest h = cc
no_bytes (Removal w id) rest h = cc
no_bytes Loss rest h = cc

-- a number of four bytes, or of eight, from a place on
abbrev four : List ℕ → ℕ → ℕ
four xs i =
    from_le_bytes w32
    (slice_index xs i ∷ slice_index xs (i + 1) ∷ slice_index xs (i + 2) ∷ slice_index xs (i + 3) ∷ [])

abbrev eight : List ℕ → ℕ → ℕ
eight xs i =
    from_le_bytes w64
    (slice_index xs i ∷ slice_index xs (i + 1) ∷ slice_index xs (i + 2) ∷ slice_index xs (i + 3)
    ∷ slice_index xs (i + 4) ∷ slice_index xs (i + 5) ∷ slice_index xs (i + 6) ∷ slice_index xs (i + 7) ∷ [])

abbrev key_bytes : KeyEvent → ℕ → ℕ → ℕ → List ℕ
key_bytes e w k a = 1 ∷ 0 ∷ 0 ∷ event_number e ∷ 16 ∷ w ∷ 0 ∷ 0 ∷ (to_le_bytes w32 k ++ to_le_bytes w32 a)

abbrev removal_bytes : ℕ → ℕ → List ℕ
removal_bytes w id = 0 ∷ 0 ∷ 0 ∷ 0 ∷ 16 ∷ w ∷ 0 ∷ 0 ∷ to_le_bytes w64 id

same_event : (e f : KeyEvent) → event_number e ≡ event_number f → e ≡ f
same_event Instantiated Instantiated h = refl
same_event Updated Updated h = refl
same_event Linked Linked h = refl
same_event Unlinked Unlinked h = refl
same_event Cleared Cleared h = refl
same_event Revoked Revoked h = refl
same_event Invalidated Invalidated h = refl
same_event Setattr Setattr h = refl
same_event e f h = absurd (omega arith)

key_one :
    (e f : KeyEvent) (w v k l a b : ℕ) (x y : List ℕ) → Fits (Key e w k a) → Fits (Key f v l b)
    → key_bytes e w k a ++ x ≡ key_bytes f v l b ++ y → Key e w k a ≡ Key f v l b
key_one e f w v k l a b x y hr hs h = grind (arith, nat_tests, same_event, from_le_bytes-to_le_bytes_4)

removal_one :
    (w v k l : ℕ) (x y : List ℕ) → Fits (Removal w k) → Fits (Removal v l)
    → removal_bytes w k ++ x ≡ removal_bytes v l ++ y → Removal w k ≡ Removal v l
removal_one w v k l x y hr hs h = grind (arith, nat_tests, from_le_bytes-to_le_bytes_8)

-- the type, the subtype and the numbers of what comes first are at their places in the bytes
first_one : (r s : Record) (x y : List ℕ) → Fits r → Fits s → bytes_of r ++ x ≡ bytes_of s ++ y → r ≡ s
first_one (Key e w k a) (Key f v l b) x y hr hs h = grind (arith, nat_tests, key_one, bytes_of-Key)
first_one (Key e w k a) (Removal v l) x y hr hs h = grind (arith, nat_tests, bytes_of-Key, bytes_of-Removal)
first_one (Key e w k a) Loss x y hr hs h = grind (arith, nat_tests, bytes_of-Key)
first_one (Removal w k) (Key f v l b) x y hr hs h = grind (arith, nat_tests, bytes_of-Removal, bytes_of-Key)
first_one (Removal w k) (Removal v l) x y hr hs h = grind (arith, nat_tests, removal_one, bytes_of-Removal)
first_one (Removal w k) Loss x y hr hs h = search bytes_of-Removal depth 8
first_one Loss (Key f v l b) x y hr hs h = grind (arith, nat_tests, bytes_of-Key)
first_one Loss (Removal v l) x y hr hs h = search bytes_of-Removal depth 8
first_one Loss Loss x y hr hs h = refl

-- bytes spell no more than one list of records
pub spelled_once : (rs ss : List Record) → AllFit rs → AllFit ss → bytes_of_all rs ≡ bytes_of_all ss → rs ≡ ss
spelled_once [] [] hr hs e = refl
spelled_once [] (s ∷ ss) hr hs e = absurd (no_bytes s (bytes_of_all ss) e)
spelled_once (r ∷ rs) [] hr hs e = absurd (no_bytes r (bytes_of_all rs) (sym e))
spelled_once (r ∷ rs) (s ∷ ss) hr hs e =
    grind (arith, nat_tests, first_one, append_cancel_left, spelled_once rs ss hr.1 hs.1)
