-- The record whose bytes come first is the one that is guessed by its type, subtype and length.
use Rattle.std.proofs.Common.{◌++◌, ◌∙◌, ◌∷◌, ◌≡◌, ◌≤◌, ap, arith, false, le-ltb, length, List, ltb, refl, slice_index}
use Rattle.std.proofs.Common.{Some, sym, w32, w64, ℕ}
use Rattle.std.specs.Int.{from_le_bytes, to_le_bytes}
use Rattle.std.proofs.lemmas.Nat.{from_le_bytes-to_le_bytes_4, from_le_bytes-to_le_bytes_8}
use Rattle.krs_types.specs.declared.note.KeyEvent.{KeyEvent, TheVariants.{Cleared, Instantiated, Invalidated, Linked}}
use Rattle.krs_types.specs.declared.note.KeyEvent.TheVariants.{Revoked, Setattr, Unlinked, Updated}
use Rattle.krs_types.specs.declared.note.Record.{Record, TheVariants.{Key, Loss, Removal}}
use Rattle.krs_model.specs.{Lists.Begins, Notes.Bytes.{bytes_of, event_number, Fits}}
use Rattle.krs_model.proofs.Notes.Bytes.{bytes_of-Key, bytes_of-Removal}
use Rattle.krs_notes.specs.Guess.{eight, event_numbered, four, guess}

event_numbered-event_number : (e : KeyEvent) → event_numbered (event_number e) ≡ Some e
event_numbered-event_number Instantiated = refl
event_numbered-event_number Updated = refl
event_numbered-event_number Linked = refl
event_numbered-event_number Unlinked = refl
event_numbered-event_number Cleared = refl
event_numbered-event_number Revoked = refl
event_numbered-event_number Invalidated = refl
event_numbered-event_number Setattr = refl

guess-key : (xs : List ℕ) (e : KeyEvent) → 16 ≤ length xs → slice_index xs 0 ≡ 1 →
    event_numbered (slice_index xs 3) ≡ Some e →
    guess xs ≡ Some (Key e (slice_index xs 5) (from_le_bytes w32 (four xs 8)) (from_le_bytes w32 (four xs 12)))
guess-key xs e long kind sub =
    let a : ltb (length xs) 8 ≡ false = le-ltb _ _ (omega arith) in
    let b : ltb (length xs) 16 ≡ false = le-ltb _ _ (omega arith) in
    rw (a, kind, b, sub) refl

guess-removal : (xs : List ℕ) → 16 ≤ length xs → slice_index xs 0 ≡ 0 → slice_index xs 3 ≡ 0 →
    guess xs ≡ Some (Removal (slice_index xs 5) (from_le_bytes w64 (eight xs 8)))
guess-removal xs long kind sub =
    let a : ltb (length xs) 8 ≡ false = le-ltb _ _ (omega arith) in
    let b : ltb (length xs) 16 ≡ false = le-ltb _ _ (omega arith) in
    rw (a, kind, sub, b) refl

guess-loss : (xs : List ℕ) → 8 ≤ length xs → slice_index xs 0 ≡ 0 → slice_index xs 3 ≡ 1 → guess xs ≡ Some Loss
guess-loss xs long kind sub =
    let a : ltb (length xs) 8 ≡ false = le-ltb _ _ (omega arith) in
    rw (a, kind, sub) refl

-- the record whose bytes come first is guessed, whatever comes after them
guess-append : (r : Record) (rest : List ℕ) → Fits r → guess (bytes_of r ++ rest) ≡ Some r
guess-append (Key e w k a) rest h =
    ap (λ (xs : List ℕ). guess (xs ++ rest)) (bytes_of-Key e w k a h.0)
    ∙ (guess-key ((1 ∷ 0 ∷ 0 ∷ event_number e ∷ 16 ∷ w ∷ 0 ∷ 0 ∷ (to_le_bytes w32 k ++ to_le_bytes w32 a)) ++ rest)
    e (omega arith) refl (event_numbered-event_number e)
    ∙ (ap (λ n. Some (Key e w n (from_le_bytes w32 (to_le_bytes w32 a)))) (from_le_bytes-to_le_bytes_4 k h.1)
    ∙ ap (λ n. Some (Key e w k n)) (from_le_bytes-to_le_bytes_4 a h.2)))
guess-append (Removal w id) rest h =
    ap (λ (xs : List ℕ). guess (xs ++ rest)) (bytes_of-Removal w id h.0)
    ∙ (guess-removal ((0 ∷ 0 ∷ 0 ∷ 0 ∷ 16 ∷ w ∷ 0 ∷ 0 ∷ to_le_bytes w64 id) ++ rest) (omega arith) refl refl
    ∙ ap (λ n. Some (Removal w n)) (from_le_bytes-to_le_bytes_8 id h.1))
guess-append Loss rest h = guess-loss (bytes_of Loss ++ rest) (omega arith) refl refl

pub guess-begins : (r : Record) (bytes : List ℕ) → Fits r → Begins (bytes_of r) bytes → guess bytes ≡ Some r
guess-begins r bytes h b = ap guess (sym b.1) ∙ guess-append r b.0 h
