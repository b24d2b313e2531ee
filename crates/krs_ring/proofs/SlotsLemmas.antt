-- Slots, and the waiting list that they stand for.
use Rattle.std.proofs.Common.{[], ◌*◌, ◌++◌, ◌+◌, ◌-◌, ◌<◌, ◌∙◌, ◌∷◌, ◌≡◌, ◌≤◌, ap, append_assoc, arith, Bool, false}
use Rattle.std.proofs.Common.{le-ltb, length, length-append, List, lt-ltb, ltb, None, refl, slice_get, Some, suc, sym}
use Rattle.std.proofs.Common.{take, true, ℕ}
use Rattle.circular_buffer.specs.Buffer.{Buffer, buffer, keep_last, last_item}
use Rattle.circular_buffer.proofs.Places.{slice_get-some}
use Rattle.krs_types.specs.declared.note.Record.{Record, TheVariants.{Key, Loss, Removal}}
use Rattle.krs_model.specs.Notes.Bytes.{bytes_of, bytes_of_all, is_loss}
use Rattle.krs_model.specs.Notes.{Stream.{loss_if}, Waiting.{after_post, total_room, with_loss}}
use Rattle.krs_model.proofs.Notes.Streams.{ends_lost, ends_lost-append, marked_list, total_room-append, with_loss-is}
use Rattle.krs_ring.specs.{Ring.Ring, Slots.{HasNoLoss, marked, notes_of}, View.ring_of, declared.ring.Slot.Slot}
use Rattle.std.proofs.lemmas.Grind.{common_steps}

notes_of-append : (a b : List Slot) → notes_of (a ++ b) ≡ notes_of a ++ notes_of b
notes_of-append [] b = refl
notes_of-append (s ∷ a) b = grind (arith, common_steps, append_assoc, notes_of-append a b)

total_room-loss_if : (lost : Bool) → total_room (loss_if lost) ≡ 0
total_room-loss_if true = refl
total_room-loss_if false = refl

total_room-notes_of : (slots : List Slot) → HasNoLoss slots → total_room (notes_of slots) ≡ length slots
total_room-notes_of [] h = refl
total_room-notes_of (s ∷ slots) h =
    grind (arith, common_steps, total_room-append, total_room-loss_if, total_room-notes_of slots h.1)

-- each slot takes the room of one record
pub total_room-waiting : (owed : Bool) (slots : List Slot) → HasNoLoss slots →
    total_room (loss_if owed ++ notes_of slots) ≡ length slots
total_room-waiting owed slots h =
    grind (arith, common_steps, total_room-append, total_room-loss_if, total_room-notes_of)

pub HasNoLoss-append : (a b : List Slot) → HasNoLoss a → HasNoLoss b → HasNoLoss (a ++ b)
HasNoLoss-append [] b h k = k
HasNoLoss-append (s ∷ a) b h k = (h.0, HasNoLoss-append a b h.1 k)

pub HasNoLoss-marked : (slots : List Slot) → HasNoLoss slots → HasNoLoss (marked slots)
HasNoLoss-marked [] h = tt
HasNoLoss-marked (s ∷ []) h = h
HasNoLoss-marked (s ∷ t ∷ slots) h = (h.0, HasNoLoss-marked (t ∷ slots) h.1)

length-marked : (slots : List Slot) → length (marked slots) ≡ length slots
length-marked [] = refl
length-marked (s ∷ []) = refl
length-marked (s ∷ t ∷ slots) = let h = length-marked (t ∷ slots) in omega arith

-- what is marked ends with a loss, as it did or with one more
notes_of-marked : (before : Bool) (s : Slot) (slots : List Slot) → HasNoLoss (s ∷ slots) →
    notes_of (marked (s ∷ slots)) ≡ marked_list (ends_lost before (notes_of (s ∷ slots))) (notes_of (s ∷ slots))
notes_of-marked before s [] h = grind (arith, common_steps, marked_list, ends_lost)
notes_of-marked before s (t ∷ slots) h =
    let more = notes_of (t ∷ slots) in
    let begun = ends_lost (is_loss s.kept) (loss_if s.lost) in
    let ends : ends_lost before (notes_of (s ∷ t ∷ slots))
    ≡ ends_lost begun more = ends_lost-append (is_loss s.kept) (loss_if s.lost) more in
    let front : List Record → List Record = λ xs. s.kept ∷ (loss_if s.lost ++ xs) in
    let push = λ (b : Bool). elim b as (λ b. front (marked_list b more) ≡ marked_list b (front more)) [
      | true ↦ refl
      | false ↦ ap (λ (xs : List Record). s.kept ∷ xs) (sym (append_assoc (loss_if s.lost) more (Loss ∷ [])))
    ] in
    ap front (notes_of-marked begun t slots h.1) ∙
    (push (ends_lost begun more) ∙ ap (λ b. marked_list b (front more)) (sym ends))

-- the mark that a ring makes is the loss that its waiting list gets
waiting-marked : (owed : Bool) (slots : List Slot) → HasNoLoss slots → 1 ≤ length slots →
    loss_if owed ++ notes_of (marked slots) ≡ with_loss (loss_if owed ++ notes_of slots)
waiting-marked owed [] h one = absurd (omega arith)
waiting-marked true (s ∷ slots) h one =
    let more = notes_of (s ∷ slots) in
    ap (λ (xs : List Record). Loss ∷ xs) (notes_of-marked true s slots h)
    ∙ (elim (ends_lost true more) as (λ b. Loss ∷ marked_list b more ≡ marked_list b (Loss ∷ more))
    [ true ↦ refl | false ↦ refl ]
    ∙ sym (with_loss-is (Loss ∷ more)))
waiting-marked false (s ∷ slots) h one = notes_of-marked false s slots h ∙ sym (with_loss-is (notes_of (s ∷ slots)))

-- the last slot, taken out and put back marked
marked-is : (s : Slot) (slots : List Slot) → slice_get slots (length slots - 1) ≡ Some s →
    take (length slots - 1) slots ++ record s { lost = true } ∷ [] ≡ marked slots
marked-is s [] h = absurd cc
marked-is s (t ∷ []) h = let e : t ≡ s = cc in ap (λ (x : Slot). record x { lost = true } ∷ []) (sym e)
marked-is s (t ∷ u ∷ slots) h =
    let n : suc (suc (length slots)) - 1 ≡ suc (length slots) = omega arith in
    let m : suc (length slots) - 1 ≡ length slots = omega arith in
    let here : slice_get (u ∷ slots) (length slots) ≡ Some s = rw n at h in
    let last : slice_get (u ∷ slots) (suc (length slots) - 1) ≡ Some s = rw m here in
    let rest : take (length slots) (u ∷ slots) ++ record s { lost = true } ∷ []
    ≡ marked (u ∷ slots) = rw m at (marked-is s (u ∷ slots) last) in
    rw n (ap (λ (xs : List Slot). t ∷ xs) rest)

keep_last-all : (n : ℕ) (xs : List Slot) → length xs ≤ n → keep_last n xs ≡ xs
keep_last-all n xs h = let z : length xs - n ≡ 0 = omega arith in rw z refl

-- what a pop and a push leave of a full buffer
pub last-marked : (b p q : Buffer Slot) (s : Slot) → length b.items ≡ b.capacity → 1 ≤ b.capacity →
    p ≡ buffer (take (length b.items - 1) b.items) b.capacity → Some s ≡ last_item b.items →
    q ≡ buffer (keep_last p.capacity (p.items ++ record s { lost = true } ∷ [])) p.capacity →
    q ≡ buffer (marked b.items) b.capacity
last-marked b p q s full one popped last pushed =
    let all : keep_last b.capacity (take (length b.items - 1) b.items ++ record s { lost = true } ∷ [])
    ≡ marked b.items =
    ap (λ (xs : List Slot). keep_last b.capacity xs) (marked-is s b.items (sym last))
    ∙ keep_last-all b.capacity (marked b.items) (omega (arith, length-marked b.items)) in
    pushed
    ∙ (ap (λ (x : Buffer Slot). buffer (keep_last x.capacity (x.items ++ record s { lost = true } ∷ [])) x.capacity)
    popped
    ∙ ap (λ (xs : List Slot). buffer xs b.capacity) all)

-- what a push leaves where there is room
pub kept-last : (b q : Buffer Slot) (s : Slot) → length b.items < b.capacity →
    q ≡ buffer (keep_last b.capacity (b.items ++ s ∷ [])) b.capacity → q ≡ buffer (b.items ++ s ∷ []) b.capacity
kept-last b q s room pushed = grind (arith, common_steps, keep_last-all, length-append)

abbrev pub ring : ℕ → List Record → Ring
ring capacity waiting = record { capacity = capacity; waiting = waiting }

-- a note that is kept
pub after_post-kept : (owed : Bool) (b q : Buffer Slot) (note : Record) → HasNoLoss b.items →
    length b.items < b.capacity →
    q ≡ buffer (b.items ++ record { kept = note; lost = false } ∷ []) b.capacity →
    ring_of (record { slots = q; owed = owed }) ≡ ring b.capacity
    (after_post b.capacity note (loss_if owed ++ notes_of b.items))
after_post-kept owed b q note kept room e =
    grind (arith, common_steps, ltb, lt-ltb, total_room-waiting, notes_of-append, append_assoc)

-- a note that is dropped
pub after_post-dropped : (owed : Bool) (b q : Buffer Slot) (note : Record) → HasNoLoss b.items →
    length b.items ≡ b.capacity → 1 ≤ b.capacity →
    q ≡ buffer (marked b.items) b.capacity →
    ring_of (record { slots = q; owed = owed }) ≡ ring b.capacity
    (after_post b.capacity note (loss_if owed ++ notes_of b.items))
after_post-dropped owed b q note kept full one e =
    let waiting = loss_if owed ++ notes_of b.items in
    let none : ltb (total_room waiting) b.capacity
    ≡ false = le-ltb _ _ (omega (arith, total_room-waiting owed b.items kept)) in
    let made : after_post b.capacity note waiting ≡ with_loss waiting = rw none refl in
    ap (λ (x : Buffer Slot). ring_of (record { slots = x; owed = owed })) e
    ∙ ap (ring b.capacity) (waiting-marked owed b.items kept (omega arith) ∙ sym made)

-- the first that waits
pub first-notes_of : (slots : List Slot) (s : Slot) → Some s ≡ slice_get slots 0 →
    Some s.kept ≡ slice_get (notes_of slots) 0
first-notes_of [] s h = absurd cc
first-notes_of (t ∷ slots) s h = let e : s ≡ t = cc in ap (λ (x : Slot). Some x.kept) e

pub none-notes_of : (slots : List Slot) → None ≡ slice_get slots 0 → None ≡ slice_get (notes_of slots) 0
none-notes_of [] h = refl
none-notes_of (t ∷ slots) h = absurd cc

pub has_last : (slots : List Slot) → 1 ≤ length slots → None ≡ last_item slots → ⊥
has_last slots one h = let some = slice_get-some slots (length slots - 1) (omega arith) in let e = some.1 in absurd cc

bytes_of_all-append : (a b : List Record) → bytes_of_all (a ++ b) ≡ bytes_of_all a ++ bytes_of_all b
bytes_of_all-append [] b = refl
bytes_of_all-append (r ∷ a) b = grind (arith, common_steps, append_assoc, bytes_of_all-append a b)

bytes_of-size : (r : Record) → length (bytes_of r) ≤ 16
bytes_of-size (Key s w k a) = omega arith
bytes_of-size (Removal w id) = omega arith
bytes_of-size Loss = omega arith

loss_if-size : (lost : Bool) → length (bytes_of_all (loss_if lost)) ≤ 8
loss_if-size true = omega arith
loss_if-size false = omega arith

-- a loss in front, if any, and then others
size-loss_if : (lost : Bool) (rs : List Record) →
    length (bytes_of_all (loss_if lost ++ rs)) ≤ 8 + length (bytes_of_all rs)
size-loss_if lost rs = grind (arith, common_steps, bytes_of_all-append, length-append, loss_if-size)

size-notes_of : (slots : List Slot) → length (bytes_of_all (notes_of slots)) ≤ 24 * length slots
size-notes_of [] = omega arith
size-notes_of (s ∷ slots) = grind (arith, common_steps, bytes_of-size, size-loss_if, length-append, size-notes_of slots)

-- what waits fits into a record and a loss for each slot, and the loss in front
pub size-waiting : (owed : Bool) (slots : List Slot) →
    length (bytes_of_all (loss_if owed ++ notes_of slots)) ≤ 24 * length slots + 8
size-waiting owed slots = grind (arith, common_steps, size-notes_of, size-loss_if)
