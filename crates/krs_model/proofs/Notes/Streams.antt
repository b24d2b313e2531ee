-- What was taken and what waits are the stream.
use Rattle.std.proofs.Common.{[], ◌++◌, ◌+◌, ◌-◌, ◌∙◌, ◌∷◌, ◌≡◌, ◌≤◌, ap, append-nil, append_assoc, arith, Bool, cond}
use Rattle.std.proofs.Common.{false, List, ltb, ltb-false, not, refl, subst, sym, true, ℕ}
use Rattle.std.proofs.lemmas.Bool.Decides.{nat_tests}
use Rattle.krs_types.specs.declared.note.Record.{Record, TheVariants.Loss}
use Rattle.krs_model.specs.Notes.{Bytes.is_loss, Stream.{begins_with_drop, calls, kept_and_losses, loss_if, Move}}
use Rattle.krs_model.specs.Notes.Stream.{Posted, room_of, stream, taken, Took, Verdict, verdicts}
use Rattle.krs_model.specs.Notes.Waiting.{ends_with_loss, MovesTo, total_room, with_loss}

pub total_room-append : (a b : List Record) → total_room (a ++ b) ≡ total_room a + total_room b
total_room-append [] b = omega arith
total_room-append (r ∷ a) b = let h = total_room-append a b in omega arith

-- whether the last of these is a loss, where `before` says it of the one before them
abbrev pub ends_lost : Bool → List Record → Bool
ends_lost before [] = before
ends_lost before (r ∷ rs) = ends_lost (is_loss r) rs

pub ends_lost-append : (before : Bool) (a b : List Record) →
    ends_lost before (a ++ b) ≡ ends_lost (ends_lost before a) b
ends_lost-append before [] b = refl
ends_lost-append before (r ∷ a) b = ends_lost-append (is_loss r) a b

pub ends_with_loss-is : (rs : List Record) → ends_with_loss rs ≡ ends_lost false rs
ends_with_loss-is [] = refl
ends_with_loss-is (r ∷ []) = refl
ends_with_loss-is (r ∷ s ∷ rs) = ends_with_loss-is (s ∷ rs)

-- what the loss at the end is, and that it takes no room
abbrev pub marked_list : Bool → List Record → List Record
marked_list lost waiting = cond lost waiting (waiting ++ Loss ∷ [])

pub with_loss-is : (waiting : List Record) → with_loss waiting ≡ marked_list (ends_lost false waiting) waiting
with_loss-is waiting = ap (λ b. marked_list b waiting) (ends_with_loss-is waiting)

with_loss-append : (waiting : List Record) → with_loss waiting ≡ waiting ++ loss_if (not (ends_lost false waiting))
with_loss-append waiting = grind (arith, nat_tests, with_loss-is, append-nil)

pub total_room-with_loss : (waiting : List Record) → total_room (with_loss waiting) ≡ total_room waiting
total_room-with_loss waiting = grind (arith, nat_tests, with_loss-is, total_room-append)

ends_lost-with_loss : (waiting : List Record) → ends_lost false (with_loss waiting) ≡ true
ends_lost-with_loss waiting = grind (arith, nat_tests, with_loss-is, ends_lost-append)

-- the loss that the next call wants behind a waiting list
abbrev bridge : List Record → List Verdict → List Record
bridge waiting next = loss_if (cond (begins_with_drop next) (not (ends_lost false waiting)) false)

-- where the next call is not kept, the capacity is used up
full : (capacity kept before : ℕ) (moves : List Move) → 1 ≤ capacity →
    begins_with_drop (verdicts capacity kept (calls before moves)) ≡ true → before + capacity ≤ kept
full capacity kept before [] one h = absurd cc
full capacity kept before (Posted r ∷ moves) one h = grind (arith, nat_tests, ltb-false)
full capacity kept before (Took r ∷ moves) one h = let i = full capacity kept (before + room_of r) moves one h in
    omega arith

-- what is taken from the front leaves the bridge
bridge-took : (capacity kept before : ℕ) (moves : List Move) (r : Record) (rest : List Record) → 1 ≤ capacity →
    kept ≡ before + total_room rest →
    bridge (r ∷ rest) (verdicts capacity kept (calls before moves))
    ≡ bridge rest (verdicts capacity kept (calls before moves))
bridge-took capacity kept before moves r (s ∷ rest) one e = refl
bridge-took capacity kept before moves r [] one e = grind (arith, nat_tests, full)

bridge-kept : (waiting : List Record) (r : Record) (next : List Verdict) → is_loss r ≡ false →
    bridge (waiting ++ r ∷ []) next ≡ loss_if (begins_with_drop next)
bridge-kept waiting r next h = grind (arith, nat_tests, ends_lost-append)

bridge-with_loss : (waiting : List Record) (next : List Verdict) → bridge (with_loss waiting) next ≡ []
bridge-with_loss waiting next = grind (arith, nat_tests, ends_lost-with_loss)

-- from any point on, where what waits takes the room of what was kept and not taken
from_here : (capacity : ℕ) (moves : List Move) (kept before : ℕ) (waiting after : List Record) → 1 ≤ capacity →
    kept ≡ before + total_room waiting → MovesTo capacity waiting moves after →
    taken moves ++ after
    ≡ waiting ++ (bridge waiting (verdicts capacity kept (calls before moves)) ++ kept_and_losses
    (verdicts capacity kept (calls before moves)))
from_here capacity [] kept before waiting after one e l = sym l ∙ sym (append-nil waiting)
from_here capacity (Took r ∷ moves) kept before waiting after one e l =
    grind (arith, nat_tests, bridge-took, from_here capacity moves kept)
from_here capacity (Posted r ∷ moves) kept before waiting after one e l =
    let left : total_room waiting ≡ kept - before = omega arith in
    let next : Bool → List Verdict = λ k. verdicts capacity (kept + cond k 1 0) (calls before moves) in
    elim (ltb (kept - before) capacity) as (λ k. MovesTo capacity
    (cond k (waiting ++ r ∷ []) (with_loss waiting)) moves after →
    taken moves ++ after
    ≡ waiting ++ (loss_if (cond (not k) (not (ends_lost false waiting)) false)
    ++ cond k (r ∷ (loss_if (begins_with_drop (next k)) ++ kept_and_losses (next k))) (kept_and_losses (next k)))) [
      | true ↦ λ m.
          let heavy : room_of r ≡ 1 = rw l.0 refl in
          from_here capacity moves (kept + 1) before (waiting ++ r ∷ []) after one
          (omega (arith, total_room-append waiting (r ∷ []))) m
          ∙ (ap (λ (xs : List Record). (waiting ++ r ∷ []) ++ (xs ++ kept_and_losses (next true)))
          (bridge-kept waiting r (next true) l.0)
          ∙ append_assoc waiting (r ∷ []) (loss_if (begins_with_drop (next true)) ++ kept_and_losses (next true)))
      | false ↦ λ m.
          from_here capacity moves (kept + 0) before (with_loss waiting) after one
          (omega (arith, total_room-with_loss waiting)) m
          ∙ (ap (λ (xs : List Record). with_loss waiting ++ (xs ++ kept_and_losses (next false)))
          (bridge-with_loss waiting (next false))
          ∙ (ap (λ (xs : List Record). xs ++ kept_and_losses (next false)) (with_loss-append waiting)
          ∙ append_assoc waiting (loss_if (not (ends_lost false waiting))) (kept_and_losses (next false))))
    ] (subst (λ (n : ℕ). MovesTo capacity (cond (ltb n capacity) (waiting ++ r ∷ []) (with_loss waiting)) moves
    after) left l.1)

-- at the start nothing was kept, so no loss is wanted
pub gives_its_stream :
    (capacity : ℕ) (moves : List Move) (after : List Record) → 1 ≤ capacity → MovesTo capacity [] moves after
    → taken moves ++ after ≡ stream capacity moves
gives_its_stream capacity moves after one l =
    let start = verdicts capacity 0 (calls 0 moves) in
    let none : bridge [] start ≡ [] = grind (arith, nat_tests, full) in
    from_here capacity moves 0 0 [] after one refl l ∙ ap (λ (xs : List Record). xs ++ kept_and_losses start) none
