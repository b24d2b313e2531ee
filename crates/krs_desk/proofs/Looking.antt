-- What a lane knows of its turns and looks is what its token's steps made: no look out of turn, and none forgotten.
use Rattle.std.proofs.Common.{[], ◌&&◌, ◌++◌, ◌+◌, ◌∙◌, ◌∷◌, ◌≡◌, ◌≢◌, ap, arith, eqb, List, None, Option, refl, Some}
use Rattle.std.proofs.Common.{sym, ℕ}
use Rattle.atomic_table.specs.Table.{Step}
use Rattle.krs_types.specs.declared.event.Event.{Event}
use Rattle.krs_world.specs.{Knowing.{looked_at, missed, taken}, declared.view.{Part.Part, Standing.Standing}}
use Rattle.krs_desk.specs.Moves.{after, CountsLooks, CountsMisses, CountsTurns, HasTurn, IsMadeAt, IsTry, LooksInTurn}
use Rattle.krs_desk.specs.{Moves.Move, Parts.part_of, declared.slot.SlotValue.SlotValue}
use Rattle.krs_desk.specs.Moves as move

no_longer : (l : List ℕ) (x : ℕ) → l ≡ l ++ x ∷ [] → ⊥
no_longer [] x e = absurd cc
no_longer (y ∷ ys) x e = let more : ys ≡ ys ++ x ∷ [] = cc in no_longer ys x more

not_empty : (l : List ℕ) (x : ℕ) → ◌≡◌ {A = List ℕ} [] (l ++ x ∷ []) → ⊥
not_empty [] x e = absurd cc
not_empty (y ∷ ys) x e = absurd cc

-- nothing was found at a store
nothing : (found : Option ℕ) (n : ℕ) → found ≡ None → found ≡ Some n → ⊥
nothing found n e f = let no : ◌≡◌ {A = Option ℕ} None (Some n) = sym e ∙ f in absurd cc

-- one number was found
one_number : (n m : ℕ) → ◌≡◌ {A = Option ℕ} (Some n) (Some m) → n ≡ m
one_number n m e = cc

-- a token that has the turn isn't one that hasn't
pub not_both : (p : Part) → p.holding ≡ None → HasTurn p → ⊥
not_both p empty held = let no : ◌≡◌ {A = Option (List Event)} None (Some held.0) = sym empty ∙ held.1 in absurd cc

-- the turn's word is no lane's
no_cell : (word lane : ℕ) → word ≡ 0 → word ≡ lane + 1 → ⊥
no_cell word lane e f = omega arith

by_move : (made : Step SlotValue) (found : Option ℕ) (p : Part) (lane : ℕ) (m : Move) → IsMadeAt made found p m
    → (after p m).checked ≡ p.checked ++ lane ∷ [] → HasTurn p
by_move made found p lane move.stays is e = absurd (no_longer p.checked lane e)
by_move made found p lane (move.takes log) is e = absurd (not_empty p.checked lane e)
by_move made found p lane move.misses is e = absurd (no_longer p.checked lane e)
by_move made found p lane (move.puts_own log event) is e = absurd (no_longer p.checked lane e)
by_move made found p lane (move.puts_none log) is e = absurd (no_longer p.checked lane e)
by_move made found p lane (move.serves_own log event) is e = absurd (no_longer p.checked lane e)
by_move made found p lane (move.loads log) is e = absurd (no_longer p.checked lane e)
by_move made found p lane (move.posts moment ask) is e = absurd (no_longer p.checked lane e)
by_move made found p lane (move.finds other) is e = absurd (no_longer p.checked lane e)
by_move made found p lane (move.grabs other moment ask) is e = absurd (no_longer p.checked lane e)
by_move made found p lane (move.answers log event) is e = (log, is.2)
by_move made found p lane (move.collects log event) is e = absurd (no_longer p.checked lane e)
by_move made found p lane (move.looks other finished) is e = is.2

pub looks_in_turn : LooksInTurn
looks_in_turn made found p q lane moved e =
    let same : q ≡ after p moved.0 = ap (λ (s : Standing). part_of s) moved.2 in
    by_move made found p lane moved.0 moved.1 (sym (ap (λ (r : Part). r.checked) same) ∙ e)

missed_by : (made : Step SlotValue) (n : ℕ) (p : Part) (m : Move) → IsMadeAt made (Some n) p m → IsTry made → n ≢ 0
    → after p m ≡ missed p
missed_by made n p move.stays is try not = absurd (no_cell made.word p.lane try.0 is.0)
missed_by made n p (move.takes log) is try not = absurd (not (one_number n 0 is.1))
missed_by made n p move.misses is try not = refl
missed_by made n p (move.puts_own log event) is try not =
    absurd (let a : made.first ≡ 0 = try.1 in let b : made.first ≡ 1 = is.0.1 in omega arith)
missed_by made n p (move.puts_none log) is try not =
    absurd (let a : made.first ≡ 0 = try.1 in let b : made.first ≡ 1 = is.0.1 in omega arith)
missed_by made n p (move.serves_own log event) is try not =
    absurd (let a : made.second ≡ 1 = try.2 in let b : made.second ≡ 0 = is.0.2 in omega arith)
missed_by made n p (move.loads log) is try not =
    absurd (let a : made.second ≡ 1 = try.2 in let b : made.second ≡ 0 = is.0.2 in omega arith)
missed_by made n p (move.posts moment ask) is try not = absurd (no_cell made.word p.lane try.0 is.0)
missed_by made n p (move.finds other) is try not = absurd (no_cell made.word other try.0 is.0)
missed_by made n p (move.grabs other moment ask) is try not = absurd (no_cell made.word other try.0 is.0)
missed_by made n p (move.answers log event) is try not = absurd (no_cell made.word event.lane try.0 is.0)
missed_by made n p (move.collects log event) is try not = absurd (no_cell made.word p.lane try.0 is.0)
missed_by made n p (move.looks other finished) is try not = absurd (no_cell made.word other try.0 is.0)

pub counts_misses : CountsMisses
counts_misses made n p q moved try not =
    let same : q ≡ after p moved.0 = ap (λ (s : Standing). part_of s) moved.2 in
    same ∙ missed_by made n p moved.0 moved.1 try not

taken_by : (made : Step SlotValue) (p : Part) (m : Move) → IsMadeAt made (Some 0) p m → IsTry made
    → (log : List Event) × (after p m ≡ taken p log)
taken_by made p move.stays is try = absurd (no_cell made.word p.lane try.0 is.0)
taken_by made p (move.takes log) is try = (log, refl)
taken_by made p move.misses is try = absurd (is.1.2 (sym (one_number 0 is.1.0 is.1.1)))
taken_by made p (move.puts_own log event) is try =
    absurd (let a : made.first ≡ 0 = try.1 in let b : made.first ≡ 1 = is.0.1 in omega arith)
taken_by made p (move.puts_none log) is try =
    absurd (let a : made.first ≡ 0 = try.1 in let b : made.first ≡ 1 = is.0.1 in omega arith)
taken_by made p (move.serves_own log event) is try =
    absurd (let a : made.second ≡ 1 = try.2 in let b : made.second ≡ 0 = is.0.2 in omega arith)
taken_by made p (move.loads log) is try =
    absurd (let a : made.second ≡ 1 = try.2 in let b : made.second ≡ 0 = is.0.2 in omega arith)
taken_by made p (move.posts moment ask) is try = absurd (no_cell made.word p.lane try.0 is.0)
taken_by made p (move.finds other) is try = absurd (no_cell made.word other try.0 is.0)
taken_by made p (move.grabs other moment ask) is try = absurd (no_cell made.word other try.0 is.0)
taken_by made p (move.answers log event) is try = absurd (no_cell made.word event.lane try.0 is.0)
taken_by made p (move.collects log event) is try = absurd (no_cell made.word p.lane try.0 is.0)
taken_by made p (move.looks other finished) is try = absurd (no_cell made.word other try.0 is.0)

pub counts_turns : CountsTurns
counts_turns made p q moved try =
    let same : q ≡ after p moved.0 = ap (λ (s : Standing). part_of s) moved.2 in
    let t = taken_by made p moved.0 moved.1 try in (t.0, same ∙ t.1)

looked_by :
    (made : Step SlotValue) (n : ℕ) (p : Part) (lane : ℕ) (m : Move) → IsMadeAt made (Some n) p m → made.word ≡ lane + 1
    → n ≢ 1 → HasTurn p → after p m ≡ looked_at p lane ((eqb n 3) && (eqb lane p.lane))
looked_by made n p lane move.stays is at not held = absurd (not_both p is.2 held)
looked_by made n p lane (move.takes log) is at not held = absurd (not_both p is.2 held)
looked_by made n p lane move.misses is at not held = absurd (not_both p is.2 held)
looked_by made n p lane (move.puts_own log event) is at not held = absurd (no_cell made.word lane is.0.0 at)
looked_by made n p lane (move.puts_none log) is at not held = absurd (no_cell made.word lane is.0.0 at)
looked_by made n p lane (move.serves_own log event) is at not held = absurd (no_cell made.word lane is.0.0 at)
looked_by made n p lane (move.loads log) is at not held = absurd (no_cell made.word lane is.0.0 at)
looked_by made n p lane (move.posts moment ask) is at not held = absurd (nothing (Some n) n is.1 refl)
looked_by made n p lane (move.finds other) is at not held = absurd (not (one_number n 1 is.1))
looked_by made n p lane (move.grabs other moment ask) is at not held = absurd (not (one_number n 1 is.1))
looked_by made n p lane (move.answers log event) is at not held = absurd (nothing (Some n) n is.1 refl)
looked_by made n p lane (move.collects log event) is at not held = absurd (not_both p is.2 held)
looked_by made n p lane (move.looks other finished) is at not held =
    let same : other ≡ lane = (let a : made.word ≡ other + 1 = is.0 in omega arith) in
    let number : is.1.0 ≡ n = sym (one_number n is.1.0 is.1.1) in
    ap (looked_at p other) is.1.3 ∙ (λ i. looked_at p (same i) ((eqb (number i) 3) && (eqb (same i) p.lane)))

pub counts_looks : CountsLooks
counts_looks made n p q lane moved at not held =
    let same : q ≡ after p moved.0 = ap (λ (s : Standing). part_of s) moved.2 in
    same ∙ looked_by made n p lane moved.0 moved.1 at not held
