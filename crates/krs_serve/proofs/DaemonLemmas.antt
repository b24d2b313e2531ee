-- The seats of a new desk.
use Rattle.std.proofs.Common.{◌≡◌, All, List, refl, suc, zero, ℕ}
use Rattle.atomic_table.specs.Seated.{TableId}
use Rattle.std.proofs.lemmas.List.Elements.{All-nil, All-push, All-same}
use Rattle.krs_model.specs.State.{State}
use Rattle.krs_desk.specs.Sitting.{fresh_seat, fresh_seats, Sitting}
use Rattle.krs_serve.specs.Visits.{IsNew}

fresh_opened : (table : TableId) (a : State) (n : ℕ) → All (λ s. s.opening ≡ a) (fresh_seats table a n)
fresh_opened table a zero = All-nil (λ (s : Sitting). s.opening ≡ a)
fresh_opened table a (suc n) =
    All-push (λ (s : Sitting). s.opening ≡ a) (fresh_seats table a n) (fresh_seat table a n) (fresh_opened table a n)
    refl

-- each seat that is dealt knows the store that the desk was opened with
pub all_opened :
    (table : TableId) (a : State) (n : ℕ) (xs : List Sitting) → xs ≡ fresh_seats table a n → All (λ s. s.opening ≡ a) xs
all_opened table a n xs is =
    All-same (λ (s : Sitting). s.opening ≡ a) xs (fresh_seats table a n) is (fresh_opened table a n)

fresh_unasked : (table : TableId) (a : State) (n : ℕ) → All IsNew (fresh_seats table a n)
fresh_unasked table a zero = All-nil IsNew
fresh_unasked table a (suc n) =
    All-push IsNew (fresh_seats table a n) (fresh_seat table a n) (fresh_unasked table a n) (refl, refl)

-- and is new
pub all_unasked :
    (table : TableId) (a : State) (n : ℕ) (xs : List Sitting) → xs ≡ fresh_seats table a n → All IsNew xs
all_unasked table a n xs is = All-same IsNew xs (fresh_seats table a n) is (fresh_unasked table a n)
