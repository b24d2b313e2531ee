-- The store that a seat had as the desk was closed.
use Rattle.std.proofs.Common.{◌≡◌, subst, ℕ}
use Rattle.atomic_table.specs.Seated.{TableId}
use Rattle.krs_model.specs.State.{State}
use Rattle.krs_desk.specs.{Helping.Had, Seated.{Me, sitting_of}, Sitting.{EndsIn, Sitting}}

-- it ends a legal list that begins with what the seat had seen, and has its calls
pub ends_in : (table : TableId) (served : ℕ) (m n : Me) (s : Sitting) (store : State) → sitting_of table served m ≡ s
    → Had m n store → EndsIn s store
ends_in table served m n s store view had = subst (λ (z : Sitting). EndsIn z store) view
    record { log = had.log; legal = had.found.legal; seen = had.found.seen; own = had.found.mine }
