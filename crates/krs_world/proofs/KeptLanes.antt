-- What is kept of a lane, where another lane is out, and where the list of all calls has an event more.
use Rattle.std.proofs.Common.{[], ◌++◌, ◌∷◌, ◌≡◌, ◌≢◌, ◌≤◌, arith, Bool, cond, false, length, length-append}
use Rattle.std.proofs.{Common.{List, None, Option, refl, Some, true, ℕ}, lemmas.List.take-append-le}
use Rattle.krs_types.specs.declared.event.Event.{Event}
use Rattle.krs_world.specs.Kept.{IsLane, IsSlotOf, part_by}
use Rattle.krs_world.specs.{declared.{lane.Lane.Lane, view.Service.Service}}
use Rattle.krs_world.proofs.Slots.{cell_more, known_more, slot_more}
use Rattle.std.proofs.lemmas.Grind.{common_steps}

-- what is kept of a lane, by its parts
pub lane_is : {out : Option ℕ} {serving : Option Service} {log : List Event} {j : ℕ} {l : Lane} → l.lane ≡ j
    → l.seen ≤ length log → l.base ≤ length log → l.after ≤ length log → (l.holding ≡ true → out ≡ Some j)
    → IsSlotOf serving log j l.slot → IsLane out serving log j l
lane_is number seen base after holds slot = grind (arith, common_steps)

-- what is kept of a lane, where another lane is out or none is
pub lane_out : {out out' : Option ℕ} {serving : Option Service} {log : List Event} {j : ℕ} {l : Lane}
    → IsLane out serving log j l → (l.holding ≡ true → out' ≡ Some j) → IsLane out' serving log j l
lane_out o holds = lane_is o.number o.seen o.base o.after holds o.slot

-- the same, where the list has an event more
pub lane_more : {out out' : Option ℕ} {serving : Option Service} {log : List Event} (e : Event) {j : ℕ} {l : Lane}
    → IsLane out serving log j l → (l.holding ≡ true → out' ≡ Some j) → IsLane out' serving (log ++ e ∷ []) j l
lane_more {serving = serving} {log} e {j} {l} o holds = grind (arith, common_steps, length-append, lane_is, slot_more)

-- what a lane's seat knows where the list has an event more, of another lane, and where the lane doesn't hold the list
pub part_more : (out : Option ℕ) (serving : Option Service) (log : List Event) (e : Event) (j : ℕ) (l : Lane)
    → IsLane out serving log j l → e.lane ≢ j → l.holding ≡ false
    → part_by (log ++ e ∷ []) serving l ≡ part_by log serving l
part_more out serving log e j l o other quiet = grind (arith, common_steps, take-append-le, cell_more, known_more)

pub held_true : (b : Bool) (log l : List Event) → cond b (Some log) None ≡ Some l → b ≡ true
held_true true log l e = refl
held_true false log l e = absurd (let no : None ≡ Some l = e in cc)
