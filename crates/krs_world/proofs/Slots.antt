-- What is kept of a lane's cell: what the cell is, and what it comes to where the list of all calls grows.
use Rattle.std.proofs.Common.{[], ◌++◌, ◌<◌, ◌∙◌, ◌∷◌, ◌≡◌, ◌≢◌, ap, arith, Bool, cond, false, length, List, None}
use Rattle.std.proofs.Common.{Option, refl, Result, Some, suc, sym, true, zero, ℕ}
use Rattle.std.proofs.{Math.Seq.take-length, lemmas.List.take-append-le}
use lib.ListN.{get_elem?}
use mathlib.Core.Option.{some, some-ne-none}
use Rattle.krs_types.specs.declared.{ask.{Answer.Answer, Ask.Ask}, errno.Errno.Errno, event.Event.Event}
use Rattle.krs_world.specs.History.{events_of}
use Rattle.krs_world.specs.Kept.{answered_cell, cell_by, flight_by, IsSlotOf, known_by, served_cell}
use Rattle.krs_world.specs.declared.{lane.Slot.Slot, view.{Cell.Cell, Service.Service}}
use Rattle.krs_world.proofs.Lanes.{other_event, snoc_at, snoc_end}
use Rattle.krs_world.specs.declared.lane.Slot.TheVariants as slots
use Rattle.krs_world.specs.declared.view.Cell.TheVariants as cells
use mathlib.Core.Option as maybe
use Rattle.std.proofs.lemmas.Grind.{common_steps}

pub cond_none : {A : Type 0} (b : Bool) (v : Option A) → v ≡ None → cond b v None ≡ None
cond_none true v e = e
cond_none false v e = refl

-- an event of a list is at a place within it
pub place_in : {A : Type 0} (l : List A) (n : ℕ) (a : A) → get_elem? l n ≡ some a → n < length l
place_in [] n a e = absurd (some-ne-none a (sym e))
place_in (x ∷ xs) zero a e = omega arith
place_in (x ∷ xs) (suc n) a e = let h = place_in xs n a e in omega arith

-- A list that has an event more.
pub slot_more : (serving : Option Service) (log : List Event) (e : Event) (j : ℕ) (s : Slot)
    → IsSlotOf serving log j s → IsSlotOf serving (log ++ e ∷ []) j s
slot_more serving log e j slots.Empty is = tt
slot_more serving log e j (slots.Posted m ask) is = tt
slot_more serving log e j slots.Serving is = is
slot_more serving log e j (slots.Answered n) is = (is.0, snoc_at log n e is.0 is.1, is.2)

pub cell_more : (serving : Option Service) (log : List Event) (e : Event) (j : ℕ) (s : Slot)
    → IsSlotOf serving log j s → cell_by (log ++ e ∷ []) serving s ≡ cell_by log serving s
cell_more serving log e j slots.Empty is = refl
cell_more serving log e j (slots.Posted m ask) is = refl
cell_more serving log e j slots.Serving is = refl
cell_more serving log e j (slots.Answered n) is = ap answered_cell (snoc_at log n e is.0 is.1 ∙ sym is.1)

-- the calls of another lane that its seat knows of
pub known_more : (serving : Option Service) (log : List Event) (e : Event) (j : ℕ) (s : Slot)
    → IsSlotOf serving log j s → e.lane ≢ j → events_of j (known_by (log ++ e ∷ []) s) ≡ events_of j (known_by log s)
known_more serving log e j slots.Empty is other = other_event j log e other
known_more serving log e j (slots.Posted m ask) is other = other_event j log e other
known_more serving log e j slots.Serving is other = other_event j log e other
known_more serving log e j (slots.Answered n) is other = grind (arith, common_steps, place_in, take-append-le)

-- the same of the lane whose call stands last from then on
pub known_then : (log : List Event) (e : Event) → known_by (log ++ e ∷ []) (slots.Answered (length log)) ≡ log
known_then log e = take-append-le (length log) log (e ∷ []) (omega arith) ∙ take-length log

pub cell_then : (serving : Option Service) (log : List Event) (e : Event)
    → cell_by (log ++ e ∷ []) serving (slots.Answered (length log)) ≡ cells.Answered e.moment e.ask e.reply
cell_then serving log e = ap answered_cell (snoc_end log e)

-- What a cell says of the slot.
pub slot_empty : (serving : Option Service) (log : List Event) (j : ℕ) (s : Slot) → IsSlotOf serving log j s
    → cell_by log serving s ≡ cells.Empty → s ≡ slots.Empty
slot_empty serving log j slots.Empty is e = refl
slot_empty serving log j (slots.Posted m ask) is e = absurd (cc)
slot_empty serving log j slots.Serving is e = grind (arith, common_steps)
slot_empty serving log j (slots.Answered n) is e = grind (arith, common_steps)

served_not : (serving : Option Service) (m : ℕ) (ask : Ask) → served_cell serving ≡ cells.Posted m ask → ⊥
served_not None m ask e = absurd (let no : cells.Empty ≡ cells.Posted m ask = e in cc)
served_not (Some s) m ask e = absurd (let no : cells.Serving s.moment s.ask ≡ cells.Posted m ask = e in cc)

answered_not : (o : maybe.Option Event) (m : ℕ) (ask : Ask) → answered_cell o ≡ cells.Posted m ask → ⊥
answered_not maybe.none m ask e = absurd (let no : cells.Empty ≡ cells.Posted m ask = e in cc)
answered_not (some s) m ask e = absurd (let no : cells.Answered s.moment s.ask s.reply ≡ cells.Posted m ask = e in cc)

pub slot_posted : (serving : Option Service) (log : List Event) (s : Slot) (m : ℕ) (ask : Ask)
    → cell_by log serving s ≡ cells.Posted m ask → s ≡ slots.Posted m ask
slot_posted serving log slots.Empty m ask e = absurd (let no : cells.Empty ≡ cells.Posted m ask = e in cc)
slot_posted serving log (slots.Posted m' ask') m ask e = grind (arith, common_steps)
slot_posted serving log slots.Serving m ask e = absurd (served_not serving m ask e)
slot_posted serving log (slots.Answered n) m ask e = absurd (answered_not (get_elem? log n) m ask e)

served_no_reply : (serving : Option Service) (m : ℕ) (ask : Ask) (r : Result Answer Errno)
    → served_cell serving ≡ cells.Answered m ask r → ⊥
served_no_reply None m ask r e = absurd (let no : cells.Empty ≡ cells.Answered m ask r = e in cc)
served_no_reply (Some s) m ask r e = absurd (let no : cells.Serving s.moment s.ask ≡ cells.Answered m ask r = e in cc)

pub slot_answered : (serving : Option Service) (log : List Event) (s : Slot) (m : ℕ) (ask : Ask)
    (r : Result Answer Errno) → cell_by log serving s ≡ cells.Answered m ask r → (n : ℕ) × (s ≡ slots.Answered n)
slot_answered serving log slots.Empty m ask r e = absurd (let no : cells.Empty ≡ cells.Answered m ask r = e in cc)
slot_answered serving log (slots.Posted m' ask') m ask r e = grind (arith, common_steps)
slot_answered serving log slots.Serving m ask r e = absurd (served_no_reply serving m ask r e)
slot_answered serving log (slots.Answered n) m ask r e = (n, refl)

-- no call in flight is an empty cell
pub cell_idle : (after : List Event) (c : Cell) → flight_by after c ≡ None → c ≡ cells.Empty
cell_idle after cells.Empty e = refl
cell_idle after (cells.Posted m ask) e = absurd (cc)
cell_idle after (cells.Serving m ask) e = absurd (cc)
cell_idle after (cells.Answered m ask r) e = absurd (cc)
