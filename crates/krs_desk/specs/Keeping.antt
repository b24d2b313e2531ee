-- A turn that a seat keeps from one call to the next. The form is this project's own.
use Rattle.std.specs.Prelude.{◌∷◌, ◌≡◌, ◌≢◌, Bool, List, None, Some, suc, zero, ℕ}
use Rattle.atomic_table.specs.{Seated.TableId, Table.rest}
use Rattle.krs_types.specs.declared.event.Event.{Event}
use Rattle.krs_model.specs.{History.IsLegal, State.State, Step.Step}
use Rattle.krs_world.specs.Knowing.{events_of, kept}
use Rattle.krs_desk.specs.{Helping.{Goes, HoldsAll, round_of}, Parts.sat}
use Rattle.krs_desk.specs.Seated.{IsSeated, Me, opening, part, untold}
use Rattle.krs_desk.specs.declared.slot.SlotValue.TheVariants.{Home}

-- The token has the turn, and has seen the list that it holds. No call of its own is in flight.
pub record HasKept (m : Me) : Type 0 where
  pub holds : HoldsAll m
  pub whole : (part m).holding ≡ Some (part m).seen
  pub quiet : (part m).flight ≡ None

-- the token as it is once it has given the turn back
abbrev pub given_back : Me → Me
given_back m = (sat (opening m) (untold (part m)), rest m.1)

-- the same of a token that has served so many calls in a turn that it keeps: 0 where it has none
abbrev pub at_rest : ℕ → Me → Me
at_rest zero m = m
at_rest (suc n) m = given_back m

-- What holds of a seat between two calls: without its turn it is seated, and it has one where that has served calls.
pub record IsPlaced (lane : ℕ) (idle : Bool) (served : ℕ) (m : Me) : Type 0 where
  pub rests : IsSeated lane idle (at_rest served m)
  pub keeps : served ≢ 0 → HasKept m

-- where calls are said to be posted, each lane's cell was looked at once more, in order, and so many calls answered;
-- else none was
pub record GoesRound (desk : TableId) (posted : Bool) (m n : Me) : Type 0 where
  pub count : ℕ
  pub goes : Goes m count (round_of desk posted) n

-- a call of the token's own lane was served, and the turn is kept
pub record ServesAndKeeps (m : Me) (event : Event) (n : Me) : Type 0 where
  pub log : List Event
  pub last : State
  pub after : State
  pub held : (part m).holding ≡ Some log
  pub has : n ≡ (sat (opening m) (kept (part m) log event), (0, Home after) ∷ rest m.1)
  pub legal : IsLegal (opening m) log last
  pub step : Step last event after
  pub mine : events_of (part m).lane log ≡ (part m).mine
