-- What `World::step` answers, on the machine as it is seen: a step that was made, one that isn't possible, and one that
-- is refused.
use Rattle.std.proofs.Common.{◌+◌, ◌<◌, ◌∙◌, ◌≡◌, ◌≤◌, ap, arith, false, get_or, length, List, ltb, None, Option, refl}
use Rattle.std.proofs.Common.{Some, subst, sym, take, true, ℕ}
use lib.ListN.{get_elem?}
use mathlib.Core.Option.{some, some-injective}
use Rattle.krs_types.specs.declared.{ask.Ask.Ask, errno.Errno.{Errno, TheVariants.ENOMEM}, event.Event.Event}
use Rattle.krs_model.specs.State.{State}
use Rattle.krs_world.specs.Kept.{flight_by, IsIdle, IsKept, lane_cell, MayPut, part_by, turn_by, world_of}
use Rattle.krs_world.specs.World.{IsHolder, MovesBy, Out, RefusedBy, Refuses, StepsAs, World}
use Rattle.krs_world.specs.declared.{lane.Lane.Lane, step.Kind.{Kind, TheVariants.{Answer, Post}}}
use Rattle.krs_world.specs.declared.view.{Cell.Cell, Part.Part, Service.Service}
use Rattle.krs_world.proofs.{KeptHistory.{at_in, in_bounds, out_within, seats_by}, Moves.{holder, no_flight, no_holder}}
use Rattle.krs_world.proofs.{Slots.{cell_idle, cond_none, slot_empty}, Worlds.{get_map, of_map}}
use Rattle.krs_world.specs.declared.lane.Slot.TheVariants as slots
use Rattle.krs_world.specs.declared.view.Cell.TheVariants as cells
use Rattle.std.proofs.lemmas.Grind.{common_steps}

-- a lane that is there, by its look-up
pub lane_at : (lanes seen : List Lane) (i : ℕ) (x : Lane) → seen ≡ lanes → true ≡ ltb i (length seen)
    → x ≡ get_or seen i x → get_elem? lanes i ≡ some x
lane_at lanes seen i x same within is = grind (arith, common_steps, at_in)

-- a lane at its place
pub lane_here : (lanes : List Lane) (i : ℕ) (x : Lane) → i < length lanes → x ≡ get_or lanes i x
    → get_elem? lanes i ≡ some x
lane_here lanes i x within is = at_in lanes i x within ∙ ap (λ (z : Lane). some z) (sym is)

-- the same lane, looked up twice
pub lanes_same : (lanes seen : List Lane) (i : ℕ) (y x : Lane) → seen ≡ lanes → true ≡ ltb i (length seen)
    → y ≡ get_or seen i y → x ≡ get_or lanes i x → (get_elem? lanes i ≡ some x) × (y ≡ x)
lanes_same lanes seen i y x same within is also = grind (arith, common_steps, lane_at, lane_here, in_bounds)

-- a lane at its place, which has nothing in its cell
pub idle_here : (lanes : List Lane) (i : ℕ) (x : Lane) → IsIdle lanes i → x ≡ get_or lanes i x
    → (get_elem? lanes i ≡ some x) × (x.slot ≡ slots.Empty)
idle_here lanes i x free is =
    let at : get_elem? lanes i ≡ some x = lane_here lanes i x (in_bounds lanes i free.0 free.1) is in
    (at, ap (λ (z : Lane). z.slot) (some-injective x free.0 (sym at ∙ free.1)) ∙ free.2)

-- the lane that is out, at its place
pub out_here : {store : State} {out : Option ℕ} {serving : Option Service} {log : List Event} {lanes : List Lane}
    {i : ℕ} {x : Lane} → IsKept store out serving log lanes → out ≡ Some i → x ≡ get_or lanes i x
    → get_elem? lanes i ≡ some x
out_here {lanes = lanes} {i} {x} k here is = lane_here lanes i x (out_within k here) is

-- a lane that may put its own call, as it was looked up
pub may_now : (out : Option ℕ) (serving : Option Service) (lanes seen : List Lane) (i : ℕ) → seen ≡ lanes
    → MayPut out serving seen i → MayPut out serving lanes i
may_now out serving lanes seen i same may = subst (λ (l : List Lane). MayPut out serving l i) same may

some_of : {A : Type 0} (o : Option A) → (o ≡ None → ⊥) → (v : A) × (o ≡ Some v)
some_of None not = absurd (not refl)
some_of (Some v) not = (v, refl)

-- where the turn is out
out_by : (store : State) (out : Option ℕ) (i : ℕ) → turn_by store out ≡ Out i → out ≡ Some i
out_by store None i e = absurd (cc)
out_by store (Some j) i e = cc

unserved : (o : Option Service) → ((s : Service) → o ≡ Some s → ⊥) → o ≡ None
unserved None not = refl
unserved (Some s) not = absurd (not s refl)

-- a number that can't be raised
pub greatest : (n : ℕ) → (n + 1 < 18446744073709551616 → ⊥) → 18446744073709551615 ≤ n
greatest n not = omega arith

-- the machine is kept so, and the lane's seat came to it by a step of this kind
abbrev pub Comes : World → ℕ → Kind → State → Option ℕ → Option Service → List Event → List Lane → Type 0
Comes old i kind store out serving log lanes =
    IsKept store out serving log lanes × MovesBy old i kind true (world_of store out serving log lanes)

module _ {old : World} {store : State} {out : Option ℕ} {serving : Option Service} {log : List Event}
    {lanes : List Lane} (k : IsKept store out serving log lanes) (i : ℕ)
    (is : world_of store out serving log lanes ≡ old) where
  abbrev w : World
  w = world_of store out serving log lanes

  -- a step that isn't possible
  pub moves_not : (kind : Kind) → ((p : Part) (other : World) → get_elem? (seats_by log serving lanes) i ≡ some p
      → StepsAs w i p kind other → ⊥) → MovesBy old i kind false old
  moves_not kind not = subst (λ (z : World). MovesBy z i kind false z) is (refl, not)

  -- the same of a seat that isn't there
  pub none_there : (seen : List Lane) (kind : Kind) → seen ≡ lanes → length seen ≤ i → MovesBy old i kind false old
  none_there seen kind same beyond = moves_not kind (λ p other e steps.
      let m = of_map (part_by log serving) lanes i p e in let within = in_bounds lanes i m.0 m.1 in
      let size : length seen ≡ length lanes = ap length same in omega arith)

  -- the same at a cell that isn't there
  pub no_cell : (seen : List Lane) (other : ℕ) (kind : Kind) → seen ≡ lanes → length seen ≤ other
      → ((p : Part) (new : World) → StepsAs w i p kind new → (c : Cell) × (get_elem? w.cells other ≡ some c))
      → MovesBy old i kind false old
  no_cell seen other kind same beyond found = moves_not kind (λ p new e steps. let c = found p new steps in
      let m = of_map (lane_cell log serving) lanes other c.0 c.1 in let within = in_bounds lanes other m.0 m.1 in
      let size : length seen ≡ length lanes = ap length same in omega arith)

  -- an answer, where no call is served
  pub serves_none : serving ≡ None → MovesBy old i Answer false old
  serves_none none = moves_not Answer (λ p other e steps. let m = of_map (part_by log serving) lanes i p e in
      let no : None ≡ Some steps.0.call = sym (cond_none m.0.holding serving none)
      ∙ (ap (λ (q : Part). q.serving) m.2 ∙ steps.0.serving) in cc)

  -- a step of a holder that serves no posted call, where one is served
  pub busy : (kind : Kind) → (serving ≡ None → ⊥)
      → ((p : Part) (other : World) → StepsAs w i p kind other → IsHolder w i p) → MovesBy old i kind false old
  busy kind not holds = moves_not kind
      (λ p other e steps. let m = of_map (part_by log serving) lanes i p e in let s = some_of serving not in
      no_holder i k m.1 s.0 s.1 p e (holds p other steps))

  -- a step that serves an own call, where the lane may not put one
  pub own_not : (kind : Kind)
      → ((p : Part) (other : World) → StepsAs w i p kind other → IsHolder w i p × (p.flight ≡ None))
      → (MayPut out serving lanes i → ⊥) → MovesBy old i kind false old
  own_not kind owns not = moves_not kind (λ p other e steps.
      let m = of_map (part_by log serving) lanes i p e in let x : Lane = m.0 in let h = owns p other steps in
      let idle : flight_by (take x.after log) (lane_cell log serving x) ≡ None =
      ap (λ (q : Part). q.flight) m.2 ∙ h.1 in not (
        out_by store out i h.0.out,
        unserved serving (λ s served. no_holder i k m.1 s served p e h.0),
        (
          x,
          m.1,
          slot_empty serving log i x.slot (k.each i x m.1).slot
              (cell_idle (take x.after log) (lane_cell log serving x) idle),
        ),
      ))

  -- a call that is posted where something is in the cell
  pub posts_not : (moment : ℕ) (ask : Ask) → (IsIdle lanes i → ⊥) → MovesBy old i (Post moment ask) false old
  posts_not moment ask not = moves_not (Post moment ask)
      (λ p other e steps. let m = of_map (lane_cell log serving) lanes i cells.Empty steps.0 in
      not (m.0, m.1, slot_empty serving log i m.0.slot (k.each i m.0 m.1).slot m.2))

  module _ {x : Lane} (at : get_elem? lanes i ≡ some x) where
    -- a step that was made
    pub moves : {store' : State} {out' : Option ℕ} {serving' : Option Service} {log' : List Event} {lanes' : List Lane}
        (kind : Kind) → IsKept store' out' serving' log' lanes'
        × StepsAs w i (part_by log serving x) kind (world_of store' out' serving' log' lanes')
        → Comes old i kind store' out' serving' log' lanes'
    moves {store'} {out'} {serving'} {log'} {lanes'} kind made = (
      made.0,
      subst (λ (z : World). MovesBy z i kind true (world_of store' out' serving' log' lanes')) is
          (part_by log serving x, get_map (part_by log serving) lanes i x at, made.1),
    )

    -- a step that is refused
    pub refuses : (kind : Kind) (error : Errno) → Refuses w i (part_by log serving x) kind error
        → RefusedBy old i kind error old
    refuses kind error why = subst (λ (z : World). RefusedBy z i kind error z) is
        (refl, (part_by log serving x, get_map (part_by log serving) lanes i x at, why))

-- who may have a call of its own served, as a holder, but for the memory for its event
pub own_refused : {store : State} {out : Option ℕ} {serving : Option Service} {log : List Event} {lanes : List Lane}
    (i : ℕ) {x : Lane} → IsKept store out serving log lanes → get_elem? lanes i ≡ some x → out ≡ Some i
    → serving ≡ None → x.slot ≡ slots.Empty → (ENOMEM ≡ ENOMEM)
    × IsHolder (world_of store out serving log lanes) i (part_by log serving x) ×
    ((part_by log serving x).flight ≡ None)
own_refused i k at here none idle = (refl, holder i k at here none, no_flight i k at idle)
