-- What the steps of a holder that serves posted calls come to on the machine as it is kept.
use Rattle.std.proofs.Common.{[], ⊎_elim, ◌++◌, ◌==◌, ◌∙◌, ◌∷◌, ◌≡◌, ◌≢◌, ◌⊎◌, ap, Bool, cond, false, inl, inr}
use Rattle.std.proofs.Common.{length-set, List, map, None, Option, refl, set, Some, subst, suc, sym, take, true, Vec}
use Rattle.std.proofs.Common.{arith, zero, ℕ}
use Rattle.std.specs.declared.alloc.Global.{Global}
use lib.ListN.{get_elem?}
use mathlib.Core.Option.{some, some-injective}
use Rattle.krs_types.specs.declared.{ask.Ask.Ask, event.Event.Event}
use Rattle.krs_model.specs.State.{starting_at, State}
use Rattle.krs_world.specs.Kept.{answered_cell, cell_by, flight_by, has_reply, IsKept, IsLane, IsSlotOf, known_by}
use Rattle.krs_world.specs.Kept.{lane_cell, part_by, served_cell, turn_by, world_of}
use Rattle.krs_world.specs.Knowing.{events_of, grabbed, looked_at, service}
use Rattle.krs_world.specs.World.{is_answered, IsOneHistory, IsUnposted, recelled, reseated, StepsAs, World}
use Rattle.krs_world.specs.declared.lane.{Lane.Lane, Slot.Slot}
use Rattle.krs_world.specs.declared.{step.Kind.TheVariants.{Grab, LookAt}, view.{Part.Part, Service.Service}}
use Rattle.krs_world.proofs.KeptHistory.{cells_by, each_at, map_else, reseats, seats_by}
use Rattle.krs_world.proofs.KeptLanes.{held_true, lane_is}
use Rattle.krs_world.proofs.{Lanes.{at_set, set_at}, Moves.{after, holder, holding_is, stays, still_served, unheld}}
use Rattle.krs_world.proofs.{Slots.slot_posted, Worlds.{get_map, of_map}}
use Rattle.krs_world.specs.declared.lane.Slot.TheVariants as slots
use Rattle.krs_world.specs.declared.view.Cell.TheVariants as cells
use mathlib.Core.Option as maybe
use Rattle.std.proofs.lemmas.Grind.{common_steps}

pub set_same : {A : Type 0} (l : List A) (i : ℕ) (a : A) → get_elem? l i ≡ some a → set l i a ≡ l
set_same [] i a e = refl
set_same (b ∷ l) zero a e = ap (λ (c : _). c ∷ l) (sym (some-injective b a e))
set_same (b ∷ l) (suc i) a e = ap (λ (m : List _). b ∷ m) (set_same l i a e)

-- Slots.
answered_unposted : (o : maybe.Option Event) → IsUnposted (answered_cell o)
answered_unposted maybe.none = tt
answered_unposted (some e) = tt

pub unposted : (serving : Option Service) (log : List Event) (s : Slot)
    → ((m : ℕ) (ask : Ask) → s ≡ slots.Posted m ask → ⊥) → IsUnposted (cell_by log serving s)
unposted serving log slots.Empty not = tt
unposted serving log (slots.Posted m ask) not = absurd (not m ask refl)
unposted None log slots.Serving not = tt
unposted (Some s) log slots.Serving not = tt
unposted serving log (slots.Answered n) not = answered_unposted (get_elem? log n)

pub slot_replies : (serving : Option Service) (log : List Event) (j : ℕ) (s : Slot) → IsSlotOf serving log j s
    → has_reply s ≡ is_answered (cell_by log serving s)
slot_replies serving log j slots.Empty is = refl
slot_replies serving log j (slots.Posted m ask) is = refl
slot_replies serving log j slots.Serving is = ap (λ (v : Option Service). is_answered (served_cell v)) (sym is.1)
slot_replies serving log j (slots.Answered n) is = grind (arith, common_steps)

-- what a slot says that isn't served, whichever call is
pub cell_apart : (serving other : Option Service) (log : List Event) (s : Slot) → (s ≡ slots.Serving → ⊥)
    → cell_by log other s ≡ cell_by log serving s
cell_apart serving other log slots.Empty not = refl
cell_apart serving other log (slots.Posted m ask) not = refl
cell_apart serving other log slots.Serving not = absurd (not refl)
cell_apart serving other log (slots.Answered n) not = refl

pub slot_apart : (serving other : Option Service) (log : List Event) (j : ℕ) (s : Slot) → (s ≡ slots.Serving → ⊥)
    → IsSlotOf serving log j s → IsSlotOf other log j s
slot_apart serving other log j slots.Empty not is = tt
slot_apart serving other log j (slots.Posted m ask) not is = tt
slot_apart serving other log j slots.Serving not is = absurd (not refl)
slot_apart serving other log j (slots.Answered n) not is = is

-- nothing is served where no call is
pub apart_none : (serving : Option Service) (log : List Event) (j : ℕ) (s : Slot) → serving ≡ None
    → IsSlotOf serving log j s → s ≡ slots.Serving → ⊥
apart_none serving log j s none is e = grind (arith, common_steps)

-- and no other lane is served than the one whose call is
pub apart_else : (serving : Option Service) (call : Service) (log : List Event) (j : ℕ) (s : Slot) → serving ≡ Some call
    → call.lane ≢ j → IsSlotOf serving log j s → s ≡ slots.Serving → ⊥
apart_else serving call log j s serves not is e = grind (arith, common_steps)

module _ {store : State} {out : Option ℕ} {serving : Option Service} {log : List Event} {lanes : List Lane} (i : ℕ)
    {x : Lane} (k : IsKept store out serving log lanes) (at : get_elem? lanes i ≡ some x) where
  abbrev w : World
  w = world_of store out serving log lanes

  abbrev p : Part
  p = part_by log serving x

  -- the holder's lane holds the list
  pub holds_true : out ≡ Some i → x.holding ≡ true
  holds_true here = held_true x.holding log log (holding_is i k at here)

  -- the holder looks at a cell that isn't posted
  pub looks : (other : ℕ) (z : Lane) (v : Vec ℕ Global) (d : Bool) → out ≡ Some i → get_elem? lanes other ≡ some z
      → ((m : ℕ) (ask : Ask) → z.slot ≡ slots.Posted m ask → ⊥) → v.items ≡ x.checked.items ++ other ∷ []
      → d ≡ cond (cond (other == i) (has_reply z.slot) false) true x.done
      → IsKept store out serving log (set lanes i (record x { checked = v; done = d })) × StepsAs w i p (LookAt other)
      (world_of store out serving log (set lanes i (record x { checked = v; done = d })))
  looks other z v d here there not ev ed =
      let y : Lane = record x { checked = v; done = d } in
      let o = k.each i x at in
      let fin : Bool = cond (other == i) (is_answered (lane_cell log serving z)) false in
      let finished : d ≡ cond fin true x.done = ed ∙ ap (λ (b : Bool). cond (cond (other == i) b false) true x.done)
      (slot_replies serving log other z.slot (k.each other z there).slot) in
      let part : part_by log serving y ≡ looked_at p other fin =
      λ j. record (looked_at p other fin) { checked = ev j; done = finished j } in
      stays i k at y (LookAt other) (λ no. absurd (let both : None ≡ Some i = sym no ∙ here in cc))
      (lane_is o.number o.seen o.base o.after o.holds o.slot) (still_served i k at y refl) (
        lane_cell log serving z,
        ap (turn_by store) here,
        get_map (lane_cell log serving) lanes other z there,
        unposted serving log z.slot not,
        reseats store out out serving log lanes i x y (looked_at p other fin) at refl part,
      )

  -- the same lane in two lists that differ at one place
  abbrev At : ℕ → Lane → ℕ → Lane → Lane → Type 0
  At other y j l v = ((j ≡ other) × (y ≡ l)) ⊎ ((j ≢ other) × (v ≡ l))

  at_either : (other : ℕ) (y : Lane) (j : ℕ) (l v : Lane) → get_elem? (set lanes other y) j ≡ some l
      → get_elem? lanes j ≡ some v → At other y j l v
  at_either other y j l v there was = ⊎_elim (λ (t : (j ≡ other) × (y ≡ l)). inl t)
      (λ (t : (j ≢ other) × (get_elem? lanes j ≡ some l)). inr (t.0, some-injective v l (sym was ∙ t.1)))
      (at_set lanes other j y l there)

  -- what the seat of a lane knows where a call is taken up: the holder's, and another's
  grabbed_part : (serves : Option Service) (j : ℕ) (v : Lane) (s : Slot) → get_elem? lanes j ≡ some v
      → out ≡ Some i → serving ≡ None → known_by log s ≡ known_by log v.slot
      → ((l : List Event) → flight_by l (cell_by log serves s) ≡ flight_by l (cell_by log serving v.slot))
      → (j ≡ i → part_by log serves record v { slot = s } ≡ record p { serving = serves })
      × (j ≢ i → part_by log serves record v { slot = s } ≡ part_by log serving v)
  grabbed_part serves j v s was here none known flying =
      let calls : events_of v.lane (known_by log s) ≡ events_of v.lane (known_by log v.slot) =
      ap (events_of v.lane) known in (
        (λ same. let one : v ≡ x = some-injective v x (sym was ∙ (ap (get_elem? lanes) same ∙ at)) in
            let held : cond v.holding serves None ≡ serves =
            ap (λ (b : Bool). cond b serves None) (ap (λ (l : Lane). l.holding) one ∙ holds_true here) in
            let part : part_by log serves record v { slot = s } ≡ record (part_by log serving v) { serving = serves } =
            λ m. record (part_by log serving v) {
              mine = calls m;
              serving = held m;
              flight = flying (take v.after log) m;
            } in
            part ∙ ap (λ (l : Lane). record (part_by log serving l) { serving = serves }) one),
        (λ not. let quiet : v.holding ≡ false = unheld i k at j v was not here in
            let held : cond v.holding serves None ≡ cond v.holding serving None =
            ap (λ (b : Bool). cond b serves None) quiet ∙ sym (ap (λ (b : Bool). cond b serving None) quiet) in
            λ m. record (part_by log serving v) {
              mine = calls m;
              serving = held m;
              flight = flying (take v.after log) m;
            }),
      )

  -- the holder takes up a posted call
  pub grabs : (other : ℕ) (z : Lane) (m : ℕ) (ask : Ask) → out ≡ Some i → serving ≡ None
      → get_elem? lanes other ≡ some z → z.slot ≡ slots.Posted m ask
      → IsKept store out (Some (service other m ask)) log (set lanes other (record z { slot = slots.Serving }))
      × StepsAs w i p (Grab other)
      (world_of store out (Some (service other m ask)) log (set lanes other (record z { slot = slots.Serving })))
  grabs other z m ask here none there is =
      let call : Service = service other m ask in
      let serves : Option Service = Some call in
      let y : Lane = record z { slot = slots.Serving } in
      let lanes' : List Lane = set lanes other y in
      let o = k.each other z there in
      let q : Part = grabbed p other m ask in
      let not_served : (j : ℕ) (l : Lane) → get_elem? lanes j ≡ some l → l.slot ≡ slots.Serving → ⊥ = λ j l e.
      apart_none serving log j l.slot none (k.each j l e).slot in
      let here_part : (j : ℕ) (v : Lane) → get_elem? lanes j ≡ some v → j ≡ other
      → (j ≡ i → part_by log serves y ≡ q) × (j ≢ i → part_by log serves y ≡ part_by log serving v) = λ j v was same.
      let one : v ≡ z = some-injective v z (sym was ∙ (ap (get_elem? lanes) same ∙ there)) in
      let old : v.slot ≡ slots.Posted m ask = ap (λ (l : Lane). l.slot) one ∙ is in
      let t = grabbed_part serves j v slots.Serving was here none (ap (known_by log) (sym old))
      (λ l. ap (λ (s : Slot). flight_by l (cell_by log serving s)) (sym old)) in
      let new : part_by log serves y ≡ part_by log serves record v { slot = slots.Serving } =
      ap (λ (l : Lane). part_by log serves record l { slot = slots.Serving }) (sym one) in
      ((λ e. new ∙ t.0 e), (λ e. new ∙ t.1 e)) in
      let else_part : (j : ℕ) (v : Lane) → get_elem? lanes j ≡ some v
      → (j ≡ i → part_by log serves v ≡ q) × (j ≢ i → part_by log serves v ≡ part_by log serving v) = λ j v was.
      grabbed_part serves j v v.slot was here none refl
      (λ l. ap (flight_by l) (cell_apart serving serves log v.slot (not_served j v was))) in
      let seats : map (part_by log serves) lanes' ≡ set (seats_by log serving lanes) i q =
      map_else (part_by log serving) (part_by log serves) lanes lanes' i q (length-set lanes other y)
      (λ j l v at' was. ⊎_elim (λ (t : (j ≡ other) × (y ≡ l)). let h = here_part j v was t.0 in
      let new : part_by log serves l ≡ part_by log serves y = ap (part_by log serves) (sym t.1) in
      ((λ e. new ∙ h.0 e), (λ e. new ∙ h.1 e))) (λ (t : (j ≢ other) × (v ≡ l)). let h = else_part j v was in
      let new : part_by log serves l ≡ part_by log serves v = ap (part_by log serves) (sym t.1) in
      ((λ e. new ∙ h.0 e), (λ e. new ∙ h.1 e))) (at_either other y j l v at' was)) in
      let cs : map (lane_cell log serves) lanes' ≡ set (cells_by log serving lanes) other (cells.Serving m ask) =
      map_else (lane_cell log serving) (lane_cell log serves) lanes lanes' other (cells.Serving m ask)
      (length-set lanes other y) (λ j l v at' was. ⊎_elim (λ (t : (j ≡ other) × (y ≡ l)). (
        (λ e. ap (lane_cell log serves) (sym t.1)),
        (λ e. absurd (e t.0)),
      )) (λ (t : (j ≢ other) × (v ≡ l)). (
        (λ e. absurd (t.0 e)),
        (λ e. ap (lane_cell log serves) (sym t.1) ∙ cell_apart serving serves log v.slot (not_served j v was)),
      )) (at_either other y j l v at' was)) in
      let new : world_of store out serves log lanes' ≡ recelled (reseated w i q) other (cells.Serving m ask) =
      λ j. record {
        opening = starting_at 3;
        turn = turn_by store out;
        cells = cs j;
        seats = seats j;
      } in
      let cell : get_elem? w.cells other ≡ some (cells.Posted m ask) =
      get_map (lane_cell log serving) lanes other z there ∙ ap (λ (s : Slot). some (cell_by log serving s)) is in
      let steps : StepsAs w i p (Grab other) (world_of store out serves log lanes') =
      (holder i k at here none, m, ask, cell, new) in (
        after i k at store out serves log lanes' (Grab other) steps
            (λ no. absurd (let both : None ≡ Some i = sym no ∙ here in cc)) k.legal
            (each_at (IsLane out serves log) lanes other y
            (lane_is o.number o.seen o.base o.after o.holds (call, refl, refl)) (λ j l apart e. let u = k.each j l e in
            lane_is u.number u.seen u.base u.after u.holds (slot_apart serving serves log j l.slot (not_served j l e)
            u.slot))) (λ no. absurd (let both : None ≡ Some i = sym no ∙ here in cc))
            (λ s e. let same : call ≡ s = cc in
            subst (λ (v : Service). (l : Lane) × (get_elem? lanes' v.lane ≡ some l) × (l.slot ≡ slots.Serving)) same
            (y, set_at lanes other y z there, refl)),
        steps,
      )

  -- the same, by the slot that is left
  pub grabs_at : (other : ℕ) (z : Lane) (m : ℕ) (ask : Ask) (s : Slot) → out ≡ Some i → serving ≡ None
      → get_elem? lanes other ≡ some z → z.slot ≡ slots.Posted m ask → s ≡ slots.Serving
      → IsKept store out (Some (service other m ask)) log (set lanes other (record z { slot = s }))
      × StepsAs w i p (Grab other)
      (world_of store out (Some (service other m ask)) log (set lanes other (record z { slot = s })))
  grabs_at other z m ask s here none there is served =
      subst (λ (s : Slot). IsKept store out (Some (service other m ask)) log (set lanes other (record z { slot = s }))
      × StepsAs w i p (Grab other)
      (world_of store out (Some (service other m ask)) log (set lanes other (record z { slot = s })))) (sym served)
      (grabs other z m ask here none there is)

  pub no_grab : (other : ℕ) → ((z : Lane) (m : ℕ) (ask : Ask) → get_elem? lanes other ≡ some z
      → z.slot ≡ slots.Posted m ask → ⊥) → (q : Part) (new : World) → StepsAs w i q (Grab other) new → ⊥
  no_grab other not q new steps = let c = of_map (lane_cell log serving) lanes other
      (cells.Posted steps.1 steps.2) steps.3 in
      not c.0 steps.1 steps.2 c.1 (slot_posted serving log c.0.slot steps.1 steps.2 c.2)

  -- what isn't possible at a cell with a posted call
  pub no_look : (other : ℕ) (z : Lane) (m : ℕ) (ask : Ask) → get_elem? lanes other ≡ some z
      → z.slot ≡ slots.Posted m ask → (q : Part) (new : World) → StepsAs w i q (LookAt other) new → ⊥
  no_look other z m ask there is q new steps =
      let cell : steps.0 ≡ cells.Posted m ask = some-injective steps.0 (cells.Posted m ask) (sym steps.2
      ∙ (get_map (lane_cell log serving) lanes other z there ∙ ap (λ (s : Slot). some (cell_by log serving s)) is)) in
      subst IsUnposted cell steps.3

  -- room for a lane that was looked at was refused
  pub room_refused : (v : Vec ℕ Global) → v.items ≡ x.checked.items
      → IsKept store out serving log (set lanes i (record x { checked = v }))
      × (world_of store out serving log (set lanes i (record x { checked = v })) ≡ w)
  room_refused v ev =
      let y : Lane = record x { checked = v } in
      let o = k.each i x at in
      let part : part_by log serving y ≡ p = λ j. record p { checked = ev j } in
      let same : world_of store out serving log (set lanes i y) ≡ w =
      reseats store out out serving log lanes i x y p at refl part ∙ (λ j. record w {
        seats = set_same (seats_by log serving lanes) i p (get_map (part_by log serving) lanes i x at) j;
      }) in
      let b : (z : IsOneHistory (world_of store out serving log (set lanes i y))) × (z.history.log ≡ log) =
      subst (λ (v : World). (z : IsOneHistory v) × (z.history.log ≡ log)) (sym same) (k.one, k.whole) in (
        record {
          one = b.0;
          whole = b.1;
          legal = k.legal;
          each = each_at (IsLane out serving log) lanes i y (lane_is o.number o.seen o.base o.after o.holds o.slot)
              (λ j l apart e. k.each j l e);
          idle = k.idle;
          served = still_served i k at y refl;
        },
        same,
      )
