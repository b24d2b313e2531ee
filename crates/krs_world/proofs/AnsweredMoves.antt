-- What the answer of a posted call comes to on the machine as it is kept.
use Rattle.std.proofs.Common.{[], ⊎_elim, ◌++◌, ◌+◌, ◌==◌, ◌∙◌, ◌∷◌, ◌≡◌, ◌≢◌, ap, arith, Bool, cond, false, length}
use Rattle.std.proofs.Common.{length-append, length-set, List, map, None, Option, refl, Result, set, Some, subst, sym}
use Rattle.std.proofs.Common.{take, true, Vec, ℕ}
use Rattle.std.specs.declared.alloc.Global.{Global}
use Rattle.std.proofs.lemmas.List.{take-append-le}
use lib.ListN.{get_elem?}
use mathlib.Core.Option.{some, some-injective}
use Rattle.krs_types.specs.declared.{errno.Errno.Errno, event.Event.Event}
use Rattle.krs_model.specs.{State.{starting_at, State}, Step.Step}
use Rattle.krs_model.proofs.History.Legal.{legal_more}
use Rattle.krs_world.specs.Kept.{cell_by, flight_by, IsKept, IsLane, known_by, lane_cell, part_by, served_cell, turn_by}
use Rattle.krs_world.specs.{Kept.world_of, Knowing.{answered, events_of}}
use Rattle.krs_world.specs.{World.{event_by, IsServer, recelled, reseated, StepsAs, World}, declared.lane.Lane.Lane}
use Rattle.krs_world.specs.declared.{lane.Slot.Slot, step.Kind.TheVariants.Answer, view.{Part.Part, Service.Service}}
use Rattle.krs_world.proofs.KeptHistory.{cells_by, each_at, map_else, seats_by}
use Rattle.krs_world.proofs.{KeptLanes.{lane_is, lane_more}, Lanes.{at_set, snoc_end}}
use Rattle.krs_world.proofs.Moves.{after, holding_is, unheld}
use Rattle.krs_world.proofs.ServedMoves.{apart_else, cell_apart, holds_true, slot_apart}
use Rattle.krs_world.proofs.Slots.{cell_more, cell_then, cond_none, known_more, known_then}
use Rattle.krs_types.specs.declared.ask.Answer as answer
use Rattle.krs_world.specs.declared.lane.Slot.TheVariants as slots
use Rattle.krs_world.specs.declared.view.Cell.TheVariants as cells

cond_own : (b : Bool) → cond b true false ≡ b
cond_own true = refl
cond_own false = refl

module _ {store : State} {out : Option ℕ} {serving : Option Service} {log : List Event} {lanes : List Lane} (i : ℕ)
    {x : Lane} (k : IsKept store out serving log lanes) (at : get_elem? lanes i ≡ some x) where
  abbrev w : World
  w = world_of store out serving log lanes

  abbrev p : Part
  p = part_by log serving x

  -- the call that is served
  abbrev pub server : (call : Service) → out ≡ Some i → serving ≡ Some call → IsServer w i p
  server call here is = record {
    log = log;
    last = store;
    call = call;
    out = ap (turn_by store) here;
    held = holding_is i k at here;
    serving = ap (λ (b : Bool). cond b serving None) (holds_true i k at here) ∙ is;
    legal = k.legal;
  }

  module _ (call : Service) (reply : Result answer.Answer Errno) (v : Vec ℕ Global) (d : Bool) (u : Lane)
      (here : out ≡ Some i) (is : serving ≡ Some call) (ev : v.items ≡ x.checked.items ++ call.lane ∷ [])
      (done : d ≡ cond (cond (call.lane == i) true false) true x.done)
      (there : get_elem? (set lanes i (record x { checked = v; done = d })) call.lane ≡ some u) where
    abbrev e : Event
    e = event_by call reply

    ed : d ≡ cond (call.lane == i) true x.done
    ed = done ∙ ap (λ (b : Bool). cond b true x.done) (cond_own (call.lane == i))

    abbrev log' : List Event
    log' = log ++ e ∷ []

    abbrev y : Lane
    y = record x { checked = v; done = d }

    abbrev z : Lane
    z = record u { slot = slots.Answered (length log) }

    abbrev lanes' : List Lane
    lanes' = set (set lanes i y) call.lane z

    -- what the lanes know that aren't out, and what the one that is
    answered_part : (j : ℕ) (l : Lane) (s : Slot) → get_elem? lanes j ≡ some l
        → events_of l.lane (known_by log' s) ≡ events_of l.lane (known_by log l.slot)
        → ((f : List Event) → flight_by f (cell_by log' None s) ≡ flight_by f (cell_by log serving l.slot))
        → (j ≢ i → part_by log' None record l { slot = s } ≡ part_by log serving l)
        × (l ≡ x → part_by log' None record l { slot = s; checked = v; done = d } ≡ answered p log e)
    answered_part j l s was known flying =
        let o = k.each j l was in
        let seen : take l.seen log' ≡ take l.seen log = take-append-le l.seen log (e ∷ []) o.seen in
        let based : take l.base log' ≡ take l.base log = take-append-le l.base log (e ∷ []) o.base in
        let before : take l.after log' ≡ take l.after log = take-append-le l.after log (e ∷ []) o.after in
        let flies : flight_by (take l.after log') (cell_by log' None s)
        ≡ flight_by (take l.after log) (cell_by log serving l.slot) =
        ap (λ (f : List Event). flight_by f (cell_by log' None s)) before ∙ flying (take l.after log) in
        let nothing : Option Service = None in
        let none : (b : Bool) → cond b nothing nothing ≡ nothing = λ b. cond_none b nothing refl in (
          (λ not. let quiet : l.holding ≡ false = unheld i k at j l was not here in
              let held : cond l.holding (Some log') None ≡ cond l.holding (Some log) None =
              ap (λ (b : Bool). cond b (Some log') None) quiet
              ∙ sym (ap (λ (b : Bool). cond b (Some log) None) quiet) in
              let served : cond l.holding nothing nothing ≡ cond l.holding serving nothing =
              none l.holding ∙ sym (ap (λ (b : Bool). cond b serving None) quiet) in
              λ m. record (part_by log serving l) {
                seen = seen m;
                mine = known m;
                holding = held m;
                serving = served m;
                flight = flies m;
                base = based m;
              }),
          (λ one. let number : x.lane ≡ i = (k.each i x at).number in
              let held : cond l.holding (Some log') None ≡ Some log' = ap (λ (b : Bool). cond b (Some log') None)
              (ap (λ (r : Lane). r.holding) one ∙ holds_true i k at here) in
              let finished : d ≡ cond (call.lane == l.lane) true l.done = ed
              ∙ (ap (λ (n : ℕ). cond (call.lane == n) true x.done) (sym number)
              ∙ ap (λ (r : Lane). cond (call.lane == r.lane) true r.done) (sym one)) in
              let looked : v.items ≡ l.checked.items ++ call.lane ∷ [] = ev
              ∙ ap (λ (r : Lane). r.checked.items ++ call.lane ∷ []) (sym one) in
              let part : part_by log' None record l { slot = s; checked = v; done = d }
              ≡ answered (part_by log serving l) log e = λ m. record (answered (part_by log serving l) log e) {
                seen = seen m;
                mine = known m;
                holding = held m;
                serving = none l.holding m;
                flight = flies m;
                base = based m;
                checked = looked m;
                done = finished m;
              } in
              part ∙ ap (λ (r : Lane). answered (part_by log serving r) log e) one),
        )

    -- the lane whose call it is
    own_part : (j : ℕ) (l : Lane) → get_elem? lanes j ≡ some l → j ≡ call.lane
        → (j ≢ i → part_by log' None record l { slot = slots.Answered (length log) } ≡ part_by log serving l)
        × (l ≡ x → part_by log' None record l { slot = slots.Answered (length log); checked = v; done = d }
        ≡ answered p log e)
    own_part j l was same =
        let t = k.served call is in
        let one : t.0 ≡ l = some-injective t.0 l (sym t.1 ∙ (ap (get_elem? lanes) (sym same) ∙ was)) in
        let old : l.slot ≡ slots.Serving = ap (λ (r : Lane). r.slot) (sym one) ∙ t.2 in
        let cell : cell_by log serving l.slot ≡ cells.Serving call.moment call.ask =
        ap (cell_by log serving) old ∙ ap served_cell is in
        answered_part j l (slots.Answered (length log)) was
        (ap (events_of l.lane) (known_then log e ∙ sym (ap (known_by log) old)))
        (λ f. ap (flight_by f) (cell_then None log e) ∙ ap (flight_by f) (sym cell))

    -- another lane
    else_cell : (j : ℕ) (l : Lane) → get_elem? lanes j ≡ some l → j ≢ call.lane
        → cell_by log' None l.slot ≡ cell_by log serving l.slot
    else_cell j l was not = let o = k.each j l was in
        cell_apart serving None log' l.slot (apart_else serving call log j l.slot is (λ same. not (sym same)) o.slot)
        ∙ cell_more serving log e j l.slot o.slot

    else_part : (j : ℕ) (l : Lane) → get_elem? lanes j ≡ some l → j ≢ call.lane
        → (j ≢ i → part_by log' None record l { slot = l.slot } ≡ part_by log serving l)
        × (l ≡ x → part_by log' None record l { slot = l.slot; checked = v; done = d } ≡ answered p log e)
    else_part j l was not = let o = k.each j l was in
        answered_part j l l.slot was
        (subst (λ (n : ℕ). events_of n (known_by log' l.slot) ≡ events_of n (known_by log l.slot)) (sym o.number)
        (known_more serving log e j l.slot o.slot (λ same. not (sym same))))
        (λ f. ap (flight_by f) (else_cell j l was not))

    sized : length lanes' ≡ length lanes
    sized = length-set (set lanes i y) call.lane z ∙ length-set lanes i y

    -- what each seat knows
    seated : (j : ℕ) (r l : Lane) → get_elem? lanes' j ≡ some r → get_elem? lanes j ≡ some l
        → (j ≡ i → part_by log' None r ≡ answered p log e) × (j ≢ i → part_by log' None r ≡ part_by log serving l)
    seated j r l now was = ⊎_elim (λ (t : (j ≡ call.lane) × (z ≡ r)). let h = own_part j l was t.0 in ⊎_elim
        (λ (b : (call.lane ≡ i) × (y ≡ u)). let here_too : j ≡ i = t.0 ∙ b.0 in
        let one : l ≡ x = some-injective l x (sym was ∙ (ap (get_elem? lanes) here_too ∙ at)) in
        let is_so : r ≡ record l { slot = slots.Answered (length log); checked = v; done = d } =
        sym t.1 ∙ (ap (λ (a : Lane). record a { slot = slots.Answered (length log) }) (sym b.1)
        ∙ ap (λ (a : Lane). record a { slot = slots.Answered (length log); checked = v; done = d }) (sym one)) in
        ((λ _. ap (part_by log' None) is_so ∙ h.1 one), (λ not. absurd (not here_too))))
        (λ (b : (call.lane ≢ i) × (get_elem? lanes call.lane ≡ some u)).
        let one : u ≡ l = some-injective u l (sym b.1 ∙ (ap (get_elem? lanes) (sym t.0) ∙ was)) in
        let is_so : r ≡ record l { slot = slots.Answered (length log) } =
        sym t.1 ∙ ap (λ (a : Lane). record a { slot = slots.Answered (length log) }) one in
        ((λ same. absurd (b.0 (sym t.0 ∙ same))), (λ not. ap (part_by log' None) is_so ∙ h.0 not)))
        (at_set lanes i call.lane y u there))
        (λ (t : (j ≢ call.lane) × (get_elem? (set lanes i y) j ≡ some r)). let h = else_part j l was t.0 in ⊎_elim
        (λ (b : (j ≡ i) × (y ≡ r)).
        let one : l ≡ x = some-injective l x (sym was ∙ (ap (get_elem? lanes) b.0 ∙ at)) in
        let is_so : r ≡ record l { slot = l.slot; checked = v; done = d } =
        sym b.1 ∙ ap (λ (a : Lane). record a { slot = a.slot; checked = v; done = d }) (sym one) in
        ((λ _. ap (part_by log' None) is_so ∙ h.1 one), (λ not. absurd (not b.0))))
        (λ (b : (j ≢ i) × (get_elem? lanes j ≡ some r)).
        let one : r ≡ l = some-injective r l (sym b.1 ∙ was) in
        ((λ same. absurd (b.0 same)), (λ not. ap (part_by log' None) one ∙ h.0 not))) (at_set lanes i j y r t.1))
        (at_set (set lanes i y) call.lane j z r now)

    -- and what is in its cell
    celled : (j : ℕ) (r l : Lane) → get_elem? lanes' j ≡ some r → get_elem? lanes j ≡ some l
        → (j ≡ call.lane → lane_cell log' None r ≡ cells.Answered call.moment call.ask reply)
        × (j ≢ call.lane → lane_cell log' None r ≡ lane_cell log serving l)
    celled j r l now was = ⊎_elim (λ (t : (j ≡ call.lane) × (z ≡ r)). (
      (λ _. ap (lane_cell log' None) (sym t.1) ∙ cell_then None log e),
      (λ not. absurd (not t.0)),
    )) (λ (t : (j ≢ call.lane) × (get_elem? (set lanes i y) j ≡ some r)).
        let slot : r.slot ≡ l.slot = ⊎_elim (λ (b : (j ≡ i) × (y ≡ r)).
        let one : x ≡ l = some-injective x l (sym at ∙ (ap (get_elem? lanes) (sym b.0) ∙ was)) in
        ap (λ (a : Lane). a.slot) (sym b.1) ∙ ap (λ (a : Lane). a.slot) one)
        (λ (b : (j ≢ i) × (get_elem? lanes j ≡ some r)).
        ap (λ (a : Lane). a.slot) (some-injective r l (sym b.1 ∙ was))) (at_set lanes i j y r t.1) in (
          (λ same. absurd (t.0 same)),
          (λ not. ap (cell_by log' None) slot ∙ else_cell j l was not),
        )) (at_set (set lanes i y) call.lane j z r now)

    lanes_kept : (j : ℕ) (l : Lane) → get_elem? lanes' j ≡ some l → IsLane out None log' j l
    lanes_kept =
        let o = k.each i x at in
        let base : (j : ℕ) (l : Lane) → get_elem? (set lanes i y) j ≡ some l → IsLane out serving log j l =
        each_at (IsLane out serving log) lanes i y (lane_is o.number o.seen o.base o.after o.holds o.slot)
        (λ j l apart was. k.each j l was) in
        let b = base call.lane u there in
        let size : length log' ≡ length log + 1 = length-append log (e ∷ []) in
        let seen = b.seen in let based = b.base in let after = b.after in
        each_at (IsLane out None log') (set lanes i y) call.lane z
        (lane_is b.number (omega arith) (omega arith) (omega arith) b.holds (e, snoc_end log e, refl))
        (λ j l apart was. let u = base j l was in let m = lane_more e u u.holds in
        lane_is m.number m.seen m.base m.after m.holds (slot_apart serving None log' j l.slot
        (apart_else serving call log j l.slot is (λ same. apart (sym same)) u.slot) m.slot))

    -- the holder answers the call that it serves
    pub answers : (next : State) → Step store e next
        → IsKept next out None log' lanes' × StepsAs w i p Answer (world_of next out None log' lanes')
    answers next step =
        let seats : map (part_by log' None) lanes' ≡ set (seats_by log serving lanes) i (answered p log e) =
        map_else (part_by log serving) (part_by log' None) lanes lanes' i (answered p log e) sized seated in
        let cs : map (lane_cell log' None) lanes'
        ≡ set (cells_by log serving lanes) call.lane (cells.Answered call.moment call.ask reply) =
        map_else (lane_cell log serving) (lane_cell log' None) lanes lanes' call.lane
        (cells.Answered call.moment call.ask reply) sized celled in
        let turns : turn_by next out ≡ turn_by store out = ap (turn_by next) here ∙ sym (ap (turn_by store) here) in
        let new : world_of next out None log' lanes'
        ≡ recelled (reseated w i (answered p log e)) call.lane (cells.Answered call.moment call.ask reply) =
        λ j. record {
          opening = starting_at 3;
          turn = turns j;
          cells = cs j;
          seats = seats j;
        } in
        let steps : StepsAs w i p Answer (world_of next out None log' lanes') =
        (server call here is, reply, next, step, new) in (
          after i k at next out None log' lanes' Answer steps
              (λ no. absurd (let both : None ≡ Some i = sym no ∙ here in cc))
              (legal_more (starting_at 3) store next log e k.legal step) lanes_kept (λ _. refl) (λ s no. absurd cc),
          steps,
        )

    -- the same, by what was appended
    pub answers_at : (next : State) (serving' : Option Service) (longer : List Event) (n : ℕ) → Step store e next
        → serving' ≡ None → longer ≡ log' → n ≡ length log
        → IsKept next out serving' longer (set (set lanes i y) call.lane (record u { slot = slots.Answered n }))
        × StepsAs w i p Answer
        (world_of next out serving' longer (set (set lanes i y) call.lane (record u { slot = slots.Answered n })))
    answers_at next serving' longer n step none is_longer size = subst (λ (t : Option Service × (List Event × ℕ)).
        IsKept next out t.0 t.1.0 (set (set lanes i y) call.lane (record u { slot = slots.Answered t.1.1 }))
        × StepsAs w i p Answer
        (world_of next out t.0 t.1.0 (set (set lanes i y) call.lane (record u { slot = slots.Answered t.1.1 }))))
        (λ j. (sym none j, (sym is_longer j, sym size j))) (answers next step)
