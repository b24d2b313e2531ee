-- What each step of the turn comes to on the machine as it is kept: by one list of all calls, and lengths of it.
use Rattle.std.proofs.Common.{[], ⊎_elim, ◌++◌, ◌+◌, ◌<◌, ◌∙◌, ◌∷◌, ◌≡◌, ◌≢◌, ◌≤◌, ◌⊎◌, ap, arith, Bool, cond, false}
use Rattle.std.proofs.Common.{inl, inr, length, length-append, length-set, length-take-le, List, map, None, Option}
use Rattle.std.proofs.Common.{refl, Result, set, Some, subst, sym, take, true, Vec, ℕ}
use Rattle.std.specs.declared.alloc.Global.{Global}
use Rattle.std.proofs.{Math.Seq.take-length, lemmas.List.take-append-le}
use lib.ListN.{get_elem?}
use mathlib.Core.{Logic.dite, Option.{some, some-injective}}
use native.Mathlib.Decide.{ℕ_discrete}
use Rattle.krs_types.specs.declared.{ask.{Answer.Answer, Ask.Ask}, errno.Errno.Errno, event.Event.Event}
use Rattle.krs_model.specs.{History.{event_of, IsLegal}, State.{starting_at, State}, Step.Step}
use Rattle.krs_model.proofs.History.Legal.{legal_more}
use Rattle.krs_world.specs.Kept.{cell_by, flight_by, IsKept, IsLane, known_by, lane_cell, part_by, Serves, turn_by}
use Rattle.krs_world.specs.{Kept.world_of, Knowing.{events_of, kept, loaded, missed, put_none, put_own, taken}}
use Rattle.krs_world.specs.World.{IsHistory, IsHolder, IsOneHistory, reseated, StepsAs, World}
use Rattle.krs_world.specs.declared.lane.Lane.{Lane}
use Rattle.krs_world.specs.declared.{lane.Slot.Slot, step.Kind.{Kind, TheVariants.{Load, Put, Serve, Take, TakeFound}}}
use Rattle.krs_world.specs.declared.view.{Part.Part, Service.Service}
use Rattle.krs_world.proofs.Keeping.{at_set, own_event, set_at, set_else}
use Rattle.krs_world.proofs.KeptHistory.{begins_further, begins_short, begins_take, cells_by, each_at, history_kept}
use Rattle.krs_world.proofs.KeptHistory.{IsSeenWhole, kept_history, map_alike, map_else, not_true, reseats, seats_by}
use Rattle.krs_world.proofs.KeptHistory.{seen_whole, whole_now}
use Rattle.krs_world.proofs.KeptLanes.{held_true, lane_is, lane_more, lane_out, part_more}
use Rattle.krs_world.proofs.{Slots.{cell_more, cond_none, slot_more}, Worlds.{get_map, step_as}}
use Rattle.krs_world.specs.declared.lane.Slot.TheVariants as slots

-- The steps, by the lane at its place.
module _ {store : State} {out : Option ℕ} {serving : Option Service} {log : List Event} {lanes : List Lane} (i : ℕ)
    {x : Lane} (k : IsKept store out serving log lanes) (at : get_elem? lanes i ≡ some x) where
  abbrev pub w : World
  w = world_of store out serving log lanes

  -- the lane of the call that is served says so
  abbrev pub Served : Option Service → List Lane → Type 0
  Served serving' lanes' = (s : Service) → serving' ≡ Some s
      → (l : Lane) × (get_elem? lanes' s.lane ≡ some l) × (l.slot ≡ slots.Serving)

  -- a step leaves the machine kept
  pub after : (store' : State) (out' : Option ℕ) (serving' : Option Service) (log' : List Event) (lanes' : List Lane)
      (kind : Kind) → StepsAs w i (part_by log serving x) kind (world_of store' out' serving' log' lanes')
      → (out' ≡ None → IsSeenWhole log' lanes') → IsLegal (starting_at 3) log' store'
      → ((j : ℕ) (l : Lane) → get_elem? lanes' j ≡ some l → IsLane out' serving' log' j l)
      → (out' ≡ None → serving' ≡ None) → Served serving' lanes' → IsKept store' out' serving' log' lanes'
  after store' out' serving' log' lanes' kind steps free legal each idle served =
      let w' : World = world_of store' out' serving' log' lanes' in
      let now : IsOneHistory w' = step_as w i (part_by log serving x) kind w' k.one
      (get_map (part_by log serving) lanes i x at) steps in
      record {
        one = now;
        whole = whole_now store' out' serving' log' lanes' now free;
        legal = legal;
        each = each;
        idle = idle;
        served = served;
      }

  -- the lane of the call that is served, where a lane keeps its slot
  pub still_served : (y : Lane) → y.slot ≡ x.slot → Served serving (set lanes i y)
  still_served y same s is = let t = k.served s is in dite (ℕ_discrete s.lane i)
      (λ here. let one : t.0 ≡ x = some-injective t.0 x (sym t.1 ∙ (ap (get_elem? lanes) here ∙ at)) in (
        y,
        ap (get_elem? (set lanes i y)) here ∙ set_at lanes i y x at,
        same ∙ (ap (λ (z : Lane). z.slot) (sym one) ∙ t.2),
      )) (λ away. (t.0, set_else lanes i s.lane y away ∙ t.1, t.2))

  -- a lane that isn't the holder holds nothing
  pub unheld : (j : ℕ) (l : Lane) → get_elem? lanes j ≡ some l → j ≢ i → out ≡ Some i → l.holding ≡ false
  unheld j l e not here = not_true l.holding (λ held. not (let both : Some j ≡ Some i = sym ((k.each j l e).holds held)
      ∙ here in cc))

  abbrev pub Moved : State → Option ℕ → List Event → Lane → Kind → Type 0
  Moved store' out' log' y kind = IsKept store' out' serving log' (set lanes i y)
      × StepsAs w i (part_by log serving x) kind (world_of store' out' serving log' (set lanes i y))

  -- the lane as y by such a step, which leaves the call that is served
  pub moved : (store' : State) (out' : Option ℕ) (log' : List Event) (y : Lane) (kind : Kind)
      → (out' ≡ None → IsSeenWhole log' (set lanes i y)) → IsLegal (starting_at 3) log' store'
      → IsLane out' serving log' i y
      → ((j : ℕ) (l : Lane) → j ≢ i → get_elem? lanes j ≡ some l → IsLane out' serving log' j l)
      → (out' ≡ None → serving ≡ None) → Served serving (set lanes i y)
      → StepsAs w i (part_by log serving x) kind (world_of store' out' serving log' (set lanes i y))
      → Moved store' out' log' y kind
  moved store' out' log' y kind free legal own others idle served steps = (
    after store' out' serving log' (set lanes i y) kind steps free legal
        (each_at (IsLane out' serving log') lanes i y own others) idle served,
    steps,
  )

  -- the same, where nothing changes but the lane
  pub stays : (y : Lane) (kind : Kind) → (out ≡ None → IsSeenWhole log (set lanes i y)) → IsLane out serving log i y
      → Served serving (set lanes i y)
      → StepsAs w i (part_by log serving x) kind (world_of store out serving log (set lanes i y))
      → Moved store out log y kind
  stays y kind free own served steps =
      moved store out log y kind free k.legal own (λ j l not e. k.each j l e) k.idle served steps

  -- take
  pub takes : (base n : ℕ) (v : Vec ℕ Global) → out ≡ None → base ≡ length log → n ≡ x.taken + 1 → v.items ≡ []
      → Moved store (Some i) log record x { base = base; holding = true; taken = n; checked = v } Take
  takes base n v free eb en ev =
      let y : Lane = record x { base = base; holding = true; taken = n; checked = v } in
      let none : serving ≡ None = k.idle free in
      let part : part_by log serving y ≡ taken (part_by log serving x) log =
      λ j. record (taken (part_by log serving x) log) {
        serving = (none ∙ sym (cond_none x.holding serving none)) j;
        base = (ap (λ (b : ℕ). take b log) eb ∙ take-length log) j;
        taken = en j;
        checked = ev j;
      } in
      let o = k.each i x at in
      moved store (Some i) log y Take (λ no. absurd (cc)) k.legal
      (lane_is o.number o.seen (omega arith) o.after (λ _. refl) o.slot)
      (λ j l not e. let u = k.each j l e in lane_out u
      (λ held. absurd (let no : None ≡ Some j = sym free ∙ u.holds held in cc)))
      (λ no. absurd (cc)) (still_served y refl) (
        store,
        log,
        ap (turn_by store) free,
        kept_history k,
        reseats store out (Some i) serving log lanes i x y (taken (part_by log serving x) log) at refl part,
      )

  -- take, found out
  pub misses : (n holder : ℕ) → out ≡ Some holder → holder ≢ i → n ≡ x.found + 1
      → Moved store out log record x { found = n } TakeFound
  misses n holder is not en =
      let y : Lane = record x { found = n } in
      let part : part_by log serving y ≡ missed (part_by log serving x) =
      λ j. record (missed (part_by log serving x)) { found = en j } in
      let o = k.each i x at in
      stays y TakeFound (λ no. absurd (let both : None ≡ Some holder = sym no ∙ is in cc))
      (lane_is o.number o.seen o.base o.after o.holds o.slot) (still_served y refl) (
        holder,
        ap (turn_by store) is,
        not,
        reseats store out out serving log lanes i x y (missed (part_by log serving x)) at refl part,
      )

  -- the list that the holder holds
  pub holding_is : out ≡ Some i → (part_by log serving x).holding ≡ Some log
  holding_is here = let h = subst (λ (o : Option ℕ). IsHistory (world_of store o serving log lanes) log) here
      (kept_history k) in
      let same : h.0 ≡ part_by log serving x = some-injective h.0 (part_by log serving x) (sym h.1
      ∙ get_map (part_by log serving) lanes i x at) in
      ap (λ (p : Part). p.holding) (sym same) ∙ h.2

  -- so it is a holder, which serves no posted call where none is served
  abbrev pub holder : out ≡ Some i → serving ≡ None → IsHolder w i (part_by log serving x)
  holder here none = record {
    log = log;
    last = store;
    out = ap (turn_by store) here;
    held = holding_is here;
    unserving = cond_none x.holding serving none;
    legal = k.legal;
  }

  -- a lane with nothing in its cell has no call in flight
  pub no_flight : x.slot ≡ slots.Empty → (part_by log serving x).flight ≡ None
  no_flight idle = ap (λ (s : Slot). flight_by (take x.after log) (cell_by log serving s)) idle

  -- put with no call of its own
  pub puts_none : (seen : ℕ) → out ≡ Some i → serving ≡ None → seen ≡ length log
      → Moved store None log record x { seen = seen; holding = false } (Put None)
  puts_none seen here none es =
      let y : Lane = record x { seen = seen; holding = false } in
      let part : part_by log serving y ≡ put_none (part_by log serving x) log =
      λ j. record (put_none (part_by log serving x) log) {
        seen = (ap (λ (b : ℕ). take b log) es ∙ take-length log) j;
        serving = sym (cond_none x.holding serving none) j;
      } in
      let o = k.each i x at in
      moved store None log y (Put None) (λ _. inr (i, y, set_at lanes i y x at, es)) k.legal
      (lane_is o.number (omega arith) o.base o.after (λ no. absurd (cc)) o.slot)
      (λ j l not e. let u = k.each j l e in lane_out u
      (λ held. absurd (not (let both : Some j ≡ Some i = sym (u.holds held) ∙ here in cc))))
      (λ _. none) (still_served y refl) (
        holder here none,
        reseats store out None serving log lanes i x y (put_none (part_by log serving x) log) at refl part,
      )

  -- The machine behind an own call of the lane: its seat, as y, knows q, and the list has the event more.
  own_more : (store' : State) (out' : Option ℕ) (y : Lane) (q : Part) (e : Event) → out ≡ Some i → e.lane ≡ i
      → y.slot ≡ x.slot → part_by (log ++ e ∷ []) serving y ≡ q
      → world_of store' out' serving (log ++ e ∷ []) (set lanes i y)
      ≡ record (reseated w i q) { turn = turn_by store' out' }
  own_more store' out' y q e here own same part =
      let log' : List Event = log ++ e ∷ [] in
      let o = k.each i x at in
      let others : (j : ℕ) (l : Lane) → j ≢ i → get_elem? lanes j ≡ some l
      → part_by log' serving l ≡ part_by log serving l =
      λ j l not is. part_more out serving log e j l (k.each j l is) (λ mine. not (sym mine ∙ own))
      (unheld j l is not here) in
      let seats : map (part_by log' serving) (set lanes i y) ≡ set (seats_by log serving lanes) i q =
      map_else (part_by log serving) (part_by log' serving) lanes (set lanes i y) i q (length-set lanes i y)
      (λ j z v there was. (
        (λ same. ap (part_by log' serving) (sym (some-injective y z (sym (set_at lanes i y x at)
            ∙ (ap (get_elem? (set lanes i y)) (sym same) ∙ there)))) ∙ part),
        (λ not. let one : z ≡ v = some-injective z v (sym there ∙ (set_else lanes i j y not ∙ was)) in
            ap (part_by log' serving) one ∙ others j v not was),
      )) in
      let cells : map (lane_cell log' serving) (set lanes i y) ≡ cells_by log serving lanes =
      map_alike (lane_cell log serving) (lane_cell log' serving) lanes (set lanes i y) (length-set lanes i y)
      (λ j z v there was. ⊎_elim (λ (t : (j ≡ i) × (y ≡ z)). let old : x ≡ v =
      some-injective x v (sym at ∙ (ap (get_elem? lanes) (sym t.0) ∙ was)) in
      ap (lane_cell log' serving) (sym t.1) ∙ (ap (cell_by log' serving) same
      ∙ (cell_more serving log e i x.slot o.slot ∙ ap (lane_cell log serving) old)))
      (λ (t : (j ≢ i) × (get_elem? lanes j ≡ some z)). let one : z ≡ v = some-injective z v (sym t.1 ∙ was) in
      cell_more serving log e j z.slot (k.each j z t.1).slot ∙ ap (lane_cell log serving) one)
      (at_set lanes i j y z there)) in
      λ m. record {
        opening = starting_at 3;
        turn = turn_by store' out';
        cells = cells m;
        seats = seats m;
      }

  -- what the seat knows then, which has seen the whole list, and holds it or not
  own_part : (seen : ℕ) (holds : Bool) (e : Event) → x.slot ≡ slots.Empty → e.lane ≡ i → seen ≡ length log + 1
      → part_by (log ++ e ∷ []) serving record x { seen = seen; holding = holds } ≡ record (part_by log serving x) {
        seen = log ++ e ∷ [];
        mine = (part_by log serving x).mine ++ e ∷ [];
        holding = cond holds (Some (log ++ e ∷ [])) None;
        serving = cond holds serving None;
      }
  own_part seen holds e idle own es =
      let log' : List Event = log ++ e ∷ [] in
      let size : length log' ≡ length log + 1 = length-append log (e ∷ []) in
      let o = k.each i x at in
      let based : take x.base log' ≡ take x.base log = take-append-le x.base log (e ∷ []) o.base in
      let saw : take seen log' ≡ log' = ap (λ (b : ℕ). take b log') (es ∙ sym size) ∙ take-length log' in
      let calls : events_of x.lane (known_by log' x.slot) ≡ events_of x.lane (known_by log x.slot) ++ e ∷ [] =
      subst (λ (s : Slot). events_of x.lane (known_by log' s) ≡ events_of x.lane (known_by log s) ++ e ∷ []) (sym idle)
      (own_event x.lane log e (own ∙ sym o.number)) in
      let quiet : (after : List Event) (l : List Event) → flight_by after (cell_by l serving x.slot) ≡ None = λ after l.
      ap (λ (s : Slot). flight_by after (cell_by l serving s)) idle in
      λ j. record (part_by log serving x) {
        seen = saw j;
        mine = calls j;
        holding = cond holds (Some log') None;
        serving = cond holds serving None;
        flight = (quiet (take x.after log') log' ∙ sym (quiet (take x.after log) log)) j;
        base = based j;
      }

  -- put with an own call
  pub puts : (seen : ℕ) (call : ℕ × Ask) (reply : Result Answer Errno) (next : State) → out ≡ Some i
      → serving ≡ None → x.slot ≡ slots.Empty → Step store (event_of i call.0 call.1 reply) next → seen ≡ length log + 1
      → Moved next None (log ++ event_of i call.0 call.1 reply ∷ [])
      record x { seen = seen; holding = false } (Put (Some call))
  puts seen call reply next here none idle step es =
      let e : Event = event_of i call.0 call.1 reply in
      let log' : List Event = log ++ e ∷ [] in
      let size : length log' ≡ length log + 1 = length-append log (e ∷ []) in
      let whole : seen ≡ length log' = es ∙ sym size in
      let o = k.each i x at in
      let y : Lane = record x { seen = seen; holding = false } in
      let part : part_by log' serving y ≡ put_own (part_by log serving x) log e = own_part seen false e idle refl es
      ∙ (λ j. record (put_own (part_by log serving x) log e) { serving = sym (cond_none x.holding serving none) j }) in
      moved next None log' y (Put (Some call)) (λ _. inr (i, y, set_at lanes i y x at, whole))
      (legal_more (starting_at 3) store next log e k.legal step)
      (let b = o.base in let a = o.after in lane_is o.number (omega arith) (omega arith) (omega arith)
      (λ no. absurd (cc)) (slot_more serving log e i x.slot o.slot))
      (λ j l not is. let u = k.each j l is in lane_more e u
      (λ held. absurd (not (let both : Some j ≡ Some i = sym (u.holds held) ∙ here in cc))))
      (λ _. none) (still_served y refl) (
        holder here none,
        reply,
        next,
        no_flight idle,
        step,
        own_more next None y (put_own (part_by log serving x) log e) e here refl refl part,
      )

  -- serve
  pub keeps : (seen : ℕ) (call : ℕ × Ask) (reply : Result Answer Errno) (next : State) → out ≡ Some i
      → serving ≡ None → x.slot ≡ slots.Empty → Step store (event_of i call.0 call.1 reply) next → seen ≡ length log + 1
      → Moved next out (log ++ event_of i call.0 call.1 reply ∷ []) record x { seen = seen } (Serve call.0 call.1)
  keeps seen call reply next here none idle step es =
      let e : Event = event_of i call.0 call.1 reply in
      let log' : List Event = log ++ e ∷ [] in
      let size : length log' ≡ length log + 1 = length-append log (e ∷ []) in
      let o = k.each i x at in
      let y : Lane = record x { seen = seen } in
      let q : Part = kept (part_by log serving x) log e in
      let holds : x.holding ≡ true = held_true x.holding log log (holding_is here) in
      let part : part_by log' serving y ≡ q = own_part seen x.holding e idle refl es
      ∙ (λ j. record q { holding = ap (λ (b : Bool). cond b (Some log') None) holds j }) in
      let turns : turn_by next out ≡ turn_by store out = ap (turn_by next) here ∙ sym (ap (turn_by store) here) in
      moved next out log' y (Serve call.0 call.1) (λ no. absurd (let both : None ≡ Some i = sym no ∙ here in cc))
      (legal_more (starting_at 3) store next log e k.legal step)
      (let b = o.base in let a = o.after in lane_is o.number (omega arith) (omega arith) (omega arith) o.holds
      (slot_more serving log e i x.slot o.slot)) (λ j l not is. let u = k.each j l is in lane_more e u u.holds)
      k.idle (still_served y refl) (
        holder here none,
        reply,
        next,
        no_flight idle,
        step,
        own_more next out y q e here refl refl part ∙ (λ j. record (reseated w i q) { turn = turns j }),
      )

  -- a call that was served is one event more
  one_more : (moment : ℕ) (ask : Ask) (next : State) (was log' : List Event) → was ≡ log
      → (s : Serves store was i moment ask next log')
      → (log' ≡ log ++ event_of i moment ask s.0 ∷ []) × (length log' ≡ length log + 1)
  one_more moment ask next was log' same s =
      let e : Event = event_of i moment ask s.0 in
      let is : log' ≡ log ++ e ∷ [] = s.2 ∙ ap (λ (l : List Event). l ++ e ∷ []) same in
      (is, ap length is ∙ length-append log (e ∷ []))

  -- the same, by what was served
  pub keeps_at : (seen moment : ℕ) (ask : Ask) (next : State) (was log' : List Event) → out ≡ Some i
      → serving ≡ None → x.slot ≡ slots.Empty → was ≡ log → Serves store was i moment ask next log'
      → seen ≡ length log' → Moved next out log' record x { seen = seen } (Serve moment ask)
  keeps_at seen moment ask next was log' here none idle same serves es =
      let h = one_more moment ask next was log' same serves in
      subst (λ (l : List Event). Moved next out l record x { seen = seen } (Serve moment ask)) (sym h.0)
      (keeps seen (moment, ask) serves.0 next here none idle serves.1 (es ∙ h.1))

  pub puts_at : (seen moment : ℕ) (ask : Ask) (next : State) (was log' : List Event) → out ≡ Some i
      → serving ≡ None → x.slot ≡ slots.Empty → was ≡ log → Serves store was i moment ask next log' → seen ≡ length log'
      → Moved next None log' record x { seen = seen; holding = false } (Put (Some (moment, ask)))
  puts_at seen moment ask next was log' here none idle same serves es =
      let h = one_more moment ask next was log' same serves in
      subst (λ (l : List Event). Moved next None l record x { seen = seen; holding = false } (Put (Some (moment, ask))))
      (sym h.0) (puts seen (moment, ask) serves.0 next here none idle serves.1 (es ∙ h.1))

  -- after a load some lane has seen all calls, where one had before
  pub still : (n : ℕ) (y : Lane) → y.seen ≡ n → x.seen ≤ n → n ≤ length log → out ≡ None
      → IsSeenWhole log (set lanes i y)
  still n y is more within free =
      ⊎_elim inl (λ (t : (j : ℕ) × (l : Lane) × (get_elem? lanes j ≡ some l) × (l.seen ≡ length log)). inr
      (dite (ℕ_discrete t.0 i)
      (λ same. let one : t.1 ≡ x = some-injective t.1 x (sym t.2 ∙ (ap (get_elem? lanes) same ∙ at)) in
      let all : x.seen ≡ length log = ap (λ (z : Lane). z.seen) (sym one) ∙ t.3 in
      (i, y, set_at lanes i y x at, omega arith)) (λ away. (t.0, t.1, set_else lanes i t.0 y away ∙ t.2, t.3))))
      (seen_whole (subst (λ (o : Option ℕ). IsKept store o serving log lanes) free k))

  -- load
  pub loads : (n : ℕ) → x.seen ≤ n → n ≤ length log → Moved store out log record x { seen = n } (Load n)
  loads n more within =
      let y : Lane = record x { seen = n } in
      let o = k.each i x at in
      stays y (Load n) (λ free. still n y refl more within free)
      (lane_is o.number within o.base o.after o.holds o.slot) (still_served y refl) (
        log,
        take n log,
        kept_history k,
        begins_further x.seen n log more,
        begins_take n log,
        length-take-le n log within,
        reseats store out out serving log lanes i x y (loaded (part_by log serving x) (take n log)) at refl refl,
      )

  -- A step that isn't possible.

  -- what the seat at this place knows
  pub seat_is : (p : Part) → get_elem? (seats_by log serving lanes) i ≡ some p → p ≡ part_by log serving x
  seat_is p e = some-injective p (part_by log serving x) (sym e ∙ get_map (part_by log serving) lanes i x at)

  pub no_load : (n : ℕ) → (n < x.seen) ⊎ (length log < n) → (p : Part) (other : World)
      → get_elem? (seats_by log serving lanes) i ≡ some p → StepsAs w i p (Load n) other → ⊥
  no_load n outside p other e steps =
      let whole : steps.0 ≡ log = history_kept k steps.0 steps.2 in
      let seen : take x.seen log ≡ p.seen = ap (λ (q : Part). q.seen) (sym (seat_is p e)) in
      let size : length (take x.seen log) ≡ x.seen = length-take-le x.seen log (k.each i x at).seen in
      let same : length (take x.seen log) ≡ length p.seen = ap length seen in
      let below : length p.seen ≤ length steps.1 = begins_short p.seen steps.1 steps.3 in
      let above : length steps.1 ≤ length steps.0 = begins_short steps.1 steps.0 steps.4 in
      let all : length steps.0 ≡ length log = ap length whole in let is : length steps.1 ≡ n = steps.5 in
      ⊎_elim (λ (lt : n < x.seen). omega arith) (λ (lt : length log < n). omega arith) outside

  -- who serves a posted call can't put its own or take up another
  pub no_holder : (s : Service) → serving ≡ Some s → (p : Part) → get_elem? (seats_by log serving lanes) i ≡ some p
      → IsHolder w i p → ⊥
  no_holder s is p e h =
      let same : p ≡ part_by log serving x = seat_is p e in
      let holds : x.holding ≡ true = held_true x.holding log h.log (ap (λ (q : Part). q.holding) (sym same) ∙ h.held) in
      let no : Some s ≡ None = sym is ∙ (ap (λ (b : Bool). cond b serving None) (sym holds)
      ∙ (ap (λ (q : Part). q.serving) (sym same) ∙ h.unserving)) in cc
