-- The history only grows, and so does what seats have seen, which begins it.
use Rattle.std.proofs.Common.{[], ⊎_elim, ◌++◌, ◌==◌, ◌∙◌, ◌∷◌, ◌≡◌, ◌⊎◌, ap, append_assoc, cond, false, inl, inr, List}
use Rattle.std.proofs.Common.{arith, None, refl, set, Some, subst, sym, ℕ}
use lib.ListN.{get_elem?}
use mathlib.Core.{Logic.dite, Option.{some, some-injective}}
use native.Mathlib.Decide.{ℕ_discrete}
use Rattle.krs_types.specs.declared.event.Event.{Event}
use Rattle.krs_model.specs.{History.event_of, Lists.Begins, State.State}
use Rattle.krs_world.specs.{History.StandsAfter, Knowing.{answered, collected, grabbed, kept, loaded, looked_at}}
use Rattle.krs_world.specs.Knowing.{missed, one, posted, put_none, put_own, taken}
use Rattle.krs_world.specs.Order.{KeepsServedOrder, KeepsSessionOrder, OnlyGrows, SeenGrows}
use Rattle.krs_world.specs.World.{begun, cell_of, event_by, Free, is_answered, IsHistory, IsHistoryBy, IsLongest}
use Rattle.krs_world.specs.World.{IsOneHistory, Out, reseated, Runs, StepsAs, Turn, World}
use Rattle.krs_world.specs.declared.step.Kind.{Kind, TheVariants.{Answer, Collect, CollectFound, Grab, Load, LookAt}}
use Rattle.krs_world.specs.declared.step.Kind.TheVariants.{Post, Put, Serve, Take, TakeFound}
use Rattle.krs_world.specs.declared.{step.WorldStep.WorldStep, view.Part.Part}
use Rattle.krs_world.proofs.{Beginning.begins_world, Keeping.{prefix_more, prefix_self, prefix_trans, set_at, set_else}}
use Rattle.krs_world.proofs.Worlds.{get_map, history_is, history_is_one, prefix_none, runs_keep, step_as, steps_keep}
use Rattle.std.proofs.lemmas.Grind.{common_steps}

-- two lists that begin one
pub either_begins : {A : Type 0} (xs ys zs : List A) → Begins xs zs → Begins ys zs → Begins xs ys ⊎ Begins ys xs
either_begins [] ys zs p q = inl (ys, refl)
either_begins (x ∷ xs) [] zs p q = inr (x ∷ xs, refl)
either_begins (x ∷ xs) (y ∷ ys) [] p q = absurd (let e = p.1 in cc)
either_begins (x ∷ xs) (y ∷ ys) (z ∷ zs) p q = let e = p.1 in let f = q.1 in let head : x ≡ y = cc in
    let left : xs ++ p.0 ≡ zs = cc in let right : ys ++ q.0 ≡ zs = cc in
    ⊎_elim (λ (b : Begins xs ys). inl (b.0, λ i. head i ∷ b.1 i))
    (λ (b : Begins ys xs). inr (b.0, λ i. sym head i ∷ b.1 i)) (either_begins xs ys zs (p.0, left) (q.0, right))

-- the seat at this place has seen what it had, and maybe more
abbrev Grown : List Part → ℕ → Part → Type 0
Grown seats j r = (r' : Part) × (get_elem? seats j ≡ some r') × Begins r.seen r'.seen

grown_at : (seats : List Part) (lane : ℕ) (p q : Part) → get_elem? seats lane ≡ some p → Begins p.seen q.seen → (j : ℕ)
    (r : Part) → get_elem? seats j ≡ some r → Grown (set seats lane q) j r
grown_at seats lane p q at grows j r is = dite (ℕ_discrete j lane)
    (λ same. let one_seat : r ≡ p = some-injective r p (sym is ∙ (ap (get_elem? seats) same ∙ at)) in (
      q,
      ap (get_elem? (set seats lane q)) same ∙ set_at seats lane q p at,
      subst (λ (x : Part). Begins x.seen q.seen) (sym one_seat) grows,
    )) (λ away. (r, set_else seats lane j q away ∙ is, prefix_self r.seen))

-- what a seat has seen begins the history, and so what the holder holds
seen_begins : (w : World) (o : IsOneHistory w) (j : ℕ) (p : Part) → get_elem? w.seats j ≡ some p
    → Begins p.seen o.history.log
seen_begins w o j p at = (o.history.each j (one w.opening p) (get_map (one w.opening) w.seats j p at)).seen

held_begins : (w : World) (o : IsOneHistory w) (j : ℕ) (p : Part) (log : List Event) → get_elem? w.seats j ≡ some p
    → p.holding ≡ Some log → Begins p.seen log
held_begins w o j p log at held =
    let k = o.history.each j (one w.opening p) (get_map (one w.opening) w.seats j p at) in
    subst (Begins p.seen) (sym (k.holding log held).whole) k.seen

step_sees : (w : World) (lane : ℕ) (p : Part) (k : Kind) (new : World) → IsOneHistory w
    → get_elem? w.seats lane ≡ some p
    → StepsAs w lane p k new → (j : ℕ) (r : Part) → get_elem? w.seats j ≡ some r → Grown new.seats j r
step_sees w lane p Take new o at t j r is = subst (λ (z : World). Grown z.seats j r) (sym t.4)
    (grown_at w.seats lane p (taken p t.1) at (prefix_self p.seen) j r is)
step_sees w lane p TakeFound new o at t j r is = subst (λ (z : World). Grown z.seats j r) (sym t.3)
    (grown_at w.seats lane p (missed p) at (prefix_self p.seen) j r is)
step_sees w lane p (Put None) new o at t j r is = subst (λ (z : World). Grown z.seats j r) (sym t.1)
    (grown_at w.seats lane p (put_none p t.0.log) at (held_begins w o lane p t.0.log at t.0.held) j r is)
step_sees w lane p (Put (Some call)) new o at t j r is = let h = t.0 in
    let e : Event = event_of lane call.0 call.1 t.1 in
    subst (λ (z : World). Grown z.seats j r) (sym t.5) (grown_at w.seats lane p (put_own p h.log e) at
    (prefix_more p.seen h.log (e ∷ []) (held_begins w o lane p h.log at h.held)) j r is)
step_sees w lane p (Serve m ask) new o at t j r is = let h = t.0 in
    let e : Event = event_of lane m ask t.1 in
    subst (λ (z : World). Grown z.seats j r) (sym t.5) (grown_at w.seats lane p (kept p h.log e) at
    (prefix_more p.seen h.log (e ∷ []) (held_begins w o lane p h.log at h.held)) j r is)
step_sees w lane p (Load n) new o at t j r is = subst (λ (z : World). Grown z.seats j r) (sym t.6)
    (grown_at w.seats lane p (loaded p t.1) at t.3 j r is)
step_sees w lane p (Post m ask) new o at t j r is = subst (λ (z : World). Grown z.seats j r) (sym t.1)
    (grown_at w.seats lane p (posted p m ask) at (prefix_self p.seen) j r is)
step_sees w lane p (Grab other) new o at t j r is = subst (λ (z : World). Grown z.seats j r) (sym t.4)
    (grown_at w.seats lane p (grabbed p other t.1 t.2) at (prefix_self p.seen) j r is)
step_sees w lane p Answer new o at t j r is = let h = t.0 in
    subst (λ (z : World). Grown z.seats j r) (sym t.4)
    (grown_at w.seats lane p (answered p h.log (event_by h.call t.1)) at (prefix_self p.seen) j r is)
step_sees w lane p (Collect n) new o at t j r is = let h = t.0 in
    subst (λ (z : World). Grown z.seats j r) (sym t.1)
    (grown_at w.seats lane p (collected p h.seen (event_of lane h.moment h.ask h.reply)) at h.more j r is)
step_sees w lane p CollectFound new o at t j r is = subst (λ (z : World). Grown z.seats j r) (sym t.1)
    (r, is, prefix_self r.seen)
step_sees w lane p (LookAt other) new o at t j r is = subst (λ (z : World). Grown z.seats j r) (sym t.4)
    (grown_at w.seats lane p (looked_at p other (cond (other == lane) (is_answered t.0) false)) at
    (prefix_self p.seen) j r is)

runs_see : (w : World) (steps : List WorldStep) (end : World) → IsOneHistory w → Runs w steps end → (j : ℕ) (r : Part)
    → get_elem? w.seats j ≡ some r → Grown end.seats j r
runs_see w [] end o run j r is = subst (λ (z : World). Grown z.seats j r) run (r, is, prefix_self r.seen)
runs_see w (s ∷ more) end o run j r is = let step = run.1 in
    let first = step_sees w s.lane step.0 s.kind run.0 o step.1 step.2 j r is in
    let rest = runs_see run.0 more end (steps_keep w s run.0 o step) run.2 j first.0 first.1 in
    (rest.0, rest.1, prefix_trans r.seen first.0.seen rest.0.seen first.2 rest.2)

-- the one history begins the next where it was the longest list that was seen
free_grows : (w new : World) (o : IsOneHistory w) (n : IsOneHistory new) → SeenGrows w new
    → IsLongest o.history.log w.seats → Begins o.history.log n.history.log
free_grows w new o n grows l = ⊎_elim (λ (e : o.history.log ≡ []). prefix_none o.history.log n.history.log e)
    (λ (t : (j : ℕ) × (p : Part) × (get_elem? w.seats j ≡ some p) × (p.seen ≡ o.history.log)).
    let g = grows t.0 t.1 t.2 in
    subst (λ (x : List Event). Begins x n.history.log) t.3
    (prefix_trans t.1.seen g.0.seen n.history.log g.2 (seen_begins new n t.0 g.0 g.1))) l.0

-- a list that is the machine's history before a step and after it
same_grows : (w new : World) (o : IsOneHistory w) (n : IsOneHistory new) (log : List Event) → IsHistory w log
    → IsHistory new log → Begins o.history.log n.history.log
same_grows w new o n log h g = subst (λ (x : List Event × List Event). Begins x.0 x.1)
    (λ i. (history_is_one w o log h i, history_is_one new n log g i)) (prefix_self log)

-- a step that leaves the turn, and what is held, as they were
turn_grows : (w new : World) (lane : ℕ) (p q : Part) (o : IsOneHistory w) (n : IsOneHistory new)
    → get_elem? w.seats lane ≡ some p → q.holding ≡ p.holding → new.turn ≡ w.turn → new.seats ≡ set w.seats lane q
    → SeenGrows w new → (turn : Turn) → w.turn ≡ turn → Begins o.history.log n.history.log
turn_grows w new lane p q o n at same turns seats grows (Free store) turn = grind (arith, common_steps, free_grows)
turn_grows w new lane p q o n at same turns seats grows (Out holder) turn = let log : List Event = o.history.log in
    let h : IsHistoryBy (Out holder) log w.seats = subst (λ (x : Turn). IsHistoryBy x log w.seats) turn o.whole in
    let g : IsHistoryBy (Out holder) log (set w.seats lane q) = dite (ℕ_discrete holder lane) (λ here. (
      q,
      ap (get_elem? (set w.seats lane q)) here ∙ set_at w.seats lane q p at,
      same ∙ (ap (λ (x : Part). x.holding) (some-injective p h.0 (sym at ∙ (ap (get_elem? w.seats) (sym here) ∙ h.1)))
          ∙ h.2),
    )) (λ away. (h.0, set_else w.seats lane holder q away ∙ h.1, h.2)) in
    same_grows w new o n log o.whole (subst (λ (x : Turn × List Part). IsHistoryBy x.0 log x.1)
    (λ i. (sym (turns ∙ turn) i, sym seats i)) g)

-- what the holder held begins the one history, once its seat has seen that much
put_grows : (w new : World) (o : IsOneHistory w) (n : IsOneHistory new) (lane : ℕ) (p q : Part) (log : List Event)
    (turn : Turn) → get_elem? w.seats lane ≡ some p → p.holding ≡ Some log → Begins log q.seen
    → new ≡ record (reseated w lane q) { turn = turn } → Begins o.history.log n.history.log
put_grows w new o n lane p q log turn at held more is =
    let k = o.history.each lane (one w.opening p) (get_map (one w.opening) w.seats lane p at) in
    let here : get_elem? new.seats lane ≡ some q =
    subst (λ (x : World). get_elem? x.seats lane ≡ some q) (sym is) (set_at w.seats lane q p at) in
    subst (λ (x : List Event). Begins x n.history.log) (k.holding log held).whole
    (prefix_trans log q.seen n.history.log more (seen_begins new n lane q here))

-- the list that the holder holds is longer by one event, and is the history still
holder_grows : (w new : World) (o : IsOneHistory w) (n : IsOneHistory new) (lane : ℕ) (p q : Part) (log : List Event)
    (e : Event) → get_elem? w.seats lane ≡ some p → p.holding ≡ Some log → q.holding ≡ Some (log ++ e ∷ [])
    → new.turn ≡ Out lane → new.seats ≡ set w.seats lane q → Begins o.history.log n.history.log
holder_grows w new o n lane p q log e at held holds turns seats =
    let k = o.history.each lane (one w.opening p) (get_map (one w.opening) w.seats lane p at) in
    let now : IsHistory new (log ++ e ∷ []) = subst (λ (x : Turn × List Part). IsHistoryBy x.0 (log ++ e ∷ []) x.1)
    (λ i. (sym turns i, sym seats i)) (q, set_at w.seats lane q p at, holds) in
    subst (λ (x : List Event × List Event). Begins x.0 x.1)
    (λ i. ((k.holding log held).whole i, history_is_one new n (log ++ e ∷ []) now i)) (e ∷ [], refl)

pub log_grows : (w : World) (lane : ℕ) (p : Part) (k : Kind) (new : World) (o : IsOneHistory w) (n : IsOneHistory new)
    → get_elem? w.seats lane ≡ some p → StepsAs w lane p k new → Begins o.history.log n.history.log
log_grows w lane p Take new o n at t = grind (arith, common_steps, same_grows, set_at)
log_grows w lane p TakeFound new o n at t = turn_grows w new lane p (missed p) o n at refl
    (ap (λ (x : World). x.turn) t.3)
    (ap (λ (x : World). x.seats) t.3) (step_sees w lane p TakeFound new o at t) (Out t.0) t.1
log_grows w lane p (Put None) new o n at t =
    put_grows w new o n lane p (put_none p t.0.log) t.0.log (Free t.0.last) at t.0.held (prefix_self t.0.log) t.1
log_grows w lane p (Put (Some call)) new o n at t = let h = t.0 in
    let e : Event = event_of lane call.0 call.1 t.1 in
    put_grows w new o n lane p (put_own p h.log e) h.log (Free t.2) at h.held
    (prefix_more h.log h.log (e ∷ []) (prefix_self h.log)) t.5
log_grows w lane p (Serve m ask) new o n at t = let h = t.0 in let e : Event = event_of lane m ask t.1 in
    holder_grows w new o n lane p (kept p h.log e) h.log e at h.held refl (ap (λ (x : World). x.turn) t.5 ∙ h.out)
    (ap (λ (x : World). x.seats) t.5)
log_grows w lane p (Load seen) new o n at t = turn_grows w new lane p (loaded p t.1) o n at refl
    (ap (λ (x : World). x.turn) t.6) (ap (λ (x : World). x.seats) t.6) (step_sees w lane p (Load seen) new o at t)
    w.turn refl
log_grows w lane p (Post m ask) new o n at t = turn_grows w new lane p (posted p m ask) o n at refl
    (ap (λ (x : World). x.turn) t.1) (ap (λ (x : World). x.seats) t.1) (step_sees w lane p (Post m ask) new o at t)
    w.turn refl
log_grows w lane p (Grab other) new o n at t = turn_grows w new lane p (grabbed p other t.1 t.2) o n at refl
    (ap (λ (x : World). x.turn) t.4) (ap (λ (x : World). x.seats) t.4) (step_sees w lane p (Grab other) new o at t)
    w.turn refl
log_grows w lane p Answer new o n at t = let h = t.0 in let e : Event = event_by h.call t.1 in
    holder_grows w new o n lane p (answered p h.log e) h.log e at h.held refl (ap (λ (x : World). x.turn) t.4 ∙ h.out)
    (ap (λ (x : World). x.seats) t.4)
log_grows w lane p (Collect size) new o n at t = let h = t.0 in
    turn_grows w new lane p (collected p h.seen (event_of lane h.moment h.ask h.reply)) o n at refl
    (ap (λ (x : World). x.turn) t.1) (ap (λ (x : World). x.seats) t.1) (step_sees w lane p (Collect size) new o at t)
    w.turn refl
log_grows w lane p CollectFound new o n at t = same_grows w new o n o.history.log o.whole
    (subst (λ (x : World). IsHistory x o.history.log) (sym t.1) o.whole)
log_grows w lane p (LookAt other) new o n at t =
    turn_grows w new lane p (looked_at p other (cond (other == lane) (is_answered t.0) false)) o n at refl
    (ap (λ (x : World). x.turn) t.4) (ap (λ (x : World). x.seats) t.4) (step_sees w lane p (LookAt other) new o at t)
    w.turn refl

pub runs_grow : (w : World) (steps : List WorldStep) (end : World) (o : IsOneHistory w) (n : IsOneHistory end)
    → Runs w steps end → Begins o.history.log n.history.log
runs_grow w [] end o n r =
    same_grows w end o n o.history.log o.whole (subst (λ (x : World). IsHistory x o.history.log) r o.whole)
runs_grow w (s ∷ more) end o n r = let t = r.1 in let m : IsOneHistory r.0 = steps_keep w s r.0 o t in
    prefix_trans o.history.log m.history.log n.history.log (log_grows w s.lane t.0 s.kind r.0 o m t.1 t.2)
    (runs_grow r.0 more end m n r.2)

pub only_grows : OnlyGrows
only_grows opening lanes before after mid end log later first second was is =
    let o : IsOneHistory mid = runs_keep (begun opening lanes) before mid (begins_world opening lanes) first in
    let n : IsOneHistory end = runs_keep mid after end o second in (
      subst (λ (x : List Event × List Event). Begins x.0 x.1)
          (λ i. (sym (history_is_one mid o log was) i, sym (history_is_one end n later is) i))
          (runs_grow mid after end o n second),
      runs_see mid after end o second,
    )

pub one_order : (opening : State) (lanes : ℕ) (before after : List WorldStep) (mid end : World) (i j : ℕ) (p q : Part)
    → Runs (begun opening lanes) before mid → Runs mid after end
    → get_elem? mid.seats i ≡ some p → get_elem? end.seats j ≡ some q → Begins p.seen q.seen ⊎ Begins q.seen p.seen
one_order opening lanes before after mid end i j p q first second at there =
    let o : IsOneHistory mid = runs_keep (begun opening lanes) before mid (begins_world opening lanes) first in
    let last : IsOneHistory end = runs_keep mid after end o second in
    let grown = runs_see mid after end o second i p at in
    either_begins p.seen q.seen last.history.log
    (prefix_trans p.seen grown.0.seen last.history.log grown.2 (seen_begins end last i grown.0 grown.1))
    (seen_begins end last j q there)

-- an own call at the end of the list that its seat held, which has seen that list then
own_order : (opening : State) (lanes : ℕ) (before after : List WorldStep) (mid next end : World) (lane : ℕ) (p q : Part)
    (kind : Kind) (had : List Event) (e : Event) (log : List Event) → Runs (begun opening lanes) before mid
    → get_elem? mid.seats lane ≡ some p → StepsAs mid lane p kind next → p.holding ≡ Some had
    → get_elem? next.seats lane ≡ some q → q.seen ≡ had ++ e ∷ [] → Runs next after end → IsHistory end log
    → StandsAfter p.seen e log
own_order opening lanes before after mid next end lane p q kind had e log first at step held here seen second history =
    let o : IsOneHistory mid = runs_keep (begun opening lanes) before mid (begins_world opening lanes) first in
    let made : IsOneHistory next = step_as mid lane p kind next o at step in
    let last : IsOneHistory end = runs_keep next after end made second in
    let grown = runs_see next after end made second lane q here in
    let whole : log ≡ last.history.log =
    history_is end.opening (cell_of end.cells) end.seats end.turn last.history log history in
    let begun : Begins (had ++ e ∷ []) log = subst (λ (l : List Event). Begins l log) seen
    (subst (Begins q.seen) (sym whole)
    (prefix_trans q.seen grown.0.seen last.history.log grown.2 (seen_begins end last lane grown.0 grown.1))) in
    let saw : Begins p.seen had = held_begins mid o lane p had at held in (
      saw.0,
      begun.0,
      sym begun.1 ∙ (append_assoc had (e ∷ []) begun.0 ∙ ap (λ (l : List Event). l ++ e ∷ begun.0) (sym saw.1)),
    )

pub session_order : KeepsSessionOrder
session_order opening lanes before after mid next end lane p call log first at step second history =
    let h = step.0 in let e : Event = event_of lane call.0 call.1 step.1 in let q : Part = put_own p h.log e in
    let here : get_elem? next.seats lane ≡ some q =
    subst (λ (z : World). get_elem? z.seats lane ≡ some q) (sym step.5) (set_at mid.seats lane q p at) in (
      step.1,
      q,
      here,
      refl,
      own_order opening lanes before after mid next end lane p q (Put (Some call)) h.log e log first at step h.held here
          refl second history,
    )

pub served_order : KeepsServedOrder
served_order opening lanes before after mid next end lane p call log first at step second history =
    let h = step.0 in let e : Event = event_of lane call.0 call.1 step.1 in let q : Part = kept p h.log e in
    let here : get_elem? next.seats lane ≡ some q =
    subst (λ (z : World). get_elem? z.seats lane ≡ some q) (sym step.5) (set_at mid.seats lane q p at) in (
      step.1,
      q,
      here,
      refl,
      own_order opening lanes before after mid next end lane p q (Serve call.0 call.1) h.log e log first at step h.held
          here refl second history,
    )
