-- Whatever happens to a table, the machine that it is makes steps; and a desk that was just opened is the machine as it
-- begins.
use Rattle.std.proofs.Common.{[], ⊎_elim, ◌++◌, ◌+◌, ◌<◌, ◌∙◌, ◌∷◌, ◌≡◌, ◌≢◌, ◌≤◌, ◌⊎◌, ap, arith, get_or, inl, inr}
use Rattle.std.proofs.Common.{length, length-set, List, None, refl, set, subst, suc, sym, zero, ℕ}
use lib.ListN.{get_elem?}
use mathlib.Core.{Logic.dite, Option.{some, some-injective, some-ne-none}}
use native.Mathlib.Decide.{ℕ_discrete}
use Rattle.krs_types.specs.declared.event.Event.{Event}
use Rattle.krs_model.specs.{History.IsLegal, Lists.Begins, State.{starting_at, State}}
use Rattle.krs_model.proofs.History.{Determined.one_history, Legal.legal_none}
use Rattle.krs_world.specs.{History.{HasSeen, Stands}, Knowing.{events_of, fresh, loaded}}
use Rattle.krs_world.specs.World.{begun, empty_cells, Free, IsHistoryBy, Out, reseated, Runs, Turn, World}
use Rattle.krs_world.specs.declared.{step.{Kind.TheVariants.Load, WorldStep.WorldStep}, view.{Cell.Cell, Part.Part}}
use Rattle.krs_world.specs.declared.view.{Standing.{Standing, TheVariants.{One, Opening, Spent, Two}}, View.View}
use Rattle.krs_world.proofs.Beginning.{fresh_here, fresh_there}
use Rattle.krs_desk.specs.Machine.{BeginsAs, FollowsSteps, IsSeatedIn, IsWorld, RunsAs, Sits, step_by, steps_by}
use Rattle.krs_desk.specs.{Moves.{HasTurn, IsMoved, IsReading}, Parts.{both_sights, given_of, given_sight, kept_of}}
use Rattle.krs_desk.specs.{Parts.{kept_sight, part_of, settled_sight, spent, views_of}, Rule.InOneOrder}
use Rattle.krs_desk.specs.{Running.{Board, Happens, IsCut, IsJoined, IsStepped}, declared.token.Sight.Sight}
use Rattle.krs_desk.proofs.Agreeing.{Agrees, agrees, history_of, holder_there, is_world, known_at, not_dealing, shared}
use Rattle.krs_desk.proofs.Going.{cell_stays, keeps_served, last_same_of, log_back, same_log, same_serving, same_world}
use Rattle.krs_desk.proofs.Going.{SameCalls}
use Rattle.krs_desk.proofs.{Joining.{views_cut, views_twice}, Looking.not_both}
use Rattle.krs_desk.proofs.Making.{AreSeats, MakesSteps, out_set, reads_words, Replaced, seats_as, seats_set, steps_as}
use Rattle.krs_desk.proofs.Running.{by_cut, by_join, now_views, seen_sits, stays_there, step_grows, was_seated}
use Rattle.krs_desk.proofs.Running.{was_there}
use Rattle.krs_desk.proofs.Running.{within}
use Rattle.krs_desk.proofs.TurnSteps.{turn, view_at}
use Rattle.krs_world.proofs.Keeping as law
use Rattle.krs_world.specs.declared.view.Cell.TheVariants as cells

zero_of : (n : ℕ) → n ≤ 2 → n ≢ 1 → n ≢ 2 → n ≡ 0
zero_of zero le not dealt = refl
zero_of (suc zero) le not dealt = absurd (not refl)
zero_of (suc (suc zero)) le not dealt = absurd (dealt refl)
zero_of (suc (suc (suc n))) le not dealt = absurd (omega arith)

-- Tokens that are cut.

cut_back :
    (st : Standing) (p : Part) → ((n : ℕ) → st ≢ Opening n) → Sits p (kept_of st) ⊎ Sits p (given_of st) → Sits p st
cut_back Spent p not is = ⊎_elim (λ (f : ⊥). absurd f) (λ (f : ⊥). absurd f) is
cut_back (One q) p not is = ⊎_elim (λ (f : ⊥). absurd f) (λ (f : q ≡ p). f) is
cut_back (Two q r) p not is = is
cut_back (Opening n) p not is = absurd (not n refl)

module _ {a : State} {s new : Board} (r : InOneOrder a s) (r' : InOneOrder a new) {w : World} (g : Agrees a s r w)
  where
    -- no token deals seats
    no_opener : (id : ℕ) (v : View) → get_elem? (views_of s.views) id ≡ some v → (n : ℕ) → v.stands ≢ Opening n
    no_opener id v at n e =
        let k = subst (Stands (shared a s r) id) e (r.history.each id v at) in not_dealing g k.0

    by_cut_back : (h : IsCut s new) (p : Part) → IsSeatedIn (views_of new.views) p → IsSeatedIn (views_of s.views) p
    by_cut_back h p had =
        let views : List View = views_of s.views in
        let x : View = (kept_sight h.v).view in
        let y : View = (given_sight h.v).view in
        let here : get_elem? views h.id ≡ some h.v.view = view_at s.views h.id h.at in
        let is : views_of new.views ≡ set views h.id x ++ y ∷ [] =
        ap views_of h.views ∙ views_cut s.views h.id (kept_sight h.v) (given_sight h.v) in
        let not = no_opener h.id h.v.view here in
        ⊎_elim (λ (t : get_elem? (set views h.id x) had.0 ≡ some had.1).
        ⊎_elim (λ (i : (had.0 ≡ h.id) × (x ≡ had.1)). (
          h.id,
          h.v.view,
          here,
          cut_back h.v.view.stands p not (inl (subst (λ (z : View). Sits p z.stands) (sym i.1) had.3)),
        )) (λ (i : (had.0 ≢ h.id) × (get_elem? views had.0 ≡ some had.1)). (had.0, had.1, i.1, had.3))
        (law.at_set views h.id had.0 x had.1 t)) (λ (t : (y ≡ had.1) × (had.0 ≡ length (set views h.id x))). (
          h.id,
          h.v.view,
          here,
          cut_back h.v.view.stands p not (inr (subst (λ (z : View). Sits p z.stands) (sym t.0) had.3)),
        )) (law.at_snoc (set views h.id x) y had.1 had.0
        (subst (λ (l : List View). get_elem? l had.0 ≡ some had.1) is had.2))

    by_join_back : (h : IsJoined s new) (p : Part) → IsSeatedIn (views_of new.views) p → IsSeatedIn (views_of s.views) p
    by_join_back h p had =
        let views : List View = views_of s.views in
        let x : View = h.both.view in
        let y : View = (spent (starting_at 3)).view in
        let here : get_elem? views h.id ≡ some h.v.view = view_at s.views h.id h.at in
        let there : get_elem? views h.other ≡ some h.w.view = view_at s.views h.other h.there in
        let is : views_of new.views ≡ set (set views h.id x) h.other y =
        ap views_of h.views ∙ views_twice s.views h.id h.other h.both (spent (starting_at 3)) in
        let first : Sits p h.v.view.stands → IsSeatedIn views p = λ f. (h.id, h.v.view, here, f) in
        let second : part_of h.w.view.stands ≡ p → IsSeatedIn views p = λ e. (
          h.other,
          h.w.view,
          there,
          subst (Sits p) (sym h.given) (ap part_of (sym h.given) ∙ e),
        ) in
        ⊎_elim (λ (i : (had.0 ≡ h.other) × (y ≡ had.1)). absurd (subst (λ (z : View). Sits p z.stands) (sym i.1) had.3))
        (λ (i : (had.0 ≢ h.other) × (get_elem? (set views h.id x) had.0 ≡ some had.1)).
        ⊎_elim (λ (k : (had.0 ≡ h.id) × (x ≡ had.1)).
        let sits : Sits p x.stands = subst (λ (z : View). Sits p z.stands) (sym k.1) had.3 in
        ⊎_elim (λ (t : (q : Part) × (h.v.view.stands ≡ One q) × (h.both ≡ both_sights h.v h.w)).
        ⊎_elim (λ (e : part_of h.v.view.stands ≡ p).
        first (subst (Sits p) (sym t.1) (ap part_of (sym t.1) ∙ e)))
        second (subst (λ (b : Sight). Sits p b.view.stands) t.2 sits))
        (λ (t : (h.v.view.stands ≡ Spent) × (h.both ≡ settled_sight h.v h.w)).
        second (subst (λ (b : Sight). Sits p b.view.stands) t.1 sits)) h.how)
        (λ (k : (had.0 ≢ h.id) × (get_elem? views had.0 ≡ some had.1)). (had.0, had.1, k.1, had.3))
        (law.at_set views h.id had.0 x had.1 i.1)) (law.at_set (set views h.id x) h.other had.0 y had.1
        (subst (λ (l : List View). get_elem? l had.0 ≡ some had.1) is had.2))

    -- where each seat is as it was, and the words too
    stays_so : Happens s new → new.words ≡ s.words
        → ((p : Part) → IsSeatedIn (views_of s.views) p → IsSeatedIn (views_of new.views) p)
        → ((p : Part) → IsSeatedIn (views_of new.views) p → IsSeatedIn (views_of s.views) p) → Agrees a new r' w
    stays_so happens words forth back =
        same_world r r' w g (ap (λ (ws : List ℕ). get_or ws 0 0) words) (ap length words) forth back
        (law.prefix_both r'.history.log r.history.log (log_back r r' back) (step_grows r r' happens))

    -- A step of a token that stands for no lane.

    module _ (h : IsStepped s new) (none : h.v.view.stands ≡ Spent) (still : h.w.view.stands ≡ Spent) where
      spent_forth : (p : Part) → IsSeatedIn (views_of s.views) p → IsSeatedIn (views_of new.views) p
      spent_forth p had = ⊎_elim (λ (sits : Sits p h.v.view.stands). absurd (subst (Sits p) none sits))
          (λ (f : IsSeatedIn (views_of new.views) p). f) (stays_there h p had)

      spent_back : (p : Part) → IsSeatedIn (views_of new.views) p → IsSeatedIn (views_of s.views) p
      spent_back p had = ⊎_elim (λ (sits : Sits p h.w.view.stands). absurd (subst (Sits p) still sits))
          (λ (t : (f : IsSeatedIn (views_of s.views) p) × (f.0 ≢ h.id)). t.0) (was_seated h p had)

      -- the turn is where the seats have it
      spent_turn : turn new ≡ turn s
      spent_turn = dite (ℕ_discrete (turn s) 1) (λ out.
          let t = holder_there r out in
          let k = (known_at r' (spent_forth t.0 t.1)).holding r.history.log t.2 in
          k.out ∙ sym out) (λ not.
          let not_out : turn new ≢ 1 = λ out.
          let t = holder_there r' out in
          not ((known_at r (spent_back t.0 t.1)).holding r'.history.log t.2).out in
          let dealt : turn s ≢ 2 = not_dealing g in
          let not_dealt : turn new ≢ 2 = λ two.
          let d = r'.history.opener two in
          ⊎_elim (λ (i : (r'.history.holder ≡ h.id) × (h.w.view ≡ d.0)).
          let no : Spent ≡ Opening r'.history.dealt = sym still ∙ (ap (λ (z : View). z.stands) i.1 ∙ d.2) in
          absurd cc) (λ (i : (r'.history.holder ≢ h.id) × (get_elem? (views_of s.views) r'.history.holder ≡ some d.0)).
          absurd (no_opener r'.history.holder d.0 i.1 r'.history.dealt d.2)) (was_there h r'.history.holder d.0 d.1) in
          zero_of (turn new) r'.history.word not_out not_dealt ∙ sym (zero_of (turn s) r.history.word not dealt))

      spent_stays : Agrees a new r' w
      spent_stays = same_world r r' w g spent_turn (ap length h.words ∙ length-set s.words h.made.word h.becomes)
          spent_forth spent_back (law.prefix_both r'.history.log r.history.log (log_back r r' spent_back)
          (step_grows r r' (inl h)))

    -- A step of a token of two lanes.

    module _ (h : IsStepped s new) (p q : Part) (l : List Event) (two : h.v.view.stands ≡ Two p q)
        (now_two : h.w.view.stands ≡ Two (loaded p l) (loaded q l)) (reads : IsReading h.made h.found)
        (seen : Begins p.seen l) (seen_too : Begins q.seen l) where
      words : (i : ℕ) → get_or new.words i 0 ≡ get_or s.words i 0
      words = reads_words h reads

      here : get_elem? (views_of s.views) h.id ≡ some h.v.view
      here = view_at s.views h.id h.at

      abbrev Was : Part → Type 0
      Was u = IsSeatedIn (views_of s.views) u

      abbrev Is : Part → Type 0
      Is u = IsSeatedIn (views_of new.views) u

      abbrev first : Was p
      first = (h.id, h.v.view, view_at s.views h.id h.at, subst (Sits p) (sym two) (inl refl))

      abbrev second : Was q
      second = (h.id, h.v.view, view_at s.views h.id h.at, subst (Sits q) (sym two) (inr refl))

      now_at : get_elem? (views_of new.views) h.id ≡ some h.w.view
      now_at = subst (λ (x : List View). get_elem? x h.id ≡ some h.w.view) (sym (now_views h))
          (law.set_at (views_of s.views) h.id h.w.view h.v.view here)

      first_now : Is (loaded p l)
      first_now = (h.id, h.w.view, now_at, subst (Sits (loaded p l)) (sym now_two) (inl refl))

      second_now : Is (loaded q l)
      second_now = (h.id, h.w.view, now_at, subst (Sits (loaded q l)) (sym now_two) (inr refl))

      stand : Stands (shared a s r) h.id (Two p q)
      stand = subst (Stands (shared a s r) h.id) two (r.history.each h.id h.v.view here)

      -- a lane's seat is one of both, or another's
      two_back : (u : Part) → Is u
          → (u ≡ loaded q l) ⊎ (((u ≡ loaded p l) ⊎ (Was u × (u.lane ≢ p.lane))) × (u.lane ≢ q.lane))
      two_back u had = ⊎_elim (λ (sits : Sits u h.w.view.stands).
          ⊎_elim (λ (e : loaded p l ≡ u).
          inr (inl (sym e), λ same. stand.2 (ap (λ (z : Part). z.lane) e ∙ same)))
          (λ (e : loaded q l ≡ u). inl (sym e)) (subst (Sits u) now_two sits)) (λ (t : (f : Was u) × (f.0 ≢ h.id)).
          let apart : (v : Part) → (f : Was v) → f.0 ≡ h.id → u.lane ≢ v.lane =
          λ v f at same. t.1 (sym (known_at r t.0).at ∙ (ap r.history.seat same ∙ ((known_at r f).at ∙ at))) in
          inr (inr (t.0, apart p first refl), apart q second refl)) (was_seated h u had)

      two_forth : (t : Part) → Was t → ((t ≡ p) ⊎ (t ≡ q)) ⊎ Is t
      two_forth t had = ⊎_elim (λ (sits : Sits t h.v.view.stands).
          inl (⊎_elim (λ (e : p ≡ t). inl (sym e)) (λ (e : q ≡ t). inr (sym e)) (subst (Sits t) two sits)))
          (λ (f : Is t). inr f) (stays_there h t had)

      -- it is as it was but for what it has seen
      two_was : (u : Part) → Is u → (t : Part) × Was t × (u ≡ loaded t u.seen)
      two_was u had =
          let so : (t : Part) → u ≡ loaded t l → u ≡ loaded t u.seen =
          λ t e. e ∙ ap (loaded t) (sym (ap (λ (z : Part). z.seen) e)) in
          ⊎_elim (λ (e : u ≡ loaded q l). (q, second, so q e))
          (λ (t : ((u ≡ loaded p l) ⊎ (Was u × (u.lane ≢ p.lane))) × (u.lane ≢ q.lane)).
          ⊎_elim (λ (e : u ≡ loaded p l). (p, first, so p e))
          (λ (f : Was u × (u.lane ≢ p.lane)). (u, f.0, refl)) t.0) (two_back u had)

      two_is : (t : Part) → Was t → (u : Part) × Is u × (u ≡ loaded t u.seen)
      two_is t had = ⊎_elim (λ (i : (t ≡ p) ⊎ (t ≡ q)).
          ⊎_elim (λ (e : t ≡ p). (loaded p l, first_now, ap (λ (z : Part). loaded z l) (sym e)))
          (λ (e : t ≡ q). (loaded q l, second_now, ap (λ (z : Part). loaded z l) (sym e))) i)
          (λ (f : Is t). (t, f, refl)) (two_forth t had)

      two_calls : (u : Part) → Is u → SameCalls r r' u
      two_calls u had = let t = two_was u had in (
        t.0,
        t.1,
        ap (λ (z : Part). z.lane) t.2,
        ap (λ (z : Part). z.flight) t.2,
        ap (λ (z : Part). z.mine) t.2,
      )

      abbrev mid : World
      mid = reseated w p.lane (loaded p l)

      abbrev next : World
      next = reseated mid q.lane (loaded q l)

      two_log : r'.history.log ≡ r.history.log
      two_log = same_log r r' (λ i. words (i + 1)) two_calls (step_grows r r' (inl h))

      begins_log : Begins l r.history.log
      begins_log = subst (Begins l) two_log (within r' first_now).seen

      not_holder : (t : Part) → t.holding ≡ None → HasTurn t → HasTurn (loaded t l)
      not_holder t none held = absurd (not_both t none held)

      q_at : get_elem? mid.seats q.lane ≡ some q
      q_at = law.set_else w.seats p.lane q.lane (loaded p l) (λ e. stand.2 (sym e)) ∙ g.each q second

      two_seats : AreSeats Is next.seats
      two_seats =
          let were = seats_set Was w.seats p (loaded p l) (g.seats, g.each) refl first in
          let first_set : Part → Type 0 = Replaced Was p (loaded p l) in
          let are = seats_set first_set mid.seats q (loaded q l) were refl (inr (second, λ e. stand.2 (sym e))) in
          seats_as (Replaced first_set q (loaded q l)) Is next.seats (λ u is.
          ⊎_elim (λ (e : u ≡ loaded q l). subst Is (sym e) second_now) (λ (t : first_set u × (u.lane ≢ q.lane)).
          ⊎_elim (λ (e : u ≡ loaded p l). subst Is (sym e) first_now) (λ (f : Was u × (u.lane ≢ p.lane)).
          ⊎_elim (λ (i : (u ≡ p) ⊎ (u ≡ q)).
          ⊎_elim (λ (e : u ≡ p). absurd (f.1 (ap (λ (z : Part). z.lane) e)))
          (λ (e : u ≡ q). absurd (t.1 (ap (λ (z : Part). z.lane) e))) i)
          (λ (n : Is u). n) (two_forth u f.0)) t.0) is) two_back are

      two_agrees : Agrees a new r' next
      two_agrees =
          let serving = same_serving r r' (words 0) (λ t had. let u = two_is t had in
          (u.0, u.1, ap (λ (z : Part). z.holding) u.2, ap (λ (z : Part). z.serving) u.2)) in record {
            opening = g.opening;
            free = λ store e. let f = g.free store e in (words 0 ∙ f.0, f.1 ∙ sym (last_same_of r r' two_log));
            out = λ lane e. let o = g.out lane e in (
              words 0 ∙ o.0,
              out_set mid.seats q.lane lane q (loaded q l) q_at (not_holder q stand.4)
                  (out_set w.seats p.lane lane p (loaded p l) (g.each p first) (not_holder p stand.3) o.1),
            );
            wide = ap length h.words ∙ (length-set s.words h.made.word h.becomes ∙ g.wide);
            cells = λ k c at. g.cells k c at
                ∙ sym (cell_stays r r' k (keeps_served r r' serving k) (ap (events_of k) two_log)
                (λ t had. let u = two_is t had in (u.0, u.1, ap (λ (z : Part). z.lane) u.2))
                (λ u is e. two_calls u is));
            seats = two_seats.0;
            each = two_seats.1;
          }

      mid_history : (t : Turn) → w.turn ≡ t → IsHistoryBy t r.history.log mid.seats
      mid_history (Free store) e =
          let log : List Event = r.history.log in
          let q_now : Part = loaded p l in
          let had : IsHistoryBy (Free store) log w.seats =
          subst (λ (t : Turn). IsHistoryBy t log w.seats) e (history_of g) in (
            ⊎_elim (λ (none : log ≡ []). inl none)
                (λ (t : (j : ℕ) × (x : Part) × (get_elem? w.seats j ≡ some x) × (x.seen ≡ log)).
                dite (ℕ_discrete t.0 p.lane) (λ same.
                let it : t.1 ≡ p = some-injective t.1 p (sym t.2 ∙ (ap (get_elem? w.seats) same ∙ g.each p first)) in
                let whole : p.seen ≡ log = ap (λ (z : Part). z.seen) (sym it) ∙ t.3 in
                inr (
                  p.lane,
                  q_now,
                  law.set_at w.seats p.lane q_now p (g.each p first),
                  law.prefix_both l log begins_log (subst (λ (z : List Event). Begins z l) whole seen),
                )) (λ not. inr (t.0, t.1, law.set_else w.seats p.lane t.0 q_now not ∙ t.2, t.3))) had.0,
            λ j x at. ⊎_elim
                (λ (t : (j ≡ p.lane) × (q_now ≡ x)). subst (λ (z : Part). Begins z.seen log) t.1 begins_log)
                (λ (t : (j ≢ p.lane) × (get_elem? w.seats j ≡ some x)). had.1 j x t.1)
                (law.at_set w.seats p.lane j q_now x at),
          )
      mid_history (Out lane) e =
          let log : List Event = r.history.log in
          let had : IsHistoryBy (Out lane) log w.seats =
          subst (λ (t : Turn). IsHistoryBy t log w.seats) e (history_of g) in
          let apart : lane ≢ p.lane = λ same.
          let it : had.0 ≡ p = some-injective had.0 p (sym had.1 ∙ (ap (get_elem? w.seats) same ∙ g.each p first)) in
          not_both p stand.3 (log, ap (λ (z : Part). z.holding) (sym it) ∙ had.2) in
          (had.0, law.set_else w.seats p.lane lane (loaded p l) apart ∙ had.1, had.2)

      abbrev loads_both : List WorldStep
      loads_both = step_by p.lane (Load (length l)) ∷ step_by q.lane (Load (length l)) ∷ []

      two_leads : MakesSteps a new w loads_both
      two_leads = (
        next,
        is_world two_agrees,
        (
          mid,
          (p, g.each p first, (r.history.log, l, history_of g, seen, begins_log, refl, refl)),
          (
            next,
            (q, q_at, (r.history.log, l, mid_history w.turn refl, seen_too, begins_log, refl, refl)),
            refl,
          ),
        ),
      )

-- Whatever happens.

-- the machine makes some steps
abbrev MakesSome : State → Board → World → Type 0
MakesSome a new w = (steps : List WorldStep) × MakesSteps a new w steps

module _ {a : State} {s new : Board} (r : InOneOrder a s) (r' : InOneOrder a new) {w : World} (is : IsWorld a s w)
  where
    happened : Agrees a new r' w → MakesSome a new w
    happened g = ([], (w, is_world g, refl))

    by_token : (h : IsStepped s new) → (st : Standing) → h.v.view.stands ≡ st → MakesSome a new w
    by_token h Spent e =
        let moved : IsMoved h.made h.found Spent h.w.view.stands =
        subst (λ (t : Standing). IsMoved h.made h.found t h.w.view.stands) e h.moved in
        happened (spent_stays r r' (agrees r is) h e moved)
    by_token h (One p) e =
        let moved : IsMoved h.made h.found (One p) h.w.view.stands =
        subst (λ (t : Standing). IsMoved h.made h.found t h.w.view.stands) e h.moved in
        (steps_by p.lane moved.0, steps_as a s new p moved.0 w r r' h e moved.1 moved.2 is)
    by_token h (Two p q) e =
        let moved : IsMoved h.made h.found (Two p q) h.w.view.stands =
        subst (λ (t : Standing). IsMoved h.made h.found t h.w.view.stands) e h.moved in
        let g = agrees r is in (
          loads_both r r' g h p q moved.1.0 e moved.1.3 moved.0 moved.1.1 moved.1.2,
          two_leads r r' g h p q moved.1.0 e moved.1.3 moved.0 moved.1.1 moved.1.2,
        )
    by_token h (Opening n) e = absurd (no_opener r r' (agrees r is) h.id h.v.view (view_at s.views h.id h.at) n e)

    happening : Happens s new → MakesSome a new w
    happening happens =
        let g = agrees r is in
        ⊎_elim (λ (h : IsStepped s new). by_token h h.v.view.stands refl) (λ (t : IsCut s new ⊎ IsJoined s new).
        ⊎_elim (λ (h : IsCut s new).
        happened (stays_so r r' g happens h.words (λ p had. by_cut p h had) (by_cut_back r r' g h)))
        (λ (h : IsJoined s new).
        happened (stays_so r r' g happens h.words (λ p had. by_join p h had) (by_join_back r r' g h))) t) happens

runs_both : (w then end : World) (xs ys : List WorldStep) → Runs w xs then → Runs then ys end → Runs w (xs ++ ys) end
runs_both w then end [] ys first second = subst (λ (z : World). Runs z ys end) (sym first) second
runs_both w then end (x ∷ xs) ys first second = (first.0, first.1, runs_both first.0 then end xs ys first.2 second)

pub runs_as : (a : State) → RunsAs a
runs_as a s end [] w r leads is = ([], w, subst (λ (t : Board). IsWorld a t w) leads is, refl)
runs_as a s end (new ∷ more) w r leads is =
    let t = happening r leads.1 is leads.0 in
    let u = runs_as a new end more t.1.0 leads.1 leads.2 t.1.1 in
    (t.0 ++ u.0, u.1, u.2, runs_both w t.1.0 u.1 t.0 u.0 t.1.2 u.3)

-- The beginning.

cells_at : (n l : ℕ) (c : Cell) → get_elem? (empty_cells n) l ≡ some c → (c ≡ cells.Empty) × (l < n)
cells_at zero l c e = absurd (some-ne-none c (sym e))
cells_at (suc n) zero c e = (sym (some-injective cells.Empty c e), omega arith)
cells_at (suc n) (suc l) c e = let t = cells_at n l c e in let lt : l < n = t.1 in (t.0, omega arith)

cells_length : (n : ℕ) → length (empty_cells n) ≡ n
cells_length zero = refl
cells_length (suc n) = ap suc (cells_length n)

pub begins_as : (a : State) → BeginsAs a
begins_as a s lanes r not fresh_ones =
    let log : List Event = r.history.log in
    let not_out : turn s ≢ 1 = λ out.
    let t = holder_there r out in
    not_both t.0 (ap (λ (z : Part). z.holding) (fresh_ones.2 t.0 t.1).1) (log, t.2) in
    let zero_is : turn s ≡ 0 = zero_of (turn s) r.history.word not_out not in
    let none : log ≡ [] = ⊎_elim (λ (e : log ≡ []). e)
    (λ (t : (j : ℕ) × (v : View) × (get_elem? (views_of s.views) j ≡ some v) × HasSeen log v.stands).
    let q = seen_sits log t.1.stands t.3 in
    let e : q.0 ≡ fresh q.0.lane = (fresh_ones.2 q.0 (t.0, t.1, t.2, q.1)).1 in
    sym q.2 ∙ ap (λ (z : Part). z.seen) e) (r.history.longest not_out) in
    let last : r.history.last ≡ a =
    one_history a r.history.last a [] (subst (λ (l : List Event). IsLegal a l r.history.last) none r.history.legal)
    (legal_none a) in
    is_world {r = r} record {
      opening = refl;
      free = λ store e. let same : a ≡ store = cc in (zero_is, sym same ∙ sym last);
      out = λ lane e. absurd cc;
      wide = fresh_ones.0 ∙ ap (λ (n : ℕ). n + 1) (sym (cells_length lanes));
      cells = λ l c at.
          let t = cells_at lanes l c at in
          let f = fresh_ones.1 l t.1 in
          t.0 ∙ sym (law.empty_if_idle (fresh l) log (r.cell l) refl (known_at r f).fits);
      seats = λ l p at.
          let t = fresh_here lanes l p at in (
            ap (λ (z : Part). z.lane) (sym t.0),
            subst (IsSeatedIn (views_of s.views)) t.0 (fresh_ones.1 l t.1),
          );
      each = λ p had.
          let t = fresh_ones.2 p had in fresh_there lanes p.lane t.0 ∙ ap some (sym t.1);
    }

pub follows_steps : (a : State) → FollowsSteps a
follows_steps a s mid end lanes before since r not fresh_ones first second now later =
    let t = runs_as a s mid before (begun a lanes) r first (begins_as a s lanes r not fresh_ones) in
    let u = runs_as a mid end since t.1 now second t.2 in (
      t.0,
      u.0,
      t.1,
      u.1,
      t.2,
      u.2,
      t.3,
      u.3,
      history_of (agrees now t.2),
      history_of (agrees later u.2),
    )
