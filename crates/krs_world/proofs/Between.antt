-- Of two moments, what a call stands behind at the second that wasn't answered yet at the first.
use Rattle.std.proofs.Common.{[], ⊎_elim, ◌++◌, ◌∙◌, ◌∷◌, ◌≡◌, ◌≢◌, ap, append-nil, append_assoc, cond, eq-eqb}
use Rattle.std.proofs.Common.{arith, List, ne_eqb, Option, refl, subst, sym, ℕ}
use Rattle.std.proofs.lemmas.List.{append_cancel_left, Elements.filter-append}
use mathlib.Core.Logic.{dite}
use native.Mathlib.Decide.{ℕ_discrete}
use Rattle.krs_types.specs.declared.event.Event.{Event}
use Rattle.krs_model.specs.{History.event_of, Lists.Begins, State.State}
use Rattle.krs_world.specs.Between.{IsSeenBy, KeepsCollectedBetween, KeepsPostedBetween, KeepsRealTimeBetween}
use Rattle.krs_world.specs.{Between.StandsNext, History.{Fits, HasSeen, OneHistory, Shared, Stands}}
use Rattle.krs_world.specs.{Knowing.{events_of, one}, World.IsUnanswered, declared.view.Cell.Cell}
use Rattle.krs_world.specs.declared.view.{Cell.TheVariants.{Answered, Empty, Posted, Serving}, Part.Part}
use Rattle.krs_world.specs.declared.view.{Standing.{Standing, TheVariants.{One, Opening, Spent, Two}}, View.View}
use Rattle.krs_world.proofs.{Keeping.{empty_if_idle, events_prefix, prefix_trans, shares}, Orders.either_begins}
use Rattle.std.proofs.lemmas.Grind.{common_steps}

-- Lists.
no_room : (x : List Event) (e : Event) (z : List Event) → ◌≡◌ {A = List Event} [] (x ++ e ∷ z) → ⊥
no_room [] e z is = absurd cc
no_room (w ∷ ws) e z is = absurd cc

too_long : (mine : List Event) (e : Event) (more : List Event) → Begins (mine ++ e ∷ more) mine → ⊥
too_long [] e more b = let no = b.1 in absurd cc
too_long (x ∷ xs) e more b = let is = b.1 in let tail : (xs ++ e ∷ more) ++ b.0 ≡ xs = cc in
    too_long xs e more (b.0, tail)

-- a list falls into what stands before an operation of the lane and what stands behind it
abbrev Falls : ℕ → List Event → List Event → Event → Type 0
Falls lane log mine e =
    (before : List Event) × (behind : List Event) × (log ≡ before ++ e ∷ behind) × (events_of lane before ≡ mine)

own_kept : (lane : ℕ) (y : Event) (ys : List Event) → y.lane ≡ lane → events_of lane (y ∷ ys) ≡ y ∷ events_of lane ys
own_kept lane y ys own = ap (λ b. cond b (y ∷ events_of lane ys) (events_of lane ys)) (eq-eqb y.lane lane own)

other_left : (lane : ℕ) (y : Event) (ys : List Event) → y.lane ≢ lane → events_of lane (y ∷ ys) ≡ events_of lane ys
other_left lane y ys other = ap (λ b. cond b (y ∷ events_of lane ys) (events_of lane ys)) (ne_eqb y.lane lane other)

falls : (lane : ℕ) (log mine : List Event) (e : Event) (more : List Event)
    → events_of lane log ≡ mine ++ e ∷ more → Falls lane log mine e
falls lane [] mine e more is = absurd (no_room mine e more is)
falls lane (y ∷ ys) [] e more is = dite (ℕ_discrete y.lane lane)
    (λ own. let both : y ∷ events_of lane ys ≡ e ∷ more = sym (own_kept lane y ys own) ∙ is in
    let head : y ≡ e = cc in ([], ys, ap (λ (x : Event). x ∷ ys) head, refl))
    (λ other. let t = falls lane ys [] e more (sym (other_left lane y ys other) ∙ is) in
    (y ∷ t.0, t.1, ap (λ l. y ∷ l) t.2, other_left lane y t.0 other ∙ t.3))
falls lane (y ∷ ys) (w ∷ ws) e more is = dite (ℕ_discrete y.lane lane)
    (λ own. let both : y ∷ events_of lane ys ≡ w ∷ (ws ++ e ∷ more) = sym (own_kept lane y ys own) ∙ is in
    let head : y ≡ w = cc in let tail : events_of lane ys ≡ ws ++ e ∷ more = cc in
    let t = falls lane ys ws e more tail in
    (y ∷ t.0, t.1, ap (λ l. y ∷ l) t.2, own_kept lane y t.0 own ∙ (λ i. head i ∷ t.3 i)))
    (λ other. let t = falls lane ys (w ∷ ws) e more (sym (other_left lane y ys other) ∙ is) in
    (y ∷ t.0, t.1, ap (λ l. y ∷ l) t.2, other_left lane y t.0 other ∙ t.3))

-- the lane has no more operations in the front than these, and one more in the list: that stands behind the front
pub stands_next : (lane : ℕ) (front mine : List Event) (e : Event) (more log : List Event)
    → Begins (events_of lane front) mine → Begins front log → Begins (mine ++ e ∷ more) (events_of lane log)
    → StandsNext lane front mine e log
stands_next lane front mine e more log had begun has =
    grind (arith, common_steps, filter-append, append_assoc, falls, append_cancel_left)

-- What is known at a moment.
seen_of : (s : Shared) (j : ℕ) (seen : List Event) (st : Standing) → HasSeen seen st → Stands s j st → Begins seen s.log
seen_of s j seen Spent h k = absurd h
seen_of s j seen (One p) h k = subst (λ l. Begins l s.log) h k.seen
seen_of s j seen (Two p q) h k = ⊎_elim (λ e. subst (λ l. Begins l s.log) e k.0.seen)
    (λ e. subst (λ l. Begins l s.log) e k.1.seen) h
seen_of s j seen (Opening n) h k = absurd h

-- what a seat has seen begins the history
pub seen_begins_log : {a : State} {t : ℕ} {home : Option State} {cell : ℕ → Cell} {views : List View}
    (front : List Event)
    (o : OneHistory a t home cell views) → IsSeenBy front views → Begins front o.log
seen_begins_log front o s = prefix_trans front s.2 o.log s.5
    (seen_of (shares o) s.0 s.2 s.1.stands s.4 (o.each s.0 s.1 s.3))

-- the history has no operation of a lane that the lane doesn't know of, unless its cell is answered
mine_is : (p : Part) (log : List Event) (c : Cell) → IsUnanswered c → Fits log p c → events_of p.lane log ≡ p.mine
mine_is p log Empty u f = f.1
mine_is p log (Posted m a) u f = f.2
mine_is p log (Serving m a) u f = f.2
mine_is p log (Answered m a r) u f = absurd u

front_had : (q : Part) (front log : List Event) (c : Cell) → Begins front log → IsUnanswered c → Fits log q c
    → Begins (events_of q.lane front) q.mine
front_had q front log c begun u f = grind (arith, common_steps, mine_is, events_prefix)

pub collected_between : KeepsCollectedBetween
collected_between a t t' home home' cell cell' views views' front j j' q q' e more o later was is at
    unanswered there lane
    mine =
    let k = o.each j (one a q) at in
    let k' = later.each j' (one a q') there in
    let had : Begins (events_of q.lane front) q.mine =
    front_had q front o.log (cell q.lane) (seen_begins_log front o was) unanswered k.fits in
    let begun : Begins front later.log = seen_begins_log front later is in
    let seen : Begins (q.mine ++ e ∷ more) (events_of q.lane q'.seen) =
    subst (λ (z : ℕ × List Event). Begins z.1 (events_of z.0 q'.seen)) (λ i. (lane i, mine i)) k'.calls in
    let whole : Begins (q.mine ++ e ∷ more) (events_of q.lane later.log) =
    prefix_trans (q.mine ++ e ∷ more) (events_of q.lane q'.seen) (events_of q.lane later.log) seen
    (events_prefix q.lane q'.seen later.log k'.seen) in (
      stands_next q.lane front q.mine e more later.log had begun whole,
      ⊎_elim (λ (b : Begins front q'.seen). stands_next q.lane front q.mine e more q'.seen had b seen)
          (λ (b : Begins q'.seen front). absurd (too_long q.mine e more
          (prefix_trans (q.mine ++ e ∷ more) (events_of q.lane q'.seen) q.mine seen
          (prefix_trans (events_of q.lane q'.seen) (events_of q.lane front) q.mine
          (events_prefix q.lane q'.seen front b) had)))) (either_begins front q'.seen later.log begun k'.seen),
    )

pub real_time_between : KeepsRealTimeBetween
real_time_between a t t' home home' cell cell' views views' front j j' q q' e more o later was is at
    idle there lane mine =
    let k = o.each j (one a q) at in
    collected_between a t t' home home' cell cell' views views' front j j' q q' e more o later was is at
    (subst IsUnanswered (sym (empty_if_idle q o.log (cell q.lane) idle k.fits)) tt) there lane mine

pub posted_between : KeepsPostedBetween
posted_between a t t' home home' cell cell' views views' front j j' q q' m ask reply o later was is at
    unanswered there lane
    mine answered =
    let k = o.each j (one a q) at in
    let k' = later.each j' (one a q') there in
    let had : Begins (events_of q.lane front) q.mine =
    front_had q front o.log (cell q.lane) (seen_begins_log front o was) unanswered k.fits in
    let begun : Begins front later.log = seen_begins_log front later is in
    let fits : Fits later.log q' (Answered m ask reply) =
    subst (Fits later.log q') (ap cell' lane ∙ answered) k'.fits in
    let own : events_of q.lane later.log ≡ q.mine ++ event_of q.lane m ask reply ∷ [] =
    subst (λ (z : ℕ × List Event). events_of z.0 later.log ≡ z.1 ++ event_of z.0 m ask reply ∷ [])
    (λ i. (lane i, mine i)) fits.2 in
    let e : Event = event_of q.lane m ask reply in
    stands_next q.lane front q.mine e [] later.log had begun ([], append-nil (q.mine ++ e ∷ []) ∙ sym own)
