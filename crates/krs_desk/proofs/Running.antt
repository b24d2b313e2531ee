-- Whatever happens to a table, what was seen stays seen, and the history only grows.
use Rattle.std.proofs.Common.{[], ⊎_elim, ◌++◌, ◌∙◌, ◌∷◌, ◌≡◌, ◌≢◌, ◌⊎◌, ap, get_or, inl, inr, length, List, None}
use Rattle.std.proofs.Common.{Option, refl, set, Some, subst, sym, ℕ}
use Rattle.atomic_table.specs.Table.{Step}
use lib.ListN.{get_elem?}
use mathlib.Core.{Logic.dite, Option.{some, some-injective}}
use native.Mathlib.Decide.{ℕ_discrete}
use Rattle.krs_types.specs.declared.event.Event.{Event}
use Rattle.krs_model.specs.{Lists.Begins, Revocation.StaysUnread, State.{starting_at, State}}
use Rattle.krs_world.specs.Between.{IsSeenBy}
use Rattle.krs_world.specs.{History.HasSeen, Knowing.loaded, declared.view.Part.Part}
use Rattle.krs_world.specs.declared.view.{Standing.{Standing, TheVariants.{One, Opening, Spent, Two}}, View.View}
use Rattle.krs_world.proofs.{Between.seen_begins_log, Orders.either_begins}
use Rattle.krs_desk.specs.{Between.StaysSeen, Machine.{IsSeatedIn, Sits}, Moves.{after, IsMadeAt, IsMoved, Move}}
use Rattle.krs_desk.specs.Parts.{both_sights, cell_of, given_of, given_sight, kept_of, kept_sight, part_of}
use Rattle.krs_desk.specs.{Parts.{settled_sight, spent, views_of}, Rule.InOneOrder}
use Rattle.krs_desk.specs.Running.{Board, Happens, IsCut, IsJoined, IsStepped, KeepsRealTime, KeepsSeenLists, OnlyGrows}
use Rattle.krs_desk.specs.{Running.{SeesOneOrder, StaysRefused}, declared.{slot.SlotValue.SlotValue, token.Sight.Sight}}
use Rattle.krs_desk.proofs.Between.{collected, idle_word, real_time, refuses_revoked, seen_by}
use Rattle.krs_desk.proofs.{Joining.{views_cut, views_twice}, Looking.not_both, TurnSteps.{turn, view_at, views_set}}
use Rattle.krs_desk.specs.Moves as move
use Rattle.krs_world.proofs.Keeping as law
use Rattle.krs_world.specs.History as history

-- What becomes of a lane.

-- what is known of it stays, or changes by one of the steps
abbrev pub Goes : Part → Part → Type 0
Goes p p' = (p' ≡ p)
    ⊎ ((made : Step SlotValue) × (found : Option ℕ) × (m : Move) × IsMadeAt made found p m × (p' ≡ after p m))

moved_lane :
    (made : Step SlotValue) (found : Option ℕ) (st st' : Standing) (p : Part) → IsMoved made found st st' → Sits p st
    → (p' : Part) × Sits p' st' × Goes p p'
moved_lane made found Spent st' p moved sits = absurd sits
moved_lane made found (One q) st' p moved sits = (
  after q moved.0,
  subst (Sits (after q moved.0)) (sym moved.2) refl,
  inr (
    made,
    found,
    moved.0,
    subst (λ (x : Part). IsMadeAt made found x moved.0) sits moved.1,
    ap (λ (x : Part). after x moved.0) sits,
  ),
)
moved_lane made found (Two q r) st' p moved sits =
    let log : List Event = moved.1.0 in
    ⊎_elim (λ (e : q ≡ p). (
      loaded q log,
      subst (Sits (loaded q log)) (sym moved.1.3) (inl refl),
      inr (
        made,
        found,
        move.loads log,
        (moved.0, subst (λ (x : Part). Begins x.seen log) e moved.1.1),
        ap (λ (x : Part). loaded x log) e,
      ),
    )) (λ (e : r ≡ p). (
      loaded r log,
      subst (Sits (loaded r log)) (sym moved.1.3) (inr refl),
      inr (
        made,
        found,
        move.loads log,
        (moved.0, subst (λ (x : Part). Begins x.seen log) e moved.1.2),
        ap (λ (x : Part). loaded x log) e,
      ),
    )) sits
moved_lane made found (Opening n) st' p moved sits = absurd sits

-- the lane has a seat still, maybe another, and what is known of it stays or changes by one of the steps
abbrev pub StaysSeated : List View → Part → Type 0
StaysSeated views p = (p' : Part) × IsSeatedIn views p' × Goes p p'

-- the view at a place where one is known
pub same_view :
    (views : List View) {j id : ℕ} {v w : View} → j ≡ id → get_elem? views j ≡ some v → get_elem? views id ≡ some w
    → v ≡ w
same_view views {v = v} {w = w} same at there = some-injective v w (sym at ∙ (ap (get_elem? views) same ∙ there))

module _ {s new : Board} (h : IsStepped s new) where
  pub now_views : views_of new.views ≡ set (views_of s.views) h.id h.w.view
  now_views = ap views_of h.views ∙ views_set s.views h.id h.w

  -- a token that is there was there before, or made the step
  pub was_there : (j : ℕ) (v : View) → get_elem? (views_of new.views) j ≡ some v
      → ((j ≡ h.id) × (h.w.view ≡ v)) ⊎ ((j ≢ h.id) × (get_elem? (views_of s.views) j ≡ some v))
  was_there j v at = law.at_set (views_of s.views) h.id j h.w.view v
      (subst (λ (l : List View). get_elem? l j ≡ some v) now_views at)

  -- a lane's seat stays there, unless the token that makes the step stands for it
  pub stays_there : (t : Part) → IsSeatedIn (views_of s.views) t
      → Sits t h.v.view.stands ⊎ IsSeatedIn (views_of new.views) t
  stays_there t had = dite (ℕ_discrete had.0 h.id) (λ same. inl (subst (λ (v : View). Sits t v.stands)
      (same_view (views_of s.views) same had.2 (view_at s.views h.id h.at)) had.3)) (λ not. inr (
        had.0,
        had.1,
        subst (λ (l : List View). get_elem? l had.0 ≡ some had.1) (sym now_views)
            (law.set_else (views_of s.views) h.id had.0 h.w.view not ∙ had.2),
        had.3,
      ))

  -- and one that is there was there, at another place, unless that token stands for it then
  pub was_seated : (u : Part) → IsSeatedIn (views_of new.views) u
      → Sits u h.w.view.stands ⊎ ((had : IsSeatedIn (views_of s.views) u) × (had.0 ≢ h.id))
  was_seated u had = ⊎_elim
      (λ (i : (had.0 ≡ h.id) × (h.w.view ≡ had.1)). inl (subst (λ (v : View). Sits u v.stands) (sym i.1) had.3))
      (λ (i : (had.0 ≢ h.id) × (get_elem? (views_of s.views) had.0 ≡ some had.1)).
      inr ((had.0, had.1, i.1, had.3), i.0)) (was_there had.0 had.1 had.2)

by_step :
    {s new : Board} {p : Part} → IsStepped s new → IsSeatedIn (views_of s.views) p → StaysSeated (views_of new.views) p
by_step {s} {new} {p} h had = ⊎_elim (λ (sits : Sits p h.v.view.stands).
    let t = moved_lane h.made h.found h.v.view.stands h.w.view.stands p h.moved sits in (
      t.0,
      (
        h.id,
        h.w.view,
        subst (λ (l : List View). get_elem? l h.id ≡ some h.w.view) (sym (now_views h))
            (law.set_at (views_of s.views) h.id h.w.view h.v.view (view_at s.views h.id h.at)),
        t.1,
      ),
      t.2,
    )) (λ (there : IsSeatedIn (views_of new.views) p). (p, there, inl refl)) (stays_there h p had)

cut_lane : (st : Standing) (p : Part) → Sits p st → Sits p (kept_of st) ⊎ Sits p (given_of st)
cut_lane Spent p sits = absurd sits
cut_lane (One q) p sits = inr sits
cut_lane (Two q r) p sits = sits
cut_lane (Opening n) p sits = absurd sits

-- what is known of it stays where tokens are cut and joined
pub by_cut :
    {s new : Board} (p : Part) → IsCut s new → IsSeatedIn (views_of s.views) p → IsSeatedIn (views_of new.views) p
by_cut {s} {new} p h had =
    let views : List View = views_of s.views in
    let x : View = (kept_sight h.v).view in
    let y : View = (given_sight h.v).view in
    let here : get_elem? views h.id ≡ some h.v.view = view_at s.views h.id h.at in
    let left : List View = set views h.id x in
    let is : views_of new.views ≡ left ++ y ∷ [] =
    ap views_of h.views ∙ views_cut s.views h.id (kept_sight h.v) (given_sight h.v) in
    dite (ℕ_discrete had.0 h.id) (λ same.
    ⊎_elim (λ (k : Sits p x.stands). (
      h.id,
      x,
      subst (λ (l : List View). get_elem? l h.id ≡ some x) (sym is)
          (law.snoc_at left h.id y x (law.set_at views h.id x h.v.view here)),
      k,
    )) (λ (g : Sits p y.stands). (
      length left,
      y,
      subst (λ (l : List View). get_elem? l (length left) ≡ some y) (sym is) (law.snoc_end left y),
      g,
    )) (cut_lane h.v.view.stands p (subst (λ (z : View). Sits p z.stands) (same_view views same had.2 here) had.3)))
    (λ not. (
      had.0,
      had.1,
      subst (λ (l : List View). get_elem? l had.0 ≡ some had.1) (sym is)
          (law.snoc_at left had.0 y had.1 (law.set_else views h.id had.0 x not ∙ had.2)),
      had.3,
    ))

-- both lanes are the joined token's
first_joined : (s new : Board) (h : IsJoined s new) (p : Part) → Sits p h.v.view.stands → Sits p h.both.view.stands
first_joined s new h p sits = ⊎_elim (λ (t : (q : Part) × (h.v.view.stands ≡ One q) × (h.both ≡ both_sights h.v h.w)).
    subst (λ (b : Sight). Sits p b.view.stands) (sym t.2) (inl (ap part_of t.1 ∙ subst (Sits p) t.1 sits)))
    (λ (t : (h.v.view.stands ≡ Spent) × (h.both ≡ settled_sight h.v h.w)). absurd (subst (Sits p) t.0 sits)) h.how

other_joined : (s new : Board) (h : IsJoined s new) (p : Part) → Sits p h.w.view.stands → Sits p h.both.view.stands
other_joined s new h p sits =
    let is : part_of h.w.view.stands ≡ p = ap part_of h.given ∙ subst (Sits p) h.given sits in
    ⊎_elim (λ (t : (q : Part) × (h.v.view.stands ≡ One q) × (h.both ≡ both_sights h.v h.w)).
    subst (λ (b : Sight). Sits p b.view.stands) (sym t.2) (inr is))
    (λ (t : (h.v.view.stands ≡ Spent) × (h.both ≡ settled_sight h.v h.w)).
    subst (λ (b : Sight). Sits p b.view.stands) (sym t.1) is) h.how

pub by_join :
    {s new : Board} (p : Part) → IsJoined s new → IsSeatedIn (views_of s.views) p → IsSeatedIn (views_of new.views) p
by_join {s} {new} p h had =
    let views : List View = views_of s.views in
    let x : View = h.both.view in
    let y : View = (spent (starting_at 3)).view in
    let here : get_elem? views h.id ≡ some h.v.view = view_at s.views h.id h.at in
    let there : get_elem? views h.other ≡ some h.w.view = view_at s.views h.other h.there in
    let first : List View = set views h.id x in
    let is : views_of new.views ≡ set first h.other y =
    ap views_of h.views ∙ views_twice s.views h.id h.other h.both (spent (starting_at 3)) in
    let joined : get_elem? (views_of new.views) h.id ≡ some x =
    subst (λ (l : List View). get_elem? l h.id ≡ some x) (sym is)
    (law.set_else first h.other h.id y (λ e. h.apart (sym e)) ∙ law.set_at views h.id x h.v.view here) in
    dite (ℕ_discrete had.0 h.id) (λ same. (
      h.id,
      x,
      joined,
      first_joined s new h p (subst (λ (z : View). Sits p z.stands) (same_view views same had.2 here) had.3),
    )) (λ not. dite (ℕ_discrete had.0 h.other) (λ same. (
      h.id,
      x,
      joined,
      other_joined s new h p (subst (λ (z : View). Sits p z.stands) (same_view views same had.2 there) had.3),
    )) (λ apart. (
      had.0,
      had.1,
      subst (λ (l : List View). get_elem? l had.0 ≡ some had.1) (sym is)
          (law.set_else first h.other had.0 y apart ∙ (law.set_else views h.id had.0 x not ∙ had.2)),
      had.3,
    )))

-- whatever happens, a lane that has a seat has one still
pub lane_goes_on :
    {s new : Board} {p : Part} → Happens s new → IsSeatedIn (views_of s.views) p → StaysSeated (views_of new.views) p
lane_goes_on {s} {new} {p} happens had = ⊎_elim (λ (h : IsStepped s new). by_step h had)
    (λ (t : IsCut s new ⊎ IsJoined s new). ⊎_elim (λ (h : IsCut s new). (p, by_cut p h had, inl refl))
    (λ (h : IsJoined s new). (p, by_join p h had, inl refl)) t) happens

-- What is known of a lane where the rule holds.

-- what a lane has seen, and the list that it holds, begin the history
pub record Within (a : State) (s : Board) (r : InOneOrder a s) (p : Part) : Type 0 where
  pub seen : Begins p.seen r.history.log
  pub held : (l : List Event) → p.holding ≡ Some l → l ≡ r.history.log

pub within : {a : State} {s : Board} (r : InOneOrder a s) {p : Part} → IsSeatedIn (views_of s.views) p → Within a s r p
within {a} {s} r {p} had =
    let k = law.known_of (law.shares r.history) had.0 had.1.stands p had.3 (r.history.each had.0 had.1 had.2) in
    record { seen = k.seen; held = λ l is. (k.holding l is).whole }

-- what a lane has seen only grows
seen_goes :
    (a : State) (s : Board) (r : InOneOrder a s) (p p' : Part) → Within a s r p → Goes p p' → Begins p.seen p'.seen
seen_goes a s r p p' k goes =
    ⊎_elim (λ (e : p' ≡ p). subst (λ (x : Part). Begins p.seen x.seen) (sym e) (law.prefix_self p.seen))
    (λ (t : (made : Step SlotValue) × (found : Option ℕ) × (m : Move) × IsMadeAt made found p m × (p' ≡ after p m)).
    subst (λ (x : Part). Begins p.seen x.seen) (sym t.4)
    (seen_by t.0 t.1 p t.2 (λ l is. subst (Begins p.seen) (sym (k.held l is)) k.seen) t.3)) goes

pub same_list : (l m : List Event) → ◌≡◌ {A = Option (List Event)} (Some l) (Some m) → l ≡ m
same_list l m e = cc

pub begins_log : (l log : List Event) → l ≡ log → Begins l log
begins_log l log e = subst (Begins l) e (law.prefix_self l)

-- a list that is held begins the history after a step
held_moves :
    (a : State) (s : Board) (r : InOneOrder a s) (made : Step SlotValue) (found : Option ℕ) (p : Part) (m : Move)
    (l : List Event) → IsMadeAt made found p m → p.holding ≡ Some l → Within a s r (after p m) → Begins l r.history.log
held_moves a s r made found p move.stays l is held k = absurd (not_both p is.2 (l, held))
held_moves a s r made found p (move.takes log) l is held k = absurd (not_both p is.2 (l, held))
held_moves a s r made found p move.misses l is held k = absurd (not_both p is.2 (l, held))
held_moves a s r made found p (move.puts_own log e) l is held k =
    let same : log ≡ l = same_list log l (sym is.2 ∙ held) in
    subst (λ (x : List Event). Begins x r.history.log) same
    (law.prefix_trans log (log ++ e ∷ []) r.history.log (law.prefix_more log log (e ∷ []) (law.prefix_self log)) k.seen)
held_moves a s r made found p (move.puts_none log) l is held k =
    let same : log ≡ l = same_list log l (sym is.2 ∙ held) in
    subst (λ (x : List Event). Begins x r.history.log) same k.seen
held_moves a s r made found p (move.serves_own log e) l is held k =
    let same : log ≡ l = same_list log l (sym is.1 ∙ held) in
    subst (λ (x : List Event). Begins x r.history.log) same
    (subst (Begins log) (k.held (log ++ e ∷ []) refl) (law.prefix_more log log (e ∷ []) (law.prefix_self log)))
held_moves a s r made found p (move.loads log) l is held k = begins_log l r.history.log (k.held l held)
held_moves a s r made found p (move.posts moment ask) l is held k = begins_log l r.history.log (k.held l held)
held_moves a s r made found p (move.finds other) l is held k = begins_log l r.history.log (k.held l held)
held_moves a s r made found p (move.grabs other moment ask) l is held k = begins_log l r.history.log (k.held l held)
held_moves a s r made found p (move.answers log e) l is held k =
    let same : log ≡ l = same_list log l (sym is.2 ∙ held) in
    subst (λ (x : List Event). Begins x r.history.log) same
    (subst (Begins log) (k.held (log ++ e ∷ []) refl) (law.prefix_more log log (e ∷ []) (law.prefix_self log)))
held_moves a s r made found p (move.collects log e) l is held k = absurd (not_both p is.2 (l, held))
held_moves a s r made found p (move.looks other finished) l is held k = begins_log l r.history.log (k.held l held)

held_goes : (a : State) (s : Board) (r : InOneOrder a s) (p p' : Part) (l : List Event) → p.holding ≡ Some l → Goes p p'
    → Within a s r p' → Begins l r.history.log
held_goes a s r p p' l held goes k = ⊎_elim
    (λ (e : p' ≡ p). begins_log l r.history.log (k.held l (ap (λ (x : Part). x.holding) e ∙ held)))
    (λ (t : (made : Step SlotValue) × (found : Option ℕ) × (m : Move) × IsMadeAt made found p m × (p' ≡ after p m)).
    held_moves a s r t.0 t.1 p t.2 l t.3 held (subst (Within a s r) t.4 k)) goes

-- What was seen.

pub seen_sits : (seen : List Event) (st : Standing) → HasSeen seen st → (p : Part) × Sits p st × (p.seen ≡ seen)
seen_sits seen Spent has = absurd has
seen_sits seen (One p) has = (p, refl, has)
seen_sits seen (Two p q) has =
    ⊎_elim (λ (e : p.seen ≡ seen). (p, inl refl, e)) (λ (e : q.seen ≡ seen). (q, inr refl, e)) has
seen_sits seen (Opening n) has = absurd has

pub sits_seen : (p : Part) (st : Standing) → Sits p st → HasSeen p.seen st
sits_seen p Spent sits = absurd sits
sits_seen p (One q) sits = ap (λ (x : Part). x.seen) sits
sits_seen p (Two q r) sits =
    ⊎_elim (λ (e : q ≡ p). inl (ap (λ (x : Part). x.seen) e)) (λ (e : r ≡ p). inr (ap (λ (x : Part). x.seen) e)) sits
sits_seen p (Opening n) sits = absurd sits

pub turn_sits : (l : List Event) (st : Standing) → history.HasTurn l st → (p : Part) × Sits p st × (p.holding ≡ Some l)
turn_sits l Spent has = absurd has
turn_sits l (One p) has = (p, refl, has)
turn_sits l (Two p q) has = absurd has
turn_sits l (Opening n) has = absurd has

seen_stays : (a : State) (s new : Board) (front : List Event) → InOneOrder a s → Happens s new
    → IsSeenBy front (views_of s.views) → IsSeenBy front (views_of new.views)
seen_stays a s new front r happens was =
    let t = seen_sits was.2 was.1.stands was.4 in
    let p : Part = t.0 in
    let had : IsSeatedIn (views_of s.views) p = (was.0, was.1, was.3, t.1) in
    let goes = lane_goes_on happens had in
    let q : Part = goes.0 in (
      goes.1.0,
      goes.1.1,
      q.seen,
      goes.1.2,
      sits_seen q goes.1.1.stands goes.1.3,
      law.prefix_trans front p.seen q.seen (subst (Begins front) (sym t.2) was.5)
          (seen_goes a s r p q (within r had) goes.2),
    )

pub keeps_seen_lists : (a : State) → KeepsSeenLists a
keeps_seen_lists a s end [] front r leads was = subst (λ (t : Board). IsSeenBy front (views_of t.views)) leads was
keeps_seen_lists a s end (new ∷ more) front r leads was =
    keeps_seen_lists a new end more front leads.1 leads.2 (seen_stays a s new front r leads.0 was)

-- The history.

-- where what is seen is seen still, and what is held begins the history, the history has only grown
pub log_grows : (a : State) (s new : Board) (r : InOneOrder a s) (r' : InOneOrder a new)
    → ((front : List Event) → IsSeenBy front (views_of s.views) → IsSeenBy front (views_of new.views))
    → ((p : Part) (l : List Event) → IsSeatedIn (views_of s.views) p → p.holding ≡ Some l → Begins l r'.history.log)
    → Begins r.history.log r'.history.log
log_grows a s new r r' seen held =
    let log : List Event = r.history.log in
    dite (ℕ_discrete (turn s) 1) (λ out.
    let h = r.history.held out in
    let t = turn_sits log h.0.stands h.2 in
    held t.0 log (r.history.holder, h.0, h.1, t.1) t.2) (λ not. ⊎_elim
    (λ (e : log ≡ []). subst (λ (l : List Event). Begins l r'.history.log) (sym e) (r'.history.log, refl))
    (λ (t : (j : ℕ) × (v : View) × (get_elem? (views_of s.views) j ≡ some v) × HasSeen log v.stands).
    seen_begins_log log r'.history (seen log (t.0, t.1, log, t.2, t.3, law.prefix_self log))) (r.history.longest not))

pub step_grows : {a : State} {s new : Board} (r : InOneOrder a s) (r' : InOneOrder a new) → Happens s new
    → Begins r.history.log r'.history.log
step_grows {a} {s} {new} r r' happens = log_grows a s new r r' (λ front was. seen_stays a s new front r happens was)
    (λ p l had is.
    let goes = lane_goes_on happens had in
    held_goes a new r' p goes.0 l is goes.2 (within r' goes.1))

-- one table has one history
one_log : (a : State) (s : Board) (r r' : InOneOrder a s) → Begins r.history.log r'.history.log
one_log a s r r' = log_grows a s s r r' (λ front was. was)
    (λ p l had is. begins_log l r'.history.log ((within r' had).held l is))

pub only_grows : (a : State) → OnlyGrows a
only_grows a s end [] now leads later =
    subst (λ (t : Board). (x : InOneOrder a t) → Begins now.history.log x.history.log) leads (λ x. one_log a s now x)
    later
only_grows a s end (new ∷ more) now leads later =
    law.prefix_trans now.history.log leads.1.history.log later.history.log (step_grows now leads.1 leads.0)
    (only_grows a new end more leads.1 leads.2 later)

pub sees_one_order : (a : State) → SeesOneOrder a
sees_one_order a s end more front back r leads r' was is =
    let views : List View = views_of end.views in
    either_begins front back r'.history.log
    (seen_begins_log front r'.history (keeps_seen_lists a s end more front r leads was))
    (seen_begins_log back r'.history is)

pub keeps_real_time : (a : State) → KeepsRealTime a
keeps_real_time a s end more front q q' e rest r leads later was at idle there lane mine =
    let stays : StaysSeen front s end = (was, keeps_seen_lists a s end more front r leads was) in
    ⊎_elim (λ (none : q.flight ≡ None). real_time a s end front q q' e rest r later stays at none there lane mine)
    (λ not. collected a s end front q q' e rest r later stays at not there lane mine) idle

pub stays_refused : (a : State) → StaysUnread a → StaysRefused a
stays_refused a unread s end more front serial q q' e rest r leads later was revoked at idle there lane mine =
    let stays : StaysSeen front s end = (was, keeps_seen_lists a s end more front r leads was) in
    let word : ℕ = get_or s.words (cell_of q.lane) 0 in
    let slot = get_elem? s.homes (cell_of q.lane) in
    let here = view_at s.views at.0 at.2 in
    let k = law.own at.0 here r.history in
    let not : word ≢ 3 = ⊎_elim (λ (none : q.flight ≡ None). idle_word word slot (r.cell q.lane)
    (law.empty_if_idle q r.history.log (r.cell q.lane) none k.fits) (r.cells q.lane)) (λ (n : word ≢ 3). n) idle in
    refuses_revoked a unread s end front serial q q' e rest r later stays revoked at not there lane mine
