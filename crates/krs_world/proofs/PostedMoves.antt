-- What the steps of posted calls come to on the machine as it is kept.
use Rattle.std.proofs.Common.{[], ⊎_elim, ◌++◌, ◌+◌, ◌<◌, ◌∙◌, ◌∷◌, ◌≡◌, ◌≢◌, ◌≤◌, ◌⊎◌, ap, arith, false, length}
use Rattle.std.proofs.Common.{length-append, length-take-le, List, None, Option, refl, Result, set, Some, subst, suc}
use Rattle.std.proofs.Common.{sym, take, zero, ℕ}
use lib.ListN.{get_elem?}
use mathlib.Core.Option.{some, some-injective, some-ne-none}
use Rattle.krs_types.specs.declared.{ask.Ask.Ask, errno.Errno.Errno, event.Event.Event}
use Rattle.krs_model.specs.{History.event_of, Lists.Begins, State.{starting_at, State}}
use Rattle.krs_world.specs.{History.Fits, Kept.{answered_cell, cell_by, IsKept, IsSlotOf, known_by, lane_cell}}
use Rattle.krs_world.specs.{Kept.{part_by, world_of}, Knowing.{collected, events_of, one, posted}}
use Rattle.krs_world.specs.{World.{cell_of, IsReady, IsUnanswered, StepsAs, World}, declared.lane.Lane.Lane}
use Rattle.krs_world.specs.declared.{lane.Slot.Slot, step.Kind.{Kind, TheVariants.{Collect, CollectFound, Post}}}
use Rattle.krs_world.specs.declared.view.{Cell.Cell, Part.Part, Service.Service}
use Rattle.krs_world.proofs.KeptHistory.{begins_further, begins_short, begins_take, history_kept, kept_history}
use Rattle.krs_world.proofs.{KeptHistory.recells, Lanes.{events_prefix, own_event, prefix_both, set_else}}
use Rattle.krs_world.proofs.{KeptLanes.lane_is, Moves.{seat_is, stays, still}, Slots.slot_answered}
use Rattle.krs_world.proofs.Worlds.{cell_at, get_map}
use Rattle.krs_types.specs.declared.ask.Answer as answer
use Rattle.krs_world.specs.declared.lane.Slot.TheVariants as slots
use Rattle.krs_world.specs.declared.view.Cell.TheVariants as cells

take_next : {A : Type 0} (l : List A) (n : ℕ) (e : A) → get_elem? l n ≡ some e → take (suc n) l ≡ take n l ++ e ∷ []
take_next [] n e is = absurd (some-ne-none e (sym is))
take_next (x ∷ xs) zero e is = ap (λ (y : _). y ∷ []) (some-injective x e is)
take_next (x ∷ xs) (suc n) e is = ap (λ (l : List _). x ∷ l) (take_next xs n e is)

-- a list that begins another, and is no longer than its first so many, begins these
shorter : {A : Type 0} (xs ys : List A) (n : ℕ) → Begins xs ys → length xs ≤ n → Begins xs (take n ys)
shorter [] ys n b le = (take n ys, refl)
shorter (x ∷ xs) [] n b le = absurd (let e = b.1 in cc)
shorter (x ∷ xs) (y ∷ ys) zero b le = absurd (omega arith)
shorter (x ∷ xs) (y ∷ ys) (suc n) b le = let e = b.1 in let head : x ≡ y = cc in let rest : xs ++ b.0 ≡ ys = cc in
    let t = shorter xs ys n (b.0, rest) (omega arith) in (t.0, λ j. head j ∷ t.1 j)

unanswered : (serving : Option Service) (log : List Event) (s : Slot) → ((n : ℕ) → s ≡ slots.Answered n → ⊥)
    → IsUnanswered (cell_by log serving s)
unanswered serving log slots.Empty not = tt
unanswered serving log (slots.Posted m ask) not = tt
unanswered None log slots.Serving not = tt
unanswered (Some s) log slots.Serving not = tt
unanswered serving log (slots.Answered n) not = absurd (not n refl)

module _ {store : State} {out : Option ℕ} {serving : Option Service} {log : List Event} {lanes : List Lane} (i : ℕ)
    {x : Lane} (k : IsKept store out serving log lanes) (at : get_elem? lanes i ≡ some x) where
  abbrev w : World
  w = world_of store out serving log lanes

  abbrev p : Part
  p = part_by log serving x

  -- the cell of the lane
  pub cell_is : (s : Slot) → x.slot ≡ s → get_elem? w.cells i ≡ some (cell_by log serving s)
  cell_is s is = get_map (lane_cell log serving) lanes i x at ∙ ap (λ (z : Slot). some (cell_by log serving z)) is

  -- the lane of the call that is served is another one
  served_else : (y : Lane) → (x.slot ≡ slots.Serving → ⊥) → (s : Service) → serving ≡ Some s
      → (l : Lane) × (get_elem? (set lanes i y) s.lane ≡ some l) × (l.slot ≡ slots.Serving)
  served_else y not s is = let t = k.served s is in
      let away : s.lane ≢ i = λ here.
      let one : t.0 ≡ x = some-injective t.0 x (sym t.1 ∙ (ap (get_elem? lanes) here ∙ at)) in
      not (ap (λ (z : Lane). z.slot) (sym one) ∙ t.2) in
      (t.0, set_else lanes i s.lane y away ∙ t.1, t.2)

  abbrev pub Changed : Lane → Kind → Type 0
  Changed y kind = IsKept store out serving log (set lanes i y)
      × StepsAs w i p kind (world_of store out serving log (set lanes i y))

  -- post
  pub posts : (m : ℕ) (ask : Ask) → x.slot ≡ slots.Empty
      → Changed record x { after = x.seen; slot = slots.Posted m ask; done = false } (Post m ask)
  posts m ask idle =
      let y : Lane = record x { after = x.seen; slot = slots.Posted m ask; done = false } in
      let o = k.each i x at in
      let calls : events_of x.lane log ≡ events_of x.lane (known_by log x.slot) =
      ap (λ (s : Slot). events_of x.lane (known_by log s)) (sym idle) in
      let part : part_by log serving y ≡ posted p m ask = λ j. record (posted p m ask) { mine = calls j } in
      stays i k at y (Post m ask) (λ free. still i k at x.seen y refl (omega arith) o.seen free)
      (lane_is o.number o.seen o.base o.seen o.holds tt)
      (served_else y (λ is. let no : slots.Empty ≡ slots.Serving = sym idle ∙ is in cc)) (
        cell_is slots.Empty idle,
        recells store out serving log lanes i y (posted p m ask) (cells.Posted m ask) part refl,
      )

  -- the event of an answered call is the last of its lane
  answered_fits : (place : ℕ) (e : Event) → x.slot ≡ slots.Answered place → get_elem? log place ≡ some e → e.lane ≡ i
      → events_of i log ≡ events_of i (take place log) ++ e ∷ []
  answered_fits place e is there mine =
      let o = k.one.history.each i (one (starting_at 3) p) (get_map (one (starting_at 3)) w.seats i p
      (get_map (part_by log serving) lanes i x at)) in
      let number : x.lane ≡ i = (k.each i x at).number in
      let cell : cell_of w.cells x.lane ≡ cells.Answered e.moment e.ask e.reply =
      ap (cell_of w.cells) number ∙ (cell_at w.cells i (cell_by log serving (slots.Answered place))
      (cell_is (slots.Answered place) is) ∙ ap answered_cell there) in
      let fits : Fits log p (cells.Answered e.moment e.ask e.reply) =
      subst (λ (l : List Event). Fits l p (cells.Answered e.moment e.ask e.reply)) k.whole
      (subst (Fits k.one.history.log p) cell o.fits) in
      let known : known_by log x.slot ≡ take place log = ap (known_by log) is in
      let same : event_of x.lane e.moment e.ask e.reply ≡ e = λ j. record e { lane = (number ∙ sym mine) j } in
      ap (λ (n : ℕ). events_of n log) (sym number) ∙ (fits.2 ∙ (λ j. events_of (number j) (known j) ++ same j ∷ []))

  -- what a lane that may collect its reply has seen
  collected_has : (place n : ℕ) (e : Event) → x.slot ≡ slots.Answered place → get_elem? log place ≡ some e
      → e.lane ≡ i → place < n → events_of i (take n log) ≡ events_of i (take place log) ++ e ∷ []
  collected_has place n e is there mine lt =
      let next : take (suc place) log ≡ take place log ++ e ∷ [] = take_next log place e there in
      let begun : events_of i (take (suc place) log) ≡ events_of i (take place log) ++ e ∷ [] =
      ap (events_of i) next ∙ own_event i (take place log) e mine in
      prefix_both (events_of i (take n log)) (events_of i (take place log) ++ e ∷ [])
      (subst (Begins (events_of i (take n log))) (answered_fits place e is there mine)
      (events_prefix i (take n log) log (begins_take n log)))
      (subst (λ (l : List Event). Begins l (events_of i (take n log))) begun
      (events_prefix i (take (suc place) log) (take n log) (begins_further (suc place) n log (omega arith))))

  -- the event that an answered slot names
  pub named : (place : ℕ) → x.slot ≡ slots.Answered place → (e : Event) × (get_elem? log place ≡ some e) × (e.lane ≡ i)
  named place is = subst (IsSlotOf serving log i) is (k.each i x at).slot

  -- collect
  pub collects : (place n : ℕ) → x.slot ≡ slots.Answered place → place < n → x.seen ≤ n → n ≤ length log
      → Changed record x { seen = n; slot = slots.Empty; done = false } (Collect n)
  collects place n is lt more within =
      let y : Lane = record x { seen = n; slot = slots.Empty; done = false } in
      let o = k.each i x at in
      let t = named place is in
      let e : Event = t.0 in
      let own : Event = event_of i e.moment e.ask e.reply in
      let same : e ≡ own = λ j. record e { lane = t.2 j } in
      let known : events_of x.lane (known_by log x.slot) ≡ events_of i (take place log) =
      λ j. events_of (o.number j) (ap (known_by log) is j) in
      let mine : events_of x.lane log ≡ p.mine ++ own ∷ [] = ap (λ (m : ℕ). events_of m log) o.number
      ∙ (answered_fits place e is t.1 t.2 ∙ (λ j. sym known j ++ same j ∷ [])) in
      let part : part_by log serving y ≡ collected p (take n log) own =
      λ j. record (collected p (take n log) own) { mine = mine j } in
      let ready : IsReady w i p n = record {
        moment = e.moment;
        ask = e.ask;
        reply = e.reply;
        log = log;
        seen = take n log;
        cell = cell_is (slots.Answered place) is ∙ ap (λ (c : Cell). some c) (ap answered_cell t.1);
        history = kept_history k;
        more = begins_further x.seen n log more;
        begins = begins_take n log;
        size = length-take-le n log within;
        has = collected_has place n e is t.1 t.2 lt ∙ (λ j. sym known j ++ same j ∷ []);
      } in
      stays i k at y (Collect n) (λ free. still i k at n y refl more within free)
      (lane_is o.number within o.base o.after o.holds tt)
      (served_else y (λ no. let never : slots.Answered place ≡ slots.Serving = sym is ∙ no in cc))
      (ready, recells store out serving log lanes i y (collected p (take n log) own) cells.Empty part refl)

  -- collect, found otherwise
  pub finds : ((n : ℕ) → x.slot ≡ slots.Answered n → ⊥) → StepsAs w i p CollectFound w
  finds not = (
    subst IsUnanswered (sym (cell_at w.cells i (lane_cell log serving x)
        (get_map (lane_cell log serving) lanes i x at))) (unanswered serving log x.slot not),
    refl,
  )

  -- Steps that aren't possible.

  -- the slot that a reply was found in
  pub answered_slot : (m : ℕ) (ask : Ask) (r : Result answer.Answer Errno)
      → get_elem? w.cells i ≡ some (cells.Answered m ask r) → (n : ℕ) × (x.slot ≡ slots.Answered n)
  answered_slot m ask r e = slot_answered serving log x.slot m ask r
      (some-injective (lane_cell log serving x) (cells.Answered m ask r)
      (sym (get_map (lane_cell log serving) lanes i x at) ∙ e))

  pub no_reply : (n : ℕ) → ((place : ℕ) → x.slot ≡ slots.Answered place → ⊥) → (q : Part) (other : World)
      → get_elem? w.seats i ≡ some q → StepsAs w i q (Collect n) other → ⊥
  no_reply n not q other e steps = let h = steps.0 in let t = answered_slot h.moment h.ask h.reply h.cell in not t.0 t.1

  pub no_collect : (place n : ℕ) → x.slot ≡ slots.Answered place
      → (n ≤ place) ⊎ ((n < x.seen) ⊎ (length log < n)) → (q : Part) (other : World)
      → get_elem? w.seats i ≡ some q → StepsAs w i q (Collect n) other → ⊥
  no_collect place n is outside q other e steps =
      let h = steps.0 in
      let whole : h.log ≡ log = history_kept k h.log h.history in
      let part : q ≡ p = seat_is i k at q e in
      let seen : length q.seen ≡ x.seen = ap (λ (z : Part). length z.seen) part
      ∙ length-take-le x.seen log (k.each i x at).seen in
      let below : length q.seen ≤ length h.seen = begins_short q.seen h.seen h.more in
      let above : length h.seen ≤ length h.log = begins_short h.seen h.log h.begins in
      let all : length h.log ≡ length log = ap length whole in
      let size : length h.seen ≡ n = h.size in
      ⊎_elim (λ (le : n ≤ place).
      let beginning : Begins h.seen (take place log) = shorter h.seen log place (subst (Begins h.seen) whole h.begins)
      (omega arith) in
      let few : length (events_of i h.seen) ≤ length (events_of i (take place log)) =
      begins_short (events_of i h.seen) (events_of i (take place log))
      (events_prefix i h.seen (take place log) beginning) in
      let number : x.lane ≡ i = (k.each i x at).number in
      let mine : q.mine ≡ events_of i (take place log) = ap (λ (z : Part). z.mine) part
      ∙ (λ j. events_of (number j) (ap (known_by log) is j)) in
      let many : length (events_of i h.seen) ≡ length (events_of i (take place log)) + 1 =
      ap length (h.has ∙ ap (λ (l : List Event). l ++ event_of i h.moment h.ask h.reply ∷ []) mine)
      ∙ length-append (events_of i (take place log)) (event_of i h.moment h.ask h.reply ∷ []) in
      omega arith)
      (λ more. ⊎_elim (λ (lt : n < x.seen). omega arith) (λ (lt : length log < n). omega arith) more) outside

  pub no_finds : (place : ℕ) → x.slot ≡ slots.Answered place → (q : Part) (other : World)
      → get_elem? w.seats i ≡ some q → StepsAs w i q CollectFound other → ⊥
  no_finds place is q other e steps = let t = named place is in
      let cell : cell_of w.cells i ≡ cells.Answered t.0.moment t.0.ask t.0.reply =
      cell_at w.cells i (cell_by log serving (slots.Answered place)) (cell_is (slots.Answered place) is)
      ∙ ap answered_cell t.1 in
      subst IsUnanswered cell steps.0
