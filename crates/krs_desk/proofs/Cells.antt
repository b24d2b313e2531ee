-- A step on the word and the slot of one lane keeps the rule of the table.
use Rattle.std.proofs.Common.{◌+◌, ◌<◌, ◌∙◌, ◌≡◌, ◌≢◌, ◌≤◌, ap, arith, Bool, get_or, get_or-set_other, get_or-set_same}
use Rattle.std.proofs.Common.{length, length-set, List, set, subst, sym, ℕ}
use Rattle.atomic_table.proofs.Lists.{set_else, set_here}
use lib.ListN.{get_elem?}
use mathlib.Core.{Logic.dite, Option.some}
use native.Mathlib.Decide.{ℕ_discrete}
use Rattle.krs_model.specs.State.{State}
use Rattle.krs_world.specs.History.{Known, OneHistory, Shared, Stands}
use Rattle.krs_world.specs.{Knowing.{celled, one}, declared.view.{Cell.Cell, Part.Part, Standing.Standing}}
use Rattle.krs_world.specs.declared.view.{Standing.TheVariants.{One, Opening, Spent, Two}, View.View}
use Rattle.krs_desk.specs.Parts.{IsLaid, IsLaidBy, sat, views_of}
use Rattle.krs_desk.specs.{Rule.{CellIs, InOneOrder, IsAtHome, IsVacant}, declared.token.Sight.Sight}
use Rattle.krs_desk.proofs.TurnSteps.{laid_set, sat_lies, Slot, still_housed, Table, turn, view_at, views_set}
use Rattle.krs_world.proofs.Keeping as law
use mathlib.Core.Option as maybe

-- a lane that is laid for another token is another lane
apart_of :
    (s : Shared) (j id : ℕ) (p : Part) (st : Standing) (laid : Bool) (lane : ℕ) → Known s id p → Stands s j st → j ≢ id
    → IsLaidBy lane laid st → lane ≢ p.lane
apart_of s j id p Spent laid lane k g not is = absurd is
apart_of s j id p (One q) laid lane k g not is = λ same. not (sym g.at ∙ (ap s.seat (is.1 ∙ same) ∙ k.at))
apart_of s j id p (Two q r) laid lane k g not is = absurd is
apart_of s j id p (Opening n) laid lane k g not is =
    λ same. let le : n ≤ lane = is in let all : n
    ≡ s.dealt = g.2 in let given : p.lane < s.dealt = k.given in omega arith

pub lies_apart :
    (a : State) (s : Table) (r : InOneOrder a s) (id : ℕ) (p : Part) → get_elem? (views_of s.views) id ≡ some (one a p)
    → (j lane : ℕ) (v : Sight) → j ≢ id → get_elem? s.views j ≡ some v → IsLaid lane v → lane ≢ p.lane
lies_apart a s r id p at j lane v not e is =
    let views : List View = views_of s.views in
    apart_of (law.shares r.history) j id p v.view.stands v.laid lane
    (r.history.each id (one a p) at) (r.history.each j v.view (view_at s.views j e)) not is

-- a step on the word and the slot of a lane, for which no other token is laid a slot
pub moved_cell :
    (a : State) (s : Table) (r : InOneOrder a s) (lane n : ℕ) (x : Slot) (c : Cell) (id : ℕ) (b : State) (q : Part)
    → lane + 1 < length s.homes → q.lane + 1 < length s.words → CellIs n (some x) c
    → ((j l : ℕ) (v : Sight) → j ≢ id → get_elem? s.views j ≡ some v → IsLaid l v → l ≢ lane)
    → OneHistory a (turn s) r.home (celled r.cell lane c) (set (views_of s.views) id (one b q)) → InOneOrder a
    record { words = set s.words (lane + 1) n; homes = set s.homes (lane + 1) x; views = set s.views id (sat b q) }
moved_cell a s r lane n x c id b q room fits is apart h = let wide = r.wide in
    let homes' = set s.homes (lane + 1) x in let words' : List ℕ = set s.words (lane + 1) n in
    let P : ℕ → Type 0 = IsVacant homes' (celled r.cell lane c) in record {
      wide = length-set s.words (lane + 1) n ∙ (r.wide ∙ sym (length-set s.homes (lane + 1) x));
      any = subst (λ (k : ℕ). 0 < k) (sym (length-set s.words (lane + 1) n)) r.any;
      home = r.home;
      slot = subst (IsAtHome r.home) (sym (set_else s.homes (lane + 1) 0 x (λ e. omega arith))) r.slot;
      cell = celled r.cell lane c;
      cells = λ l. dite (ℕ_discrete l lane)
          (λ e. subst (λ (k : ℕ). CellIs (get_or words' (k + 1) 0) (get_elem? homes' (k + 1)) (celled r.cell lane c k))
          (sym e) (subst (CellIs (get_or words' (lane + 1) 0) (get_elem? homes' (lane + 1)))
          (sym (law.celled_here r.cell lane c)) (subst (λ (z : ℕ × maybe.Option Slot). CellIs z.0 z.1 c) (λ i. (
            sym (get_or-set_same s.words (lane + 1) n 0 (omega arith)) i,
            sym (set_here s.homes (lane + 1) x room) i,
          )) is))) (λ not. subst (CellIs (get_or words' (l + 1) 0) (get_elem? homes' (l + 1)))
          (sym (law.celled_else r.cell lane l c not)) (subst (λ (z : ℕ × maybe.Option Slot). CellIs z.0 z.1 (r.cell l))
          (λ i. (
            sym (get_or-set_other s.words (lane + 1) (l + 1) n 0 (λ e. not (omega arith))) i,
            sym (set_else s.homes (lane + 1) (l + 1) x (λ e. not (omega arith))) i,
          )) (r.cells l)));
      laid = laid_set P s.views id (sat b q) (λ l on. sat_lies P b q l on)
          (λ j l v not e on. let other : l ≢ lane = apart j l v not e on in let was = r.laid j l v e on in (
            law.celled_else r.cell lane l c other ∙ was.0,
            λ lt. set_else s.homes (lane + 1) (l + 1) x (λ e. other (omega arith))
                ∙ was.1 (subst (λ (k : ℕ). l + 1 < k) (length-set s.homes (lane + 1) x) lt),
          ));
      housed = still_housed s (lane + 1) n id (sat b q) fits r.housed;
      history = subst (λ (z : ℕ × List View). OneHistory a z.0 r.home (celled r.cell lane c) z.1) (λ i. (
        sym (get_or-set_other s.words (lane + 1) 0 n 0 (λ e. omega arith)) i,
        sym (views_set s.views id (sat b q)) i,
      )) h;
    }
