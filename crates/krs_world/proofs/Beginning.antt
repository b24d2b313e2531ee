-- A machine that begins has one history, and so has it after every list of steps.
use Rattle.std.proofs.Common.{[], ⊎_elim, ◌++◌, ◌+◌, ◌<◌, ◌∙◌, ◌∷◌, ◌≡◌, ap, arith, false, inl, inr, length}
use Rattle.std.proofs.Common.{length-append, List, map, None, refl, subst, suc, sym, true, zero, ℕ}
use lib.ListN.{get_elem?}
use mathlib.Core.Option.{some, some-ne-none}
use Rattle.krs_model.specs.State.{starting_at, State}
use Rattle.krs_model.proofs.History.Legal.{legal_none}
use Rattle.krs_world.specs.{History.{Known, Shared, Stands}, Kept.AreFreshLanes}
use Rattle.krs_world.specs.Kept.{cell_by, IsFresh, IsKept, IsSlotOf, lane_cell, part_by, world_of}
use Rattle.krs_world.specs.{Knowing.{fresh, one}, World.{begun, cell_of, empty_cells, Free, fresh_lanes}}
use Rattle.krs_world.specs.{World.{IsOneHistory, new_world, StaysOne, World}, declared.lane.{Lane.Lane}}
use Rattle.krs_world.specs.declared.view.{Cell.TheVariants.Empty, Part.Part, View.View}
use Rattle.krs_world.proofs.{Lanes.{at_snoc, known_is, one_history}, Worlds.{get_map, of_map, prefix_none, runs_keep}}
use Rattle.krs_world.specs.declared.lane.Slot.TheVariants as slots
use Rattle.std.proofs.lemmas.Grind.{common_steps}

cells_empty : (k l : ℕ) → cell_of (empty_cells k) l ≡ Empty
cells_empty zero l = refl
cells_empty (suc k) zero = refl
cells_empty (suc k) (suc l) = cells_empty k l

fresh_at : (n k j : ℕ) (p : Part) → get_elem? (fresh_lanes n k) j ≡ some p → (fresh (n + j) ≡ p) × (j < k)
fresh_at n zero j p e = absurd (some-ne-none p (sym e))
fresh_at n (suc k) zero p e = grind (arith, common_steps)
fresh_at n (suc k) (suc j) p e = grind (arith, common_steps, fresh_at (n + 1) k j p e)

pub fresh_here : (lanes j : ℕ) (p : Part) → get_elem? (fresh_lanes 0 lanes) j ≡ some p → (fresh j ≡ p) × (j < lanes)
fresh_here lanes j p e = grind (arith, common_steps, fresh_at)

fresh_in : (n k j : ℕ) → j < k → get_elem? (fresh_lanes n k) j ≡ some (fresh (n + j))
fresh_in n zero j lt = absurd (omega arith)
fresh_in n (suc k) zero lt = let same : n ≡ n + 0 = omega arith in ap (λ (m : ℕ). some (fresh m)) same
fresh_in n (suc k) (suc j) lt = grind (arith, common_steps, fresh_in (n + 1) k j (omega arith))

pub fresh_there : (lanes j : ℕ) → j < lanes → get_elem? (fresh_lanes 0 lanes) j ≡ some (fresh j)
fresh_there lanes j lt = grind (arith, common_steps, fresh_in)

-- what the seats of fresh lanes share
abbrev all_fresh : State → ℕ → Shared
all_fresh a lanes = record {
  witness = record { log = []; last = a; holder = 0; dealt = lanes; seat = λ l. l; serving = None };
  turn = 0;
  cell = cell_of (empty_cells lanes);
}

known : (a : State) (lanes j : ℕ) → j < lanes → Known (all_fresh a lanes) j (fresh j)
known a lanes j lt = grind (arith, common_steps, known_is, cells_empty)

pub begins_world : (a : State) (lanes : ℕ) → IsOneHistory (begun a lanes)
begins_world a lanes = record {
  history = one_history record {
    witness = (all_fresh a lanes).witness;
    store = record { legal = legal_none a; at_home = λ _. refl; away = λ n. absurd (omega arith) };
    words = record { word = omega arith; young = λ _. refl; unserved = λ _. refl };
    cells = record {
      undealt = λ l _. (cells_empty lanes l, refl);
      serves = λ l m ask is. absurd (let no = sym (cells_empty lanes l) ∙ is in cc);
      served = λ s is. absurd cc;
    };
    seats = record {
      held = λ n. absurd (omega arith);
      longest = λ _. inl refl;
      opener = λ n. absurd (omega arith);
      seated = λ l lt. (
        one a (fresh l),
        get_map (one a) (fresh_lanes 0 lanes) l (fresh l) (fresh_there lanes l lt),
        refl,
      );
      openings = λ j v e. let m = of_map (one a) (fresh_lanes 0 lanes) j v e in
          inr (ap (λ (w : View). w.opening) (sym m.2));
      each = λ j v e. let m = of_map (one a) (fresh_lanes 0 lanes) j v e in let t = fresh_here lanes j m.0 m.1 in
          subst (λ (w : View). Stands (all_fresh a lanes) j w.stands) (ap (one a) t.0 ∙ m.2) (known a lanes j t.1);
    };
  };
  whole = (
    inl refl,
    λ j p e. let t = fresh_here lanes j p e in
        prefix_none p.seen [] (ap (λ (q : Part). q.seen) (sym t.0)),
  );
  lanes = λ j p e. let t = fresh_here lanes j p e in ap (λ (q : Part). q.lane) (sym t.0);
}

pub always_one : StaysOne
always_one opening lanes steps end r = runs_keep (begun opening lanes) steps end (begins_world opening lanes) r

begins_whole : (lanes : ℕ) → (o : IsOneHistory (new_world lanes)) × (o.history.log ≡ [])
unfolding begins_world
begins_whole lanes = (begins_world (starting_at 3) lanes, refl)

-- what the seat of a lane that nothing was done for knows
fresh_part : (j : ℕ) (l : Lane) → IsFresh j l → part_by [] None l ≡ fresh j
fresh_part j l f = grind (arith, common_steps)

fresh_parts : (n : ℕ) (lanes : List Lane) → ((j : ℕ) (l : Lane) → get_elem? lanes j ≡ some l → IsFresh (n + j) l)
    → map (part_by [] None) lanes ≡ fresh_lanes n (length lanes)
fresh_parts n [] all = refl
fresh_parts n (x ∷ xs) all =
    let same : n + 0 ≡ n = omega arith in
    let head : part_by [] None x ≡ fresh n = fresh_part (n + 0) x (all 0 x refl) ∙ ap fresh same in
    let more = fresh_parts (n + 1) xs (λ j l e. let on : n + suc j ≡ (n + 1) + j = omega arith in
    subst (λ (m : ℕ). IsFresh m l) on (all (suc j) l e)) in λ i. head i ∷ more i

fresh_cells : (lanes : List Lane) → ((j : ℕ) (l : Lane) → get_elem? lanes j ≡ some l → l.slot ≡ slots.Empty)
    → map (lane_cell [] None) lanes ≡ empty_cells (length lanes)
fresh_cells [] all = refl
fresh_cells (x ∷ xs) all =
    let head : lane_cell [] None x ≡ Empty = ap (cell_by [] None) (all 0 x refl) in
    let more = fresh_cells xs (λ j l e. all (suc j) l e) in λ i. head i ∷ more i

-- a machine that is made of fresh lanes
pub new_is : (lanes : List Lane) (n : ℕ) → AreFreshLanes n lanes
    → world_of (starting_at 3) None None [] lanes ≡ new_world n
new_is lanes n f =
    let parts : map (part_by [] None) lanes ≡ fresh_lanes 0 (length lanes) =
    fresh_parts 0 lanes (λ j l e. let same : j ≡ 0 + j = omega arith in
    subst (λ (m : ℕ). IsFresh m l) same (f.1 j l e)) in
    let cells : map (lane_cell [] None) lanes ≡ empty_cells (length lanes) =
    fresh_cells lanes (λ j l e. (f.1 j l e).slot) in
    λ i. record {
      opening = starting_at 3;
      turn = Free (starting_at 3);
      cells = (cells ∙ ap empty_cells f.0) i;
      seats = (parts ∙ ap (fresh_lanes 0) f.0) i;
    }

pub new_kept : (lanes : List Lane) (n : ℕ) → AreFreshLanes n lanes → IsKept (starting_at 3) None None [] lanes
new_kept lanes n f = let b : (o : IsOneHistory (world_of (starting_at 3) None None [] lanes)) × (o.history.log ≡ []) =
    subst (λ (w : World). (o : IsOneHistory w) × (o.history.log ≡ [])) (sym (new_is lanes n f)) (begins_whole n) in
    record {
      one = b.0;
      whole = b.1;
      legal = legal_none (starting_at 3);
      each = λ j l e. let t = f.1 j l e in let seen = t.seen in let base = t.base in let after = t.after in record {
        number = t.lane;
        seen = omega arith;
        base = omega arith;
        after = omega arith;
        holds = λ held. absurd (let no : false ≡ true = sym t.holding ∙ held in cc);
        slot = subst (IsSlotOf None [] j) (sym t.slot) tt;
      };
      idle = λ _. refl;
      served = λ s is. absurd cc;
    }

-- one lane more
pub fresh_more : (lanes : List Lane) (n : ℕ) (l : Lane) → AreFreshLanes n lanes → IsFresh n l
    → AreFreshLanes (n + 1) (lanes ++ l ∷ [])
fresh_more lanes n l f is = grind (arith, common_steps, length-append, ⊎_elim, at_snoc)
