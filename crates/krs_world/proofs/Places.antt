-- The places of the seats: which lane has which, and what a step leaves at them.
use Rattle.std.proofs.Common.{[], ◌++◌, ◌==◌, ◌∙◌, ◌∷◌, ◌≡◌, ◌≢◌, ap, cond, eq-eqb, List, ne_eqb, refl, set, subst, sym}
use Rattle.std.proofs.Common.{arith, ℕ}
use lib.ListN.{get_elem?}
use mathlib.Core.{Logic.dite, Option.{some, some-injective}}
use native.Mathlib.Decide.{ℕ_discrete}
use Rattle.krs_world.specs.History.{IsDealing, IsSeated, StandsFor}
use Rattle.krs_world.specs.declared.view.{Standing.{Standing, TheVariants.Opening}, View.View}
use Rattle.krs_world.proofs.Lanes.{set_at, set_else, snoc_at}
use Rattle.std.proofs.lemmas.Grind.{common_steps}

-- what holds of what the view at a place stands for holds after a step that keeps it
pub place_set : (P : Standing → Type 0) (place : ℕ) (views : List View) (id : ℕ) (v w : View)
    → get_elem? views id ≡ some v → (P v.stands → P w.stands)
    → (x : View) × (get_elem? views place ≡ some x) × P x.stands
    → (x : View) × (get_elem? (set views id w) place ≡ some x) × P x.stands
place_set P place views id v w at go t = dite (ℕ_discrete place id) (λ same. (
  w,
  ap (get_elem? (set views id w)) same ∙ set_at views id w v at,
  go (subst (λ (x : View). P x.stands) (some-injective t.0 v (sym t.1 ∙ (ap (get_elem? views) same ∙ at))) t.2),
)) (λ not. (t.0, set_else views id place w not ∙ t.1, t.2))

pub seated_set : (lane place : ℕ) (views : List View) (id : ℕ) (v w : View) → get_elem? views id ≡ some v
    → (StandsFor lane v.stands → StandsFor lane w.stands) → IsSeated lane place views
    → IsSeated lane place (set views id w)
seated_set lane place views id v w at go t = place_set (StandsFor lane) place views id v w at go t

pub dealing_set : (dealt holder : ℕ) (views : List View) (id : ℕ) (v w : View) → get_elem? views id ≡ some v
    → (v.stands ≡ Opening dealt → w.stands ≡ Opening dealt) → IsDealing dealt holder views
    → IsDealing dealt holder (set views id w)
dealing_set dealt holder views id v w at go t = place_set (λ s. s ≡ Opening dealt) holder views id v w at go t

pub seated_snoc : (lane place : ℕ) (views : List View) (x : View) → IsSeated lane place views
    → IsSeated lane place (views ++ x ∷ [])
seated_snoc lane place views x t = (t.0, snoc_at views place x t.0 t.1, t.2)

pub dealing_snoc : (dealt holder : ℕ) (views : List View) (x : View) → IsDealing dealt holder views
    → IsDealing dealt holder (views ++ x ∷ [])
dealing_snoc dealt holder views x t = (t.0, snoc_at views holder x t.0 t.1, t.2)

-- the seats of lanes, with another for one lane
abbrev pub seated : (ℕ → ℕ) → ℕ → ℕ → ℕ → ℕ
seated seat lane id l = cond (l == lane) id (seat l)

pub seated_here : (seat : ℕ → ℕ) (lane id : ℕ) → seated seat lane id lane ≡ id
seated_here seat lane id = ap (λ b. cond b id (seat lane)) (eq-eqb lane lane refl)

pub seated_else : (seat : ℕ → ℕ) (lane id l : ℕ) → l ≢ lane → seated seat lane id l ≡ seat l
seated_else seat lane id l not = ap (λ b. cond b id (seat l)) (ne_eqb l lane not)

-- a lane has a seat again, where one gets another place and all others keep theirs
pub seats_again : (seat : ℕ → ℕ) (lane place l : ℕ) (views : List View) → (l ≡ lane → IsSeated lane place views)
    → (l ≢ lane → IsSeated l (seat l) views) → IsSeated l (seated seat lane place l) views
seats_again seat lane place l views here else = grind (arith, common_steps, seated_here, seated_else)
