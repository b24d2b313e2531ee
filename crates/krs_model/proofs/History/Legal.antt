-- Legal histories: none, one event, and one after the other.
use Rattle.std.proofs.Common.{[], ◌++◌, ◌∷◌, List, refl, subst, sym}
use Rattle.krs_types.specs.declared.event.Event.{Event}
use Rattle.krs_model.specs.{History.IsLegal, State.State, Step.Step}

pub legal_none : (s : State) → IsLegal s [] s
unfolding IsLegal
legal_none s = refl

pub legal_one : (s end : State) (event : Event) → Step s event end → IsLegal s (event ∷ []) end
unfolding IsLegal
legal_one s end event step = (end, step, refl)

pub legal_both :
    (a b c : State) (xs ys : List Event) → IsLegal a xs b → IsLegal b ys c → IsLegal a (xs ++ ys) c
unfolding IsLegal
legal_both a b c [] ys p q = subst (λ (s : State). IsLegal s ys c) (sym p) q
legal_both a b c (x ∷ xs) ys p q = (p.0, p.1, legal_both p.0 b c xs ys p.2 q)

-- one event more at the end
pub legal_more :
    (a b c : State) (events : List Event) (event : Event) → IsLegal a events b → Step b event c
    → IsLegal a (events ++ event ∷ []) c
legal_more a b c events event legal step =
    legal_both a b c events (event ∷ []) legal (legal_one b c event step)
