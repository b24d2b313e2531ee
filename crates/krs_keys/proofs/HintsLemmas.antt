-- Hints stay right as a serial loses its place.
use Rattle.std.proofs.Common.{◌∙◌, ◌≡◌, ap, cond, List, nat_eq, None, sym, ℕ}
use Rattle.krs_keys.specs.{Hints.{AreHints, Forgets}, Listed.place_of, declared.places.Hint.Hint}
use Rattle.krs_keys.proofs.PlacesLemmas.{other_number}

-- where none is left of the serial, and the others keep their places
pub gone_right : (old new : List Hint) (es ns : List (ℕ × ℕ)) (serial : ℕ) → AreHints old es
    → ((q : ℕ) → place_of ns q ≡ cond (nat_eq serial q) None (place_of es q)) → Forgets old new serial
    → AreHints new ns
gone_right old new es ns serial right gone forgets = λ q hint is.
    let was = forgets q hint is in
    gone q ∙ (ap (λ b. cond b None (place_of es q)) (other_number serial q (λ same. was.0 (sym same)))
    ∙ right q hint was.1)
