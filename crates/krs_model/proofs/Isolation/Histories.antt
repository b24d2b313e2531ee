-- Over whole histories the keys that a uid keeps private it has to itself, reads alone, and nobody else changes.
use Rattle.std.proofs.{Common.{[], ◌∷◌, arith, Bool, false, List, ℕ}, lemmas.Bool.Decides.nat_tests}
use Rattle.krs_types.specs.declared.event.Event.{Event}
use Rattle.krs_model.specs.{Confidentiality.{HasToItself, KeepsPrivate, LeavesAlone, ReadsAlone}, History.IsLegal}
use Rattle.krs_model.specs.{Sound.IsSound, State.{starting_at, State}}
use Rattle.krs_model.proofs.Isolation.{Growth.goes_alone, Stays.step_unchanged, Steps.{none_alone, reads_own}}
use Rattle.krs_model.proofs.Sound.Steps.{start_sound, step_sound}
use Rattle.std.proofs.lemmas.Grind.{common_steps}

-- it is a legal history
pub private_legal :
    (uid : ℕ) (private : ℕ → Bool) (start : State) (events : List Event) (end : State) (last : ℕ → Bool)
    → KeepsPrivate uid private start events end last → IsLegal start events end
unfolding KeepsPrivate IsLegal
private_legal uid private start [] end last keeps = keeps.0
private_legal uid private start (event ∷ events) end last keeps =
    (keeps.0, keeps.2, private_legal uid keeps.1 keeps.0 events end last keeps.4)

-- over a whole history
pub withheld_alone :
    (uid : ℕ) (private : ℕ → Bool) (start : State) (events : List Event) (end : State) (last : ℕ → Bool) → IsSound start
    → HasToItself uid private start → KeepsPrivate uid private start events end last → IsSound end
    × HasToItself uid last end
unfolding KeepsPrivate
withheld_alone uid private start [] end last sound alone held = grind (arith, nat_tests)
withheld_alone uid private start (event ∷ events) end last sound alone held =
    let next = held.0 in
    let after = held.1 in
    withheld_alone uid after next events end last (step_sound start next event sound held.2)
    (goes_alone uid private after start next event sound alone held.2 held.3) held.4

-- no user reads another's keys, unless it was given them
pub keeps_to_itself :
    (uid : ℕ) (private : ℕ → Bool) (start : State) → IsSound start → HasToItself uid private start
    → ReadsAlone uid private start
keeps_to_itself uid private start sound alone before old last held reading end serial m step reads =
    let r = withheld_alone uid private start before old last sound alone held in
    reads_own uid last old end reading serial r.1 m step reads

-- from an empty store on
pub keeps_from_nothing : (uid n : ℕ) → ReadsAlone uid (λ k. false) (starting_at n)
keeps_from_nothing uid n = keeps_to_itself uid (λ k. false) (starting_at n) (start_sound n)
    (none_alone uid (starting_at n))

-- the keys that a uid goes on to have it has to itself
pub end_alone :
    (uid : ℕ) (private last : ℕ → Bool) (start end : State) (events : List Event) → IsSound start
    → HasToItself uid private start → KeepsPrivate uid private start events end last → HasToItself uid last end
end_alone uid private last start end events sound alone held = grind (arith, common_steps, withheld_alone)

-- nobody else changes them, or drops one
pub leaves_alone :
    (uid : ℕ) (private : ℕ → Bool) (start : State) → IsSound start → HasToItself uid private start
    → LeavesAlone uid private start
leaves_alone uid private start sound alone before old last held event new step none =
    grind (arith, common_steps, withheld_alone, step_unchanged)
