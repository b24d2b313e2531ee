-- The sweep with the payloads hidden: it looks at links alone.
use Rattle.std.proofs.Common.{◌∙◌, ◌≡◌, ap, arith, filter, is_some, IsSome, List, refl, sym, ℕ}
use Rattle.std.proofs.lemmas.Bool.Decides.{nat_tests}
use Rattle.krs_model.specs.{Hiding.{blind, blind_keys, Hiding}, Levels.is_in, State.{Key, State}}
use Rattle.krs_model.specs.{Sweep.{Attached, IsHeld, IsSweep, Linked, live_watches}, Table.{at, Table}}
use Rattle.krs_model.proofs.Hiding.{Keys.{at_blind, filter_blind, seen}, Links.same_links_at}
use Rattle.krs_model.proofs.Sound.Changes.{was_mapped}
use Rattle.std.proofs.lemmas.Grind.{common_steps}

held_to : (hide : Hiding) (keys : Table Key) (attached : List ℕ) (k : ℕ) → IsHeld keys attached k
    → IsHeld (blind_keys hide keys) attached k
held_to hide keys attached _ (Attached k i) = Attached k i
held_to hide keys attached _ (Linked j k held i) =
    Linked j k (held_to hide keys attached j held) (ap (is_in k) (same_links_at hide keys j) ∙ i)

held_from : (hide : Hiding) (keys : Table Key) (attached : List ℕ) (k : ℕ) → IsHeld (blind_keys hide keys) attached k
    → IsHeld keys attached k
held_from hide keys attached _ (Attached k i) = Attached k i
held_from hide keys attached _ (Linked j k held i) =
    Linked j k (held_from hide keys attached j held) (ap (is_in k) (sym (same_links_at hide keys j)) ∙ i)

there_from : (hide : Hiding) (keys : Table Key) (k : ℕ) → IsSome (at (blind_keys hide keys) k) → IsSome (at keys k)
there_from hide keys k h = grind (arith, common_steps, was_mapped, at_blind)

pub same_there : (hide : Hiding) (keys : Table Key) (k : ℕ)
    → is_some (at (blind_keys hide keys) k) ≡ is_some (at keys k)
same_there hide keys k = seen hide keys is_some k (λ v. refl)

pub same_live : (hide : Hiding) (keys : Table Key) (watches : List ((ℕ × ℕ) × ℕ))
    → live_watches (blind_keys hide keys) watches ≡ live_watches keys watches
same_live hide keys watches = λ i. filter (λ w. same_there hide keys w.0.0 i) watches

pub sweep_blind : (hide : Hiding) (old new : State) → IsSweep old new → IsSweep (blind hide old) (blind hide new)
sweep_blind hide old new sweep = grind (arith, nat_tests, held_to, there_from, held_from, filter_blind, same_live)
