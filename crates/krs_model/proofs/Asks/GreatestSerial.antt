-- Serials are at most 2147483647: no accepted ask gives one above it.
use Rattle.std.proofs.Common.{◌≡◌, Ok, ℕ}
use Rattle.krs_types.specs.declared.ask.{Answer.Answer, Op.Op}
use Rattle.krs_model.specs.{Sound.AllPlaced, State.State, Step.outcome_of, Sweep.IsSweep, Table.IsBelow}
use Rattle.krs_model.proofs.Asks.{Effects.effect_of, LaterByStep.effect_follows, Laws.law_of, NewSerials.few_follow}
use Rattle.krs_model.proofs.Tables.Changes.{below_filter}

-- the keys that an accepted ask leaves before the sweep have serials up to the last
pub mid_few :
    (s mid : State) (client context : ℕ) (op : Op) (answer : Answer)
    → outcome_of s client context op ≡ Ok (mid, answer) → AllPlaced s → IsBelow s.keys s.next_serial
    → IsBelow s.keys 2147483648 → IsBelow mid.keys 2147483648
mid_few s mid client context op answer meant placed below few =
    let effect = effect_of s client context op mid answer meant in
    few_follow s mid (effect_follows s client context op mid answer effect)
    (((law_of s client context op).fares.meets mid answer meant).counts placed) below few

-- and so have those that the sweep leaves
pub few_swept :
    (mid swept : State) → IsSweep mid swept → IsBelow mid.keys 2147483648 → IsBelow swept.keys 2147483648
few_swept mid swept sweep few = below_filter (λ e. sweep.kept e.0) mid.keys swept.keys 2147483648 sweep.keys few
