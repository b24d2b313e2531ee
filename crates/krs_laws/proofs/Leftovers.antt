-- Nothing is left where nothing is attached.
use Rattle.std.proofs.Common.{[], ap, Bool, cond, is_some, List, Option, refl, Some, subst, sym, true≢false, ℕ, ◌++◌}
use Rattle.std.proofs.Common.{◌∙◌, ◌∷◌, ◌≡◌}
use Rattle.krs_types.specs.declared.context.Context.{Context}
use Rattle.krs_model.specs.{Belonging.HasNothing, Orderly.{Each, IsWatch}, Queues.Watch, Sound.IsSound, State.Key}
use Rattle.krs_model.specs.{State.{Queue, State}, Sweep.{Attached, context_roots, IsHeld, Linked, process_roots}}
use Rattle.krs_model.specs.{Sweep.{roots, uid_roots}, Table.{at, Table}}
use Rattle.krs_model.proofs.{Sound.Steps.legal_sound, Tables.Changes.is_at_same}
use Rattle.krs_laws.specs.Emptied.{AreEmptiedInTheEnd, IsEmpty}
use Rattle.std.proofs.Common.{arith}
use Rattle.std.proofs.lemmas.Grind.{common_steps}

-- a table with nothing at any number is empty
none_there : {X : Type 0} (es : Table X) → ((k : ℕ) (v : X) → at es k ≡ Some v → ⊥) → es ≡ []
none_there [] none = refl
none_there {X} (e ∷ es) none =
    let here : at (e ∷ es) e.0 ≡ Some e.1 =
    ap (λ (b : Bool). cond b (Some e.1) (at es e.0)) (is_at_same e.0) in
    absurd (none e.0 e.1 here)

-- nothing is held by nothing
unheld : (keys : Table Key) (k : ℕ) → IsHeld keys [] k → ⊥
unheld keys _ (Attached k i) = true≢false (sym i)
unheld keys _ (Linked j k held i) = unheld keys j held

none_watched : (queues : List (ℕ × Queue)) (watches : List Watch) → queues ≡ []
    → Each (IsWatch queues) watches → watches ≡ []
none_watched queues [] none each = refl
none_watched queues (w ∷ ws) none each = grind (arith, common_steps, true≢false, is_some)

pub all_gone : (s : State) → IsSound s → ((client : ℕ) → HasNothing client s) → IsEmpty s
all_gone s sound nothing =
    let contexts : s.contexts ≡ [] =
    none_there s.contexts (λ k c there. (nothing c.client).contexts k c there refl) in
    let no_context : (k : ℕ) (c : Context) → at s.contexts k ≡ Some c → ⊥ = λ k c there.
    (nothing c.client).contexts k c there refl in
    let processes : s.processes ≡ [] = none_there s.processes (λ p ring there.
    let used = sound.used.process p (rw there refl) in no_context used.number used.context used.there) in
    let uids : s.uids ≡ [] = none_there s.uids (λ uid rings there.
    let used = sound.used.owner uid (rw there refl) in no_context used.number used.context used.there) in
    let queues : s.queues ≡ [] = none_there s.queues
    (λ k queue there. (nothing queue.client).queues k queue there refl) in
    let none : roots s ≡ [] =
    ap (λ (es : Table Context). context_roots es ++ (process_roots s.processes ++ uid_roots s.uids)) contexts
    ∙ (ap (λ (es : Table (Option ℕ)). process_roots es ++ uid_roots s.uids) processes
    ∙ ap uid_roots uids) in
    record {
      keys = none_there s.keys (λ k key there. unheld s.keys k
          (subst (λ (heads : List ℕ). IsHeld s.keys heads k) none (sound.swept.keys k (rw there refl))));
      contexts = contexts;
      processes = processes;
      uids = uids;
      queues = queues;
      watches = none_watched s.queues s.watches queues sound.orderly.watches;
    }

pub emptied : (start : State) → IsSound start → AreEmptiedInTheEnd start
emptied start sound events end legal nothing = all_gone end (legal_sound start events end sound legal) nothing
