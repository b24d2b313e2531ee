-- Nothing of the payloads of keys that a uid has to itself is told to a client that asks nothing in a context of the
-- uid.
use Rattle.std.proofs.Common.{[], ◌++◌, ◌<◌, ◌∙◌, ◌∷◌, ◌≡◌, ◌≤◌, ◌⊎◌, arith, Bool, false, inl, leb-true, List, refl}
use Rattle.std.proofs.{Common.{Some, subst, sym, true, ℕ}, lemmas.{Bool.Decides.nat_tests, Option.none-some}}
use Rattle.krs_types.specs.declared.event.Event.{Event}
use Rattle.krs_model.specs.Confidentiality.{HasToItself, IsStranger, KeepsPrivate, StaysPrivate, TellsNoStranger}
use Rattle.krs_model.specs.{Hiding.Hiding, History.IsLegal, Secrecy.{IsShown, ReadsShown}, Sound.IsSound, State.Key}
use Rattle.krs_model.specs.{State.State, Step.Step, Table.{at, IsBelow, Table}}
use Rattle.krs_model.proofs.{Asks.LaterByStep.step_follows, Hiding.Clients.keeps_secrets, History.Determined.one_step}
use Rattle.krs_model.proofs.Isolation.{Growth.{IsNew, of_made}, Histories.withheld_alone, Steps.reads_own}
use Rattle.krs_model.proofs.Isolation.Steps.{same_context}

no_less : (a b : ℕ) → a ≤ b → b < a → ⊥
no_less a b le less = omega arith

pub given_below :
    (keys : Table Key) (n k : ℕ) (key : Key) → IsBelow keys n → at keys k ≡ Some key → k < n
given_below keys n k key below there = grind (arith, nat_tests, none-some, leb-true)

-- a key that stays private was so, or is new
was_or_new :
    (uid : ℕ) (private after : ℕ → Bool) (old new : State) (event : Event) (k : ℕ)
    → StaysPrivate uid private old event new after → after k ≡ true → (private k ≡ true) ⊎ IsNew old new k
was_or_new uid private after old new event k stays m = grind (arith, nat_tests, of_made)

-- what is private in the end, and had been made, was private
was_private :
    (uid : ℕ) (private : ℕ → Bool) (start : State) (events : List Event) (end : State) (last : ℕ → Bool) (k : ℕ)
    → KeepsPrivate uid private start events end last → last k ≡ true → k < start.next_serial → private k ≡ true
unfolding KeepsPrivate
was_private uid private start [] end last k keeps m less =
    subst (λ (set : ℕ → Bool). set k ≡ true) (sym keeps.1) m
was_private uid private start (event ∷ events) end last k keeps m less =
    let next = keeps.0 in
    let rises : start.next_serial ≤ next.next_serial = (step_follows start next event keeps.2).next in
    let after = was_private uid keeps.1 next events end last k keeps.4 m (omega arith) in
    grind (arith, nat_tests, leb-true, no_less, was_or_new)

-- what is private at a point of the history, and the step from there
record IsAt (uid : ℕ) (private : ℕ → Bool) (start : State) (before : List Event) (old : State) (reading : Event)
    (last : ℕ → Bool) : Type 0 where
  pub set : ℕ → Bool
  pub keeps : KeepsPrivate uid private start before old set
  pub end : State
  pub step : Step old reading end
  pub was : (k : ℕ) → last k ≡ true → k < old.next_serial → set k ≡ true

at_point :
    (uid : ℕ) (private : ℕ → Bool) (start : State) (before later : List Event) (reading : Event) (old end : State)
    (last : ℕ → Bool) → KeepsPrivate uid private start (before ++ reading ∷ later) end last → IsLegal start before old
    → IsAt uid private start before old reading last
unfolding KeepsPrivate IsLegal
at_point uid private start [] later reading old end last keeps legal =
    let here : KeepsPrivate uid private old (reading ∷ later) end last =
    subst (λ (s : State). KeepsPrivate uid private s (reading ∷ later) end last) legal keeps in
    record {
      set = private;
      keeps = (legal, refl);
      end = here.0;
      step = here.2;
      was = λ k m less. was_private uid private old (reading ∷ later) end last k here m less;
    }
at_point uid private start (event ∷ before) later reading old end last keeps legal =
    grind (arith, nat_tests, one_step, at_point uid keeps.1 keeps.0 before later reading old end last keeps.4)

-- a client that asks nothing in a context of the uid reads none of its private keys
reads_shown :
    (uid : ℕ) (private : ℕ → Bool) (start : State) (events : List Event) (end : State) (last : ℕ → Bool) (hide : Hiding)
    (client : ℕ) → IsSound start → HasToItself uid private start → KeepsPrivate uid private start events end last
    → ((n : ℕ) → last n ≡ false → IsShown hide n) → IsStranger uid client start events
    → ReadsShown hide client start events
reads_shown uid private start events end last hide client sound alone keeps shown stranger before later
    reading old serial key
    is legal lane reads there kind =
    let whole : KeepsPrivate uid private start (before ++ reading ∷ later) end last =
    subst (λ (es : List Event). KeepsPrivate uid private start es end last) is keeps in
    let r = at_point uid private start before later reading old end last whole legal in
    let now = withheld_alone uid private start before old r.set sound alone r.keeps in
    elim (last serial) as (λ b. last serial ≡ b → IsShown hide serial) [
      | false ↦ λ t. shown serial t
      | true ↦ λ t.
          let given : serial < old.next_serial = given_below old.keys old.next_serial serial key now.0.unused there in
          let own = reads_own uid r.set old r.end reading serial now.1 (r.was serial t given) r.step reads in
          absurd (stranger before later reading old is legal lane (record {
            number = reading.ask.context;
            acts = record {
              context = reads.names.whose;
              there = sym (same_context old reading.moment reading.lane reading.ask.context) ∙ reads.names.own;
              own = own;
            };
            asks = inl refl;
          }))
    ] refl

-- so it is told nothing of them
pub tells_no_stranger :
    (uid : ℕ) (private : ℕ → Bool) (start : State) → IsSound start → HasToItself uid private start
    → TellsNoStranger uid private start
tells_no_stranger uid private start sound alone events end last keeps hide client other others lawful
    shown alike stranger =
    search (keeps_secrets, reads_shown) depth 8
