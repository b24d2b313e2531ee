-- The laws of whose contexts are, of one store that began empty.
use Rattle.std.proofs.Common.{false, subst}
use Rattle.krs_model.specs.{Confidentiality.KeepsPrivate, State.State}
use Rattle.krs_model.proofs.History.Belongings.{contexts_greeted, readers_greeted}
use Rattle.krs_laws.specs.Belonging.{ContextsAreTheirClients, ReadersHaveNamedThemselves}
use Rattle.std.proofs.Common.{arith}
use Rattle.std.proofs.lemmas.Grind.{common_steps}

pub contexts_are : (start : State) → ContextsAreTheirClients start
contexts_are start empty events end legal = grind (arith, common_steps, contexts_greeted)

pub readers_are : (start : State) → ReadersHaveNamedThemselves start
readers_are start empty uid before old last keeps =
    readers_greeted empty.0 uid before old last
    (subst (λ (s : State). KeepsPrivate uid (λ k. false) s before old last) empty.1 keeps)
