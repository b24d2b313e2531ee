-- What LEAVE comes to in a store, one EXIT after the other.
use Rattle.std.proofs.Common.{[], ◌++◌, ◌<◌, ◌==◌, ◌∙◌, ◌∷◌, ◌≡◌, ap, Bool, Err, false, filter, length}
use Rattle.std.proofs.Common.{arith, List, not, Ok, Option, refl, Result, Some, subst, sym, ℕ}
use Rattle.krs_types.specs.{Refusing.{◌>>=◌, or_refuse}, declared.ask.Answer.{Answer, TheVariants.Nothing}}
use Rattle.krs_types.specs.declared.{context.{Context.Context, UidRings.UidRings}}
use Rattle.krs_types.specs.declared.{errno.Errno.TheVariants.ESRCH, fault.Fault.{Fault, TheVariants.{Memory, Refused}}}
use Rattle.krs_model.specs.Asks.{Leaving.{contexts_without, exit, exited, left}, Watching.without_client}
use Rattle.krs_model.specs.{Lookup.{context_of, if_own}, Outcome.Leads, Queues.{Queues, queues_of, with_queues}}
use Rattle.krs_model.specs.{State.{Key, State}, Sweep.{context_roots, process_roots, uid_roots}, Table.{at, Table}}
use Rattle.krs_ctx.specs.Anchors.{anchored, Anchors, anchors_of}
use Rattle.krs_ctx.specs.{Members.IsThereFailing, Told.{ended_where, IsLeaving, without_idle}}
use Rattle.krs_ctx.proofs.{LeadsLemmas.left_whole, LeavingLemmas.{ended_fewer, leaving_none, leaving_one, left_idle}}
use Rattle.krs_hold.specs.Tally.{all_less, IsTallied}
use Rattle.krs_tables.proofs.OwedHolders.{left_tallied}
use Rattle.krs_context_asks.proofs.EnteredHolders.{same_accepted}
use Rattle.std.proofs.lemmas.Grind.{common_steps}

own_found :
    (client : ℕ) (o : Option Context) (c : Context) → o ≡ Some c → not (c.client == client) ≡ false
    → (or_refuse ESRCH o >>= if_own client) ≡ Ok c
own_found client o c there mine = grind (arith, common_steps)

-- a context of a client is its own
found_own :
    (s : State) (client number : ℕ) (c : Context) → at s.contexts number ≡ Some c → not (c.client == client) ≡ false
    → context_of s client number ≡ Ok c
unfolding context_of
found_own s client number c there mine = own_found client (at s.contexts number) c there mine

exit_is :
    (s : State) (client number : ℕ) (c : Context) → context_of s client number ≡ Ok c
    → exit s client number ≡ Ok (exited s number c, Nothing)
unfolding exit
exit_is s client number c own = rw own refl

led :
    (s new : State) (r : Result Answer Fault) (x : State × Answer) → Leads s r new (Ok x)
    → (r ≡ Err Memory → ⊥) → x.0 ≡ new
led s new (Ok answer) x h memory = ap (λ (y : State × Answer). y.0) (same_accepted x (new, answer) h)
led s new (Err Memory) x h memory = absurd (memory refl)
led s new (Err (Refused e)) x h memory = grind (arith, common_steps)

-- EXIT of a context of a client
exit_ended :
    (s new : State) (client number : ℕ) (r : Result Answer Fault)
    → IsThereFailing (λ e. not (e.1.client == client)) s.contexts number
    → Leads s r new (exit s client number) → (r ≡ Err Memory → ⊥)
    → new ≡ anchored s (ended_where (anchors_of s) number (at s.contexts number))
exit_ended s new client number r there leads memory = grind (arith, common_steps, exit_is, found_own, led)

-- between two of them
pub record AreEnding (client : ℕ) (old now : State) : Type 0 where
  pub leaving : IsLeaving client (anchors_of old) (anchors_of now)
  pub rest : now ≡ anchored old (anchors_of now)

pub none_ended : (client : ℕ) (s : State) → AreEnding client s s
none_ended client s = record { leaving = leaving_none client (anchors_of s); rest = refl }

one_ended :
    (client number : ℕ) (old now new : State) → AreEnding client old now
    → IsThereFailing (λ e. not (e.1.client == client)) now.contexts number
    → new ≡ anchored now (ended_where (anchors_of now) number (at now.contexts number)) → AreEnding client old new
one_ended client number old now new so there is =
    let t = ended_where (anchors_of now) number (at now.contexts number) in
    let anchors : anchors_of new ≡ t = ap anchors_of is in
    record {
      leaving = leaving_one client (anchors_of old) (anchors_of now) (anchors_of new) number so.leaving there anchors;
      rest = is ∙ (ap (λ (z : State). anchored z t) so.rest ∙ ap (anchored old) (sym anchors));
    }

-- EXIT of one of them
pub exit_keeps :
    (client number : ℕ) (old now new : State) (r : Result Answer Fault) → AreEnding client old now
    → IsThereFailing (λ e. not (e.1.client == client)) now.contexts number
    → Leads now r new (exit now client number) → (r ≡ Err Memory → ⊥) → AreEnding client old new
exit_keeps client number old now new r so there leads memory =
    one_ended client number old now new so there (exit_ended now new client number r there leads memory)

pub exit_fewer :
    (client number : ℕ) (now new : State) (r : Result Answer Fault)
    → IsThereFailing (λ e. not (e.1.client == client)) now.contexts number
    → Leads now r new (exit now client number) → (r ≡ Err Memory → ⊥) → length new.contexts < length now.contexts
exit_fewer client number now new r there leads memory =
    ended_fewer (anchors_of now) (anchors_of new) number (λ e. not (e.1.client == client)) there
    (ap anchors_of (exit_ended now new client number r there leads memory))

-- ---- no context is to end
-- LEAVE of a client without contexts
pub left_is_idle :
    (client : ℕ) (t new : Anchors) → contexts_without client t.contexts ≡ t.contexts
    → (s : State) → new ≡ anchors_of (left (anchored s t) client) → new ≡ without_idle t
left_is_idle client t new none s is =
    is ∙ sym (left_idle client t t (without_idle t) (leaving_none client t) none refl s)

all_stay : {X : Type 0} (xs : List X) → xs ≡ filter (λ x. not false) xs
all_stay [] = refl
all_stay (x ∷ xs) = ap (λ zs. x ∷ zs) (all_stay xs)

none_go : {X : Type 0} (xs : List X) → filter (λ x. false) xs ≡ []
none_go [] = refl
none_go (x ∷ xs) = none_go xs

-- what has no context lets go of its keyrings
pub idle_tallied :
    (keys : Table Key) (contexts : Table Context) (processes : Table (Option ℕ)) (uids : Table UidRings)
    (r : ℕ × Option ℕ → Bool) (u : ℕ × UidRings → Bool) (numbers : Table ℕ)
    → IsTallied keys (context_roots contexts ++ (process_roots processes ++ uid_roots uids)) [] numbers
    → IsTallied keys (context_roots contexts ++ (process_roots (filter r processes) ++ uid_roots (filter u uids))) []
    (all_less (uid_roots (filter (λ e. not (u e)) uids))
    (all_less (process_roots (filter (λ e. not (r e)) processes)) numbers))
idle_tallied keys contexts processes uids r u numbers h =
    let ps = process_roots (filter (λ e. not (r e)) processes) in
    let us = uid_roots (filter (λ e. not (u e)) uids) in
    let left = process_roots (filter r processes) ++ uid_roots (filter u uids) in
    subst (λ (es : Table Context). IsTallied keys (context_roots es ++ left) [] (all_less us (all_less ps numbers)))
    (sym (all_stay contexts))
    (subst (λ (gone : Table Context). IsTallied keys (context_roots (filter (λ e. not false) contexts) ++ left) []
    (all_less us (all_less ps (all_less (context_roots gone) numbers)))) (none_go contexts)
    (left_tallied keys contexts processes uids (λ e. false) r u numbers h))

-- the queues have closed, and the contexts have ended
pub left_state :
    (s t : State) (client : ℕ) (q : Queues) (a : Anchors) → q ≡ without_client (queues_of s) client
    → t ≡ anchored (with_queues s q) a → ((z : State) → a ≡ anchors_of (left (anchored z (anchors_of s)) client))
    → t ≡ left s client
unfolding left
left_state s t client q a closed is ended =
    is
    ∙ (ap (λ (p : Queues). anchored (with_queues s p) a) closed
    ∙ sym (left_whole s (anchors_of s) a client (ended s)))
