-- What the asks of contexts come to, once their refusals are known.
use Rattle.std.proofs.Common.{[], ◌+◌, ◌==◌, ◌||◌, ◌∙◌, ◌∷◌, ◌≡◌, ◌≤◌, ap, arith, cond, Err, false, filter}
use Rattle.std.proofs.Common.{IsErrAnd, IsOk, nat_cmp, None, not, Ok, Option, refl, Result, Some, sym, true, ℕ}
use Rattle.std.specs.BTreeMap.{is_at}
use Rattle.krs_types.specs.Refusing.{◌>>=◌, or_refuse}
use Rattle.krs_types.specs.declared.{ask.Answer.{Answer, TheVariants.{Nothing, Number}}, caller.Caller.Caller}
use Rattle.krs_types.specs.declared.{context.{Context.Context, UidRings.UidRings}, errno.Errno.Errno}
use Rattle.krs_types.specs.declared.{errno.Errno.TheVariants.ESRCH, fault.Fault.{Fault, TheVariants.{Memory, Refused}}}
use Rattle.krs_model.specs.Asks.Entering.{exec, fork, thread, without_thread}
use Rattle.krs_model.specs.{Asks.Hello.{with_context}, Lookup.{context_of, if_own}, Outcome.Outcome}
use Rattle.krs_model.specs.{State.{starting_at, State}, Table.{alter, at, put, Table, without}}
use Rattle.krs_model.proofs.Tables.Changes.{without_put}
use Rattle.krs_ctx.specs.Anchors.{anchored, Anchors, IsFit}
use Rattle.krs_ctx.specs.Told.{enterable, Enters, greeted, Opens, put_made, taken_back}
use Rattle.std.proofs.lemmas.Grind.{common_steps}

-- the context of THREAD, and of FORK
abbrev pub threaded : State → Context → State × Answer
threaded s c = (
  record s { contexts = put s.contexts s.next_context (without_thread c); next_context = s.next_context + 1 },
  Number s.next_context,
)

abbrev pub forked : State → ℕ → Context → State × Answer
forked s client c = (with_context s client c.caller c.session, Number s.next_context)

chained : {A : Type 0} (a b : Result (Unit {0}) Errno) (f : Result A Errno)
    → (a >>= (λ room. b >>= (λ left. f))) ≡ ((a >>= (λ room. b)) >>= (λ left. f))
chained (Ok x) b f = refl
chained (Err e) b f = refl

-- THREAD in a context that is the client's
pub thread_refused : (s : State) (client number : ℕ) (c : Context) (e : Errno) → context_of s client number ≡ Ok c
    → enterable s client ≡ Err e → thread s client number ≡ Err e
unfolding thread
thread_refused s client number c e own not_left = grind (arith, common_steps, chained)

pub thread_accepted : (s : State) (client number : ℕ) (c : Context) → context_of s client number ≡ Ok c
    → enterable s client ≡ Ok (tt {0}) → thread s client number ≡ Ok (threaded s c)
unfolding thread
thread_accepted s client number c own left = grind (arith, common_steps, chained)

-- FORK in a context that is the client's
pub fork_refused : (s : State) (client number : ℕ) (c : Context) (e : Errno) → context_of s client number ≡ Ok c
    → enterable s client ≡ Err e → fork s client number ≡ Err e
unfolding fork
fork_refused s client number c e own not_left = grind (arith, common_steps, chained)

pub fork_accepted : (s : State) (client number : ℕ) (c : Context) → context_of s client number ≡ Ok c
    → enterable s client ≡ Ok (tt {0}) → fork s client number ≡ Ok (forked s client c)
unfolding fork
fork_accepted s client number c own left = grind (arith, common_steps, chained)

pub is_ok : {A : Type 0} (r : Result A Errno) (x : A) → r ≡ Ok x → IsOk r
is_ok r x h = rw h refl

-- a refusal that `?` hands on
pub refused : (old new : Anchors) (r : Result ℕ Fault) (e : Errno) (meant : State → Outcome)
    → IsErrAnd r (λ f. f ≡ Refused e) → ((s : State) → meant (anchored s old) ≡ Err e) → new ≡ old
    → Enters old r new meant
refused old new (Ok n) e meant is stays same = absurd is
refused old new (Err f) e meant is stays same = grind (arith, common_steps)

-- ENOMEM that `?` hands on
pub wants : (old new : Anchors) (r : Result ℕ Fault) (meant : State → Outcome) → IsErrAnd r (λ f. f ≡ Memory)
    → ((s : State) → IsOk (meant (anchored s old))) → new ≡ old → Enters old r new meant
wants old new (Ok n) meant is accepted same = absurd is
wants old new (Err f) meant is accepted same = grind (arith, common_steps)

same_ok : (x y : Context) → ◌≡◌ {A = Result Context Errno} (Ok x) (Ok y) → x ≡ y
same_ok x y h = ap (λ (r : Result Context Errno). elim r as (λ _. Context) [ Ok c ↦ c | Err e ↦ x ]) h

owned_there : (client : ℕ) (o : Option Context) (c : Context) → (or_refuse ESRCH o >>= if_own client) ≡ Ok c
    → o ≡ Some c
owned_there client None c h = absurd cc
owned_there client (Some x) c h = grind (arith, common_steps, same_ok)

-- a context that is the client's is there
pub there : (t : Anchors) (client number : ℕ) (c : Context)
    → ((s : State) → context_of (anchored s t) client number ≡ Ok c) → at t.contexts number ≡ Some c
unfolding context_of
there t client number c own = owned_there client (at t.contexts number) c (own (starting_at 3))

-- the context of THREAD was made
pub thread_told : (s : State) (t old new : Anchors) (maker c : Context) (n : ℕ) → old ≡ t
    → new.contexts ≡ put old.contexts n c → new.processes ≡ old.processes → new.uids ≡ old.uids
    → new.next_context ≡ old.next_context + 1 → c ≡ without_thread maker → n ≡ t.next_context
    → threaded (anchored s t) maker ≡ (anchored s new, Number n)
thread_told s t old new maker c n is contexts processes uids next copied number = grind (arith, common_steps)

-- a refusal that `?` hands on as it is
pub passed_on : (r meant : Result (Unit {0}) Errno) (e : Errno) → IsErrAnd r (λ f. f ≡ e) → meant ≡ Err e → r ≡ meant
passed_on (Ok x) meant e is h = absurd is
passed_on (Err f) meant e is h = ap Err is ∙ sym h

-- a context that HELLO makes
pub greeted_told : (s : State) (old new : Anchors) (client : ℕ) (c : Caller) (made known : Option UidRings) (n : ℕ)
    → enterable (anchored s old) client ≡ Ok (tt {0}) → made ≡ known → Opens old new client c known
    → n ≡ old.next_context → greeted (anchored s old) client c made ≡ Ok (anchored s new, Number n)
greeted_told s old new client c made known n left is opens number =
    rw (left, is)
    (ap (λ t. Ok (t, Number old.next_context)) (sym (opens s))
    ∙ ap (λ k. Ok (anchored s new, Number k)) (sym number))

-- a context that FORK makes
pub fork_told : (s : State) (old new : Anchors) (client : ℕ) (maker : Context) (caller : Caller) (n : ℕ)
    → caller ≡ maker.caller
    → ((q : State) → anchored q new ≡ with_context (anchored q old) client caller maker.session)
    → n ≡ old.next_context → forked (anchored s old) client maker ≡ (anchored s new, Number n)
fork_told s old new client maker caller n copied opens number =
    ap (λ t. (t, Number old.next_context))
    (ap (λ x. with_context (anchored s old) client x maker.session) (sym copied) ∙ sym (opens s))
    ∙ ap (λ k. (anchored s new, Number k)) (sym number)

-- EXEC in a context that is the client's
pub exec_told : (s : State) (t old new : Anchors) (client number : ℕ) (c : Context)
    → context_of (anchored s t) client number ≡ Ok c → old ≡ t
    → new.contexts ≡ filter (λ e. not (e.1.process == c.process) || (e.0 == number))
    (alter old.contexts number without_thread) → new.processes ≡ alter old.processes c.process (λ ring. None)
    → new.uids ≡ old.uids → new.next_context ≡ old.next_context
    → exec (anchored s t) client number ≡ Ok (anchored s new, Nothing)
unfolding exec
exec_told s t old new client number c own is contexts processes uids next = grind (arith, common_steps)

-- nothing is there to be taken out
pub without_none : {X : Type 0} (es : Table X) (k : ℕ) → at es k ≡ None → without es k ≡ es
without_none [] k h = refl
without_none (e ∷ es) k h =
    elim (is_at (nat_cmp k) e.0) as (λ b. cond b (Some e.1) (at es k) ≡ None
    → cond b es (e ∷ without es k) ≡ e ∷ es) [
      | true ↦ λ n. absurd cc
      | false ↦ λ n. ap (λ zs. e ∷ zs) (without_none es k n)
    ] h

without_made : (uids : Table UidRings) (uid : ℕ) (made : Option UidRings) → at uids uid ≡ None
    → without (put_made uids uid made) uid ≡ uids
without_made uids uid None h = without_none uids uid h
without_made uids uid (Some rings) h = without_put uids uid rings h

-- the number after that of an opened context
pub opened_next : (old new : Anchors) (client : ℕ) (c : Caller) (made : Option UidRings) (n : ℕ)
    → Opens old new client c made → n ≡ old.next_context → new.next_context ≡ n + 1
opened_next old new client c made n opens number =
    rw number (ap (λ (s : State). s.next_context) (opens (starting_at 3)))

-- a context that was opened for a uid with no keyrings, and is taken back, has not been
pub opened_back : (old new : Anchors) (client : ℕ) (c : Caller) (made : Option UidRings) (n : ℕ) → IsFit old
    → at old.uids c.uid ≡ None → Opens old new client c made → n ≡ old.next_context → taken_back new n c.uid ≡ old
opened_back old new client c made n fit none opens number =
    let is = opens (starting_at 3) in
    let m = old.next_context in
    let unused : m ≤ m = omega arith in
    rw (
      number,
      ap (λ (s : State). s.contexts) is,
      ap (λ (s : State). s.processes) is,
      ap (λ (s : State). s.uids)
          is,
      without_put old.contexts m _ (fit.contexts m unused),
      without_put old.processes m None
          (fit.processes m unused),
      without_made old.uids c.uid made none,
    ) refl
