-- What further contexts, and EXEC, owe the numbers of holders.
use Rattle.std.proofs.Common.{[], ◌&&◌, ◌++◌, ◌+◌, ◌==◌, ◌||◌, ◌∷◌, ◌≡◌, ap, arith, Bool, cond, Err, false, filter}
use Rattle.std.proofs.Common.{flat_map, IfSome, IsErrAnd, List, nat_cmp, None, not, Ok, Option, option_to_list, refl}
use Rattle.std.proofs.Common.{Result, Some, subst, sym, true, unwrap_or, ℕ}
use Rattle.std.specs.BTreeMap.{is_at}
use Rattle.krs_types.specs.{Refusing.◌>>=◌, declared.ask.Answer.{Answer, TheVariants.{Nothing, Number}}}
use Rattle.krs_types.specs.declared.{caller.Caller.Caller, context.{Context.Context, UidRings.UidRings}}
use Rattle.krs_types.specs.declared.{errno.Errno.Errno, fault.Fault.{Fault, TheVariants.{Memory, Refused}}}
use Rattle.krs_model.specs.Asks.Entering.{exec, execed, fork, thread, without_thread}
use Rattle.krs_model.specs.Asks.Hello.{with_context}
use Rattle.krs_model.specs.{Levels.is_in, Lookup.{context_of}, Outcome.{Leads, Outcome}}
use Rattle.krs_model.specs.{Possession.process_ring, State.{Key, State}}
use Rattle.krs_model.specs.Sweep.{context_roots, process_roots, roots, uid_roots}
use Rattle.krs_model.specs.Table.{alter, at, put, Rises, Table}
use Rattle.krs_model.proofs.{Reach.Levels.{in_right, same_is}, Sound.Attached.{attached_at, context_keys, in_context}}
use Rattle.krs_model.proofs.Tables.Changes.{alter_none, same_at}
use Rattle.krs_ctx.specs.{Anchors.{Anchors, Each}, Members.{contexts_in, placed}, Told.{Enters, greeted}}
use Rattle.krs_ctx.proofs.{GroupLemmas.each_from_at, ToldLemmas.{forked, threaded}}
use Rattle.krs_hold.specs.Tally.{all_less, IsTallied, times}
use Rattle.krs_hold.proofs.Gathered.{given_by, times-alter, times-filter, times-put}
use Rattle.krs_hold.proofs.{Tallies.{tallied_attached, tallied_let_go_all}, Times.times-append}
use Rattle.krs_tables.specs.Holding.{more_of}
use Rattle.krs_tables.proofs.OwedHolders.{context_tallied, counted_of, less_then, more_tallied, session_attached}
use Rattle.krs_tables.proofs.Owners.{own_there}
use Rattle.std.proofs.lemmas.Grind.{common_steps}

-- a fault leaves the anchors as they were
pub refused_stays :
    (old new : Anchors) (f : Fault) (meant : State → Outcome) → Enters old (Err f) new meant → new ≡ old
refused_stays old new Memory meant is = is.1
refused_stays old new (Refused e) meant is = is.1

-- one holder more, where attachments come to one more
pub held_more :
    (keys : Table Key) (s t : State) (o : Option ℕ) (numbers : Table ℕ)
    → ((q : ℕ) → times q (roots t) ≡ times q (option_to_list o) + times q (roots s))
    → IfSome o (λ k. is_in k (roots s) ≡ true) → IsTallied keys (roots s) [] numbers
    → IsTallied keys (roots t) [] (more_of o numbers)
held_more keys s t o numbers more held h =
    tallied_attached keys (roots s) (roots t) (option_to_list o) [] (more_of o numbers)
    (λ q. let a = more q in omega (arith, a))
    (more_tallied keys (roots s) numbers o (counted_of keys (roots s) numbers o h held) h)

-- holders less, where attachments go
pub held_less :
    (keys : Table Key) (s t : State) (gone : List ℕ) (numbers : Table ℕ)
    → ((q : ℕ) → times q (roots s) ≡ times q gone + times q (roots t)) → IsTallied keys (roots s) [] numbers
    → IsTallied keys (roots t) [] (all_less gone numbers)
held_less keys s t gone numbers less h =
    tallied_let_go_all keys (roots t) gone [] numbers
    (tallied_attached keys (roots s) (roots t) [] (gone ++ []) numbers
    (λ q. let a = less q in let b = times-append q gone [] in omega (arith, a, b)) h)

session_held_at :
    (s : State) (number : ℕ) (c : Context) (o : Option ℕ) → at s.contexts number ≡ Some c → c.session ≡ o
    → IfSome o (λ k. is_in k (roots s) ≡ true)
session_held_at s number c None there is = tt
session_held_at s number c (Some k) there is =
    let mine : is_in k (option_to_list c.session) ≡ true = rw (is, same_is k k refl) refl in
    in_context s k
    (attached_at context_keys s.contexts number c k there
    (in_right k (option_to_list c.thread) (option_to_list c.session) mine))

-- the session keyring of a context is attached
pub session_held :
    (s : State) (client number : ℕ) (c : Context) → context_of s client number ≡ Ok c
    → IfSome c.session (λ k. is_in k (roots s) ≡ true)
session_held s client number c own = session_held_at s number c c.session (own_there s client number c own) refl

accepted :
    (a b : Result (Unit {0}) Errno) (x y : State × Answer) → (a >>= (λ room. b >>= (λ left. Ok x))) ≡ Ok y → x ≡ y
accepted (Ok t) (Ok u) x y h = cc
accepted (Ok t) (Err e) x y h = absurd cc
accepted (Err e) b x y h = absurd cc

one_accepted : (a : Result (Unit {0}) Errno) (x y : State × Answer) → (a >>= (λ room. Ok x)) ≡ Ok y → x ≡ y
one_accepted (Ok t) x y h = cc
one_accepted (Err e) x y h = absurd cc

thread_opens :
    (s t : State) (client number n : ℕ) (c : Context) → context_of s client number ≡ Ok c
    → thread s client number ≡ Ok (t, Number n) → (threaded s c).0 ≡ t
unfolding thread
thread_opens s t client number n c own h = grind (arith, common_steps, accepted, threaded)

fork_opens :
    (s t : State) (client number n : ℕ) (c : Context) → context_of s client number ≡ Ok c
    → fork s client number ≡ Ok (t, Number n) → (forked s client c).0 ≡ t
unfolding fork
fork_opens s t client number n c own h = grind (arith, common_steps, accepted, forked)

-- the context of THREAD
pub thread_tallied :
    (keys : Table Key) (s t : State) (client number n : ℕ) (c : Context) (numbers : Table ℕ)
    → at s.contexts s.next_context ≡ None → context_of s client number ≡ Ok c
    → thread s client number ≡ Ok (t, Number n) → IsTallied keys (roots s) [] numbers
    → IsTallied keys (roots t) [] (more_of c.session numbers)
thread_tallied keys s t client number n c numbers fresh own h tallied =
    let is = thread_opens s t client number n c own h in
    subst (λ (z : State). IsTallied keys (roots z) [] (more_of c.session numbers)) is
    (held_more keys s (threaded s c).0 c.session numbers
    (λ q.
    let rest = process_roots s.processes ++ uid_roots s.uids in
    let a = times-put context_keys s.contexts s.next_context (without_thread c) q fresh in
    let b = times-append q (context_roots s.contexts) rest in
    let d = times-append q (context_roots (put s.contexts s.next_context (without_thread c))) rest in
    omega (arith, a, b, d))
    (session_held s client number c own) tallied)

-- a context in a process of its own
pub entered_tallied :
    (keys : Table Key) (s : State) (client : ℕ) (c : Caller) (session : Option ℕ) (numbers : Table ℕ)
    → at s.contexts s.next_context ≡ None → at s.processes s.next_context ≡ None
    → IfSome session (λ k. is_in k (roots s) ≡ true) → IsTallied keys (roots s) [] numbers
    → IsTallied keys (roots (with_context s client c session)) [] (more_of session numbers)
entered_tallied keys s client c session numbers no_context no_process held h =
    grind (arith, common_steps, context_tallied)

-- the context of FORK
pub fork_tallied :
    (keys : Table Key) (s t : State) (client number n : ℕ) (c : Context) (numbers : Table ℕ)
    → at s.contexts s.next_context ≡ None → at s.processes s.next_context ≡ None
    → context_of s client number ≡ Ok c → fork s client number ≡ Ok (t, Number n)
    → IsTallied keys (roots s) [] numbers → IsTallied keys (roots t) [] (more_of c.session numbers)
fork_tallied keys s t client number n c numbers no_context no_process own h tallied =
    subst (λ (z : State). IsTallied keys (roots z) [] (more_of c.session numbers))
    (fork_opens s t client number n c own h)
    (entered_tallied keys s client c.caller c.session numbers no_context no_process
    (session_held s client number c own)
    tallied)

filter_alter :
    {X : Type 0} (p : ℕ × X → Bool) (es : Table X) (n : ℕ) (f : X → X) → ((v : X) → p (n, v) ≡ false)
    → filter p (alter es n f) ≡ filter p es
filter_alter p [] n f goes = refl
filter_alter {X = X} p (e ∷ es) n f goes =
    elim (is_at (nat_cmp n) e.0) as (λ b. is_at (nat_cmp n) e.0 ≡ b
    → filter p (cond b ((e.0, f e.1) ∷ es) (e ∷ alter es n f)) ≡ filter p (e ∷ es)) [
      | true ↦ λ is.
          let here : (v : X) → p (e.0, v) ≡ false = λ v.
          subst (λ (k : ℕ). p (k, v) ≡ false) (same_at n e.0 is) (goes v) in
          rw (here (f e.1), here e.1) refl
      | false ↦ λ is. elim (p e) as (λ b. cond b (e ∷ filter p (alter es n f)) (filter p (alter es n f))
          ≡ cond b (e ∷ filter p es) (filter p es)) [
            | true ↦ ap (λ zs. e ∷ zs) (filter_alter p es n f goes)
            | false ↦ filter_alter p es n f goes
          ]
    ] refl

filter_same :
    {X : Type 0} (p r : X → Bool) (xs : List X) → ((x : X) → p x ≡ r x) → filter p xs ≡ filter r xs
filter_same p r [] same = refl
filter_same p r (x ∷ xs) same = grind (arith, common_steps, filter_same p r xs same)

neither : (a b : Bool) → not (not a || b) ≡ (a && not b)
neither true true = refl
neither true false = refl
neither false b = refl

and_false : (a : Bool) → (a && false) ≡ false
and_false true = refl
and_false false = refl

abbrev ends : ℕ → ℕ → ℕ × Context → Bool
ends process number e = (e.1.process == process) && not (e.0 == number)

ended_same :
    (es : Table Context) (process number : ℕ)
    → filter (λ e. not (not (e.1.process == process) || (e.0 == number))) (alter es number without_thread)
    ≡ filter (ends process number) es
ended_same es process number = grind (arith, common_steps, filter_same, neither, filter_alter, same_is, and_false)

ring_times :
    (es : Table (Option ℕ)) (p q : ℕ)
    → times q (process_roots es) ≡ times q (option_to_list (unwrap_or (at es p) None))
    + times q (process_roots (alter es p (λ ring. None)))
ring_times es p q =
    elim (at es p) as (λ o. at es p ≡ o → times q (process_roots es) ≡ times q (option_to_list (unwrap_or o None))
    + times q (process_roots (alter es p (λ ring. None)))) [
      | None ↦ λ e.
          let same = ap (λ (zs : Table (Option ℕ)). times q (process_roots zs)) (alter_none es p (λ ring. None) e) in
          omega (arith, same)
      | Some v ↦ λ e.
          let same = times-alter (λ (x : Option ℕ). option_to_list x) es p (λ ring. None) q v e in
          omega (arith, same)
    ] refl

-- what the contexts of these numbers attach, but for one of them
abbrev pub attached_of : Table Context → ℕ → List (ℕ × ℕ) → List ℕ
attached_of es number placed = flat_map (λ p. cond (p.1 == number) [] (given_by context_keys (at es p.1))) placed

-- what entries that are in the table attach, by the numbers of those in a process
others_attach :
    (es : Table Context) (process number : ℕ) (fs : Table Context) → Each (λ e. at es e.0 ≡ Some e.1) fs
    → attached_of es number (placed process (contexts_in process fs))
    ≡ context_roots (filter (ends process number) fs)
others_attach es process number [] h = refl
others_attach es process number (e ∷ fs) h =
    let rest = others_attach es process number fs h.1 in
    elim (e.1.process == process) as
    (λ b. attached_of es number (placed process (cond b (e ∷ contexts_in process fs) (contexts_in process fs)))
    ≡ context_roots (cond (b && not (e.0 == number)) (e ∷ filter (ends process number) fs)
    (filter (ends process number) fs))) [
      | true ↦ elim (e.0 == number) as
          (λ b. (cond b [] (given_by context_keys (at es e.0))
          ++ attached_of es number (placed process (contexts_in process fs)))
          ≡ context_roots (cond (not b) (e ∷ filter (ends process number) fs) (filter (ends process number) fs))) [
            | true ↦ rest
            | false ↦ rw (h.0) (ap (λ zs. context_keys e.1 ++ zs) rest)
          ]
      | false ↦ rest
    ]

pub others_attached :
    (es : Table Context) (process number : ℕ) → Rises es
    → attached_of es number (placed process (contexts_in process es))
    ≡ context_roots (filter (ends process number) es)
others_attached es process number rises =
    others_attach es process number es (each_from_at (λ e. at es e.0 ≡ Some e.1) es rises (λ n c there. there))

-- what EXEC lets go of
execed_times :
    (s : State) (number q : ℕ) (c : Context) → at s.contexts number ≡ Some c
    → times q (roots s)
    ≡ times q ((context_roots (filter (ends c.process number) s.contexts) ++ option_to_list c.thread)
    ++ option_to_list (process_ring s c.process)) + times q (roots (execed s number c))
execed_times s number q c there =
    let t = execed s number c in
    let ended = context_roots (filter (ends c.process number) s.contexts) in
    let ring = option_to_list (process_ring s c.process) in
    let a = times-append q (context_roots s.contexts) (process_roots s.processes ++ uid_roots s.uids) in
    let b = times-append q (process_roots s.processes) (uid_roots s.uids) in
    let d = times-append q (context_roots t.contexts) (process_roots t.processes ++ uid_roots s.uids) in
    let e = times-append q (process_roots t.processes) (uid_roots s.uids) in
    let f = times-append q (ended ++ option_to_list c.thread) ring in
    let g = times-append q ended (option_to_list c.thread) in
    let i = times-filter context_keys (λ e. not (e.1.process == c.process) || (e.0 == number))
    (alter s.contexts number without_thread) q in
    let j = ap (λ (es : Table Context). times q (context_roots es)) (ended_same s.contexts c.process number) in
    let k = times-alter context_keys s.contexts number without_thread q c there in
    let l = times-append q (option_to_list c.thread) (option_to_list c.session) in
    let m = ring_times s.processes c.process q in
    omega (arith, a, b, d, e, f, g, i, j, k, l, m)

pub same_accepted : (x y : State × Answer) → ◌≡◌ {A = Result (State × Answer) Errno} (Ok x) (Ok y) → x ≡ y
same_accepted x y h = cc

never : (x : State × Answer) (e : Errno) → ◌≡◌ {A = Result (State × Answer) Errno} (Ok x) (Err e) → ⊥
never x e h = cc

abbrev exec_done : State → ℕ → Context → Result (State × Answer) Errno
exec_done s number c = Ok (execed s number c, Nothing)

exec_is :
    (s t : State) (client number : ℕ) (c : Context) → context_of s client number ≡ Ok c
    → exec s client number ≡ Ok (t, Nothing) → execed s number c ≡ t
unfolding exec
exec_is s t client number c own h = grind (arith, common_steps, same_accepted)

pub exec_tallied :
    (keys : Table Key) (s t : State) (client number : ℕ) (c : Context) (numbers : Table ℕ)
    → context_of s client number ≡ Ok c → exec s client number ≡ Ok (t, Nothing)
    → IsTallied keys (roots s) [] numbers → IsTallied keys (roots t) []
    (all_less (option_to_list (process_ring s c.process)) (all_less (option_to_list c.thread)
    (all_less (context_roots (filter (λ e. (e.1.process == c.process) && not (e.0 == number)) s.contexts)) numbers)))
exec_tallied keys s t client number c numbers own h tallied =
    let ended = context_roots (filter (ends c.process number) s.contexts) in
    let ring = option_to_list (process_ring s c.process) in
    subst (λ (zs : Table ℕ). IsTallied keys (roots t) [] zs) (sym (less_then ended (option_to_list c.thread)
    ring numbers))
    (subst (λ (z : State). IsTallied keys (roots z) [] (all_less
    ((ended ++ option_to_list c.thread) ++ ring) numbers))
    (exec_is s t client number c own h)
    (held_less keys s (execed s number c) ((ended ++ option_to_list c.thread) ++ ring) numbers
    (λ q. execed_times s number q c (own_there s client number c own)) tallied))

-- EXEC of a context that is the client's is not refused
pub exec_accepted :
    (s : State) (client number : ℕ) (c : Context) (e : Errno) → context_of s client number ≡ Ok c
    → exec s client number ≡ Err e → ⊥
unfolding exec
exec_accepted s client number c e own h = grind (arith, common_steps, never)

-- a refusal that `?` hands on
pub refused_as :
    (s : State) (r : Result Answer Fault) (e : Errno) (meant : Outcome) → IsErrAnd r (λ f. f ≡ Refused e)
    → meant ≡ Err e → Leads s r s meant
refused_as s (Ok x) e meant is h = absurd is
refused_as s (Err f) e meant is h = subst (λ (g : Fault). Leads s (Err g) s meant) (sym is) (h, refl)

-- HELLO of a uid that has its keyrings
pub known_tallied :
    (keys : Table Key) (s t : State) (client n : ℕ) (c : Caller) (rings : UidRings) (numbers : Table ℕ)
    → at s.contexts s.next_context ≡ None → at s.processes s.next_context ≡ None → at s.uids c.uid ≡ Some rings
    → greeted s client c None ≡ Ok (t, Number n) → IsTallied keys (roots s) [] numbers
    → IsTallied keys (roots t) [] (more_of rings.session numbers)
known_tallied keys s t client n c rings numbers no_context no_process there h tallied =
    grind (arith, common_steps, one_accepted, entered_tallied, session_attached)
