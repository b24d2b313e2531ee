-- What the ends of contexts owe the numbers of holders.
use Rattle.std.proofs.Common.{[], ◌++◌, ◌+◌, ◌∙◌, ◌≡◌, ap, arith, Bool, cond, false, List, None, Ok, Option}
use Rattle.std.proofs.Common.{option_to_list, refl, Result, Some, subst, sym, true, unwrap_or, ℕ}
use Rattle.krs_types.specs.{declared.ask.Answer.{Answer, TheVariants.Nothing}}
use Rattle.krs_types.specs.declared.{context.{Context.Context, UidRings.UidRings}, errno.Errno.Errno}
use Rattle.krs_model.specs.Asks.Leaving.{exit, exited, has_process, has_uid}
use Rattle.krs_model.specs.{Lookup.context_of, Possession.process_ring, State.{Key, State}}
use Rattle.krs_model.specs.{Sweep.{context_roots, process_roots, roots, uid_roots}, Table.{at, Table, without}}
use Rattle.krs_model.proofs.Sound.Attached.{context_keys}
use Rattle.krs_hold.specs.Tally.{all_less, IsTallied, times}
use Rattle.krs_hold.proofs.{Gathered.{gathered, given_by, times-without}, Times.times-append}
use Rattle.krs_tables.specs.Holding.{rings_of}
use Rattle.krs_tables.proofs.{OwedHolders.{less_then, then_less}, Owners.own_there}
use Rattle.krs_context_asks.proofs.EnteredHolders.{held_less, same_accepted}
use Rattle.std.proofs.lemmas.Grind.{common_steps}

-- an entry goes where a test fails
cut_times :
    {X : Type 0} (g : X → List ℕ) (stays : Bool) (es : Table X) (k q : ℕ)
    → times q (gathered g es)
    ≡ times q (cond stays [] (given_by g (at es k))) + times q (gathered g (cond stays es (without es k)))
cut_times g true es k q = omega arith
cut_times g false es k q = sym (times-without g es k q)

ring_given : (o : Option (Option ℕ)) → given_by (λ (x : Option ℕ). option_to_list x) o
    ≡ option_to_list (unwrap_or o None)
ring_given None = refl
ring_given (Some ring) = refl

rings_given :
    (o : Option UidRings)
    → given_by (λ (x : UidRings). option_to_list x.user ++ option_to_list x.session) o ≡ rings_of o
rings_given None = refl
rings_given (Some rings) = refl

-- what EXIT lets go of: attachments of the process, and of the uid
abbrev pub ended_ring : State → State → Context → List ℕ
ended_ring s t c = cond (has_process t.contexts c.process) [] (option_to_list (process_ring s c.process))

abbrev pub ended_rings : State → State → Context → List ℕ
ended_rings s t c = cond (has_uid t.contexts c.caller.uid) [] (rings_of (at s.uids c.caller.uid))

exited_times :
    (s : State) (number q : ℕ) (c : Context) → at s.contexts number ≡ Some c
    → times q (roots s)
    ≡ times q (((option_to_list c.thread ++ option_to_list c.session) ++ ended_ring s (exited s number c) c)
    ++ ended_rings s (exited s number c) c) + times q (roots (exited s number c))
exited_times s number q c there =
    let t = exited s number c in
    let own = option_to_list c.thread ++ option_to_list c.session in
    let ring = ended_ring s t c in
    let rings = ended_rings s t c in
    let in_process = has_process t.contexts c.process in
    let in_uid = has_uid t.contexts c.caller.uid in
    let a = times-append q (context_roots s.contexts) (process_roots s.processes ++ uid_roots s.uids) in
    let b = times-append q (process_roots s.processes) (uid_roots s.uids) in
    let d = times-append q (context_roots t.contexts) (process_roots t.processes ++ uid_roots t.uids) in
    let e = times-append q (process_roots t.processes) (uid_roots t.uids) in
    let f = times-append q (own ++ ring) rings in
    let g = times-append q own ring in
    let i = times-without context_keys s.contexts number q in
    let j : times q (given_by context_keys (at s.contexts number)) ≡ times q own =
    ap (λ (o : Option Context). times q (given_by context_keys o)) there in
    let k = cut_times (λ (x : Option ℕ). option_to_list x) in_process s.processes c.process q in
    let l : times q (cond in_process [] (given_by (λ (x : Option ℕ). option_to_list x) (at s.processes c.process)))
    ≡ times q ring =
    ap (λ (zs : List ℕ). times q (cond in_process [] zs)) (ring_given (at s.processes c.process)) in
    let m =
    cut_times (λ (x : UidRings). option_to_list x.user ++ option_to_list x.session) in_uid s.uids
    c.caller.uid q in
    let n : times q (cond in_uid [] (given_by (λ (x : UidRings). option_to_list x.user ++ option_to_list x.session)
    (at s.uids c.caller.uid))) ≡ times q rings =
    ap (λ (zs : List ℕ). times q (cond in_uid [] zs)) (rings_given (at s.uids c.caller.uid)) in
    omega (arith, a, b, d, e, f, g, i, j, k, l, m, n)

abbrev exit_done : State → ℕ → Context → Result (State × Answer) Errno
exit_done s number c = Ok (exited s number c, Nothing)

exit_is :
    (s t : State) (client number : ℕ) (c : Context) → context_of s client number ≡ Ok c
    → exit s client number ≡ Ok (t, Nothing) → exited s number c ≡ t
unfolding exit
exit_is s t client number c own h = grind (arith, common_steps, same_accepted)

-- EXIT of a context
pub exit_tallied :
    (keys : Table Key) (s t : State) (client number : ℕ) (c : Context) (numbers : Table ℕ)
    → context_of s client number ≡ Ok c → exit s client number ≡ Ok (t, Nothing)
    → IsTallied keys (roots s) [] numbers → IsTallied keys (roots t) []
    (all_less (ended_rings s t c) (all_less (ended_ring s t c)
    (all_less (option_to_list c.session) (all_less (option_to_list c.thread) numbers))))
exit_tallied keys s t client number c numbers own h tallied =
    subst (λ (z : State). IsTallied keys (roots z) [] (all_less (ended_rings s z c) (all_less (ended_ring s z c)
    (all_less (option_to_list c.session) (all_less (option_to_list c.thread) numbers)))))
    (exit_is s t client number c own h)
    (let z = exited s number c in
    let own_keys = option_to_list c.thread ++ option_to_list c.session in
    let four : all_less (ended_rings s z c) (all_less (ended_ring s z c)
    (all_less (option_to_list c.session) (all_less (option_to_list c.thread) numbers)))
    ≡ all_less ((own_keys ++ ended_ring s z c) ++ ended_rings s z c) numbers =
    ap (all_less (ended_rings s z c))
    (less_then (option_to_list c.thread) (option_to_list c.session) (ended_ring s z c) numbers)
    ∙ then_less (own_keys ++ ended_ring s z c) (ended_rings s z c) numbers in
    subst (λ (zs : Table ℕ). IsTallied keys (roots z) [] zs) (sym four)
    (held_less keys s z ((own_keys ++ ended_ring s z c) ++ ended_rings s z c) numbers
    (λ q. exited_times s number q c (own_there s client number c own)) tallied))
