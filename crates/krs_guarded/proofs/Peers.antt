-- Behind the guard no peer acts as another.
use Rattle.std.proofs.Common.{[], ◌++◌, ◌==◌, ◌∙◌, ◌∷◌, ◌≡◌, ap, arith, Bool, cond, Err, false, inl, inr, IsOk, List}
use Rattle.std.proofs.Common.{Ok, refl, Result, subst, sym, true, true≢false, ℕ}
use Rattle.std.specs.List.{AllByRecursion}
use Rattle.std.proofs.lemmas.Bool.Decides.{nat_tests}
use Rattle.krs_types.specs.{Caller.caller_check, Refusing.or_refuse, declared.ask.{Answer.Answer, Ask.Ask, Op.Op}}
use Rattle.krs_types.specs.declared.{ask.Op.TheVariants.{Hello, Leave}, caller.Caller.Caller, context.Context.Context}
use Rattle.krs_types.specs.declared.{errno.Errno.{Errno, TheVariants.{EINVAL, ESRCH}}, event.Event.Event}
use Rattle.krs_model.specs.{Asks.Hello.hello, Belonging.HasGreeted, Confidentiality.KeepsPrivate, History.IsLegal}
use Rattle.krs_model.specs.Lookup.{context_of, if_own}
use Rattle.krs_model.specs.{State.{raised, starting_at, State}, Step.{Ends, outcome_of, Step}, Table.at}
use Rattle.krs_model.proofs.{Asks.Later.{bind_ok, same_ok}, History.Belongings.{contexts_greeted, readers_greeted}}
use Rattle.krs_model.proofs.Isolation.Histories.{leaves_alone, private_legal}
use Rattle.krs_model.proofs.{Isolation.Steps.none_alone, Lookups.Serials.own_there, Sound.Steps.start_sound}
use Rattle.krs_laws.specs.Belonging.{BeganEmpty}
use Rattle.krs_desk.proofs.Seen.{next_step}
use Rattle.krs_screen.specs.{Reading.{Harmless, nobody, own, trusted}, Run.AsksHarmless, declared.claim.Peer.Peer}
use Rattle.krs_screen.proofs.Arriving.{arrives}
use Rattle.krs_guarded.specs.Guarded.{AreReadByTheirPeers, IsBehindGuard, IsPassedOn, IsPeerOf, NoPeerActsAsAnother}
use Rattle.krs_guarded.specs.Guarded.{NoPeerChangesAnothers, NoPeerReadsAnothers}

-- what all of a list meet, one in it meets
each_meets : {A : Type 0} (P : A → Type 0) (xs : List A) (y : A) (ys : List A) → AllByRecursion P (xs ++ y ∷ ys) → P y
each_meets P [] y ys all = all.0
each_meets P (x ∷ xs) y ys all = each_meets P xs y ys all.1

-- a HELLO that was passed on is harmless
passed_harmless :
    (peer : Peer) (ask : Ask) (caller : Caller) (passed : IsPassedOn peer ask) → ask.op ≡ Hello caller
    → Harmless peer passed.groups caller
passed_harmless peer ask caller passed asked =
    each_meets (AsksHarmless peer passed.groups) passed.before passed.framed passed.later
    (arrives peer passed.groups passed.steps (passed.before ++ passed.framed ∷ passed.later) passed.end
    passed.few passed.bytes
    passed.read) caller (ap (λ (a : Ask). a.op) passed.is ∙ asked)

-- and one that was accepted names somebody
answered_known :
    (s new : State) (client context : ℕ) (op : Op) (reply : Result Answer Errno) (caller : Caller) → op ≡ Hello caller
    → IsOk reply → Ends s client context op reply new → (x : Unit {0}) × (caller_check caller ≡ Ok x)
unfolding hello
answered_known s new client context op (Err e) caller asked accepted ends = absurd (true≢false (sym accepted))
answered_known s new client context op (Ok answer) caller asked accepted ends =
    let meant : outcome_of s client context (Hello caller) ≡ Ok (ends.mid, answer) =
    subst (λ (o : Op). outcome_of s client context o ≡ Ok (ends.mid, answer)) asked ends.meant in
    let known = bind_ok (caller_check caller) _ (ends.mid, answer) meant in
    (known.0, known.1)

step_known :
    (old new : State) (event : Event) (caller : Caller) → event.ask.op ≡ Hello caller → IsOk event.reply
    → Step old event new → (x : Unit {0}) × (caller_check caller ≡ Ok x)
unfolding Step
step_known old new event caller asked accepted step =
    answered_known (raised old event.moment) new event.lane event.ask.context event.ask.op event.reply
    caller asked accepted
    step

legal_known :
    (start end : State) (before : List Event) (event : Event) (later : List Event) (caller : Caller)
    → event.ask.op ≡ Hello caller → IsOk event.reply → IsLegal start (before ++ event ∷ later) end
    → (x : Unit {0}) × (caller_check caller ≡ Ok x)
unfolding IsLegal
legal_known start end [] event later caller asked accepted legal =
    step_known start legal.0 event caller asked accepted legal.1
legal_known start end (first ∷ before) event later caller asked accepted legal =
    legal_known legal.0 end before event later caller asked accepted legal.2

refused_known : (r : Result (Unit {0}) Errno) (x : Unit {0}) → r ≡ Err EINVAL → r ≡ Ok x → ⊥
refused_known r x refused known = cc

harmless_is :
    (peer : Peer) (groups : List ℕ) (caller : Caller) (x : Unit {0}) → caller_check caller ≡ Ok x
    → Harmless peer groups caller → IsPeerOf peer caller.uid
harmless_is peer groups caller x known (nobody void) = absurd (refused_known (caller_check caller) x void known)
harmless_is peer groups caller x known (trusted is) = inl is
harmless_is peer groups caller x known (own is) = inr (sym is.uid-is)

hello_leaves : (op : Op) (caller : Caller) → op ≡ Hello caller → op ≡ Leave → ⊥
hello_leaves op caller hello leaves = cc

-- who greeted on a lane behind the guard is its peer
greeted_is :
    (n : ℕ) (events : List Event) (end : State) (lane : ℕ) (peer : Peer) (caller : Caller)
    → IsLegal (starting_at n) events end → IsBehindGuard peer lane events → HasGreeted lane caller events
    → IsPeerOf peer caller.uid
greeted_is n events end lane peer caller legal behind g =
    let before = g.0 in
    let event = g.1 in
    let later = g.2 in
    let greets = g.4 in
    let passed = behind before event later g.3 greets.by
    ((λ by leaves. hello_leaves event.ask.op caller greets.asked leaves), g.5) in
    let known = legal_known (starting_at n) end before event later caller greets.asked greets.accepted
    (subst (λ (l : List Event). IsLegal (starting_at n) l end) g.3 legal) in
    harmless_is peer passed.groups caller known.0 known.1
    (passed_harmless peer event.ask caller passed greets.asked)

own_is_client : (client : ℕ) (found c : Context) → if_own client found ≡ Ok c → c.client ≡ client
own_is_client client found c h =
    elim (found.client == client) as
    (λ b. (found.client == client) ≡ b → cond b (Ok found) (Err ESRCH) ≡ Ok c → c.client ≡ client) [
      | true ↦ λ t i.
          let same : found ≡ c = same_ok (Ok found) found c refl i in
          let is : found.client ≡ client = grind (arith, nat_tests) in
          ap (λ (d : Context). d.client) (sym same) ∙ is
      | false ↦ λ t i. cc
    ] refl h

own_client :
    (s : State) (client number : ℕ) (c : Context) → context_of s client number ≡ Ok c → c.client ≡ client
unfolding context_of
own_client s client number c h =
    let there = bind_ok (or_refuse ESRCH (at s.contexts number)) (if_own client) c h in
    own_is_client client there.0 c there.2

-- a list from a store that began empty is one from the empty store
legal_empty :
    (start end : State) (events : List Event) (began : BeganEmpty start) → IsLegal start events end
    → IsLegal (starting_at began.0) events end
legal_empty start end events began = subst (λ (s : State). IsLegal s events end) began.1

private_empty :
    (uid : ℕ) (start old : State) (before : List Event) (last : ℕ → Bool) (began : BeganEmpty start)
    → KeepsPrivate uid (λ k. false) start before old last
    → KeepsPrivate uid (λ k. false) (starting_at began.0) before old last
private_empty uid start old before last began =
    subst (λ (s : State). KeepsPrivate uid (λ k. false) s before old last) began.1

pub peers_act : (start : State) → NoPeerActsAsAnother start
peers_act start began events end legal lane peer behind number c mine =
    let from = legal_empty start end events began legal in
    greeted_is began.0 events end lane peer c.caller from behind
    (subst (λ (z : ℕ). HasGreeted z c.caller events) (own_client end lane number c mine)
    (contexts_greeted began.0 events end from number c (own_there end lane number c mine)))

pub peers_read : (start : State) → NoPeerReadsAnothers start
peers_read start began uid before old last keeps reading end serial m step reads peer behind =
    let kept = private_empty uid start old before last began keeps in
    let r = readers_greeted began.0 uid before old last kept reading end serial m step reads in
    subst (IsPeerOf peer) r.1
    (greeted_is began.0 before old reading.lane peer r.0
    (private_legal uid (λ k. false) (starting_at began.0) before old last kept) behind r.2)

pub peers_seen : (start end : State) (seen : List Event) → IsLegal start seen end → AreReadByTheirPeers start seen
peers_seen start end seen legal began uid last before rest reading old serial is keeps m reads =
    let front = private_legal uid (λ k. false) start before old last keeps in
    let step = next_step start old end before reading rest front
    (subst (λ (l : List Event). IsLegal start l end) is legal) in
    peers_read start began uid before old last keeps reading step.0 serial m step.1 reads

pub peers_change : (start : State) → NoPeerChangesAnothers start
peers_change start began uid before old last keeps event new step peer behind other =
    let empty = starting_at began.0 in
    let kept = private_empty uid start old before last began keeps in
    leaves_alone uid (λ k. false) empty (start_sound began.0) (none_alone uid empty) before old last kept event new step
    (λ asked. other (subst (IsPeerOf peer) asked.acts.own
    (peers_act start began before old (private_legal uid (λ k. false) start before old last keeps)
    event.lane peer behind
    asked.number asked.acts.context asked.acts.there)))
