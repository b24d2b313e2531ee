-- What an accepted ask does to contexts and attachments it does by right.
use Rattle.std.proofs.Common.{◌+◌, ◌==◌, ◌∙◌, ◌≡◌, ◌⊎◌, ap, arith, Bool, cond, eqb-true, false, filter, find, inl, inr}
use Rattle.std.proofs.Common.{Err, List, None, not, Ok, Option, option_map, refl, Result, Some, subst, sym, true}
use Rattle.std.proofs.Common.{unwrap_or, ℕ, ℤ, ⊎_elim, ◌||◌}
use Rattle.std.proofs.lemmas.{Bool.Decides.nat_tests, Option.{none-some, same_Some}}
use Rattle.krs_types.specs.Rights.{SEARCH}
use Rattle.krs_types.specs.declared.ask.{Answer.Answer, Op.{Op, TheVariants.Invalidate}}
use Rattle.krs_types.specs.declared.{caller.Caller.Caller, errno.Errno.Errno, event.Event.Event}
use Rattle.krs_types.specs.declared.context.{Context.Context, UidRings.UidRings}
use Rattle.krs_types.specs.declared.rights.Want.TheVariants.{Granted}
use Rattle.krs_model.specs.Asks.{Entering.{without_thread}}
use Rattle.krs_model.specs.Asks.{Invalidating.{context_without, detached, rings_without}}
use Rattle.krs_model.specs.Asks.{Joining.{is_joinable, joinable}}
use Rattle.krs_model.specs.Asks.{Leaving.{contexts_without, has_process, has_uid, left}}
use Rattle.krs_model.specs.{Lookup.{context_of, look_up, user_session_ring}}
use Rattle.krs_model.specs.{Sound.IsSound, State.{Key, raised, State}, Step.{Ends, Step}}
use Rattle.krs_model.specs.Table.{alter, at, map_values, put, Table, without}
use Rattle.krs_model.proofs.Asks.Houses.{Altering, Alters, Begins, Departs, Detaches, entering, Enters, EntersAs, Execs}
use Rattle.krs_model.proofs.Asks.Houses.{Exits}
use Rattle.krs_model.proofs.Asks.Houses.{Forked, GetsThread, Houses, HousesIn, JoinsFound, JoinsNew, Named, Rings, Same}
use Rattle.krs_model.proofs.Asks.Houses.{Threads}
use Rattle.krs_model.specs.Table.{IsDistinct}
use Rattle.krs_model.proofs.Asks.{Joins.{found_least, passed_may}, Laws.law_of}
use Rattle.krs_model.proofs.{History.Belongings.own_client, Lookups.Serials.{found_serial, own_there}}
use Rattle.krs_model.proofs.Sound.Changes.{at_change, at_put, IsChanged, IsPut, not_there}
use Rattle.krs_model.proofs.Sound.{Contexts.owner_there, NewContexts.own_process_there}
use Rattle.krs_model.proofs.Sound.{Steps.{legal_sound, raised_sound, step_sound}}
use Rattle.krs_model.proofs.Tables.Changes.{at_alter_none, at_filter_none, at_kept, at_map, at_or_apart}
use Rattle.krs_model.proofs.Tables.Changes.{at_without_other}
use Rattle.krs_model.proofs.Tables.{Distinct.{alter_distinct, at_filter_some, at_without_same}}
use Rattle.krs_model.proofs.Tables.{Entries.{filter_still, rises_distinct}}
use Rattle.krs_laws.specs.Going.{AllAttachesByRight, AttachesByRight, ContextBegins, ContextEnds, ContextStays, Entered}
use Rattle.krs_laws.specs.Going.{Execed, Exited}
use Rattle.krs_laws.specs.Going.{Greeted, IsNew}
use Rattle.krs_laws.specs.Going.{Left, Stays, ThreadChanges}
use Rattle.krs_laws.proofs.Rightly.{right_found}

-- ---- what becomes of an entry
-- nothing, or it stays, ends or begins, as these say
pub data Now {X : Type 0} (Stay : X → X → Type 0) (End Begin : X → Type 0) : Option X → Option X → Type 0 where
  NeverThere : Now Stay End Begin None None
  Stayed : (a b : X) → Stay a b → Now Stay End Begin (Some a) (Some b)
  Ended : (a : X) → End a → Now Stay End Begin (Some a) None
  Begun : (b : X) → Begin b → Now Stay End Begin None (Some b)

pub now_same :
    {X : Type 0} (Stay : X → X → Type 0) (End Begin : X → Type 0) (o : Option X) → ((a : X) → o ≡ Some a → Stay a a)
    → Now Stay End Begin o o
now_same Stay End Begin None stay = NeverThere
now_same Stay End Begin (Some a) stay = Stayed a a (stay a refl)

now_mapped :
    {X : Type 0} (Stay : X → X → Type 0) (End Begin : X → Type 0) (f : X → X) (o : Option X)
    → ((a : X) → o ≡ Some a → Stay a (f a)) → Now Stay End Begin o (option_map f o)
now_mapped Stay End Begin f None stay = NeverThere
now_mapped Stay End Begin f (Some a) stay = Stayed a (f a) (stay a refl)

pub now_put :
    {X : Type 0} (Stay : X → X → Type 0) (End Begin : X → Type 0) (es : Table X) (n k : ℕ) (v : X) → at es n ≡ None
    → ((a : X) → Stay a a) → (k ≡ n → Begin v) → Now Stay End Begin (at es k) (at (put es n v) k)
now_put Stay End Begin es n k v none stay begin =
    ⊎_elim
    (λ (r : IsPut es n v k).
    subst (λ o. Now Stay End Begin o (at (put es n v) k)) (sym (ap (at es) r.0 ∙ none))
    (subst (Now Stay End Begin None) (sym r.1) (Begun v (begin r.0))))
    (λ e. subst (Now Stay End Begin (at es k)) (sym e) (now_same Stay End Begin (at es k) (λ a i. stay a)))
    (at_put es n k v)

pub now_alter :
    {X : Type 0} (Stay : X → X → Type 0) (End Begin : X → Type 0) (es : Table X) (n k : ℕ) (f : X → X)
    → ((a : X) → Stay a a) → (k ≡ n → (a : X) → at es n ≡ Some a → Stay a (f a))
    → Now Stay End Begin (at es k) (at (alter es n f) k)
now_alter Stay End Begin es n k f stay change =
    ⊎_elim
    (λ (r : IsChanged es n f k).
    subst (Now Stay End Begin (at es k)) (sym r.1)
    (now_mapped Stay End Begin f (at es k) (λ a i. change r.0 a (sym (ap (at es) r.0) ∙ i))))
    (λ e. subst (Now Stay End Begin (at es k)) (sym e) (now_same Stay End Begin (at es k) (λ a i. stay a)))
    (at_change es n k f)

pub now_map :
    {X : Type 0} (Stay : X → X → Type 0) (End Begin : X → Type 0) (es : Table X) (k : ℕ) (f : X → X)
    → ((a : X) → Stay a (f a)) → Now Stay End Begin (at es k) (at (map_values f es) k)
now_map Stay End Begin es k f stay =
    subst (Now Stay End Begin (at es k)) (sym (at_map f es k))
    (now_mapped Stay End Begin f (at es k) (λ a i. stay a))

-- what was there is dropped, unless it passes
dropped :
    {X : Type 0} (Stay : X → X → Type 0) (End Begin : X → Type 0) (p : ℕ × X → Bool) (es : Table X) (k : ℕ) (a b : X)
    (o : Option X) → Stay a b → at es k ≡ Some b → at (filter p es) k ≡ o
    → ((v : X) → o ≡ Some v → at es k ≡ Some v) → (p (k, b) ≡ false → End a) → Now Stay End Begin (Some a) o
dropped {X} Stay End Begin p es k a b None stay there now was end =
    elim (p (k, b)) as (λ t. p (k, b) ≡ t → Now Stay End Begin (Some a) None) [
      | true ↦ λ t. absurd (none-some b (sym now ∙ filter_still p es k b there t))
      | false ↦ λ t. Ended a (end t)
    ] refl
dropped {X} Stay End Begin p es k a b (Some v) stay there now was end =
    Stayed a v (subst (Stay a) (same_Some b v (sym there ∙ was v refl)) stay)

pub now_filter :
    {X : Type 0} (Stay : X → X → Type 0) (End Begin : X → Type 0) (p : ℕ × X → Bool) (es : Table X) (k : ℕ)
    (o now : Option X) → IsDistinct es → at es k ≡ now → (o ≡ None → now ≡ None) → Now Stay End Begin o now
    → ((a b : X) → o ≡ Some a → Stay a b → p (k, b) ≡ false → End a) → Now Stay End Begin o (at (filter p es) k)
now_filter Stay End Begin p es k _ _ distinct is never NeverThere end =
    subst (Now Stay End Begin None) (sym (at_filter_none p es k is)) NeverThere
now_filter Stay End Begin p es k _ _ distinct is never (Stayed a b stay) end =
    dropped Stay End Begin p es k a b (at (filter p es) k) stay is refl (λ v i. at_filter_some p es k v distinct i)
    (λ t. end a b refl stay t)
now_filter Stay End Begin p es k _ _ distinct is never (Ended a ended) end =
    subst (Now Stay End Begin (Some a)) (sym (at_filter_none p es k is)) (Ended a ended)
now_filter Stay End Begin p es k _ _ distinct is never (Begun b begin) end =
    absurd (none-some b (sym (never refl)))

pub now_without :
    {X : Type 0} (Stay : X → X → Type 0) (End Begin : X → Type 0) (es : Table X) (n k : ℕ) → IsDistinct es
    → ((a : X) → Stay a a) → (k ≡ n → (a : X) → at es n ≡ Some a → End a)
    → Now Stay End Begin (at es k) (at (without es n) k)
now_without {X} Stay End Begin es n k distinct stay end =
    ⊎_elim
    (λ (e : k ≡ n).
    let gone : at (without es n) k ≡ None = ap (at (without es n)) e ∙ at_without_same es n distinct in
    let here : (o : Option X) → at es k ≡ o → Now Stay End Begin o None =
    λ o. elim o as (λ q. at es k ≡ q → Now Stay End Begin q None) [
      | None ↦ λ i. NeverThere
      | Some a ↦ λ i. Ended a (end e a (sym (ap (at es) e) ∙ i))
    ] in
    subst (Now Stay End Begin (at es k)) (sym gone) (here (at es k) refl))
    (λ apart. subst (Now Stay End Begin (at es k)) (sym (at_without_other es n k apart))
    (now_same Stay End Begin (at es k) (λ a i. stay a)))
    (at_or_apart k n)

now_unless :
    {X : Type 0} (Stay : X → X → Type 0) (End Begin : X → Type 0) (es : Table X) (n k : ℕ) (stays : Bool)
    → IsDistinct es → ((a : X) → Stay a a) → ((a : X) → End a)
    → Now Stay End Begin (at es k) (at (cond stays es (without es n)) k)
now_unless Stay End Begin es n k true distinct stay end = now_same Stay End Begin (at es k) (λ a i. stay a)
now_unless Stay End Begin es n k false distinct stay end =
    now_without Stay End Begin es n k distinct stay (λ e a i. end a)

-- kept by its number
now_kept :
    {X : Type 0} (Stay : X → X → Type 0) (End Begin : X → Type 0) (es : Table X) (k : ℕ) (kept : ℕ → Bool)
    → ((a : X) → Stay a a) → ((a : X) → End a) → Now Stay End Begin (at es k) (at (filter (λ e. kept e.0) es) k)
now_kept {X} Stay End Begin es k kept stay end =
    let if_kept : (b : Bool) (o : Option X) → Now Stay End Begin o (cond b o None) =
    λ b o. elim b as (λ t. Now Stay End Begin o (cond t o None)) [
      | true ↦ now_same Stay End Begin o (λ a i. stay a)
      | false ↦ elim o as (λ q. Now Stay End Begin q None) [ None ↦ NeverThere | Some a ↦ Ended a (end a) ]
    ] in
    subst (Now Stay End Begin (at es k)) (sym (at_kept kept es k)) (if_kept (kept k) (at es k))

-- ---- what is attached
-- the key at the next serial is new
next_new : (s : State) (n : ℕ) → IsSound s → n ≡ s.next_serial → IsNew s (Some n)
next_new s n sound is = (n, refl, ap (at s.keys) is ∙ sound.unused s.next_serial (omega arith))

same_stays :
    (s : State) (client context : ℕ) (op : Op) (number : ℕ) (c : Context)
    → ContextStays s client context op number c c
same_stays s client context op number c =
    record {
      same_client = refl;
      same_process = refl;
      same_caller = refl;
      thread = inl (inl refl);
      session = inl (inl refl);
    }

-- an invalidated key goes out of what attaches it
detached_stays :
    (s : State) (client context : ℕ) (op : Op) (c : Context) (id : ℤ) (gone : ℕ × Key) (o : Option ℕ)
    → op ≡ Invalidate id → context_of s client context ≡ Ok c → look_up s c id (Granted SEARCH) ≡ Ok gone
    → Stays s client context op o (detached gone.0 o)
detached_stays s client context op c id gone None asked own found = inl refl
detached_stays s client context op c id gone (Some k) asked own found =
    elim (k == gone.0) as (λ b. (k == gone.0) ≡ b → Stays s client context op (Some k) (cond b None (Some k))) [
      | true ↦ λ t. inr (record {
        id = id;
        asked = asked;
        gone = gone.0;
        names = record { whose = c; own = own; named = found_serial s c id (Granted SEARCH) gone found };
        right = right_found s client context c id (Granted SEARCH) gone own found;
        was = ap (λ (z : ℕ). Some z) (eqb-true k gone.0 t);
        now = refl;
      })
      | false ↦ λ t. inl refl
    ] refl

joined_may :
    (s : State) (c : Context) (name : List ℕ) (found : ℕ × Key) → IsSound s → joinable s c.caller name ≡ Some found
    → find (λ e. is_joinable s.clock c.caller name e.1) s.keys ≡ Some found
joined_may s c name found sound is = grind (arith, nat_tests, none-some)

-- the context that asks
altered_stays :
    (s : State) (client context : ℕ) (op : Op) (c : Context) (f : Context → Context) → IsSound s
    → context_of s client context ≡ Ok c → Altering s c op f → ContextStays s client context op context c (f c)
altered_stays s client context op c _ sound own (GetsThread none) = record {
  same_client = refl;
  same_process = refl;
  same_caller = refl;
  thread = inr (refl, own, inr (none, next_new s s.next_serial sound refl));
  session = inl (inl refl);
}
altered_stays s client context op c _ sound own (JoinsFound name found asked is) =
    let least = found_least (is_joinable s.clock c.caller name) s.keys found sound.rising
    (joined_may s c name found sound is) in
    record {
      same_client = refl;
      same_process = refl;
      same_caller = refl;
      thread = inl (inl refl);
      session = inr (
        refl,
        own,
        record {
          name = name;
          asked = asked;
          serial = found.0;
          joined = refl;
          may = inr (passed_may s c name found.0 found.1 least.there least.passes);
        },
      );
    }
altered_stays s client context op c _ sound own (JoinsNew name asked) = record {
  same_client = refl;
  same_process = refl;
  same_caller = refl;
  thread = inl (inl refl);
  session = inr (
    refl,
    own,
    record {
      name = name;
      asked = asked;
      serial = s.next_serial;
      joined = refl;
      may = inl (sound.unused s.next_serial (omega arith));
    },
  );
}

abbrev ContextNow : State → ℕ → ℕ → Op → ℕ → Option Context → Option Context → Type 0
ContextNow s client context op k =
    Now (ContextStays s client context op k) (ContextEnds s client context op k)
    (λ c. (c.client ≡ client) × (c.thread ≡ None) × ContextBegins s client context op c)

entered_begins :
    (s : State) (client context : ℕ) (op : Op) (caller : Caller) (session : Option ℕ)
    → EntersAs s client context op caller session
    → ContextBegins s client context op (entering s client caller session)
entered_begins s client context op _ _ (Named caller rings asked is) =
    Greeted asked (inl (ap user_session_ring (sym is)))
entered_begins s client context op _ _ (Forked c asked own) = Entered c (inr asked) own refl refl

-- a context that the test of EXEC doesn't pass is of the process
not_passed : (process own number context : ℕ) → (not (process == own) || (number == context)) ≡ false → process ≡ own
not_passed process own number context h = grind (arith, nat_tests)

pub not_other : (client other : ℕ) → not (client == other) ≡ false → client ≡ other
not_other client other h = grind (arith, nat_tests)

context_now :
    (s : State) (client context : ℕ) (op : Op) (contexts : Table Context) (processes : Table (Option ℕ))
    (uids : Table UidRings) → IsSound s → Houses s client context op contexts processes uids → (k : ℕ)
    → ContextNow s client context op k (at s.contexts k) (at contexts k)
unfolding left
context_now s client context op _ _ _ sound Same k =
    now_same _ _ _ (at s.contexts k) (λ c i. same_stays s client context op k c)
context_now s client context op _ _ _ sound (Begins caller session rings room is none left begun) k =
    now_put _ _ _ s.contexts s.next_context k (entering s client caller session)
    (sound.housed.unused s.next_context (omega arith)) (same_stays s client context op k)
    (λ e. (
      refl,
      refl,
      Greeted is (inr (rw (begun.0 ∙ ap (λ (r : UidRings). r.session) begun.1) (
        s.next_serial + 1,
        refl,
        sound.unused (s.next_serial + 1) (omega arith),
      ))),
    ))
context_now s client context op _ _ _ sound (Enters caller session room who left) k =
    now_put _ _ _ s.contexts s.next_context k (entering s client caller session)
    (sound.housed.unused s.next_context (omega arith)) (same_stays s client context op k)
    (λ e. (refl, refl, entered_begins s client context op caller session who))
context_now s client context op _ _ _ sound (Threads c room is own left) k =
    now_put _ _ _ s.contexts s.next_context k (without_thread c)
    (sound.housed.unused s.next_context (omega arith)) (same_stays s client context op k)
    (λ e. (own_client s client context c own, refl, Entered c (inl is) own refl refl))
context_now s client context op _ _ _ sound (Alters c f own stays how) k =
    now_alter _ _ _ s.contexts context k f (same_stays s client context op k)
    (λ e a there. rw e (subst (λ (v : Context). ContextStays s client context op context v (f v))
    (same_Some c a (sym (own_there s client context c own) ∙ there))
    (altered_stays s client context op c f sound own how)))
context_now s client context op _ _ _ sound (Rings c n own begun) k =
    now_same _ _ _ (at s.contexts k) (λ c i. same_stays s client context op k c)
context_now s client context op _ _ _ sound (Execs c is own) k =
    let one = alter s.contexts context without_thread in
    let distinct = alter_distinct s.contexts context without_thread
    (rises_distinct s.contexts sound.housed.contexts_rise) in
    now_filter _ _ _ (λ e. not (e.1.process == c.process) || (e.0 == context)) one k (at s.contexts k) (at one k)
    distinct refl (at_alter_none s.contexts context k without_thread)
    (now_alter _ _ _ s.contexts context k without_thread (same_stays s client context op k)
    (λ e a there. rw e (subst (λ (v : Context). ContextStays s client context op context v (without_thread v))
    (same_Some c a (sym (own_there s client context c own) ∙ there)) (record {
      same_client = refl;
      same_process = refl;
      same_caller = refl;
      thread = inr (refl, own, inl (is, refl));
      session = inl (inl refl);
    }))))
    (λ a b was stay t.
    Execed c is own (sym stay.same_process ∙ not_passed b.process c.process k context t))
context_now s client context op _ _ _ sound (Detaches c id gone is own found) k =
    now_map _ _ _ s.contexts k (context_without gone.0) (λ a. record {
      same_client = refl;
      same_process = refl;
      same_caller = refl;
      thread = inl (detached_stays s client context op c id gone a.thread is own found);
      session = inl (detached_stays s client context op c id gone a.session is own found);
    })
context_now s client context op _ _ _ sound (Exits c is own) k =
    now_without _ _ _ s.contexts context k (rises_distinct s.contexts sound.housed.contexts_rise)
    (same_stays s client context op k)
    (λ e a there. Exited is e (ap (λ (v : Context). v.client)
    (sym (same_Some c a (sym (own_there s client context c own) ∙ there))) ∙ own_client s client context c own))
context_now s client context op _ _ _ sound (Departs is) k =
    now_filter _ _ _ (λ e. not (e.1.client == client)) s.contexts k (at s.contexts k) (at s.contexts k)
    (rises_distinct s.contexts sound.housed.contexts_rise) refl (λ none. none)
    (now_same _ _ _ (at s.contexts k) (λ c i. same_stays s client context op k c))
    (λ a b was stay t. Left is (sym stay.same_client ∙ not_other b.client client t))

-- a process keyring
abbrev ProcessStays : State → ℕ → ℕ → Op → ℕ → Option ℕ → Option ℕ → Type 0
ProcessStays s client context op k before after =
    Stays s client context op before after
    ⊎ ((c : Context) × (context_of s client context ≡ Ok c) × (c.process ≡ k) × ThreadChanges s op before after)

abbrev ProcessNow : State → ℕ → ℕ → Op → ℕ → Option (Option ℕ) → Option (Option ℕ) → Type 0
ProcessNow s client context op k =
    Now (ProcessStays s client context op k) (λ ring. Unit {0}) (λ ring. ring ≡ None)

process_now :
    (s : State) (client context : ℕ) (op : Op) (contexts : Table Context) (processes : Table (Option ℕ))
    (uids : Table UidRings) → IsSound s → Houses s client context op contexts processes uids → (k : ℕ)
    → ProcessNow s client context op k (at s.processes k) (at processes k)
unfolding left
process_now s client context op _ _ _ sound Same k = now_same _ _ _ (at s.processes k) (λ c i. inl (inl refl))
process_now s client context op _ _ _ sound (Begins caller session rings room is none left begun) k =
    now_put _ _ _ s.processes s.next_context k None (sound.housed.no_process s.next_context (omega arith))
    (λ a. inl (inl refl)) (λ e. refl)
process_now s client context op _ _ _ sound (Enters caller session room who left) k =
    now_put _ _ _ s.processes s.next_context k None (sound.housed.no_process s.next_context (omega arith))
    (λ a. inl (inl refl)) (λ e. refl)
process_now s client context op _ _ _ sound (Threads c room is own left) k =
    now_same _ _ _ (at s.processes k) (λ c i. inl (inl refl))
process_now s client context op _ _ _ sound (Alters c f own stays how) k =
    now_same _ _ _ (at s.processes k) (λ c i. inl (inl refl))
process_now s client context op _ _ _ sound (Rings c n own begun) k =
    now_alter _ _ _ s.processes c.process k (λ none. Some n) (λ a. inl (inl refl))
    (λ e a there. inr (
      c,
      own,
      sym e,
      inr (
        sym (ap (λ (o : Option (Option ℕ)). unwrap_or o None) there) ∙ begun.0,
        next_new s n sound begun.1,
      ),
    ))
process_now s client context op _ _ _ sound (Execs c is own) k =
    now_alter _ _ _ s.processes c.process k (λ ring. None) (λ a. inl (inl refl))
    (λ e a there. inr (c, own, sym e, inl (is, refl)))
process_now s client context op _ _ _ sound (Detaches c id gone is own found) k =
    now_map _ _ _ s.processes k (detached gone.0)
    (λ a. inl (detached_stays s client context op c id gone a is own found))
process_now s client context op _ _ _ sound (Exits c is own) k =
    now_unless _ _ _ s.processes c.process k (has_process (without s.contexts context) c.process)
    (rises_distinct s.processes sound.housed.processes_rise) (λ a. inl (inl refl)) (λ a. tt)
process_now s client context op _ _ _ sound (Departs is) k =
    now_kept _ _ _ s.processes k (has_process (contexts_without client s.contexts)) (λ a. inl (inl refl)) (λ a. tt)

-- the keyrings of a uid
abbrev UserStays : State → ℕ → ℕ → Op → UidRings → UidRings → Type 0
UserStays s client context op before after =
    Stays s client context op before.user after.user × Stays s client context op before.session after.session

abbrev UserNow : State → ℕ → ℕ → Op → Option UidRings → Option UidRings → Type 0
UserNow s client context op =
    Now (UserStays s client context op) (λ rings. Unit {0}) (λ rings. IsNew s rings.user × IsNew s rings.session)

user_now :
    (s : State) (client context : ℕ) (op : Op) (contexts : Table Context) (processes : Table (Option ℕ))
    (uids : Table UidRings) → IsSound s → Houses s client context op contexts processes uids → (k : ℕ)
    → UserNow s client context op (at s.uids k) (at uids k)
unfolding left
user_now s client context op _ _ _ sound (Begins caller session rings room is none left begun) k =
    now_put _ _ _ s.uids caller.uid k rings none (λ a. (inl refl, inl refl))
    (λ e. rw begun.1 (
      next_new s s.next_serial sound refl,
      (
        s.next_serial + 1,
        refl,
        sound.unused (s.next_serial + 1) (omega arith),
      ),
    ))
user_now s client context op _ _ _ sound (Detaches c id gone is own found) k =
    now_map _ _ _ s.uids k (rings_without gone.0) (λ a. (
      detached_stays s client context op c id gone a.user is own found,
      detached_stays s client context op c id gone a.session is own found,
    ))
user_now s client context op _ _ _ sound (Exits c is own) k =
    now_unless _ _ _ s.uids c.caller.uid k (has_uid (without s.contexts context) c.caller.uid)
    (rises_distinct s.uids sound.housed.uids_rise) (λ a. (inl refl, inl refl)) (λ a. tt)
user_now s client context op _ _ _ sound (Departs is) k =
    now_kept _ _ _ s.uids k (has_uid (contexts_without client s.contexts)) (λ a. (inl refl, inl refl)) (λ a. tt)
user_now s client context op _ _ _ sound Same k = now_same _ _ _ (at s.uids k) (λ c i. (inl refl, inl refl))
user_now s client context op _ _ _ sound (Enters caller session room who left) k =
    now_same _ _ _ (at s.uids k) (λ c i. (inl refl, inl refl))
user_now s client context op _ _ _ sound (Threads c room is own left) k =
    now_same _ _ _ (at s.uids k) (λ c i. (inl refl, inl refl))
user_now s client context op _ _ _ sound (Alters c f own stays how) k =
    now_same _ _ _ (at s.uids k) (λ c i. (inl refl, inl refl))
user_now s client context op _ _ _ sound (Rings c n own begun) k =
    now_same _ _ _ (at s.uids k) (λ c i. (inl refl, inl refl))
user_now s client context op _ _ _ sound (Execs c is own) k =
    now_same _ _ _ (at s.uids k) (λ c i. (inl refl, inl refl))

-- ---- told by what was and what is there
pub stays_now :
    {X : Type 0} {Stay : X → X → Type 0} {End Begin : X → Type 0} {o p : Option X} (a b : X)
    → Now Stay End Begin o p → o ≡ Some a → p ≡ Some b → Stay a b
stays_now a b NeverThere was is = absurd (none-some a was)
stays_now {Stay = Stay} a b (Stayed c d stay) was is =
    subst (λ z. Stay z b) (same_Some c a was) (subst (Stay c) (same_Some d b is) stay)
stays_now a b (Ended c end) was is = absurd (none-some b is)
stays_now a b (Begun d begin) was is = absurd (none-some a was)

pub ends_now :
    {X : Type 0} {Stay : X → X → Type 0} {End Begin : X → Type 0} {o p : Option X} (a : X)
    → Now Stay End Begin o p → o ≡ Some a → p ≡ None → End a
ends_now a NeverThere was is = absurd (none-some a was)
ends_now a (Stayed c d stay) was is = absurd (none-some d (sym is))
ends_now {End = End} a (Ended c end) was is = subst End (same_Some c a was) end
ends_now a (Begun d begin) was is = absurd (none-some a was)

pub begins_now :
    {X : Type 0} {Stay : X → X → Type 0} {End Begin : X → Type 0} {o p : Option X} (b : X)
    → Now Stay End Begin o p → o ≡ None → p ≡ Some b → Begin b
begins_now b NeverThere was is = absurd (none-some b is)
begins_now b (Stayed c d stay) was is = absurd (none-some c (sym was))
begins_now b (Ended c end) was is = absurd (none-some b is)
begins_now {Begin = Begin} b (Begun d begin) was is = subst Begin (same_Some d b is) begin

-- ---- of a step
attaches :
    (s : State) (event : Event) (new mid : State) → IsSound s → IsSound new
    → HousesIn s event.lane event.ask.context event.ask.op mid → new.contexts ≡ mid.contexts
    → new.processes ≡ mid.processes → new.uids ≡ mid.uids → AttachesByRight s event new
attaches s event new mid sound after houses contexts processes uids =
    let client = event.lane in
    let context = event.ask.context in
    let op = event.ask.op in
    let now : (k : ℕ) → ContextNow s client context op k (at s.contexts k) (at new.contexts k) = λ k.
    subst (λ es. ContextNow s client context op k (at s.contexts k) (at es k)) (sym contexts)
    (context_now s client context op mid.contexts mid.processes mid.uids sound houses k) in
    let process : (k : ℕ) → ProcessNow s client context op k (at s.processes k) (at new.processes k) = λ k.
    subst (λ es. ProcessNow s client context op k (at s.processes k) (at es k)) (sym processes)
    (process_now s client context op mid.contexts mid.processes mid.uids sound houses k) in
    let user : (k : ℕ) → UserNow s client context op (at s.uids k) (at new.uids k) = λ k.
    subst (λ es. UserNow s client context op (at s.uids k) (at es k)) (sym uids)
    (user_now s client context op mid.contexts mid.processes mid.uids sound houses k) in
    record {
      stays = λ k a b was is. stays_now a b (now k) was is;
      ends = λ k a was is. ends_now a (now k) was is;
      begins = λ k b was is. begins_now b (now k) was is;
      process = λ k a b was is. stays_now a b (process k) was is;
      process_begins = λ k b was is. begins_now b (process k) was is;
      process_ends = λ k gone number c there same. not_there (at new.processes c.process)
          (own_process_there new number c there after.placed) (ap (at new.processes) same ∙ gone);
      user = λ k a b was is. stays_now a b (user k) was is;
      user_ends = λ k gone number c there same. not_there (at new.uids c.caller.uid)
          (owner_there new.contexts new.uids number c there after.housed.owned) (ap (at new.uids) same ∙ gone);
      user_begins = λ k b was is. begins_now b (user k) was is;
    }

ended_attaches :
    (s new : State) (event : Event) (reply : Result Answer Errno) → IsSound s → IsSound new
    → Ends s event.lane event.ask.context event.ask.op reply new → AttachesByRight s event new
ended_attaches s new event (Ok answer) sound after ends =
    let mid = ends.mid in
    let law = law_of s event.lane event.ask.context event.ask.op in
    attaches s event new mid sound after (law.fares.meets mid answer ends.meant).houses
    (ap (λ (t : State). t.contexts) ends.posted ∙ ap (λ (t : State). t.contexts) ends.sweep.rest)
    (ap (λ (t : State). t.processes) ends.posted ∙ ap (λ (t : State). t.processes) ends.sweep.rest)
    (ap (λ (t : State). t.uids) ends.posted ∙ ap (λ (t : State). t.uids) ends.sweep.rest)
ended_attaches s new event (Err e) sound after ends =
    attaches s event new s sound after Same (ap (λ (t : State). t.contexts) ends.1)
    (ap (λ (t : State). t.processes) ends.1) (ap (λ (t : State). t.uids) ends.1)

step_attaches :
    (old new : State) (event : Event) → IsSound old → Step old event new
    → AttachesByRight (raised old event.moment) event new
unfolding Step
step_attaches old new event sound step =
    ended_attaches (raised old event.moment) new event event.reply (raised_sound old event.moment sound)
    (step_sound old new event sound step) step

pub all_attach : (start : State) → IsSound start → AllAttachesByRight start
all_attach start sound before old legal event new step =
    step_attaches old new event (legal_sound start before old sound legal) step
