-- What changes of attachments leave a uid to itself.
use Rattle.std.proofs.Common.{[], ⊎_elim, ◌++◌, ◌+◌, ◌==◌, ◌||◌, ◌∙◌, ◌∷◌, ◌≡◌, ◌≢◌, ◌⊎◌, ap, arith, Bool, cond}
use Rattle.std.proofs.Common.{false, filter, inl, inr, List, None, not, Option, option_map, option_to_list, refl}
use Rattle.std.proofs.{Common.{Some, subst, sym, true, true≢false, unwrap_or, ℕ}, lemmas.Bool.Decides.nat_tests}
use Rattle.std.proofs.lemmas.Option.{none-some, same_Some}
use Rattle.std.specs.{List.list_any, Map.values_of}
use Rattle.krs_types.specs.declared.{caller.Caller.Caller, context.{Context.Context, UidRings.UidRings}}
use Rattle.krs_model.specs.Asks.{Entering.{execed, without_thread}, Hello.{first_session, with_context, with_uid}}
use Rattle.krs_model.specs.Asks.Invalidating.{context_without, detached, invalidated, rings_without}
use Rattle.krs_model.specs.Asks.{Joining.{joined_to, session_to}, Leaving.{contexts_without, exited, has_process}}
use Rattle.krs_model.specs.{Asks.Leaving.{has_uid, left}, Confidentiality.{AreUnattached, foreign_keys}}
use Rattle.krs_model.specs.{Confidentiality.foreign_process, Levels.is_in, Making.{thread_to, with_process}}
use Rattle.krs_model.specs.{Making.with_thread, Possession.process_ring, Sound.AllPlaced, State.State, Table.alter}
use Rattle.krs_model.specs.Table.{at, put, Rises, Table, without}
use Rattle.krs_model.proofs.{Isolation.Keys.AttachesNone, Reach.Levels.{apart_is, in_left, in_one, in_right, only_in}}
use Rattle.krs_model.proofs.{Reach.Levels.same_is, Sound.Attached.{attached_alter, attached_at, attached_either}}
use Rattle.krs_model.proofs.Sound.Attached.{attached_fewer, attached_mapped, attached_without, attachments}
use Rattle.krs_model.proofs.Sound.{Attached.{context_keys, own_process, uid_keys}, Changes.{at_change, at_put}}
use Rattle.krs_model.proofs.Sound.{Changes.{IsChanged, IsPut, not_there}, KeyChanges.both_in, NewContexts.placed_in}
use Rattle.krs_model.proofs.Tables.Changes.{at_kept, at_map, at_or_apart, at_without_other}
use Rattle.krs_model.proofs.Tables.{Distinct.at_without_same, Each.kept_is, Entries.rises_distinct}
use Rattle.std.proofs.lemmas.Grind.{common_steps}

pub is_foreign :
    (uid : ℕ) (c : Context) → c.caller.uid ≢ uid
    → (foreign_keys uid c ≡ context_keys c) × (foreign_process uid c ≡ c.process ∷ [])
is_foreign uid c other = search apart_is depth 8

-- foreign keys are those of a context of another uid
pub of_foreign :
    (uid : ℕ) (c : Context) (k : ℕ) → is_in k (foreign_keys uid c) ≡ true
    → (c.caller.uid ≢ uid) × (is_in k (context_keys c) ≡ true)
of_foreign uid c k i = grind (arith, nat_tests, true≢false, same_is)

pub of_foreign_process :
    (uid : ℕ) (c : Context) (p : ℕ) → is_in p (foreign_process uid c) ≡ true → (c.caller.uid ≢ uid) × (p ≡ c.process)
of_foreign_process uid c p i = grind (arith, nat_tests, true≢false, same_is, only_in)

ring_is :
    (o : Option (Option ℕ)) (k : ℕ) → is_in k (option_to_list (unwrap_or o None)) ≡ true → o ≡ Some (Some k)
ring_is None k h = absurd (true≢false (sym h))
ring_is (Some None) k h = absurd (true≢false (sym h))
ring_is (Some (Some n)) k h = ap (λ (z : ℕ). Some (Some z)) (sym (only_in k n h))

-- a context of another uid attaches none of these keys
pub attaches_none :
    (uid : ℕ) (private : ℕ → Bool) (s : State) (number : ℕ) (c : Context) → AreUnattached uid private s
    → at s.contexts number ≡ Some c → c.caller.uid ≢ uid → AttachesNone private s c
attaches_none uid private s number c alone there other = λ k m i.
    let foreign = is_foreign uid c other in
    let keys : is_in k (context_keys c) ≡ true → ⊥ = λ h.
    alone.contexts k m (attached_at (foreign_keys uid) s.contexts number c k there
    (subst (λ (xs : List ℕ). is_in k xs ≡ true) (sym foreign.0) h)) in
    let ring = process_ring s c.process in
    let self : is_in c.process (c.process ∷ []) ≡ true = rw (same_is c.process c.process refl) refl in
    ⊎_elim (λ h. keys (in_left k (option_to_list c.thread) (option_to_list c.session) h))
    (λ h. ⊎_elim
    (λ r. alone.processes c.process k m (ring_is (at s.processes c.process) k r)
    (attached_at (foreign_process uid) s.contexts number c c.process there
    (subst (λ (xs : List ℕ). is_in c.process xs ≡ true) (sym foreign.1) self)))
    (λ r. keys (in_right k (option_to_list c.thread) (option_to_list c.session) r))
    (in_one k (option_to_list ring) (option_to_list c.session) h))
    (in_one k (option_to_list c.thread) (option_to_list ring ++ option_to_list c.session) i)

-- the same attachments
pub same_unattached :
    (uid : ℕ) (private : ℕ → Bool) (old new : State) → new.contexts ≡ old.contexts → new.processes ≡ old.processes
    → new.uids ≡ old.uids → AreUnattached uid private old → AreUnattached uid private new
same_unattached uid private old new contexts processes uids alone = grind (arith, nat_tests)

some_some : (a : Option ℕ) (k : ℕ) → Some a ≡ Some (Some k) → a ≡ Some k
some_some a k h = cc

some_one : (n k : ℕ) → Some n ≡ Some k → n ≡ k
some_one n k h = cc

abbrev AttachesTo : Option (Option ℕ) → ℕ → Type 0
AttachesTo o k = o ≡ Some (Some k)

foreign_own :
    (uid : ℕ) (es : Table Context) (p : ℕ) → is_in p (attachments (foreign_process uid) es) ≡ true
    → is_in p (attachments own_process es) ≡ true
foreign_own uid [] p i = i
foreign_own uid (e ∷ es) p i =
    grind (arith, nat_tests, of_foreign_process, in_left, same_is, in_right, in_one, foreign_own uid es p) steps
    600000

-- a further context of a process of its own, whose session keyring is none of these, or which is of this uid
pub entered_unattached :
    (uid : ℕ) (private : ℕ → Bool) (s : State) (client : ℕ) (c : Caller) (session : Option ℕ)
    → (c.uid ≢ uid → (k : ℕ) → private k ≡ true → is_in k (option_to_list session) ≡ true → ⊥)
    → at s.processes s.next_context ≡ None → AllPlaced s → AreUnattached uid private s
    → AreUnattached uid private (with_context s client c session)
entered_unattached uid private s client c session none unused placed alone =
    let n = s.next_context in
    let no_context : (p : ℕ) → p ≡ n → is_in p (attachments own_process s.contexts) ≡ true → ⊥ = λ p e i.
    not_there (at s.processes p) (placed_in s placed p i) (ap (at s.processes) e ∙ unused) in
    let new : Context = record { client = client; process = n; caller = c; thread = None; session = session } in
    record {
      contexts = λ k m i. ⊎_elim
          (λ h. let r = of_foreign uid new k h in none r.0 k m r.1)
          (λ was. alone.contexts k m was)
          (attached_either (foreign_keys uid) s.contexts n new k i);
      processes = λ p k m there i. ⊎_elim
          (λ (r : IsPut s.processes n None p).
          let no : None ≡ Some k = some_some None k (sym r.1 ∙ there) in none-some k no)
          (λ same. ⊎_elim
          (λ h. let mine_is : p ≡ n = (of_foreign_process uid new p h).1 in
          none-some (Some k) (sym unused ∙ (ap (at s.processes) (sym mine_is) ∙ (sym same ∙ there))))
          (λ was. alone.processes p k m (sym same ∙ there) was)
          (attached_either (foreign_process uid) s.contexts n new p i))
          (at_put s.processes n p None);
      uids = alone.uids;
    }

-- a further context with the caller, the process and the session keyring of one that is there
pub threaded_unattached :
    (uid : ℕ) (private : ℕ → Bool) (s : State) (number : ℕ) (c : Context) → at s.contexts number ≡ Some c
    → AreUnattached uid private s
    → AreUnattached uid private (record s {
      contexts = put s.contexts s.next_context (without_thread c);
      next_context = s.next_context + 1;
    })
threaded_unattached uid private s number c there alone =
    let n = s.next_context in
    let new = without_thread c in
    record {
      contexts = λ k m i. ⊎_elim
          (λ h. let r = of_foreign uid new k h in
          let foreign = is_foreign uid c r.0 in
          let had : is_in k (context_keys c) ≡ true = in_right k (option_to_list c.thread)
          (option_to_list c.session) r.1 in
          alone.contexts k m (attached_at (foreign_keys uid) s.contexts number c k there
          (subst (λ (xs : List ℕ). is_in k xs ≡ true) (sym foreign.0) had)))
          (λ was. alone.contexts k m was)
          (attached_either (foreign_keys uid) s.contexts n new k i);
      processes = λ p k m at_p i. ⊎_elim
          (λ h. alone.processes p k m at_p (attached_at (foreign_process uid) s.contexts number c p there h))
          (λ was. alone.processes p k m at_p was)
          (attached_either (foreign_process uid) s.contexts n new p i);
      uids = alone.uids;
    }

-- a changed context, which attaches a key that is none of these
pub altered_unattached :
    (uid : ℕ) (private : ℕ → Bool) (s : State) (number n : ℕ) (f : Context → Context)
    → ((v : Context) (k : ℕ) → is_in k (foreign_keys uid (f v)) ≡ true
    → (is_in k (foreign_keys uid v) ≡ true) ⊎ (k ≡ n))
    → ((v : Context) (p : ℕ) → is_in p (foreign_process uid (f v)) ≡ true → is_in p (foreign_process uid v) ≡ true)
    → (private n ≡ true → ⊥) → AreUnattached uid private s
    → AreUnattached uid private (record s { contexts = alter s.contexts number f })
altered_unattached uid private s number n f keys process fresh alone = record {
  contexts = λ k m i. ⊎_elim (λ was. alone.contexts k m was)
      (λ (e : k ≡ n). fresh (subst (λ (z : ℕ). private z ≡ true) e m))
      (attached_alter (foreign_keys uid) s.contexts number f k (λ v h. keys v k h) i);
  processes = λ p k m there i. ⊎_elim (λ was. alone.processes p k m there was) (λ (no : ⊥). no)
      (attached_alter (foreign_process uid) s.contexts number f p (λ v h. inl (process v p h)) i);
  uids = alone.uids;
}

foreign_joined :
    (uid : ℕ) (n : ℕ) (v : Context) (k : ℕ) → is_in k (foreign_keys uid (session_to n v)) ≡ true
    → (is_in k (foreign_keys uid v) ≡ true) ⊎ (k ≡ n)
foreign_joined uid n v k i = grind (arith, nat_tests, of_foreign, is_foreign, in_left, only_in, in_one)

foreign_threaded :
    (uid : ℕ) (n : ℕ) (v : Context) (k : ℕ) → is_in k (foreign_keys uid (thread_to n v)) ≡ true
    → (is_in k (foreign_keys uid v) ≡ true) ⊎ (k ≡ n)
foreign_threaded uid n v k i = grind (arith, nat_tests, of_foreign, is_foreign, only_in, in_right, in_one)

-- another session keyring, which is none of these
pub joined_unattached :
    (uid : ℕ) (private : ℕ → Bool) (s : State) (number n : ℕ) → (private n ≡ true → ⊥) → AreUnattached uid private s
    → AreUnattached uid private (joined_to s number n)
joined_unattached uid private s number n fresh alone =
    altered_unattached uid private s number n (session_to n) (foreign_joined uid n) (λ v p h. h) fresh alone

-- a change of one entry is a change to what it comes to
pub alter_to :
    {X : Type 0} (es : Table X) (k : ℕ) (f : X → X) (v : X) → at es k ≡ Some v
    → alter es k f ≡ alter es k (λ any. f v)
alter_to [] k f v h = refl
alter_to (e ∷ es) k f v h = grind (arith, nat_tests, same_Some, alter_to es k f v)

-- another session keyring of a context of this uid, whichever it is
pub own_joined_unattached :
    (uid : ℕ) (private : ℕ → Bool) (s : State) (number n : ℕ) (c : Context) → at s.contexts number ≡ Some c
    → c.caller.uid ≡ uid → AreUnattached uid private s → AreUnattached uid private (joined_to s number n)
own_joined_unattached uid private s number n c there own alone =
    let to : Context → Context = λ any. session_to n c in
    let same = alter_to s.contexts number (session_to n) c there in
    let after : State = record s { contexts = alter s.contexts number to } in
    let still : AreUnattached uid private after = record {
      contexts = λ k m i. ⊎_elim (λ was. alone.contexts k m was) (λ (no : ⊥). no)
          (attached_alter (foreign_keys uid) s.contexts number to k
          (λ v h. inr ((of_foreign uid (session_to n c) k h).0 own)) i);
      processes = λ p k m at_p i. ⊎_elim (λ was. alone.processes p k m at_p was) (λ (no : ⊥). no)
          (attached_alter (foreign_process uid) s.contexts number to p
          (λ v h. inr ((of_foreign_process uid (session_to n c) p h).0 own)) i);
      uids = alone.uids;
    } in
    same_unattached uid private after (joined_to s number n) same refl refl still

-- a new thread keyring
pub thread_unattached :
    (uid : ℕ) (private : ℕ → Bool) (s : State) (number : ℕ) (c : Context) → (private s.next_serial ≡ true → ⊥)
    → AreUnattached uid private s → AreUnattached uid private (with_thread s number c)
thread_unattached uid private s number c fresh alone =
    let n = s.next_serial in
    let still = altered_unattached uid private s number n (thread_to n) (foreign_threaded uid n)
    (λ v p h. h) fresh alone in
    search same_unattached depth 8

ring_changed :
    (f : Option ℕ → Option ℕ) (o : Option (Option ℕ)) (k : ℕ) (P : Type 0)
    → ((v : Option ℕ) → f v ≡ Some k → (v ≡ Some k) ⊎ P) → AttachesTo (option_map f o) k → AttachesTo o k ⊎ P
ring_changed f None k P was h = cc
ring_changed f (Some v) k P was h = grind (arith, common_steps, ⊎_elim, some_some)

-- a changed process, which attaches nothing further but a key that is none of these
pub process_unattached :
    (uid : ℕ) (private : ℕ → Bool) (s : State) (q : ℕ) (f : Option ℕ → Option ℕ)
    → ((v : Option ℕ) (k : ℕ) → private k ≡ true → f v ≡ Some k → (v ≡ Some k) ⊎ ⊥) → AreUnattached uid private s
    → AreUnattached uid private (record s { processes = alter s.processes q f })
process_unattached uid private s q f keeps alone = record {
  contexts = alone.contexts;
  processes = λ p k m there i. ⊎_elim
      (λ (r : IsChanged s.processes q f p). ⊎_elim
      (λ was. alone.processes p k m was i) (λ (no : ⊥). no)
      (ring_changed f (at s.processes p) k ⊥ (λ v h. keeps v k m h) (sym r.1 ∙ there)))
      (λ same. alone.processes p k m (sym same ∙ there) i) (at_change s.processes q p f);
  uids = alone.uids;
}

-- a new process keyring
pub with_process_unattached :
    (uid : ℕ) (private : ℕ → Bool) (s : State) (c : Context) → (private s.next_serial ≡ true → ⊥)
    → AreUnattached uid private s → AreUnattached uid private (with_process s c)
with_process_unattached uid private s c fresh alone =
    let n = s.next_serial in
    let still = process_unattached uid private s c.process (λ none. Some n)
    (λ v k m e. absurd (fresh (subst (λ (z : ℕ). private z ≡ true) (sym (some_one n k e)) m))) alone in
    search same_unattached depth 8

-- fewer contexts
pub fewer_unattached :
    (uid : ℕ) (private : ℕ → Bool) (s : State) (p : ℕ × Context → Bool) → AreUnattached uid private s
    → AreUnattached uid private (record s { contexts = filter p s.contexts })
fewer_unattached uid private s keeps alone = record {
  contexts = λ k m i. alone.contexts k m (attached_fewer (foreign_keys uid) keeps s.contexts k i);
  processes = λ p k m there i. alone.processes p k m there (attached_fewer (foreign_process uid) keeps s.contexts p i);
  uids = alone.uids;
}

foreign_unthreaded :
    (uid n : ℕ) (v : Context) (k : ℕ) → is_in k (foreign_keys uid (without_thread v)) ≡ true
    → (is_in k (foreign_keys uid v) ≡ true) ⊎ (k ≡ n)
foreign_unthreaded uid n v k i = grind (arith, nat_tests, of_foreign, is_foreign, in_right)

pub execed_unattached :
    (uid : ℕ) (private : ℕ → Bool) (s : State) (number : ℕ) (c : Context) → (private s.next_serial ≡ true → ⊥)
    → AreUnattached uid private s → AreUnattached uid private (execed s number c)
execed_unattached uid private s number c fresh alone =
    let n = s.next_serial in
    let one : State = record s { contexts = alter s.contexts number without_thread } in
    let first : AreUnattached uid private one =
    altered_unattached uid private s number n without_thread (foreign_unthreaded uid n) (λ v p h. h) fresh alone in
    let keeps : ℕ × Context → Bool = λ e. not (e.1.process == c.process) || (e.0 == number) in
    let second = fewer_unattached uid private one keeps first in
    let none : Option ℕ → Option ℕ = λ ring. None in
    process_unattached uid private (record one { contexts = filter keeps one.contexts }) c.process none
    (λ v k m e. absurd (none-some k e)) second

-- the two new keyrings of a uid
pub with_uid_unattached :
    (uid : ℕ) (private : ℕ → Bool) (s : State) (c : Caller) (rings : Option UidRings)
    → (private s.next_serial ≡ true → ⊥) → (private (s.next_serial + 1) ≡ true → ⊥) → AreUnattached uid private s
    → AreUnattached uid private (with_uid s c rings)
with_uid_unattached uid private s c (Some rings) first second alone = alone
with_uid_unattached uid private s c None first second alone =
    grind (arith, nat_tests, only_in, in_one, same_Some, at_put)

-- the session keyring that HELLO of another uid takes is none of these
pub first_session_apart :
    (uid : ℕ) (private : ℕ → Bool) (s : State) (c : Caller) (rings : Option UidRings) (k : ℕ)
    → at s.uids c.uid ≡ rings → (private (s.next_serial + 1) ≡ true → ⊥) → AreUnattached uid private s → c.uid ≢ uid
    → private k ≡ true → is_in k (option_to_list (first_session s.next_serial rings)) ≡ true → ⊥
first_session_apart uid private s c (Some rings) k is fresh alone other m i =
    alone.uids c.uid k rings m other is (in_right k (option_to_list rings.user) (option_to_list rings.session) i)
first_session_apart uid private s c None k is fresh alone other m i = grind (arith, common_steps, only_in)

detached_some :
    (serial k : ℕ) (o : Option ℕ) → detached serial o ≡ Some k → o ≡ Some k
detached_some serial k None h = cc
detached_some serial k (Some j) h = grind (arith, nat_tests, none-some)

foreign_without :
    (uid serial : ℕ) (v : Context) (k : ℕ) → is_in k (foreign_keys uid (context_without serial v)) ≡ true
    → is_in k (foreign_keys uid v) ≡ true
foreign_without uid serial v k i = grind (arith, nat_tests, of_foreign, is_foreign, both_in)

ring_detached :
    (serial : ℕ) (o : Option (Option ℕ)) (k : ℕ) → AttachesTo (option_map (detached serial) o) k → AttachesTo o k
ring_detached serial None k h = cc
ring_detached serial (Some v) k h = grind (arith, common_steps, detached_some, some_some)

rings_detached :
    (serial : ℕ) (o : Option UidRings) (rings : UidRings) (k : ℕ)
    → option_map (rings_without serial) o ≡ Some rings → is_in k (uid_keys rings) ≡ true
    → (was : UidRings) × (o ≡ Some was) × (is_in k (uid_keys was) ≡ true)
rings_detached serial None rings k h i = absurd (none-some rings h)
rings_detached serial (Some v) rings k h i = grind (arith, nat_tests, same_Some, both_in)

-- a key out of every attachment
pub invalidated_unattached :
    (uid : ℕ) (private : ℕ → Bool) (s : State) (serial : ℕ) → AreUnattached uid private s
    → AreUnattached uid private (invalidated s serial)
invalidated_unattached uid private s serial alone = record {
  contexts = λ k m i. alone.contexts k m
      (attached_mapped (foreign_keys uid) (context_without serial) s.contexts k
      (λ v h. foreign_without uid serial v k h) i);
  processes = λ p k m there i. alone.processes p k m
      (ring_detached serial (at s.processes p) k (sym (at_map (detached serial) s.processes p) ∙ there))
      (attached_mapped (foreign_process uid) (context_without serial) s.contexts p (λ v h. h) i);
  uids = grind (arith, nat_tests, rings_detached, at_map);
}

-- all that a client attaches is let go of
pub left_unattached :
    (uid : ℕ) (private : ℕ → Bool) (s : State) (client : ℕ) → AreUnattached uid private s
    → AreUnattached uid private (left s client)
unfolding left
left_unattached uid private s client alone =
    let contexts = contexts_without client s.contexts in
    record {
      contexts = λ k m i. alone.contexts k m (attached_fewer (foreign_keys uid) _ s.contexts k i);
      processes = λ p k m there i. alone.processes p k m
          (kept_is (has_process contexts p) (at s.processes p) (Some k)
          (sym (at_kept (has_process contexts) s.processes p) ∙ there))
          (attached_fewer (foreign_process uid) _ s.contexts p i);
      uids = λ v k rings m other there i. alone.uids v k rings m other
          (kept_is (has_uid contexts v) (at s.uids v) rings (sym (at_kept (has_uid contexts) s.uids v) ∙ there)) i;
    }

-- where an entry goes whose test fails, the others stay as they were
was_unless :
    {X : Type 0} (es : Table X) (k q : ℕ) (stays : Bool) (x : X) → (stays ≡ false → q ≡ k → ⊥)
    → at (cond stays es (without es k)) q ≡ Some x → at es q ≡ Some x
was_unless es k q true x apart h = h
was_unless es k q false x apart h = grind (arith, nat_tests, at_without_other, at_or_apart)

-- a process has a context
pub process_of_one :
    (es : Table Context) (p : ℕ)
    → list_any (λ c. c.process == p) (values_of es) ≡ is_in p (attachments own_process es)
process_of_one [] p = refl
process_of_one (e ∷ es) p = ap (λ (b : Bool). (e.1.process == p) || b) (process_of_one es p)

was_left :
    {X : Type 0} (es : Table X) (k q : ℕ) (stays : Bool) (x : X) → Rises es
    → at (cond stays es (without es k)) q ≡ Some x → at es q ≡ Some x
was_left es k q true x rises h = h
was_left es k q false x rises h =
    grind (arith, common_steps, nat_tests, none-some, at_without_same, rises_distinct, at_without_other, at_or_apart)

-- one context less, and its process and its uid where they have none left
pub exited_unattached :
    (uid : ℕ) (private : ℕ → Bool) (s : State) (number : ℕ) (c : Context) → Rises s.uids → AreUnattached uid private s
    → AreUnattached uid private (exited s number c)
exited_unattached uid private s number c rises alone =
    let contexts = without s.contexts number in
    record {
      contexts = λ k m i. alone.contexts k m (attached_without (foreign_keys uid) s.contexts number k i);
      processes = λ p k m there i.
          let has : has_process contexts p ≡ true = process_of_one contexts p ∙ foreign_own uid contexts p i in
          alone.processes p k m
          (was_unless s.processes c.process p (has_process contexts c.process) (Some k)
          (λ gone same. true≢false (sym has ∙ (ap (has_process contexts) same ∙ gone))) there)
          (attached_without (foreign_process uid) s.contexts number p i);
      uids = λ v k rings m other there i.
          alone.uids v k rings m other
          (was_left s.uids c.caller.uid v (has_uid contexts c.caller.uid) rings rises there) i;
    }
