-- The keys that an ask for a uid makes, no context of another uid attaches.
use Rattle.std.proofs.Common.{[], ⊎_elim, ◌∙◌, ◌∷◌, ◌≡◌, ◌⊎◌, ap, arith, Bool, Err, false, inr, IsSome, leb-true}
use Rattle.std.proofs.Common.{List, nat_le, nat_lt, None, Ok, Option, option_to_list, refl, Result, Some, subst, sym}
use Rattle.std.proofs.{Common.{true, true≢false, ℕ}, lemmas.Bool.Decides.nat_tests}
use Rattle.krs_types.specs.{Caller.caller_check, declared.ask.{Answer.Answer, Op.{Op, TheVariants.Hello}}}
use Rattle.krs_types.specs.declared.{caller.Caller.Caller, context.{Context.Context, UidRings.UidRings}}
use Rattle.krs_types.specs.declared.{errno.Errno.Errno, event.Event.Event}
use Rattle.krs_types.proofs.Names.{and_left, and_right}
use Rattle.krs_model.specs.Asks.Hello.{first_session, has_context_left, has_numbers, hello, with_uid}
use Rattle.krs_model.specs.Confidentiality.{ActsAs, AreUnattached, foreign_keys, foreign_process, GivesAway}
use Rattle.krs_model.specs.Confidentiality.{HasToItself, IsFor, IsGivenAway, may_make, StaysPrivate, with_made}
use Rattle.krs_model.specs.{Levels.is_in, Lookup.context_of, Notes.Posting.Post, Search.found, Sound.IsSound}
use Rattle.krs_model.specs.{State.{raised, State}, Step.{Ends, outcome_of, posts_by, Step}, Sweep.IsSweep}
use Rattle.krs_model.specs.Table.{alter, at, Table}
use Rattle.krs_model.proofs.Asks.Houses.{Alters, Begins, Departs, Detaches, Enters, Execs, Exits, Forked, Houses}
use Rattle.krs_model.proofs.Asks.{Houses.{Named, Rings, Same, Threads}, Later.same_ok, Laws.law_of, Outcomes.Meets}
use Rattle.krs_model.proofs.{Asks.Outcomes.{meets_after, meets_ok}, Isolation.Attachments.alter_to}
use Rattle.krs_model.proofs.Isolation.Attachments.{entered_unattached, of_foreign, of_foreign_process}
use Rattle.krs_model.proofs.Isolation.{Attachments.same_unattached, Guarded.{uid_placed, uid_processes}}
use Rattle.krs_model.proofs.Isolation.Steps.{not_given, raised_alone, step_alone, step_guarded}
use Rattle.krs_model.proofs.{Lookups.Serials.own_there, Reach.Levels.{in_left, in_one, in_right, same_is, true_or}}
use Rattle.krs_model.proofs.Sound.Attached.{attached_alter, attached_at, attached_entry, attachments, context_keys}
use Rattle.krs_model.proofs.Sound.{Attached.{in_context, in_process, in_uid, uid_keys}, Changes.{at_change, at_put}}
use Rattle.krs_model.proofs.Sound.{Changes.{IsChanged, not_there, Stands}, Steps.{raised_sound, sound_stands}}
use Rattle.krs_model.proofs.Tables.Entries.{rises_distinct}

-- the serials from this one on
abbrev pub late : ℕ → ℕ → Bool
late n k = nat_le n k

foreign_in :
    (uid : ℕ) (es : Table Context) (k : ℕ) → is_in k (attachments (foreign_keys uid) es) ≡ true
    → is_in k (attachments context_keys es) ≡ true
foreign_in uid [] k i = i
foreign_in uid (e ∷ es) k i = grind (arith, nat_tests, in_left, of_foreign, in_right, in_one, foreign_in uid es k)

-- a serial that is not given yet is attached nowhere
late_unattached :
    (uid : ℕ) (private : ℕ → Bool) (s : State) → Stands s → HasToItself uid private s
    → AreUnattached uid (late s.next_serial) s
late_unattached uid private s stands alone =
    let n = s.next_serial in
    let none : (k : ℕ) → late n k ≡ true → IsSome (at s.keys k) → ⊥ = λ k m there.
    not_there (at s.keys k) there (stands.unused k (leb-true n k m)) in
    record {
      contexts = λ k m i. none k m (stands.attached k (in_context s k (foreign_in uid s.contexts k i)));
      processes = λ p k m is i. none k m (stands.attached k (in_process s k
          (attached_at option_to_list s.processes p (Some k) k is (rw (same_is k k refl) refl))));
      uids = λ v k rings m other is i. none k m (stands.attached k (in_uid s k
          (attached_at uid_keys s.uids v rings k is i)));
    }

-- a changed context of this uid
own_altered :
    (uid : ℕ) (private : ℕ → Bool) (s : State) (number : ℕ) (f : Context → Context) (c : Context)
    → at s.contexts number ≡ Some c → (f c).caller.uid ≡ uid
    → AreUnattached uid private s → AreUnattached uid private (record s { contexts = alter s.contexts number f })
own_altered uid private s number f c there own alone =
    let to : Context → Context = λ any. f c in
    let same = alter_to s.contexts number f c there in
    let after : State = record s { contexts = alter s.contexts number to } in
    let still : AreUnattached uid private after = record {
      contexts = λ k m i. ⊎_elim (λ was. alone.contexts k m was) (λ (no : ⊥). no)
          (attached_alter (foreign_keys uid) s.contexts number to k (λ v h. inr ((of_foreign uid (f c) k h).0 own)) i);
      processes = λ p k m at_p i. ⊎_elim (λ was. alone.processes p k m at_p was) (λ (no : ⊥). no)
          (attached_alter (foreign_process uid) s.contexts number to p
          (λ v h. inr ((of_foreign_process uid (f c) p h).0 own)) i);
      uids = alone.uids;
    } in
    same_unattached uid private after (record s { contexts = alter s.contexts number f }) same refl refl still

-- a process of a context of this uid has none of another
process_apart :
    (uid : ℕ) (s : State) (number : ℕ) (c : Context) → IsSound s → at s.contexts number ≡ Some c → c.caller.uid ≡ uid
    → is_in c.process (attachments (foreign_process uid) s.contexts) ≡ true → ⊥
process_apart uid s number c sound there own i =
    let distinct = rises_distinct s.contexts sound.housed.contexts_rise in
    let e = attached_entry (foreign_process uid) s.contexts c.process distinct i in
    let foreign = of_foreign_process uid e.value c.process e.holds in
    foreign.0 (sym (sound.used.alike number e.number c e.value there e.there foreign.1) ∙ own)

-- a new process keyring of a process of this uid
own_ring_unattached :
    (uid : ℕ) (private : ℕ → Bool) (s : State) (number n : ℕ) (c : Context) → IsSound s
    → at s.contexts number ≡ Some c → c.caller.uid ≡ uid → AreUnattached uid private s
    → AreUnattached uid private (record s { processes = alter s.processes c.process (λ none. Some n) })
own_ring_unattached uid private s number n c sound there own alone = record {
  contexts = alone.contexts;
  processes = λ p k m at_p i. ⊎_elim
      (λ (r : IsChanged s.processes c.process (λ none. Some n) p). process_apart uid s number c sound there own
      (subst (λ (z : ℕ). is_in z (attachments (foreign_process uid) s.contexts) ≡ true) r.0 i))
      (λ same. alone.processes p k m (sym same ∙ at_p) i)
      (at_change s.processes c.process p (λ none. Some n));
  uids = alone.uids;
}

-- a context is of one uid
pub same_owner :
    (uid : ℕ) (s : State) (client context : ℕ) (c : Context) → ActsAs uid s client context
    → context_of s client context ≡ Ok c → c.caller.uid ≡ uid
same_owner uid s client context c ask own = search same_ok depth 8

abbrev is_hello : Op → Bool
is_hello (Hello caller) = true
is_hello op = false

-- whatever an ask that may make a key, but HELLO, does in a context of this uid to contexts, processes and uids
acts_leave :
    (uid : ℕ) (private : ℕ → Bool) (s new : State) (client context : ℕ) (op : Op) (contexts : Table Context)
    (processes : Table (Option ℕ)) (uids : Table UidRings) → IsSound s → may_make op ≡ true
    → is_hello op ≡ false → ActsAs uid s client context → new.contexts ≡ contexts
    → new.processes ≡ processes → new.uids ≡ uids → Houses s client context op contexts processes uids
    → AreUnattached uid private s → AreUnattached uid private new
acts_leave uid private s new client context op _ _ _ sound may other acts a b d Same alone =
    same_unattached uid private s new a b d alone
acts_leave uid private s new client context op _ _ _ sound may other acts a b d
    (Begins c session rings room is none left begun) alone =
    absurd (true≢false (sym (ap is_hello is) ∙ other))
acts_leave uid private s new client context op _ _ _ sound may other acts a b d
    (Enters _ _ _ (Named c rings is known) _) alone =
    absurd (true≢false (sym (ap is_hello is) ∙ other))
acts_leave uid private s new client context op _ _ _ sound may other acts a b d
    (Enters _ _ _ (Forked c is own) _) alone =
    absurd (true≢false (sym may ∙ ap may_make is))
acts_leave uid private s new client context op _ _ _ sound may other acts a b d (Threads c room is own left) alone =
    absurd (true≢false (sym may ∙ ap may_make is))
acts_leave uid private s new client context op _ _ _ sound may other acts a b d (Alters c f own stays how) alone =
    let owner = ap (λ (z : Caller). z.uid) (stays.caller c) ∙ same_owner uid s client context c acts own in
    same_unattached uid private (record s { contexts = alter s.contexts context f }) new a b d
    (own_altered uid private s context f c (own_there s client context c own) owner alone)
acts_leave uid private s new client context op _ _ _ sound may other acts a b d (Rings c n own begun) alone =
    same_unattached uid private (record s { processes = alter s.processes c.process (λ none. Some n) }) new a b d
    (own_ring_unattached uid private s context n c sound (own_there s client context c own)
    (same_owner uid s client context c acts own) alone)
acts_leave uid private s new client context op _ _ _ sound may other acts a b d (Execs c is own) alone =
    absurd (true≢false (sym may ∙ ap may_make is))
acts_leave uid private s new client context op _ _ _ sound may other acts a b d
    (Detaches c id gone is own found) alone =
    absurd (true≢false (sym may ∙ ap may_make is))
acts_leave uid private s new client context op _ _ _ sound may other acts a b d (Exits c is own) alone =
    absurd (true≢false (sym may ∙ ap may_make is))
acts_leave uid private s new client context op _ _ _ sound may other acts a b d (Departs is) alone =
    absurd (true≢false (sym may ∙ ap may_make is))

-- so does any such ask, where it is accepted
outcome_leaves_by :
    (uid : ℕ) (private : ℕ → Bool) (s : State) (client context : ℕ) (op : Op) → IsSound s → may_make op ≡ true
    → is_hello op ≡ false → ActsAs uid s client context → AreUnattached uid private s
    → Meets (AreUnattached uid private) (outcome_of s client context op)
outcome_leaves_by uid private s client context op sound may other acts alone = record {
  meets = λ new answer is. acts_leave uid private s new client context op new.contexts new.processes new.uids sound may
      other acts refl refl refl ((law_of s client context op).fares.meets new answer is).houses alone;
}

own_uid_unattached :
    (uid : ℕ) (private : ℕ → Bool) (s : State) (c : Caller) (rings : Option UidRings) → c.uid ≡ uid
    → AreUnattached uid private s → AreUnattached uid private (with_uid s c rings)
own_uid_unattached uid private s c (Some rings) own alone = alone
own_uid_unattached uid private s c None own alone = grind (arith, nat_tests, at_put)

hello_leaves :
    (uid : ℕ) (private : ℕ → Bool) (s : State) (client : ℕ) (c : Caller) → Stands s → c.uid ≡ uid
    → AreUnattached uid private s → Meets (AreUnattached uid private) (hello s client c)
unfolding hello
hello_leaves uid private s client c stands own alone =
    let rings = at s.uids c.uid in
    meets_after (caller_check c) _ (λ known _.
    meets_after (has_context_left s client) _ (λ room _.
    meets_after (has_numbers s rings) _ (λ numbers _.
    meets_ok (entered_unattached uid private (with_uid s c rings) client c (first_session s.next_serial rings)
    (λ other k m i. other own)
    (uid_processes s c rings (stands.housed.no_process s.next_context (omega arith)))
    (uid_placed s c rings stands.placed) (own_uid_unattached uid private s c rings own alone)))))

outcome_leaves :
    (uid : ℕ) (private : ℕ → Bool) (s : State) (client context : ℕ) (op : Op) → IsSound s → may_make op ≡ true
    → IsFor uid s client context op → AreUnattached uid private s
    → Meets (AreUnattached uid private) (outcome_of s client context op)
outcome_leaves uid private s client context (Hello caller) sound may own alone =
    hello_leaves uid private s client caller (sound_stands s sound) own alone
outcome_leaves uid private s client context op sound may acts alone =
    outcome_leaves_by uid private s client context op sound may refl acts alone

swept_leaves :
    (uid : ℕ) (private : ℕ → Bool) (old new : State) → IsSweep old new → AreUnattached uid private old
    → AreUnattached uid private new
swept_leaves uid private old new s alone = grind (arith, nat_tests, same_unattached)

ended_leaves :
    (uid : ℕ) (private : ℕ → Bool) (s new : State) (client context : ℕ) (op : Op)
    (reply : Result Answer Errno) → IsSound s
    → may_make op ≡ true → IsFor uid s client context op → Ends s client context op reply new
    → AreUnattached uid private s → AreUnattached uid private new
ended_leaves uid private s new client context op (Ok answer) sound may ask serves alone =
    let mid = (outcome_leaves uid private s client context op sound may ask alone).meets serves.mid answer
    serves.meant in
    let swept = swept_leaves uid private serves.mid serves.swept serves.sweep mid in
    let ps : List Post = posts_by s client context op answer serves.swept.keys in
    grind (arith, nat_tests, same_unattached)
ended_leaves uid private s new client context op (Err e) sound may ask ends alone =
    subst (AreUnattached uid private) (sym ends.1) alone

-- the clock is of no account
raised_acts :
    (uid : ℕ) (s : State) (moment client number : ℕ) → ActsAs uid s client number
    → ActsAs uid (raised s moment) client number
unfolding context_of
raised_acts uid s moment client number acts = record { context = acts.context; there = acts.there; own = acts.own }

same_for :
    (uid : ℕ) (s : State) (moment client context : ℕ) (op : Op) → IsFor uid s client context op
    → IsFor uid (raised s moment) client context op
same_for uid s moment client context (Hello caller) h = h
same_for uid s moment client context op h = raised_acts uid s moment client context h

step_late :
    (uid : ℕ) (private : ℕ → Bool) (old new : State) (event : Event) → IsSound old → HasToItself uid private old
    → Step old event new → may_make event.ask.op ≡ true → IsFor uid old event.lane event.ask.context event.ask.op
    → AreUnattached uid (late old.next_serial) new
unfolding Step
step_late uid private old new event sound alone step may ask =
    let up = raised old event.moment in
    let above = raised_sound old event.moment sound in
    ended_leaves uid (late old.next_serial) up new event.lane event.ask.context event.ask.op event.reply above may
    (same_for uid old event.moment event.lane event.ask.context event.ask.op ask) step
    (late_unattached uid private up (sound_stands up above) (raised_alone uid private old event.moment alone))

-- made between two states
pub record IsNew (old new : State) (k : ℕ) : Type 0 where
  pub late : late old.next_serial k ≡ true
  pub given : nat_lt k new.next_serial ≡ true

pub of_made :
    (private : ℕ → Bool) (old new : State) (k : ℕ) → with_made private old new k ≡ true
    → (private k ≡ true) ⊎ IsNew old new k
of_made private old new k m = grind (arith, nat_tests, and_left, and_right, true_or)

-- some of these keys are as unattached as all
some_unattached :
    (uid : ℕ) (private after : ℕ → Bool) (s : State) → ((k : ℕ) → after k ≡ true → private k ≡ true)
    → AreUnattached uid private s → AreUnattached uid after s
some_unattached uid private after s part alone = grind (arith, nat_tests)

-- what one or the other set is not attached to, both are not
both_unattached :
    (uid : ℕ) (private : ℕ → Bool) (old new : State) → AreUnattached uid private new
    → AreUnattached uid (late old.next_serial) new → AreUnattached uid (with_made private old new) new
both_unattached uid private old new was made = grind (arith, nat_tests, of_made)

-- some of the keys that the uid had to itself, and of those that an ask for it makes, it has so where none is given
-- away
pub some_grow :
    (uid : ℕ) (private after : ℕ → Bool) (old new : State) (event : Event) → IsSound old → HasToItself uid private old
    → Step old event new → ((k : ℕ) → after k ≡ true → with_made private old new k ≡ true)
    → may_make event.ask.op ≡ true
    → IsFor uid old event.lane event.ask.context event.ask.op → (IsGivenAway uid after new.keys → ⊥)
    → HasToItself uid after new
some_grow uid private after old new event sound alone step part may ask none =
    let was = step_guarded uid private old new event sound alone step in
    let made = step_late uid private old new event sound alone step may ask in
    record {
      made = grind (arith, nat_tests, of_made);
      enclosed = not_given uid after new.keys none;
      unattached = some_unattached uid (with_made private old new) after new part
          (both_unattached uid private old new was.unattached made);
    }

pub step_grows :
    (uid : ℕ) (private : ℕ → Bool) (old new : State) (event : Event) → IsSound old → HasToItself uid private old
    → Step old event new → may_make event.ask.op ≡ true → IsFor uid old event.lane event.ask.context event.ask.op
    → (IsGivenAway uid (with_made private old new) new.keys → ⊥) → HasToItself uid (with_made private old new) new
step_grows uid private old new event sound alone step may ask none =
    some_grow uid private (with_made private old new) old new event sound alone step (λ k m. m) may ask none

-- some of the keys that the uid had to itself it has so, where none of them is given away
some_stay :
    (uid : ℕ) (private after : ℕ → Bool) (old new : State) (event : Event) → IsSound old → HasToItself uid private old
    → Step old event new → ((k : ℕ) → after k ≡ true → private k ≡ true) → (IsGivenAway uid after new.keys → ⊥)
    → HasToItself uid after new
some_stay uid private after old new event sound alone step part none =
    let was = step_guarded uid private old new event sound alone step in
    grind (arith, nat_tests, not_given, some_unattached)

-- so a uid goes on to have keys to itself
pub goes_alone :
    (uid : ℕ) (private after : ℕ → Bool) (old new : State) (event : Event) → IsSound old → HasToItself uid private old
    → Step old event new → StaysPrivate uid private old event new after → HasToItself uid after new
goes_alone uid private after old new event sound alone step goes =
    ⊎_elim
    (λ (h : (after ≡ private) × (GivesAway uid private old event new → ⊥)).
    subst (λ (set : ℕ → Bool). HasToItself uid set new) (sym h.0)
    (step_alone uid private old new event sound alone step h.1))
    (λ rest. ⊎_elim
    (λ (h : ((k : ℕ) → after k ≡ true → private k ≡ true) × (IsGivenAway uid after new.keys → ⊥)).
    some_stay uid private after old new event sound alone step h.0 h.1)
    (λ (h : ((k : ℕ) → after k ≡ true → with_made private old new k ≡ true) × (may_make event.ask.op ≡ true)
    × IsFor uid old event.lane event.ask.context event.ask.op × (IsGivenAway uid after new.keys → ⊥)).
    some_grow uid private after old new event sound alone step h.0 h.1 h.2 h.3) rest) goes
