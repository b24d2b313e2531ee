-- An ask in no context of a uid drops none of the keys that the uid has to itself: what holds them stays.
use Rattle.std.proofs.Common.{[], ⊎_elim, ◌++◌, ◌==◌, ◌||◌, ◌∙◌, ◌∷◌, ◌≡◌, ◌≢◌, ◌⊎◌, ap, arith, Bool, cond, Err}
use Rattle.std.proofs.Common.{false, filter, inl, inr, IsOk, IsSome, List, None, not, Ok, Option, option_map}
use Rattle.std.proofs.Common.{option_to_list, refl, Result, Some, subst, sym, true, true≢false, ℕ, ℤ}
use Rattle.std.proofs.lemmas.{Bool.Decides.nat_tests, Option.{none-some, same_Some}}
use Rattle.krs_types.specs.declared.ask.{Answer.Answer, Op.{Op, TheVariants.{Invalidate, Leave}}}
use Rattle.krs_types.specs.declared.{context.{Context.Context, UidRings.UidRings}, errno.Errno.Errno}
use Rattle.krs_types.specs.{declared.{event.Event.Event, rights.Want.TheVariants.Granted}, Rights.SEARCH}
use Rattle.krs_model.specs.Asks.{Invalidating.{context_without, detached, rings_without}, Leaving.contexts_without}
use Rattle.krs_model.specs.Asks.{Leaving.{has_process, has_uid, left}, Linked.without_link}
use Rattle.krs_model.specs.Confidentiality.{AreUnchanged, foreign_keys, foreign_process, HasToItself, IsAskedBy}
use Rattle.krs_model.specs.{Levels.is_in, Lookup.{context_of, serial_of}, Possession.links_of_content}
use Rattle.krs_model.specs.{Reach.links_of_key_at, Sound.IsSound, State.{Key, raised, State}, Step.{Ends, Serves}}
use Rattle.krs_model.specs.{Step.Step, Sweep.{Attached, context_roots, IsHeld, IsSweep, Linked, links_of_key}}
use Rattle.krs_model.specs.{Sweep.{process_roots, roots, uid_roots}, Table.{alter, at, put, Table}}
use Rattle.krs_model.proofs.Asks.Houses.{Alters, Begins, Departs, Detaches, Enters, Execs, Exits, Houses, Rings, Same}
use Rattle.krs_model.proofs.{Asks.{Houses.Threads, Laws.law_of}, Isolation.Attachments.is_foreign}
use Rattle.krs_model.proofs.Isolation.{Guarded.{none_found, NotBy}, Keys.false_where, Steps.raised_alone}
use Rattle.krs_model.proofs.Isolation.{Steps.same_context, Untouched.{AreSame, KeysAfter}}
use Rattle.krs_model.proofs.{Lookups.Serials.{found_serial, own_there}, Reach.Levels.{in_left, in_one, in_right}}
use Rattle.krs_model.proofs.{Reach.Levels.{only_in, same_is}, Sound.Attached.{attached_at, attached_by}}
use Rattle.krs_model.proofs.Sound.Attached.{attached_entry, context_keys, in_context, in_process, in_uid, uid_keys}
use Rattle.krs_model.proofs.Sound.{Changes.{at_change, at_put, was_mapped}, Steps.raised_sound}
use Rattle.krs_model.proofs.{Sound.Steps.sound_stands, Tables.{Changes.{at_kept, at_map}, Entries.entry_passes}}
use Rattle.krs_model.proofs.Tables.Entries.{filter_still, IsEntry, rises_distinct, still_unless}
use Rattle.std.proofs.lemmas.Grind.{common_steps}

-- no context of the uid asks, nor leaves
pub record IsOutside (uid : ℕ) (s : State) (client context : ℕ) (op : Op) : Type 0 where
  pub other : NotBy uid s client context
  pub stays : op ≡ Leave → (n : ℕ) (c : Context) → at s.contexts n ≡ Some c → c.client ≡ client → c.caller.uid ≢ uid

put_stays :
    {X : Type 0} (es : Table X) (n k : ℕ) (x v : X) → at es n ≡ None → at es k ≡ Some v → at (put es n x) k ≡ Some v
put_stays es n k x v none there = grind (arith, nat_tests, none-some, at_put)

alter_stays :
    {X : Type 0} (es : Table X) (n k : ℕ) (f : X → X) (v : X) → (k ≡ n → ⊥) → at es k ≡ Some v
    → at (alter es n f) k ≡ Some v
alter_stays es n k f v apart there = grind (arith, common_steps, ⊎_elim, at_change)

-- what attaches one of these keys is of the uid
own_context :
    (uid : ℕ) (private : ℕ → Bool) (s : State) (n k : ℕ) (c : Context) → HasToItself uid private s → private k ≡ true
    → at s.contexts n ≡ Some c → is_in k (context_keys c) ≡ true → c.caller.uid ≡ uid
own_context uid private s n k c alone m there i =
    elim (c.caller.uid == uid) as (λ b. (c.caller.uid == uid) ≡ b → c.caller.uid ≡ uid) [
      | true ↦ λ t. grind (arith, nat_tests)
      | false ↦ λ t. absurd (alone.unattached.contexts k m (attached_at (foreign_keys uid) s.contexts n c k there
          (subst (λ (xs : List ℕ). is_in k xs ≡ true)
          (sym (is_foreign uid c (λ e. true≢false (sym (same_is c.caller.uid uid e) ∙ t))).0) i)))
    ] refl

own_process :
    (uid : ℕ) (private : ℕ → Bool) (s : State) (n p k : ℕ) (c : Context) → HasToItself uid private s
    → private k ≡ true → at s.processes p ≡ Some (Some k) → at s.contexts n ≡ Some c → c.process ≡ p
    → c.caller.uid ≡ uid
own_process uid private s n p k c alone m is there same =
    let self : is_in p (c.process ∷ []) ≡ true = ap (λ (b : Bool). b || false) (same_is c.process p same) in
    elim (c.caller.uid == uid) as (λ b. (c.caller.uid == uid) ≡ b → c.caller.uid ≡ uid) [
      | true ↦ λ t. grind (arith, nat_tests)
      | false ↦ λ t. absurd (alone.unattached.processes p k m is
          (attached_at (foreign_process uid) s.contexts n c p there
          (subst (λ (xs : List ℕ). is_in p xs ≡ true)
          (sym (is_foreign uid c (λ e. true≢false (sym (same_is c.caller.uid uid e) ∙ t))).1) self)))
    ] refl

own_uid :
    (uid : ℕ) (private : ℕ → Bool) (s : State) (v k : ℕ) (rings : UidRings) → HasToItself uid private s
    → private k ≡ true → at s.uids v ≡ Some rings → is_in k (uid_keys rings) ≡ true → v ≡ uid
own_uid uid private s v k rings alone m is i = grind (arith, nat_tests, true≢false, same_is)

-- what attaches one of these keys attaches it still
record StaysAttached (private : ℕ → Bool) (s : State) (contexts : Table Context) (processes : Table (Option ℕ))
    (uids : Table UidRings) : Type 0 where
  pub by_context : (n k : ℕ) (c : Context) → private k ≡ true → at s.contexts n ≡ Some c
      → is_in k (context_keys c) ≡ true → IsEntry contexts (λ d. is_in k (context_keys d) ≡ true)
  pub by_process : (p k : ℕ) → private k ≡ true → at s.processes p ≡ Some (Some k) → at processes p ≡ Some (Some k)
  pub by_uid : (v k : ℕ) (rings : UidRings) → private k ≡ true → at s.uids v ≡ Some rings
      → is_in k (uid_keys rings) ≡ true → IsEntry uids (λ r. is_in k (uid_keys r) ≡ true)

entry :
    {X : Type 0} (es : Table X) (P : X → Type 0) (n : ℕ) (v : X) → at es n ≡ Some v → P v → IsEntry es P
entry {X} es P n v there holds = record { number = n; value = v; there = there; holds = holds }

-- the context that asks attaches none of these keys
not_asking :
    (uid : ℕ) (private : ℕ → Bool) (s : State) (client context n k : ℕ) (c d : Context) → HasToItself uid private s
    → NotBy uid s client context → context_of s client context ≡ Ok c → private k ≡ true → at s.contexts n ≡ Some d
    → is_in k (context_keys d) ≡ true → n ≡ context → ⊥
not_asking uid private s client context n k c d alone other own m there i same =
    grind (arith, nat_tests, same_Some, own_there, own_context)

-- nor does its process
not_its_process :
    (uid : ℕ) (private : ℕ → Bool) (s : State) (client context p k : ℕ) (c : Context) → HasToItself uid private s
    → NotBy uid s client context → context_of s client context ≡ Ok c → private k ≡ true
    → at s.processes p ≡ Some (Some k) → p ≡ c.process → ⊥
not_its_process uid private s client context p k c alone other own m there same =
    other c own (own_process uid private s context p k c alone m there (own_there s client context c own) (sym same))

not_gone : (private : ℕ → Bool) (k gone : ℕ) → private k ≡ true → (private gone ≡ true → ⊥) → (k == gone) ≡ false
not_gone private k gone m apart = grind (arith, nat_tests)

still_attached :
    (gone k : ℕ) (o : Option ℕ) → (k == gone) ≡ false → is_in k (option_to_list o) ≡ true
    → is_in k (option_to_list (detached gone o)) ≡ true
still_attached gone k None apart i = i
still_attached gone k (Some n) apart i = grind (arith, nat_tests, only_in)

still_both :
    (gone k : ℕ) (a b : Option ℕ) → (k == gone) ≡ false → is_in k (option_to_list a ++ option_to_list b) ≡ true
    → is_in k (option_to_list (detached gone a) ++ option_to_list (detached gone b)) ≡ true
still_both gone k a b apart i = grind (arith, nat_tests, in_left, still_attached, in_right, in_one)

left_stays :
    (uid : ℕ) (private : ℕ → Bool) (s : State) (client context : ℕ) (op : Op) → IsSound s → HasToItself uid private s
    → IsOutside uid s client context op → op ≡ Leave
    → StaysAttached private s (left s client).contexts (left s client).processes (left s client).uids
unfolding left
left_stays uid private s client context op sound alone outside is =
    let contexts = contexts_without client s.contexts in
    let test : ℕ × Context → Bool = λ e. not (e.1.client == client) in
    let stays : (n : ℕ) (c : Context) → at s.contexts n ≡ Some c → c.caller.uid ≡ uid → at contexts n ≡ Some c =
    λ n c there own. filter_still test s.contexts n c there (elim (c.client == client) as
    (λ b. (c.client == client) ≡ b → not b ≡ true) [
      | true ↦ λ t. absurd (outside.stays is n c there (grind (arith, nat_tests)) own)
      | false ↦ λ t. refl
    ] refl) in
    record {
      by_context = λ n k c m there i. entry contexts (λ d. is_in k (context_keys d) ≡ true) n c
          (stays n c there (own_context uid private s n k c alone m there i)) i;
      by_process = λ p k m there.
          let has = sound.used.process p (rw there refl) in
          let own = own_process uid private s has.number p k has.context alone m there has.there has.so in
          let passes : has_process contexts p ≡ true = entry_passes
          (λ (c : Context). c.process == p) contexts has.number
          has.context (stays has.number has.context has.there own) (same_is has.context.process p has.so) in
          at_kept (has_process contexts) s.processes p
          ∙ (ap (λ (b : Bool). cond b (at s.processes p) None) passes ∙ there);
      by_uid = λ v k rings m there i.
          let own : v ≡ uid = own_uid uid private s v k rings alone m there i in
          let has = sound.used.owner v (rw there refl) in
          let passes : has_uid contexts v ≡ true = entry_passes (λ (c : Context). c.caller.uid == v) contexts has.number
          has.context (stays has.number has.context has.there (has.so ∙ own))
          (same_is has.context.caller.uid v has.so) in
          entry _ (λ r. is_in k (uid_keys r) ≡ true) v rings
          (at_kept (has_uid contexts) s.uids v ∙ (ap (λ (b : Bool). cond b (at s.uids v) None) passes ∙ there)) i;
    }

-- whatever an ask does to contexts, processes and uids in no context of the uid
houses_stay :
    (uid : ℕ) (private : ℕ → Bool) (s : State) (client context : ℕ) (op : Op) (contexts : Table Context)
    (processes : Table (Option ℕ)) (uids : Table UidRings) → IsSound s → HasToItself uid private s
    → IsOutside uid s client context op → Houses s client context op contexts processes uids
    → StaysAttached private s contexts processes uids
houses_stay uid private s client context op _ _ _ sound alone outside Same = search entry depth 8
houses_stay uid private s client context op _ _ _ sound alone outside (Begins c session rings room is none left begun) =
    let n = s.next_context in record {
      by_context = λ q k d m there i.
          entry _ _ q d (put_stays s.contexts n q _ d (sound.housed.unused n (omega arith)) there) i;
      by_process = grind (arith, nat_tests, put_stays);
      by_uid = λ v k were m there i. entry _ _ v were (put_stays s.uids c.uid v rings were none there) i;
    }
houses_stay uid private s client context op _ _ _ sound alone outside (Enters c session room who left) =
    let n = s.next_context in record {
      by_context = λ q k d m there i.
          entry _ _ q d (put_stays s.contexts n q _ d (sound.housed.unused n (omega arith)) there) i;
      by_process = grind (arith, nat_tests, put_stays);
      by_uid = λ v k rings m there i. entry s.uids _ v rings there i;
    }
houses_stay uid private s client context op _ _ _ sound alone outside (Threads c room is own left) = record {
  by_context = λ q k d m there i. entry _ _ q d
      (put_stays s.contexts s.next_context q _ d (sound.housed.unused s.next_context (omega arith)) there) i;
  by_process = λ p k m there. there;
  by_uid = λ v k rings m there i. entry s.uids _ v rings there i;
}
houses_stay uid private s client context op _ _ _ sound alone outside (Alters c f own stays how) = record {
  by_context = λ n k d m there i. entry _ _ n d (alter_stays s.contexts context n f d
      (not_asking uid private s client context n k c d alone outside.other own m there i) there) i;
  by_process = λ p k m there. there;
  by_uid = λ v k rings m there i. entry s.uids _ v rings there i;
}
houses_stay uid private s client context op _ _ _ sound alone outside (Rings c n own begun) =
    search (entry, alter_stays, not_its_process) depth 8
houses_stay uid private s client context op _ _ _ sound alone outside (Execs c is own) = record {
  by_context = λ n k d m there i. entry _ _ n d (filter_still _ _ n d
      (alter_stays s.contexts context n _ d
      (not_asking uid private s client context n k c d alone outside.other own m there i) there)
      (ap (λ (b : Bool). not b || (n == context)) (elim (d.process == c.process) as
      (λ b. (d.process == c.process) ≡ b → b ≡ false) [
        | true ↦ λ t.
            let same : d.process ≡ c.process = grind (arith, nat_tests) in
            let alike = sound.used.alike n context d c there (own_there s client context c own) same in
            absurd (outside.other c own (sym alike ∙ own_context uid private s n k d alone m there i))
        | false ↦ λ t. refl
      ] refl))) i;
  by_process = search (alter_stays, not_its_process) depth 8;
  by_uid = λ v k rings m there i. entry s.uids _ v rings there i;
}
houses_stay uid private s client context op _ _ _ sound alone outside (Detaches c id gone is own found) =
    let apart : private gone.0 ≡ true → ⊥ =
    λ m. none_found uid private s client context c id (Granted SEARCH) gone alone own outside.other refl found m in
    record {
      by_context = λ n k d m there i. entry _ _ n (context_without gone.0 d)
          (at_map (context_without gone.0) s.contexts n ∙ ap (option_map (context_without gone.0)) there)
          (still_both gone.0 k d.thread d.session (not_gone private k gone.0 m apart) i);
      by_process = grind (arith, nat_tests, at_map, not_gone);
      by_uid = λ v k rings m there i. entry _ _ v (rings_without gone.0 rings)
          (at_map (rings_without gone.0) s.uids v ∙ ap (option_map (rings_without gone.0)) there)
          (still_both gone.0 k rings.user rings.session (not_gone private k gone.0 m apart) i);
    }
houses_stay uid private s client context op _ _ _ sound alone outside (Exits c is own) = record {
  by_context = λ n k d m there i. entry _ _ n d (still_unless s.contexts context n false
      (not_asking uid private s client context n k c d alone outside.other own m there i) ∙ there) i;
  by_process = search (still_unless, not_its_process) depth 8;
  by_uid = λ v k rings m there i. entry _ _ v rings (still_unless s.uids c.caller.uid v _
      (λ e. outside.other c own (sym e ∙ own_uid uid private s v k rings alone m there i)) ∙ there) i;
}
houses_stay uid private s client context op _ _ _ sound alone outside (Departs is) =
    left_stays uid private s client context op sound alone outside is

one_in : (k : ℕ) (ring : Option ℕ) → is_in k (option_to_list ring) ≡ true → ring ≡ Some k
one_in k None i = absurd (true≢false (sym i))
one_in k (Some n) i = ap (λ (z : ℕ). Some z) (sym (only_in k n i))

-- so it is among all attachments
roots_stay :
    (private : ℕ → Bool) (s new : State) (k : ℕ) → IsSound s
    → StaysAttached private s new.contexts new.processes new.uids → private k ≡ true → is_in k (roots s) ≡ true
    → is_in k (roots new) ≡ true
roots_stay private s new k sound stays m i =
    rw (attached_by (context_roots s.contexts) (process_roots s.processes) (uid_roots s.uids) k (λ h. let e =
    attached_entry context_keys s.contexts k (rises_distinct s.contexts sound.housed.contexts_rise) h in let after
    = stays.by_context e.number k e.value m e.there e.holds in in_context new k (attached_at context_keys
    new.contexts after.number after.value k after.there after.holds)) (λ h. let e = attached_entry option_to_list
    s.processes k (rises_distinct s.processes sound.housed.processes_rise) h in let there = stays.by_process
    e.number k m (e.there ∙ ap (λ (z : Option ℕ). Some z) (one_in k e.value e.holds)) in in_process new k
    (attached_at option_to_list new.processes e.number (Some k) k there (ap (λ (b : Bool). b || false) (same_is k k
    refl)))) (λ h. let e = attached_entry uid_keys s.uids k (rises_distinct s.uids sound.housed.uids_rise) h in let
    after = stays.by_uid e.number k e.value m e.there e.holds in in_uid new k (attached_at uid_keys new.uids
    after.number after.value k after.there after.holds)) i)

-- held keys are held still, where attachments and links of them stay
held_stays :
    (private : ℕ → Bool) (old new : Table Key) (before after : List ℕ) (k : ℕ)
    → ((j q : ℕ) → private q ≡ true → is_in q (links_of_key_at old j) ≡ true → private j ≡ true)
    → ((q : ℕ) → private q ≡ true → is_in q before ≡ true → is_in q after ≡ true)
    → ((j q : ℕ) → private j ≡ true → private q ≡ true → is_in q (links_of_key_at old j) ≡ true
    → is_in q (links_of_key_at new j) ≡ true) → IsHeld old before k → private k ≡ true → IsHeld new after k
held_stays private old new before after _ up attached links (Attached k i) m = Attached k (attached k m i)
held_stays private old new before after _ up attached links (Linked j k held i) m =
    let above = up j k m i in
    Linked j k (held_stays private old new before after j up attached links held above) (links j k above m i)

still_linked :
    (gone k : ℕ) (links : List ℕ) → (k == gone) ≡ false → is_in k links ≡ true
    → is_in k (filter (λ q. not (q == gone)) links) ≡ true
still_linked gone k [] apart i = i
still_linked gone k (q ∷ links) apart i =
    grind (arith, nat_tests, only_in, true≢false, in_one, in_left, in_right, still_linked gone k links apart) steps
    600000

still_in_content :
    (gone k : ℕ) (key : Key) → (k == gone) ≡ false → is_in k (links_of_content key.content) ≡ true
    → is_in k (links_of_content (without_link gone key).content) ≡ true
still_in_content gone k key apart i = grind (arith, nat_tests, still_linked)

still_in_key :
    (gone k : ℕ) (o : Option Key) → (k == gone) ≡ false → is_in k (links_of_key o) ≡ true
    → is_in k (links_of_key (option_map (without_link gone) o)) ≡ true
still_in_key gone k None apart i = i
still_in_key gone k (Some key) apart i = still_in_content gone k key apart i

-- links of these keys to one another stay
links_stay :
    (uid : ℕ) (private : ℕ → Bool) (s new : State) (client context j k : ℕ) (op : Op) → HasToItself uid private s
    → NotBy uid s client context → KeysAfter private s client context op new → private j ≡ true → private k ≡ true
    → is_in k (links_of_key_at s.keys j) ≡ true → is_in k (links_of_key_at new.keys j) ≡ true
links_stay uid private s new client context j k op alone other after above m i =
    grind (arith, nat_tests, none_found, at_map, still_in_key, not_gone)

-- one of these keys is there where it was
was_there :
    (private : ℕ → Bool) (s new : State) (client context k : ℕ) (op : Op) → KeysAfter private s client context op new
    → private k ≡ true → IsSome (at new.keys k) → IsSome (at s.keys k)
was_there private s new client context k op after m there = grind (arith, nat_tests, was_mapped, at_map)

kept_same : (b : Bool) (o : Option Key) → (IsSome o → b ≡ true) → cond b o None ≡ o
kept_same true o h = refl
kept_same false None h = refl
kept_same false (Some v) h = absurd (true≢false (sym (h refl)))

-- a sweep leaves a key that is held where it is there
swept_same :
    (old new : State) (k : ℕ) → IsSweep old new → (IsSome (at old.keys k) → IsHeld old.keys (roots old) k)
    → at new.keys k ≡ at old.keys k
swept_same old new k sweep held = grind (arith, nat_tests, at_kept, kept_same)

-- these keys, where the ask is an accepted INVALIDATE of another
record IsTakenOut (private : ℕ → Bool) (s : State) (client context : ℕ) (op : Op) (new : Table Key) : Type 0 where
  pub id : ℤ
  pub whose : Context
  pub gone : ℕ
  pub asked : op ≡ Invalidate id
  pub own : context_of s client context ≡ Ok whose
  pub named : serial_of s whose id ≡ Ok gone
  pub other : private gone ≡ false
  pub rest : (k : ℕ) → private k ≡ true → at new k ≡ option_map (without_link gone) (at s.keys k)

-- an accepted ask in no context of the uid leaves these keys as they were
served_unchanged :
    (uid : ℕ) (private : ℕ → Bool) (s new : State) (client context : ℕ) (op : Op) (answer : Answer) → IsSound s
    → HasToItself uid private s → IsOutside uid s client context op → Serves s client context op answer new
    → (AreSame private s.keys new.keys) ⊎ IsTakenOut private s client context op new.keys
served_unchanged uid private s new client context op answer sound alone outside serves =
    let mid = serves.mid in
    let after = ((law_of s client context op).fares.meets mid answer serves.meant).keeps uid private
    (sound_stands s sound) alone
    outside.other in
    let houses = houses_stay uid private s client context op mid.contexts mid.processes mid.uids sound alone outside
    ((law_of s client context op).fares.meets mid answer serves.meant).houses in
    let held : (k : ℕ) → private k ≡ true → IsSome (at mid.keys k) → IsHeld mid.keys (roots mid) k = λ k m there.
    held_stays private s.keys mid.keys (roots s) (roots mid) k (λ j q h i. alone.enclosed.linked j q h i)
    (λ q h i. roots_stay private s mid q sound houses h i)
    (λ j q h g i. links_stay uid private s mid client context j q op alone outside.other after h g i)
    (sound.swept.keys k (was_there private s mid client context k op after m there)) m in
    let same : AreSame private mid.keys new.keys = λ k m.
    ap (λ (z : State). at z.keys k) serves.posted ∙ swept_same mid serves.swept k serves.sweep (held k m) in
    grind (arith, nat_tests, found_serial, false_where, none_found, at_map)

-- so does any ask, whether it is accepted or not
ended_unchanged :
    (uid : ℕ) (private : ℕ → Bool) (s new : State) (client context : ℕ) (op : Op) (reply : Result Answer Errno)
    → IsSound s → HasToItself uid private s → IsOutside uid s client context op
    → Ends s client context op reply new
    → (AreSame private s.keys new.keys) ⊎ (IsOk reply × IsTakenOut private s client context op new.keys)
ended_unchanged uid private s new client context op (Ok answer) sound alone outside serves =
    ⊎_elim (λ (same : AreSame private s.keys new.keys). inl same)
    (λ (out : IsTakenOut private s client context op new.keys). inr (refl, out))
    (served_unchanged uid private s new client context op answer sound alone outside serves)
ended_unchanged uid private s new client context op (Err e) sound alone outside ends = grind (arith, common_steps)

context_is :
    (s : State) (client n : ℕ) (c : Context) → at s.contexts n ≡ Some c → c.client ≡ client
    → context_of s client n ≡ Ok c
unfolding context_of
context_is s client n c there own = rw (there, same_is c.client client own) refl

-- an ask that the uid does not make
outside_of :
    (uid : ℕ) (s : State) (event : Event) → (IsAskedBy uid s event → ⊥)
    → IsOutside uid (raised s event.moment) event.lane event.ask.context event.ask.op
outside_of uid s event none = record {
  other = grind (arith, nat_tests, same_context);
  stays = λ is n c there client e. none (record {
    number = n;
    acts = record { context = c; there = context_is s event.lane n c there client; own = e };
    asks = inr is;
  });
}

-- an ask in no context of a uid changes none of the keys that the uid has to itself, nor drops one
pub step_unchanged :
    (uid : ℕ) (private : ℕ → Bool) (old new : State) (event : Event) → IsSound old → HasToItself uid private old
    → Step old event new → (IsAskedBy uid old event → ⊥) → AreUnchanged private old event new
unfolding Step
step_unchanged uid private old new event sound alone step none =
    let up = raised old event.moment in
    ⊎_elim (λ (same : AreSame private up.keys new.keys). inl same)
    (λ (out : IsOk event.reply × IsTakenOut private up event.lane event.ask.context event.ask.op new.keys).
    inr (record {
      gone = out.1.gone;
      invalidates = record {
        id = out.1.id;
        asked = out.1.asked;
        accepted = out.0;
        names = record { whose = out.1.whose; own = out.1.own; named = out.1.named };
      };
      other = out.1.other;
      rest = out.1.rest;
    }))
    (ended_unchanged uid private up new event.lane event.ask.context event.ask.op event.reply
    (raised_sound old event.moment sound) (raised_alone uid private old event.moment alone)
    (outside_of uid old event none) step)
