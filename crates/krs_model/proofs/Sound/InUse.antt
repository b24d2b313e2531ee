-- A process and a uid are there only while they have a context, and the contexts of a process are of one uid, after
-- whatever is asked.
use Rattle.std.proofs.Common.{⊎_elim, ◌==◌, ◌||◌, ◌∙◌, ◌≡◌, ◌⊎◌, ap, arith, Bool, false, filter, IsSome, None, not}
use Rattle.std.proofs.Common.{Option, option_map, refl, Some, subst, sym, true, true≢false, ℕ}
use Rattle.std.proofs.lemmas.{Bool.Decides.nat_tests, Option.{none-some, same_Some}}
use Rattle.krs_types.specs.declared.{ask.Op.Op, caller.Caller.Caller, context.{Context.Context, UidRings.UidRings}}
use Rattle.krs_model.specs.Asks.{Entering.{execed, without_thread}, Leaving.{contexts_without, exited, has_process}}
use Rattle.krs_model.specs.{Asks.Leaving.{has_uid, left}, Sound.{AreInUse, HasContext}, State.State, Table.alter}
use Rattle.krs_model.specs.Table.{at, IsDistinct, map_values, put, Table, without}
use Rattle.krs_model.proofs.Asks.Houses.{Alters, Begins, Departs, Detaches, entering, Enters, Execs, Exits, Houses}
use Rattle.krs_model.proofs.{Asks.Houses.{Rings, Same, StaysWhose, Threads}, Lookups.Serials.own_there}
use Rattle.krs_model.proofs.{Reach.Levels.{or_true, same_is}, Sound.Changes.{at_change, at_put, IsChanged, IsPut}}
use Rattle.krs_model.proofs.Sound.{Changes.{not_there, Stands, was_mapped}, NewContexts.own_process_there}
use Rattle.krs_model.proofs.{Sweep.Laws.kept_there, Tables.Changes.{at_alter_same, at_kept, at_map, at_put_same}}
use Rattle.krs_model.proofs.Tables.Distinct.{alter_distinct, at_filter_some, filter_distinct, without_distinct}
use Rattle.krs_model.proofs.Tables.{Each.put_is, Entries.{filter_still, find_entry, left_unless, rises_distinct}}
use Rattle.krs_model.proofs.Tables.Entries.{still_unless, without_was}

-- contexts of a process are of one uid
abbrev AreAlike : Table Context → Type 0
AreAlike contexts =
    (m n : ℕ) (c d : Context) → at contexts m ≡ Some c → at contexts n ≡ Some d → c.process ≡ d.process
    → c.caller.uid ≡ d.caller.uid

-- a further context, under a number that has none
still_put :
    (contexts : Table Context) (n : ℕ) (new : Context) (P : Context → Type 0) → at contexts n ≡ None
    → HasContext contexts P → HasContext (put contexts n new) P
still_put contexts n new P none has = grind (arith, nat_tests, none-some, at_put)

new_put :
    (contexts : Table Context) (n : ℕ) (new : Context) (P : Context → Type 0) → P new
    → HasContext (put contexts n new) P
new_put contexts n new P so =
    record { number = n; context = new; there = at_put_same contexts n new; so = so }

abbrev process_of : Context → ℕ
process_of c = c.process

abbrev uid_of : Context → ℕ
uid_of c = c.caller.uid

alike_put :
    (contexts : Table Context) (n : ℕ) (new : Context)
    → ((m : ℕ) (d : Context) → at contexts m ≡ Some d → d.process ≡ new.process → d.caller.uid ≡ new.caller.uid)
    → AreAlike contexts → AreAlike (put contexts n new)
alike_put contexts n new with alike k l c d is there same = grind (arith, nat_tests, put_is)

-- each context was there, of the same process and uid
abbrev CameFrom : Table Context → Table Context → Type 0
CameFrom old new =
    (m : ℕ) (c : Context) → at new m ≡ Some c
    → (was : Context) × (at old m ≡ Some was) × (c.process ≡ was.process) × (c.caller.uid ≡ was.caller.uid)

alike_from : (old new : Table Context) → CameFrom old new → AreAlike old → AreAlike new
alike_from old new from alike = grind (arith, nat_tests)

changed_from :
    (f : Context → Context) (o : Option Context) (c : Context) → StaysWhose f → option_map f o ≡ Some c
    → (was : Context) × (o ≡ Some was) × (c.process ≡ was.process) × (c.caller.uid ≡ was.caller.uid)
changed_from f None c stays h = absurd (none-some c h)
changed_from f (Some v) c stays h =
    let same : f v ≡ c = same_Some (f v) c h in (
      v,
      refl,
      ap process_of (sym same) ∙ stays.process v,
      ap uid_of (sym same)
          ∙ ap (λ (z : Caller). z.uid) (stays.caller v),
    )

alter_from :
    (contexts : Table Context) (n : ℕ) (f : Context → Context) → StaysWhose f → CameFrom contexts (alter contexts n f)
alter_from contexts n f stays = grind (arith, nat_tests, changed_from, at_change)

map_from :
    (contexts : Table Context) (f : Context → Context) → StaysWhose f → CameFrom contexts (map_values f contexts)
map_from contexts f stays = λ m c is. changed_from f (at contexts m) c stays (sym (at_map f contexts m) ∙ is)

-- a context is there, as it is or changed
still_alter :
    (contexts : Table Context) (n : ℕ) (f : Context → Context) (P : Context → Type 0) → ((v : Context) → P v → P (f v))
    → HasContext contexts P → HasContext (alter contexts n f) P
still_alter contexts n f P stays has =
    ⊎_elim
    (λ (r : IsChanged contexts n f has.number). record {
      number = has.number;
      context = f has.context;
      there = r.1 ∙ ap (option_map f) has.there;
      so = stays has.context has.so;
    })
    (λ same. record { number = has.number; context = has.context; there = same ∙ has.there; so = has.so })
    (at_change contexts n has.number f)

still_map :
    (contexts : Table Context) (f : Context → Context) (P : Context → Type 0) → ((v : Context) → P v → P (f v))
    → HasContext contexts P → HasContext (map_values f contexts) P
still_map contexts f P stays has = grind (arith, nat_tests, at_map)

-- the other contexts of the process go, and its own stays
execed_has :
    (s : State) (number : ℕ) (c : Context) (P : Context → Type 0) → at s.contexts number ≡ Some c
    → ((v : Context) → P v → P (without_thread v))
    → ((m : ℕ) (v : Context) → at s.contexts m ≡ Some v → P v → v.process ≡ c.process → P c)
    → HasContext s.contexts P → HasContext (execed s number c).contexts P
execed_has s number c P is stays moves has =
    let one = alter s.contexts number without_thread in
    let p : ℕ × Context → Bool = λ e. not (e.1.process == c.process) || (e.0 == number) in
    let v = has.context in
    elim (v.process == c.process) as (λ b. (v.process == c.process) ≡ b → HasContext (filter p one) P) [
      | true ↦ λ t. record {
        number = number;
        context = without_thread c;
        there = filter_still p one number (without_thread c)
            (at_alter_same s.contexts number without_thread ∙ ap (option_map without_thread) is)
            (or_true (not (c.process == c.process)) (number == number) (same_is number number refl));
        so = stays c (moves has.number v has.there has.so (grind (arith, nat_tests)));
      }
      | false ↦ λ t.
          let other = still_alter s.contexts number without_thread (λ w. P w × ((w.process == c.process) ≡ false))
          (λ w h. (stays w h.0, h.1))
          (record { number = has.number; context = v; there = has.there; so = (has.so, t) }) in
          record {
            number = other.number;
            context = other.context;
            there = filter_still p one other.number other.context other.there
                (ap (λ (b : Bool). not b || (other.number == number)) other.so.1);
            so = other.so.0;
          }
    ] refl

-- a context of a further process
entering_alike :
    (s : State) (client : ℕ) (c : Caller) (session : Option ℕ) → Stands s → AreInUse s.contexts s.processes s.uids
    → AreAlike (put s.contexts s.next_context (entering s client c session))
entering_alike s client c session stands used = grind (arith, nat_tests, alike_put, not_there, own_process_there)

was_altered : {X : Type 0} (es : Table X) (n : ℕ) (f : X → X) (k : ℕ) → IsSome (at (alter es n f) k) → IsSome (at es k)
was_altered es n f k h = grind (arith, nat_tests, was_mapped, at_change)

-- a context with such a process, or of such a uid, is found by a test
found_process : (contexts : Table Context) (p : ℕ) → IsDistinct contexts → has_process contexts p ≡ true
    → HasContext contexts (λ c. c.process ≡ p)
found_process contexts p distinct h =
    let e = find_entry (λ (c : Context). c.process == p) contexts distinct h in
    record { number = e.number; context = e.value; there = e.there; so = let t = e.holds in grind (arith, nat_tests) }

found_uid : (contexts : Table Context) (uid : ℕ) → IsDistinct contexts → has_uid contexts uid ≡ true
    → HasContext contexts (λ c. c.caller.uid ≡ uid)
found_uid contexts uid distinct h =
    let e = find_entry (λ (c : Context). c.caller.uid == uid) contexts distinct h in
    record { number = e.number; context = e.value; there = e.there; so = let t = e.holds in grind (arith, nat_tests) }

-- one context less
still_without :
    (contexts : Table Context) (n : ℕ) (c : Context) (P : Context → Type 0) → at contexts n ≡ Some c → (P c → ⊥)
    → HasContext contexts P → HasContext (without contexts n) P
still_without contexts n c P is apart has = record {
  number = has.number;
  context = has.context;
  there = still_unless contexts n has.number false
      (λ e. apart (subst P (same_Some has.context c (sym has.there ∙ (ap (at contexts) e ∙ is))) has.so)) ∙ has.there;
  so = has.so;
}

exited_in_use :
    (s : State) (number : ℕ) (c : Context) → Stands s → AreInUse s.contexts s.processes s.uids
    → at s.contexts number ≡ Some c
    → AreInUse (exited s number c).contexts (exited s number c).processes (exited s number c).uids
exited_in_use s number c stands used is =
    let left = without s.contexts number in
    let contexts = rises_distinct s.contexts stands.housed.contexts_rise in
    let distinct = without_distinct s.contexts number contexts in
    record {
      process = λ p there.
          let r = left_unless s.processes c.process p (has_process left c.process)
          (rises_distinct s.processes stands.housed.processes_rise) there in
          elim (p == c.process) as (λ b. (p == c.process) ≡ b → HasContext left (λ v. v.process ≡ p)) [
            | true ↦ λ t. let e : p ≡ c.process = grind (arith, nat_tests) in
                found_process left p distinct (ap (has_process left) e ∙ r.same e)
            | false ↦ λ t. still_without s.contexts number c (λ v. v.process ≡ p) is
                (λ e. true≢false (sym (same_is p c.process (sym e)) ∙ t)) (used.process p r.was)
          ] refl;
      owner = λ uid there.
          let r = left_unless s.uids c.caller.uid uid (has_uid left c.caller.uid)
          (rises_distinct s.uids stands.housed.uids_rise) there in
          elim (uid == c.caller.uid) as (λ b. (uid == c.caller.uid) ≡ b → HasContext left (λ v. v.caller.uid ≡ uid)) [
            | true ↦ λ t. let e : uid ≡ c.caller.uid = grind (arith, nat_tests) in
                found_uid left uid distinct (ap (has_uid left) e ∙ r.same e)
            | false ↦ λ t. still_without s.contexts number c (λ v. v.caller.uid ≡ uid) is
                (λ e. true≢false (sym (same_is uid c.caller.uid (sym e)) ∙ t)) (used.owner uid r.was)
          ] refl;
      alike = alike_from s.contexts left
          (λ m d there. (d, without_was s.contexts number m d contexts there, refl, refl)) used.alike;
    }

left_in_use :
    (s : State) (client : ℕ) → Stands s → AreInUse s.contexts s.processes s.uids
    → AreInUse (left s client).contexts (left s client).processes (left s client).uids
unfolding left
left_in_use s client stands used =
    let contexts = contexts_without client s.contexts in
    let all = rises_distinct s.contexts stands.housed.contexts_rise in
    let distinct = filter_distinct (λ e. not (e.1.client == client)) s.contexts all in
    record {
      process = λ p there. found_process contexts p distinct
          (kept_there (has_process contexts p) (at s.processes p)
          (subst IsSome (at_kept (has_process contexts) s.processes p) there)).0;
      owner = λ uid there. found_uid contexts uid distinct
          (kept_there (has_uid contexts uid) (at s.uids uid)
          (subst IsSome (at_kept (has_uid contexts) s.uids uid) there)).0;
      alike = grind (arith, nat_tests, alike_from, at_filter_some);
    }

execed_from :
    (s : State) (number : ℕ) (c : Context) → Stands s → CameFrom s.contexts (execed s number c).contexts
execed_from s number c stands = grind (arith, nat_tests, alter_distinct, rises_distinct, alter_from, at_filter_some)

-- whatever an accepted ask does to them
pub houses_in_use :
    (s : State) (client context : ℕ) (op : Op) (contexts : Table Context) (processes : Table (Option ℕ))
    (uids : Table UidRings) → Stands s → AreInUse s.contexts s.processes s.uids
    → Houses s client context op contexts processes uids → AreInUse contexts processes uids
houses_in_use s client context op _ _ _ stands used Same = used
houses_in_use s client context op _ _ _ stands used (Begins c session rings room is none left begun) =
    let new = entering s client c session in
    let n = s.next_context in
    let unused = stands.housed.unused n (omega arith) in
    record {
      process = grind (arith, nat_tests, new_put, still_put, at_put);
      owner = λ uid there. ⊎_elim
          (λ (r : IsPut s.uids c.uid rings uid). new_put s.contexts n new (λ v. v.caller.uid ≡ uid) (sym r.0))
          (λ same. still_put s.contexts n new (λ v. v.caller.uid ≡ uid) unused
          (used.owner uid (subst IsSome same there)))
          (at_put s.uids c.uid uid rings);
      alike = entering_alike s client c session stands used;
    }
houses_in_use s client context op _ _ _ stands used (Enters c session room who left) =
    grind (arith, nat_tests, new_put, still_put, at_put, entering_alike)
houses_in_use s client context op _ _ _ stands used (Threads c room by own left) =
    grind (arith, nat_tests, still_put, alike_put, own_there)
houses_in_use s client context op _ _ _ stands used (Alters c f own stays how) =
    grind (arith, nat_tests, still_alter, alike_from, alter_from)
houses_in_use s client context op _ _ _ stands used (Rings c n own begun) = grind (arith, nat_tests, was_altered)
houses_in_use s client context op _ _ _ stands used (Execs c by own) =
    let is = own_there s client context c own in
    grind (arith, nat_tests, execed_has, was_altered, alike_from, execed_from)
houses_in_use s client context op _ _ _ stands used (Detaches c id gone by own is) =
    grind (arith, nat_tests, still_map, was_mapped, at_map, alike_from, map_from)
houses_in_use s client context op _ _ _ stands used (Exits c by own) =
    exited_in_use s context c stands used (own_there s client context c own)
houses_in_use s client context op _ _ _ stands used (Departs is) = left_in_use s client stands used
