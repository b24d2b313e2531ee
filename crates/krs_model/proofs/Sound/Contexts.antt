-- What leaves contexts, processes and uids housed: a further one, one that is changed, fewer of them.
use Rattle.std.proofs.Common.{[], ⊎_elim, ◌+◌, ◌==◌, ◌||◌, ◌∙◌, ◌∷◌, ◌≡◌, ap, arith, Bool, cond, false, filter, inl}
use Rattle.std.proofs.Common.{IsSome, List, Option, refl, Some, subst, sym, true, true≢false, ℕ}
use Rattle.std.proofs.lemmas.{Bool.Decides.nat_tests, List.Concat.flat_map_single}
use Rattle.krs_types.specs.declared.context.{Context.Context, UidRings.UidRings}
use Rattle.krs_model.specs.{Asks.Leaving.has_uid, Levels.is_in, Sound.{AllOwned, AreHoused, uids_of}, Table.alter}
use Rattle.krs_model.specs.Table.{at, IsBelow, map_values, put, Rises, Table, without}
use Rattle.krs_model.proofs.{Reach.Levels.{only_in, same_is}, Sound.Attached.{attached_alter, attached_at}}
use Rattle.krs_model.proofs.Sound.Attached.{attached_either, attached_fewer, attached_mapped, attached_without}
use Rattle.krs_model.proofs.Sound.{Attached.attachments, Changes.{kept_some, there_map, there_put}}
use Rattle.krs_model.proofs.Tables.Changes.{at_alter_none, at_kept, at_map, at_or_apart, at_without_none}
use Rattle.krs_model.proofs.Tables.{Changes.{at_without_other, below_filter, below_put}, Rising.alter_rises}
use Rattle.krs_model.proofs.Tables.Rising.{filter_rises, map_rises, put_rises, without_rises}

-- the uid of a context, as if it attached it
abbrev pub own_uid : Context → List ℕ
own_uid c = c.caller.uid ∷ []

in_uids : (es : Table Context) (uid : ℕ) → is_in uid (uids_of es) ≡ is_in uid (attachments own_uid es)
in_uids es uid = ap (is_in uid) (sym (flat_map_single (λ (e : ℕ × Context). e.1.caller.uid) es))

-- the uids of contexts are there
abbrev pub HasUids : Table Context → Table UidRings → Type 0
HasUids contexts uids = (uid : ℕ) → is_in uid (attachments own_uid contexts) ≡ true → IsSome (at uids uid)

owned_has : (contexts : Table Context) (uids : Table UidRings) → AllOwned contexts uids → HasUids contexts uids
owned_has contexts uids owned = λ uid i. owned uid (in_uids contexts uid ∙ i)

has_owned : (contexts : Table Context) (uids : Table UidRings) → HasUids contexts uids → AllOwned contexts uids
has_owned contexts uids has = λ uid i. has uid (sym (in_uids contexts uid) ∙ i)

-- the uid of a context that is there
pub owner_there :
    (contexts : Table Context) (uids : Table UidRings) (number : ℕ) (c : Context) → at contexts number ≡ Some c
    → AllOwned contexts uids → IsSome (at uids c.caller.uid)
owner_there contexts uids number c is owned = search (same_is, owned_has, attached_at) depth 8

below_on : {X : Type 0} (es : Table X) (n : ℕ) → IsBelow es n → IsBelow es (n + 1)
below_on es n below = λ k le. below k (omega arith)

below_alter : {X : Type 0} (es : Table X) (n k : ℕ) (f : X → X) → IsBelow es n → IsBelow (alter es k f) n
below_alter es n k f below = λ q le. at_alter_none es k q f (below q le)

-- a further context, under the next number
pub further_owned :
    (contexts : Table Context) (uids : Table UidRings) (n : ℕ) (c : Context) → IsSome (at uids c.caller.uid)
    → AllOwned contexts uids → AllOwned (put contexts n c) uids
further_owned contexts uids n c there owned = grind (arith, nat_tests, has_owned, only_in, owned_has, attached_either)

-- a further context of a further process
pub entered_housed :
    (contexts : Table Context) (processes : Table (Option ℕ)) (uids : Table UidRings) (n : ℕ) (c : Context)
    (ring : Option ℕ) → IsSome (at uids c.caller.uid) → AreHoused contexts processes uids n
    → AreHoused (put contexts n c) (put processes n ring) uids (n + 1)
entered_housed contexts processes uids n c ring there housed =
    grind (arith, nat_tests, below_put, further_owned, put_rises)

-- a further context of a process
pub threaded_housed :
    (contexts : Table Context) (processes : Table (Option ℕ)) (uids : Table UidRings) (n : ℕ) (c : Context)
    → IsSome (at uids c.caller.uid) → AreHoused contexts processes uids n
    → AreHoused (put contexts n c) processes uids (n + 1)
threaded_housed contexts processes uids n c there housed =
    grind (arith, nat_tests, below_put, below_on, further_owned, put_rises)

-- a further uid, or other keyrings of one
pub uid_housed :
    (contexts : Table Context) (processes : Table (Option ℕ)) (uids : Table UidRings) (n uid : ℕ) (rings : UidRings)
    → AreHoused contexts processes uids n → AreHoused contexts processes (put uids uid rings) n
uid_housed contexts processes uids n uid rings housed = grind (arith, nat_tests, there_put, put_rises)

-- the caller of a context stays
abbrev pub UidStays : (Context → Context) → Type 0
UidStays f = (c : Context) → (f c).caller.uid ≡ c.caller.uid

uid_stays : (f : Context → Context) (c : Context) (uid : ℕ) → UidStays f → is_in uid (own_uid (f c)) ≡ true
    → is_in uid (own_uid c) ≡ true
uid_stays f c uid stays h = ap (λ (own : ℕ). is_in uid (own ∷ [])) (sym (stays c)) ∙ h

-- another context in the place of one
pub altered_housed :
    (contexts : Table Context) (processes : Table (Option ℕ)) (uids : Table UidRings) (n k : ℕ) (f : Context → Context)
    → UidStays f → AreHoused contexts processes uids n → AreHoused (alter contexts k f) processes uids n
altered_housed contexts processes uids n k f stays housed = record {
  unused = below_alter contexts n k f housed.unused;
  no_process = housed.no_process;
  owned = has_owned (alter contexts k f) uids (λ uid i.
      ⊎_elim (λ was. owned_has contexts uids housed.owned uid was) (λ (no : ⊥). absurd no)
      (attached_alter own_uid contexts k f uid (λ v j. inl (uid_stays f v uid stays j)) i));
  contexts_rise = alter_rises contexts k f housed.contexts_rise;
  processes_rise = housed.processes_rise;
  uids_rise = housed.uids_rise;
}

-- another keyring of a process
pub process_housed :
    (contexts : Table Context) (processes : Table (Option ℕ)) (uids : Table UidRings) (n k : ℕ)
    (f : Option ℕ → Option ℕ) → AreHoused contexts processes uids n
    → AreHoused contexts (alter processes k f) uids n
process_housed contexts processes uids n k f housed = search (below_alter, alter_rises) depth 8

-- fewer contexts
pub fewer_housed :
    (contexts : Table Context) (processes : Table (Option ℕ)) (uids : Table UidRings) (n : ℕ)
    (p : ℕ × Context → Bool) → AreHoused contexts processes uids n
    → AreHoused (filter p contexts) processes uids n
fewer_housed contexts processes uids n p housed =
    grind (arith, nat_tests, below_filter, has_owned, owned_has, attached_fewer, filter_rises)

-- all of them changed
pub mapped_housed :
    (contexts : Table Context) (processes : Table (Option ℕ)) (uids : Table UidRings) (n : ℕ) (f : Context → Context)
    (g : Option ℕ → Option ℕ) (h : UidRings → UidRings) → UidStays f → AreHoused contexts processes uids n
    → AreHoused (map_values f contexts) (map_values g processes) (map_values h uids) n
mapped_housed contexts processes uids n f g h stays housed =
    grind (arith, nat_tests, at_map, has_owned, there_map, owned_has, attached_mapped, uid_stays, map_rises) steps
    600000

-- a uid has a context
uid_of_one : (es : Table Context) (uid : ℕ) → has_uid es uid ≡ is_in uid (attachments own_uid es)
uid_of_one [] uid = refl
uid_of_one (e ∷ es) uid = ap (λ (b : Bool). (e.1.caller.uid == uid) || b) (uid_of_one es uid)

-- fewer contexts and processes, and the uids that have a context left
pub left_housed :
    (contexts : Table Context) (processes : Table (Option ℕ)) (uids : Table UidRings) (n : ℕ)
    (p : ℕ × Context → Bool) (q : ℕ × Option ℕ → Bool) → AreHoused contexts processes uids n
    → AreHoused (filter p contexts) (filter q processes) (filter (λ e. has_uid (filter p contexts) e.0) uids) n
left_housed contexts processes uids n p q housed =
    let fewer = fewer_housed contexts processes uids n p housed in
    let left = filter p contexts in
    record {
      unused = fewer.unused;
      no_process = below_filter q processes (filter q processes) n refl housed.no_process;
      owned = has_owned left (filter (λ e. has_uid left e.0) uids) (λ uid i.
          let kept = uid_of_one left uid ∙ i in
          subst IsSome (sym (at_kept (has_uid left) uids uid))
          (kept_some _ (at uids uid) kept (owned_has left uids fewer.owned uid i)));
      contexts_rise = fewer.contexts_rise;
      processes_rise = filter_rises q processes housed.processes_rise;
      uids_rise = filter_rises (λ e. has_uid left e.0) uids housed.uids_rise;
    }

-- what has a test pass stays, where an entry goes whose test fails
pub there_unless :
    {X : Type 0} (has : ℕ → Bool) (es : Table X) (k q : ℕ) (stays : Bool) → has k ≡ stays → has q ≡ true
    → IsSome (at es q) → IsSome (at (cond stays es (without es k)) q)
there_unless has es k q true is passes there = there
there_unless has es k q false is passes there = grind (arith, nat_tests, true≢false, at_without_other, at_or_apart)

below_unless :
    {X : Type 0} (es : Table X) (n k : ℕ) (stays : Bool) → IsBelow es n → IsBelow (cond stays es (without es k)) n
below_unless es n k true below = below
below_unless es n k false below = λ q le. at_without_none es k q (below q le)

unless_rises : {X : Type 0} (es : Table X) (k : ℕ) (stays : Bool) → Rises es → Rises (cond stays es (without es k))
unless_rises es k true rises = rises
unless_rises es k false rises = without_rises es k rises

-- one context less, and its process and its uid where they have none left
pub exited_housed :
    (contexts : Table Context) (processes : Table (Option ℕ)) (uids : Table UidRings) (n number process uid : ℕ)
    (stays : Bool) → AreHoused contexts processes uids n
    → AreHoused (without contexts number) (cond stays processes (without processes process))
    (cond (has_uid (without contexts number) uid) uids (without uids uid)) n
exited_housed contexts processes uids n number process uid stays housed =
    let left = without contexts number in
    record {
      unused = below_unless contexts n number false housed.unused;
      no_process = below_unless processes n process stays housed.no_process;
      owned = has_owned left (cond (has_uid left uid) uids (without uids uid)) (λ k i.
          there_unless (has_uid left) uids uid k (has_uid left uid) refl (uid_of_one left k ∙ i)
          (owned_has contexts uids housed.owned k (attached_without own_uid contexts number k i)));
      contexts_rise = without_rises contexts number housed.contexts_rise;
      processes_rise = unless_rises processes process stays housed.processes_rise;
      uids_rise = unless_rises uids uid (has_uid left uid) housed.uids_rise;
    }
