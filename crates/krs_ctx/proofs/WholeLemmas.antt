-- Where no process and no uid is without a context, none is after a change.
use Rattle.std.proofs.Common.{[], ◌==◌, ◌||◌, ◌∙◌, ◌∷◌, ◌≡◌, ◌≤◌, ap, arith, Bool, cond, eqb-true, false, filter}
use Rattle.std.proofs.Common.{if◌then◌else◌, is_eq, List, nat_cmp, None, not, Option, option_map, refl, Some, subst}
use Rattle.std.proofs.Common.{sym, true, true≢false, ℕ}
use Rattle.std.specs.{BTreeMap.is_at, List.list_any, Map.values_of, Ordering.match_ordering}
use Rattle.std.specs.declared.cmp.Ordering.TheVariants.{Equal, Greater, Less}
use Rattle.std.proofs.lemmas.Option.{none-some, same_Some}
use Rattle.krs_types.specs.declared.context.{Context.Context, UidRings.UidRings}
use Rattle.krs_model.specs.{Asks.Leaving.{has_process, has_uid}, Table.{alter, at, map_values, put, Table, without}}
use Rattle.krs_model.proofs.Reach.Levels.{or_true, same_is}
use Rattle.krs_model.proofs.Tables.Changes.{at_alter_same, at_put_same, is_at_same, same_at}
use Rattle.krs_ctx.specs.Anchors.{Anchors, Each, IsFit, IsWhole}
use Rattle.krs_ctx.proofs.EachLemmas.{each_alter, each_at, each_both, each_on, each_put, each_without, later_none}
use Rattle.krs_ctx.proofs.FirstLemmas.{any_at}
use Rattle.std.proofs.lemmas.Grind.{common_steps}

-- ---- which values pass, after a change
or_step : (a b c : Bool) → (a || b) ≡ true → (b ≡ true → c ≡ true) → (a || c) ≡ true
or_step true b c h on = refl
or_step false b c h on = on h

or_left : (a b : Bool) → a ≡ false → (a || b) ≡ true → b ≡ true
or_left true b fails h = absurd (true≢false fails)
or_left false b fails h = h

any_put :
    {X : Type 0} (p : X → Bool) (es : Table X) (k : ℕ) (v : X) → at es k ≡ None
    → list_any p (values_of es) ≡ true → list_any p (values_of (put es k v)) ≡ true
any_put p [] k v none h = absurd (true≢false (sym h))
any_put p (e ∷ es) k v none h =
    elim (nat_cmp k e.0) as
    (λ r. nat_cmp k e.0 ≡ r → cond (is_eq r) (Some e.1) (at es k) ≡ None
    → list_any p (values_of (match_ordering r ((k, v) ∷ e ∷ es) ((e.0, v) ∷ es) (e ∷ put es k v))) ≡ true) [
      | Less ↦ λ t n. or_true (p v) (p e.1 || list_any p (values_of es)) h
      | Equal ↦ λ t n. absurd (none-some e.1 (sym n))
      | Greater ↦ λ t n.
          or_step (p e.1) (list_any p (values_of es)) (list_any p (values_of (put es k v))) h (any_put p es k v n)
    ] refl none

any_without :
    {X : Type 0} (p : X → Bool) (es : Table X) (k : ℕ) → ((v : X) → at es k ≡ Some v → p v ≡ false)
    → list_any p (values_of es) ≡ true → list_any p (values_of (without es k)) ≡ true
any_without p [] k fails h = h
any_without {X = X} p (e ∷ es) k fails h =
    elim (is_at (nat_cmp k) e.0) as
    (λ b. ((v : X) → cond b (Some e.1) (at es k) ≡ Some v → p v ≡ false)
    → list_any p (values_of (cond b es (e ∷ without es k))) ≡ true) [
      | true ↦ λ f. or_left (p e.1) (list_any p (values_of es)) (f e.1 refl) h
      | false ↦ λ f.
          or_step (p e.1) (list_any p (values_of es)) (list_any p (values_of (without es k))) h (any_without p es k f)
    ] fails

any_altered :
    {X : Type 0} (p : X → Bool) (es : Table X) (k : ℕ) (f : X → X) → ((v : X) → p (f v) ≡ p v)
    → list_any p (values_of (alter es k f)) ≡ list_any p (values_of es)
any_altered p [] k f same = refl
any_altered p (e ∷ es) k f same = grind (arith, common_steps, nat_cmp, any_altered p es k f same)

any_mapped :
    {X : Type 0} (p : X → Bool) (es : Table X) (f : X → X) → ((v : X) → p (f v) ≡ p v)
    → list_any p (values_of (map_values f es)) ≡ list_any p (values_of es)
any_mapped p [] f same = refl
any_mapped p (e ∷ es) f same = grind (arith, common_steps, any_mapped p es f same)

-- one that passes is among those that stay, or something follows from it
any_filter :
    {X : Type 0} (p : X → Bool) (keep : ℕ × X → Bool) (es : Table X) (D : Type 0)
    → Each (λ e. p e.1 ≡ true → keep e ≡ false → D) es
    → (list_any p (values_of (filter keep es)) ≡ true → D) → list_any p (values_of es) ≡ true → D
any_filter p keep [] D out kept h = absurd (true≢false (sym h))
any_filter p keep (e ∷ es) D out kept h =
    let rest = list_any p (values_of es) in
    let stay = list_any p (values_of (filter keep es)) in
    elim (p e.1) as (λ a. p e.1 ≡ a → D) [
      | true ↦ λ s. elim (keep e) as
          (λ b. keep e ≡ b
          → (list_any p (values_of (cond b (e ∷ filter keep es) (filter keep es))) ≡ true → D) → D) [
            | true ↦ λ t on. on (ap (λ b. b || stay) s)
            | false ↦ λ t on. out.0 s t
          ] refl kept
      | false ↦ λ s. elim (keep e) as
          (λ b. (list_any p (values_of (cond b (e ∷ filter keep es) (filter keep es))) ≡ true → D) → D) [
            | true ↦ λ on. any_filter p keep es D out.1 (λ l. on (or_true (p e.1) stay l)) (or_left (p e.1) rest s h)
            | false ↦ λ on. any_filter p keep es D out.1 on (or_left (p e.1) rest s h)
          ] kept
    ] refl

-- ---- each of a table
each_always : {X : Type 0} (P : X → Type 0) (xs : List X) → ((x : X) → P x) → Each P xs
each_always P [] on = tt
each_always P (x ∷ xs) on = (on x, each_always P xs on)

each_passes : {X : Type 0} (p : X → Bool) (xs : List X) → Each (λ x. p x ≡ true) (filter p xs)
each_passes p [] = tt
each_passes p (x ∷ xs) = grind (arith, common_steps, each_passes p xs)

apart_first : {X : Type 0} (k : ℕ) (e : ℕ × X) (es : Table X) → at (e ∷ es) k ≡ None → is_at (nat_cmp k) e.0 ≡ false
apart_first k e es none = grind (arith, common_steps, nat_cmp, none-some)

each_apart : {X : Type 0} (k : ℕ) (es : Table X) → at es k ≡ None → Each (λ e. is_at (nat_cmp k) e.0 ≡ false) es
each_apart k [] none = tt
each_apart k (e ∷ es) none = (apart_first k e es none, each_apart k es (later_none e es k none))

each_key :
    {X : Type 0} (P : ℕ → Type 0) (g : X → X) (es : Table X) → Each (λ e. P e.0) es
    → Each (λ e. P e.0) (map_values g es)
each_key P g [] h = tt
each_key P g (e ∷ es) h = (h.0, each_key P g es h.1)

-- ---- contexts of a group
-- a context is of this group, as of this process
abbrev pub has : (Context → ℕ) → Table Context → ℕ → Bool
has group es q = list_any (λ c. group c == q) (values_of es)

-- each group that a table knows has a context
abbrev pub AllHave : {Y : Type 0} → (Context → ℕ) → Table Context → Table Y → Type 0
AllHave group es xs = Each (λ e. has group es e.0 ≡ true) xs

all_on :
    {Y : Type 0} (group : Context → ℕ) (es ds : Table Context) (xs : Table Y)
    → ((q : ℕ) → has group es q ≡ true → has group ds q ≡ true) → AllHave group es xs → AllHave group ds xs
all_on group es ds xs on h = each_on (λ e. has group es e.0 ≡ true) (λ e. has group ds e.0 ≡ true) xs (λ e. on e.0) h

whole_as :
    (new : Anchors) (es : Table Context) (ps : Table (Option ℕ)) (us : Table UidRings) → new.contexts ≡ es
    → new.processes ≡ ps → new.uids ≡ us → AllHave (λ c. c.process) es ps → AllHave (λ c. c.caller.uid) es us
    → IsWhole new
whole_as new es ps us contexts processes uids in_process in_uid = record {
  processes = subst (λ (xs : Table (Option ℕ)). AllHave (λ c. c.process) new.contexts xs) (sym processes)
      (subst (λ (zs : Table Context). AllHave (λ c. c.process) zs ps) (sym contexts) in_process);
  uids = subst (λ (xs : Table UidRings). AllHave (λ c. c.caller.uid) new.contexts xs) (sym uids)
      (subst (λ (zs : Table Context). AllHave (λ c. c.caller.uid) zs us) (sym contexts) in_uid);
}

all_put :
    {Y : Type 0} (group : Context → ℕ) (es : Table Context) (n : ℕ) (c : Context) (xs : Table Y) → at es n ≡ None
    → AllHave group es xs → AllHave group (put es n c) xs
all_put group es n c xs none = all_on group es (put es n c) xs (λ q. any_put (λ x. group x == q) es n c none)

-- a context comes with its group
all_entered :
    {Y : Type 0} (group : Context → ℕ) (es : Table Context) (n : ℕ) (c : Context) (xs : Table Y) (g : ℕ) (v : Y)
    → at es n ≡ None → group c ≡ g → AllHave group es xs → AllHave group (put es n c) (put xs g v)
all_entered group es n c xs g v none same h =
    each_put (λ e. has group (put es n c) e.0 ≡ true) xs g v
    (any_at (λ x. group x == g) (put es n c) n c (at_put_same es n c) (same_is (group c) g same))
    (all_put group es n c xs none h)

all_altered :
    {Y : Type 0} (group : Context → ℕ) (es : Table Context) (n : ℕ) (f : Context → Context) (xs : Table Y)
    → ((c : Context) → group (f c) ≡ group c) → AllHave group es xs → AllHave group (alter es n f) xs
all_altered group es n f xs same = grind (arith, common_steps, all_on, any_altered)

all_mapped :
    {Y : Type 0} (group : Context → ℕ) (es : Table Context) (f : Context → Context) (xs : Table Y) (g : Y → Y)
    → ((c : Context) → group (f c) ≡ group c) → AllHave group es xs
    → AllHave group (map_values f es) (map_values g xs)
all_mapped group es f xs g same h =
    each_key (λ k. has group (map_values f es) k ≡ true) g xs
    (all_on group es (map_values f es) xs
    (λ q t. any_mapped (λ x. group x == q) es f (λ c. ap (λ (k : ℕ). k == q) (same c)) ∙ t) h)

-- ---- a context ends, and its group with the last context of it
still :
    (group : Context → ℕ) (es ds : Table Context) (n q : ℕ) (c : Context) → at es n ≡ Some c → ds ≡ without es n
    → (group c == q) ≡ false → has group es q ≡ true → has group ds q ≡ true
still group es ds n q c there less other h = grind (arith, common_steps, any_without, same_Some)

not_at : (p q : ℕ) → is_at (nat_cmp p) q ≡ false → (p == q) ≡ false
not_at p q apart = grind (arith, common_steps, true≢false, nat_cmp, eqb-true, is_at_same)

other_or_left :
    (group : Context → ℕ) (es ds : Table Context) (n q : ℕ) (c : Context) → at es n ≡ Some c → ds ≡ without es n
    → has group ds (group c) ≡ true → has group es q ≡ true → has group ds q ≡ true
other_or_left group es ds n q c there less left h =
    elim (group c == q) as (λ b. (group c == q) ≡ b → has group ds q ≡ true) [
      | true ↦ λ t. subst (λ (z : ℕ). has group ds z ≡ true) (eqb-true (group c) q t) left
      | false ↦ λ t. still group es ds n q c there less t h
    ] refl

all_ended :
    {Y : Type 0} (group : Context → ℕ) (es ds : Table Context) (n : ℕ) (c : Context) (xs ys : Table Y)
    → at es n ≡ Some c → ds ≡ without es n → ys ≡ (if has group ds (group c) then xs else without xs (group c))
    → (has group ds (group c) ≡ false → at ys (group c) ≡ None) → AllHave group es xs → AllHave group ds ys
all_ended {Y = Y} group es ds n c xs ys there less is gone h =
    let g = group c in
    elim (has group ds g) as (λ b. has group ds g ≡ b → ys ≡ cond b xs (without xs g) → AllHave group ds ys) [
      | true ↦ λ t e. subst (λ (zs : Table Y). AllHave group ds zs) (sym e)
          (all_on group es ds xs (λ q. other_or_left group es ds n q c there less t) h)
      | false ↦ λ t e. each_both (λ x. is_at (nat_cmp g) x.0 ≡ false) (λ x. has group es x.0 ≡ true)
          (λ x. has group ds x.0 ≡ true) ys
          (λ x apart. still group es ds n x.0 c there less (not_at g x.0 apart))
          (each_apart g ys (gone t))
          (subst (λ (zs : Table Y). AllHave group es zs) (sym e)
          (each_without (λ x. has group es x.0 ≡ true) xs g h))
    ] refl is

-- ---- the other contexts of a process end
at_stays :
    {X : Type 0} (keep : ℕ × X → Bool) (es : Table X) (k : ℕ) (v : X) → at es k ≡ Some v → keep (k, v) ≡ true
    → at (filter keep es) k ≡ Some v
at_stays keep [] k v there kept = there
at_stays {X = X} keep (e ∷ es) k v there kept =
    elim (is_at (nat_cmp k) e.0) as
    (λ b. is_at (nat_cmp k) e.0 ≡ b → cond b (Some e.1) (at es k) ≡ Some v
    → at (cond (keep e) (e ∷ filter keep es) (filter keep es)) k ≡ Some v) [
      | true ↦ λ t n.
          let keeps : keep e ≡ true = subst (λ (w : X). keep (e.0, w) ≡ true) (sym (same_Some e.1 v n))
          (subst (λ (m : ℕ). keep (m, v) ≡ true) (same_at k e.0 t) kept) in
          ap (λ b. at (cond b (e ∷ filter keep es) (filter keep es)) k) keeps
          ∙ (ap (λ b. cond b (Some e.1) (at (filter keep es) k)) t ∙ n)
      | false ↦ λ t n.
          elim (keep e) as (λ b. at (cond b (e ∷ filter keep es) (filter keep es)) k ≡ Some v) [
            | true ↦ ap (λ b. cond b (Some e.1) (at (filter keep es) k)) t ∙ at_stays keep es k v n kept
            | false ↦ at_stays keep es k v n kept
          ]
    ] refl there

of_out : (a b : Bool) → (not a || b) ≡ false → a ≡ true
of_out true b h = refl
of_out false b h = absurd (true≢false h)

-- of its process the context stays, and whatever group the others were of is its group too
has_execed :
    (group : Context → ℕ) (own : ℕ → ℕ) (es : Table Context) (process n q : ℕ) (c : Context)
    → Each (λ e. group e.1 ≡ own e.1.process) es → at es n ≡ Some c → c.process ≡ process → has group es q ≡ true
    → has group (filter (λ e. not (e.1.process == process) || (e.0 == n)) es) q ≡ true
has_execed group own es process n q c owned there same =
    let keep : ℕ × Context → Bool = λ e. not (e.1.process == process) || (e.0 == n) in
    let ds = filter keep es in
    let stays : at ds n ≡ Some c =
    at_stays keep es n c there (or_true (not (c.process == process)) (n == n) (same_is n n refl)) in
    let mine : group c ≡ own process =
    each_at (λ e. group e.1 ≡ own e.1.process) es n c owned there ∙ ap own same in
    any_filter (λ x. group x == q) keep es (has group ds q ≡ true)
    (each_on (λ e. group e.1 ≡ own e.1.process)
    (λ e. (group e.1 == q) ≡ true → keep e ≡ false → has group ds q ≡ true) es
    (λ e owner is out. any_at (λ x. group x == q) ds n c stays
    (subst (λ (z : ℕ). (z == q) ≡ true)
    (owner ∙ (ap own (eqb-true e.1.process process (of_out (e.1.process == process) (e.0 == n) out)) ∙ sym mine))
    is)) owned)
    (λ l. l)

-- ---- anchors
unused : (t : Anchors) → IsFit t → at t.contexts t.next_context ≡ None
unused t fit = let n = t.next_context in let le : n ≤ n = omega arith in fit.contexts n le

pub thread_whole :
    (t new : Anchors) (c : Context) → IsFit t → new.contexts ≡ put t.contexts t.next_context c
    → new.processes ≡ t.processes → new.uids ≡ t.uids → IsWhole t → IsWhole new
thread_whole t new c fit contexts processes uids is =
    let n = t.next_context in
    whole_as new (put t.contexts n c) t.processes t.uids contexts processes uids
    (all_put (λ x. x.process) t.contexts n c t.processes (unused t fit) is.processes)
    (all_put (λ x. x.caller.uid) t.contexts n c t.uids (unused t fit) is.uids)

-- a context in a process of its own, of a uid that is there
pub enter_whole :
    (t new : Anchors) (c : Context) → IsFit t → c.process ≡ t.next_context
    → new.contexts ≡ put t.contexts t.next_context c → new.processes ≡ put t.processes t.next_context None
    → new.uids ≡ t.uids → IsWhole t → IsWhole new
enter_whole t new c fit own contexts processes uids is =
    let n = t.next_context in
    whole_as new (put t.contexts n c) (put t.processes n None) t.uids contexts processes uids
    (all_entered (λ x. x.process) t.contexts n c t.processes n None (unused t fit) own is.processes)
    (all_put (λ x. x.caller.uid) t.contexts n c t.uids (unused t fit) is.uids)

-- a context in a process of its own, with the keyrings of its uid
pub first_whole :
    (t new : Anchors) (c : Context) (uid : ℕ) (rings : UidRings) → IsFit t → c.process ≡ t.next_context
    → c.caller.uid ≡ uid → new.contexts ≡ put t.contexts t.next_context c
    → new.processes ≡ put t.processes t.next_context None → new.uids ≡ put t.uids uid rings
    → IsWhole t → IsWhole new
first_whole t new c uid rings fit own same contexts processes uids is =
    let n = t.next_context in
    whole_as new (put t.contexts n c) (put t.processes n None) (put t.uids uid rings) contexts processes uids
    (all_entered (λ x. x.process) t.contexts n c t.processes n None (unused t fit) own is.processes)
    (all_entered (λ x. x.caller.uid) t.contexts n c t.uids uid rings (unused t fit) same is.uids)

pub altered_whole :
    (t new : Anchors) (number : ℕ) (f : Context → Context) → ((c : Context) → (f c).process ≡ c.process)
    → ((c : Context) → (f c).caller.uid ≡ c.caller.uid) → new.contexts ≡ alter t.contexts number f
    → new.processes ≡ t.processes → new.uids ≡ t.uids → IsWhole t → IsWhole new
altered_whole t new number f same same_uid contexts processes uids is =
    whole_as new (alter t.contexts number f) t.processes t.uids contexts processes uids
    (all_altered (λ x. x.process) t.contexts number f t.processes same is.processes)
    (all_altered (λ x. x.caller.uid) t.contexts number f t.uids same_uid is.uids)

pub ring_whole :
    (t new : Anchors) (process : ℕ) (g : Option ℕ → Option ℕ) → new.contexts ≡ t.contexts
    → new.processes ≡ alter t.processes process g → new.uids ≡ t.uids → IsWhole t → IsWhole new
ring_whole t new process g contexts processes uids is =
    whole_as new t.contexts (alter t.processes process g) t.uids contexts processes uids
    (each_alter (λ e. has (λ x. x.process) t.contexts e.0 ≡ true) t.processes process g (λ e h. h) is.processes)
    is.uids

pub mapped_whole :
    (t new : Anchors) (f : Context → Context) (g : Option ℕ → Option ℕ) (r : UidRings → UidRings)
    → ((c : Context) → (f c).process ≡ c.process) → ((c : Context) → (f c).caller.uid ≡ c.caller.uid)
    → new.contexts ≡ map_values f t.contexts → new.processes ≡ map_values g t.processes
    → new.uids ≡ map_values r t.uids → IsWhole t → IsWhole new
mapped_whole t new f g r same same_uid contexts processes uids is =
    whole_as new (map_values f t.contexts) (map_values g t.processes) (map_values r t.uids) contexts processes uids
    (all_mapped (λ x. x.process) t.contexts f t.processes g same is.processes)
    (all_mapped (λ x. x.caller.uid) t.contexts f t.uids r same_uid is.uids)

pub ended_whole :
    (t new : Anchors) (number : ℕ) (c : Context) → at t.contexts number ≡ Some c
    → new.contexts ≡ without t.contexts number
    → new.processes ≡ (if has_process new.contexts c.process then t.processes else without t.processes c.process)
    → (has_process new.contexts c.process ≡ false → at new.processes c.process ≡ None)
    → new.uids ≡ (if has_uid new.contexts c.caller.uid then t.uids else without t.uids c.caller.uid)
    → (has_uid new.contexts c.caller.uid ≡ false → at new.uids c.caller.uid ≡ None) → IsWhole t → IsWhole new
ended_whole t new number c there contexts processes no_process uids no_uid is = record {
  processes = all_ended (λ x. x.process) t.contexts new.contexts number c t.processes new.processes there contexts
      processes no_process is.processes;
  uids = all_ended (λ x. x.caller.uid) t.contexts new.contexts number c t.uids new.uids there contexts uids no_uid
      is.uids;
}

pub execed_whole :
    (t new : Anchors) (number process : ℕ) (f : Context → Context) (g : Option ℕ → Option ℕ) (c : Context)
    → ((x : Context) → (f x).process ≡ x.process) → ((x : Context) → (f x).caller.uid ≡ x.caller.uid) → IsFit t
    → at t.contexts number ≡ Some c → c.process ≡ process
    → new.contexts ≡ filter (λ e. not (e.1.process == process) || (e.0 == number)) (alter t.contexts number f)
    → new.processes ≡ alter t.processes process g → new.uids ≡ t.uids → IsWhole t → IsWhole new
execed_whole t new number process f g c same same_uid fit there own contexts processes uids is =
    let es = alter t.contexts number f in
    let ds = filter (λ e. not (e.1.process == process) || (e.0 == number)) es in
    let here : at es number ≡ Some (f c) = at_alter_same t.contexts number f ∙ ap (option_map f) there in
    let owner = fit.owners.0 in
    let owned : Each (λ e. e.1.caller.uid ≡ owner e.1.process) es =
    each_alter (λ e. e.1.caller.uid ≡ owner e.1.process) t.contexts number f
    (λ e h. same_uid e.1 ∙ (h ∙ ap owner (sym (same e.1)))) fit.owners.1 in
    whole_as new ds (alter t.processes process g) t.uids contexts processes uids
    (all_on (λ x. x.process) es ds (alter t.processes process g)
    (λ q. has_execed (λ x. x.process) (λ p. p) es process number q (f c)
    (each_always (λ e. e.1.process ≡ e.1.process) es (λ e. refl)) here (same c ∙ own))
    (each_alter (λ e. has (λ x. x.process) es e.0 ≡ true) t.processes process g (λ e h. h)
    (all_altered (λ x. x.process) t.contexts number f t.processes same is.processes)))
    (all_on (λ x. x.caller.uid) es ds t.uids
    (λ q. has_execed (λ x. x.caller.uid) owner es process number q (f c) owned here (same c ∙ own))
    (all_altered (λ x. x.caller.uid) t.contexts number f t.uids same_uid is.uids))

-- what has no context is gone
pub idle_whole :
    (t new : Anchors) → new.contexts ≡ t.contexts
    → new.processes ≡ filter (λ e. has (λ x. x.process) t.contexts e.0) t.processes
    → new.uids ≡ filter (λ e. has (λ x. x.caller.uid) t.contexts e.0) t.uids → IsWhole new
idle_whole t new contexts processes uids =
    whole_as new t.contexts new.processes new.uids contexts refl refl
    (subst (λ (xs : Table (Option ℕ)). AllHave (λ x. x.process) t.contexts xs) (sym processes)
    (each_passes (λ e. has (λ x. x.process) t.contexts e.0) t.processes))
    (subst (λ (xs : Table UidRings). AllHave (λ x. x.caller.uid) t.contexts xs) (sym uids)
    (each_passes (λ e. has (λ x. x.caller.uid) t.contexts e.0) t.uids))

pub same_whole :
    (t new : Anchors) → new.contexts ≡ t.contexts → new.processes ≡ t.processes → new.uids ≡ t.uids
    → IsWhole t → IsWhole new
same_whole t new contexts processes uids is =
    whole_as new t.contexts t.processes t.uids contexts processes uids is.processes is.uids

pub none_whole : (new : Anchors) → new.processes ≡ [] → new.uids ≡ [] → IsWhole new
none_whole new processes uids = whole_as new new.contexts [] [] refl processes uids tt tt
