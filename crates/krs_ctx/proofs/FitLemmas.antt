-- What is true of all anchors stays so.
use Rattle.std.proofs.Common.{[], ⊎_elim, ◌+◌, ◌<◌, ◌∙◌, ◌∷◌, ◌≡◌, ◌≤◌, ap, arith, Bool, cond, false, filter}
use Rattle.std.proofs.Common.{if◌then◌else◌, IsSome, nat_cmp, None, Option, option_map, refl, Some, subst, sym, true}
use Rattle.std.proofs.Common.{true≢false, ℕ}
use Rattle.std.specs.{BTreeMap.is_at, Cmp.unsigned_tied}
use Rattle.std.proofs.{Math.Nat.lt_of_not-le, lemmas.{Bool.Decides.nat_tests, Option.none-some}}
use Rattle.krs_types.specs.declared.context.Context.{Context}
use Rattle.krs_model.specs.{Asks.Leaving.has_process, Table.{alter, at, IsBelow, map_values, put, Table, without}}
use Rattle.krs_model.proofs.{Reach.Levels.{or_true, same_is}, Sound.Changes.there_map, Tables.Changes.at_alter_none}
use Rattle.krs_model.proofs.Tables.Changes.{at_alter_other, at_alter_same, at_kept, at_map, at_or_apart, at_put_other}
use Rattle.krs_model.proofs.Tables.Changes.{at_put_same, at_without_none, at_without_other, below_filter, below_put}
use Rattle.krs_ctx.specs.Anchors.{Anchors, Each, IsEntered, IsFit}
use Rattle.krs_ctx.proofs.EachLemmas.{each_alter, each_at, each_below, each_both, each_filter, each_on, each_put}
use Rattle.krs_ctx.proofs.EachLemmas.{each_without}
use Rattle.krs_ctx.proofs.OwnerLemmas.{owners_alter, owners_filter, owners_map, owners_own, owners_put, owners_without}
use Rattle.std.proofs.lemmas.Grind.{common_steps}

-- a table whose numbers are below one is below the next
below_more : {X : Type 0} (es : Table X) (n : ℕ) → IsBelow es n → IsBelow es (n + 1)
below_more es n below = λ q h. below q (omega arith)

below_alter : {X : Type 0} (es : Table X) (k n : ℕ) (f : X → X) → IsBelow es n → IsBelow (alter es k f) n
below_alter es k n f below = λ q h. at_alter_none es k q f (below q h)

below_without : {X : Type 0} (es : Table X) (k n : ℕ) → IsBelow es n → IsBelow (without es k) n
below_without es k n below = λ q h. at_without_none es k q (below q h)

after : (n q : ℕ) → n ≤ q → is_at (nat_cmp q) n ≡ false → n + 1 ≤ q
after n q h apart = grind (arith, nat_tests, unsigned_tied q n)

before : (p e n : ℕ) → p ≤ e → e < n → p ≡ n → ⊥
before p e n le lt same = omega arith

-- the last number is taken out
below_last : {X : Type 0} (es : Table X) (n : ℕ) → at (without es n) n ≡ None → IsBelow es (n + 1)
    → IsBelow (without es n) n
below_last es n gone below = λ q h.
    ⊎_elim (λ (e : q ≡ n). subst (λ (z : ℕ). at (without es n) z ≡ None) (sym e) gone)
    (λ (apart : is_at (nat_cmp q) n ≡ false). at_without_none es n q (below q (after n q h apart)))
    (at_or_apart q n)

-- a process that is there is there after another was made, changed or ended
still_put : (ps : Table (Option ℕ)) (n q : ℕ) (v : Option ℕ) → IsSome (at ps q) → IsSome (at (put ps n v) q)
still_put ps n q v h = grind (arith, common_steps, ⊎_elim, at_put_same, at_put_other, at_or_apart)

map_some : (f : Option ℕ → Option ℕ) (o : Option (Option ℕ)) → IsSome o → IsSome (option_map f o)
map_some f None h = h
map_some f (Some v) h = refl

still_alter : (ps : Table (Option ℕ)) (n q : ℕ) (f : Option ℕ → Option ℕ) → IsSome (at ps q)
    → IsSome (at (alter ps n f) q)
still_alter ps n q f h = grind (arith, common_steps, ⊎_elim, at_alter_same, map_some, at_alter_other, at_or_apart)

still_without : (ps : Table (Option ℕ)) (n q : ℕ) → (q ≡ n → ⊥) → IsSome (at ps q) → IsSome (at (without ps n) q)
still_without ps n q other h = grind (arith, common_steps, ⊎_elim, at_without_other, at_or_apart)

-- each context has a context of its process: itself
each_has : (es : Table Context) → Each (λ e. has_process es e.1.process ≡ true) es
each_has [] = tt
each_has (e ∷ es) = grind (arith, common_steps, same_is, each_on, or_true, each_has es)

-- a context that is there is in a process, and its number was given
pub record IsKnown (t : Anchors) (number : ℕ) (c : Context) : Type 0 where
  pub process : IsSome (at t.processes c.process)
  pub from : c.process ≤ number
  pub given : number < t.next_context

pub known : (t : Anchors) (number : ℕ) (c : Context) → IsFit t → at t.contexts number ≡ Some c → IsKnown t number c
known t number c fit there = grind (arith, common_steps, each_at, lt_of_not-le, none-some)

-- one more context of a process
pub thread_fit : (t new : Anchors) (number : ℕ) (maker c : Context) → IsFit t → at t.contexts number ≡ Some maker
    → c.process ≡ maker.process → c.caller.uid ≡ maker.caller.uid → new.contexts ≡ put t.contexts t.next_context c
    → new.processes ≡ t.processes → new.next_context ≡ t.next_context + 1 → IsFit new
thread_fit t new number maker c fit there same same_uid contexts processes next =
    let is = known t number maker fit there in
    let from = is.from in
    let given = is.given in
    record {
      contexts = rw next (below_put t.contexts new.contexts t.next_context c contexts fit.contexts);
      processes = rw (processes, next) (below_more t.processes t.next_context fit.processes);
      entered = rw (contexts, processes)
          (each_put (IsEntered t.processes) t.contexts t.next_context c (rw same is.process, omega arith)
          fit.entered);
      owners = owners_put t.contexts new.contexts t.next_context number c maker contexts there same same_uid fit.owners;
    }

-- a context in a process of its own
pub enter_fit : (t new : Anchors) (c : Context) → IsFit t → c.process ≡ t.next_context
    → new.contexts ≡ put t.contexts t.next_context c → new.processes ≡ put t.processes t.next_context None
    → new.next_context ≡ t.next_context + 1 → IsFit new
enter_fit t new c fit own contexts processes next =
    let n = t.next_context in
    let ps = put t.processes n None in
    record {
      contexts = rw next (below_put t.contexts new.contexts n c contexts fit.contexts);
      processes = rw next (below_put t.processes new.processes n None processes fit.processes);
      entered = rw (contexts, processes)
          (each_put (IsEntered ps) t.contexts n c (rw (own, at_put_same t.processes n None) refl, omega arith)
          (each_on (IsEntered t.processes) (IsEntered ps) t.contexts
          (λ e h. (still_put t.processes n e.1.process None h.0, h.1)) fit.entered));
      owners = owners_own t.contexts new.contexts t.processes n c contexts own fit.contexts fit.entered fit.owners;
    }

-- a context changed, but for its process, and others ended
pub changed_fit : (t new : Anchors) (number : ℕ) (f : Context → Context) (p : ℕ × Context → Bool)
    → ((c : Context) → (f c).process ≡ c.process) → ((c : Context) → (f c).caller.uid ≡ c.caller.uid) → IsFit t
    → new.contexts ≡ filter p (alter t.contexts number f) → new.processes ≡ t.processes
    → new.next_context ≡ t.next_context → IsFit new
changed_fit t new number f p same same_uid fit contexts processes next =
    grind (arith, common_steps, below_filter, below_alter, each_filter, each_alter, owners_filter, owners_alter)

pub altered_fit : (t new : Anchors) (number : ℕ) (f : Context → Context)
    → ((c : Context) → (f c).process ≡ c.process) → ((c : Context) → (f c).caller.uid ≡ c.caller.uid) → IsFit t
    → new.contexts ≡ alter t.contexts number f → new.processes ≡ t.processes
    → new.next_context ≡ t.next_context → IsFit new
altered_fit t new number f same same_uid fit contexts processes next =
    grind (arith, common_steps, below_alter, each_alter, owners_alter)

-- another keyring of a process
pub ring_fit : (t new : Anchors) (process : ℕ) (f : Option ℕ → Option ℕ) → IsFit t → new.contexts ≡ t.contexts
    → new.processes ≡ alter t.processes process f → new.next_context ≡ t.next_context → IsFit new
ring_fit t new process f fit contexts processes next = grind (arith, common_steps, below_alter, each_on, still_alter)

-- a context ends, and its process stays
pub ended_fit : (t new : Anchors) (number : ℕ) → IsFit t → new.contexts ≡ without t.contexts number
    → new.processes ≡ t.processes → new.next_context ≡ t.next_context → IsFit new
ended_fit t new number fit contexts processes next =
    grind (arith, common_steps, below_without, each_without, owners_without)

no_process : (es : Table Context) (process : ℕ) → has_process es process ≡ false
    → Each (λ e. (e.1.process ≡ process) → ⊥) es
no_process es process none = each_on (λ e. has_process es e.1.process ≡ true) (λ e. (e.1.process ≡ process) → ⊥) es
    (λ e h same. true≢false (sym h ∙ (ap (has_process es) same ∙ none))) (each_has es)

-- a process ends that has no context
pub process_fit : (t new : Anchors) (process : ℕ) → IsFit t → has_process t.contexts process ≡ false
    → new.contexts ≡ t.contexts → new.processes ≡ without t.processes process → new.next_context ≡ t.next_context
    → IsFit new
process_fit t new process fit none contexts processes next =
    let ps = without t.processes process in
    record {
      contexts = rw (contexts, next) fit.contexts;
      processes = rw (processes, next) (below_without t.processes process t.next_context fit.processes);
      entered = rw (contexts, processes)
          (each_both (λ e. (e.1.process ≡ process) → ⊥) (IsEntered t.processes) (IsEntered ps) t.contexts
          (λ e other h. (still_without t.processes process e.1.process other h.0, h.1))
          (no_process t.contexts process none) fit.entered);
      owners = rw contexts fit.owners;
    }

-- processes end that have no context
pub idle_fit : (t new : Anchors) → IsFit t → new.contexts ≡ t.contexts
    → new.processes ≡ filter (λ e. has_process t.contexts e.0) t.processes → new.next_context ≡ t.next_context
    → IsFit new
idle_fit t new fit contexts processes next =
    let ps = filter (λ e. has_process t.contexts e.0) t.processes in
    record {
      contexts = rw (contexts, next) fit.contexts;
      processes = rw next
          (below_filter (λ e. has_process t.contexts e.0) t.processes new.processes t.next_context processes
          fit.processes);
      entered = rw (contexts, processes)
          (each_both (λ e. has_process t.contexts e.1.process ≡ true) (IsEntered t.processes) (IsEntered ps) t.contexts
          (λ e has h. (rw (at_kept (has_process t.contexts) t.processes e.1.process, has) h.0, h.1))
          (each_has t.contexts) fit.entered);
      owners = rw contexts fit.owners;
    }

-- the last context and its process are taken back
pub taken_back_fit : (t new : Anchors) (n : ℕ) → IsFit t → t.next_context ≡ n + 1 → at new.contexts n ≡ None
    → at new.processes n ≡ None → new.contexts ≡ without t.contexts n → new.processes ≡ without t.processes n
    → new.next_context ≡ n → IsFit new
taken_back_fit t new n fit last gone_context gone_process contexts processes next =
    let below : IsBelow new.contexts n =
    rw contexts (below_last t.contexts n (rw (← contexts) gone_context) (rw (← last) fit.contexts)) in
    let kept : Each (IsEntered t.processes) new.contexts =
    rw contexts (each_without (IsEntered t.processes) t.contexts n fit.entered) in
    record {
      contexts = rw next below;
      processes = rw (processes, next)
          (below_last t.processes n (rw (← processes) gone_process) (rw (← last) fit.processes));
      entered = rw processes
          (each_both (λ e. e.0 < n) (IsEntered t.processes) (IsEntered (without t.processes n)) new.contexts
          (λ e given h.
          (still_without t.processes n e.1.process (λ same. before e.1.process e.0 n h.1 given same) h.0, h.1))
          (each_below new.contexts n below) kept);
      owners = owners_without t.contexts new.contexts n contexts fit.owners;
    }

same_fit : (t new : Anchors) → IsFit t → new.contexts ≡ t.contexts → new.processes ≡ t.processes
    → new.next_context ≡ t.next_context → IsFit new
same_fit t new fit contexts processes next = grind (arith, common_steps)

-- a context ends, and its process where it was the last one of it
pub exited_fit : (t new : Anchors) (number process : ℕ) → IsFit t → new.contexts ≡ without t.contexts number
    → new.processes ≡ (if has_process new.contexts process then t.processes else without t.processes process)
    → new.next_context ≡ t.next_context → IsFit new
exited_fit t new number process fit contexts processes next =
    let mid : Anchors = record t { contexts = new.contexts } in
    let fits : IsFit mid = ended_fit t mid number fit contexts refl refl in
    elim (has_process new.contexts process) as
    (λ b. has_process new.contexts process ≡ b
    → new.processes ≡ cond b t.processes (without t.processes process) → IsFit new) [
      | true ↦ λ some e. same_fit mid new fits refl e next
      | false ↦ λ none e. process_fit mid new process fits none refl e next
    ] refl processes

-- the other contexts of a process end, and it has another keyring
pub execed_fit :
    (t new : Anchors) (number process : ℕ) (f : Context → Context) (p : ℕ × Context → Bool)
    (g : Option ℕ → Option ℕ) → ((c : Context) → (f c).process ≡ c.process)
    → ((c : Context) → (f c).caller.uid ≡ c.caller.uid) → IsFit t → new.contexts ≡ filter p (alter t.contexts number f)
    → new.processes ≡ alter t.processes process g
    → new.next_context ≡ t.next_context → IsFit new
execed_fit t new number process f p g same same_uid fit contexts processes next =
    let mid : Anchors = record t { contexts = new.contexts } in
    ring_fit mid new process g (changed_fit t mid number f p same same_uid fit contexts refl refl) refl processes next

entered_mapped : (processes : Table (Option ℕ)) (es : Table Context) (f : Context → Context) (g : Option ℕ → Option ℕ)
    → ((c : Context) → (f c).process ≡ c.process) → Each (IsEntered processes) es
    → Each (IsEntered (map_values g processes)) (map_values f es)
entered_mapped processes [] f g same h = tt
entered_mapped processes (e ∷ es) f g same h =
    grind (arith, common_steps, there_map, entered_mapped processes es f g same h.1)

-- changed contexts, processes and uids, under the same numbers
pub mapped_fit : (t new : Anchors) (f : Context → Context) (g : Option ℕ → Option ℕ)
    → ((c : Context) → (f c).process ≡ c.process) → ((c : Context) → (f c).caller.uid ≡ c.caller.uid) → IsFit t
    → new.contexts ≡ map_values f t.contexts → new.processes ≡ map_values g t.processes
    → new.next_context ≡ t.next_context → IsFit new
mapped_fit t new f g same same_uid fit contexts processes next = record {
  contexts = rw (contexts, next) (λ k le. at_map f t.contexts k ∙ ap (option_map f) (fit.contexts k le));
  processes = rw (processes, next) (λ k le. at_map g t.processes k ∙ ap (option_map g) (fit.processes k le));
  entered = rw (contexts, processes) (entered_mapped t.processes t.contexts f g same fit.entered);
  owners = owners_map t.contexts new.contexts f same same_uid contexts fit.owners;
}

-- nothing is there yet
pub none_fit : (new : Anchors) → new.contexts ≡ [] → new.processes ≡ [] → IsFit new
none_fit new contexts processes = record {
  contexts = λ k le. ap (λ (es : Table Context). at es k) contexts;
  processes = λ k le. ap (λ (ps : Table (Option ℕ)). at ps k) processes;
  entered = subst (λ (es : Table Context). Each (IsEntered new.processes) es) (sym contexts) tt;
  owners = (λ p. p, subst (λ (es : Table Context). Each (λ e. e.1.caller.uid ≡ e.1.process) es) (sym contexts) tt);
}
