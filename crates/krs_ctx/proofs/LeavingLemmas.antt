-- LEAVE, one context after the other.
use Rattle.std.proofs.Common.{[], ◌<◌, ◌==◌, ◌||◌, ◌∙◌, ◌∷◌, ◌≡◌, ap, arith, Bool, cond, false, filter, if◌then◌else◌}
use Rattle.std.proofs.Common.{length, nat_cmp, None, not, Ok, Option, refl, Some, subst, suc, sym, true, true≢false, ℕ}
use Rattle.std.specs.{BTreeMap.is_at, List.list_any, Map.values_of}
use Rattle.std.proofs.lemmas.Option.{none-some}
use Rattle.krs_types.specs.declared.{ask.Answer.TheVariants.Nothing, context.{Context.Context, UidRings.UidRings}}
use Rattle.krs_model.specs.Asks.Leaving.{contexts_without, exit, left}
use Rattle.krs_model.specs.{Lookup.context_of, State.State, Table.{at, Table, without}}
use Rattle.krs_ctx.specs.Anchors.{anchored, Anchors, anchors_of, IsWhole}
use Rattle.krs_ctx.specs.{Members.IsThereFailing, Told.{ended_where, IsLeaving, without_idle}}
use Rattle.krs_ctx.proofs.{GroupLemmas.{all_kept, ends_one, filter_without}, ToldLemmas.without_none, WholeLemmas.has}
use Rattle.std.proofs.lemmas.Grind.{common_steps}

abbrev anchors : Table Context → Table (Option ℕ) → Table UidRings → ℕ → Anchors
anchors es ps us n = record { contexts = es; processes = ps; uids = us; next_context = n }

same_anchors :
    (t : Anchors) (es : Table Context) (ps : Table (Option ℕ)) (us : Table UidRings) (n : ℕ) → t.contexts ≡ es
    → t.processes ≡ ps → t.uids ≡ us → t.next_context ≡ n → t ≡ anchors es ps us n
same_anchors t es ps us n a b c d = grind (arith, common_steps)

-- EXIT of a context that is the client's
pub exit_told :
    (s : State) (old new : Anchors) (client number : ℕ) (c : Context) → context_of (anchored s old) client number ≡ Ok c
    → at old.contexts number ≡ Some c → new ≡ ended_where old number (at old.contexts number)
    → exit (anchored s old) client number ≡ Ok (anchored s new, Nothing)
unfolding exit
exit_told s old new client number c own there is = grind (arith, common_steps)

-- the end of a context that is not there, and of one that is
pub ended_none :
    (old t new : Anchors) (number : ℕ) → t ≡ old → at t.contexts number ≡ None
    → new.contexts ≡ without t.contexts number → new.processes ≡ t.processes → new.uids ≡ t.uids
    → new.next_context ≡ t.next_context → new ≡ ended_where old number (at old.contexts number)
ended_none old t new number is none contexts processes uids next =
    grind (arith, common_steps, same_anchors, without_none)

less_one : (n : ℕ) → n < suc n
less_one n = omega arith

one_more : (n m : ℕ) → n < m → suc n < suc m
one_more n m h = omega arith

-- one fewer is there
fewer : {X : Type 0} (es : Table X) (k : ℕ) (v : X) → at es k ≡ Some v → length (without es k) < length es
fewer [] k v h = absurd (none-some v h)
fewer (e ∷ es) k v h =
    elim (is_at (nat_cmp k) e.0) as
    (λ b. cond b (Some e.1) (at es k) ≡ Some v → length (cond b es (e ∷ without es k)) < suc (length es)) [
      | true ↦ λ t. less_one (length es)
      | false ↦ λ t. one_more (length (without es k)) (length es) (fewer es k v t)
    ] h

pub ended_fewer :
    (t new : Anchors) (number : ℕ) (passes : ℕ × Context → Bool) → IsThereFailing passes t.contexts number
    → new ≡ ended_where t number (at t.contexts number) → length new.contexts < length t.contexts
ended_fewer t new number passes there is = grind (arith, common_steps, fewer)

-- LEAVE, before a context ends
pub leaving_none : (client : ℕ) (t : Anchors) → IsLeaving client t t
leaving_none client t = record { contexts = refl; processes = refl; uids = refl; next = refl }

or_left : (a b : Bool) → (a || b) ≡ false → a ≡ false
or_left true b h = h
or_left false b h = refl

or_right : (a b : Bool) → (a || b) ≡ false → b ≡ false
or_right true b h = absurd (true≢false h)
or_right false b h = h

none_of_fewer :
    {X : Type 0} (p : X → Bool) (keep : ℕ × X → Bool) (es : Table X)
    → list_any p (values_of es) ≡ false → list_any p (values_of (filter keep es)) ≡ false
none_of_fewer p keep [] h = h
none_of_fewer p keep (e ∷ es) h =
    let rest = list_any p (values_of es) in
    let fewer = none_of_fewer p keep es (or_right (p e.1) rest h) in
    elim (keep e) as (λ b. list_any p (values_of (cond b (e ∷ filter keep es) (filter keep es))) ≡ false) [
      | true ↦ ap (λ b. b || list_any p (values_of (filter keep es))) (or_left (p e.1) rest h) ∙ fewer
      | false ↦ fewer
    ]

-- a group that ends is not one that is to stay
group_ended :
    {Y : Type 0} (group : Context → ℕ) (es kept : Table Context) (xs : Table Y) (g : ℕ)
    → (has group es g ≡ false → has group kept g ≡ false)
    → filter (λ e. has group kept e.0) (if has group es g then xs else without xs g)
    ≡ filter (λ e. has group kept e.0) xs
group_ended group es kept xs g none = grind (arith, common_steps, has, filter_without)

none_kept :
    (group : Context → ℕ) (client : ℕ) (es kept : Table Context) (g : ℕ) → contexts_without client es ≡ kept
    → has group es g ≡ false → has group kept g ≡ false
none_kept group client es kept g is none = grind (arith, common_steps, has, none_of_fewer)

-- one more context of the client ends
pub leaving_one :
    (client : ℕ) (old t new : Anchors) (number : ℕ) → IsLeaving client old t
    → IsThereFailing (λ e. not (e.1.client == client)) t.contexts number
    → new ≡ ended_where t number (at t.contexts number) → IsLeaving client old new
leaving_one client old t new number so there is =
    let c = there.0 in
    let es = without t.contexts number in
    let kept = contexts_without client old.contexts in
    let fewer : contexts_without client es ≡ kept =
    ends_one (λ e. not (e.1.client == client)) t.contexts number there ∙ so.contexts in
    subst (λ (a : Anchors). IsLeaving client old a) (sym (is ∙ ap (ended_where t number) there.1))
    (record {
      contexts = fewer;
      processes =
          group_ended (λ x. x.process) es kept t.processes c.process
          (none_kept (λ x. x.process) client es kept c.process fewer)
          ∙ so.processes;
      uids =
          group_ended (λ x. x.caller.uid) es kept t.uids c.caller.uid
          (none_kept (λ x. x.caller.uid) client es kept c.caller.uid fewer)
          ∙ so.uids;
      next = so.next;
    })

-- all have ended, and what has no context
idle_gone :
    (client : ℕ) (old t : Anchors) → IsLeaving client old t → contexts_without client t.contexts ≡ t.contexts
    → (s : State) → without_idle t ≡ anchors_of (left (anchored s old) client)
unfolding left
idle_gone client old t so none s = grind (arith, common_steps, same_anchors)

pub left_idle :
    (client : ℕ) (old t new : Anchors) → IsLeaving client old t → contexts_without client t.contexts ≡ t.contexts
    → new ≡ without_idle t → (s : State) → new ≡ anchors_of (left (anchored s old) client)
left_idle client old t new so none is s = is ∙ idle_gone client old t so none s

-- where no process and no uid is without a context, none has to end
whole_stays : (t : Anchors) → IsWhole t → t ≡ without_idle t
whole_stays t whole = grind (arith, common_steps, same_anchors, all_kept)

pub whole_left :
    (client : ℕ) (old t : Anchors) → IsLeaving client old t → contexts_without client t.contexts ≡ t.contexts
    → IsWhole t → (s : State) → t ≡ anchors_of (left (anchored s old) client)
whole_left client old t so none whole = left_idle client old t t so none (whole_stays t whole)
