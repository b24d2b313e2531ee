-- The contexts of a process stay those of one uid.
use Rattle.std.proofs.Common.{[], ◌<◌, ◌==◌, ◌∙◌, ◌∷◌, ◌≡◌, ◌≤◌, ap, arith, Bool, cond, false, filter, Option, Some}
use Rattle.std.proofs.{Common.{subst, sym, ℕ}, lemmas.Bool.Decides.nat_tests}
use Rattle.krs_types.specs.declared.context.Context.{Context}
use Rattle.krs_model.specs.Table.{alter, at, IsBelow, map_values, put, Table, without}
use Rattle.krs_model.proofs.Reach.Levels.{same_is}
use Rattle.krs_ctx.specs.Anchors.{Each, HasOwners, IsEntered}
use Rattle.krs_ctx.proofs.EachLemmas.{each_alter, each_at, each_below, each_both, each_filter, each_put, each_without}
use Rattle.std.proofs.lemmas.Grind.{common_steps}

-- a context's uid is that of its process
abbrev pub IsOwned : (ℕ → ℕ) → ℕ × Context → Type 0
IsOwned owner e = e.1.caller.uid ≡ owner e.1.process

pub owners_put :
    (es fs : Table Context) (n number : ℕ) (c maker : Context) → fs ≡ put es n c → at es number ≡ Some maker
    → c.process ≡ maker.process → c.caller.uid ≡ maker.caller.uid → HasOwners es → HasOwners fs
owners_put es fs n number c maker is there same same_uid owned = grind (arith, common_steps, each_at, each_put)

less_apart : (p n : ℕ) → p < n → (p == n) ≡ false
less_apart p n h = grind (arith, nat_tests)

lower : (p k n : ℕ) → p ≤ k → k < n → p < n
lower p k n le lt = omega arith

pub owners_own :
    (es fs : Table Context) (ps : Table (Option ℕ)) (n : ℕ) (c : Context) → fs ≡ put es n c → c.process ≡ n
    → IsBelow es n → Each (IsEntered ps) es → HasOwners es → HasOwners fs
owners_own es fs ps n c is own below entered owned =
    let owner = owned.0 in
    let uid = c.caller.uid in
    let after : ℕ → ℕ = λ p. cond (p == n) uid (owner p) in
    let older : Each (λ e. e.1.process < n) es =
    each_both (IsEntered ps) (λ e. e.0 < n) (λ e. e.1.process < n) es (λ e h lt. lower e.1.process e.0 n h.1 lt)
    entered (each_below es n below) in
    let mine : uid ≡ after c.process =
    sym (ap (λ b. cond b uid (owner c.process)) (same_is c.process n own)) in
    subst (λ (zs : Table Context). HasOwners zs) (sym is) (
      after,
      each_put (IsOwned after) es n c mine
          (each_both (IsOwned owner) (λ e. e.1.process < n) (IsOwned after) es
          (λ e h lt. h ∙ sym (ap (λ b. cond b uid (owner e.1.process)) (less_apart e.1.process n lt))) owned.1 older),
    )

pub owners_filter :
    (es fs : Table Context) (p : ℕ × Context → Bool) → fs ≡ filter p es → HasOwners es → HasOwners fs
owners_filter es fs p is owned = grind (arith, common_steps, each_filter)

pub owners_without :
    (es fs : Table Context) (n : ℕ) → fs ≡ without es n → HasOwners es → HasOwners fs
owners_without es fs n is owned = grind (arith, common_steps, each_without)

still_owned :
    (owner : ℕ → ℕ) (f : Context → Context) (e : ℕ × Context) → (f e.1).process ≡ e.1.process
    → (f e.1).caller.uid ≡ e.1.caller.uid → IsOwned owner e → IsOwned owner (e.0, f e.1)
still_owned owner f e same same_uid h = same_uid ∙ (h ∙ ap owner (sym same))

pub owners_alter :
    (es fs : Table Context) (n : ℕ) (f : Context → Context) → ((c : Context) → (f c).process ≡ c.process)
    → ((c : Context) → (f c).caller.uid ≡ c.caller.uid) → fs ≡ alter es n f → HasOwners es → HasOwners fs
owners_alter es fs n f same same_uid is owned = grind (arith, common_steps, each_alter, still_owned)

mapped_owned :
    (owner : ℕ → ℕ) (es : Table Context) (f : Context → Context) → ((c : Context) → (f c).process ≡ c.process)
    → ((c : Context) → (f c).caller.uid ≡ c.caller.uid) → Each (IsOwned owner) es
    → Each (IsOwned owner) (map_values f es)
mapped_owned owner [] f same same_uid h = tt
mapped_owned owner (e ∷ es) f same same_uid h =
    (still_owned owner f e (same e.1) (same_uid e.1) h.0, mapped_owned owner es f same same_uid h.1)

pub owners_map :
    (es fs : Table Context) (f : Context → Context) → ((c : Context) → (f c).process ≡ c.process)
    → ((c : Context) → (f c).caller.uid ≡ c.caller.uid) → fs ≡ map_values f es → HasOwners es → HasOwners fs
owners_map es fs f same same_uid is owned =
    subst (λ (zs : Table Context). HasOwners zs) (sym is) (owned.0, mapped_owned owned.0 es f same same_uid owned.1)
