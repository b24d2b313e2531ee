-- What holds of each entry of a table, after a change of the table.
use Rattle.std.proofs.Common.{[], ◌<◌, ◌∙◌, ◌∷◌, ◌≡◌, ap, Bool, cond, false, filter, List, map, nat_cmp, None, refl}
use Rattle.std.proofs.Common.{arith, Some, subst, sym, true, ℕ}
use Rattle.std.specs.BTreeMap.{is_at}
use Rattle.std.proofs.{Math.Nat.lt_of_not-le, lemmas.Option.{none-some, same_Some}}
use Rattle.krs_model.specs.Table.{alter, at, IsBelow, map_values, put, Table, without}
use Rattle.krs_model.proofs.Tables.Changes.{is_at_same, same_at}
use Rattle.krs_ctx.specs.Anchors.{Each}
use Rattle.std.proofs.lemmas.Grind.{common_steps}

pub each_on : {X : Type 0} (P Q : X → Type 0) (xs : List X) → ((x : X) → P x → Q x) → Each P xs → Each Q xs
each_on P Q [] on h = tt
each_on P Q (x ∷ xs) on h = (on x h.0, each_on P Q xs on h.1)

pub each_both : {X : Type 0} (P Q R : X → Type 0) (xs : List X) → ((x : X) → P x → Q x → R x) → Each P xs
    → Each Q xs → Each R xs
each_both P Q R [] on g h = tt
each_both P Q R (x ∷ xs) on g h = (on x g.0 h.0, each_both P Q R xs on g.1 h.1)

pub each_filter : {X : Type 0} (P : X → Type 0) (p : X → Bool) (xs : List X) → Each P xs → Each P (filter p xs)
each_filter P p [] h = tt
each_filter P p (x ∷ xs) h = grind (arith, common_steps, each_filter P p xs h.1)

pub each_put : {X : Type 0} (P : ℕ × X → Type 0) (es : Table X) (k : ℕ) (v : X) → P (k, v) → Each P es
    → Each P (put es k v)
each_put P [] k v new h = (new, tt)
each_put P (e ∷ es) k v new h = grind (arith, common_steps, nat_cmp, each_put P es k v new h.1)

pub each_without : {X : Type 0} (P : ℕ × X → Type 0) (es : Table X) (k : ℕ) → Each P es → Each P (without es k)
each_without P [] k h = tt
each_without P (e ∷ es) k h = grind (arith, common_steps, nat_cmp, each_without P es k h.1)

pub each_alter : {X : Type 0} (P : ℕ × X → Type 0) (es : Table X) (k : ℕ) (f : X → X)
    → ((e : ℕ × X) → P e → P (e.0, f e.1)) → Each P es → Each P (alter es k f)
each_alter P [] k f on h = tt
each_alter P (e ∷ es) k f on h = grind (arith, common_steps, nat_cmp, each_alter P es k f on h.1)

-- it holds of what is at a number
pub each_at : {X : Type 0} (P : ℕ × X → Type 0) (es : Table X) (k : ℕ) (v : X) → Each P es → at es k ≡ Some v
    → P (k, v)
each_at P [] k v h there = absurd (none-some v there)
each_at {X = X} P (e ∷ es) k v h there =
    elim (is_at (nat_cmp k) e.0) as
    (λ b. is_at (nat_cmp k) e.0 ≡ b → cond b (Some e.1) (at es k) ≡ Some v → P (k, v)) [
      | true ↦ λ t is. subst (λ (n : ℕ). P (n, v)) (sym (same_at k e.0 t))
          (subst (λ (w : X). P (e.0, w)) (same_Some e.1 v is) h.0)
      | false ↦ λ t is. each_at P es k v h.1 is
    ] refl there

here_some : {X : Type 0} (e : ℕ × X) (es : Table X) → at (e ∷ es) e.0 ≡ Some e.1
here_some e es = ap (λ b. cond b (Some e.1) (at es e.0)) (is_at_same e.0)

pub later_none : {X : Type 0} (e : ℕ × X) (es : Table X) (k : ℕ) → at (e ∷ es) k ≡ None → at es k ≡ None
later_none e es k h = grind (arith, common_steps, nat_cmp, none-some)

-- each number that is in use is below those that are not
pub each_below : {X : Type 0} (es : Table X) (n : ℕ) → IsBelow es n → Each (λ (e : ℕ × X). e.0 < n) es
each_below [] n below = tt
each_below (e ∷ es) n below = (
  lt_of_not-le (λ le. none-some e.1 (sym (below e.0 le) ∙ here_some e es)),
  each_below es n (λ k h. later_none e es k (below k h)),
)

pub mapped_is : {X : Type 0} (f : X → X) (es : Table X) → map_values f es ≡ map (λ e. (e.0, f e.1)) es
mapped_is f [] = refl
mapped_is f (e ∷ es) = ap (λ zs. (e.0, f e.1) ∷ zs) (mapped_is f es)
