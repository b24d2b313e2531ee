-- Laws of a table that a hash map keeps.
use Rattle.std.proofs.Common.{[], ◌∙◌, ◌∷◌, ◌≡◌, ap, cond, is_some, List, nat_cmp, nat_eq, None, Option, option_map}
use Rattle.std.proofs.Common.{refl, Some, sym, ℕ}
use Rattle.std.specs.BTreeMap.{is_at}
use Rattle.std.specs.{Cmp.{nat_eq_equiv, unsigned_tied}, List.Sorted.IsStrictlySortedBy, Map.{lookup, set_value}}
use Rattle.std.proofs.lemmas.Map.{lookup-set_value}
use Rattle.krs_model.specs.Table.{alter, at, put, Rises, without}
use Rattle.krs_model.proofs.Tables.Changes.{alter_none}
use Rattle.krs_keys.specs.Hashed.{by_serial}
use Rattle.krs_keys.proofs.RisingTables.{at_alter, at_put, at_without, either_way, rises_alter, rises_put}
use Rattle.krs_keys.proofs.RisingTables.{rises_without, same_tables}

-- numbers rise in the table of a hash map
rises_by_serial : {X : Type 0} (es : List (ℕ × X)) → Rises (by_serial es)
unfolding IsStrictlySortedBy
rises_by_serial [] = tt
rises_by_serial (e ∷ es) = rises_put (by_serial es) e.0 e.1 (rises_by_serial es)

-- what it has at a serial is what the map has there
pub at_by_serial : {X : Type 0} (es : List (ℕ × X)) (q : ℕ) → at (by_serial es) q ≡ lookup (nat_eq q) es
at_by_serial [] q = refl
at_by_serial (e ∷ es) q =
    at_put (by_serial es) e.0 q e.1
    ∙ (ap (λ b. cond b (Some e.1) (at (by_serial es) q)) (unsigned_tied q e.0)
    ∙ ap (λ o. cond (nat_eq q e.0) (Some e.1) o) (at_by_serial es q))

-- a map that has at each serial what another has shows the same table
pub by_serial_same :
    {X : Type 0} (m n : List (ℕ × X)) → ((q : ℕ) → lookup (nat_eq q) n ≡ lookup (nat_eq q) m)
    → by_serial n ≡ by_serial m
by_serial_same m n same =
    same_tables (by_serial n) (by_serial m) (rises_by_serial n) (rises_by_serial m)
    (λ q. at_by_serial n q ∙ (same q ∙ sym (at_by_serial m q)))

-- the map has w at a serial, and at each other what it had
abbrev pub IsUpdated : {X : Type 0} → List (ℕ × X) → List (ℕ × X) → ℕ → Option X → Type 0
IsUpdated m n k w = (q : ℕ) → lookup (nat_eq q) n ≡ cond (nat_eq k q) w (lookup (nat_eq q) m)

-- so has its table
at_updated :
    {X : Type 0} (m n : List (ℕ × X)) (k : ℕ) (w : Option X) → IsUpdated m n k w → (q : ℕ)
    → at (by_serial n) q ≡ cond (is_at (nat_cmp k) q) w (at (by_serial m) q)
at_updated m n k w h q =
    at_by_serial n q
    ∙ (h q
    ∙ (ap (λ b. cond b w (lookup (nat_eq q) m)) (sym (unsigned_tied k q))
    ∙ ap (λ o. cond (is_at (nat_cmp k) q) w o) (sym (at_by_serial m q))))

-- so the table changes as the map does: one value more
pub by_serial_put :
    {X : Type 0} (m n : List (ℕ × X)) (k : ℕ) (v : X) → IsUpdated m n k (Some v)
    → by_serial n ≡ put (by_serial m) k v
by_serial_put m n k v h =
    same_tables (by_serial n) (put (by_serial m) k v) (rises_by_serial n)
    (rises_put (by_serial m) k v (rises_by_serial m))
    (λ q. at_updated m n k (Some v) h q
    ∙ (ap (λ b. cond b (Some v) (at (by_serial m) q)) (either_way k q) ∙ sym (at_put (by_serial m) k q v)))

-- a value that is taken out
pub by_serial_without :
    {X : Type 0} (m n : List (ℕ × X)) (k : ℕ) → IsUpdated m n k None → by_serial n ≡ without (by_serial m) k
by_serial_without m n k h =
    same_tables (by_serial n) (without (by_serial m) k) (rises_by_serial n)
    (rises_without (by_serial m) k (rises_by_serial m))
    (λ q. at_updated m n k None h q ∙ sym (at_without (by_serial m) k q (rises_by_serial m)))

-- a change of one value
pub by_serial_alter :
    {X : Type 0} (m n : List (ℕ × X)) (k : ℕ) (f : X → X) (v : X) → lookup (nat_eq k) m ≡ Some v
    → IsUpdated m n k (Some (f v)) → by_serial n ≡ alter (by_serial m) k f
by_serial_alter m n k f v there h =
    same_tables (by_serial n) (alter (by_serial m) k f) (rises_by_serial n)
    (rises_alter (by_serial m) k f (rises_by_serial m))
    (λ q. at_updated m n k (Some (f v)) h q
    ∙ (ap (λ b. cond b (Some (f v)) (at (by_serial m) q)) (either_way k q)
    ∙ (ap (λ o. cond (is_at (nat_cmp q) k) (option_map f o) (at (by_serial m) q))
    (sym (at_by_serial m k ∙ there))
    ∙ sym (at_alter (by_serial m) k q f))))

-- a change that is written back through what the map lent
pub by_serial_written :
    {X : Type 0} (m n : List (ℕ × X)) (k : ℕ) (f : X → X) (was new : X) → Some was ≡ lookup (nat_eq k) m
    → new ≡ f was → n ≡ set_value (nat_eq k) m new → by_serial n ≡ alter (by_serial m) k f
by_serial_written m n k f was new there same e =
    by_serial_alter m n k f was (sym there)
    (λ q. ap (lookup (nat_eq q)) e
    ∙ (lookup-set_value nat_eq_equiv (nat_eq k) (nat_eq_equiv.congr k) q new m (ap is_some (sym there))
    ∙ ap (λ v. cond (nat_eq k q) (Some v) (lookup (nat_eq q) m)) same))

-- a change where nothing is
pub by_serial_absent :
    {X : Type 0} (m n : List (ℕ × X)) (k : ℕ) (f : X → X) → None ≡ lookup (nat_eq k) m → n ≡ m
    → by_serial n ≡ alter (by_serial m) k f
by_serial_absent m n k f none e =
    ap by_serial e ∙ sym (alter_none (by_serial m) k f (at_by_serial m k ∙ sym none))
