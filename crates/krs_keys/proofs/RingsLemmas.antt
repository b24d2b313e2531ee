-- Which serials are those of keyrings, and what that says after a change.
use Rattle.std.proofs.Common.{[], ◌+◌, ◌<◌, ◌==◌, ◌||◌, ◌∙◌, ◌∷◌, ◌≡◌, ap, Bool, cond, false, get_or, length, List}
use Rattle.std.proofs.Common.{nat_cmp, nat_eq, None, not, Option, option_map, refl, Some, sym, take, true, true≢false}
use Rattle.std.proofs.Common.{ℕ}
use Rattle.std.specs.{BTreeMap.is_at, Cmp.unsigned_tied}
use Rattle.std.proofs.lemmas.List.Folds.{list_any_more}
use Rattle.krs_types.specs.{Kind.same_kind, declared.{kind.Kind.{Kind, TheVariants.Keyring}, name.Name.Name}}
use Rattle.krs_model.specs.Table.{alter, at, map_values, put, Rises, Table, without}
use Rattle.krs_model.proofs.Tables.Changes.{at_map, same_at}
use Rattle.krs_links.specs.Links.{LinkList, unlinked_key}
use Rattle.krs_keys.specs.Keys.{AreOfKind, IsOfKind, keyless_content, without_key}
use Rattle.krs_keys.specs.Places.{AreRings, is_among, is_keyring}
use Rattle.krs_keys.specs.declared.key.{Content.{Content, TheVariants.{Links, Payload}}, Key.Key}
use Rattle.krs_keys.proofs.AfterChanges.{told_alter, told_map, told_put, told_without}
use Rattle.krs_keys.proofs.RisingTables.{at_alter, same_tables}

-- a change that keeps the name of a key
abbrev pub KeepsName : (Key → Key) → Type 0
KeepsName f = (v : Key) → (f v).name ≡ v.name

keyring_mapped : (f : Key → Key) → KeepsName f → (o : Option Key) → is_keyring (option_map f o) ≡ is_keyring o
keyring_mapped f keeps None = refl
keyring_mapped f keeps (Some v) = ap (λ (n : Name). same_kind n.kind Keyring) (keeps v)

-- a key that is changed is a keyring still, or none still
pub rings_alter :
    (keys : Table Key) (rings : List ℕ) (k : ℕ) (f : Key → Key) → KeepsName f → AreRings keys rings
    → AreRings (alter keys k f) rings
rings_alter keys rings k f keeps are q =
    are q ∙ sym (told_alter is_keyring keys k q f (keyring_mapped f keeps))

-- and so are all keys that are
pub rings_map :
    (keys : Table Key) (rings : List ℕ) (f : Key → Key) → KeepsName f → AreRings keys rings
    → AreRings (map_values f keys) rings
rings_map keys rings f keeps are q = are q ∙ sym (told_map is_keyring keys q f (keyring_mapped f keeps))

-- a key more, whose serial is listed where it is a keyring
pub rings_put :
    (keys : Table Key) (rings new : List ℕ) (k : ℕ) (v : Key)
    → ((q : ℕ) → is_among new q ≡ cond (nat_eq k q) (same_kind v.name.kind Keyring) (is_among rings q))
    → AreRings keys rings → AreRings (put keys k v) new
rings_put keys rings new k v listed are q =
    listed q ∙ (ap (cond (nat_eq k q) (same_kind v.name.kind Keyring)) (are q)
    ∙ sym (told_put is_keyring keys k q v))

-- a key less, whose serial is not listed any more
pub rings_without :
    (keys : Table Key) (rings new : List ℕ) (k : ℕ) → Rises keys
    → ((q : ℕ) → is_among new q ≡ cond (nat_eq k q) false (is_among rings q)) → AreRings keys rings
    → AreRings (without keys k) new
rings_without keys rings new k rises left are q =
    left q ∙ (ap (cond (nat_eq k q) false) (are q) ∙ sym (told_without is_keyring keys k q rises))

-- ---- a key out of all keyrings
unlinked_twice : (serial : ℕ) (xs : LinkList) → unlinked_key (unlinked_key xs serial) serial ≡ unlinked_key xs serial
unlinked_twice serial [] = refl
unlinked_twice serial (x ∷ xs) =
    elim (x.1 == serial) as (λ b. (x.1 == serial) ≡ b
    → unlinked_key (cond (not b) (x ∷ unlinked_key xs serial) (unlinked_key xs serial)) serial
    ≡ cond (not b) (x ∷ unlinked_key xs serial) (unlinked_key xs serial)) [
      | true ↦ λ t. unlinked_twice serial xs
      | false ↦ λ t. rw t (ap (λ zs. x ∷ zs) (unlinked_twice serial xs))
    ] refl

keyless_twice :
    (serial : ℕ) (content : Content)
    → keyless_content serial (keyless_content serial content) ≡ keyless_content serial content
keyless_twice serial (Payload bytes) = refl
keyless_twice serial (Links links) = ap Links (unlinked_twice serial links)

without_twice :
    (serial : ℕ) (o : Option Key)
    → option_map (without_key serial) (option_map (without_key serial) o) ≡ option_map (without_key serial) o
without_twice serial None = refl
without_twice serial (Some key) =
    ap (λ content. Some (record key { content = content })) (keyless_twice serial key.content)

-- the keyrings so far are without the key
abbrev pub AreUnlinked : ℕ → List ℕ → Table Key → Table Key → Type 0
AreUnlinked serial rings old new =
    (q : ℕ) → at new q ≡ cond (is_among rings q) (option_map (without_key serial) (at old q)) (at old q)

once_more :
    (serial : ℕ) (b : Bool) (o : Option Key)
    → option_map (without_key serial) (cond b (option_map (without_key serial) o) o)
    ≡ option_map (without_key serial) o
once_more serial true o = without_twice serial o
once_more serial false o = refl

or_one : (b : Bool) → (b || true) ≡ true
or_one true = refl
or_one false = refl

or_none : (b : Bool) → (b || false) ≡ b
or_none true = refl
or_none false = refl

-- one keyring more
pub one_unlinked :
    (serial : ℕ) (rings : List ℕ) (i d : ℕ) (old new next : Table Key) → i < length rings
    → AreUnlinked serial (take i rings) old new → next ≡ alter new (get_or rings i d) (without_key serial)
    → AreUnlinked serial (take (i + 1) rings) old next
one_unlinked serial rings i d old new next within so_far is q =
    let ring = get_or rings i d in
    let f = without_key serial in
    let before = is_among (take i rings) q in
    ap (λ (t : Table Key). at t q) is
    ∙ (at_alter new ring q f
    ∙ (elim (is_at (nat_cmp q) ring) as (λ b. is_at (nat_cmp q) ring ≡ b
    → cond b (option_map f (at new ring)) (at new q)
    ≡ cond (before || b) (option_map f (at old q)) (at old q)) [
      | true ↦ λ t. ap (λ z. option_map f (at new z)) (sym (same_at q ring t))
          ∙ (ap (option_map f) (so_far q) ∙ (once_more serial before (at old q)
          ∙ sym (ap (λ b. cond b (option_map f (at old q)) (at old q)) (or_one before))))
      | false ↦ λ t. so_far q ∙ sym (ap (λ b. cond b (option_map f (at old q)) (at old q)) (or_none before))
    ] refl
    ∙ ap (λ b. cond b (option_map f (at old q)) (at old q))
    (ap (λ b. before || b) (unsigned_tied q ring) ∙ sym (list_any_more (nat_eq q) rings i d within))))

keyless_other :
    (serial : ℕ) (kind : Kind) (content : Content) → IsOfKind kind content → same_kind kind Keyring ≡ false
    → keyless_content serial content ≡ content
keyless_other serial kind (Payload bytes) is other = refl
keyless_other serial kind (Links links) is other = absurd (true≢false (sym is ∙ other))

-- what is no keyring links no key
other_unlinked :
    (serial : ℕ) (o : Option Key) → ((key : Key) → o ≡ Some key → IsOfKind key.name.kind key.content)
    → is_keyring o ≡ false → o ≡ option_map (without_key serial) o
other_unlinked serial None kinds other = refl
other_unlinked serial (Some key) kinds other =
    ap (λ content. Some (record key { content = content }))
    (sym (keyless_other serial key.name.kind key.content (kinds key refl) other))

-- all of them: then all keys are
pub all_unlinked :
    (serial : ℕ) (rings : List ℕ) (old new : Table Key) → Rises new → Rises (map_values (without_key serial) old)
    → AreRings old rings → AreOfKind old → AreUnlinked serial rings old new
    → new ≡ map_values (without_key serial) old
all_unlinked serial rings old new rises mapped are kinds all =
    let f = without_key serial in
    same_tables new (map_values f old) rises mapped
    (λ q. all q ∙ (elim (is_among rings q) as (λ b. is_among rings q ≡ b
    → cond b (option_map f (at old q)) (at old q) ≡ option_map f (at old q)) [
      | true ↦ λ t. refl
      | false ↦ λ t. other_unlinked serial (at old q) (kinds q) (sym (are q) ∙ t)
    ] refl ∙ sym (at_map f old q)))
