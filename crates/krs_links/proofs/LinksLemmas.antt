-- What a link, and the removal of one, change.
use Rattle.std.proofs.Common.{[], ◌*◌, ◌++◌, ◌∷◌, ◌≡◌, ap, arith, cond, false, find, length, length-append, List, None}
use Rattle.std.proofs.Common.{not, option_map, refl, Some, subst, sym, true, w32, ℕ}
use Rattle.std.specs.{List.{AllByRecursion, IsDistinct}}
use Rattle.std.proofs.lemmas.{Map.Keys.{IsDistinct-cons, IsDistinct-head, IsDistinct-tail}, Option.none-some}
use Rattle.krs_types.specs.{Name.same_name, declared.name.Name.Name}
use Rattle.krs_types.proofs.Names.{equal_names, other_way}
use Rattle.krs_links.specs.Links.{bytes_of, IsUnique, link_put, LinkList, names, serial_named, unlinked}
use Rattle.std.proofs.lemmas.Grind.{common_steps}

-- what is linked as nothing is linked last
pub linked_last : (name : Name) (serial : ℕ) (xs : LinkList) → serial_named xs name ≡ None →
    link_put xs name serial ≡ xs ++ (name, serial) ∷ []
linked_last name serial [] h = refl
linked_last name serial (x ∷ xs) h =
    elim (same_name name x.0) as (λ b. option_map (λ (link : Name × ℕ). link.1) (cond b (Some x) (find
    (λ link. same_name name link.0) xs)) ≡ None → cond b ((name, serial) ∷ xs) (x ∷ link_put xs name serial) ≡ x ∷ (xs
    ++ (name, serial) ∷ [])) [
      | true ↦ λ q. absurd (none-some x.1 (sym q))
      | false ↦ λ q. ap (λ zs. x ∷ zs) (linked_last name serial xs q)
    ] h

-- under another name the same is linked as before
pub serial_named-linked_other : (name other : Name) (serial : ℕ) (xs : LinkList) → same_name other name ≡ false →
    serial_named (link_put xs name serial) other ≡ serial_named xs other
serial_named-linked_other name other serial [] h = rw h refl
serial_named-linked_other name other serial (x ∷ xs) h =
    elim (same_name name x.0) as (λ b. same_name name x.0 ≡ b → serial_named (cond b ((name, serial) ∷ xs)
    (x ∷ link_put xs name serial)) other ≡ serial_named (x ∷ xs) other) [
      | true ↦ λ t.
          let none : same_name other x.0 ≡ false = subst (λ (n : Name). same_name other n ≡ false)
          (equal_names name x.0 t) h in
          rw (h, none) refl
      | false ↦ λ t. elim (same_name other x.0) as (λ b. option_map (λ (link : Name × ℕ). link.1) (cond b (Some x)
          (find (λ link. same_name other link.0) (link_put xs name serial))) ≡ option_map (λ
          (link : Name × ℕ). link.1) (cond b (Some x) (find (λ link. same_name other link.0) xs))) [
            | true ↦ refl
            | false ↦ serial_named-linked_other name other serial xs h
          ]
    ] refl

apart_linked : (name other : Name) (serial : ℕ) (xs : LinkList) → same_name other name ≡ false →
    AllByRecursion (λ n. same_name other n ≡ false) (names xs) →
    AllByRecursion (λ n. same_name other n ≡ false) (names (link_put xs name serial))
apart_linked name other serial [] h all = (h, tt)
apart_linked name other serial (x ∷ xs) h all = grind (arith, common_steps, apart_linked name other serial xs h all.1)

-- names stay unique
pub IsUnique-linked : (name : Name) (serial : ℕ) (xs : LinkList) → IsUnique xs → IsUnique (link_put xs name serial)
IsUnique-linked name serial [] u = IsDistinct-cons same_name name [] tt u
IsUnique-linked name serial (x ∷ xs) u =
    elim (same_name name x.0) as (λ b. same_name name x.0 ≡ b → IsUnique (cond b ((name, serial) ∷ xs)
    (x ∷ link_put xs name serial))) [
      | true ↦ λ t. subst (λ (n : Name). IsDistinct same_name (n ∷ names xs)) (sym (equal_names name x.0 t)) u
      | false ↦ λ t. IsDistinct-cons same_name x.0 (names (link_put xs name serial))
          (apart_linked name x.0 serial xs (other_way name x.0 t) (IsDistinct-head same_name x.0 (names xs) u))
          (IsUnique-linked name serial xs (IsDistinct-tail same_name x.0 (names xs) u))
    ] refl

-- a name that is linked as nothing takes nothing out
pub unlinked_none : (name : Name) (xs : LinkList) → serial_named xs name ≡ None → unlinked xs name ≡ xs
unlinked_none name [] h = refl
unlinked_none name (x ∷ xs) h =
    elim (same_name name x.0) as (λ b. option_map (λ (link : Name × ℕ). link.1) (cond b (Some x) (find
    (λ link. same_name name link.0) xs)) ≡ None → cond (not b) (x ∷ unlinked xs name) (unlinked xs name) ≡ x ∷ xs) [
      | true ↦ λ q. absurd (none-some x.1 (sym q))
      | false ↦ λ q. ap (λ zs. x ∷ zs) (unlinked_none name xs q)
    ] h

-- a serial has four bytes
pub length-bytes_of : (xs : List ℕ) → length (bytes_of xs) ≡ 4 * length xs
length-bytes_of [] = refl
length-bytes_of (x ∷ xs) = grind (arith, common_steps, length-append, w32, length-bytes_of xs)
