-- What the removal of the links to a key leaves.
use Rattle.std.proofs.Common.{[], ◌==◌, ◌∷◌, ◌≡◌, cond, false, filter, find, List, None, not, option_map, refl}
use Rattle.std.proofs.{Common.{Some, sym, true, ℕ}, lemmas.Option.none-some}
use Rattle.krs_types.specs.{Name.same_name, declared.name.Name.Name}
use Rattle.krs_links.specs.Links.{LinkList, serial_named, serials, unlinked_key}
use Rattle.std.proofs.Common.{arith}
use Rattle.std.proofs.lemmas.Grind.{common_steps}

-- the other serials
abbrev pub others : ℕ → List ℕ → List ℕ
others serial ks = filter (λ k. not (k == serial)) ks

-- the serials that are left
pub serials-unlinked_key :
    (serial : ℕ) (xs : LinkList) → serials (unlinked_key xs serial) ≡ others serial (serials xs)
serials-unlinked_key serial [] = refl
serials-unlinked_key serial (x ∷ xs) = grind (arith, common_steps, serials-unlinked_key serial xs)

-- under a name that linked nothing, nothing is linked
pub serial_named-unlinked_key :
    (serial : ℕ) (name : Name) (xs : LinkList) → serial_named xs name ≡ None
    → serial_named (unlinked_key xs serial) name ≡ None
serial_named-unlinked_key serial name [] none = refl
serial_named-unlinked_key serial name (x ∷ xs) none =
    elim (same_name name x.0) as (λ b. same_name name x.0 ≡ b
    → option_map (λ (link : Name × ℕ). link.1) (cond b (Some x) (find (λ link. same_name name link.0) xs)) ≡ None
    → serial_named (unlinked_key (x ∷ xs) serial) name ≡ None) [
      | true ↦ λ same h. absurd (none-some x.1 (sym h))
      | false ↦ λ other h.
          let rest = serial_named-unlinked_key serial name xs h in
          elim (x.1 == serial) as (λ d.
          serial_named (cond (not d) (x ∷ unlinked_key xs serial) (unlinked_key xs serial)) name ≡ None) [
            | true ↦ rest
            | false ↦ rw other rest
          ]
    ] refl none
