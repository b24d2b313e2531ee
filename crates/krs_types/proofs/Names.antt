-- Names that are the same are equal.
use Rattle.std.proofs.Common.{◌&&◌, ◌∙◌, ◌≡◌, ap, Bool, false, List, nat_eq, refl, rules, sym, true, ℕ}
use Rattle.std.specs.Cmp.{IsEquivalence, Lexicographic.{pointwise, same_text}, Rules.comparing}
use Rattle.krs_types.specs.{Kind.kind_number, Name.same_name, declared.{kind.Kind.Kind, name.Name.Name}}
use Rattle.krs_types.proofs.KindRows.{equal_kinds}

pub and_left : (a b : Bool) → (a && b) ≡ true → a ≡ true
and_left true b h = refl
and_left false b h = h

pub and_right : (a b : Bool) → (a && b) ≡ true → b ≡ true
and_right true b h = h
and_right false b h = absurd cc

-- names that are the same are equal
pub equal_names : (a b : Name) → same_name a b ≡ true → a ≡ b
equal_names a b h =
    let kinds : nat_eq (kind_number a.kind) (kind_number b.kind) ≡ true =
    and_left _ (pointwise nat_eq a.desc b.desc) h in
    let texts : pointwise nat_eq a.desc b.desc ≡ true = and_right (nat_eq (kind_number a.kind)
    (kind_number b.kind)) _ h in
    let kind : a.kind ≡ b.kind = equal_kinds a.kind b.kind kinds in
    let desc : a.desc ≡ b.desc = same_text a.desc b.desc (sym texts) in
    let made : Kind → List ℕ → Name = λ k t. record { kind = k; desc = t } in
    ap (λ (k : Kind). made k a.desc) kind ∙ ap (λ (t : List ℕ). made b.kind t) desc

pub same_name_equiv : IsEquivalence same_name
same_name_equiv = search (comparing, rules)

-- a name is not that of another
pub other_way : (a b : Name) → same_name a b ≡ false → same_name b a ≡ false
other_way a b h = sym (same_name_equiv.symm a b) ∙ h
