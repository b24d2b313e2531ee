-- What is so of the row of each type.
use Rattle.std.proofs.Common.{◌∙◌, ◌≡◌, ◌≤◌, ap, arith, eqb-true, find, length, nat_eq, Ok, refl, Some, sym, true}
use Rattle.std.proofs.lemmas.Option.{same_Some}
use Rattle.krs_types.specs.Kind.{kind_name, kind_named, kind_number, kinds, row_of, same_kind}
use Rattle.krs_types.specs.Perm.{group_byte, other_byte}
use Rattle.krs_types.specs.declared.kind.Kind.{Kind, TheVariants.{Keyring, Logon, User}}

-- it is found by its number and by its name, which is short; the mask of a new key grants its group and others nothing
pub record HasRow (kind : Kind) : Type 0 where
  pub numbered : find (λ k. nat_eq (kind_number k) (kind_number kind)) kinds ≡ Some kind
  pub named : kind_named (kind_name kind) ≡ Ok kind
  pub short : length (kind_name kind) ≤ 7
  pub group : group_byte (row_of kind).perm ≡ 0
  pub other : other_byte (row_of kind).perm ≡ 0

pub has_row : (kind : Kind) → HasRow kind
has_row User = record { numbered = refl; named = refl; short = omega arith; group = refl; other = refl }
has_row Logon = record { numbered = refl; named = refl; short = omega arith; group = refl; other = refl }
has_row Keyring = record { numbered = refl; named = refl; short = omega arith; group = refl; other = refl }

-- types of one number are one
pub equal_kinds : (a b : Kind) → same_kind a b ≡ true → a ≡ b
equal_kinds a b h =
    same_Some a b (sym (has_row a).numbered
    ∙ (ap (λ n. find (λ k. nat_eq (kind_number k) n) kinds) (eqb-true (kind_number a) (kind_number b) h)
    ∙ (has_row b).numbered))
