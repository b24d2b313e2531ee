-- By what a key is found in a keyring: its type and its description. keyrings(7), "Keyrings".
use Rattle.std.specs.{Prelude.{Bool, nat_eq}, Cmp.Lexicographic.pointwise, Ordering.{eq_of_both, on}}
use Rattle.krs_types.specs.{Kind.kind_number, declared.name.Name.Name}

-- equal type and equal description
abbrev pub same_name : Name → Name → Bool
same_name = eq_of_both (on (λ n. kind_number n.kind) nat_eq) (on (λ n. n.desc) (pointwise nat_eq))
