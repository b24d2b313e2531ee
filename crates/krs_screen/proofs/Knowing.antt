-- Which numbers have an operation.
use Rattle.std.proofs.Common.{[], ◌&&◌, ◌+◌, ◌==◌, ◌||◌, ◌∙◌, ◌∷◌, ◌≡◌, arith, Bool, cond, false, List, map, nat_le}
use Rattle.std.proofs.Common.{nat_lt, None, Option, refl, Result, Some, suc, true, zero, ℕ}
use Rattle.std.specs.List.{list_any}
use Rattle.std.proofs.lemmas.Bool.Decides.{nat_tests}
use Rattle.krs_types.specs.declared.ask.Op.{Op}
use Rattle.krs_wire.specs.{declared.fault.WireFault.WireFault, Faulting.or_bad_body}
use Rattle.krs_wire.specs.Frame.{op_of, read_by, Reading, readings}
use Rattle.krs_screen.specs.Front.{is_known, is_operation}
use Rattle.std.proofs.lemmas.Grind.{common_steps}

-- the number of HELLO
pub hello_is_known : is_known 256 ≡ true
unfolding is_known op_of
hello_is_known = refl

-- what fields say is an ask or a bad body
reads : (o : Option Op) → is_operation (or_bad_body o) ≡ true
reads None = refl
reads (Some op) = refl

pick : (b : Bool) (x y : Result Op WireFault) (known : Bool) → is_operation x ≡ true → is_operation y ≡ known
    → is_operation (cond b x y) ≡ (b || known)
pick true x y known p q = p
pick false x y known p q = q

abbrev numbers : List Reading → List ℕ
numbers = map (λ row. row.number)

told : (rows : List Reading) (op : ℕ) → is_operation (read_by rows op []) ≡ list_any (λ n. op == n) (numbers rows)
told [] op = refl
told (row ∷ others) op = grind (arith, common_steps, pick, reads, told others op)

-- one of so many numbers in a row, or else
abbrev each_from : (op first count : ℕ) → Bool → Bool
each_from op first zero others = others
each_from op first (suc k) others = op == first || each_from op (first + 1) k others

in_row : (op first count : ℕ) (others : Bool) → each_from op first count others
    ≡ ((nat_le first op && nat_lt op (first + count)) || others)
in_row op first zero others = grind (arith, nat_tests)
in_row op first (suc k) others = grind (arith, nat_tests, in_row op (first + 1) k others)

abbrev between : ℕ → Bool → Bool
between op last = op == 15 || (op == 21 || (op == 29 || (op == 30 || (op == 32 || last))))

low : (op : ℕ) → (nat_le 0 op && nat_lt op 12) ≡ nat_lt op 12
low op = grind arith

high : (op : ℕ) → ((nat_le 256 op && nat_lt op 268) || false) ≡ (nat_lt 255 op && nat_lt op 268)
high op = grind arith

in_ranges : (op : ℕ) → list_any (λ n. op == n) (numbers readings)
    ≡ (nat_lt op 12 || between op (nat_lt 255 op && nat_lt op 268))
unfolding readings
in_ranges op = grind (arith, common_steps, in_row, low, nat_lt, high)

pub known_is : (op : ℕ) → is_known op
    ≡ (nat_lt op 12 || (op == 15 || (op == 21 || (op == 29 || (op == 30 || (op == 32
    || (nat_lt 255 op && nat_lt op 268)))))))
unfolding is_known op_of
known_is op = told readings op ∙ in_ranges op
