-- What is granted without possession is granted with it.
use Rattle.std.proofs.Common.{◌||◌, ◌∙◌, ◌≡◌, ap, arith, bit_and, bit_or, Bool, eq-eqb, eqb-true, false, max, min, refl}
use Rattle.std.proofs.Common.{sym, true, ℕ}
use Rattle.std.specs.Int.{bit_at}
use Rattle.std.proofs.lemmas.Nat.Bits.{bit_at-zero, bit_at_and, bit_at_or, same_from_bits}
use Rattle.krs_types.specs.Perm.{class_byte, possessor_byte}
use Rattle.krs_types.specs.{Rights.{allows, has_all, READ, SEARCH}, declared.caller.Caller.Caller}
use Rattle.krs_types.specs.declared.rights.{Rights.Rights, Want.{Want, TheVariants.{Either, Granted, ToRead}}}
use Rattle.krs_model.specs.{Access.rights_on, State.Key}

-- more bits have all that the fewer have
more_bits : (own class wanted : ℕ) → bit_and (bit_or 0 class) wanted ≡ wanted
    → bit_and (bit_or own class) wanted ≡ wanted
more_bits own class wanted has = same_from_bits (bit_and (bit_or own class) wanted) wanted (λ i.
    let none : bit_at 0 i ≡ 0 = bit_at-zero i in
    let had : min (max (bit_at 0 i) (bit_at class i)) (bit_at wanted i) ≡ bit_at wanted i =
    rw (← bit_at_or 0 class i) (sym (bit_at_and (bit_or 0 class) wanted i) ∙ ap (λ n. bit_at n i) has) in
    bit_at_and (bit_or own class) wanted i ∙ rw (bit_at_or own class i) (omega (arith, none, had)))

more_rights : (own class : ℕ) (wanted : Rights) → has_all (bit_or 0 class) wanted ≡ true
    → has_all (bit_or own class) wanted ≡ true
more_rights own class wanted has = eq-eqb _ _ (more_bits own class wanted.0 (eqb-true _ _ has))

either : (a b c d : Bool) → (a ≡ true → c ≡ true) → (b ≡ true → d ≡ true) → (a || b) ≡ true → (c || d) ≡ true
either true b c d first second some = rw (first refl) refl
either false true true d first second some = refl
either false true false d first second some = second refl
either false false c d first second some = absurd cc

-- what an ask wants of a key and gets without possession, it gets with it
pub allows_more : (want : Want) (key : Key) (caller : Caller) (possessed : Bool)
    → allows want (rights_on key caller false) false ≡ true
    → allows want (rights_on key caller possessed) possessed ≡ true
allows_more want key caller false has = has
allows_more (Granted wanted) key caller true has =
    more_rights (possessor_byte key.perm) (class_byte key.perm key.uid key.gid caller) wanted has
allows_more (Either first second) key caller true has =
    let own = possessor_byte key.perm in
    let class = class_byte key.perm key.uid key.gid caller in
    either (has_all (bit_or 0 class) first) (has_all (bit_or 0 class) second) (has_all (bit_or own class) first)
    (has_all (bit_or own class) second) (more_rights own class first) (more_rights own class second) has
allows_more ToRead key caller true has =
    let own = possessor_byte key.perm in
    let class = class_byte key.perm key.uid key.gid caller in
    either (has_all (bit_or 0 class) READ) false (has_all (bit_or own class) READ) (has_all (bit_or own class) SEARCH)
    (more_rights own class READ) (λ no. absurd cc) has
