-- Laws of rights.
use Rattle.std.proofs.{Common.{◌≡◌, arith, false, refl, ℕ}, lemmas.Bool.Decides.nat_tests}
use Rattle.krs_types.specs.{declared.caller.Caller.Caller, Perm.{class_byte, granted}}
use Rattle.krs_model.specs.Laws.{IsOneByte}
use Rattle.krs_model.proofs.Reach.Levels.{apart_is, same_is}

class_is : (mask uid gid : ℕ) (caller : Caller) (rights : ℕ) → rights ≡ class_byte mask uid gid caller
    → IsOneByte mask uid gid caller rights
class_is mask uid gid caller rights h = grind (arith, nat_tests, same_is, apart_is)

-- without possession, one byte
pub one_byte : (mask uid gid : ℕ) (caller : Caller) → IsOneByte mask uid gid caller (granted mask uid gid caller false)
one_byte mask uid gid caller = class_is mask uid gid caller (granted mask uid gid caller false) refl
