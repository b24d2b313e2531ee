-- The serial that a look-up answers.
use Rattle.std.proofs.Common.{◌≡◌, arith, Bool, cond, Err, false, None, Ok, Option, Some, true, ℕ, ℤ}
use Rattle.std.proofs.lemmas.Bool.Decides.{nat_tests}
use Rattle.krs_types.specs.declared.{context.Context.Context, errno.Errno.{Errno, TheVariants.{EACCES, EKEYEXPIRED}}}
use Rattle.krs_types.specs.declared.{errno.Errno.TheVariants.{EKEYREVOKED, ESRCH}, rights.Want.Want}
use Rattle.krs_types.specs.Refusing.{or_refuse}
use Rattle.krs_model.specs.{Lookup.{context_of, if_own, if_usable, look_up, serial_of}, State.{Key, State}, Table.at}
use Rattle.krs_model.proofs.Asks.Later.{bind_ok}

chosen :
    (a b d : Bool) (x y : ℕ × Key)
    → cond a (Err EKEYREVOKED) (cond b (Err EKEYEXPIRED) (cond d (Ok x) (Err EACCES))) ≡ Ok y → x ≡ y
chosen true b d x y h = cc
chosen false true d x y h = cc
chosen false false true x y h = cc
chosen false false false x y h = cc

usable_serial :
    (s : State) (c : Context) (want : Want) (serial : ℕ) (key : Key) (found : ℕ × Key)
    → if_usable s c want serial key ≡ Ok found → (serial, key) ≡ found
usable_serial s c want serial key found h = search chosen depth 8

-- the serial that a look-up answers is the one that the id names
pub found_serial :
    (s : State) (c : Context) (id : ℤ) (want : Want) (found : ℕ × Key) → look_up s c id want ≡ Ok found
    → serial_of s c id ≡ Ok found.0
unfolding look_up
found_serial s c id want found h = grind (arith, nat_tests, bind_ok, usable_serial)

-- what was not refused is there
pub refused_is : {A : Type 0} (o : Option A) (error : Errno) (v : A) → or_refuse error o ≡ Ok v → o ≡ Some v
refused_is None error v h = cc
refused_is (Some w) error v h = cc

own_is :
    (client : ℕ) (found c : Context) (o : Option Context) → or_refuse ESRCH o ≡ Ok found → if_own client found ≡ Ok c
    → o ≡ Some c
own_is client found c None h own = cc
own_is client found c (Some v) h own = grind (arith, nat_tests)

-- a context of a client is there
pub own_there :
    (s : State) (client number : ℕ) (c : Context) → context_of s client number ≡ Ok c → at s.contexts number ≡ Some c
unfolding context_of
own_there s client number c h = grind (arith, nat_tests, bind_ok, own_is)
