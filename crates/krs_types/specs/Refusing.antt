-- Steps that may refuse: the first refusal is the answer. The form is this project's own.
use Rattle.std.specs.Prelude.{Err, None, Ok, Option, Result, Some}
use Rattle.krs_types.specs.declared.errno.Errno.{Errno}

infixl 10 ◌>>=◌
-- what follows an accepted step; a refusal ends the steps
abbrev pub ◌>>=◌ : {A B : Type 0} → Result A Errno → (A → Result B Errno) → Result B Errno
(Ok x) >>= f = f x
(Err e) >>= f = Err e

-- the value, or the refusal where there is none
abbrev pub or_refuse : {A : Type 0} → Errno → Option A → Result A Errno
or_refuse e None = Err e
or_refuse e (Some x) = Ok x
