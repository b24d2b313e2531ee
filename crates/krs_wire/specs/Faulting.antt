-- Steps that may end in a fault: the first fault is the answer.
use Rattle.std.specs.Prelude.{◌≡◌, ◌≢◌, Err, None, Ok, Option, Result, Some}
use Rattle.krs_wire.specs.declared.fault.WireFault.{WireFault, TheVariants.{BadBody, Memory}}

-- what follows a good step
abbrev pub after : {A B : Type 0} → (A → Result B WireFault) → Result A WireFault → Result B WireFault
after f (Ok x) = f x
after f (Err fault) = Err fault

-- the value, or BadBody where the bytes don't give one
abbrev pub or_bad_body : {A : Type 0} → Option A → Result A WireFault
or_bad_body None = Err BadBody
or_bad_body (Some x) = Ok x

-- what a function answered, seen by `view`, is what reading gives, unless memory ran out
abbrev pub GivesRead : {X Y : Type 0} → (X → Y) → Result X WireFault → Result Y WireFault → Type 0
GivesRead view (Ok x) read = read ≡ Ok (view x)
GivesRead view (Err fault) read = fault ≢ Memory → read ≡ Err fault

-- what a function answered is made of what reading gives, as `made` tells, unless memory ran out
abbrev pub Makes : {X Y : Type 0} → (X → Y → Type 0) → Result Y WireFault → Result X WireFault → Type 0
Makes {X = X} made (Ok y) read = (x : X) × (read ≡ Ok x) × made x y
Makes made (Err fault) read = fault ≢ Memory → read ≡ Err fault
