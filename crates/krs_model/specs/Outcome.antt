-- What an ask comes to, and how a function's result is compared to it. The form is this project's own; the refusals
-- are those of keyctl(2), add_key(2) and request_key(2), "ERRORS".
use Rattle.std.specs.Prelude.{◌≡◌, Err, IsOk, Ok, Result}
use Rattle.krs_types.specs.declared.ask.Answer.{Answer}
use Rattle.krs_types.specs.declared.{errno.Errno.Errno, fault.Fault.{Fault, TheVariants.{Memory, Refused}}}
use Rattle.krs_model.specs.State.{State}

-- the state before the sweep and the answer of an accepted ask, or the refusal that comes first
abbrev pub Outcome : Type 0
Outcome = Result (State × Answer) Errno

-- a fault is the definition's refusal; or memory runs out for what it accepts
abbrev pub Fails : {Y : Type 0} → Fault → Result Y Errno → Type 0
Fails Memory meant = IsOk meant
Fails (Refused e) meant = meant ≡ Err e

-- the result, seen by view, is what is meant, unless memory was wanted
abbrev pub Gives : {X Y : Type 0} → (X → Y) → Result X Fault → Result Y Errno → Type 0
Gives view (Ok x) meant = meant ≡ Ok (view x)
Gives view (Err e) meant = Fails e meant

-- the result, seen by view, is what is meant
abbrev pub Is : {X Y : Type 0} → (X → Y) → Result X Errno → Result Y Errno → Type 0
Is view (Ok x) meant = meant ≡ Ok (view x)
Is view (Err e) meant = meant ≡ Err e

-- from old, this result and this new state are what is meant; a fault leaves the state as it was
abbrev pub Leads : State → Result Answer Fault → State → Outcome → Type 0
Leads old (Ok answer) new meant = meant ≡ Ok (new, answer)
Leads old (Err e) new meant = Fails e meant × (new ≡ old)
