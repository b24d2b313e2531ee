-- Laws of the table of keys.
use Rattle.std.proofs.Common.{[], ◌∷◌, ◌≡◌, ap, Bool, cond, Err, false, IfErr, IfOk, None, Ok, OnErr, OnOk, Option}
use Rattle.std.proofs.Common.{option_map, refl, Result, Some, true, ℕ}
use Rattle.std.specs.Map.{keys_of}
use Rattle.std.proofs.lemmas.Option.{none-some, same_Some}
use Rattle.krs_model.specs.Table.{map_values, Table}
use Rattle.krs_keys.specs.{Table.Keys, declared.key.Key.Key}

-- these keys, with the serial that comes next
abbrev pub seen_as : ℕ → Table Key → Keys
seen_as next keys = record { keys = keys; next = next }

-- a map's values seen through f: its keys
pub keys_map : {X Y : Type 0} (f : X → Y) (es : Table X) → keys_of (map_values f es) ≡ keys_of es
keys_map f [] = refl
keys_map f (e ∷ es) = ap (λ ks. e.0 ∷ ks) (keys_map f es)

-- the key of which a changed one comes
pub mapped_some :
    (f : Key → Key) (o : Option Key) (key : Key) → option_map f o ≡ Some key → (v : Key) × (o ≡ Some v) × (f v ≡ key)
mapped_some f None key h = absurd (none-some key h)
mapped_some f (Some v) key h = (v, refl, same_Some (f v) key h)

-- a key that was kept
pub was_there :
    (b : Bool) (o : Option Key) (key : Key) → cond b o None ≡ Some key → (b ≡ true) × (o ≡ Some key)
was_there true o key h = (refl, h)
was_there false o key h = absurd (none-some key h)

-- a fact for Ok, or for Err, from another
pub on_ok : {X E : Type 0} {P Q : Type 0} (r : Result X E) → (P → Q) → OnOk r P → OnOk r Q
on_ok (Ok x) f h = f h
on_ok (Err e) f h = h

pub on_err : {X E : Type 0} {P Q : Type 0} (r : Result X E) → (P → Q) → OnErr r P → OnErr r Q
on_err (Ok x) f h = h
on_err (Err e) f h = f h

pub if_ok : {X E : Type 0} {P Q : X → Type 0} (r : Result X E) → ((x : X) → P x → Q x) → IfOk r P → IfOk r Q
if_ok (Ok x) f h = f x h
if_ok (Err e) f h = h

pub if_err : {X E : Type 0} {P Q : E → Type 0} (r : Result X E) → ((e : E) → P e → Q e) → IfErr r P → IfErr r Q
if_err (Ok x) f h = h
if_err (Err e) f h = f e h

-- what holds either way
pub by_result : {X E : Type 0} {P Q R : Type 0} (r : Result X E) → (P → R) → (Q → R) → OnOk r P → OnErr r Q → R
by_result (Ok x) f g h k = f h
by_result (Err e) f g h k = g k
