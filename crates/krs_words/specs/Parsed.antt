-- What reading words gives: a value, or none where they are no command.
use Rattle.std.specs.Prelude.{⊤, ◌≡◌, Err, filter_map, if◌then◌else◌, is_some, List, None, Ok, Option, Result, Some, ℕ}
use Rattle.std.specs.List.{list_all}
use Rattle.krs_words.specs.declared.no_command.NoCommand.{NoCommand, TheVariants.{Memory, Usage}}

infixl 10 ◌>>=◌
-- what follows a value; without one the rest is none too
abbrev pub ◌>>=◌ : {A B : Type 0} → Option A → (A → Option B) → Option B
None >>= f = None
(Some x) >>= f = f x

-- what the words say, where each of them says something
abbrev pub each_of : {A : Type 0} → (List ℕ → Option A) → List (List ℕ) → Option (List A)
each_of f words = if list_all (λ word. is_some (f word)) words then Some (filter_map f words) else None

-- the answer is the value that is wanted, or usage where none is; out of memory may stand for either
abbrev pub Reads : {A : Type 0} → Result A NoCommand → Option A → Type 0
Reads (Ok x) wanted = wanted ≡ Some x
Reads (Err Usage) wanted = wanted ≡ None
Reads (Err Memory) wanted = ⊤
