-- Lists of any kind. The form is this project's own.
use Rattle.std.specs.Prelude.{◌++◌, ◌≡◌, List}

-- the first list begins the second: something may stand behind it
abbrev pub Begins : {A : Type 0} → List A → List A → Type 0
Begins {A} front whole = (rest : List A) × (front ++ rest ≡ whole)
