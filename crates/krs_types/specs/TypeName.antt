-- The name of a type as a client gave it: add_key(2), "type".
use Rattle.std.specs.Prelude.{[], List, ℕ}
use Rattle.krs_types.specs.{Kind.kind_name, declared.type_name.Given.{Given, TheVariants.{Empty, Known, Other}}}

-- its bytes
abbrev pub given_name : Given → List ℕ
given_name Empty = []
given_name (Known kind) = kind_name kind
given_name (Other name) = name.value
