-- The bodies of asks, which are the fields of their rows, one after the other: docs/FORMAT.md, "Fields of bodies".
use Rattle.std.specs.Prelude.{[], ◌++◌, ◌+◌, ◌∷◌, Bool, flat_map, length, List, ℕ, ℤ}
use Rattle.std.specs.{Int.{w16, w32}, List.AllByRecursion}
use Rattle.krs_types.specs.Rows.{Blob, Entries, Flag, Id, Number, row_of, Text, Value, Whom}
use Rattle.krs_types.specs.declared.{ask.Op.Op, caller.Caller.Caller, note.FilterEntry.FilterEntry}
use Rattle.krs_wire.specs.Field.{both, built, counted, Field, flag, nothing, number, repeated, signed, sized}

-- an id of a key: 32 bits, signed
abbrev pub id_field : Field ℤ
id_field = signed w32

-- a text: a length of 16 bits, and that many bytes
abbrev pub text_field : Field (List ℕ)
text_field = sized w16

-- a blob: a length of 32 bits, and that many bytes
abbrev pub blob_field : Field (List ℕ)
blob_field = sized w32

-- groups: a count of 32 bits, and that many numbers
abbrev pub groups_field : Field (List ℕ)
groups_field = counted (number w32)

-- uid, gid, groups
abbrev pub caller_parts : Caller → ℕ × (ℕ × List ℕ)
caller_parts caller = (caller.uid, (caller.gid, caller.groups))

abbrev pub caller_of : ℕ × (ℕ × List ℕ) → Caller
caller_of a = record { uid = a.0; gid = a.1.0; groups = a.1.1 }

-- whom a client says that it is
abbrev pub caller_field : Field Caller
caller_field = built (both (number w32) (both (number w32) groups_field)) caller_of caller_parts

-- type, info filter, info mask, eight subtype words
abbrev pub entry_parts : FilterEntry → ℕ × (ℕ × (ℕ × List ℕ))
entry_parts entry = (entry.note_type, (entry.info_filter, (entry.info_mask, entry.subtypes)))

abbrev pub entry_of : ℕ × (ℕ × (ℕ × List ℕ)) → FilterEntry
entry_of a = record { note_type = a.0; info_filter = a.1.0; info_mask = a.1.1.0; subtypes = a.1.1.1 }

-- an entry of a filter, 44 bytes: docs/FORMAT.md, "Filters"
abbrev pub entry_field : Field FilterEntry
entry_field =
    built (both (number w32) (both (number w32) (both (number w32) (repeated 8 (number w32))))) entry_of entry_parts

-- entries: a count of 32 bits, and that many of them
abbrev pub entries_field : Field (List FilterEntry)
entries_field = counted entry_field

-- the bytes of a field of a row
abbrev pub encoded : Value → List ℕ
encoded (Number n) = (number w32).encode n
encoded (Id id) = id_field.encode id
encoded (Flag b) = flag.encode b
encoded (Text text) = text_field.encode text
encoded (Blob bytes) = blob_field.encode bytes
encoded (Whom caller) = caller_field.encode caller
encoded (Entries entries) = entries_field.encode entries

-- what a field of a row can encode
abbrev pub FitsValue : Value → Type 0
FitsValue (Number n) = (number w32).Fits n
FitsValue (Id id) = id_field.Fits id
FitsValue (Flag b) = flag.Fits b
FitsValue (Text text) = text_field.Fits text
FitsValue (Blob bytes) = blob_field.Fits bytes
FitsValue (Whom caller) = caller_field.Fits caller
FitsValue (Entries entries) = entries_field.Fits entries

-- the number of an operation
abbrev pub number_of_op : Op → ℕ
number_of_op op = (row_of op).number

-- the bytes of its body
abbrev pub body_of_op : Op → List ℕ
body_of_op op = flat_map encoded (row_of op).body

-- what its body can encode
abbrev pub FitsOp : Op → Type 0
FitsOp op = AllByRecursion FitsValue (row_of op).body

-- the forms of fields, by which a body is read
pub data Form : Type 0 where
  a_number : Form
  an_id : Form
  a_flag : Form
  a_text : Form
  a_blob : Form
  a_caller : Form
  a_filter : Form

-- the values of a form
abbrev pub Of : Form → Type 0
Of a_number = ℕ
Of an_id = ℤ
Of a_flag = Bool
Of a_text = List ℕ
Of a_blob = List ℕ
Of a_caller = Caller
Of a_filter = List FilterEntry

abbrev pub field_of : (form : Form) → Field (Of form)
field_of a_number = number w32
field_of an_id = id_field
field_of a_flag = flag
field_of a_text = text_field
field_of a_blob = blob_field
field_of a_caller = caller_field
field_of a_filter = entries_field

-- the values of some forms
abbrev pub Parts : List Form → Type 0
Parts [] = Unit {0}
Parts (form ∷ forms) = Of form × Parts forms

-- fields of these forms, one after the other
abbrev pub fields_of : (forms : List Form) → Field (Parts forms)
fields_of [] = nothing
fields_of (form ∷ forms) = both (field_of form) (fields_of forms)

-- bytes with fields behind them, put there one by one
abbrev pub written : List ℕ → List Value → List ℕ
written out [] = out
written out (v ∷ vs) = written (out ++ encoded v) vs

-- the bytes of fields, counted one by one
abbrev pub size_of : List Value → ℕ
size_of [] = 0
size_of (v ∷ vs) = length (encoded v) + size_of vs
