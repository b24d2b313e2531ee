-- A body is read as it is encoded, and what is read is encoded so.
use Rattle.std.proofs.Common.{[], ◌<◌, ◌^◌, ◌∙◌, ◌∷◌, ◌≡◌, ap, arith, cond, eqb, eqb-true, inl, inr, List, map, Ok}
use Rattle.std.proofs.Common.{refl, subst, sym, true, w16, w32, ℕ}
use Rattle.krs_types.specs.Rows.{Blob, Entries, Flag, Id, Number, row_of, Text, Value, Whom}
use Rattle.krs_types.specs.declared.ask.Op.{Op, TheVariants.{GetId, Thread}}
use Rattle.krs_wire.specs.Bodies.{a_blob, a_caller, a_filter, a_flag, a_number, a_text, an_id, body_of_op, caller_field}
use Rattle.krs_wire.specs.Bodies.{caller_of, caller_parts, entry_field, entry_of, entry_parts, field_of, fields_of}
use Rattle.krs_wire.specs.Bodies.{FitsOp, Form, groups_field, number_of_op, Of, Parts}
use Rattle.krs_wire.specs.{Faulting.or_bad_body, Field.{both, number, repeated, whole}}
use Rattle.krs_wire.specs.Frame.{by, op_of, read_by, Reading, readings}
use Rattle.krs_wire.proofs.CaseLemmas.{chosen, ok_body}
use Rattle.krs_wire.proofs.{CountLemmas.{counted_exact, repeated_exact}, FieldLemmas.both_exact}
use Rattle.krs_wire.proofs.FieldLemmas.{built_exact, flag_exact, IsBytes, IsExact, nothing_exact, number_exact}
use Rattle.krs_wire.proofs.FieldLemmas.{signed_exact, sized_exact, whole_again, whole_takes, wide16, wide32}

number32_exact : IsExact (number w32)
number32_exact = number_exact w32 wide32

caller_exact : IsExact caller_field
caller_exact =
    built_exact (both (number w32) (both (number w32) groups_field)) caller_of caller_parts
    (both_exact (number w32) (both (number w32) groups_field) number32_exact
    (both_exact (number w32) groups_field number32_exact (counted_exact (number w32) number32_exact)))
    (λ a. refl) (λ caller. refl)

words_exact : IsExact (repeated 8 (number w32))
words_exact = repeated_exact 8 (number w32) number32_exact

-- the parts of a filter entry, one after the other
masked_exact : IsExact (both (number w32) (repeated 8 (number w32)))
masked_exact = both_exact (number w32) (repeated 8 (number w32)) number32_exact words_exact

filtered_exact : IsExact (both (number w32) (both (number w32) (repeated 8 (number w32))))
filtered_exact =
    both_exact (number w32) (both (number w32) (repeated 8 (number w32))) number32_exact masked_exact

entry_exact : IsExact entry_field
entry_exact =
    built_exact (both (number w32) (both (number w32) (both (number w32) (repeated 8 (number w32)))))
    entry_of entry_parts
    (both_exact (number w32) (both (number w32) (both (number w32) (repeated 8 (number w32))))
    number32_exact filtered_exact)
    (λ a. refl) (λ entry. refl)

-- each form of a field is exact
form_exact : (form : Form) → IsExact (field_of form)
form_exact a_number = number32_exact
form_exact an_id = signed_exact
form_exact a_flag = flag_exact
form_exact a_text = sized_exact w16 wide16
form_exact a_blob = sized_exact w32 wide32
form_exact a_caller = caller_exact
form_exact a_filter = counted_exact entry_field entry_exact

-- and so are fields of these forms
fields_exact : (forms : List Form) → IsExact (fields_of forms)
fields_exact [] = nothing_exact
fields_exact (form ∷ forms) =
    both_exact (field_of form) (fields_of forms) (form_exact form) (fields_exact forms)

-- what a body says by a row, which its fields were encoded by
row_again : (row : Reading) (x : Parts row.forms) → (fields_of row.forms).Fits x
    → or_bad_body (whole (fields_of row.forms) row.make ((fields_of row.forms).encode x)) ≡ Ok (row.make x)
row_again row x h = ap or_bad_body (whole_again (fields_of row.forms) (fields_exact row.forms) row.make x h)

-- the row of a number
abbrev row_at : List Reading → ℕ → Reading
row_at [] which = by which [] (λ x. Thread)
row_at (row ∷ others) which = cond (eqb which row.number) row (row_at others which)

-- the form of a field, and the fields of an ask by their forms
abbrev form_of : Value → Form
form_of (Number n) = a_number
form_of (Id id) = an_id
form_of (Flag b) = a_flag
form_of (Text text) = a_text
form_of (Blob bytes) = a_blob
form_of (Whom caller) = a_caller
form_of (Entries entries) = a_filter

abbrev value_of : (v : Value) → Of (form_of v)
value_of (Number n) = n
value_of (Id id) = id
value_of (Flag b) = b
value_of (Text text) = text
value_of (Blob bytes) = bytes
value_of (Whom caller) = caller
value_of (Entries entries) = entries

abbrev parts_of : (vs : List Value) → Parts (map form_of vs)
parts_of [] = tt
parts_of (v ∷ vs) = (value_of v, parts_of vs)

pub op_again : (op : Op) → FitsOp op → op_of (number_of_op op) (body_of_op op) ≡ Ok op
unfolding op_of
op_again Thread h = row_again (row_at readings 257) tt h
op_again op h = row_again (row_at readings (number_of_op op)) (parts_of (row_of op).body) h

pub op_small : (op : Op) → number_of_op op < 256 ^ 2
op_small (GetId id create) = omega arith
op_small op = omega arith

pub record OpTakes (which : ℕ) (body : List ℕ) (op : Op) : Type 0 where
  pub number : which ≡ number_of_op op
  pub body-is : body ≡ body_of_op op
  pub fits : FitsOp op

-- what the asks of these rows have: their numbers, their bodies, and what these can encode
abbrev Facts : List Reading → Type 1
Facts [] = Unit {1}
Facts (row ∷ others) = (Parts row.forms → ℕ × List ℕ × Type 0) × Facts others

abbrev of_asks : (rows : List Reading) → Facts rows
of_asks [] = tt
of_asks (row ∷ others) =
    (λ x. (number_of_op (row.make x), body_of_op (row.make x), FitsOp (row.make x)), of_asks others)

-- and what the rows say of them
abbrev of_rows : (rows : List Reading) → Facts rows
of_rows [] = tt
of_rows (row ∷ others) =
    (λ x. (row.number, (fields_of row.forms).encode x, (fields_of row.forms).Fits x), of_rows others)

same_facts : of_asks readings ≡ of_rows readings
unfolding readings
same_facts = refl

row_takes : (row : Reading) (others : List Reading) → of_asks (row ∷ others) ≡ of_rows (row ∷ others)
    → (which : ℕ) (body : List ℕ) (op : Op) → IsBytes body → eqb which row.number ≡ true
    → or_bad_body (whole (fields_of row.forms) row.make body) ≡ Ok op → OpTakes which body op
row_takes row others same which body op bytes test e =
    let t =
    whole_takes (fields_of row.forms) (fields_exact row.forms) row.make body op bytes
    (ok_body (whole (fields_of row.forms) row.make body) op e) in
    let here = ap (λ (f : Facts (row ∷ others)). f.0 t.0) same in
    let made : OpTakes which body (row.make t.0) =
    record {
      number = eqb-true _ _ test ∙ sym (ap (λ (f : ℕ × List ℕ × Type 0). f.0) here);
      body-is = t.1 ∙ sym (ap (λ (f : ℕ × List ℕ × Type 0). f.1) here);
      fits = subst (λ (f : ℕ × List ℕ × Type 0). f.2) (sym here) t.2;
    } in
    subst (λ (o : Op). OpTakes which body o) t.3 made

rows_take : (rows : List Reading) → of_asks rows ≡ of_rows rows → (which : ℕ) (body : List ℕ) (op : Op) → IsBytes body
    → read_by rows which body ≡ Ok op → OpTakes which body op
rows_take [] same which body op bytes e = absurd cc
rows_take (row ∷ others) same which body op bytes e =
    elim (chosen (eqb which row.number) _ _ _ e) [
      | inl h ↦ row_takes row others same which body op bytes h.0 h.1
      | inr h ↦ rows_take others (ap (λ (f : Facts (row ∷ others)). f.1) same) which body op bytes h.1
    ]

pub op_takes : (which : ℕ) (body : List ℕ) (op : Op) → IsBytes body → op_of which body ≡ Ok op → OpTakes which body op
unfolding op_of
op_takes which body op bytes e = rows_take readings same_facts which body op bytes e
