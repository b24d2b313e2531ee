use Rattle.std.proofs.Common.{[], ◌∷◌, refl, rules}
use Rattle.krs_types.specs.declared.ask.Op.TheVariants.{Chown, Link, Move, RestrictKeyring, Search, SetPerm, SetTimeout}
use Rattle.krs_types.specs.declared.ask.Op.TheVariants.{Unlink, Update, Watch}
use Rattle.krs_wire.specs.{Bodies.{a_blob, a_number, a_text, an_id, fields_of}, Frame.op_of}
use Rattle.krs_wire.proofs.RowLemmas.{row_gives}
use Rattle.krs_wire.proofs.asks.op_at.Goals as goal

pub returns-in-2-asks : goal.returns-in-2-asks
unfolding op_of
returns-in-2-asks c =
    row_gives (fields_of (an_id ∷ a_blob ∷ [])) (λ a. Update a.0 a.1.0)
    c.args.which 2 c.args.body.now _ (search rules) refl (search rules)

pub returns-in-4-asks : goal.returns-in-4-asks
unfolding op_of
returns-in-4-asks c =
    row_gives (fields_of (an_id ∷ a_number ∷ a_number ∷ [])) (λ a. Chown a.0 a.1.0 a.1.1.0)
    c.args.which 4 c.args.body.now _ (search rules) refl (search rules)

pub returns-in-5-asks : goal.returns-in-5-asks
unfolding op_of
returns-in-5-asks c =
    row_gives (fields_of (an_id ∷ a_number ∷ [])) (λ a. SetPerm a.0 a.1.0)
    c.args.which 5 c.args.body.now _ (search rules) refl (search rules)

pub returns-in-8-asks : goal.returns-in-8-asks
unfolding op_of
returns-in-8-asks c =
    row_gives (fields_of (an_id ∷ an_id ∷ [])) (λ a. Link a.0 a.1.0)
    c.args.which 8 c.args.body.now _ (search rules) refl (search rules)

pub returns-in-9-asks : goal.returns-in-9-asks
unfolding op_of
returns-in-9-asks c =
    row_gives (fields_of (an_id ∷ an_id ∷ [])) (λ a. Unlink a.0 a.1.0)
    c.args.which 9 c.args.body.now _ (search rules) refl (search rules)

pub returns-in-10-asks : goal.returns-in-10-asks
unfolding op_of
returns-in-10-asks c =
    row_gives (fields_of (an_id ∷ a_text ∷ a_text ∷ an_id ∷ [])) (λ a. Search a.0 a.1.0 a.1.1.0 a.1.1.1.0)
    c.args.which 10 c.args.body.now _ (search rules) refl (search rules)

pub returns-in-15-asks : goal.returns-in-15-asks
unfolding op_of
returns-in-15-asks c =
    row_gives (fields_of (an_id ∷ a_number ∷ [])) (λ a. SetTimeout a.0 a.1.0)
    c.args.which 15 c.args.body.now _ (search rules) refl (search rules)

pub returns-in-29-asks : goal.returns-in-29-asks
unfolding op_of
returns-in-29-asks c =
    row_gives (fields_of (an_id ∷ a_text ∷ [])) (λ a. RestrictKeyring a.0 a.1.0)
    c.args.which 29 c.args.body.now _ (search rules) refl (search rules)

pub returns-in-30-asks : goal.returns-in-30-asks
unfolding op_of
returns-in-30-asks c =
    row_gives (fields_of (an_id ∷ an_id ∷ an_id ∷ a_number ∷ [])) (λ a. Move a.0 a.1.0 a.1.1.0 a.1.1.1.0)
    c.args.which 30 c.args.body.now _ (search rules) refl (search rules)

pub returns-in-32-asks : goal.returns-in-32-asks
unfolding op_of
returns-in-32-asks c =
    row_gives (fields_of (an_id ∷ a_number ∷ an_id ∷ [])) (λ a. Watch a.0 a.1.0 a.1.1.0)
    c.args.which 32 c.args.body.now _ (search rules) refl (search rules)
