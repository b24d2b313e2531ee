use Rattle.krs_tables.proofs.tables.Tables.new_key.Goals as goal

pub returns : goal.returns
returns c = rw (c.first_perm.ensures, c.first_content.ensures, c.kind-kind.ensures)
