use Rattle.std.proofs.Common.{subst, sym}
use Rattle.krs_keys.specs.{Keys.AreFit, Table.Keys}
use Rattle.krs_keys.proofs.key_table.KeyTable.links_key.Goals as goal

pub links_key-requires : goal.links_key-requires
links_key-requires c = record { fit = subst (λ (t : Keys). AreFit t.keys) (sym c.self.view_is) c.requires.fit }
