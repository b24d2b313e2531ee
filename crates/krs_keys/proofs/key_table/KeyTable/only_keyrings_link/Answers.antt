use Rattle.std.proofs.Common.{subst}
use Rattle.krs_keys.specs.{Keys.{AreOfKind, OnlyRingsLink, shown}, Table.Keys}
use Rattle.krs_keys.proofs.KindsLemmas.{only_rings}
use Rattle.krs_keys.proofs.key_table.KeyTable.only_keyrings_link.Goals as goal

pub returns-clause-kinds : goal.returns-clause-kinds
returns-clause-kinds c =
    subst (λ (t : Keys). AreOfKind t.keys) c.self.view_is c.self.invariant.1.kinds

pub returns-clause-only : goal.returns-clause-only
returns-clause-only c =
    subst (λ (t : Keys). OnlyRingsLink (shown t.keys)) c.self.view_is (only_rings _ c.self.invariant.1.kinds)
