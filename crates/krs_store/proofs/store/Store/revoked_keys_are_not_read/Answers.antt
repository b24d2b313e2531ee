use Rattle.std.proofs.Common.{subst}
use Rattle.krs_model.specs.Revocation.{StaysUnread}
use Rattle.krs_model.proofs.History.Revocations.{revoked_unread}
use Rattle.krs_store.proofs.store.Store.revoked_keys_are_not_read.Goals as goal

pub returns : goal.returns
returns c = subst StaysUnread c.self.view_is (revoked_unread c.self.inside.tables c.self.invariant.unused)
