-- What the contexts are seen as.
use Rattle.std.specs.Prelude.{◌≡◌, true}
use Rattle.krs_model.specs.Table.{Rises}
use Rattle.krs_ctx.specs.Anchors.{Anchors, IsFit, IsWhole}
use Rattle.krs_ctx.specs.{Members.AreListed, declared.contexts.Contexts.TheInside.Inside}
use Rattle.krs_ctx.specs.declared.table.ContextTable.TheInside as table

-- just the contexts are listed, and their numbers rise
pub record AreListedInside (t : table.Inside) : Type 0 where
  pub listed : AreListed t.contexts.entries t.listed
  pub rises : Rises t.contexts.entries

abbrev pub anchors_in : Inside → Anchors
anchors_in t = record {
  contexts = t.contexts;
  processes = t.processes.entries;
  uids = t.uids.entries;
  next_context = t.next;
}

-- what is true of all anchors, and of those that are known to be whole
pub record IsFitInside (t : Inside) : Type 0 where
  pub fit : IsFit (anchors_in t)
  pub whole : t.whole ≡ true → IsWhole (anchors_in t)
