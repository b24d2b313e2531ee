use Rattle.std.proofs.Common.{◌≡◌, filter, length, map}
use Rattle.krs_model.specs.Notes.Posting.{post_all, removal_for}
use Rattle.krs_hold.specs.Told.{tells}
use Rattle.krs_watch.specs.Watched.{AreDue, gone_watches}
use Rattle.krs_watch.proofs.queues.end_dropped.Given as goal

-- what has come and what is to come are together what is meant
abbrev pub invariant-ending : goal.invariant-ending
invariant-ending g l = record {
  posts : post_all (map removal_for (gone_watches (g.K.KeySet.has l.keys) l.watches)) l.queues.entries
      ≡ post_all (map removal_for (gone_watches (g.K.KeySet.has l.keys) l.fn.watches)) l.fn.queues.entries;
  stay : filter (λ w. g.K.KeySet.has l.keys w.0.0) l.watches ≡ filter (λ w. g.K.KeySet.has l.keys w.0.0) l.fn.watches;
  due : AreDue (g.K.KeySet.has l.keys) (tells l.told) l.from l.watches;
}

abbrev pub decreases-ending : goal.decreases-ending
decreases-ending g l = length (gone_watches (g.K.KeySet.has l.keys) l.watches)
