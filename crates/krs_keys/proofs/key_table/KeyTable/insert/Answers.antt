use Rattle.std.proofs.Common.{subst, sym}
use Rattle.krs_model.proofs.Tables.Changes.{below_put}
use Rattle.krs_keys.specs.{Keys.AreOfKind, Places.by_place}
use Rattle.krs_keys.proofs.KindsLemmas.{kinds_put}
use Rattle.krs_keys.proofs.key_table.KeyTable.insert.Goals as goal

pub invariant_of-self-2 : goal.invariant_of-self-2
invariant_of-self-2 c =
    let es = by_place c.self.inside.keys in
    let n = c.self.inside.next in
    let more = c.in_ok-put_in.ensures.ok in (
      c.put_in.ensures.placed,
      record {
        below = below_put _ _ n c.args.key more c.self.invariant.1.below;
        kinds = subst AreOfKind (sym more) (kinds_put es n c.args.key c.requires c.self.invariant.1.kinds);
        sessions = c.put_in.ensures.sessions;
      },
    )
