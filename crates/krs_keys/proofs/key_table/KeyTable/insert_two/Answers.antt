use Rattle.std.proofs.Common.{◌+◌, arith, refl, subst, sym}
use Rattle.krs_model.specs.Table.{put}
use Rattle.krs_model.proofs.Tables.Changes.{below_put}
use Rattle.krs_keys.specs.{Keys.AreOfKind, Places.by_place}
use Rattle.krs_keys.proofs.KindsLemmas.{kinds_put}
use Rattle.krs_keys.proofs.key_table.KeyTable.insert_two.Goals as goal

pub put_two-requires : goal.put_two-requires
put_two-requires c = record {
  placed = c.self.invariant.0;
  sessions = c.self.invariant.1.sessions;
  fits = omega arith;
  absent = c.self.invariant.1.below c.self.inside.next (omega arith);
  absent_next = c.self.invariant.1.below (c.self.inside.next + 1) (omega arith);
}

pub invariant_of-self-2 : goal.invariant_of-self-2
invariant_of-self-2 c =
    let es = by_place c.self.inside.keys in
    let n = c.self.inside.next in
    let one = put es n c.args.first in
    let both = c.in_ok-put_two.ensures.ok in (
      c.put_two.ensures.placed,
      record {
        below = λ q h. below_put one _ (n + 1) c.args.second both
            (below_put es _ n c.args.first refl c.self.invariant.1.below) q (omega arith);
        kinds = subst AreOfKind (sym both) (kinds_put one (n + 1) c.args.second c.requires.second
            (kinds_put es n c.args.first c.requires.first c.self.invariant.1.kinds));
        sessions = c.put_two.ensures.sessions;
      },
    )
