use Rattle.krs_ring_asks.proofs.MovedLinks.{put_leaves}
use Rattle.krs_ring_asks.proofs.moving.move_over.Goals as goal

pub drop_link-requires : goal.drop_link-requires
drop_link-requires c = record {
  linked = put_leaves c.args.tables.now c.put_link.new.tables c.args.from c.args.into c.args.serial c.requires.there
      c.requires.apart c.in_ok-put_link.ensures c.requires.linked;
}
