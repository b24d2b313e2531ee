use Rattle.std.proofs.Common.{◌∙◌, ap, nat_cmp, sym}
use Rattle.std.specs.{BTreeMap.is_at, Map.set_value}
use Rattle.krs_model.specs.Notes.Posting.{after_note}
use Rattle.krs_model.proofs.Tables.Changes.{alter_none, alter_some}
use Rattle.krs_watch.proofs.posting.post.Goals as goal

pub returns-in-Some : goal.returns-in-Some
returns-in-Some c =
    let es = c.args.queues.now.entries in
    (c.get_mut.follows.holds c.post.new.self).0
    ∙ (ap (λ z. set_value (is_at (nat_cmp c.args.number)) es z) c.post.ensures
    ∙ alter_some es c.args.number (after_note c.args.note) c.in-Some.queue.now (sym c.in-Some.ensures.value))

pub returns-in-None : goal.returns-in-None
returns-in-None c =
    ap (λ m. m.entries) c.get_mut.follows.holds-at-none
    ∙ sym (alter_none c.args.queues.now.entries c.args.number (after_note c.args.note) (sym c.in-None.ensures.value))
