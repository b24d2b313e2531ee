use Rattle.std.proofs.Common.{◌∙◌, ap, Option}
use Rattle.krs_model.specs.{Notes.Posting.{Note, posted_in}, Queues.queues_of}
use Rattle.krs_store.specs.Telling.{posts_told, told_of}
use Rattle.krs_store.proofs.Noting.{told_twice}
use Rattle.krs_store.proofs.telling.tell.Goals as goal

pub returns : goal.returns
returns c =
    let s = c.args.tables.now in
    let mid = c.post.new.tables in
    let answer = c.args.answer.now in
    told_twice s mid c.post-2.new.tables (told_of c.args.tellings.first answer) (told_of c.args.tellings.second answer)
    (c.post.ensures ∙ ap (λ (o : Option Note). posted_in (posts_told (queues_of s) o) s) c.note.ensures)
    (c.post-2.ensures ∙ ap (λ (o : Option Note). posted_in (posts_told (queues_of mid) o) mid) c.note-2.ensures)
