use Rattle.krs_words.specs.Saying.{heard}
use Rattle.krs_script.proofs.SayingLemmas.{says_lacking}
use Rattle.krs_ctl.specs.Telling.{path_text}
use Rattle.krs_ctl.proofs.connecting.tell_of.Goals as goal

pub returns-in-Ok : goal.returns-in-Ok
returns-in-Ok g c = rw c.in-Ok.ensures at (rw c.as_slice.ensures.value at c.tell.ensures)

pub returns-in-Err : goal.returns-in-Err
returns-in-Err g c =
    says_lacking (heard g.E.Write.contents c.args.errors.now) (heard g.E.Write.contents c.lack.new.self)
    (path_text c.args.path.now c.args.what.now) c.lack.ensures
