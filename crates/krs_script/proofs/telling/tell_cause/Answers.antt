use Rattle.std.proofs.Common.{[]}
use Rattle.krs_words.specs.Saying.{heard}
use Rattle.krs_script.specs.Telling.{stop_text}
use Rattle.krs_script.proofs.SayingLemmas.{says_lacking}
use Rattle.krs_script.proofs.telling.tell_cause.Goals as goal

pub returns-in-Ok : goal.returns-in-Ok
returns-in-Ok g c =
    (c.in-Ok.ensures.0, rw c.in-Ok.ensures.1 at (rw c.as_slice.ensures.value at c.tell.ensures))

pub returns-in-Err : goal.returns-in-Err
returns-in-Err g c = (
  [],
  says_lacking (heard g.E.Write.contents c.args.errors.now) (heard g.E.Write.contents c.lack.new.self)
      (stop_text c.args.place.now.number c.args.place.now.line.items c.args.cause []) c.lack.ensures,
)
