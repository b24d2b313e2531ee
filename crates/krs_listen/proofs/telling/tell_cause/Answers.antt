use Rattle.std.proofs.Common.{[]}
use Rattle.std.specs.IoError.{raw_os_error}
use Rattle.krs_words.specs.Saying.{heard}
use Rattle.krs_listen.specs.Telling.{cause_text, next_text}
use Rattle.krs_listen.proofs.TellingLemmas.{says_lacking}
use Rattle.krs_listen.proofs.telling.tell_cause.Goals as goal

pub returns-in-Ok : goal.returns-in-Ok
returns-in-Ok g c = (c.in-Ok.ensures.0, rw c.in-Ok.ensures.1 at (rw c.as_str.ensures.value at c.say.ensures))

pub returns-in-Err : goal.returns-in-Err
returns-in-Err g c = (
  [],
  says_lacking (heard g.E.Write.contents c.args.errors.now) (heard g.E.Write.contents c.lack.new.self)
      (cause_text c.args.about.now [] (next_text (raw_os_error c.args.cause.now))) c.lack.ensures,
)
