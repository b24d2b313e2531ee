use Rattle.krs_session.proofs.AlikeLemmas.{alike_answers, alike_texts, alike_written}
use Rattle.krs_session.proofs.laws.a_session_tells_by_its_reads_alone.Goals as goal

pub returns : goal.returns
returns g c = record { replies = alike_answers; texts = alike_texts; written = alike_written g.W.Sink.took }
