use Rattle.krs_model.specs.State.{starting_at}
use Rattle.krs_model.proofs.Sound.Steps.{start_sound}
use Rattle.krs_rows.proofs.Computed.{answers_alone, legal_from}
use Rattle.krs_rows.proofs.laws.rows_are_the_histories.Goals as goal

pub returns-clause-legal : goal.returns-clause-legal
returns-clause-legal c = λ serial events same. legal_from (starting_at serial) events (start_sound serial) same

pub returns-clause-alone : goal.returns-clause-alone
returns-clause-alone c = λ serial events end legal memory.
    answers_alone (starting_at serial) events end (start_sound serial) legal memory
