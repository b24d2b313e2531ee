use Rattle.krs_model.proofs.Lookups.{Laws.look_up_usable, Serials.found_serial}
use Rattle.krs_model.proofs.laws.look_ups_find_usable_keys.Goals as goal

pub returns-clause-named : goal.returns-clause-named
returns-clause-named c = found_serial

pub returns-clause-usable : goal.returns-clause-usable
returns-clause-usable c = look_up_usable
