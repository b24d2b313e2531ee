-- Why a call was not answered.
use Rattle.std.proofs.Common.{List, ℕ}
use Rattle.krs_words.specs.Saying.{Heard}
use Rattle.krs_ctl.specs.Telling.{failed_text, no_place_text, TellsFailure, TellsOf}
use Rattle.krs_ctl.specs.declared.connecting.Failure.{Failure, TheVariants.{Failed, NoPlace, Unconnected}}

-- what is told of it is told of its path
pub tells_of_failure : (path : List ℕ) (failure : Failure) (old new : Heard) → TellsFailure path failure old new
    → TellsOf path old new
tells_of_failure path (Unconnected error) old new told = told
tells_of_failure path NoPlace old new told = (no_place_text, told)
tells_of_failure path Failed old new told = (failed_text, told)
