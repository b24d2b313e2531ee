-- The laws of each ask: a file of several has a set of them.
use Rattle.std.proofs.Common.{ℕ}
use Rattle.krs_types.specs.declared.ask.Op.{Op, TheVariants.Hello}
use Rattle.krs_model.specs.State.{State}
use Rattle.krs_model.proofs.Asks.{Adding.add_law, Changing.changing_laws, Entering.entering_laws, Finding.get_id_law}
use Rattle.krs_model.proofs.Asks.{Hello.hello_law, Invalidating.invalidate_law, Joining.join_law, Lawful.IsLawful}
use Rattle.krs_model.proofs.Asks.{Leaving.leaving_laws, Linked.linked_laws, Moving.move_law, Reading.reading_laws}
use Rattle.krs_model.proofs.Asks.{Requesting.request_law, Searching.search_law, Watching.watching_laws}

ruleset laws = (
  entering_laws,
  get_id_law,
  join_law,
  search_law,
  request_law,
  add_law,
  changing_laws,
  invalidate_law,
  linked_laws,
  move_law,
  reading_laws,
  watching_laws,
  leaving_laws,
)

-- what is proved of any ask
pub law_of : (s : State) (client context : ℕ) (op : Op) → IsLawful s client context op
law_of s client context (Hello caller) = hello_law s client context caller
law_of s client context op = search laws
