-- What is proved of REQUEST.
use Rattle.std.proofs.{Common.{◌≡◌, arith, List, Ok, true, ℕ, ℤ}, lemmas.Bool.Decides.nat_tests}
use Rattle.krs_types.specs.declared.{ask.{Answer.Answer, Op.TheVariants.Request}, context.Context.Context}
use Rattle.krs_types.specs.{declared.name.Name.Name, Growth.has_destination}
use Rattle.krs_model.specs.{Asks.Finding.{request, requested_into}, Search.requested, State.State}
use Rattle.krs_model.proofs.Asks.{Fares.fares, Later.{bind_ok, within_ok}, Lawful.IsLawful}
use Rattle.krs_model.proofs.Asks.{NotedKeys.{found_into_there, IsThere, wanted_small}, Plain.{IsPlain, plain_fault}}
use Rattle.krs_model.proofs.{Asks.Plain.{plain_there, plains}, Hiding.{Accepted.blind_done, Links.made_blind}}
use Rattle.krs_model.proofs.Hiding.{Lookups.same_possessed, Searches.same_requested, Seen.{is_seen, steps}}

requested_into_there :
    (s new : State) (c : Context) (name : Name) (dest : ℤ) (answer : Answer)
    → requested_into s c name dest ≡ Ok (new, answer) → IsThere new answer
requested_into_there s new c name dest answer h = grind (arith, nat_tests, bind_ok, found_into_there)

request_there :
    (s new : State) (client context : ℕ) (type_name desc : List ℕ) (dest : ℤ) (answer : Answer)
    → has_destination dest ≡ true → request s client context type_name desc dest ≡ Ok (new, answer) → IsThere new answer
unfolding request
request_there s new client context type_name desc dest answer wanted h =
    grind (arith, nat_tests, bind_ok, within_ok, requested_into_there)

plain_requested : (s : State) (c : Context) (name : Name) → IsPlain (requested s c name)
unfolding requested
plain_requested s c name = search (plain_there, plain_fault)

pub request_law :
    (s : State) (client context : ℕ) (type_name desc : List ℕ) (dest : ℤ)
    → IsLawful s client context (Request type_name desc dest)
unfolding request
request_law s client context type_name desc dest = record {
  small = search (wanted_small, request_there) depth 8;
  plain = search (plains, plain_requested) depth 12;
  blind = λ hide hides.
      is_seen (blind_done hide) (simp (made_blind, same_requested, same_possessed) (search steps depth 16));
  fares = search fares depth 16;
}
