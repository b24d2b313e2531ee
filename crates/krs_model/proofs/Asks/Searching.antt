-- What is proved of SEARCH.
use Rattle.std.proofs.{Common.{◌≡◌, arith, List, Ok, true, ℕ, ℤ}, lemmas.Bool.Decides.nat_tests}
use Rattle.krs_types.specs.declared.{ask.{Answer.Answer, Op.TheVariants.Search}, context.Context.Context}
use Rattle.krs_types.specs.{declared.name.Name.Name, Growth.has_destination}
use Rattle.krs_model.specs.{Asks.Finding.{search_from, sought_into}, Search.found, State.{Key, State}}
use Rattle.krs_model.proofs.Asks.{Fares.fares, Later.{bind_ok, within_ok}, Lawful.IsLawful}
use Rattle.krs_model.proofs.Asks.{NotedKeys.{found_into_there, IsThere, wanted_small}, Plain.{IsPlain, plain_fault}}
use Rattle.krs_model.proofs.{Asks.Plain.{plain_there, plains}, Hiding.{Accepted.blind_done, Links.made_blind}}
use Rattle.krs_model.proofs.Hiding.{Lookups.same_possessed, Searches.same_found, Seen.{is_seen, steps}}

sought_into_there :
    (s new : State) (c : Context) (head : ℕ × Key) (name : Name) (dest : ℤ) (answer : Answer)
    → sought_into s c head name dest ≡ Ok (new, answer) → IsThere new answer
sought_into_there s new c head name dest answer h = grind (arith, nat_tests, bind_ok, found_into_there)

-- where a destination is wanted
search_there :
    (s new : State) (client context : ℕ) (head : ℤ) (type_name desc : List ℕ) (dest : ℤ) (answer : Answer)
    → has_destination dest ≡ true → search_from s client context head type_name desc dest ≡ Ok (new, answer)
    → IsThere new answer
unfolding search_from
search_there s new client context head type_name desc dest answer wanted h =
    grind (arith, nat_tests, bind_ok, within_ok, sought_into_there)

plain_found : (s : State) (c : Context) (head : ℕ) (name : Name) → IsPlain (found s c head name)
unfolding found
plain_found s c head name = search (plain_there, plain_fault)

pub search_law :
    (s : State) (client context : ℕ) (head : ℤ) (type_name desc : List ℕ) (dest : ℤ)
    → IsLawful s client context (Search head type_name desc dest)
unfolding search_from
search_law s client context head type_name desc dest = record {
  small = search (wanted_small, search_there) depth 8;
  plain = search (plains, plain_found) depth 12;
  blind = λ hide hides.
      is_seen (blind_done hide) (simp (made_blind, same_found, same_possessed) (search steps depth 16));
  fares = search fares depth 16;
}
