-- The keys that the notes of an accepted ask name are there.
use Rattle.std.proofs.Common.{◌<◌, ◌^◌, ◌∙◌, ◌≡◌, ◌≤◌, ◌⊎◌, arith, Bool, cond, Err, false, inl, inr, is_some}
use Rattle.std.proofs.{Common.{IsSome, List, nat_lt, Ok, refl, Result, subst, sym, true, ℕ, ℤ}, lemmas.Bool.cases_lt}
use Rattle.std.proofs.lemmas.Bool.Decides.{nat_tests}
use Rattle.krs_types.specs.declared.ask.Answer.{Answer, TheVariants.{Bytes, Nothing, Number}}
use Rattle.krs_types.specs.declared.{context.Context.Context, errno.Errno.{Errno, TheVariants.ENOSPC}, name.Name.Name}
use Rattle.krs_types.specs.declared.note.KeyEvent.{KeyEvent}
use Rattle.krs_model.specs.Asks.Adding.{add, added_serial, admitted, Made, Place, place_of, Updated}
use Rattle.krs_model.specs.{Asks.Finding.found_into, Lookup.context_of, Making.made_for, Notes.Telling.about}
use Rattle.krs_model.specs.{Notes.Telling.{about_found, about_link, named}, Outcome.Outcome, Search.found}
use Rattle.krs_model.specs.{Sound.AllPlaced, State.{Key, State}, Table.{at, IsBelow}}
use Rattle.krs_model.proofs.Asks.{Later.{bind_ok, same_ok}, LaterByAsk.{linked_into_is, made_for_comes}}
use Rattle.krs_model.proofs.{Asks.NewSerials.{place_is, small_there}, Lookups.Serials.{own_there, refused_is}}
use Rattle.krs_model.proofs.MadeKeyring.{Links.place_of_new, State.{HasMadeFor, made_for_has, MadeNone, MadeOne}}
use Rattle.krs_model.proofs.{Notes.Fitting.AllSmall, Sound.{Changes.there_alter, NewContexts.own_process_there}}
use Rattle.std.proofs.lemmas.Grind.{common_steps}

pub about_small : (event : KeyEvent) (key : Result ℕ Errno) → AllSmall (about event key)
about_small event (Err e) = tt
about_small event (Ok key) = (omega arith, tt)

pub about_link_small :
    (event : KeyEvent) (ring key : Result ℕ Errno) → ((k : ℕ) → key ≡ Ok k → k < 2 ^ 32)
    → AllSmall (about_link event ring key)
about_link_small event (Err e) key small = tt
about_link_small event (Ok ring) (Err e) small = tt
about_link_small event (Ok ring) (Ok key) small = (small key refl, tt)

-- an answer is the serial of a key that is there
abbrev pub IsThere : State → Answer → Type 0
IsThere s answer = (n : ℕ) → answer ≡ Number n → IsSome (at s.keys n)

abbrev told : ℕ → Answer
told n = Number n

abbrev told_by : State → ℕ → Outcome
told_by s n = Ok (s, Number n)

same_key : (a b : ℕ) → told a ≡ told b → a ≡ b
same_key a b h = cc

-- an added key was there, or comes under a serial that was not given yet
abbrev pub IsAdded : State → ℕ → Type 0
IsAdded s n = IsSome (at s.keys n) ⊎ (s.next_serial ≤ n)

-- an updated key was there
updated_there :
    (s : State) (c : Context) (name : Name) (id : ℤ) (k : ℕ) (made : State × Context) → HasMadeFor s c id made
    → place_of made.0 made.1 name id ≡ Ok (Updated k) → IsSome (at s.keys k)
updated_there s c name id k _ MadeNone h = place_is s c name id (Updated k) h
updated_there s c name id k _ (MadeOne t d desc before after made named) h =
    let no : cond (nat_lt 2147483647 t.next_serial) (Err ENOSPC) (Ok (Made s.next_serial)) ≡ Ok (Updated k) =
    sym (place_of_new s t c d desc before after name id made named) ∙ h in
    grind (arith, nat_tests)

added_is :
    (s : State) (c : Context) (name : Name) (id : ℤ) (place : Place) (made : State × Context) → HasMadeFor s c id made
    → s.next_serial ≤ made.0.next_serial → place_of made.0 made.1 name id ≡ Ok place
    → IsAdded s (added_serial made.0 place)
added_is s c name id (Updated k) made has le h = inl (updated_there s c name id k made has h)
added_is s c name id (Made ring) made has le h = inr le

same_answer : (s t : State) (j k : ℕ) → told_by s j ≡ told_by t k → j ≡ k
same_answer s t j k h = grind (arith, common_steps, same_key, same_ok)

-- the key that ADD answers
pub add_serial :
    (s new : State) (client context : ℕ) (type_name desc payload : List ℕ) (ring : ℤ) (n : ℕ) → AllPlaced s
    → add s client context type_name desc payload ring ≡ Ok (new, Number n) → IsAdded s n
unfolding add
add_serial s new client context type_name desc payload ring n placed h =
    let a = bind_ok (context_of s client context) _ (new, Number n) h in
    let b = bind_ok (admitted type_name desc payload) _ (new, Number n) a.2 in
    let made = made_for s context a.0 ring in
    let d = bind_ok (place_of made.0 made.1 b.0 ring) _ (new, Number n) b.2 in
    let process = own_process_there s context a.0 (own_there s client context a.0 a.1) placed in
    let rises = (made_for_comes s context a.0 ring).follows.next in
    let is = added_is s a.0 b.0 ring d.0 made (made_for_has s context a.0 ring process) rises d.1 in
    subst (IsAdded s) (same_answer _ new (added_serial made.0 d.0) n d.2) is

-- it was there where its serial had been given
pub added_before :
    (s : State) (n : ℕ) → IsBelow s.keys s.next_serial → IsAdded s n → is_some (at s.keys n) ≡ nat_lt n s.next_serial
added_before s n below is = grind (arith, nat_tests, cases_lt)

-- where the answer ends an ask
pub there_ends :
    (mid new : State) (n : ℕ) (answer : Answer) → IsSome (at mid.keys n) → told_by mid n ≡ Ok (new, answer)
    → IsThere new answer
there_ends mid new n answer there h = grind (arith, nat_tests, same_ok, same_key)

pub found_into_there :
    (s new : State) (c : Context) (into : ℕ × Key) (found : Result ℕ Errno) (answer : Answer)
    → found_into s c into found ≡ Ok (new, answer) → IsThere new answer
found_into_there s new c into found answer h =
    grind (arith, nat_tests, bind_ok, refused_is, linked_into_is, there_alter, there_ends)

found_small :
    (mid : State) (ring : Result ℕ Errno) (answer : Answer) → IsBelow mid.keys 2147483648 → IsThere mid answer
    → AllSmall (about_found true ring answer)
found_small mid ring Nothing few there = tt
found_small mid ring (Bytes bytes) few there = tt
found_small mid ring (Number serial) few there = search (about_link_small, same_ok, small_there) depth 8

-- where a destination is wanted, or not
pub wanted_small :
    (mid : State) (wanted : Bool) (ring : Result ℕ Errno) (answer : Answer) → IsBelow mid.keys 2147483648
    → (wanted ≡ true → IsThere mid answer) → AllSmall (about_found wanted ring answer)
wanted_small mid true ring answer few there = found_small mid ring answer few (there refl)
wanted_small mid false ring answer few there = tt
