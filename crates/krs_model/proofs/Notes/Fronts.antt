-- READ_QUEUE takes the longest front that fits its room.
use Rattle.std.proofs.Common.{[], ◌++◌, ◌+◌, ◌-◌, ◌∙◌, ◌∷◌, ◌≡◌, ◌≢◌, ◌≤◌, ap, arith, cond, false, leb, leb-false}
use Rattle.std.proofs.Common.{leb-true, length, length-append, List, Ok, option_map, refl, Some, sym, true, ℕ}
use Rattle.std.proofs.lemmas.Bool.Decides.{nat_tests}
use Rattle.krs_types.specs.declared.{ask.Answer.{Answer, TheVariants.Bytes}, note.Record.Record}
use Rattle.krs_model.specs.{Asks.Watching.{after_read, read_out, read_queue}, Laws.ReadsFront, Notes.Bytes.bytes_of}
use Rattle.krs_model.specs.Notes.{Bytes.bytes_of_all, Front.{behind, front, IsLongestFront, readable}}
use Rattle.krs_model.specs.{Queues.{queue_of, Queues, queues_of, with_queues}, State.State, Table.{alter, at}}
use Rattle.krs_model.proofs.Asks.{Effects.{queue_there, readable_is}, Later.{bind_ok, same_ok}}
use Rattle.krs_model.proofs.Tables.Changes.{at_alter_other, at_alter_same, at_or_apart}
use Rattle.std.proofs.lemmas.Grind.{common_steps}

-- a front fits its room
pub front_size : (room : ℕ) (rs : List Record) → length (bytes_of_all (front room rs)) ≤ room
front_size room [] = omega arith
front_size room (r ∷ rs) =
    let left = room - length (bytes_of r) in
    elim (leb (length (bytes_of r)) room) as (λ b. leb (length (bytes_of r)) room ≡ b
    → length (bytes_of_all (cond b (r ∷ front left rs) [])) ≤ room) [
      | true ↦ λ t.
          let more = front_size left rs in
          omega (arith, leb-true _ _ t, length-append (bytes_of r) (bytes_of_all (front left rs)))
      | false ↦ λ t. omega arith
    ] refl

whole : (room : ℕ) (notes : List Record) → notes ≡ front room notes ++ behind room notes
whole room [] = refl
whole room (n ∷ ns) =
    let left = room - length (bytes_of n) in
    elim (leb (length (bytes_of n)) room) as
    (λ b. n ∷ ns ≡ cond b (n ∷ front left ns) [] ++ cond b (behind left ns) (n ∷ ns)) [
      | true ↦ ap (λ (rs : List Record). n ∷ rs) (whole left ns)
      | false ↦ refl
    ]

longest :
    (room : ℕ) (notes some others : List Record) → notes ≡ some ++ others → length (bytes_of_all some) ≤ room
    → length some ≤ length (front room notes)
longest room notes [] others e h = omega arith
longest room [] (x ∷ some) others e h = absurd cc
longest room (n ∷ ns) (x ∷ some) others e h =
    let left = room - length (bytes_of n) in
    let head : n ≡ x = cc in
    let tail : ns ≡ some ++ others = cc in
    let size : length (bytes_of x) + length (bytes_of_all some) ≤ room =
    omega (arith, length-append (bytes_of x) (bytes_of_all some)) in
    let same : length (bytes_of n) ≡ length (bytes_of x) = ap (λ (r : Record). length (bytes_of r)) head in
    let more = longest left ns some others tail (omega arith) in
    elim (leb (length (bytes_of n)) room) as (λ b. leb (length (bytes_of n)) room ≡ b
    → length (x ∷ some) ≤ length (cond b (n ∷ front left ns) [])) [
      | true ↦ λ t. omega arith
      | false ↦ λ t. absurd (omega (arith, leb-false _ _ t))
    ] refl

-- no longer front fits
pub longest_front :
    (room : ℕ) (notes : List Record) → IsLongestFront room notes (front room notes) (behind room notes)
longest_front room notes = grind (arith, common_steps, whole, front_size, longest)

not_empty : (note : Record) (notes : List Record) → (note ∷ notes) ≢ []
not_empty note notes = λ e. absurd cc

-- what is read is some record
some_read : (room : ℕ) (waiting notes : List Record) → readable room waiting ≡ Ok notes → front room waiting ≢ []
some_read room [] notes h = cc
some_read room (note ∷ waiting) notes h = grind (arith, nat_tests, not_empty)

pub read_front :
    (s new : State) (client number room : ℕ) (answer : Answer) → read_queue s client number room ≡ Ok (new, answer)
    → ReadsFront s client number room new answer
unfolding read_queue read_out
read_front s new client number room answer h =
    let a = bind_ok (read_out (queues_of s) client number room) _ (new, answer) h in
    let b = bind_ok (queue_of s.queues client number) _ a.0 a.1 in
    let c = bind_ok (readable room b.0.waiting) _ a.0 b.2 in
    let queues = alter s.queues number (after_read room) in
    let after : State = record s { queues = queues } in
    let taken = front room b.0.waiting in
    let all : taken ≡ c.0 = readable_is room b.0.waiting c.0 c.1 in
    let pair : List Record → Queues × List ℕ = λ notes.
    (record (queues_of s) { queues = queues }, bytes_of_all notes) in
    let end : Queues × List ℕ → State × Answer = λ x. (with_queues s x.0, Bytes x.1) in
    let got : pair taken ≡ a.0 = ap pair all ∙ same_ok _ (pair c.0) a.0 refl c.2 in
    let both : end (pair taken) ≡ (new, answer) = ap end got ∙ same_ok _ (end a.0) (new, answer) refl a.2 in
    let state : after ≡ new = ap (λ (x : State × Answer). x.0) both in
    let there = queue_there s.queues client number b.0 b.1 in
    let here : at queues number ≡ Some (after_read room b.0) =
    at_alter_same s.queues number (after_read room) ∙ ap (option_map (after_read room)) there in
    record {
      queue = b.0;
      own = b.1;
      taken = taken;
      left = behind room b.0.waiting;
      longest = longest_front room b.0.waiting;
      some = some_read room b.0.waiting c.0 c.1;
      gave = sym (ap (λ (x : State × Answer). x.1) both);
      leaves = ap (λ (t : State). at t.queues number) (sym state) ∙ here;
      others = grind (arith, nat_tests, at_alter_other, at_or_apart);
      rest = sym state ∙ ap (λ (t : State). record s { queues = t.queues }) state;
    }
