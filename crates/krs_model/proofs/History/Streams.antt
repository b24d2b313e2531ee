-- What a queue gives to its reader over a history is its stream.
use Rattle.std.proofs.Common.{[], ⊎_elim, ◌++◌, ◌<◌, ◌∙◌, ◌≡◌, ◌≤◌, append_assoc, arith, leb-true, List, map, nat_le}
use Rattle.std.proofs.{Common.{None, refl, Some, subst, sym, true, ℕ}, lemmas.Bool.{cases_lt, Decides.nat_tests}}
use Rattle.std.proofs.lemmas.Option.{none-some, same_Some}
use Rattle.krs_types.specs.declared.{event.Event.Event, note.Record.Record}
use Rattle.krs_types.proofs.Names.{and_left}
use Rattle.krs_model.specs.{Asks.Watching.new_queue, Lists.Begins, Notes.Stream.{Move, Posted, stream, taken, Took}}
use Rattle.krs_model.specs.{Notes.Waiting.{greatest_capacity, is_capacity, MovesTo}, Receiving.called_for}
use Rattle.krs_model.specs.Receiving.{FurtherMoves, GivesStreams, HasMoves, IsOpened, IsOpening, NoMoves}
use Rattle.krs_model.specs.{Sound.IsSound, State.{Queue, State}, Table.at}
use Rattle.krs_model.proofs.Notes.{QueueNumbers.{step_gone, step_next, step_opened}, Streams.gives_its_stream}
use Rattle.krs_model.proofs.{Notes.Taken.{moves_append, Stays, step_after, step_nothing}, Sound.Steps.step_sound}
use Rattle.std.proofs.lemmas.Grind.{common_steps}

-- nothing was called for and nothing taken
no_moves :
    (rs took : List Record) (moves : List Move) → rs ≡ [] → took ≡ []
    → map Posted rs ++ (map Took took ++ moves) ≡ moves
no_moves rs took moves none nothing = rw (none, nothing) refl

given_before : (s : State) (q : ℕ) (queue : Queue) → IsSound s → at s.queues q ≡ Some queue → q < s.next_queue
given_before s q queue sound there = grind (arith, nat_tests, none-some, cases_lt)

-- a queue that was closed
closed_moves :
    (q : ℕ) (s : State) (events : List Event) (moves : List Move) (end : State) → HasMoves q s events moves end
    → IsSound s
    → q < s.next_queue → at s.queues q ≡ None → (moves ≡ []) × (at end.queues q ≡ None)
closed_moves q _ _ _ _ (NoMoves s) sound lt none = (refl, none)
closed_moves q _ _ _ _ (FurtherMoves s next end event events took moves step takes rest) sound lt none =
    grind (
      arith,
      nat_tests,
      step_nothing,
      step_next,
      step_sound,
      step_gone,
      no_moves,
      closed_moves q next events
          moves end rest (step_sound s next event sound step),
    )

-- from a queue on: these moves lead to what waits in it, where it is still there
record MovesReach (old : Queue) (moves : List Move) (q : ℕ) (end : State) : Type 0 where
  after : List Record
  moves_to : MovesTo old.capacity old.waiting moves after
  waits : (queue : Queue) → at end.queues q ≡ Some queue → queue.waiting ≡ after

still_leads :
    (q : ℕ) (queue now : Queue) (end : State) (rs took : List Record) (moves : List Move)
    → Stays queue (map Posted rs ++ map Took took) now → MovesReach now moves q end
    → MovesReach queue (map Posted rs ++ (map Took took ++ moves)) q end
still_leads q queue now end rs took moves stays leads = grind (arith, common_steps, append_assoc, moves_append)

gone_leads :
    (q : ℕ) (queue : Queue) (end : State) (all : List Move) → all ≡ [] → at end.queues q ≡ None
    → MovesReach queue all q end
gone_leads q queue end all none gone = record {
  after = queue.waiting;
  moves_to = subst (λ (ms : List Move). MovesTo queue.capacity queue.waiting ms queue.waiting) (sym none) refl;
  waits = λ other there. absurd (none-some other (sym gone ∙ there));
}

open_moves :
    (q : ℕ) (s : State) (events : List Event) (moves : List Move) (end : State) (queue : Queue)
    → HasMoves q s events moves end → IsSound s → at s.queues q ≡ Some queue → MovesReach queue moves q end
open_moves q _ _ _ _ queue (NoMoves s) sound there = grind (arith, nat_tests, same_Some)
open_moves q _ _ _ _ queue (FurtherMoves s next end event events took moves step takes rest) sound there =
    let rs = called_for q s event next in
    let further = step_sound s next event sound step in
    let lt = given_before s q queue sound there in
    let more : s.next_queue ≤ next.next_queue = step_next s next event step in
    ⊎_elim (λ (gone : (at next.queues q ≡ None) × (rs ≡ []) × (took ≡ [])).
    let later = closed_moves q next events moves end rest further (omega arith) gone.0 in
    gone_leads q queue end (map Posted rs ++ (map Took took ++ moves)) (no_moves rs took moves gone.1 gone.2 ∙ later.0)
    later.1)
    (λ (now : (n : Queue) × (at next.queues q ≡ Some n) × Stays queue (map Posted rs ++ map Took took) n).
    still_leads q queue now.0 end rs took moves now.2 (open_moves q next events moves end now.0 rest further now.1))
    (step_after s next event q queue took sound step takes there)

-- a queue that is opened later has no number yet
opened_later :
    (q capacity : ℕ) (s : State) (events : List Event) (moves : List Move) (end : State)
    → HasMoves q s events moves end → IsSound s → IsOpened q capacity events → s.next_queue ≤ q
opened_later q capacity _ _ _ _ (NoMoves s) sound opened = absurd opened
opened_later q capacity _ _ _ _ (FurtherMoves s next end event events took moves step takes rest) sound opened =
    let more : s.next_queue ≤ next.next_queue = step_next s next event step in
    ⊎_elim (λ (opening : IsOpening q capacity event).
    let is : q ≡ s.next_queue = (step_opened s next event q capacity sound step opening).0 in
    omega arith)
    (λ (later : IsOpened q capacity events).
    let above : next.next_queue ≤ q = opened_later q capacity next events moves end rest
    (step_sound s next event sound step) later in
    omega arith) opened

-- from where it is opened on
record BegunBy (capacity : ℕ) (moves : List Move) (q : ℕ) (end : State) : Type 0 where
  some : 1 ≤ capacity
  leads : MovesReach (new_queue 0 capacity) moves q end

some_capacity : (capacity : ℕ) → is_capacity capacity ≡ true → 1 ≤ capacity
some_capacity capacity h = leb-true 1 capacity (and_left (nat_le 1 capacity) (nat_le capacity greatest_capacity) h)

same_leads :
    (client capacity q : ℕ) (moves : List Move) (end : State) → MovesReach (new_queue client capacity) moves q end
    → MovesReach (new_queue 0 capacity) moves q end
same_leads client capacity q moves end leads = grind (arith, common_steps)

opened_moves :
    (q capacity : ℕ) (s : State) (events : List Event) (moves : List Move) (end : State)
    → HasMoves q s events moves end → IsSound s → IsOpened q capacity events → BegunBy capacity moves q end
opened_moves q capacity _ _ _ _ (NoMoves s) sound opened = absurd opened
opened_moves q capacity _ _ _ _ (FurtherMoves s next end event events took moves step takes rest) sound opened =
    let rs = called_for q s event next in
    let further = step_sound s next event sound step in
    let more : s.next_queue ≤ next.next_queue = step_next s next event step in
    let quiet : s.next_queue ≤ q → map Posted rs ++ (map Took took ++ moves) ≡ moves = λ le.
    let nothing = step_nothing s next event q took sound step takes (sound.orderly.unused q le) in
    no_moves rs took moves nothing.0 nothing.1 in
    ⊎_elim (λ (opening : IsOpening q capacity event).
    let is = step_opened s next event q capacity sound step opening in
    let number : q ≡ s.next_queue = is.0 in
    let queue = new_queue event.lane capacity in
    let good : is_capacity capacity ≡ true = (further.orderly.queues q queue is.1).capacity in
    let leads = same_leads event.lane capacity q moves end
    (open_moves q next events moves end queue rest further is.1) in
    subst (λ (all : List Move). BegunBy capacity all q end) (sym (quiet (omega arith)))
    (record { some = some_capacity capacity good; leads = leads }))
    (λ (later : IsOpened q capacity events).
    let above : next.next_queue ≤ q = opened_later q capacity next events moves end rest further later in
    subst (λ (all : List Move). BegunBy capacity all q end) (sym (quiet (omega arith)))
    (opened_moves q capacity next events moves end rest further later)) opened

-- of a queue that is open, what was taken and what waits is the stream
pub open_streams :
    (start end : State) (events : List Event) (moves : List Move) (q capacity : ℕ) (queue : Queue) → IsSound start
    → HasMoves q start events moves end → IsOpened q capacity events → at end.queues q ≡ Some queue
    → taken moves ++ queue.waiting ≡ stream capacity moves
open_streams start end events moves q capacity queue sound has opened there =
    grind (arith, nat_tests, opened_moves, gives_its_stream)

-- of each queue, what was taken begins the stream
pub begun_streams :
    (start end : State) (events : List Event) (moves : List Move) (q capacity : ℕ) → IsSound start
    → HasMoves q start events moves end → IsOpened q capacity events
    → Begins (taken moves) (stream capacity moves)
begun_streams start end events moves q capacity sound has opened =
    grind (arith, nat_tests, opened_moves, gives_its_stream)

pub gives_streams : (start : State) → IsSound start → GivesStreams start
gives_streams start sound = search (open_streams, begun_streams) depth 8
