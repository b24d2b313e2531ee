-- What each step on the table tells the token that makes it. The form is this project's own.
use Rattle.std.specs.Prelude.{[], ◌&&◌, ◌++◌, ◌==◌, ◌∷◌, ◌≡◌, ◌≢◌, false, List, None, Result, Some, true, ℕ}
use Rattle.atomic_table.specs.Table.{Me, rest, Step}
use Rattle.krs_types.specs.declared.{ask.{Answer.Answer, Ask.Ask}, errno.Errno.Errno, event.Event.Event}
use Rattle.krs_model.specs.{History.{event_of, IsLegal}, Lists.Begins, State.State}
use Rattle.krs_store.specs.Told.{reply_of}
use Rattle.krs_world.specs.{History.StandsAfter, Knowing.{answered, collected, events_of, flight, grabbed, kept}}
use Rattle.krs_world.specs.Knowing.{loaded, looked_at, missed, posted, put_none, put_own, service, taken, view}
use Rattle.krs_world.specs.declared.view.{Part.Part, Standing.TheVariants.Two}
use Rattle.krs_desk.specs.Parts.{cell_of, part_of, sat, second_of, sight, spent}
use Rattle.krs_desk.specs.declared.served_call.ServedCall.{ServedCall}
use Rattle.krs_desk.specs.declared.slot.SlotValue.{SlotValue, TheVariants.{Asked, Empty, Home, Replied}}
use Rattle.krs_desk.specs.declared.{token.Sight.Sight, word.TheConstants.{ANSWERED, FREE, POSTED}}

-- the event of a served call
abbrev pub event_in : ServedCall → Event
event_in call = event_of call.lane call.moment call.ask.value (reply_of call.told.value)

-- what a token knows, and the slots that it has
abbrev pub Known : Type 0
Known = Me SlotValue Sight

-- the lane that a token stands for
abbrev pub part : Known → Part
part m = part_of m.0.view.stands

-- the state of the store at the opening
abbrev pub opening : Known → State
opening m = m.0.view.opening

-- the list that was found is legal, begins with what the lane had seen, and has its calls
pub record Found (opening : State) (p : Part) (log : List Event) (last : State) : Type 0 where
  pub legal : IsLegal opening log last
  pub seen : Begins p.seen log
  pub mine : p.flight ≡ None → events_of p.lane log ≡ p.mine

-- where the turn was free, the history and the store at its end; else nothing but that it was out
abbrev pub takes_told : Step SlotValue → Known → ℕ → Known → Type 0
takes_told step m found n =
    (found ≡ FREE → (log : List Event) × (last : State)
    × (n ≡ (sat (opening m) (taken (part m) log), (0, Home last) ∷ m.1)) × Found (opening m) (part m) log last)
    × (found ≢ FREE → n ≡ (sat (opening m) (missed (part m)), m.1))

-- the list that was held has this event more; it had the lane's calls
abbrev pub puts_told : List Event → Step SlotValue → Known → ℕ → Known → Type 0
puts_told events step m found n =
    (log : List Event) (event : Event) → (part m).holding ≡ Some log → events ≡ event ∷ []
    → (n ≡ (sat (opening m) (put_own (part m) log event), rest m.1)) × (events_of (part m).lane log ≡ (part m).mine)

-- the list that is held has this event more, and is seen; it had the lane's calls
abbrev pub keeps_told : List Event → Step SlotValue → Known → ℕ → Known → Type 0
keeps_told events step m found n =
    (log : List Event) (event : Event) → (part m).holding ≡ Some log → events ≡ event ∷ []
    → (n ≡ (sat (opening m) (kept (part m) log event), m.1)) × (events_of (part m).lane log ≡ (part m).mine)

-- the list that was held is seen; it had the lane's calls, where none is in flight
abbrev pub brings_told : Step SlotValue → Known → ℕ → Known → Type 0
brings_told step m found n =
    (log : List Event) → (part m).holding ≡ Some log
    → (n ≡ (sat (opening m) (put_none (part m) log), rest m.1))
    × ((part m).flight ≡ None → events_of (part m).lane log ≡ (part m).mine)

-- the call in the lane's slot is in flight
abbrev pub posts_told : Step SlotValue → Known → ℕ → Known → Type 0
posts_told step m found n =
    (moment : ℕ) (ask : Ask) → m.1 ≡ (step.word, Asked moment ask) ∷ []
    → n ≡ (sat (opening m) (posted (part m) moment ask), [])

-- The event of a lane's call that was in flight stands in the list, after all that the lane had seen as it posted it.
-- The list is legal, begins with what the lane had seen, and has its calls and this one more.
pub record Gathers (opening : State) (p : Part) (e : Event) (log : List Event) : Type 0 where
  pub last : State
  pub legal : IsLegal opening log last
  pub seen : Begins p.seen log
  pub before : List Event
  pub posted : p.flight ≡ Some (flight e.moment e.ask before)
  pub mine : events_of p.lane log ≡ p.mine ++ e ∷ []
  pub after : StandsAfter before e log

-- where the cell was answered, its reply, and the history; else nothing, and the holder hasn't seen it answered
abbrev pub collects_told : Step SlotValue → Known → ℕ → Known → Type 0
collects_told step m found n =
    (found ≡ ANSWERED → (log : List Event) × (moment : ℕ) × (ask : Ask) × (reply : Result Answer Errno)
    × (n ≡ (
      sat (opening m) (collected (part m) log (event_of (part m).lane moment ask reply)),
      (step.word, Replied reply) ∷ m.1,
    ))
    × Gathers (opening m) (part m) (event_of (part m).lane moment ask reply) log)
    × (found ≢ ANSWERED → (n ≡ m) × ((part m).done ≢ true))

-- The holder looks at a lane's cell. Where no call is posted there, it was looked at; the holder's own, with a call in
-- flight, is answered then.
abbrev pub glances_told : Step SlotValue → Known → ℕ → Known → Type 0
glances_told step m found n =
    (lane : ℕ) → step.word ≡ cell_of lane
    → (found ≡ POSTED → n ≡ m)
    × (found ≢ POSTED
    → (n ≡ (sat (opening m) (looked_at (part m) lane ((found == ANSWERED) && (lane == (part m).lane))), m.1))
    × (lane ≡ (part m).lane → (part m).flight ≢ None → found ≡ ANSWERED))

-- the holder takes up the call that is posted in a lane's cell; where none is, it was looked at
abbrev pub grabs_told : Step SlotValue → Known → ℕ → Known → Type 0
grabs_told step m found n =
    (lane : ℕ) → step.word ≡ cell_of lane
    → (found ≡ POSTED → (moment : ℕ) × (ask : Ask)
    × (n ≡ (sat (opening m) (grabbed (part m) lane moment ask), (step.word, Asked moment ask) ∷ m.1)))
    × (found ≢ POSTED
    → (n ≡ (sat (opening m) (looked_at (part m) lane ((found == ANSWERED) && (lane == (part m).lane))), m.1))
    × (lane ≡ (part m).lane → (part m).flight ≢ None → found ≡ ANSWERED))

-- the list that is held has the event of the call that was served
abbrev pub answers_told : Step SlotValue → Known → ℕ → Known → Type 0
answers_told step m found n =
    (log : List Event) (lane moment : ℕ) (ask : Ask) (reply : Result Answer Errno) → (part m).holding ≡ Some log
    → (part m).serving ≡ Some (service lane moment ask) → m.1 ≡ (step.word, Replied reply) ∷ rest m.1
    → n ≡ (sat (opening m) (answered (part m) log (event_of lane moment ask reply)), rest m.1)

-- both lanes see one legal list, which begins with what each had seen
abbrev pub looks_told : Step SlotValue → Known → ℕ → Known → Type 0
looks_told step m found n =
    (log : List Event) × (last : State)
    × (n ≡ (sight (view (opening m) (Two (loaded (part m) log) (loaded (second_of m.0.view.stands) log))) false, m.1))
    × Found (opening m) (part m) log last × Found (opening m) (second_of m.0.view.stands) log last

-- the slot of a lane that was just dealt
abbrev pub picks_told : Step SlotValue → Known → ℕ → Known → Type 0
picks_told step m found n = n ≡ (sight m.0.view false, (step.word, Empty) ∷ m.1)

-- the state of the store at the opening is this one
abbrev pub checks_told : State → Step SlotValue → Known → ℕ → Known → Type 0
checks_told key step m found n = (n ≡ m) × (opening m ≡ key)

abbrev pub opens_told : Step SlotValue → Known → ℕ → Known → Type 0
opens_told step m found n = n ≡ (spent (opening m), m.1)
