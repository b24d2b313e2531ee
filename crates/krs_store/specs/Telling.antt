-- What the store tells of an ask that it accepts: known before the ask is served, but for its answer.
use Rattle.std.specs.Prelude.{[], ◌++◌, ◌≡◌, if◌then◌else◌, List, nat_lt, None, Ok, Option, option_to_list, Result}
use Rattle.std.specs.Prelude.{Some, ℕ}
use Rattle.krs_types.specs.declared.ask.{Answer.{Answer, TheVariants.{Bytes, Nothing, Number}}, Op.Op}
use Rattle.krs_types.specs.declared.ask.Op.TheVariants.{Watch}
use Rattle.krs_types.specs.declared.{fault.Fault.Fault, note.KeyEvent.TheVariants.{Linked, Updated}}
use Rattle.krs_model.specs.Notes.Posting.{Note, Post, posts_of}
use Rattle.krs_model.specs.{Notes.Telling.notes_of, Outcome.Leads, Queues.Queues, State.State, Step.outcome_of}
use Rattle.krs_tables.specs.Serving.{LeadsTold}
use Rattle.krs_store.specs.declared.telling.KeyNote.{KeyNote}
use Rattle.krs_store.specs.declared.telling.Telling.{Telling, TheVariants.{OfAdded, OfFound, OfKey, OfLink, Quiet}}
use Rattle.krs_store.specs.declared.telling.Tellings.{Tellings}

-- the note of the definitions
abbrev pub meant_note : KeyNote → Note
meant_note note = record { event = note.event; key = note.key; aux = note.aux }

-- the number that an ask is answered with
abbrev pub number_of : Answer → Option ℕ
number_of Nothing = None
number_of (Number n) = Some n
number_of (Bytes bytes) = None

abbrev pub updated_note : ℕ → Note
updated_note key = record { event = Updated; key = key; aux = 0 }

-- a keyring links a key
abbrev pub linked_note : ℕ → ℕ → Note
linked_note ring key = record { event = Linked; key = ring; aux = key }

-- a keyring links what was found
abbrev pub found_note : ℕ → Option ℕ → Option Note
found_note ring None = None
found_note ring (Some key) = Some (linked_note ring key)

-- a keyring links a new key, where it was there
abbrev pub new_note : Option ℕ → ℕ → Option Note
new_note None key = None
new_note (Some ring) key = Some (linked_note ring key)

-- an added key is updated where its serial was given before, else it is new
abbrev pub added_note : Option ℕ → ℕ → Option ℕ → Option Note
added_note ring next None = None
added_note ring next (Some key) = if nat_lt key next then Some (updated_note key) else new_note ring key

-- the note that this tells with an answer, if any
abbrev pub told_of : Telling → Answer → Option Note
told_of Quiet answer = None
told_of (OfKey event key) answer = Some (record { event = event; key = key; aux = 0 })
told_of (OfLink event ring key) answer = Some (record { event = event; key = ring; aux = key })
told_of (OfFound ring) answer = found_note ring (number_of answer)
told_of (OfAdded ring next) answer = added_note ring next (number_of answer)

-- this alone
abbrev pub only : Telling → Tellings
only telling = record { first = telling; second = Quiet }

-- the notes that these tell with an answer, in order
abbrev pub told_by : Tellings → Answer → List Note
told_by tellings answer =
    option_to_list (told_of tellings.first answer) ++ option_to_list (told_of tellings.second answer)

-- with each answer they tell these notes
abbrev pub Says : Tellings → (Answer → List Note) → Type 0
Says tellings notes = (answer : Answer) → told_by tellings answer ≡ notes answer

-- they tell what the ask tells of, where that is accepted
abbrev pub Foretells : Tellings → State → ℕ → ℕ → Op → Type 0
Foretells tellings s client context op =
    (mid : State) (answer : Answer) → outcome_of s client context op ≡ Ok (mid, answer)
    → told_by tellings answer ≡ notes_of s client context op answer

-- what is posted of a note, where there is one
abbrev pub posts_told : Queues → Option Note → List Post
posts_told q None = []
posts_told q (Some note) = posts_of q note

-- What an ask comes to before its notes are posted. WATCH tells no note, and posts the removal record of the watch that
-- it ends.
abbrev pub Runs : State → ℕ → ℕ → Op → Result Answer Fault → State → Type 0
Runs s client context (Watch id queue watch) result new = LeadsTold s client context (Watch id queue watch) result new
Runs s client context op result new = Leads s result new (outcome_of s client context op)
