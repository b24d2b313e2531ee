-- What a store answers to asks, one after the other, as a function of the definitions. The form is this project's own.
use Rattle.std.specs.Prelude.{[], ◌∷◌, ◌≡◌, ◌≢◌, ◌⊎◌, Err, filter, IsOk, length, List, map, Ok, Result, true, ℕ}
use Rattle.std.specs.{Fmt.digits, Map.keys_of}
use Rattle.krs_types.specs.{Growth.grows, declared.ask.{Answer.Answer, Ask.Ask, Op.Op}}
use Rattle.krs_types.specs.declared.{errno.Errno.{Errno, TheVariants.ENOMEM}, event.Event.Event}
use Rattle.krs_model.specs.Asks.{Adding.{admitted, place_of}, Finding.sought_name, Linked.nestable}
use Rattle.krs_model.specs.Asks.Watching.{closed, filtered, opened, read_out, unwatched, watched}
use Rattle.krs_model.specs.{Levels.{is_in, level, levels}, Lookup.{context_of, look_up, serial_of}, Making.made_for}
use Rattle.krs_model.specs.{Notes.Posting.posted_in, Outcome.Outcome, Possession.possessed}
use Rattle.krs_model.specs.{Reach.{closes, has_chain, links_of_key_at}, Search.{found, requested, searched}}
use Rattle.krs_model.specs.{State.{raised, State}, Step.{each_ask, outcome_of, posts_by}, Sweep.{live_watches, roots}}

-- the keys that attachments reach: as many levels of links as there are keys
abbrev pub reached : State → List ℕ
reached s = levels (links_of_key_at s.keys) (roots s) (length (keys_of s.keys))

-- the store without the other keys, and without the watches at them
abbrev pub swept : State → State
swept s =
    let held = reached s in
    let keys = filter (λ e. is_in e.0 held) s.keys in
    record s { keys = keys; watches = live_watches keys s.watches }

-- the reply to what an ask comes to, and the store after it
abbrev pub served : State → ℕ → ℕ → Op → Outcome → Result Answer Errno × State
served s client context op (Err e) = (Err e, s)
served s client context op (Ok done) =
    let after = swept done.0 in (Ok done.1, posted_in (posts_by s client context op done.1 after.keys) after)

-- the reply to what a client asks at a moment, and the store after it
abbrev pub answered : State → ℕ → ℕ → Ask → Result Answer Errno × State
answered s client moment ask =
    let up = raised s moment in served up client ask.context ask.op (outcome_of up client ask.context ask.op)

-- the replies to the asks of these events, whatever replies they have
abbrev pub answers : State → List Event → List (Result Answer Errno)
answers s [] = []
answers s (event ∷ events) =
    let done = answered s event.lane event.moment event.ask in done.0 ∷ answers done.1 events

-- the replies that these events have
abbrev pub replies : List Event → List (Result Answer Errno)
replies events = map (λ event. event.reply) events

-- an event is answered as is due, and the store is then what is due; or it is ENOMEM, which stands in the place of an
-- answer alone, of an ask that takes memory, and changes the clock alone: profile, out of memory
abbrev pub IsDue : State → Event → State → Type 0
IsDue old event new =
    let due = answered old event.lane event.moment event.ask in
    ((event.reply ≡ due.0) × (new ≡ due.1))
    ⊎ ((event.reply ≡ Err ENOMEM) × (grows event.ask.op ≡ true) × IsOk due.0 × (new ≡ raised old event.moment))

-- none of them is answered with ENOMEM
abbrev pub HaveMemory : List Event → Type 0
HaveMemory [] = Unit {0}
HaveMemory (event ∷ events) = (event.reply ≢ Err ENOMEM) × HaveMemory events

-- where this unfolds, the definitions of each ask and of all that they cite compute
unfoldable pub each_definition : Type 0
unfolding
    each_ask admitted place_of sought_name nestable closes has_chain found requested searched level levels possessed
    context_of serial_of look_up made_for opened filtered read_out closed watched unwatched digits
each_definition = Unit {0}
