-- Stores, asks, replies and histories whose payloads are hidden: what is left of them where a payload may not be seen.
-- After J. A. Goguen and J. Meseguer, "Security Policies and Security Models", 1982: noninterference, with READ as the
-- one declassifier; keyctl(2), KEYCTL_READ.
use Rattle.std.specs.Prelude.{[], ◌&&◌, ◌∷◌, ◌≡◌, Bool, Err, if◌then◌else◌, length, List, nat_le, None, Ok, Option}
use Rattle.std.specs.Prelude.{Result, Some, ℕ}
use Rattle.krs_types.specs.{Kind.{paid, row_of}, declared.ask.Answer.{Answer, TheVariants.{Bytes, Nothing, Number}}}
use Rattle.krs_types.specs.declared.{ask.Op.{Op, TheVariants.{Add, Read, Update}}, errno.Errno.Errno, event.Event.Event}
use Rattle.krs_types.specs.declared.kind.{Kind.Kind, Told.{Told, TheVariants.{ItsLinks, ItsPayload, Never}}}
use Rattle.krs_model.specs.{Asks.Adding.add, Notes.Telling.named, Outcome.Outcome}
use Rattle.krs_model.specs.{State.{Content, Key, Links, Payload, raised, State}, Step.Step, Table.{at, Table}}

-- what a payload is hidden as, by the serial of its key; that of a refused ADD, or an UPDATE of no key, by the serial 0
abbrev pub Hiding : Type 0
Hiding = ℕ → List ℕ → List ℕ

-- the types that take a payload take what it is hidden as, and no others: add_key(2), "Key types"
abbrev pub Hides : Hiding → Type 0
Hides hide = (n : ℕ) (kind : Kind) (bytes : List ℕ) → paid kind (hide n bytes) ≡ paid kind bytes

-- one such: the payloads of a set of keys are the one byte 0, where a key may have them, and all others stay
abbrev pub hiding : (ℕ → Bool) → Hiding
hiding secret n bytes =
    if secret n && (nat_le 1 (length bytes) && nat_le (length bytes) 32767) then 0 ∷ [] else bytes

-- a payload is hidden; links are no secret
abbrev pub blind_content : (List ℕ → List ℕ) → Content → Content
blind_content h (Payload bytes) = Payload (h bytes)
blind_content h (Links serials) = Links serials

-- the key with its payload hidden
abbrev pub blind_key : (List ℕ → List ℕ) → Key → Key
blind_key h key = record key { content = blind_content h key.content }

-- the keys with their payloads hidden
abbrev pub blind_keys : Hiding → Table Key → Table Key
blind_keys hide [] = []
blind_keys hide (e ∷ es) = (e.0, blind_key (hide e.0) e.1) ∷ blind_keys hide es

-- the store with its payloads hidden
abbrev pub blind : Hiding → State → State
blind hide s = record s { keys = blind_keys hide s.keys }

-- an UPDATE's payload is hidden as that of the key that its id stands for
abbrev pub hidden_at : Hiding → Result ℕ Errno → List ℕ → List ℕ
hidden_at hide (Ok serial) bytes = hide serial bytes
hidden_at hide (Err e) bytes = hide 0 bytes

-- the serial that an accepted ADD answers, of the key that it makes or updates
abbrev pub serial_in : Answer → ℕ
serial_in Nothing = 0
serial_in (Number serial) = serial
serial_in (Bytes bytes) = 0

-- an ADD's payload is hidden as that of the key that it makes or updates
abbrev pub hidden_added : Hiding → Outcome → List ℕ → List ℕ
hidden_added hide (Ok done) bytes = hide (serial_in done.1) bytes
hidden_added hide (Err e) bytes = hide 0 bytes

-- the ask with the payload that it brings hidden; ADD and UPDATE bring one
abbrev pub blind_ask : Hiding → State → ℕ → ℕ → Op → Op
blind_ask hide s client context (Add type_name desc payload ring) =
    Add type_name desc (hidden_added hide (add s client context type_name desc payload ring) payload) ring
blind_ask hide s client context (Update id payload) =
    Update id (hidden_at hide (named s client context id) payload)
blind_ask hide s client context op = op

-- a payload that READ tells is hidden; links that it tells are not
abbrev pub told_by : (List ℕ → List ℕ) → Told → List ℕ → List ℕ
told_by h ItsPayload bytes = h bytes
told_by h ItsLinks bytes = bytes
told_by h Never bytes = bytes

-- what READ tells of a key of this type
abbrev pub told_of : (List ℕ → List ℕ) → Kind → List ℕ → List ℕ
told_of h kind bytes = told_by h (row_of kind).told bytes

-- what READ tells of the key that is there
abbrev pub told : (List ℕ → List ℕ) → Option Key → List ℕ → List ℕ
told h None bytes = bytes
told h (Some key) bytes = told_of h key.kind bytes

-- what READ tells of the key that its id stands for
abbrev pub told_at : Hiding → Table Key → Result ℕ Errno → List ℕ → List ℕ
told_at hide keys (Ok serial) bytes = told (hide serial) (at keys serial) bytes
told_at hide keys (Err e) bytes = bytes

-- the answer with the payload that it tells hidden; READ alone tells one
abbrev pub blind_answer : Hiding → State → ℕ → ℕ → Op → Answer → Answer
blind_answer hide s client context (Read id) (Bytes bytes) =
    Bytes (told_at hide s.keys (named s client context id) bytes)
blind_answer hide s client context op answer = answer

-- an accepted result through f
abbrev pub over : {A B : Type 0} → (A → B) → Result A Errno → Result B Errno
over f (Ok x) = Ok (f x)
over f (Err e) = Err e

-- the reply with the payload that it tells hidden; a refusal tells none
abbrev pub blind_reply : Hiding → State → ℕ → ℕ → Op → Result Answer Errno → Result Answer Errno
blind_reply hide s client context op reply = over (blind_answer hide s client context op) reply

-- what an ask comes to, with the payloads of the state and of the answer hidden
abbrev pub blind_outcome : Hiding → State → ℕ → ℕ → Op → Outcome → Outcome
blind_outcome hide s client context op meant =
    over (λ done. (blind hide done.0, blind_answer hide s client context op done.1)) meant

-- an event of a store whose clock was raised, with the payloads of its ask and its reply hidden
abbrev pub blind_served : Hiding → State → Event → Event
blind_served hide s event = record event {
  ask = record event.ask { op = blind_ask hide s event.lane event.ask.context event.ask.op };
  reply = blind_reply hide s event.lane event.ask.context event.ask.op event.reply;
}

-- an event of a store with the payloads of its ask and its reply hidden
abbrev pub blind_event : Hiding → State → Event → Event
blind_event hide s event = blind_served hide (raised s event.moment) event

-- a legal history from one state to another, and the same events with their payloads hidden
pub data IsBlinded (hide : Hiding) : State → List Event → State → List Event → Type 0 where
  NoEvents : (s : State) → IsBlinded hide s [] s []
  FurtherEvents :
      (s next end : State) (event : Event) (events blinded : List Event) → Step s event next
      → IsBlinded hide next events end blinded
      → IsBlinded hide s (event ∷ events) end (blind_event hide s event ∷ blinded)
