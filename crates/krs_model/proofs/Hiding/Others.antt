-- Each legal history has others that are asked alike.
use Rattle.std.proofs.Common.{[], ◌&&◌, ◌∙◌, ◌∷◌, ◌≡◌, ap, arith, Bool, cond, Err, false, length, List, nat_le, None}
use Rattle.std.proofs.Common.{Ok, Option, option_map, refl, Result, Some, subst, sym, true, ℕ, ℤ}
use Rattle.std.proofs.lemmas.Bool.Decides.{nat_tests}
use Rattle.krs_types.specs.declared.ask.{Answer.{Answer, TheVariants.Bytes}, Op.{Op, TheVariants.{Add, Read, Update}}}
use Rattle.krs_types.specs.declared.{errno.Errno.Errno, event.Event.Event, kind.Kind.{Kind, TheVariants.User}}
use Rattle.krs_types.specs.{declared.kind.PayloadRule.{PayloadRule, TheVariants.{NoBytes, SomeBytes}}, Kind.paid}
use Rattle.krs_types.specs.Kind.{paid_by, row_of}
use Rattle.krs_model.specs.{Asks.Adding.add, Hiding.{blind, blind_answer, blind_ask, blind_content, blind_event}}
use Rattle.krs_model.specs.Hiding.{blind_key, blind_keys, blind_outcome, blind_reply, FurtherEvents, hidden_added}
use Rattle.krs_model.specs.Hiding.{hidden_at, Hiding, hiding, IsBlinded, NoEvents, serial_in, told, told_at}
use Rattle.krs_model.specs.{Lookup.{context_of, serial_of}, Outcome.Outcome, Secrecy.Changes}
use Rattle.krs_model.specs.{Secrecy.{HasOthers, putting}, State.{Content, Key, Links, Payload, raised, State}}
use Rattle.krs_model.specs.Table.{Table}
use Rattle.krs_model.proofs.Hiding.{Keys.at_blind, Outcomes.outcome_blind, Sets.{lawful, not_empty, taken}}
use Rattle.krs_model.proofs.Hiding.Steps.{history_blinded, step_blind}
use Rattle.std.proofs.lemmas.Grind.{common_steps}

-- What is changed and then hidden is hidden as if it weren't changed.
content_twice : (h c : List ℕ → List ℕ) → ((bytes : List ℕ) → h (c bytes) ≡ h bytes) → (content : Content)
    → blind_content h (blind_content c content) ≡ blind_content h content
content_twice h c same (Payload bytes) = ap (λ (l : List ℕ). Payload l) (same bytes)
content_twice h c same (Links serials) = refl

keys_twice : (hide change : Hiding) → Changes hide change → (keys : Table Key)
    → blind_keys hide (blind_keys change keys) ≡ blind_keys hide keys
keys_twice hide change ch [] = refl
keys_twice hide change ch (e ∷ es) = grind (arith, nat_tests, content_twice, keys_twice hide change ch es)

blind_twice : (hide change : Hiding) → Changes hide change → (s : State)
    → blind hide (blind change s) ≡ blind hide s
blind_twice hide change ch s = λ i. record s { keys = keys_twice hide change ch s.keys i }

added_twice : (hide change : Hiding) → Changes hide change → (s : State) (client context : ℕ)
    (type_name desc payload : List ℕ) (ring : ℤ) (meant : Outcome)
    → hidden_added hide (blind_outcome change s client context (Add type_name desc payload ring) meant)
    (hidden_added change meant payload) ≡ hidden_added hide meant payload
added_twice hide change ch s client context type_name desc payload ring (Ok done) = ch.hidden (serial_in done.1) payload
added_twice hide change ch s client context type_name desc payload ring (Err e) = ch.hidden 0 payload

at_twice : (hide change : Hiding) → Changes hide change → (serial : Result ℕ Errno) (bytes : List ℕ)
    → hidden_at hide serial (hidden_at change serial bytes) ≡ hidden_at hide serial bytes
at_twice hide change ch (Ok serial) bytes = ch.hidden serial bytes
at_twice hide change ch (Err e) bytes = ch.hidden 0 bytes

ask_twice : (hide change : Hiding) → Changes hide change → (s : State) (client context : ℕ) (op : Op)
    → blind_ask hide (blind change s) client context (blind_ask change s client context op)
    ≡ blind_ask hide s client context op
unfolding context_of serial_of
ask_twice hide change ch s client context (Add type_name desc payload ring) =
    let meant : Outcome = add s client context type_name desc payload ring in
    let put : List ℕ = hidden_added change meant payload in
    let same : add (blind change s) client context type_name desc put ring
    ≡ blind_outcome change s client context (Add type_name desc payload ring) meant =
    outcome_blind change s client context (Add type_name desc payload ring) ch.lawful in
    rw (same, added_twice hide change ch s client context type_name desc payload ring meant)
ask_twice hide change ch s client context (Update id payload) = grind (arith, common_steps, at_twice)
ask_twice hide change ch s client context op = refl

key_told_twice : (hide change : Hiding) → Changes hide change → (n : ℕ) (o : Option Key) (bytes : List ℕ)
    → told (hide n) (option_map (blind_key (change n)) o) (told (change n) o bytes) ≡ told (hide n) o bytes
key_told_twice hide change ch n None bytes = refl
key_told_twice hide change ch n (Some key) bytes = grind (arith, nat_tests)

told_twice : (hide change : Hiding) → Changes hide change → (keys : Table Key) (serial : Result ℕ Errno)
    (bytes : List ℕ)
    → told_at hide (blind_keys change keys) serial (told_at change keys serial bytes) ≡ told_at hide keys serial bytes
told_twice hide change ch keys (Ok n) bytes = grind (arith, nat_tests, at_blind, key_told_twice)
told_twice hide change ch keys (Err e) bytes = refl

answer_twice : (hide change : Hiding) → Changes hide change → (s : State) (client context : ℕ) (op : Op)
    (answer : Answer)
    → blind_answer hide (blind change s) client context (blind_ask change s client context op)
    (blind_answer change s client context op answer) ≡ blind_answer hide s client context op answer
unfolding context_of serial_of
answer_twice hide change ch s client context (Read id) (Bytes bytes) = grind (arith, common_steps, told_twice)
answer_twice hide change ch s client context (Read id) answer = refl
answer_twice hide change ch s client context op answer = refl

reply_twice : (hide change : Hiding) → Changes hide change → (s : State) (client context : ℕ) (op : Op)
    (reply : Result Answer Errno)
    → blind_reply hide (blind change s) client context (blind_ask change s client context op)
    (blind_reply change s client context op reply) ≡ blind_reply hide s client context op reply
reply_twice hide change ch s client context op (Ok answer) = grind (arith, common_steps, answer_twice)
reply_twice hide change ch s client context op (Err e) = refl

event_twice : (hide change : Hiding) → Changes hide change → (s : State) (event : Event)
    → blind_event hide (blind change s) (blind_event change s event) ≡ blind_event hide s event
event_twice hide change ch s event =
    let up : State = raised s event.moment in
    λ i. record event {
      ask = record event.ask { op = ask_twice hide change ch up event.lane event.ask.context event.ask.op i };
      reply = reply_twice hide change ch up event.lane event.ask.context event.ask.op event.reply i;
    }

abbrev AreAlike : Hiding → Hiding → State → State → List Event → List Event → Type 0
AreAlike hide change start end events others =
    (blinded : List Event) × IsBlinded hide start events end blinded
    × IsBlinded hide (blind change start) others (blind change end) blinded

alike_blinded :
    (hide change : Hiding) (start end : State) (events others : List Event) → Changes hide change
    → IsBlinded change start events end others → AreAlike hide change start end events others
alike_blinded hide change _ _ _ _ ch (NoEvents s) = ([], NoEvents s, NoEvents (blind change s))
alike_blinded hide change _ _ _ _ ch (FurtherEvents s next end event events others step rest) =
    let r = alike_blinded hide change next end events others ch rest in
    let e : Event = blind_event hide s event in (
      e ∷ r.0,
      FurtherEvents s next end event events r.0 step r.1,
      subst (λ (x : Event). IsBlinded hide (blind change s) (blind_event change s event ∷ others) (blind change end)
          (x ∷ r.0)) (event_twice hide change ch s event)
          (FurtherEvents (blind change s) (blind change next) (blind change end) (blind_event change s event) others r.0
          (step_blind change s next event ch.lawful step) r.2),
    )

pub has_others : HasOthers
has_others hide change start end events ch legal =
    let t = history_blinded change start end events legal in
    let r = alike_blinded hide change start end events t.0 ch t.1 in
    search blind_twice depth 8

-- Any payload that a user key may have may take the place of another.
abbrev fits : List ℕ → Bool
fits bytes = nat_le 1 (length bytes) && nat_le (length bytes) 32767

paid_alike : (rule : PayloadRule) (bytes payload : List ℕ) → fits bytes ≡ true → fits payload ≡ true
    → paid_by rule payload ≡ paid_by rule bytes
paid_alike SomeBytes bytes payload b p = ap taken (p ∙ sym b)
paid_alike NoBytes bytes payload b p =
    ap taken (not_empty (length payload) p ∙ sym (not_empty (length bytes) b))

put_paid : (kind : Kind) (bytes payload : List ℕ) (secret b : Bool) → fits bytes ≡ b → fits payload ≡ true
    → paid kind (cond (secret && b) payload bytes) ≡ paid kind bytes
put_paid kind bytes payload true true is fit = paid_alike (row_of kind).payload bytes payload is fit
put_paid kind bytes payload true false is fit = refl
put_paid kind bytes payload false true is fit = refl
put_paid kind bytes payload false false is fit = refl

put_hidden : (secret b : Bool) (bytes payload : List ℕ) → fits bytes ≡ b → fits payload ≡ true
    → cond (secret && fits (cond (secret && b) payload bytes)) (0 ∷ []) (cond (secret && b) payload bytes)
    ≡ cond (secret && b) (0 ∷ []) bytes
put_hidden true true bytes payload is fit = ap (λ (t : Bool). cond t (0 ∷ []) payload) fit
put_hidden true false bytes payload is fit = ap (λ (t : Bool). cond t (0 ∷ []) bytes) is
put_hidden false true bytes payload is fit = refl
put_hidden false false bytes payload is fit = refl

pub puts_any : (secret : ℕ → Bool) (payload : List ℕ) → paid User payload ≡ Ok tt
    → Changes (hiding secret) (putting secret payload)
puts_any secret payload taken_is = search (lawful, put_paid, put_hidden) depth 8
