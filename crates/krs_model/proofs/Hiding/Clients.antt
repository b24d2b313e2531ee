-- What a client is told hangs on no payload that is hidden, but those that it reads.
use Rattle.std.proofs.Common.{[], ⊎_elim, ◌∙◌, ◌∷◌, ◌≡◌, ◌≢◌, ◌⊎◌, ap, arith, Bool, cond, Err, false, inl, inr, IsOk}
use Rattle.std.proofs.Common.{List, map, None, Ok, Option, refl, Result, Some, subst, sym, true, true≢false, ℕ}
use Rattle.std.proofs.lemmas.Bool.Decides.{nat_tests}
use Rattle.krs_types.specs.declared.ask.{Answer.{Answer, TheVariants.Bytes}, Op.{Op, TheVariants.Read}}
use Rattle.krs_types.specs.declared.{errno.Errno.{Errno, TheVariants.ENOMEM}, event.Event.Event}
use Rattle.krs_types.specs.{declared.kind.Told.TheVariants.ItsPayload, Kind.row_of}
use Rattle.krs_model.specs.Hiding.{blind, blind_answer, blind_ask, blind_event, blind_keys, FurtherEvents, Hides}
use Rattle.krs_model.specs.{Hiding.{Hiding, IsBlinded, NoEvents, over, told, told_at}, History.IsLegal}
use Rattle.krs_model.specs.{Lookup.{context_of, serial_of}, Notes.Telling.named, Secrecy.{AreAskedAlike, asked}}
use Rattle.krs_model.specs.Secrecy.{DifferInReads, is_read, is_wanting, IsRead, KeepsSecrets, ReadsShown, replies_to}
use Rattle.krs_model.specs.{Secrecy.TellsNoUnread, State.{Key, raised, State}, Step.Step, Table.{at, Table}}
use Rattle.krs_model.proofs.{Hiding.{Keys.seen, Steps.{blinded_legal, step_blind}}, History.Determined.one_history}
use Rattle.krs_model.proofs.History.{Determined.{one_reply, one_step}, Revocations.read_of_key}
use Rattle.krs_model.proofs.Reach.Levels.{equal_is}
use Rattle.std.proofs.lemmas.Grind.{common_steps}

wanting_is : (reply : Result Answer Errno) → is_wanting reply ≡ true → reply ≡ Err ENOMEM
wanting_is (Ok answer) h = absurd (true≢false (sym h))
wanting_is (Err ENOMEM) h = refl
wanting_is (Err e) h = absurd (true≢false (sym h))

has_memory : (reply : Result Answer Errno) → is_wanting reply ≡ false → reply ≢ Err ENOMEM
has_memory reply h is = true≢false (sym (ap is_wanting is) ∙ h)

-- two replies are one, of which memory was wanting for both, or which are one where it was wanting for neither
one_wanting :
    (reply other : Result Answer Errno) (b : Bool) → is_wanting reply ≡ b → is_wanting other ≡ b
    → (reply ≢ Err ENOMEM → other ≢ Err ENOMEM → reply ≡ other) → reply ≡ other
one_wanting reply other true p q same = wanting_is reply p ∙ sym (wanting_is other q)
one_wanting reply other false p q same = same (has_memory reply p) (has_memory other q)

-- what was asked, and for what memory was wanting, determines a history
same_events :
    (start x y : State) (events others : List Event) → IsLegal start events x → IsLegal start others y
    → map asked events ≡ map asked others → events ≡ others
unfolding IsLegal
same_events start x y [] [] f g same = refl
same_events start x y [] (e ∷ es) f g same = absurd (cc)
same_events start x y (e ∷ es) [] f g same = absurd (cc)
same_events start x y (e ∷ es) (f ∷ fs) a b same =
    grind (arith, nat_tests, one_wanting, one_reply, one_step, same_events b.0 x y es fs)

-- of two histories that are asked alike the replies are the same, but for hidden payloads
pub blinded_alike :
    (hide : Hiding) (a b : State) (events others : List Event) → Hides hide
    → (alike : AreAskedAlike hide a b events others) → alike.blinded ≡ alike.other_blinded
blinded_alike hide a b events others hides alike = grind (arith, nat_tests, same_events, blinded_legal)

-- and they end alike
pub ends_alike :
    (hide : Hiding) (a b : State) (events others : List Event) → Hides hide
    → (alike : AreAskedAlike hide a b events others) → blind hide alike.end ≡ blind hide alike.other_end
ends_alike hide a b events others hides alike =
    let x = blind hide alike.end in
    let legal = blinded_legal hide a alike.end events alike.blinded hides alike.first in
    let from : IsLegal (blind hide b) alike.blinded x =
    subst (λ (t : State). IsLegal t alike.blinded x) alike.starts legal in
    search (one_history, blinded_alike, blinded_legal) depth 8

same_told : (hide : Hiding) (keys : Table Key) (serial : Result ℕ Errno) (bytes : List ℕ)
    → told_at hide (blind_keys hide keys) serial bytes ≡ told_at hide keys serial bytes
same_told hide keys (Ok n) bytes = seen hide keys (λ (o : Option Key). told (hide n) o bytes) n (λ v. refl)
same_told hide keys (Err e) bytes = refl

-- which payloads an answer tells may be said of the blinded state and ask
answer_of_blind : (hide : Hiding) (s : State) (client context : ℕ) (op : Op) (answer : Answer)
    → blind_answer hide (blind hide s) client context (blind_ask hide s client context op) answer
    ≡ blind_answer hide s client context op answer
unfolding context_of serial_of
answer_of_blind hide s client context (Read id) (Bytes bytes) = grind (arith, common_steps, same_told)
answer_of_blind hide s client context (Read id) answer = refl
answer_of_blind hide s client context op answer = refl

shown_told :
    (hide : Hiding) (keys : Table Key) (serial : ℕ) (bytes : List ℕ) (o : Option Key)
    → ((key : Key) → o ≡ Some key → (row_of key.kind).told ≡ ItsPayload → hide serial bytes ≡ bytes)
    → told (hide serial) o bytes ≡ bytes
shown_told hide keys serial bytes None shown = refl
shown_told hide keys serial bytes (Some key) shown = grind (arith, nat_tests)

-- a READ that is accepted tells no hidden payload, where the client reads shown keys alone
read_tells_none :
    (hide : Hiding) (client : ℕ) (s next : State) (event : Event) (events : List Event) (op : Op) (answer : Answer)
    → ReadsShown hide client s (event ∷ events) → Step s event next → event.lane ≡ client → IsOk event.reply
    → event.ask.op ≡ op
    → blind_answer hide (raised s event.moment) event.lane event.ask.context op answer ≡ answer
unfolding IsLegal
read_tells_none hide client s next event events (Read id) (Bytes bytes) shown step lane accepted is =
    let found = read_of_key s next event id step is accepted in
    let reads = found.1 in
    let up = raised s event.moment in
    let same : named up event.lane event.ask.context reads.id ≡ Ok found.0 = search depth 8 in
    let here : named up event.lane event.ask.context id ≡ Ok found.0 = cc in
    ap (λ (told : List ℕ). Bytes told) (ap (λ (r : Result ℕ Errno). told_at hide s.keys r bytes) here
    ∙ shown_told hide s.keys found.0 bytes (at s.keys found.0)
    (λ key there kind. shown [] events event s found.0 key refl refl lane reads there kind bytes))
read_tells_none hide client s next event events (Read id) answer shown step lane accepted is = refl
read_tells_none hide client s next event events op answer shown step lane accepted is = refl

-- two replies that tell no hidden payload, and are the same but for hidden ones, are the same
one_told :
    (f g : Answer → Answer) (reply other : Result Answer Errno) → (IsOk reply → (x : Answer) → f x ≡ x)
    → (IsOk reply → (x : Answer) → g x ≡ x) → over f reply ≡ over g other → reply ≡ other
one_told f g (Ok x) (Ok y) plain bare same = grind (arith, nat_tests)
one_told f g (Ok x) (Err e) plain bare same = absurd (cc)
one_told f g (Err e) (Ok y) plain bare same = absurd (cc)
one_told f g (Err e) (Err d) plain bare same = cc

one_or_read :
    (f g : Answer → Answer) (reply other : Result Answer Errno) → over f reply ≡ over g other
    → (reply ≡ other) ⊎ (IsOk reply × IsOk other)
one_or_read f g (Ok x) (Ok y) same = inr (refl, refl)
one_or_read f g (Ok x) (Err e) same = absurd (cc)
one_or_read f g (Err e) (Ok y) same = absurd (cc)
one_or_read f g (Err e) (Err d) same = inl (cc)

same_read : (hide : Hiding) (s : State) (client context : ℕ) (op : Op)
    → is_read (blind_ask hide s client context op) ≡ is_read op
same_read hide s client context (Read id) = refl
same_read hide s client context op = refl

-- no other ask tells a payload
unread_tells_none : (hide : Hiding) (s : State) (client context : ℕ) (op : Op) (answer : Answer) → is_read op ≡ false
    → blind_answer hide s client context op answer ≡ answer
unread_tells_none hide s client context (Read id) answer un = absurd (true≢false un)
unread_tells_none hide s client context op answer un = refl

-- events whose blinded ones are the same have the same reply, but where they are accepted READs
pub reply_or_read :
    (hide : Hiding) (s t : State) (event other : Event) (b : Bool) → blind_event hide s event ≡ blind_event hide t other
    → is_read event.ask.op ≡ b → is_read other.ask.op ≡ b
    → (event.reply ≡ other.reply) ⊎ (IsRead event × IsRead other)
reply_or_read hide s t event other b same first second =
    grind (arith, common_steps, ⊎_elim, one_or_read, one_told, unread_tells_none)

pub read_alike : (hide : Hiding) (s t : State) (event other : Event) → blind_event hide s event
    ≡ blind_event hide t other
    → is_read other.ask.op ≡ is_read event.ask.op
read_alike hide s t event other same = grind (arith, nat_tests, same_read)

differ :
    (hide : Hiding) (a b x y : State) (events others blinded alike : List Event)
    → IsBlinded hide a events x blinded → IsBlinded hide b others y alike → blinded ≡ alike
    → DifferInReads events others
differ hide _ _ _ _ _ _ _ _ (NoEvents s) (NoEvents t) same = tt
differ hide _ _ _ _ _ _ _ _ (NoEvents s) (FurtherEvents t next end event events blinded step rest) same = absurd (cc)
differ hide _ _ _ _ _ _ _ _ (FurtherEvents s next end event events blinded step rest) (NoEvents t) same = absurd (cc)
differ hide _ _ _ _ _ _ _ _ (FurtherEvents s next end event events blinded step rest)
    (FurtherEvents t top last other others alike further behind) same =
    grind (
      arith,
      nat_tests,
      reply_or_read,
      read_alike,
      differ hide next top end last events others blinded alike
          rest behind,
    )

-- of histories that are asked alike all replies are the same, but those to accepted READs
pub differ_in_reads :
    (hide : Hiding) (a b : State) (events others : List Event) → Hides hide → AreAskedAlike hide a b events others
    → DifferInReads events others
differ_in_reads hide a b events others hides alike = search (differ, blinded_alike) depth 8

abbrev pub replied : List Event → List (Result Answer Errno)
replied events = map (λ e. e.reply) events

one_further :
    (b : Bool) (e f : Event) (es fs : List Event) → (b ≡ true → e.reply ≡ f.reply) → replied es ≡ replied fs
    → replied (cond b (e ∷ es) es) ≡ replied (cond b (f ∷ fs) fs)
one_further true e f es fs same rest = λ i. same refl i ∷ rest i
one_further false e f es fs same rest = rest

-- one event further, of one lane in both
told_further :
    (client : ℕ) (e f : Event) (es fs : List Event) → e.lane ≡ f.lane → (e.lane ≡ client → e.reply ≡ f.reply)
    → replies_to client es ≡ replies_to client fs → replies_to client (e ∷ es) ≡ replies_to client (f ∷ fs)
told_further client e f es fs lane same rest = grind (arith, nat_tests, one_further, equal_is)

-- replies to events whose blinded ones are the same are the same where the client reads shown keys alone
told_alike :
    (hide : Hiding) (client : ℕ) (s t next : State) (event other : Event) (events : List Event)
    → blind hide s ≡ blind hide t → blind_event hide s event ≡ blind_event hide t other
    → ReadsShown hide client s (event ∷ events) → Step s event next → event.lane ≡ client → event.reply ≡ other.reply
told_alike hide client s t next event other events starts same shown step lane =
    let up = raised s event.moment in
    let top = raised t other.moment in
    let f = blind_answer hide up event.lane event.ask.context event.ask.op in
    let g = blind_answer hide top other.lane other.ask.context other.ask.op in
    let plain : IsOk event.reply → (x : Answer) → f x ≡ x = search read_tells_none depth 8 in
    let one : (x : Answer) → g x ≡ f x = λ x.
    sym (answer_of_blind hide top other.lane other.ask.context other.ask.op x)
    ∙ (sym (λ i. blind_answer hide (raised (starts i) (same i).moment) (same i).lane (same i).ask.context
    (same i).ask.op x) ∙ answer_of_blind hide up event.lane event.ask.context event.ask.op x) in
    one_told f g event.reply other.reply plain (λ accepted x. one x ∙ plain accepted x)
    (ap (λ (e : Event). e.reply) same)

client_told :
    (hide : Hiding) (client : ℕ) (a b x y : State) (events others blinded alike : List Event) → Hides hide
    → blind hide a ≡ blind hide b → IsBlinded hide a events x blinded → IsBlinded hide b others y alike
    → blinded ≡ alike → ReadsShown hide client a events → replies_to client events ≡ replies_to client others
unfolding IsLegal
client_told hide client _ _ _ _ _ _ _ _ hides starts (NoEvents s) (NoEvents t) same shown = refl
client_told hide client _ _ _ _ _ _ _ _ hides starts (NoEvents s)
    (FurtherEvents t next end event events blinded step rest) same shown = absurd (cc)
client_told hide client _ _ _ _ _ _ _ _ hides starts (FurtherEvents s next end event events blinded step rest)
    (NoEvents t) same shown = absurd (cc)
client_told hide client _ _ _ _ _ _ _ _ hides starts (FurtherEvents s next end event events blinded step rest)
    (FurtherEvents t top last other others alike further behind) same shown =
    let first : blind_event hide s event ≡ blind_event hide t other = cc in
    let then : blinded ≡ alike = cc in
    let from : Step (blind hide t) (blind_event hide t other) (blind hide next) =
    subst (λ (e : Event). Step (blind hide t) e (blind hide next)) first
    (subst (λ (state : State). Step state (blind_event hide s event) (blind hide next)) starts
    (step_blind hide s next event hides step)) in
    let nexts : blind hide next ≡ blind hide top = search (one_step, step_blind) depth 8 in
    let more = client_told hide client next top end last events others blinded alike hides nexts rest behind then
    (λ before later reading old serial key is legal. shown (event ∷ before) later reading old serial key
    (ap (λ (l : List Event). event ∷ l) is) (next, step, legal)) in
    told_further client event other events others (ap (λ (e : Event). e.lane) first)
    (λ lane. told_alike hide client s t next event other events starts first shown step lane) more

pub tells_no_unread : (start : State) (events : List Event) → TellsNoUnread start events
tells_no_unread start events hide client other others hides alike shown = search (client_told, blinded_alike) depth 8

pub keeps_secrets : (start : State) → KeepsSecrets start
keeps_secrets start = λ events. tells_no_unread start events
