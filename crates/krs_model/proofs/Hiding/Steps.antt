-- Steps and histories with the payloads hidden.
use Rattle.std.proofs.Common.{[], ◌∙◌, ◌∷◌, ◌≡◌, ap, arith, Err, filter, IsOk, List, not, Ok, refl, Result, subst, ℕ}
use Rattle.std.proofs.lemmas.Bool.Decides.{nat_tests}
use Rattle.krs_types.specs.declared.ask.{Answer.{Answer, TheVariants.{Bytes, Nothing, Number}}, Op.Op}
use Rattle.krs_types.specs.declared.{ask.Op.TheVariants.{Add, GetId, Watch}, errno.Errno.Errno, event.Event.Event}
use Rattle.krs_types.specs.Growth.{grows}
use Rattle.krs_model.specs.Hiding.{blind, blind_answer, blind_ask, blind_event, blind_keys, blind_outcome}
use Rattle.krs_model.specs.{Hiding.{blind_reply, FurtherEvents, Hides, Hiding, IsBlinded, NoEvents}, History.IsLegal}
use Rattle.krs_model.specs.{Lookup.{context_of, serial_of}, Notes.{Posting.dropped_watches, Telling.about_added}}
use Rattle.krs_model.specs.{Notes.Telling.{ended_by, notes_of}, Outcome.Outcome, State.{Key, State}}
use Rattle.krs_model.specs.{Step.{Ends, posts_by, Serves, Step, watches_left}, Table.Table}
use Rattle.krs_model.proofs.Hiding.{Outcomes.outcome_blind, Sweeps.{same_there, sweep_blind}}
use Rattle.krs_model.specs.Queues as queues
use Rattle.std.proofs.lemmas.Grind.{common_steps}

-- notes tell of serials alone
added_notes : (hide : Hiding) (keys : Table Key) (ring : Result ℕ Errno) (answer : Answer)
    → about_added (blind_keys hide keys) ring answer ≡ about_added keys ring answer
added_notes hide keys ring Nothing = refl
added_notes hide keys ring (Bytes bytes) = refl
added_notes hide keys ring (Number serial) = search same_there depth 8

same_notes : (hide : Hiding) (s : State) (client context : ℕ) (op : Op) (answer : Answer)
    → notes_of (blind hide s) client context (blind_ask hide s client context op)
    (blind_answer hide s client context op answer) ≡ notes_of s client context op answer
unfolding context_of serial_of
same_notes hide s client context (Add type_name desc payload ring) answer = grind (arith, common_steps, added_notes)
same_notes hide s client context op answer = refl

same_ended : (hide : Hiding) (s : State) (client context : ℕ) (op : Op)
    → ended_by (blind hide s) client context (blind_ask hide s client context op) ≡ ended_by s client context op
unfolding context_of serial_of
same_ended hide s client context (Watch id queue watch) = refl
same_ended hide s client context op = refl

same_grows : (hide : Hiding) (s : State) (client context : ℕ) (op : Op)
    → grows (blind_ask hide s client context op) ≡ grows op
same_grows hide s client context (GetId id create) = refl
same_grows hide s client context op = refl

same_left : (hide : Hiding) (s : State) (client context : ℕ) (op : Op) (meant : Outcome)
    → watches_left (blind_outcome hide s client context op meant) ≡ watches_left meant
same_left hide s client context op (Ok done) = refl
same_left hide s client context op (Err e) = refl

same_dropped : (hide : Hiding) (keys : Table Key) (watches : List queues.Watch)
    → dropped_watches (blind_keys hide keys) watches ≡ dropped_watches keys watches
same_dropped hide keys watches = λ i. filter (λ w. not (same_there hide keys w.0.0 i)) watches

same_posts :
    (hide : Hiding) (s : State) (client context : ℕ) (op : Op) (answer : Answer) (keys : Table Key) → Hides hide
    → posts_by (blind hide s) client context (blind_ask hide s client context op)
    (blind_answer hide s client context op answer) (blind_keys hide keys) ≡ posts_by s client context op answer keys
same_posts hide s client context op answer keys hides =
    grind (arith, nat_tests, outcome_blind, same_left, same_dropped, same_notes, same_ended)

serves_blind :
    (hide : Hiding) (s new : State) (client context : ℕ) (op : Op) (answer : Answer) → Hides hide
    → Serves s client context op answer new
    → Serves (blind hide s) client context (blind_ask hide s client context op)
    (blind_answer hide s client context op answer) (blind hide new)
serves_blind hide s new client context op answer hides serves = record {
  mid = blind hide serves.mid;
  swept = blind hide serves.swept;
  meant = outcome_blind hide s client context op hides
      ∙ ap (blind_outcome hide s client context op) serves.meant;
  sweep = sweep_blind hide serves.mid serves.swept serves.sweep;
  posted = grind (arith, nat_tests, same_posts);
}

ok_blind : (hide : Hiding) (s : State) (client context : ℕ) (op : Op) (meant : Outcome) → IsOk meant
    → IsOk (blind_outcome hide s client context op meant)
ok_blind hide s client context op (Ok done) ok = ok
ok_blind hide s client context op (Err e) ok = ok

ends_blind :
    (hide : Hiding) (s new : State) (client context : ℕ) (op : Op) (reply : Result Answer Errno) → Hides hide
    → Ends s client context op reply new
    → Ends (blind hide s) client context (blind_ask hide s client context op)
    (blind_reply hide s client context op reply) (blind hide new)
ends_blind hide s new client context op (Ok answer) hides ends = grind (arith, common_steps, serves_blind)
ends_blind hide s new client context op (Err e) hides ends =
    grind (arith, nat_tests, outcome_blind, same_grows, ok_blind)

-- a step with the payloads hidden is a step
pub step_blind : (hide : Hiding) (old new : State) (event : Event) → Hides hide → Step old event new
    → Step (blind hide old) (blind_event hide old event) (blind hide new)
unfolding Step
step_blind hide old new event hides step = grind (arith, common_steps, ends_blind)

-- each legal history has one with the payloads hidden
pub history_blinded :
    (hide : Hiding) (start end : State) (events : List Event) → IsLegal start events end
    → (blinded : List Event) × IsBlinded hide start events end blinded
unfolding IsLegal
history_blinded hide start end [] legal =
    ([], subst (λ (t : State). IsBlinded hide start [] t []) legal (NoEvents start))
history_blinded hide start end (event ∷ events) legal =
    let next = legal.0 in
    let rest = history_blinded hide next end events legal.2 in
    (blind_event hide start event ∷ rest.0, FurtherEvents start next end event events rest.0 legal.1 rest.1)

-- and it is legal
pub blinded_legal :
    (hide : Hiding) (start end : State) (events blinded : List Event) → Hides hide
    → IsBlinded hide start events end blinded → IsLegal (blind hide start) blinded (blind hide end)
unfolding IsLegal
blinded_legal hide _ _ _ _ hides (NoEvents s) = refl
blinded_legal hide _ _ _ _ hides (FurtherEvents s next end event events blinded step rest) =
    (blind hide next, step_blind hide s next event hides step, blinded_legal hide next end events blinded hides rest)
