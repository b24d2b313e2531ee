-- What UPDATE overwrote leaves no trace.
use Rattle.std.proofs.Common.{[], ◌∙◌, ◌∷◌, ◌≡◌, ◌≢◌, ap, cond, Err, false, IsOk, List, nat_cmp, None, Ok, refl}
use Rattle.std.proofs.Common.{Result, Some, subst, sym, true, true≢false, ℕ, ℤ}
use Rattle.std.specs.BTreeMap.{is_at}
use Rattle.std.proofs.lemmas.Option.{none-some}
use Rattle.krs_types.specs.{Refusing.◌>>=◌, declared.ask.Answer.Answer}
use Rattle.krs_types.specs.declared.ask.{Op.{Op, TheVariants.Update}}
use Rattle.krs_types.specs.declared.{context.Context.Context, errno.Errno.Errno}
use Rattle.krs_model.specs.Asks.Changing.{paid_with, update, updated}
use Rattle.krs_model.specs.Hiding.{blind, blind_content, blind_key, blind_keys, Hiding}
use Rattle.krs_model.specs.Lookup.{context_of, serial_of}
use Rattle.krs_model.specs.{Notes.Telling.{ended_by, notes_of}, Secrecy.HidesOnly}
use Rattle.krs_model.specs.State.{Content, Key, Links, Payload, raised, State}
use Rattle.krs_model.specs.Step.{Ends, outcome_of, Serves, Step}
use Rattle.krs_model.specs.Table.{alter, at, IsDistinct, Table}
use Rattle.krs_model.proofs.Asks.Later.{bind_ok, same_ok}
use Rattle.krs_model.proofs.{Hiding.Lookups.{blind_found, look_up_blind}, Lookups.Serials.found_serial}
use Rattle.krs_model.proofs.Tables.{Changes.{is_at_same, same_at}, Entries.rises_distinct}
use Rattle.krs_laws.specs.Overwritten.{UpdatesForget}
use Rattle.std.proofs.Common.{arith}
use Rattle.std.proofs.lemmas.Grind.{common_steps}

shown_content : (h : List ℕ → List ℕ) (content : Content) → ((bytes : List ℕ) → h bytes ≡ bytes)
    → blind_content h content ≡ content
shown_content h (Payload bytes) shown = ap Payload (shown bytes)
shown_content h (Links serials) shown = refl

shown_entry : (hide : Hiding) (n : ℕ) (e : ℕ × Key) → HidesOnly n hide → e.0 ≢ n → (e.0, blind_key (hide e.0) e.1) ≡ e
shown_entry hide n e only apart = grind (arith, common_steps, shown_content)

other_number : (n k : ℕ) → is_at (nat_cmp n) k ≡ false → k ≢ n
other_number n k apart e = true≢false (sym (is_at_same n) ∙ (ap (λ (z : ℕ). is_at (nat_cmp n) z) (sym e) ∙ apart))

-- keys without that one are as they are
shown_keys : (hide : Hiding) (n : ℕ) (es : Table Key) → HidesOnly n hide → at es n ≡ None → blind_keys hide es ≡ es
shown_keys hide n [] only none = refl
shown_keys hide n (e ∷ es) only none =
    elim (is_at (nat_cmp n) e.0) as (λ b. is_at (nat_cmp n) e.0 ≡ b → cond b (Some e.1) (at es n) ≡ None
    → blind_keys hide (e ∷ es) ≡ e ∷ es) [
      | true ↦ λ t h. absurd (none-some e.1 (sym h))
      | false ↦ λ t h.
          ap (λ (x : ℕ × Key). x ∷ blind_keys hide es) (shown_entry hide n e only (other_number n e.0 t))
          ∙ ap (λ (xs : Table Key). e ∷ xs) (shown_keys hide n es only h)
    ] refl none

paid_over : (h : List ℕ → List ℕ) (payload : List ℕ) (content : Content)
    → paid_with payload (blind_content h content) ≡ paid_with payload content
paid_over h payload (Payload bytes) = refl
paid_over h payload (Links serials) = refl

updated_over : (h : List ℕ → List ℕ) (payload : List ℕ) (v : Key) → updated payload (blind_key h v) ≡ updated payload v
updated_over h payload v = grind (arith, common_steps, paid_over)

-- the payload that was hidden is overwritten
pub updated_keys : (hide : Hiding) (n : ℕ) (payload : List ℕ) (es : Table Key) → IsDistinct es → HidesOnly n hide
    → alter (blind_keys hide es) n (updated payload) ≡ alter es n (updated payload)
updated_keys hide n payload [] distinct only = refl
updated_keys hide n payload (e ∷ es) distinct only =
    grind (
      arith,
      common_steps,
      nat_cmp,
      same_at,
      updated_over,
      shown_keys,
      shown_entry,
      other_number,
      updated_keys hide n payload es distinct.1 only,
    )

pub then_ok : {A B : Type 0} (r : Result A Errno) (f : A → Result B Errno) (x : A) (y : B) → r ≡ Ok x → f x ≡ Ok y
    → (r >>= f) ≡ Ok y
then_ok {A} {B} r f x y is h = ap (λ (q : Result A Errno). q >>= f) is ∙ h

update_same :
    (hide : Hiding) (s : State) (client context : ℕ) (id : ℤ) (payload : List ℕ) (serial : ℕ) (whose : Context)
    (end : State × Answer) → IsDistinct s.keys → HidesOnly serial hide → context_of s client context ≡ Ok whose
    → serial_of s whose id ≡ Ok serial → update s client context id payload ≡ Ok end
    → update (blind hide s) client context id payload ≡ Ok end
unfolding update context_of
update_same hide s client context id payload serial whose end distinct only own named h =
    grind (arith, common_steps, bind_ok, same_ok, found_serial, updated_keys, then_ok, blind_found, look_up_blind)

-- with this answer the ask has the same notes in both states, ends the same watches, and leads to the same one
pub record AsksAlike (s t : State) (client context : ℕ) (op : Op) (answer : Answer) : Type 0 where
  pub notes : notes_of t client context op answer ≡ notes_of s client context op answer
  pub ended : ended_by t client context op ≡ ended_by s client context op
  pub meant : (mid : State) → outcome_of s client context op ≡ Ok (mid, answer)
      → outcome_of t client context op ≡ Ok (mid, answer)

pub served_same :
    (hide : Hiding) (s new : State) (client context : ℕ) (op : Op) (answer : Answer)
    → AsksAlike s (blind hide s) client context op answer → Serves s client context op answer new
    → Serves (blind hide s) client context op answer new
served_same hide s new client context op answer alike serves = grind (arith, common_steps)

accepted_same :
    (s t new : State) (client context : ℕ) (op : Op) (reply : Result Answer Errno) → IsOk reply
    → ((answer : Answer) → Serves s client context op answer new → Serves t client context op answer new)
    → Ends s client context op reply new → Ends t client context op reply new
accepted_same s t new client context op (Ok answer) accepted stays ends = stays answer ends
accepted_same s t new client context op (Err e) accepted stays ends = absurd (true≢false (sym accepted))

update_alike :
    (hide : Hiding) (s : State) (client context : ℕ) (id : ℤ) (payload : List ℕ) (serial : ℕ) (whose : Context)
    (answer : Answer) → IsDistinct s.keys → HidesOnly serial hide → context_of s client context ≡ Ok whose
    → serial_of s whose id ≡ Ok serial → AsksAlike s (blind hide s) client context (Update id payload) answer
unfolding context_of serial_of
update_alike hide s client context id payload serial whose answer distinct only own named =
    grind (arith, common_steps, update_same)

pub updates_forget : UpdatesForget
unfolding Step
updates_forget hide old new event payload serial sound only updates step =
    let up = raised old event.moment in
    accepted_same up (blind hide up) new event.lane event.ask.context event.ask.op event.reply updates.accepted
    (λ answer. served_same hide up new event.lane event.ask.context event.ask.op answer
    (subst (λ (o : Op). AsksAlike up (blind hide up) event.lane event.ask.context o answer) (sym updates.asked)
    (update_alike hide up event.lane event.ask.context updates.id payload serial updates.names.whose answer
    (rises_distinct old.keys sound.rising) only updates.names.own updates.names.named)))
    step
