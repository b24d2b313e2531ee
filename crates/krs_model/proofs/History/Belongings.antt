-- Whose contexts are, and what is left of a client that has left.
use Rattle.std.proofs.Common.{[], ⊎_elim, ◌++◌, ◌==◌, ◌∙◌, ◌∷◌, ◌≡◌, ◌≢◌, ◌⊎◌, ap, append_assoc, arith, Bool, cond}
use Rattle.std.proofs.Common.{Err, false, filter, inr, is_ok, IsOk, List, nat_cmp, None, not, Ok, Option, option_map}
use Rattle.std.proofs.{Common.{refl, Result, Some, subst, sym, true, true≢false, ℕ}, lemmas.Bool.Decides.nat_tests}
use Rattle.std.proofs.lemmas.Option.{none-some, same_Some}
use Rattle.std.specs.BTreeMap.{is_at}
use Rattle.krs_types.specs.declared.ask.{Answer.{Answer, TheVariants.Nothing}, Op.{Op, TheVariants.{Hello, Leave}}}
use Rattle.krs_types.specs.declared.{caller.Caller.Caller, context.{Context.Context, UidRings.UidRings}}
use Rattle.krs_types.specs.declared.{errno.Errno.Errno, event.Event.Event, note.Record.Record}
use Rattle.krs_model.specs.{Asks.{Entering.without_thread, Leaving.left}, Belonging.{HasGreeted, HasNothing}}
use Rattle.krs_model.specs.{Belonging.HasStayed, Confidentiality.KeepsPrivate, History.IsLegal, Lookup.context_of}
use Rattle.krs_model.specs.{Lookup.if_own, Notes.Posting.{after_note, after_notes, records_for}, Revocation.Reads}
use Rattle.krs_model.specs.{Sound.IsSound, State.{Queue, raised, starting_at, State}, Step.{Ends, LacksMemory}}
use Rattle.krs_model.specs.{Step.{outcome_of, posts_by, Serves, Step}, Table.{alter, at, IsDistinct, put, Table}}
use Rattle.krs_model.proofs.Asks.Houses.{Alters, Begins, Departs, Detaches, entering, Enters, EntersAs, Execs, Exits}
use Rattle.krs_model.proofs.Asks.{Houses.{Forked, Houses, Named, Rings, Same, StaysWhose, Threads}, Later.bind_ok}
use Rattle.krs_model.proofs.{Asks.{Later.{same_ok, same_state}, Laws.law_of}, Isolation.Histories.keeps_from_nothing}
use Rattle.krs_model.proofs.{Isolation.Histories.private_legal, Lookups.Serials.own_there, Notes.Called.served_at}
use Rattle.krs_model.proofs.{Reach.Levels.same_is, Sound.{Changes.at_change, Steps.{legal_keeps, start_sound}}}
use Rattle.krs_model.proofs.Tables.{Changes.at_map, Distinct.{alter_distinct, at_filter_some}, Each.put_is}
use Rattle.krs_model.proofs.Tables.Entries.{rises_distinct, without_was}
use Rattle.std.proofs.lemmas.Grind.{common_steps}

-- ---- what is left of a client
-- what a filter leaves at a number passes it, under some number
passed :
    {X : Type 0} (p : ℕ × X → Bool) (es : Table X) (n : ℕ) (v : X) → at (filter p es) n ≡ Some v
    → (k : ℕ) × (p (k, v) ≡ true)
passed p [] n v there = absurd (none-some v there)
passed {X} p (e ∷ es) n v there =
    elim (p e) as (λ b. p e ≡ b → at (cond b (e ∷ filter p es) (filter p es)) n ≡ Some v → (k : ℕ)
    × (p (k, v) ≡ true)) [
      | true ↦ λ t h. elim (is_at (nat_cmp n) e.0) as
          (λ d. cond d (Some e.1) (at (filter p es) n) ≡ Some v → (k : ℕ) × (p (k, v) ≡ true)) [
            | true ↦ λ i. (e.0, subst (λ (x : X). p (e.0, x) ≡ true) (same_Some e.1 v i) t)
            | false ↦ λ i. passed p es n v i
          ] h
      | false ↦ λ t h. passed p es n v h
    ] refl there

apart : (k client : ℕ) → not (k == client) ≡ true → k ≢ client
apart k client h e = true≢false (sym h ∙ ap not (same_is k client e))

left_nothing : (s : State) (client : ℕ) → HasNothing client (left s client)
unfolding left
left_nothing s client = grind (arith, nat_tests, apart, passed)

pub notes_client : (notes : List Record) (queue : Queue) → (after_notes notes queue).client ≡ queue.client
notes_client [] queue = refl
notes_client (note ∷ notes) queue = notes_client notes (after_note note queue)

noted_client :
    (client : ℕ) (notes : List Record) (o : Option Queue) (queue : Queue)
    → option_map (after_notes notes) o ≡ Some queue → ((q : Queue) → o ≡ Some q → q.client ≢ client)
    → queue.client ≢ client
noted_client client notes None queue h unlike = absurd (none-some queue h)
noted_client client notes (Some q) queue h unlike = grind (arith, common_steps, notes_client, same_Some)

-- an accepted ask leaves the contexts as it made them
served_contexts :
    (s new : State) (client context : ℕ) (op : Op) (answer : Answer) (serves : Serves s client context op answer new)
    → new.contexts ≡ serves.mid.contexts
served_contexts s new client context op answer serves = grind (arith, common_steps)

served_leaves :
    (s new : State) (client context : ℕ) (op : Op) (answer : Answer) → op ≡ Leave
    → Serves s client context op answer new → HasNothing client new
served_leaves s new client context op answer is serves =
    let meant : outcome_of s client context Leave ≡ Ok (serves.mid, answer) =
    subst (λ (o : Op). outcome_of s client context o ≡ Ok (serves.mid, answer)) is serves.meant in
    let same : left s client ≡ serves.mid =
    same_state (Ok (left s client, Nothing)) (left s client) serves.mid Nothing answer refl meant in
    let none = left_nothing s client in
    let all : new.contexts ≡ (left s client).contexts =
    served_contexts s new client context op answer serves ∙ ap (λ (t : State). t.contexts) (sym same) in
    record {
      contexts = λ n c there. none.contexts n c (sym (ap (λ (es : Table Context). at es n) all) ∙ there);
      queues = λ n queue there. noted_client client
          (records_for n (posts_by s client context op answer new.keys)) (at serves.mid.queues n) queue
          (sym (served_at serves n) ∙ there)
          (λ q h. none.queues n q (ap (λ (t : State). at t.queues n) same ∙ h));
    }

refused_leave : (s : State) (client context : ℕ) (e : Errno) → outcome_of s client context Leave ≡ Err e → ⊥
refused_leave s client context e h = true≢false (ap is_ok h)

-- LEAVE is never refused, and takes no memory
never_refused :
    (s : State) (client context : ℕ) (op : Op) (e : Errno) → op ≡ Leave
    → (outcome_of s client context op ≡ Err e) ⊎ LacksMemory op e (outcome_of s client context op) → ⊥
never_refused s client context op e is refused = grind (arith, nat_tests, refused_leave, true≢false)

ended_leaves :
    (s new : State) (client context : ℕ) (op : Op) (reply : Result Answer Errno) → op ≡ Leave
    → Ends s client context op reply new → HasNothing client new
ended_leaves s new client context op (Ok answer) is serves = served_leaves s new client context op answer is serves
ended_leaves s new client context op (Err e) is ends = absurd (never_refused s client context op e is ends.0)

pub step_leaves :
    (old new : State) (event : Event) → Step old event new → event.ask.op ≡ Leave → HasNothing event.lane new
unfolding Step
step_leaves old new event step is = grind (arith, common_steps, ended_leaves)

-- ---- whose contexts are
-- a context of the same client and caller was there
abbrev WasThere : Table Context → Context → Type 0
WasThere old c =
    (k : ℕ) × (was : Context) × (at old k ≡ Some was) × (c.client ≡ was.client) × (c.caller ≡ was.caller)

-- its client has just named its caller, or one of the same client and caller was there
abbrev Whence : Table Context → ℕ → Op → Context → Type 0
Whence old client op c = ((c.client ≡ client) × (op ≡ Hello c.caller)) ⊎ WasThere old c

own_is_client : (client : ℕ) (found c : Context) → if_own client found ≡ Ok c → c.client ≡ client
own_is_client client found c h = grind (arith, nat_tests, same_ok)

-- a context that a client may ask in is its own
pub own_client :
    (s : State) (client number : ℕ) (c : Context) → context_of s client number ≡ Ok c → c.client ≡ client
unfolding context_of
own_client s client number c h = grind (arith, nat_tests, bind_ok, own_is_client)

changed_was :
    (f : Context → Context) (o : Option Context) (c : Context) → StaysWhose f → option_map f o ≡ Some c
    → (was : Context) × (o ≡ Some was) × (c.client ≡ was.client) × (c.caller ≡ was.caller)
changed_was f None c stays h = absurd (none-some c h)
changed_was f (Some v) c stays h =
    let same : f v ≡ c = same_Some (f v) c h in (
      v,
      refl,
      ap (λ (d : Context). d.client) (sym same) ∙ stays.client v,
      ap (λ (d : Context). d.caller) (sym same) ∙ stays.caller v,
    )

alter_was :
    (es : Table Context) (n : ℕ) (f : Context → Context) → StaysWhose f → (m : ℕ) (c : Context)
    → at (alter es n f) m ≡ Some c → WasThere es c
alter_was es n f stays m c there = grind (arith, nat_tests, changed_was, at_change)

named_whence :
    (s : State) (client : ℕ) (op : Op) (caller : Caller) (session : Option ℕ) (m : ℕ) (c : Context)
    → op ≡ Hello caller → at (put s.contexts s.next_context (entering s client caller session)) m ≡ Some c
    → Whence s.contexts client op c
named_whence s client op caller session m c is there = grind (arith, nat_tests, put_is)

enters_whence :
    (s : State) (client context : ℕ) (op : Op) (caller : Caller) (session : Option ℕ) (m : ℕ) (c : Context)
    → EntersAs s client context op caller session
    → at (put s.contexts s.next_context (entering s client caller session)) m ≡ Some c
    → Whence s.contexts client op c
enters_whence s client context op _ _ m c (Named caller rings is known) there =
    named_whence s client op caller rings.session m c is there
enters_whence s client context op _ _ m c (Forked d is own) there =
    grind (arith, nat_tests, own_there, own_client, put_is)

houses_whence :
    (s : State) (client context : ℕ) (op : Op) (contexts : Table Context) (processes : Table (Option ℕ))
    (uids : Table UidRings) → IsDistinct s.contexts → Houses s client context op contexts processes uids
    → (m : ℕ) (c : Context) → at contexts m ≡ Some c → Whence s.contexts client op c
unfolding left
houses_whence s client context op _ _ _ distinct Same m c there = inr (m, c, there, refl, refl)
houses_whence s client context op _ _ _ distinct (Begins caller session rings room is none left begun) m c there =
    named_whence s client op caller session m c is there
houses_whence s client context op _ _ _ distinct (Enters caller session room who left) m c there =
    enters_whence s client context op caller session m c who there
houses_whence s client context op _ _ _ distinct (Threads d room is own left) m c there =
    grind (arith, nat_tests, own_there, put_is)
houses_whence s client context op _ _ _ distinct (Alters d f own stays how) m c there =
    inr (alter_was s.contexts context f stays m c there)
houses_whence s client context op _ _ _ distinct (Rings d n own begun) m c there = inr (m, c, there, refl, refl)
houses_whence s client context op _ _ _ distinct (Execs d is own) m c there =
    let one = alter s.contexts context without_thread in
    inr (alter_was s.contexts context without_thread
    (record { client = λ v. refl; process = λ v. refl; caller = λ v. refl }) m c
    (at_filter_some _ one m c (alter_distinct s.contexts context without_thread distinct) there))
houses_whence s client context op _ _ _ distinct (Detaches d id gone is own found) m c there =
    grind (arith, nat_tests, changed_was, at_map)
houses_whence s client context op _ _ _ distinct (Exits d is own) m c there =
    inr (m, c, without_was s.contexts context m c distinct there, refl, refl)
houses_whence s client context op _ _ _ distinct (Departs is) m c there =
    inr (m, c, at_filter_some (λ e. not (e.1.client == client)) s.contexts m c distinct there, refl, refl)

-- the same, where the ask was accepted
abbrev Comes : State → ℕ → Op → Result Answer Errno → Context → Type 0
Comes s client op reply c =
    ((c.client ≡ client) × (op ≡ Hello c.caller) × IsOk reply) ⊎ WasThere s.contexts c

ended_comes :
    (s new : State) (client context : ℕ) (op : Op) (reply : Result Answer Errno) → IsDistinct s.contexts
    → Ends s client context op reply new → (m : ℕ) (c : Context) → at new.contexts m ≡ Some c
    → Comes s client op reply c
ended_comes s new client context op (Ok answer) distinct serves m c there =
    let same = served_contexts s new client context op answer serves in
    let mid : at serves.mid.contexts m ≡ Some c = sym (ap (λ (es : Table Context). at es m) same) ∙ there in
    let houses = ((law_of s client context op).fares.meets serves.mid answer serves.meant).houses in
    grind (arith, nat_tests, houses_whence)
ended_comes s new client context op (Err e) distinct ends m c there = grind (arith, common_steps)

step_comes :
    (old new : State) (event : Event) → IsSound old → Step old event new → (m : ℕ) (c : Context)
    → at new.contexts m ≡ Some c → Comes old event.lane event.ask.op event.reply c
unfolding Step
step_comes old new event sound step m c there = grind (arith, nat_tests, ended_comes, rises_distinct)

pub stayed_more :
    (client : ℕ) (events : List Event) (event : Event) → HasStayed client events
    → (event.lane ≡ client → event.ask.op ≡ Leave → ⊥) → HasStayed client (events ++ event ∷ [])
stayed_more client [] event h unlike = (unlike, tt)
stayed_more client (e ∷ es) event h unlike = (h.0, stayed_more client es event h.1 unlike)

greeted_more :
    (client : ℕ) (caller : Caller) (past : List Event) (event : Event) → HasGreeted client caller past
    → (event.lane ≡ client → event.ask.op ≡ Leave → ⊥) → HasGreeted client caller (past ++ event ∷ [])
greeted_more client caller past event g unlike = (
  g.0,
  g.1,
  g.2 ++ event ∷ [],
  ap (λ (l : List Event). l ++ event ∷ []) g.3 ∙ append_assoc g.0 (g.1 ∷ g.2) (event ∷ []),
  g.4,
  stayed_more client g.2 event g.5 unlike,
)

abbrev AreGreeted : State → List Event → Type 0
AreGreeted s past =
    (number : ℕ) (c : Context) → at s.contexts number ≡ Some c → HasGreeted c.client c.caller past

greeted_on :
    (old new : State) (past : List Event) (event : Event) → IsSound old → AreGreeted old past → Step old event new
    → AreGreeted new (past ++ event ∷ [])
greeted_on old new past event sound known step number c there =
    let unlike : event.lane ≡ c.client → event.ask.op ≡ Leave → ⊥ =
    λ by is. (step_leaves old new event step is).contexts number c there (sym by) in
    ⊎_elim
    (λ (named : (c.client ≡ event.lane) × (event.ask.op ≡ Hello c.caller) × IsOk event.reply).
    (past, event, [], refl, record { by = sym named.0; asked = named.1; accepted = named.2 }, tt))
    (λ (was : WasThere old.contexts c).
    greeted_more c.client c.caller past event
    (subst (λ (z : ℕ). HasGreeted z c.caller past) (sym was.3)
    (subst (λ (z : Caller). HasGreeted was.1.client z past) (sym was.4) (known was.0 was.1 was.2))) unlike)
    (step_comes old new event sound step number c there)

pub contexts_greeted :
    (n : ℕ) (events : List Event) (end : State) → IsLegal (starting_at n) events end → AreGreeted end events
contexts_greeted n events end legal =
    legal_keeps AreGreeted greeted_on (starting_at n) end [] events (start_sound n)
    (λ k d h. absurd (none-some d h)) legal

pub readers_greeted :
    (n uid : ℕ) (before : List Event) (old : State) (last : ℕ → Bool)
    → KeepsPrivate uid (λ k. false) (starting_at n) before old last
    → (reading : Event) (end : State) (serial : ℕ) → last serial ≡ true → Step old reading end
    → Reads old reading serial → (caller : Caller) × (caller.uid ≡ uid) × HasGreeted reading.lane caller before
readers_greeted n uid before old last keeps reading end serial m step reads =
    let who = reads.names.whose in
    let up = raised old reading.moment in
    let there : at old.contexts reading.ask.context ≡ Some who =
    own_there up reading.lane reading.ask.context who reads.names.own in
    let legal = private_legal uid (λ k. false) (starting_at n) before old last keeps in (
      who.caller,
      keeps_from_nothing uid n before old last keeps reading end serial m step reads,
      subst (λ (z : ℕ). HasGreeted z who.caller before)
          (own_client up reading.lane reading.ask.context who reads.names.own)
          (contexts_greeted n before old legal reading.ask.context who there),
    )
