-- An ask and its notes: what is told is known before the ask, and posted after it.
use Rattle.std.proofs.Common.{[], ⊎_elim, ◌++◌, ◌∙◌, ◌∷◌, ◌≡◌, ◌⊎◌, ap, append-nil, cond, Err, false, filter, flat_map}
use Rattle.std.proofs.Common.{inl, inr, is_some, List, map, nat_lt, None, Ok, Option, option_map, option_to_list, refl}
use Rattle.std.proofs.Common.{Result, Some, subst, sym, true, ℕ, ℤ}
use Rattle.std.specs.Result.{result_ok}
use Rattle.krs_types.specs.{Rows.row_of, declared.ask.Answer.{Answer, TheVariants.{Bytes, Nothing, Number}}}
use Rattle.krs_types.specs.declared.ask.Op.{Op, TheVariants.{Add, Watch}}
use Rattle.krs_types.specs.declared.errno.Errno.{Errno}
use Rattle.krs_types.specs.declared.{fault.Fault.Fault, note.{KeyEvent.TheVariants.{Linked, Updated}, Record.Record}}
use Rattle.krs_model.specs.Notes.{Filter.passes_if_any, Posting.{after_note, after_notes, Note, note_for, passes_at}}
use Rattle.krs_model.specs.Notes.Posting.{Post, post_all, posted_in, posts, posts_of, records_for, watches_at}
use Rattle.krs_model.specs.Notes.Telling.{about, about_added, about_link, ended_by, named, notes_of}
use Rattle.krs_model.specs.{Outcome.{Is, Leads}, Queues.{Queues, queues_of}, Sound.IsSound, State.{Key, Queue, State}}
use Rattle.krs_model.specs.{Step.outcome_of, Table.{at, Table}}
use Rattle.krs_model.proofs.{Asks.NotedKeys.{add_serial, added_before}, Notes.Posts.{at_post_all, post_all-append}}
use Rattle.krs_model.proofs.Notes.Quiet.{tells_none}
use Rattle.krs_tables.specs.Serving.{LeadsTold, Tells}
use Rattle.krs_tables.proofs.PostsAndSweep.{posted_nothing, tells_after, tells_nothing}
use Rattle.krs_store.specs.Telling.{added_note, Foretells, new_note, only, posts_told, Runs, told_by}
use Rattle.krs_store.specs.{Telling.updated_note, declared.telling.{Telling.TheVariants.OfAdded, Tellings.Tellings}}
use Rattle.krs_model.specs.Queues as queues

-- an ask that ends no watch
record EndsNone (s : State) (client context : ℕ) (op : Op) (r : Result Answer Fault) (new : State) : Type 0 where
  pub none_ended : ended_by s client context op ≡ []
  pub leads : Leads s r new (outcome_of s client context op)

-- an ask that tells no note
record TellsNone (s : State) (client context : ℕ) (op : Op) (r : Result Answer Fault) (new : State) : Type 0 where
  pub quiet : (answer : Answer) → notes_of s client context op answer ≡ []
  pub told : LeadsTold s client context op r new

-- each ask is of one sort or the other
ran_as :
    (s : State) (client context : ℕ) (op : Op) (r : Result Answer Fault) (new : State)
    → Runs s client context op r new
    → EndsNone s client context op r new ⊎ TellsNone s client context op r new
ran_as s client context (Watch id queue watch_id) r new ran = inr (record { quiet = λ answer. refl; told = ran })
ran_as s client context op r new ran = inl (record { none_ended = refl; leads = ran })

-- what an id was found to stand for is what it stands for
pub same_named : (r meant : Result ℕ Errno) → Is (λ (n : ℕ). n) r meant → r ≡ meant
same_named (Ok n) meant is = sym is
same_named (Err e) meant is = sym is

posts_told_is : (q : Queues) (o : Option Note) → posts_told q o ≡ flat_map (posts_of q) (option_to_list o)
posts_told_is q None = refl
posts_told_is q (Some note) = sym (append-nil (posts_of q note))

-- a record that came changes no filter
filter_kept : (notes : List Record) (queue : Queue) → (after_notes notes queue).filter ≡ queue.filter
filter_kept [] queue = refl
filter_kept (note ∷ notes) queue = filter_kept notes (after_note note queue)

passes_kept : (notes : List Record) (o : Option Queue) (note : Record)
    → passes_at (option_map (after_notes notes) o) note ≡ passes_at o note
passes_kept notes None note = refl
passes_kept notes (Some queue) note = ap (λ f. passes_if_any f note) (filter_kept notes queue)

passes_after : (ps : List Post) (queues : Table Queue) (q : ℕ) (note : Record)
    → passes_at (at (post_all ps queues) q) note ≡ passes_at (at queues q) note
passes_after ps queues q note =
    ap (λ o. passes_at o note) (at_post_all ps queues q) ∙ passes_kept (records_for q ps) (at queues q) note

-- a note goes to the same queues once others were posted
posts_after : (ps : List Post) (s : State) (note : Note)
    → posts_of (queues_of (posted_in ps s)) note ≡ posts_of (queues_of s) note
posts_after ps s note = λ i.
    filter (λ p. passes_after ps s.queues p.0 p.1 i) (map (note_for note) (watches_at note.key s.watches))

told_after : (ps : List Post) (s : State) (o : Option Note)
    → posts_told (queues_of (posted_in ps s)) o ≡ posts_told (queues_of s) o
told_after ps s None = refl
told_after ps s (Some note) = posts_after ps s note

both_told : (q : Queues) (first second : Option Note) → posts_told q first ++ posts_told q second
    ≡ flat_map (posts_of q) (option_to_list first ++ option_to_list second)
both_told q None second = posts_told_is q second
both_told q (Some note) second = ap (λ (ps : List Post). posts_of q note ++ ps) (posts_told_is q second)

-- two notes, one after the other
pub told_twice : (s mid told : State) (first second : Option Note)
    → mid ≡ posted_in (posts_told (queues_of s) first) s → told ≡ posted_in (posts_told (queues_of mid) second) mid
    → told ≡ posted_in (flat_map (posts_of (queues_of s)) (option_to_list first ++ option_to_list second)) s
told_twice s mid told first second one two =
    let ps = posts_told (queues_of s) first in
    let qs = posts_told (queues_of s) second in
    two
    ∙ (ap (λ (t : State). posted_in (posts_told (queues_of t) second) t) one
    ∙ (ap (λ (zs : List Post). posted_in zs (posted_in ps s)) (told_after ps s second)
    ∙ (ap (λ (zs : Table Queue). record s { queues = zs }) (sym (post_all-append ps qs s.queues))
    ∙ ap (λ (zs : List Post). posted_in zs s) (both_told (queues_of s) first second))))

-- an accepted ask, and its notes
pub ran_told :
    (s mid told : State) (client context : ℕ) (op : Op) (answer : Answer) (tellings : Tellings)
    → Runs s client context op (Ok answer) mid → Foretells tellings s client context op
    → told ≡ posted_in (flat_map (posts_of (queues_of mid)) (told_by tellings answer)) mid
    → Tells s client context op answer told
ran_told s mid told client context op answer tellings ran foretells posted =
    let goes : List Note → List Post = flat_map (posts_of (queues_of mid)) in
    ⊎_elim (λ (is : EndsNone s client context op (Ok answer) mid).
    tells_after is.leads is.none_ended
    (posted ∙ ap (λ (notes : List Note). posted_in (goes notes) mid) (foretells mid answer is.leads)))
    (λ (is : TellsNone s client context op (Ok answer) mid).
    let none = foretells is.told.mid answer is.told.meant ∙ is.quiet answer in
    let same : told ≡ mid = posted ∙ posted_nothing (goes (told_by tellings answer)) mid (ap goes none) in
    subst (λ (t : State). Tells s client context op answer t) (sym same) is.told)
    (ran_as s client context op (Ok answer) mid ran)

-- where nothing is watched no note goes anywhere
no_posts : (q : Queues) (notes : List Note) → q.watches ≡ [] → flat_map (posts_of q) notes ≡ []
no_posts q [] none = refl
no_posts q (note ∷ notes) none =
    ap (λ (ws : List queues.Watch). filter (λ p. passes_at (at q.queues p.0) p.1) (map (note_for note)
    (watches_at note.key ws)) ++ flat_map (posts_of q) notes) none
    ∙ no_posts q notes none

led_untold :
    (s new : State) (client context : ℕ) (op : Op) (r : Result Answer Fault) → s.watches ≡ []
    → EndsNone s client context op r new → LeadsTold s client context op r new
led_untold s new client context op (Err e) none is = is.leads
led_untold s new client context op (Ok answer) none is =
    let notes = notes_of s client context op answer in
    let nothing : posts (queues_of s) notes (ended_by s client context op) ≡ [] =
    rw (is.none_ended, no_posts (queues_of s) notes none) refl in
    record {
      mid = new;
      meant = is.leads;
      posted = sym (posted_nothing (posts (queues_of s) notes (ended_by s client context op)) new nothing);
    }

-- an ask of a store that watches nothing tells nothing
pub unwatched_told :
    (s new : State) (client context : ℕ) (op : Op) (r : Result Answer Fault) → s.watches ≡ []
    → Runs s client context op r new → LeadsTold s client context op r new
unwatched_told s new client context op r none ran =
    ⊎_elim (led_untold s new client context op r none)
    (λ (is : TellsNone s client context op r new). is.told) (ran_as s client context op r new ran)

led_quiet :
    (s new : State) (client context : ℕ) (op : Op) (r : Result Answer Fault) → (row_of op).tells ≡ false
    → EndsNone s client context op r new → LeadsTold s client context op r new
led_quiet s new client context op (Err e) quiet is = is.leads
led_quiet s new client context op (Ok answer) quiet is =
    tells_nothing is.leads (tells_none s client context op answer quiet) is.none_ended

-- an ask that tells no note has done all that it does
pub quiet_told :
    (s new : State) (client context : ℕ) (op : Op) (r : Result Answer Fault) → (row_of op).tells ≡ false
    → Runs s client context op r new → LeadsTold s client context op r new
quiet_told s new client context op r quiet ran =
    ⊎_elim (led_quiet s new client context op r quiet)
    (λ (is : TellsNone s client context op r new). is.told) (ran_as s client context op r new ran)

linked_told :
    (ring : Result ℕ Errno) (n : ℕ)
    → option_to_list (new_note (result_ok ring) n) ≡ about_link Linked ring (Ok n)
linked_told (Err e) n = refl
linked_told (Ok ring) n = refl

added_told :
    (keys : Table Key) (next : ℕ) (ring : Result ℕ Errno) (n : ℕ) → is_some (at keys n) ≡ nat_lt n next
    → option_to_list (added_note (result_ok ring) next (Some n)) ≡ about_added keys ring (Number n)
added_told keys next ring n same =
    rw same (elim (nat_lt n next) as (λ b.
    option_to_list (cond b (Some (updated_note n)) (new_note (result_ok ring) n))
    ≡ cond b (about Updated (Ok n)) (about_link Linked ring (Ok n))) [
      | true ↦ refl
      | false ↦ linked_told ring n
    ])

-- ADD
pub add_foretold :
    (s : State) (client context : ℕ) (type_name desc payload : List ℕ) (ring : ℤ) → IsSound s
    → Foretells (only (OfAdded (result_ok (named s client context ring)) s.next_serial)) s client context
    (Add type_name desc payload ring)
add_foretold s client context type_name desc payload ring sound mid Nothing h = refl
add_foretold s client context type_name desc payload ring sound mid (Bytes bytes) h = refl
add_foretold s client context type_name desc payload ring sound mid (Number n) h =
    append-nil (option_to_list (added_note (result_ok (named s client context ring)) s.next_serial (Some n)))
    ∙ added_told s.keys s.next_serial (named s client context ring) n
    (added_before s n sound.unused (add_serial s mid client context type_name desc payload ring n sound.placed h))
