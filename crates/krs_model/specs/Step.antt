-- One step of a store: an ask that is served at a moment, and its reply. The form is this project's own; what each
-- ask means has its source where the ask is defined.
use Rattle.std.specs.Prelude.{[], ◌++◌, ◌≡◌, ◌⊎◌, Err, IsOk, List, Ok, Result, true, ℕ}
use Rattle.krs_types.specs.{Growth.grows, declared.ask.Answer.{Answer, TheVariants.Nothing}}
use Rattle.krs_types.specs.declared.ask.Op.{Op, TheVariants.{Add, Chown, Clear, CloseQueue, Describe, Exec, Exit, Fork}}
use Rattle.krs_types.specs.declared.ask.Op.TheVariants.{GetId, Hello, Invalidate, Join, Leave, Link, Move, OpenQueue}
use Rattle.krs_types.specs.declared.ask.Op.TheVariants.{Read, ReadQueue, Request, RestrictKeyring, Revoke, Search}
use Rattle.krs_types.specs.declared.ask.Op.TheVariants.{SetFilter, SetPerm, SetTimeout, Thread, Unlink, Update, Watch}
use Rattle.krs_types.specs.declared.{errno.Errno.{Errno, TheVariants.ENOMEM}, event.Event.Event}
use Rattle.krs_model.specs.Asks.Adding.{add}
use Rattle.krs_model.specs.Asks.{Changing.{chown, revoke, set_perm, set_timeout, update}, Entering.{exec, fork, thread}}
use Rattle.krs_model.specs.Asks.{Finding.{get_id, request, search_from}, Hello.hello, Invalidating.invalidate}
use Rattle.krs_model.specs.Asks.{Joining.join, Leaving.{exit, left}, Linked.{clear, link, restrict_keyring, unlink}}
use Rattle.krs_model.specs.Asks.{Moving.move_link, Reading.{describe, read}}
use Rattle.krs_model.specs.Asks.Watching.{close_queue, open_queue, read_queue, set_filter, watch}
use Rattle.krs_model.specs.Notes.{Posting.{dropped_watches, Post, posted_in, posts}, Telling.{ended_by, notes_of}}
use Rattle.krs_model.specs.{Outcome.Outcome, Queues.queues_of, State.{Key, raised, State}, Sweep.IsSweep, Table.Table}
use Rattle.krs_model.specs.Queues as queues

-- what a client's ask in a context comes to
abbrev pub outcome_of : State → ℕ → ℕ → Op → Outcome
outcome_of s client context (Hello caller) = hello s client caller
outcome_of s client context Thread = thread s client context
outcome_of s client context Fork = fork s client context
outcome_of s client context Exec = exec s client context
outcome_of s client context (GetId id create) = get_id s client context id create
outcome_of s client context (Join name) = join s client context name
outcome_of s client context (Search head type_name desc dest) = search_from s client context head type_name desc dest
outcome_of s client context (Request type_name desc dest) = request s client context type_name desc dest
outcome_of s client context (Add type_name desc payload ring) = add s client context type_name desc payload ring
outcome_of s client context (Update id payload) = update s client context id payload
outcome_of s client context (Revoke id) = revoke s client context id
outcome_of s client context (Invalidate id) = invalidate s client context id
outcome_of s client context (Chown id uid gid) = chown s client context id uid gid
outcome_of s client context (SetPerm id mask) = set_perm s client context id mask
outcome_of s client context (SetTimeout id seconds) = set_timeout s client context id seconds
outcome_of s client context (Link key ring) = link s client context key ring
outcome_of s client context (Unlink key ring) = unlink s client context key ring
outcome_of s client context (Move key from to flags) = move_link s client context key from to flags
outcome_of s client context (Clear id) = clear s client context id
outcome_of s client context (RestrictKeyring ring type_name) = restrict_keyring s client context ring type_name
outcome_of s client context (Read id) = read s client context id
outcome_of s client context (Describe id) = describe s client context id
outcome_of s client context (Watch id queue watch_id) = watch s client context id queue watch_id
outcome_of s client context (OpenQueue capacity) = open_queue s client capacity
outcome_of s client context (SetFilter queue entries) = set_filter s client queue entries
outcome_of s client context (ReadQueue queue room) = read_queue s client queue room
outcome_of s client context (CloseQueue queue) = close_queue s client queue
outcome_of s client context Exit = exit s client context
outcome_of s client context Leave = Ok (left s client, Nothing)

-- where this unfolds, what each ask comes to does
unfoldable pub each_ask : Type 0
unfolding
    hello thread fork exec get_id join search_from request add update revoke invalidate chown set_perm set_timeout link
    unlink move_link clear restrict_keyring read describe watch open_queue set_filter read_queue close_queue exit left
each_ask = Unit {0}

-- the watches that an accepted ask leaves, before the sweep
abbrev pub watches_left : Outcome → List queues.Watch
watches_left (Err e) = []
watches_left (Ok done) = done.0.watches

-- What an accepted ask posts, where these keys stay: its notes, by the watches and filters of the state before it;
-- then removal records for the watch that it ended, and for those whose keys are gone: profile, order of notes
abbrev pub posts_by : State → ℕ → ℕ → Op → Answer → Table Key → List Post
posts_by s client context op answer keys =
    posts (queues_of s) (notes_of s client context op answer)
    (ended_by s client context op ++ dropped_watches keys (watches_left (outcome_of s client context op)))

-- an accepted ask has its effect, and then the sweep; then its records are posted, one after the other
pub record Serves (s : State) (client context : ℕ) (op : Op) (answer : Answer) (new : State) : Type 0 where
  pub mid : State
  pub swept : State
  pub meant : outcome_of s client context op ≡ Ok (mid, answer)
  pub sweep : IsSweep mid swept
  pub posted : new ≡ posted_in (posts_by s client context op answer swept.keys) swept

-- ENOMEM, of an ask that takes memory and would be accepted
abbrev pub LacksMemory : Op → Errno → Outcome → Type 0
LacksMemory op e meant = (e ≡ ENOMEM) × (grows op ≡ true) × IsOk meant

-- A refusal leaves everything as it was: profile, refusals change nothing. So does ENOMEM, which is lawful only where
-- nothing else refuses an ask that takes memory: profile, out of memory
abbrev pub Ends : State → ℕ → ℕ → Op → Result Answer Errno → State → Type 0
Ends s client context op (Ok answer) new = Serves s client context op answer new
Ends s client context op (Err e) new =
    ((outcome_of s client context op ≡ Err e) ⊎ LacksMemory op e (outcome_of s client context op)) × (new ≡ s)

-- from old to new by one event: its lane is the client. The clock is raised first, whatever comes of the ask:
-- profile, one clock
unfoldable pub Step : State → Event → State → Type 0
Step old event new =
    Ends (raised old event.moment) event.lane event.ask.context event.ask.op event.reply new
