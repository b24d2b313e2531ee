-- How the asks of contexts are told, in every store with these anchors.
use Rattle.std.specs.Prelude.{◌≡◌, Err, filter, IfOk, if◌then◌else◌, IsOk, None, Ok, Option, Result, Some, ℕ}
use Rattle.std.specs.Option.{option_or}
use Rattle.krs_types.specs.{Refusing.◌>>=◌, declared.ask.Answer.TheVariants.{Nothing, Number}}
use Rattle.krs_types.specs.declared.{caller.Caller.Caller, context.{Context.Context, UidRings.UidRings}}
use Rattle.krs_types.specs.declared.{errno.Errno.Errno, fault.Fault.{Fault, TheVariants.{Memory, Refused}}}
use Rattle.krs_model.specs.Asks.{Entering.if_context_number, Hello.{has_context_left, with_context}}
use Rattle.krs_model.specs.Asks.Invalidating.{context_without, detached, rings_without}
use Rattle.krs_model.specs.{Asks.Leaving.{contexts_without, has_process, has_uid}, Lookup.user_session_ring}
use Rattle.krs_model.specs.{Outcome.Outcome, State.State, Table.{alter, at, map_values, put, Table, without}}
use Rattle.krs_ctx.specs.Anchors.{anchored, Anchors}

-- The new anchors and the number that is answered are what is meant. ENOMEM stands only for what would have
-- been accepted; a fault leaves all as it was.
abbrev pub Enters : Anchors → Result ℕ Fault → Anchors → (State → Outcome) → Type 0
Enters old (Ok number) new meant = (s : State) → meant (anchored s old) ≡ Ok (anchored s new, Number number)
Enters old (Err Memory) new meant = ((s : State) → IsOk (meant (anchored s old))) × (new ≡ old)
Enters old (Err (Refused e)) new meant = ((s : State) → meant (anchored s old) ≡ Err e) × (new ≡ old)

-- the new anchors are what is meant, or the refusal, which leaves all as it was
abbrev pub Does : Anchors → Result (Unit {0}) Errno → Anchors → (State → Outcome) → Type 0
Does old (Ok done) new meant = (s : State) → meant (anchored s old) ≡ Ok (anchored s new, Nothing)
Does old (Err e) new meant = ((s : State) → meant (anchored s old) ≡ Err e) × (new ≡ old)

-- one more context of the client may be made: profile, contexts per client and context numbers
abbrev pub enterable : State → ℕ → Result (Unit {0}) Errno
enterable s client = do
  room ← has_context_left s client
  if_context_number s

-- the uid has these keyrings, where they were made for it
abbrev pub put_made : Table UidRings → ℕ → Option UidRings → Table UidRings
put_made uids uid None = uids
put_made uids uid (Some rings) = put uids uid rings

-- A context of the client in a process of its own; its uid's keyrings were made for it, or the uid has them.
-- profile, first session keyring
abbrev pub opened : State → ℕ → Caller → Option UidRings → State
opened s client c made =
    with_context (record s { uids = put_made s.uids c.uid made }) client c
    (user_session_ring (option_or made (at s.uids c.uid)))

abbrev pub Opens : Anchors → Anchors → ℕ → Caller → Option UidRings → Type 0
Opens old new client c made = (s : State) → anchored s new ≡ opened (anchored s old) client c made

-- a context of the client in a process of its own, with this session keyring
abbrev pub OpensWith : Anchors → Anchors → ℕ → Caller → Option ℕ → Type 0
OpensWith old new client c session = (s : State) → anchored s new ≡ with_context (anchored s old) client c session

-- HELLO of a caller that was checked
abbrev pub greeted : State → ℕ → Caller → Option UidRings → Outcome
greeted s client c made = do
  room ← enterable s client
  Ok (opened s client c made, Number s.next_context)

-- without the last context, its process and the keyrings of its uid, as if it had not been
abbrev pub taken_back : Anchors → ℕ → ℕ → Anchors
taken_back t number uid = record {
  contexts = without t.contexts number;
  processes = without t.processes number;
  uids = without t.uids uid;
  next_context = number;
}

-- taken back, the context that HELLO made for a uid with no keyrings has not been
abbrev pub CanBeTakenBack : Anchors → Result ℕ Fault → Anchors → ℕ → Type 0
CanBeTakenBack old result new uid = at old.uids uid ≡ None → IfOk result (λ n. taken_back new n uid ≡ old)

-- with the context of this number changed
abbrev pub changed : Anchors → ℕ → (Context → Context) → Anchors
changed t number f = record t { contexts = alter t.contexts number f }

-- with this keyring of a process: process-keyring(7)
abbrev pub with_ring : Anchors → ℕ → ℕ → Anchors
with_ring t process ring = record t { processes = alter t.processes process (λ was. Some ring) }

-- without the context of this number, its process and the keyrings of its uid, where these have no other:
-- process-keyring(7), user-keyring(7)
abbrev pub ended : Anchors → ℕ → Context → Anchors
ended t number c =
    let contexts = without t.contexts number in
    record t {
      contexts = contexts;
      processes = if has_process contexts c.process then t.processes else without t.processes c.process;
      uids = if has_uid contexts c.caller.uid then t.uids else without t.uids c.caller.uid;
    }

-- without the context of this number, where there is one
abbrev pub ended_where : Anchors → ℕ → Option Context → Anchors
ended_where t number None = t
ended_where t number (Some c) = ended t number c

-- without the processes and uids that have no context
abbrev pub without_idle : Anchors → Anchors
without_idle t = record t {
  processes = filter (λ e. has_process t.contexts e.0) t.processes;
  uids = filter (λ e. has_uid t.contexts e.0) t.uids;
}

-- while contexts of a client end: of what stays where all of them have ended, nothing has gone
pub record IsLeaving (client : ℕ) (old t : Anchors) : Type 0 where
  pub contexts : contexts_without client t.contexts ≡ contexts_without client old.contexts
  pub processes :
      filter (λ e. has_process (contexts_without client old.contexts) e.0) t.processes
      ≡ filter (λ e. has_process (contexts_without client old.contexts) e.0) old.processes
  pub uids :
      filter (λ e. has_uid (contexts_without client old.contexts) e.0) t.uids
      ≡ filter (λ e. has_uid (contexts_without client old.contexts) e.0) old.uids
  pub next : t.next_context ≡ old.next_context

-- with no attachment of this key: keyctl(2), KEYCTL_INVALIDATE
abbrev pub anchors_without : Anchors → ℕ → Anchors
anchors_without t serial = record t {
  contexts = map_values (context_without serial) t.contexts;
  processes = map_values (detached serial) t.processes;
  uids = map_values (rings_without serial) t.uids;
}
