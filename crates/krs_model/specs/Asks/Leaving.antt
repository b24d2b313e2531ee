-- EXIT: the end of a context: thread-keyring(7), process-keyring(7), user-keyring(7). LEAVE: the end of all that a
-- client has, which is always accepted and is this project's own: profile, leaving.
use Rattle.std.specs.{Prelude.{◌==◌, Bool, filter, if◌then◌else◌, not, Ok, ℕ}, List.list_any, Map.values_of}
use Rattle.krs_types.specs.{Refusing.◌>>=◌, declared.{ask.Answer.TheVariants.Nothing, context.Context.Context}}
use Rattle.krs_model.specs.{Asks.Watching.without_client, Lookup.context_of, Outcome.Outcome}
use Rattle.krs_model.specs.{Queues.{queues_of, with_queues}, State.State, Table.{Table, without}}

-- the contexts of the other clients
abbrev pub contexts_without : ℕ → Table Context → Table Context
contexts_without client es = filter (λ e. not (e.1.client == client)) es

-- a context of the process is there
abbrev pub has_process : Table Context → ℕ → Bool
has_process contexts process = list_any (λ c. c.process == process) (values_of contexts)

-- a context of the uid is there
abbrev pub has_uid : Table Context → ℕ → Bool
has_uid contexts uid = list_any (λ c. c.caller.uid == uid) (values_of contexts)

-- the queues and contexts of the client go; then what has no context left: processes and uids, and what has no queue
-- left: watches. Profile, leaving
unfoldable pub left : State → ℕ → State
left s client =
    let contexts = contexts_without client s.contexts in
    let rest : State = record s {
      contexts = contexts;
      processes = filter (λ e. has_process contexts e.0) s.processes;
      uids = filter (λ e. has_uid contexts e.0) s.uids;
    } in
    with_queues rest (without_client (queues_of s) client)

-- the context ends; its process ends with the last context of it: process-keyring(7); and the two keyrings of its uid
-- are let go of with the uid's last context: user-keyring(7); profile, user keyrings stay
abbrev pub exited : State → ℕ → Context → State
exited s number c =
    let contexts = without s.contexts number in
    record s {
      contexts = contexts;
      processes = if has_process contexts c.process then s.processes else without s.processes c.process;
      uids = if has_uid contexts c.caller.uid then s.uids else without s.uids c.caller.uid;
    }

-- the context that asks ends
unfoldable pub exit : State → ℕ → ℕ → Outcome
exit s client context = do
  c ← context_of s client context
  Ok (exited s context c, Nothing)
