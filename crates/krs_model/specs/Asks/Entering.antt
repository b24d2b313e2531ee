-- THREAD, FORK and EXEC: the contexts of a process. clone(2), fork(2) and execve(2), as keyrings(7) tells of them.
use Rattle.std.specs.Prelude.{◌+◌, ◌==◌, ◌||◌, Err, filter, if◌then◌else◌, nat_lt, None, not, Ok, Result, ℕ}
use Rattle.krs_types.specs.{Refusing.◌>>=◌, declared.ask.Answer.TheVariants.{Nothing, Number}}
use Rattle.krs_types.specs.declared.{context.Context.Context, errno.Errno.{Errno, TheVariants.ENOSPC}}
use Rattle.krs_model.specs.Asks.Hello.{has_context_left, with_context}
use Rattle.krs_model.specs.{Lookup.context_of, Outcome.Outcome, State.State, Table.{alter, put}}

-- a context number is left: profile, context numbers
abbrev pub if_context_number : State → Result (Unit {0}) Errno
if_context_number s = if nat_lt 4294967295 s.next_context then Err ENOSPC else Ok tt

-- the context without a thread keyring
abbrev pub without_thread : Context → Context
without_thread c = record c { thread = None }

-- a context of the same caller and process, with the same session keyring and without a thread keyring:
-- thread-keyring(7); profile, no thread keyring at first
unfoldable pub thread : State → ℕ → ℕ → Outcome
thread s client context = do
  c ← context_of s client context
  room ← has_context_left s client
  left ← if_context_number s
  Ok (
    record s { contexts = put s.contexts s.next_context (without_thread c); next_context = s.next_context + 1 },
    Number s.next_context,
  )

-- a context of the same caller in a process of its own, with the same session keyring, and without a thread or process
-- keyring: process-keyring(7); profile, no thread keyring at first
unfoldable pub fork : State → ℕ → ℕ → Outcome
fork s client context = do
  c ← context_of s client context
  room ← has_context_left s client
  left ← if_context_number s
  Ok (with_context s client c.caller c.session, Number s.next_context)

-- the other contexts of the process end, and neither it nor this one has a keyring of its own left; the session
-- keyring stays: thread-keyring(7), process-keyring(7), session-keyring(7)
abbrev pub execed : State → ℕ → Context → State
execed s number c = record s {
  contexts = filter (λ e. not (e.1.process == c.process) || (e.0 == number)) (alter s.contexts number without_thread);
  processes = alter s.processes c.process (λ ring. None);
}

-- of its process the context stays alone, without a thread or process keyring: profile, exec ends the others
unfoldable pub exec : State → ℕ → ℕ → Outcome
exec s client context = do
  c ← context_of s client context
  Ok (execed s context c, Nothing)
