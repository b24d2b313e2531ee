-- Thread and process keyrings that an ask makes where it wants one and there is none: thread-keyring(7),
-- process-keyring(7); profile, made on demand; profile, counts as made.
use Rattle.std.specs.Prelude.{[], ◌&&◌, ◌+◌, Bool, codes, Err, false, if◌then◌else◌, List, nat_lt, None, Ok, Option}
use Rattle.std.specs.Prelude.{Result, Some, ℕ, ℤ}
use Rattle.krs_types.specs.{KeyId.key_id_of, Perm.key_mask, declared.{caller.Caller.Caller, context.Context.Context}}
use Rattle.krs_types.specs.declared.{errno.Errno.{Errno, TheVariants.ENOSPC}, key_id.KeyId.KeyId}
use Rattle.krs_types.specs.declared.key_id.KeyId.TheVariants.{Process, Serial, Session, Thread, User, UserSession}
use Rattle.krs_types.specs.declared.kind.Kind.TheVariants.{Keyring}
use Rattle.krs_model.specs.{Outcome.Outcome, Possession.process_ring, State.{Key, Links, State}, Table.{alter, put}}

-- an empty keyring that the service makes for a caller
abbrev pub own_ring : List ℕ → ℕ → Bool → Caller → Key
own_ring desc perm joined c = record {
  kind = Keyring;
  desc = desc;
  uid = c.uid;
  gid = c.gid;
  perm = perm;
  expiry = None;
  revoked = false;
  joined = joined;
  closed = false;
  content = Links [];
}

-- a key under the next serial
abbrev pub with_new : State → Key → State
with_new s key = record s { keys = put s.keys s.next_serial key; next_serial = s.next_serial + 1 }

-- a thread or process keyring: profile, masks of new keys
abbrev pub special_ring : List ℕ → Caller → Key
special_ring desc c = own_ring desc key_mask false c

-- the context with this thread keyring
abbrev pub thread_to : ℕ → Context → Context
thread_to ring c = record c { thread = Some ring }

-- the context has a new thread keyring: thread-keyring(7)
abbrev pub with_thread : State → ℕ → Context → State
with_thread s number c = record (with_new s (special_ring (codes "_tid") c.caller)) {
  contexts = alter s.contexts number (thread_to s.next_serial);
}

-- the process has a new keyring: process-keyring(7)
abbrev pub with_process : State → Context → State
with_process s c = record (with_new s (special_ring (codes "_pid") c.caller)) {
  processes = alter s.processes c.process (λ none. Some s.next_serial);
}

-- the store and the context, with a thread keyring made where the context has none
abbrev pub thread_made : State → ℕ → Context → Option ℕ → State × Context
thread_made s number c (Some ring) = (s, c)
thread_made s number c None = (with_thread s number c, thread_to s.next_serial c)

-- the store and the context, with a process keyring made where the context's process has none
abbrev pub process_made : State → Context → Option ℕ → State × Context
process_made s c (Some ring) = (s, c)
process_made s c None = (with_process s c, c)

-- no id makes a keyring but that of the thread and that of the process keyring: profile, made on demand
abbrev pub made_at : State → ℕ → Context → Result KeyId Errno → State × Context
made_at s number c (Err e) = (s, c)
made_at s number c (Ok (Serial n)) = (s, c)
made_at s number c (Ok Thread) = thread_made s number c c.thread
made_at s number c (Ok Process) = process_made s c (process_ring s c.process)
made_at s number c (Ok Session) = (s, c)
made_at s number c (Ok User) = (s, c)
made_at s number c (Ok UserSession) = (s, c)

-- The store, and the context of this number in it, with the keyring made that an id stands for, where it is the thread
-- or the process keyring and there is none: profile, made on demand. An ask that makes keyrings is looked up and
-- refused in this state; what it refuses was never made: profile, counts as made
unfoldable pub made_for : State → ℕ → Context → ℤ → State × Context
made_for s number c id = made_at s number c (key_id_of id)

-- the serials that an accepted ask gives are not above the last one: profile, serials run out. All its other refusals
-- come before: profile, numbers before memory
abbrev pub within_serials : State → Outcome → Outcome
within_serials old (Err e) = Err e
within_serials old (Ok done) =
    if nat_lt old.next_serial done.0.next_serial && nat_lt 2147483648 done.0.next_serial then Err ENOSPC else Ok done
