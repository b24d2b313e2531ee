-- Rows of contexts and attachments, and of what goes with them. keyrings(7) and the pages that it names.
use Rattle.std.specs.Prelude.{[], ◌++◌, ◌∷◌, Err, false, List, pos, replicate, true}
use Rattle.krs_types.specs.declared.ask.Op.TheVariants.{Describe, Exec, Exit, Fork, GetId, Invalidate, Join, Leave}
use Rattle.krs_types.specs.declared.ask.Op.TheVariants.{Link, OpenQueue, Read, ReadQueue, Revoke, SetPerm, Thread}
use Rattle.krs_types.specs.declared.ask.Op.TheVariants.{Unlink, Watch}
use Rattle.krs_types.specs.declared.errno.Errno.TheVariants.{EPERM, ESRCH, EBADF, EACCES, EINVAL, ENOKEY, EKEYREVOKED}
use Rattle.krs_rows.specs.Words.{◌⇒◌, add, done, From, hello, hex, join, key, Line, new_ring, number, numbers_from}
use Rattle.krs_rows.specs.Words.{process_ring, request, search, session, text, thread_ring, update, user, user_session}

-- threads, forks and exec
abbrev pub contexts_of_processes : List Line
contexts_of_processes =
    hello 1000 1000 [] ⇒ number 1 ∷ GetId thread_ring false ⇒ Err ENOKEY ∷ GetId thread_ring true ⇒ number 5 ∷
    GetId process_ring true ⇒ number 6 ∷ Describe thread_ring ⇒ text "keyring;1000;1000;3f010000;_tid" ∷
    Describe process_ring ⇒ text "keyring;1000;1000;3f010000;_pid" ∷ Thread ⇒ number 2 ∷ Fork ⇒ number 3 ∷ From 0 0 2 ∷
    GetId thread_ring false ⇒ Err ENOKEY ∷ GetId process_ring false ⇒ number 6 ∷ From 0 0 3 ∷
    GetId process_ring false ⇒ Err ENOKEY ∷ GetId thread_ring false ⇒ Err ENOKEY ∷ GetId session false ⇒ number 4 ∷
    From 0 0 1 ∷ Exec ⇒ done ∷ GetId process_ring false ⇒ Err ENOKEY ∷ GetId thread_ring false ⇒ Err ENOKEY ∷
    GetId session false ⇒ number 4 ∷ From 0 0 2 ∷ GetId session false ⇒ Err ESRCH ∷ From 0 0 3 ∷
    GetId session false ⇒ number 4 ∷ []

-- JOIN takes the one of the least serial that it made and that others may search
abbrev pub sessions_by_name : List Line
sessions_by_name =
    hello 1000 1000 [] ⇒ number 1 ∷ new_ring "box" user ⇒ number 5 ∷ SetPerm (key 5) 0x3f3f0000 ⇒ done ∷
    join "" ⇒ number 6 ∷ Describe session ⇒ text "keyring;1000;1000;3f030000;_ses" ∷ join "work" ⇒ number 7 ∷
    Describe session ⇒ text "keyring;1000;1000;3f130000;work" ∷ join "work" ⇒ number 8 ∷
    SetPerm (key 8) 0x3f1b0000 ⇒ done ∷ Thread ⇒ number 2 ∷ join "" ⇒ number 9 ∷ join "work" ⇒ number 8 ∷
    join ".x" ⇒ Err EPERM ∷ join "/x" ⇒ number 10 ∷ new_ring ".x" user ⇒ Err EPERM ∷
    Join (replicate 4096 120) ⇒ Err EINVAL ∷ Join (107 ∷ 0 ∷ []) ⇒ Err EINVAL ∷ join "box" ⇒ number 11 ∷
    SetPerm session 0x3f1b0000 ⇒ done ∷ Thread ⇒ number 3 ∷ From 0 0 3 ∷ join "box" ⇒ number 11 ∷
    Revoke (key 11) ⇒ done ∷ join "box" ⇒ number 12 ∷ From 0 0 1 ∷ GetId session false ⇒ Err EKEYREVOKED ∷ []

-- the user's, the group's or the others' byte counts, never the possessor's
abbrev pub joined_as_others : List Line
joined_as_others =
    hello 1000 1000 [] ⇒ number 1 ∷ join "work" ⇒ number 5 ∷ SetPerm (key 5) 0x3f130008 ⇒ done ∷ Fork ⇒ number 2 ∷
    join "work" ⇒ number 6 ∷ hello 2000 2000 [] ⇒ number 3 ∷ From 0 0 3 ∷ GetId session false ⇒ number 8 ∷
    join "work" ⇒ number 5 ∷ GetId session false ⇒ number 5 ∷ SetPerm (key 5) 0x3f130000 ⇒ Err EACCES ∷ From 0 0 1 ∷
    join "work" ⇒ number 9 ∷ []

-- 64 of a client
abbrev pub contexts_at_most : List Line
contexts_at_most =
    hello 1000 1000 [] ⇒ number 1 ∷ numbers_from 2 63 (hello 1000 1000 []) ++ hello 1000 1000 [] ⇒ Err EINVAL ∷
    From 0 0 2 ∷ Thread ⇒ Err EINVAL ∷ Fork ⇒ Err EINVAL ∷ From 1 0 2 ∷ hello 1000 1000 [] ⇒ number 65 ∷ From 0 0 1 ∷
    Exit ⇒ done ∷ From 0 0 2 ∷ Fork ⇒ number 66 ∷ []

-- whom a client may name
abbrev pub callers : List Line
callers =
    hello 4294967295 0 [] ⇒ Err EINVAL ∷ hello 0 4294967295 [] ⇒ Err EINVAL ∷ hello 0 0 (4294967295 ∷ []) ⇒ Err EINVAL ∷
    hello 0 0 (replicate 33 7) ⇒ Err EINVAL ∷ hello 0 0 (replicate 32 7) ⇒ number 1 ∷ hello 4294967294 0 [] ⇒ number 2 ∷
    From 0 0 2 ∷ Describe user ⇒ text "keyring;4294967294;0;1f3f0000;_uid.4294967294" ∷ []

-- a context is its client's alone
abbrev pub others_contexts : List Line
others_contexts =
    hello 1000 1000 [] ⇒ number 1 ∷ add "user" "alpha" "s3" user ⇒ number 5 ∷ From 1 0 1 ∷
    hello 1000 1000 [] ⇒ number 2 ∷ From 1 0 2 ∷ Read (key 5) ⇒ text "s3" ∷ From 1 0 1 ∷ Read (key 5) ⇒ Err ESRCH ∷
    Exit ⇒ Err ESRCH ∷ Exec ⇒ Err ESRCH ∷ From 1 0 9 ∷ Thread ⇒ Err ESRCH ∷ Leave ⇒ done ∷ From 0 0 1 ∷
    Read (key 5) ⇒ text "s3" ∷ []

-- EXEC, EXIT and READ of one client end nothing that another has
abbrev pub others_stay : List Line
others_stay =
    hello 1000 1000 [] ⇒ number 1 ∷ add "user" "k" "x" user ⇒ number 5 ∷ OpenQueue 4 ⇒ number 1 ∷
    Watch (key 5) 1 (pos 1) ⇒ done ∷ From 1 0 1 ∷ hello 1000 1000 [] ⇒ number 2 ∷ From 1 0 2 ∷ OpenQueue 4 ⇒ number 2 ∷
    Watch (key 5) 2 (pos 2) ⇒ done ∷ Read (key 5) ⇒ text "x" ∷ Thread ⇒ number 3 ∷ Exec ⇒ done ∷
    GetId session false ⇒ number 4 ∷ From 1 0 3 ∷ GetId session false ⇒ Err ESRCH ∷ From 1 0 2 ∷ Exit ⇒ done ∷
    From 0 0 1 ∷ GetId session false ⇒ number 4 ∷ Read (key 5) ⇒ text "x" ∷ update (key 5) "y" ⇒ done ∷
    ReadQueue 1 64 ⇒ hex "01000001100100000500000000000000" ∷ From 1 0 1 ∷
    ReadQueue 2 64 ⇒ hex "01000001100200000500000000000000" ∷ []

-- what nothing links goes
abbrev pub last_link : List Line
last_link =
    hello 1000 1000 [] ⇒ number 1 ∷ new_ring "a" user ⇒ number 5 ∷ add "user" "k" "x" (key 5) ⇒ number 6 ∷
    Link (key 6) user ⇒ done ∷ Unlink (key 6) (key 5) ⇒ done ∷ Read (key 6) ⇒ text "x" ∷ Unlink (key 6) user ⇒ done ∷
    Read (key 6) ⇒ Err ENOKEY ∷ []

-- the keyrings of a uid go with its last context
abbrev pub last_context : List Line
last_context =
    hello 1000 1000 [] ⇒ number 1 ∷ new_ring "box" user ⇒ number 5 ∷ hello 1000 1000 [] ⇒ number 2 ∷ From 0 0 2 ∷
    Exit ⇒ done ∷ Describe (key 5) ⇒ Err ESRCH ∷ From 0 0 1 ∷ Read user ⇒ hex "05000000" ∷ Exit ⇒ done ∷
    hello 1000 1000 [] ⇒ number 3 ∷ From 0 0 3 ∷ GetId user false ⇒ number 6 ∷ Describe (key 5) ⇒ Err ENOKEY ∷ []

-- a process keyring goes with its last context, a thread keyring with its own
abbrev pub last_of_a_process : List Line
last_of_a_process =
    hello 1000 1000 [] ⇒ number 1 ∷ add "user" "p" "x" process_ring ⇒ number 6 ∷
    add "user" "t" "x" thread_ring ⇒ number 8 ∷ Thread ⇒ number 2 ∷ Fork ⇒ number 3 ∷ Exit ⇒ done ∷ From 0 0 2 ∷
    Read (key 6) ⇒ text "x" ∷ GetId process_ring false ⇒ number 5 ∷ Read (key 8) ⇒ Err ENOKEY ∷ Exit ⇒ done ∷
    From 0 0 3 ∷ Read (key 6) ⇒ Err ENOKEY ∷ []

-- LEAVE ends all contexts and queues of a client, and no other's
abbrev pub leaving : List Line
leaving =
    hello 1000 1000 [] ⇒ number 1 ∷ add "user" "k" "x" user ⇒ number 5 ∷ join "" ⇒ number 6 ∷
    add "user" "s" "x" session ⇒ number 7 ∷ OpenQueue 4 ⇒ number 1 ∷ Watch (key 5) 1 (pos 1) ⇒ done ∷ From 1 0 1 ∷
    hello 1000 1000 [] ⇒ number 2 ∷ From 1 0 2 ∷ OpenQueue 4 ⇒ number 2 ∷ Watch (key 5) 2 (pos 2) ⇒ done ∷ From 0 0 1 ∷
    Leave ⇒ done ∷ Read (key 5) ⇒ Err ESRCH ∷ ReadQueue 1 64 ⇒ Err EBADF ∷ From 1 0 2 ∷ Read (key 5) ⇒ text "x" ∷
    Read (key 7) ⇒ Err ENOKEY ∷ update (key 5) "y" ⇒ done ∷ ReadQueue 2 64 ⇒ hex "01000001100200000500000000000000" ∷
    Leave ⇒ done ∷ Leave ⇒ done ∷ hello 1000 1000 [] ⇒ number 3 ∷ From 1 0 3 ∷ Read (key 5) ⇒ Err ENOKEY ∷ []

-- out of every keyring and attachment at once
abbrev pub invalidated : List Line
invalidated =
    hello 1000 1000 [] ⇒ number 1 ∷ Invalidate user_session ⇒ done ∷ GetId session false ⇒ Err ENOKEY ∷
    GetId user_session false ⇒ Err ENOKEY ∷ GetId user false ⇒ number 3 ∷ hello 1000 1000 [] ⇒ number 2 ∷ From 0 0 2 ∷
    GetId session false ⇒ Err ENOKEY ∷ join "" ⇒ number 5 ∷ Link user session ⇒ done ∷ new_ring "a" user ⇒ number 6 ∷
    add "user" "k" "x" (key 6) ⇒ number 7 ∷ Link (key 7) user ⇒ done ∷ SetPerm (key 7) 0x37370000 ⇒ done ∷
    Invalidate (key 7) ⇒ Err EACCES ∷ Invalidate (key 6) ⇒ done ∷ Read user ⇒ hex "07000000" ∷
    add "user" "p" "x" process_ring ⇒ number 9 ∷ Invalidate process_ring ⇒ done ∷ Read (key 9) ⇒ Err ENOKEY ∷
    GetId process_ring true ⇒ number 10 ∷ []

-- what an ask makes counts as made, and is not made where the ask is refused
abbrev pub made_and_refused : List Line
made_and_refused =
    hello 1000 1000 [] ⇒ number 1 ∷ add "user" "k" "x" (key 77) ⇒ Err ENOKEY ∷
    add "keyring" ".x" "x" thread_ring ⇒ Err EPERM ∷ Link (key 77) thread_ring ⇒ Err ENOKEY ∷
    GetId thread_ring false ⇒ Err ENOKEY ∷ search user "user" "none" thread_ring ⇒ Err ENOKEY ∷
    request "user" "none" process_ring ⇒ Err ENOKEY ∷ GetId process_ring false ⇒ Err ENOKEY ∷
    Revoke thread_ring ⇒ Err ENOKEY ∷ add "user" "k" "x" user ⇒ number 5 ∷
    search user "user" "k" thread_ring ⇒ number 5 ∷ GetId thread_ring false ⇒ number 6 ∷ Read (key 6) ⇒ hex "05000000" ∷
    add "user" "k2" "x" process_ring ⇒ number 8 ∷ GetId process_ring false ⇒ number 7 ∷ []
