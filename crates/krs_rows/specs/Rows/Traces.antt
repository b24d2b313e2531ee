-- What Linux answered to asks like these: each trace is of a store of its own, with the serials of this one. The links
-- of a keyring are the set that Linux gave, in link order.
use Rattle.std.specs.Prelude.{[], ◌∷◌, codes, Err, false, List, true}
use Rattle.krs_types.specs.declared.ask.Op.TheVariants.{Add, Chown, Clear, Describe, Exec, Exit, Fork, GetId}
use Rattle.krs_types.specs.declared.ask.Op.TheVariants.{Invalidate, Link, Move, Read, Revoke, SetPerm, SetTimeout}
use Rattle.krs_types.specs.declared.ask.Op.TheVariants.{Thread, Unlink, Update}
use Rattle.krs_types.specs.declared.errno.Errno.TheVariants.{EPERM, ENOENT, EACCES, EEXIST, ENODEV, ENOTDIR, EINVAL}
use Rattle.krs_types.specs.declared.errno.Errno.TheVariants.{EDEADLK, EOPNOTSUPP, ENOKEY, EKEYREVOKED}
use Rattle.krs_rows.specs.Words.{◌⇒◌, add, bytes_of, done, From, hello, hex, join, key, Line, new_ring, nowhere, number}
use Rattle.krs_rows.specs.Words.{process_ring, request, restrict, search, session, text, thread_ring, update, user}
use Rattle.krs_rows.specs.Words.{user_session}

-- traces 1 to 40
abbrev pub traces_from_1 : List (List Line)
traces_from_1 =
    (From 0 1000000 1 ∷ hello 3000000005 3000000007 (7 ∷ 8 ∷ 9 ∷ 1001 ∷ []) ⇒ number 1 ∷ join "third" ⇒ number 5 ∷
    request "user" "c" nowhere ⇒ Err ENOKEY ∷ GetId thread_ring false ⇒ Err ENOKEY ∷
    Link (key 5) (key 5) ⇒ Err EDEADLK ∷ From 0 1000001 1 ∷ new_ring "r2" (key 5) ⇒ number 6 ∷
    request "keyring" "third" nowhere ⇒ number 5 ∷ SetTimeout (key 5) 2 ⇒ done ∷ Revoke (key 5) ⇒ done ∷
    update (key 5) "s164" ⇒ Err EKEYREVOKED ∷ Revoke (key 5) ⇒ Err EKEYREVOKED ∷
    Chown (key 5) 4294967295 7 ⇒ Err EKEYREVOKED ∷ search session "user" "c" nowhere ⇒ Err EKEYREVOKED ∷
    Unlink (key 5) (key 6) ⇒ Err ENOKEY ∷ []) ∷
    (From 0 1000000 1 ∷ hello 1002 1002 [] ⇒ number 1 ∷ GetId user false ⇒ number 3 ∷
    GetId user_session false ⇒ number 4 ∷ update (key 4) "s556" ⇒ Err EOPNOTSUPP ∷ Read session ⇒ hex "03000000" ∷
    SetPerm user 0x1b080b02 ⇒ done ∷ Link user user_session ⇒ done ∷ Unlink (key 3) user_session ⇒ done ∷
    Fork ⇒ number 2 ∷ Invalidate (key 4) ⇒ done ∷ new_ring "r6" user ⇒ Err EACCES ∷
    Link user (key 3) ⇒ Err EACCES ∷ Describe (key 4) ⇒ Err ENOKEY ∷ Exec ⇒ done ∷ []) ∷
    (From 0 1000000 1 ∷ hello 1002 1002 (7 ∷ []) ⇒ number 1 ∷ join "work" ⇒ number 5 ∷
    Describe (key 5) ⇒ text "keyring;1002;1002;3f130000;work" ∷ Move (key 5) (key 5) user_session 0 ⇒ Err ENOENT ∷
    new_ring "ring" user ⇒ number 6 ∷ Link (key 5) (key 5) ⇒ Err EDEADLK ∷
    request "keyring" "work" nowhere ⇒ number 5 ∷ SetTimeout (key 6) 1000 ⇒ Err EACCES ∷
    search session "keyring" "work" nowhere ⇒ number 5 ∷ add "logon" "a" "s428" session ⇒ Err EINVAL ∷
    search thread_ring "logon" "c" thread_ring ⇒ Err ENOKEY ∷ SetPerm (key 6) 0x3f000000 ⇒ Err EACCES ∷
    Add (codes "user") (codes "a") (bytes_of (codes "b2a504cabd")) (key 6) ⇒ Err EACCES ∷
    Move (key 6) (key 6) (key 5) 1 ⇒ Err EACCES ∷ []) ∷
    (From 0 1000000 1 ∷ hello 1000 1000 (7 ∷ []) ⇒ number 1 ∷ join "work" ⇒ number 5 ∷ Link user session ⇒ done ∷
    SetPerm (key 5) 0x3f010000 ⇒ done ∷ Read (key 1) ⇒ Err ENOKEY ∷ Link session user_session ⇒ done ∷
    SetPerm (key 5) 0x00020808 ⇒ done ∷ request "keyring" "work" nowhere ⇒ Err EACCES ∷
    update session "s649" ⇒ Err EACCES ∷ Read (key 5) ⇒ hex "03000000" ∷ Chown (key 5) 4294967295 7 ⇒ Err EACCES ∷
    GetId session true ⇒ Err EACCES ∷ Describe session ⇒ Err EACCES ∷ GetId (key 3) false ⇒ number 3 ∷ []) ∷
    (From 0 1000000 1 ∷ hello 1000 7 (7 ∷ []) ⇒ number 1 ∷ join "third" ⇒ number 5 ∷ Revoke (key 5) ⇒ done ∷
    Thread ⇒ number 2 ∷ Clear (key 5) ⇒ Err EKEYREVOKED ∷ request "user" "c" nowhere ⇒ Err ENOKEY ∷
    Read (key 5) ⇒ Err EKEYREVOKED ∷ SetPerm (key 5) 0x043f2004 ⇒ Err EKEYREVOKED ∷ From 0 1000000 2 ∷
    search session "user" "_ses" nowhere ⇒ Err EKEYREVOKED ∷ Clear session ⇒ Err EKEYREVOKED ∷
    restrict (key 5) "" ⇒ Err EKEYREVOKED ∷ add "keyring" "third" "s86" user ⇒ Err EINVAL ∷
    SetPerm (key 5) 0x2b103f04 ⇒ Err EKEYREVOKED ∷ Link user_session (key 5) ⇒ Err EKEYREVOKED ∷ []) ∷
    (From 0 1000000 1 ∷ hello 1002 1002 [] ⇒ number 1 ∷ GetId user false ⇒ number 3 ∷
    GetId user_session false ⇒ number 4 ∷ join "third" ⇒ number 5 ∷ Link user session ⇒ done ∷
    restrict (key 5) "" ⇒ done ∷ Link (key 3) (key 5) ⇒ Err EPERM ∷ Chown (key 5) 4294967295 1002 ⇒ done ∷
    join "work" ⇒ number 6 ∷ Invalidate (key 6) ⇒ done ∷ Revoke (key 6) ⇒ Err ENOKEY ∷
    Move (key 3) (key 4) (key 5) 1 ⇒ Err ENOKEY ∷ Move (key 3) (key 4) (key 3) 1 ⇒ Err EDEADLK ∷
    new_ring "_uid_ses.1001" (key 4) ⇒ number 7 ∷ []) ∷
    (From 0 1000000 1 ∷ hello 1002 1002 (7 ∷ 8 ∷ 9 ∷ 1001 ∷ []) ⇒ number 1 ∷ join "" ⇒ number 5 ∷
    Revoke (key 5) ⇒ done ∷ SetTimeout (key 5) 1000 ⇒ Err EKEYREVOKED ∷ new_ring "r3" (key 5) ⇒ Err EKEYREVOKED ∷
    Describe (key 5) ⇒ Err EKEYREVOKED ∷ Move (key 5) (key 5) (key 5) 0 ⇒ Err EKEYREVOKED ∷
    search (key 5) "keyring" "_ses" nowhere ⇒ Err EKEYREVOKED ∷ GetId (key 5) false ⇒ Err EKEYREVOKED ∷
    Read user ⇒ hex "" ∷ search (key 5) "keyring" "_ses" nowhere ⇒ Err EKEYREVOKED ∷ join "work" ⇒ number 6 ∷
    add "keyring" "work" "s176" (key 6) ⇒ Err EINVAL ∷ search (key 6) "keyring" "k:1" (key 6) ⇒ Err ENOKEY ∷ []) ∷
    (From 0 1000000 1 ∷ hello 3000000005 3000000007 [] ⇒ number 1 ∷ GetId user false ⇒ number 3 ∷
    GetId user_session false ⇒ number 4 ∷ GetId user true ⇒ number 3 ∷
    add "keyring" "_uid_ses.3000000005" "s252" (key 3) ⇒ Err EINVAL ∷ update (key 3) "s439" ⇒ Err EOPNOTSUPP ∷
    new_ring "ring" (key 4) ⇒ number 5 ∷ Move (key 5) (key 4) user_session 0 ⇒ done ∷
    search (key 5) "keyring" "_uid_ses.3000000005" nowhere ⇒ Err ENOKEY ∷
    add "trusted" "c" "s932" (key 4) ⇒ Err ENODEV ∷ update (key 0) "s906" ⇒ Err EINVAL ∷
    Describe (key 2147483647) ⇒ Err ENOKEY ∷ SetPerm (key 5) 0x3f000000 ⇒ done ∷
    update (key 2147483647) "s66" ⇒ Err ENOKEY ∷ []) ∷
    (From 0 1000000 1 ∷ hello 1000 1000 (7 ∷ []) ⇒ number 1 ∷ GetId user false ⇒ number 3 ∷
    GetId user_session false ⇒ number 4 ∷ join "third" ⇒ number 5 ∷ GetId thread_ring false ⇒ Err ENOKEY ∷
    Invalidate (key 5) ⇒ done ∷ Link (key 4) session ⇒ Err ENOKEY ∷ GetId session false ⇒ Err ENOKEY ∷
    add "keyring" "third" "s755" user ⇒ Err EINVAL ∷ restrict thread_ring "" ⇒ Err ENOKEY ∷
    add "user" "b" "s501" (key 3) ⇒ number 6 ∷ request "user" "b" nowhere ⇒ Err ENOKEY ∷
    new_ring "r3" session ⇒ Err ENOKEY ∷ restrict (key 6) "" ⇒ Err EACCES ∷ []) ∷
    (From 0 1000000 1 ∷ hello 3000000005 3000000007 [] ⇒ number 1 ∷ GetId user false ⇒ number 3 ∷
    GetId user_session false ⇒ number 4 ∷ Thread ⇒ number 2 ∷ new_ring "r2" (key 3) ⇒ number 5 ∷
    new_ring "r2" (key 4) ⇒ number 6 ∷ Unlink (key 5) (key 3) ⇒ done ∷ Exit ⇒ done ∷ From 0 1000000 2 ∷
    SetPerm (key 6) 0x3f20001b ⇒ done ∷ request "keyring" "r2" (key 6) ⇒ Err EDEADLK ∷
    Unlink (key 4) (key 3) ⇒ Err ENOENT ∷ search session "keyring" "_uid.3000000005" nowhere ⇒ number 3 ∷
    Thread ⇒ number 3 ∷ Link (key 4) (key 3) ⇒ Err EDEADLK ∷ []) ∷
    (From 0 1000000 1 ∷ hello 1002 1002 (1000 ∷ 1002 ∷ []) ⇒ number 1 ∷ join "other" ⇒ number 5 ∷
    Link user session ⇒ done ∷ Link (key 5) session ⇒ Err EDEADLK ∷
    Move session user_session (key 5) 0 ⇒ Err ENOENT ∷ new_ring "r2" session ⇒ number 6 ∷
    add "trusted" "a" "s249" (key 6) ⇒ Err ENODEV ∷ SetPerm (key 5) 0x00000000 ⇒ done ∷
    GetId user true ⇒ number 3 ∷ Invalidate (key 6) ⇒ Err EACCES ∷ Invalidate (key 6) ⇒ Err EACCES ∷
    Unlink (key 6) (key 5) ⇒ Err EACCES ∷ Clear session ⇒ Err EACCES ∷ Revoke user ⇒ done ∷ []) ∷
    (From 0 1000000 1 ∷ hello 1000 1000 [] ⇒ number 1 ∷ GetId user false ⇒ number 3 ∷
    GetId user_session false ⇒ number 4 ∷ join "" ⇒ number 5 ∷ Link (key 4) (key 3) ⇒ Err EDEADLK ∷
    new_ring "_tid" session ⇒ number 6 ∷ search session "keyring" "_uid.1000" nowhere ⇒ Err ENOKEY ∷
    Fork ⇒ number 2 ∷ Read thread_ring ⇒ Err ENOKEY ∷ Read (key 5) ⇒ hex "06000000" ∷
    search process_ring "user" "_uid_ses.1001" nowhere ⇒ Err ENOKEY ∷ Clear (key 5) ⇒ done ∷
    search (key 4) "keyring" "_uid_ses.1000" (key 4) ⇒ Err EDEADLK ∷ SetPerm (key 5) 0xffffffff ⇒ Err EINVAL ∷ []) ∷
    (From 0 1000000 1 ∷ hello 1001 1000 (1001 ∷ []) ⇒ number 1 ∷ GetId user false ⇒ number 3 ∷
    GetId user_session false ⇒ number 4 ∷ join "third" ⇒ number 5 ∷
    add "keyring" "third" "s866" (key 3) ⇒ Err EINVAL ∷ SetPerm (key 5) 0x00003f3f ⇒ done ∷
    Chown (key 5) 1001 4294967295 ⇒ Err EACCES ∷ Read (key 5) ⇒ Err EACCES ∷ Describe (key 5) ⇒ Err EACCES ∷
    SetPerm (key 5) 0x20373f04 ⇒ Err EACCES ∷ GetId session true ⇒ Err EACCES ∷
    search (key 3) "user" "b" nowhere ⇒ Err ENOKEY ∷
    search (key 5) "keyring" "_uid_ses.1001" nowhere ⇒ Err EACCES ∷ Unlink (key 3) (key 4) ⇒ done ∷ []) ∷
    (From 0 1000000 1 ∷ hello 1000 1000 (7 ∷ []) ⇒ number 1 ∷ GetId user false ⇒ number 3 ∷
    GetId user_session false ⇒ number 4 ∷ join "third" ⇒ number 5 ∷
    add "keyring" ".dot" "s578" (key 4) ⇒ Err EPERM ∷ SetTimeout (key 5) 2 ⇒ done ∷
    search (key 5) "logon" "k:2" (key 3) ⇒ Err ENOKEY ∷ new_ring "r7" (key 3) ⇒ number 6 ∷
    SetTimeout (key 6) 0 ⇒ Err EACCES ∷ Describe (key 5) ⇒ text "keyring;1000;1000;3f130000;third" ∷
    join "other" ⇒ number 7 ∷ Read (key 7) ⇒ hex "" ∷ Revoke (key 6) ⇒ Err EACCES ∷
    Link (key 3) (key 3) ⇒ Err EDEADLK ∷ []) ∷
    (From 0 1000000 1 ∷ hello 1000 1000 [] ⇒ number 1 ∷ GetId user false ⇒ number 3 ∷
    GetId user_session false ⇒ number 4 ∷ join "third" ⇒ number 5 ∷ Unlink (key 0) (key 3) ⇒ Err EINVAL ∷
    Move (key 3) (key 4) (key 4) 1 ⇒ done ∷ Unlink (key 3) (key 4) ⇒ done ∷ Fork ⇒ number 2 ∷
    Describe (key 2147483647) ⇒ Err ENOKEY ∷ Chown (key 5) 1000 4294967295 ⇒ done ∷
    Add (codes "user") (codes "b") (bytes_of (codes "5825aa3e67cb15a7af030d477f604a3717")) session ⇒ number 6 ∷
    restrict (key 6) "" ⇒ Err ENOTDIR ∷ SetPerm session 0x3f0b0000 ⇒ done ∷ new_ring "r3" (key 4) ⇒ number 7 ∷ []) ∷
    (From 0 1000000 1 ∷ hello 1002 1002 (1001 ∷ []) ⇒ number 1 ∷ GetId user false ⇒ number 3 ∷
    GetId user_session false ⇒ number 4 ∷ update user "s943" ⇒ Err EOPNOTSUPP ∷
    new_ring "ring" (key 4) ⇒ number 5 ∷ Unlink (key 5) (key 4) ⇒ done ∷
    search (key 4) "keyring" "_uid.1002" nowhere ⇒ number 3 ∷ Move (key 3) (key 4) (key 3) 0 ⇒ Err EDEADLK ∷
    add "keyring" "b" "s153" user ⇒ Err EINVAL ∷ Unlink (key 3) (key 4) ⇒ done ∷
    request "keyring" "_uid.1002" nowhere ⇒ Err ENOKEY ∷ Fork ⇒ number 2 ∷
    Chown (key 5) 3000000005 4294967295 ⇒ Err ENOKEY ∷ Invalidate (key 5) ⇒ Err ENOKEY ∷ []) ∷
    (From 0 1000000 1 ∷ hello 1001 1000 [] ⇒ number 1 ∷ GetId user false ⇒ number 3 ∷
    GetId user_session false ⇒ number 4 ∷ join "work" ⇒ number 5 ∷ Link user session ⇒ done ∷
    Invalidate (key 5) ⇒ done ∷ SetTimeout (key 5) 4294967295 ⇒ Err ENOKEY ∷
    GetId process_ring false ⇒ Err ENOKEY ∷ SetPerm (key 5) 0x3f20203f ⇒ Err ENOKEY ∷
    Link session (key 3) ⇒ Err ENOKEY ∷ GetId (key 4) true ⇒ number 4 ∷ new_ring "r7" user ⇒ number 6 ∷
    Link (key 4) (key 5) ⇒ Err ENOKEY ∷ GetId (key 6) true ⇒ Err EACCES ∷ []) ∷
    (From 0 1000000 1 ∷ hello 1000 1000 (7 ∷ []) ⇒ number 1 ∷ GetId user false ⇒ number 3 ∷
    GetId user_session false ⇒ number 4 ∷ join "other" ⇒ number 5 ∷ Revoke (key 5) ⇒ done ∷
    Chown (key 5) 4294967295 1000 ⇒ Err EKEYREVOKED ∷ SetPerm (key 5) 0x3f1f0000 ⇒ Err EKEYREVOKED ∷
    Invalidate (key 5) ⇒ Err EKEYREVOKED ∷ add "user" "k:2" "s650" (key 4) ⇒ number 6 ∷
    request "user" "k:1" (key 5) ⇒ Err EKEYREVOKED ∷ search (key 4) "keyring" "other" nowhere ⇒ Err ENOKEY ∷
    search process_ring "keyring" "other" nowhere ⇒ Err ENOKEY ∷ search user "user" "_ses" nowhere ⇒ Err ENOKEY ∷
    SetPerm (key 5) 0x3f1f1f00 ⇒ Err EKEYREVOKED ∷ []) ∷
    (From 0 1000000 1 ∷ hello 1000 7 (7 ∷ []) ⇒ number 1 ∷ GetId user false ⇒ number 3 ∷
    GetId user_session false ⇒ number 4 ∷ join ".x" ⇒ Err EPERM ∷
    add "keyring" "_uid.1000" "s606" (key 4) ⇒ Err EINVAL ∷ Move (key 3) (key 4) (key 3) 0 ⇒ Err EDEADLK ∷
    add "logon" "a" "s450" (key 4) ⇒ Err EINVAL ∷ search (key 3) "keyring" "_uid.1000" nowhere ⇒ number 3 ∷
    new_ring "ring" (key 4) ⇒ number 5 ∷ search (key 4) "keyring" "_uid_ses.1000" nowhere ⇒ number 4 ∷
    add "user" "a" "s159" (key 3) ⇒ number 6 ∷ new_ring "r3" (key 6) ⇒ Err ENOTDIR ∷ Fork ⇒ number 2 ∷
    Move (key 3) (key 4) (key 4) 0 ⇒ done ∷ []) ∷
    (From 0 1000000 1 ∷ hello 3000000005 3000000007 [] ⇒ number 1 ∷ GetId user false ⇒ number 3 ∷
    GetId user_session false ⇒ number 4 ∷ join "work" ⇒ number 5 ∷
    search (key 4) "keyring" "_uid_ses.3000000005" user ⇒ Err EDEADLK ∷ restrict (key 5) "" ⇒ done ∷
    new_ring "r3" (key 3) ⇒ number 6 ∷ Move (key 6) (key 3) (key 6) 1 ⇒ Err EACCES ∷
    restrict (key 5) "" ⇒ Err EEXIST ∷ new_ring "ring" (key 3) ⇒ number 7 ∷
    request "keyring" "work" nowhere ⇒ number 5 ∷ request "keyring" "r3" session ⇒ Err ENOKEY ∷
    Move (key 6) (key 3) session 1 ⇒ Err EACCES ∷ Link (key 7) user_session ⇒ Err EACCES ∷ []) ∷
    (From 0 1000000 1 ∷ hello 1001 1000 (7 ∷ []) ⇒ number 1 ∷ GetId user false ⇒ number 3 ∷
    GetId user_session false ⇒ number 4 ∷ join "third" ⇒ number 5 ∷ Link user session ⇒ done ∷
    Move (key 3) (key 5) (key 4) 1 ⇒ Err EEXIST ∷ add "logon" "k:1" "s803" (key 5) ⇒ number 6 ∷
    Clear (key 6) ⇒ Err ENOTDIR ∷ Link user session ⇒ done ∷ Invalidate (key 6) ⇒ done ∷
    Link (key 4) (key 5) ⇒ done ∷ Link (key 4) (key 5) ⇒ done ∷ Read (key 3) ⇒ hex "" ∷
    Read (key 4) ⇒ hex "03000000" ∷ []) ∷
    (From 0 1000000 1 ∷ hello 1001 1000 [] ⇒ number 1 ∷ GetId user false ⇒ number 3 ∷
    GetId user_session false ⇒ number 4 ∷ join "third" ⇒ number 5 ∷ Read (key 5) ⇒ hex "" ∷ Read (key 3) ⇒ hex "" ∷
    Read (key 4) ⇒ hex "03000000" ∷ add "logon" "a" "s851" user_session ⇒ Err EINVAL ∷
    request "uuuuuuuuuuuuuuuuuuuuuuuuuuuuuuuu" "c" nowhere ⇒ Err EINVAL ∷ Link (key 0) (key 5) ⇒ Err EINVAL ∷
    hello 1000 1000 (1001 ∷ []) ⇒ number 2 ∷ From 0 1000000 2 ∷ GetId user false ⇒ number 6 ∷
    GetId user_session false ⇒ number 7 ∷ join "work" ⇒ number 8 ∷ []) ∷
    (From 0 1000000 1 ∷ hello 1000 7 [] ⇒ number 1 ∷ join "" ⇒ number 5 ∷ Revoke (key 5) ⇒ done ∷
    SetPerm (key 5) 0x2b023f1b ⇒ Err EKEYREVOKED ∷ Fork ⇒ number 2 ∷ Link (key 5) (key 5) ⇒ Err EKEYREVOKED ∷
    Unlink (key 5) (key 5) ⇒ Err EKEYREVOKED ∷ new_ring "r2" (key 5) ⇒ Err EKEYREVOKED ∷ join "" ⇒ number 6 ∷
    SetPerm (key 6) 0x3f1f0000 ⇒ done ∷ SetTimeout (key 6) 4294967295 ⇒ done ∷
    Chown (key 5) 1001 4294967295 ⇒ Err EKEYREVOKED ∷ request "keyring" "_ses" nowhere ⇒ number 6 ∷
    Unlink (key 5) (key 5) ⇒ Err EKEYREVOKED ∷ []) ∷
    (From 0 1000000 1 ∷ hello 3000000005 3000000007 (7 ∷ 8 ∷ 9 ∷ 1001 ∷ []) ⇒ number 1 ∷ join "" ⇒ number 5 ∷
    add "keyring" "c" "s604" (key 5) ⇒ Err EINVAL ∷ update (key 5) "s844" ⇒ Err EOPNOTSUPP ∷
    search (key 5) "user" "c" nowhere ⇒ Err ENOKEY ∷ add "user" "k:2" "s274" (key 2147483647) ⇒ Err ENOKEY ∷
    search (key 5) ".user" "k:2" nowhere ⇒ Err EPERM ∷ Exec ⇒ done ∷ Read (key 5) ⇒ hex "" ∷
    Unlink (key 5) user_session ⇒ Err ENOENT ∷ SetPerm (key 5) 0x083f0000 ⇒ done ∷ Exec ⇒ done ∷
    GetId session true ⇒ number 5 ∷ request "keyring" "_ses" nowhere ⇒ number 5 ∷ []) ∷
    (From 0 1000000 1 ∷ hello 1000 1000 [] ⇒ number 1 ∷ join "" ⇒ number 5 ∷
    new_ring "ring" user_session ⇒ number 6 ∷ update process_ring "s482" ⇒ Err ENOKEY ∷
    search (key 6) "keyring" "_ses" (key 5) ⇒ Err EACCES ∷ new_ring "r2" (key 6) ⇒ Err EACCES ∷
    Add (codes "keyring") (codes "ring") (bytes_of (codes "affdc311b90c3a43b9ca40ec35")) (key 5) ⇒ Err EINVAL ∷
    add "user" "k:2" "s725" (key 5) ⇒ number 7 ∷ update (key 7) "s700" ⇒ done ∷ Describe thread_ring ⇒ Err ENOKEY ∷
    join "other" ⇒ number 8 ∷ new_ring "k:" user_session ⇒ number 9 ∷
    add "keyring" "_ses" "s282" (key 8) ⇒ Err EINVAL ∷ Link (key 9) (key 9) ⇒ Err EACCES ∷ []) ∷
    (From 0 1000000 1 ∷ hello 1000 7 (7 ∷ []) ⇒ number 1 ∷ GetId user false ⇒ number 3 ∷
    GetId user_session false ⇒ number 4 ∷ join "work" ⇒ number 5 ∷ request "user" "a" nowhere ⇒ Err ENOKEY ∷
    GetId thread_ring false ⇒ Err ENOKEY ∷ Move (key 0) (key 5) (key 3) 0 ⇒ Err EINVAL ∷ Read (key 5) ⇒ hex "" ∷
    SetPerm (key 5) 0x00003f3f ⇒ done ∷ Chown (key 5) 4294967295 1000 ⇒ Err EACCES ∷
    Link (key 5) (key 4) ⇒ Err EACCES ∷ Move (key 3) (key 5) session 0 ⇒ Err EACCES ∷
    Move (key 4) session (key 5) 0 ⇒ Err EACCES ∷ Read (key 5) ⇒ Err EACCES ∷ []) ∷
    (From 0 1000000 1 ∷ hello 1000 1000 (7 ∷ []) ⇒ number 1 ∷ GetId user false ⇒ number 3 ∷
    GetId user_session false ⇒ number 4 ∷ join "other" ⇒ number 5 ∷
    Describe (key 5) ⇒ text "keyring;1000;1000;3f130000;other" ∷ SetTimeout (key 5) 4294967295 ⇒ done ∷
    restrict (key 5) "" ⇒ done ∷ Read user_session ⇒ hex "03000000" ∷
    add "logon" ":x" "s495" (key 3) ⇒ Err EINVAL ∷ Fork ⇒ number 2 ∷ Read (key 5) ⇒ hex "" ∷
    Read process_ring ⇒ Err ENOKEY ∷ request "keyring" "other" (key 5) ⇒ Err EPERM ∷
    Move user (key 3) session 1 ⇒ Err ENOENT ∷ []) ∷
    (From 0 1000000 1 ∷ hello 3000000005 3000000007 [] ⇒ number 1 ∷ GetId user false ⇒ number 3 ∷
    GetId user_session false ⇒ number 4 ∷ join "other" ⇒ number 5 ∷ Link (key 5) (key 4) ⇒ done ∷
    Link (key 4) user ⇒ Err EDEADLK ∷ Unlink (key 4) (key 5) ⇒ Err ENOENT ∷ Unlink (key 5) (key 4) ⇒ done ∷
    Link (key 4) (key 3) ⇒ Err EDEADLK ∷ join "work" ⇒ number 6 ∷ Revoke (key 6) ⇒ done ∷
    Clear (key 5) ⇒ Err ENOKEY ∷ Revoke (key 6) ⇒ Err EKEYREVOKED ∷
    search process_ring "keyring" "_uid_ses.3000000005" (key 3) ⇒ Err ENOKEY ∷ []) ∷
    (From 0 1000000 1 ∷ hello 1002 1002 [] ⇒ number 1 ∷ join "work" ⇒ number 5 ∷ Link user session ⇒ done ∷
    Update (key 5) (bytes_of (codes "64e9e845fc0ab3")) ⇒ Err EOPNOTSUPP ∷ new_ring "r2" (key 5) ⇒ number 6 ∷
    Read (key 5) ⇒ hex "0300000006000000" ∷ Move (key 6) (key 5) (key 3) 1 ⇒ done ∷ Describe (key 0) ⇒ Err EINVAL ∷
    SetPerm (key 5) 0xffffffff ⇒ Err EINVAL ∷
    Add (codes "user") (codes "b") (bytes_of (codes "911b")) (key 6) ⇒ number 7 ∷
    Describe (key 6) ⇒ text "keyring;1002;1002;3f010000;r2" ∷ new_ring "r7" (key 6) ⇒ number 8 ∷
    Read (key 7) ⇒ hex "911b" ∷ GetId session true ⇒ number 5 ∷ []) ∷
    (From 0 1000000 1 ∷ hello 1000 7 [] ⇒ number 1 ∷ GetId user false ⇒ number 3 ∷
    GetId user_session false ⇒ number 4 ∷ join "other" ⇒ number 5 ∷ join "" ⇒ number 6 ∷
    GetId user false ⇒ number 3 ∷ search (key 3) "keyring" "_uid.1000" nowhere ⇒ number 3 ∷
    restrict (key 6) "" ⇒ done ∷ SetPerm (key 6) 0x083f0000 ⇒ done ∷ request "keyring" "_ses" nowhere ⇒ number 6 ∷
    Move (key 3) (key 4) (key 6) 0 ⇒ Err EPERM ∷ request "keyring" "_uid_ses.1000" nowhere ⇒ Err ENOKEY ∷
    Link (key 6) (key 6) ⇒ Err EPERM ∷ Fork ⇒ number 2 ∷ []) ∷
    (From 0 1000000 1 ∷ hello 1000 1000 (1001 ∷ []) ⇒ number 1 ∷ join "other" ⇒ number 5 ∷
    new_ring "r6" process_ring ⇒ number 7 ∷ Link (key 5) (key 7) ⇒ done ∷ new_ring "r3" (key 7) ⇒ number 8 ∷
    search (key 0) "keyring" "r3" nowhere ⇒ Err EINVAL ∷ Read (key 7) ⇒ hex "0500000008000000" ∷
    Read user_session ⇒ hex "03000000" ∷ Thread ⇒ number 2 ∷ Revoke (key 5) ⇒ done ∷
    hello 1000 1000 [] ⇒ number 3 ∷ From 0 1000000 3 ∷ join "" ⇒ number 9 ∷ Link user session ⇒ done ∷
    Invalidate (key 7) ⇒ Err EACCES ∷ []) ∷
    (From 0 1000000 1 ∷ hello 1001 1000 [] ⇒ number 1 ∷ GetId user false ⇒ number 3 ∷
    GetId user_session false ⇒ number 4 ∷ join "" ⇒ number 5 ∷ add "keyring" "k:2" "s166" (key 5) ⇒ Err EINVAL ∷
    request "keyring" "_uid_ses.1001" nowhere ⇒ Err ENOKEY ∷ SetPerm (key 5) 0x3f20001b ⇒ done ∷
    add "logon" "k:1" "s469" session ⇒ number 6 ∷ Read (key 6) ⇒ Err EOPNOTSUPP ∷
    search (key 3) "keyring" "_ses" nowhere ⇒ Err ENOKEY ∷ join "" ⇒ number 7 ∷
    update (key 7) "s257" ⇒ Err EOPNOTSUPP ∷ GetId user false ⇒ number 3 ∷
    SetPerm (key 5) 0x3f1f0000 ⇒ Err ENOKEY ∷ []) ∷
    (From 0 1000000 1 ∷ hello 1000 1000 (1000 ∷ 1002 ∷ []) ⇒ number 1 ∷ GetId user false ⇒ number 3 ∷
    GetId user_session false ⇒ number 4 ∷ join "work" ⇒ number 5 ∷
    add "keyring" "work" "s404" session ⇒ Err EINVAL ∷ GetId (key 0) true ⇒ Err EINVAL ∷
    Move (key 4) (key 3) session 1 ⇒ Err ENOENT ∷ request "user" "x.y" session ⇒ Err ENOKEY ∷
    SetPerm (key 5) 0x1b022000 ⇒ done ∷ new_ring "_uid_ses.1001" session ⇒ Err EACCES ∷
    search (key 4) "keyring" "work" user ⇒ Err ENOKEY ∷ search (key 4) "keyring" "work" (key 5) ⇒ Err EACCES ∷
    request "user" "b" nowhere ⇒ Err ENOKEY ∷ add "user" "k:1" "s869" (key 3) ⇒ number 6 ∷ []) ∷
    (From 0 1000000 1 ∷ hello 3000000005 3000000007 (7 ∷ 8 ∷ 9 ∷ 1001 ∷ []) ⇒ number 1 ∷
    GetId user false ⇒ number 3 ∷ GetId user_session false ⇒ number 4 ∷ join "other" ⇒ number 5 ∷
    add "user" "c" "s826" (key 5) ⇒ number 6 ∷ SetPerm (key 5) 0x083f0000 ⇒ done ∷ Read user ⇒ hex "" ∷
    Read (key 6) ⇒ text "s826" ∷ Fork ⇒ number 2 ∷ add "logon" "b" "s274" (key 4) ⇒ Err EINVAL ∷
    update (key 5) "s506" ⇒ Err EOPNOTSUPP ∷ Chown (key 5) 4294967295 3000000007 ⇒ done ∷
    SetTimeout (key 6) 4294967295 ⇒ done ∷ Move (key 5) user_session (key 6) 1 ⇒ Err ENOTDIR ∷ []) ∷
    (From 0 1000000 1 ∷ hello 1002 1002 [] ⇒ number 1 ∷ GetId user false ⇒ number 3 ∷
    GetId user_session false ⇒ number 4 ∷ Thread ⇒ number 2 ∷ add "user" "k:2" "s852" (key 3) ⇒ number 5 ∷
    search (key 3) "keyring" "_uid_ses.1002" (key 4) ⇒ Err ENOKEY ∷
    search (key 5) "user" "c" nowhere ⇒ Err ENOTDIR ∷ request "user" "k:2" (key 3) ⇒ number 5 ∷
    Read session ⇒ hex "03000000" ∷ add "keyring" "c" "s212" (key 3) ⇒ Err EINVAL ∷
    Move (key 3) (key 4) (key 3) 0 ⇒ Err EDEADLK ∷ Unlink (key 5) (key 3) ⇒ done ∷ join "" ⇒ number 6 ∷
    add "user" "k:2" "s371" (key 6) ⇒ number 7 ∷ []) ∷
    (From 0 1000000 1 ∷ hello 1002 1002 (7 ∷ 8 ∷ 9 ∷ 1001 ∷ []) ⇒ number 1 ∷ GetId user false ⇒ number 3 ∷
    GetId user_session false ⇒ number 4 ∷ join "" ⇒ number 5 ∷ Read (key 5) ⇒ hex "" ∷
    new_ring "r6" (key 4) ⇒ number 6 ∷ Clear (key 0) ⇒ Err EINVAL ∷
    search (key 5) "user" "_ses" nowhere ⇒ Err ENOKEY ∷ search (key 6) "keyring" "r6" nowhere ⇒ Err EACCES ∷
    new_ring "r4" (key 5) ⇒ number 7 ∷ search (key 6) "keyring" "c" nowhere ⇒ Err EACCES ∷
    add "keyring" "k:2" "s365" (key 3) ⇒ Err EINVAL ∷ Revoke (key 7) ⇒ done ∷
    Read user_session ⇒ hex "0300000006000000" ∷ []) ∷
    (From 0 1000000 1 ∷ hello 1000 1000 (1000 ∷ 1002 ∷ []) ⇒ number 1 ∷ join "third" ⇒ number 5 ∷
    Read (key 5) ⇒ hex "" ∷ search process_ring "keyring" "third" nowhere ⇒ Err ENOKEY ∷
    search (key 5) "keyring" "third" nowhere ⇒ number 5 ∷ Thread ⇒ number 2 ∷ Revoke (key 5) ⇒ done ∷
    search (key 5) "keyring" "third" nowhere ⇒ Err EKEYREVOKED ∷ SetPerm (key 5) 0x3f1f1f00 ⇒ Err EKEYREVOKED ∷
    new_ring "ring" (key 5) ⇒ Err EKEYREVOKED ∷ Clear (key 5) ⇒ Err EKEYREVOKED ∷ GetId user false ⇒ number 3 ∷
    Unlink (key 1) (key 3) ⇒ Err ENOKEY ∷ Describe (key 5) ⇒ Err EKEYREVOKED ∷ []) ∷
    (From 0 1000000 1 ∷ hello 1000 7 [] ⇒ number 1 ∷ join "third" ⇒ number 5 ∷
    add "user" "k:2" "s455" (key 5) ⇒ number 6 ∷ SetPerm (key 5) 0x37373737 ⇒ done ∷
    add "user" "a" "s463" (key 5) ⇒ number 7 ∷ request "keyring" "third" nowhere ⇒ Err EACCES ∷
    Describe session ⇒ text "keyring;1000;7;37373737;third" ∷ GetId process_ring false ⇒ Err ENOKEY ∷
    Clear user ⇒ done ∷ search (key 5) "user" "k:2" nowhere ⇒ Err EACCES ∷
    SetTimeout (key 7) 4294967295 ⇒ Err EACCES ∷ Unlink (key 6) (key 5) ⇒ done ∷ Revoke (key 5) ⇒ done ∷
    SetTimeout (key 5) 1000 ⇒ Err EKEYREVOKED ∷ []) ∷
    (From 0 1000000 1 ∷ hello 1001 1000 (7 ∷ 8 ∷ 9 ∷ 1001 ∷ []) ⇒ number 1 ∷ GetId user false ⇒ number 3 ∷
    GetId user_session false ⇒ number 4 ∷ request "user" "k:1" nowhere ⇒ Err ENOKEY ∷
    Invalidate thread_ring ⇒ Err ENOKEY ∷ Unlink (key 3) (key 4) ⇒ done ∷ Revoke thread_ring ⇒ Err ENOKEY ∷
    request "keyring" "_uid_ses.1001" user_session ⇒ Err EDEADLK ∷
    search (key 4) "keyring" "_uid.1001" nowhere ⇒ Err ENOKEY ∷ GetId process_ring false ⇒ Err ENOKEY ∷
    update (key 3) "s653" ⇒ Err EOPNOTSUPP ∷ update thread_ring "s353" ⇒ Err ENOKEY ∷
    update user_session "s349" ⇒ Err EOPNOTSUPP ∷ update (key 4) "s475" ⇒ Err EOPNOTSUPP ∷ []) ∷
    (From 0 1000000 1 ∷ hello 3000000005 3000000007 [] ⇒ number 1 ∷ join "other" ⇒ number 5 ∷
    Link user session ⇒ done ∷ Read (key 5) ⇒ hex "03000000" ∷ Link (key 5) (key 5) ⇒ Err EDEADLK ∷
    Unlink (key 3) (key 5) ⇒ done ∷ Revoke (key 5) ⇒ done ∷ Link (key 5) (key 3) ⇒ Err EKEYREVOKED ∷
    Read session ⇒ Err EKEYREVOKED ∷ new_ring "ring" (key 3) ⇒ number 6 ∷ update (key 6) "s710" ⇒ Err EACCES ∷
    Link (key 6) session ⇒ Err EKEYREVOKED ∷ Fork ⇒ number 2 ∷ GetId session true ⇒ Err EKEYREVOKED ∷ []) ∷
    []

-- traces 41 to 80
abbrev pub traces_from_41 : List (List Line)
traces_from_41 =
    (From 0 1000000 1 ∷ hello 1000 1000 [] ⇒ number 1 ∷ GetId user false ⇒ number 3 ∷
    GetId user_session false ⇒ number 4 ∷ join "work" ⇒ number 5 ∷ add "user" "k:1" "s657" (key 5) ⇒ number 6 ∷
    Exec ⇒ done ∷ update (key 6) "s934" ⇒ done ∷ Fork ⇒ number 2 ∷ add "user" "k:1" "s351" session ⇒ number 6 ∷
    add ".user" "a" "s970" user ⇒ Err EPERM ∷ new_ring "r8" (key 3) ⇒ number 7 ∷
    Add (codes "user") (codes "a") (bytes_of (codes "f150151a9eb83ce1ef347a")) (key 3) ⇒ number 8 ∷
    new_ring ":x" (key 3) ⇒ number 9 ∷ From 0 1000000 2 ∷ restrict (key 8) "" ⇒ Err EACCES ∷ []) ∷
    (From 0 1000000 1 ∷ hello 1000 1000 (1001 ∷ []) ⇒ number 1 ∷ GetId user false ⇒ number 3 ∷
    GetId user_session false ⇒ number 4 ∷ join "work" ⇒ number 5 ∷ Link user session ⇒ done ∷
    Unlink (key 3) (key 4) ⇒ done ∷ SetPerm (key 5) 0x3f3f3f3f ⇒ done ∷ Chown (key 5) 1000 4294967295 ⇒ done ∷
    Unlink session thread_ring ⇒ Err ENOKEY ∷ Revoke (key 5) ⇒ done ∷
    Move (key 3) user_session session 1 ⇒ Err EKEYREVOKED ∷ update (key 5) "s950" ⇒ Err EKEYREVOKED ∷
    request "keyring" "b" nowhere ⇒ Err ENOKEY ∷ SetPerm (key 5) 0x3f3f3f3f ⇒ Err EKEYREVOKED ∷ []) ∷
    (From 0 1000000 1 ∷ hello 1001 1000 (7 ∷ 8 ∷ 9 ∷ 1001 ∷ []) ⇒ number 1 ∷
    search session "keyring" "c" nowhere ⇒ Err ENOKEY ∷ update thread_ring "s133" ⇒ Err ENOKEY ∷
    Thread ⇒ number 2 ∷ GetId user true ⇒ number 3 ∷ Read process_ring ⇒ Err ENOKEY ∷ Exit ⇒ done ∷
    From 0 1000000 2 ∷ request "user" "a" nowhere ⇒ Err ENOKEY ∷ Link (key 3) (key 3) ⇒ Err EDEADLK ∷
    GetId user_session true ⇒ number 4 ∷ Move (key 3) process_ring (key 4) 1 ⇒ Err ENOKEY ∷
    SetPerm (key 4) 0x023f1b00 ⇒ done ∷ GetId process_ring false ⇒ Err ENOKEY ∷
    Link (key 3) (key 3) ⇒ Err EDEADLK ∷ []) ∷
    (From 0 1000000 1 ∷ hello 3000000005 3000000007 (1000 ∷ 1002 ∷ []) ⇒ number 1 ∷ GetId user false ⇒ number 3 ∷
    GetId user_session false ⇒ number 4 ∷ join "third" ⇒ number 5 ∷ Link user session ⇒ done ∷
    add "keyring" "third" "s539" (key 4) ⇒ Err EINVAL ∷ SetPerm (key 5) 0x2000101b ⇒ done ∷
    new_ring "r2" (key 3) ⇒ number 6 ∷ Unlink (key 3) (key 5) ⇒ Err EACCES ∷ Read (key 5) ⇒ Err EACCES ∷
    Add (codes "user") (codes "a") (bytes_of (codes "ce7a5c6f80")) (key 5) ⇒ Err EACCES ∷
    Revoke (key 6) ⇒ Err EACCES ∷ Fork ⇒ number 2 ∷ update user "s150" ⇒ Err EOPNOTSUPP ∷ []) ∷
    (From 0 1000000 1 ∷ hello 3000000005 3000000007 (7 ∷ []) ⇒ number 1 ∷ GetId user false ⇒ number 3 ∷
    GetId user_session false ⇒ number 4 ∷ join "" ⇒ number 5 ∷ Link user session ⇒ done ∷
    Unlink (key 3) (key 4) ⇒ done ∷ SetPerm (key 5) 0x10103f04 ⇒ done ∷ Clear (key 5) ⇒ Err EACCES ∷
    Link user_session session ⇒ Err EACCES ∷ Invalidate (key 5) ⇒ Err EACCES ∷
    request "user" "c" (key 5) ⇒ Err EACCES ∷ Clear (key 5) ⇒ Err EACCES ∷
    SetPerm (key 5) 0x3f3f3f3f ⇒ Err EACCES ∷
    Add (codes "user") (codes "b") (bytes_of (codes "644b01a3e93332")) (key 3) ⇒ number 6 ∷ []) ∷
    (From 0 1000000 1 ∷ hello 1000 1000 (1000 ∷ 1002 ∷ []) ⇒ number 1 ∷ join "" ⇒ number 5 ∷
    Describe (key 5) ⇒ text "keyring;1000;1000;3f030000;_ses" ∷ add "user" "k:2" "s304" (key 5) ⇒ number 6 ∷
    Revoke (key 5) ⇒ done ∷ SetTimeout (key 5) 1 ⇒ Err EKEYREVOKED ∷ Link session (key 5) ⇒ Err EKEYREVOKED ∷
    Link (key 5) (key 5) ⇒ Err EKEYREVOKED ∷ request "keyring" "_ses" (key 5) ⇒ Err EKEYREVOKED ∷
    Chown (key 5) 1001 4294967295 ⇒ Err EKEYREVOKED ∷ Link (key 5) (key 5) ⇒ Err EKEYREVOKED ∷
    request "keyring" "_ses" nowhere ⇒ Err EKEYREVOKED ∷ Read (key 5) ⇒ Err EKEYREVOKED ∷
    request "keyring" "_ses" nowhere ⇒ Err EKEYREVOKED ∷ []) ∷
    (From 0 1000000 1 ∷ hello 1000 7 (7 ∷ 8 ∷ 9 ∷ 1001 ∷ []) ⇒ number 1 ∷ GetId user false ⇒ number 3 ∷
    GetId user_session false ⇒ number 4 ∷ join "third" ⇒ number 5 ∷ Link user session ⇒ done ∷
    SetTimeout (key 5) 4294967295 ⇒ done ∷ new_ring "r2" (key 5) ⇒ number 6 ∷ Link (key 3) (key 6) ⇒ done ∷
    SetTimeout (key 5) 4294967295 ⇒ done ∷ Link (key 0) user ⇒ Err EINVAL ∷
    Unlink (key 0) user_session ⇒ Err EINVAL ∷
    Update (key 6) (bytes_of (codes "b4e642f844b45ef9ff")) ⇒ Err EOPNOTSUPP ∷
    Chown (key 6) 4294967295 1000 ⇒ Err EACCES ∷ add "keyring" "third" "s402" (key 6) ⇒ Err EINVAL ∷ []) ∷
    (From 0 1000000 1 ∷ hello 1001 1000 (1000 ∷ 1002 ∷ []) ⇒ number 1 ∷ join "work" ⇒ number 5 ∷
    search (key 5) "keyring" "work" nowhere ⇒ number 5 ∷ Fork ⇒ number 2 ∷
    Add (codes ".user") (codes "a") (bytes_of (codes "6644e1a7571194bcdfb3bda362a9344153a4a6")) session ⇒ Err EPERM ∷
    Read (key 5) ⇒ hex "" ∷ SetPerm (key 5) 0x3f3f3f3f ⇒ done ∷ SetTimeout (key 5) 0 ⇒ done ∷
    Read thread_ring ⇒ Err ENOKEY ∷ Describe (key 5) ⇒ text "keyring;1001;1000;3f3f3f3f;work" ∷ From 0 1000000 2 ∷
    Revoke (key 5) ⇒ done ∷ Chown (key 5) 4294967295 1000 ⇒ Err EKEYREVOKED ∷ update (key 0) "s471" ⇒ Err EINVAL ∷
    search session "keyring" "work" nowhere ⇒ Err EKEYREVOKED ∷ []) ∷
    (From 0 1000000 1 ∷ hello 3000000005 3000000007 [] ⇒ number 1 ∷ GetId user false ⇒ number 3 ∷
    GetId user_session false ⇒ number 4 ∷ join "work" ⇒ number 5 ∷ Invalidate (key 5) ⇒ done ∷
    Unlink (key 3) (key 4) ⇒ done ∷ Clear (key 4) ⇒ done ∷ Link (key 3) (key 4) ⇒ done ∷
    add "user" "k:1" "s793" (key 5) ⇒ Err ENOKEY ∷ Read (key 3) ⇒ hex "" ∷
    add "uuuuuuuuuuuuuuuuuuuuuuuuuuuuuuuu" "k:1" "s697" (key 3) ⇒ Err EINVAL ∷
    search (key 4) "keyring" "_uid_ses.3000000005" nowhere ⇒ number 4 ∷ new_ring "r4" session ⇒ Err ENOKEY ∷
    Chown (key 5) 4294967295 3000000007 ⇒ Err ENOKEY ∷ []) ∷
    (From 0 1000000 1 ∷ hello 1000 1000 (7 ∷ 8 ∷ 9 ∷ 1001 ∷ []) ⇒ number 1 ∷ GetId user false ⇒ number 3 ∷
    GetId user_session false ⇒ number 4 ∷ join ".x" ⇒ Err EPERM ∷ Read session ⇒ hex "03000000" ∷
    search (key 3) "keyring" "_uid.1000" (key 3) ⇒ Err EDEADLK ∷
    request "keyring" "_uid_ses.1000" (key 3) ⇒ Err EDEADLK ∷ new_ring "x.y" (key 3) ⇒ number 5 ∷
    new_ring "r2" (key 4) ⇒ number 6 ∷ add "keyring" "_uid_ses.1000" "s699" (key 4) ⇒ Err EINVAL ∷
    Read session ⇒ hex "0300000006000000" ∷ new_ring "r2" (key 4) ⇒ number 7 ∷
    Chown (key 5) 4294967295 1000 ⇒ done ∷ add "keyring" "_uid.1000" "s488" (key 4) ⇒ Err EINVAL ∷ []) ∷
    (From 0 1000000 1 ∷ hello 1000 1000 [] ⇒ number 1 ∷ GetId user false ⇒ number 3 ∷
    GetId user_session false ⇒ number 4 ∷ join "work" ⇒ number 5 ∷ Link user session ⇒ done ∷
    Revoke (key 5) ⇒ done ∷ Invalidate (key 5) ⇒ Err EKEYREVOKED ∷
    search (key 4) "user" "k:2" nowhere ⇒ Err ENOKEY ∷ Invalidate (key 5) ⇒ Err EKEYREVOKED ∷
    Link (key 4) (key 4) ⇒ Err EDEADLK ∷ Describe (key 5) ⇒ Err EKEYREVOKED ∷
    new_ring "r2" (key 5) ⇒ Err EKEYREVOKED ∷ Link (key 5) (key 5) ⇒ Err EKEYREVOKED ∷
    search (key 5) "user" ":x" nowhere ⇒ Err EKEYREVOKED ∷ []) ∷
    (From 0 1000000 1 ∷ hello 1000 7 (1001 ∷ []) ⇒ number 1 ∷ GetId user false ⇒ number 3 ∷
    GetId user_session false ⇒ number 4 ∷ join "other" ⇒ number 5 ∷ update thread_ring "s500" ⇒ Err ENOKEY ∷
    Add (codes "user") (codes "k:1") (bytes_of (codes "4a351da7132dde3c347354cbde7900f202c4")) session ⇒ number 6 ∷
    Clear (key 6) ⇒ Err ENOTDIR ∷ GetId session true ⇒ number 5 ∷ Link (key 3) (key 5) ⇒ done ∷
    add "users" "b" "s284" (key 5) ⇒ Err ENODEV ∷ GetId session true ⇒ number 5 ∷
    Chown (key 6) 1000 4294967295 ⇒ done ∷ add "logon" "b" "s706" (key 3) ⇒ Err EINVAL ∷
    Invalidate (key 5) ⇒ done ∷ []) ∷
    (From 0 1000000 1 ∷ hello 1001 1000 (7 ∷ []) ⇒ number 1 ∷ GetId user false ⇒ number 3 ∷
    GetId user_session false ⇒ number 4 ∷ Read (key 3) ⇒ hex "" ∷ Unlink session (key 3) ⇒ Err ENOENT ∷
    restrict thread_ring "" ⇒ Err ENOKEY ∷ search (key 4) "logon" "a" nowhere ⇒ Err ENOKEY ∷ Thread ⇒ number 2 ∷
    new_ring "r7" (key 3) ⇒ number 5 ∷ join "" ⇒ number 6 ∷ Fork ⇒ number 3 ∷
    add "user" "b" "s610" session ⇒ number 7 ∷ Revoke (key 5) ⇒ Err EACCES ∷ new_ring "r5" (key 4) ⇒ number 8 ∷ []) ∷
    (From 0 1000000 1 ∷ hello 1001 1000 [] ⇒ number 1 ∷ join "other" ⇒ number 5 ∷
    add "user" "c" "s839" (key 5) ⇒ number 6 ∷ Link session (key 5) ⇒ Err EDEADLK ∷
    SetPerm (key 5) 0x041f100b ⇒ done ∷ Move (key 6) (key 5) (key 5) 1 ⇒ done ∷
    Describe (key 5) ⇒ text "keyring;1001;1000;041f100b;other" ∷ new_ring "_uid.1000" (key 5) ⇒ number 7 ∷
    Link user_session (key 7) ⇒ done ∷ Move (key 0) user_session session 1 ⇒ Err EINVAL ∷
    request "user" "c" nowhere ⇒ number 6 ∷ Link (key 2147483647) (key 5) ⇒ Err ENOKEY ∷
    request "user" "c" nowhere ⇒ number 6 ∷ Describe (key 5) ⇒ text "keyring;1001;1000;041f100b;other" ∷ []) ∷
    (From 0 1000000 1 ∷ hello 1002 1002 (7 ∷ []) ⇒ number 1 ∷ GetId user false ⇒ number 3 ∷
    GetId user_session false ⇒ number 4 ∷ join "third" ⇒ number 5 ∷
    search thread_ring "keyring" "b" session ⇒ Err ENOKEY ∷ restrict (key 5) "" ⇒ done ∷
    new_ring "r3" (key 4) ⇒ number 6 ∷ GetId process_ring false ⇒ Err ENOKEY ∷ Unlink (key 3) (key 4) ⇒ done ∷
    new_ring "r3" session ⇒ Err EPERM ∷ restrict (key 5) "" ⇒ Err EEXIST ∷
    Move (key 6) (key 4) (key 3) 0 ⇒ Err EACCES ∷ restrict (key 5) "" ⇒ Err EEXIST ∷
    add "user" "b" "s609" (key 5) ⇒ Err EPERM ∷ []) ∷
    (From 0 1000000 1 ∷ hello 1000 1000 (7 ∷ []) ⇒ number 1 ∷ GetId user false ⇒ number 3 ∷
    GetId user_session false ⇒ number 4 ∷ add "user" "b" "s863" user_session ⇒ number 5 ∷
    new_ring "r2" (key 5) ⇒ Err ENOTDIR ∷ Revoke (key 5) ⇒ done ∷
    search (key 3) "user" "k:2" (key 4) ⇒ Err ENOKEY ∷ SetTimeout (key 5) 0 ⇒ Err EKEYREVOKED ∷
    Read (key 3) ⇒ hex "" ∷ search (key 3) "user" "b" nowhere ⇒ Err ENOKEY ∷ Read (key 5) ⇒ Err EKEYREVOKED ∷
    search (key 3) "keyring" "_uid_ses.1000" nowhere ⇒ Err ENOKEY ∷
    search session "user" "b" nowhere ⇒ Err EKEYREVOKED ∷ Read thread_ring ⇒ Err ENOKEY ∷ []) ∷
    (From 0 1000000 1 ∷ hello 3000000005 3000000007 [] ⇒ number 1 ∷ GetId user false ⇒ number 3 ∷
    GetId user_session false ⇒ number 4 ∷ join "other" ⇒ number 5 ∷ update (key 5) "s760" ⇒ Err EOPNOTSUPP ∷
    Move (key 3) (key 4) (key 3) 0 ⇒ Err EDEADLK ∷ SetPerm (key 5) 0x3f080000 ⇒ done ∷ Revoke (key 5) ⇒ done ∷
    add "user" "c" "s74" (key 4) ⇒ number 6 ∷ GetId user false ⇒ number 3 ∷
    Update (key 6) (bytes_of (codes "1b068a38ed1638")) ⇒ Err EACCES ∷ Unlink (key 3) (key 5) ⇒ Err EKEYREVOKED ∷
    Add (codes "logon") (codes "c") (bytes_of (codes "25d84270bd54d23fdaf1")) (key 3) ⇒ Err EINVAL ∷
    search (key 4) "keyring" "_uid_ses.3000000005" nowhere ⇒ number 4 ∷ []) ∷
    (From 0 1000000 1 ∷ hello 3000000005 3000000007 [] ⇒ number 1 ∷ GetId user false ⇒ number 3 ∷
    GetId user_session false ⇒ number 4 ∷ join "work" ⇒ number 5 ∷ SetPerm (key 5) 0x00000000 ⇒ done ∷
    Exec ⇒ done ∷ search (key 4) ".user" "_uid.1000" nowhere ⇒ Err EPERM ∷
    SetPerm (key 5) 0x3f3f0000 ⇒ Err EACCES ∷ add "logon" "k:2" "s796" session ⇒ Err EACCES ∷ join "" ⇒ number 6 ∷
    search (key 3) "keyring" "_uid.3000000005" nowhere ⇒ number 3 ∷
    search session "user" "k:2" nowhere ⇒ Err ENOKEY ∷ add "keyring" "k:2" "s597" (key 4) ⇒ Err EINVAL ∷
    add "keyring" "k:2" "s58" (key 3) ⇒ Err EINVAL ∷ []) ∷
    (From 0 1000000 1 ∷ hello 3000000005 3000000007 [] ⇒ number 1 ∷ GetId user false ⇒ number 3 ∷
    GetId user_session false ⇒ number 4 ∷ add "keyring" "_uid.3000000005" "s304" (key 3) ⇒ Err EINVAL ∷
    Read (key 3) ⇒ hex "" ∷ Revoke thread_ring ⇒ Err ENOKEY ∷ Read (key 3) ⇒ hex "" ∷
    Read process_ring ⇒ Err ENOKEY ∷ request "uuuuuuuuuuuuuuuuuuuuuuuuuuuuuuuu" "c" nowhere ⇒ Err EINVAL ∷
    Move (key 3) (key 4) (key 4) 0 ⇒ done ∷ add "user" "c" "s334" (key 3) ⇒ number 5 ∷
    add "user" "c" "s975" (key 4) ⇒ number 6 ∷ add "user" "a" "s509" (key 4) ⇒ number 7 ∷
    Read session ⇒ hex "030000000600000007000000" ∷ []) ∷
    (From 0 1000000 1 ∷ hello 1000 1000 (1000 ∷ 1002 ∷ []) ⇒ number 1 ∷ GetId user false ⇒ number 3 ∷
    GetId user_session false ⇒ number 4 ∷ join "third" ⇒ number 5 ∷ Unlink (key 3) (key 4) ⇒ done ∷
    Read (key 4) ⇒ hex "" ∷ new_ring "r3" (key 4) ⇒ number 6 ∷ new_ring "r2" (key 4) ⇒ number 7 ∷
    add "user" "k:2" "s375" session ⇒ number 8 ∷ restrict (key 8) "" ⇒ Err ENOTDIR ∷
    search (key 3) "keyring" "r2" nowhere ⇒ Err ENOKEY ∷ Describe (key 8) ⇒ text "user;1000;1000;3f010000;k:2" ∷
    Link (key 7) (key 6) ⇒ Err EACCES ∷ Unlink (key 3) (key 7) ⇒ Err EACCES ∷ []) ∷
    (From 0 1000000 1 ∷ hello 1001 1000 (1000 ∷ 1002 ∷ []) ⇒ number 1 ∷ GetId user false ⇒ number 3 ∷
    GetId user_session false ⇒ number 4 ∷ join "work" ⇒ number 5 ∷ Revoke (key 5) ⇒ done ∷
    add "user" "k:1" "s974" (key 5) ⇒ Err EKEYREVOKED ∷ Describe thread_ring ⇒ Err ENOKEY ∷
    restrict (key 4) "" ⇒ done ∷ Read (key 4) ⇒ hex "03000000" ∷ GetId session true ⇒ Err EKEYREVOKED ∷
    Describe session ⇒ Err EKEYREVOKED ∷ GetId user false ⇒ number 3 ∷
    add "user" "k:2" "s531" (key 5) ⇒ Err EKEYREVOKED ∷ Revoke (key 5) ⇒ Err EKEYREVOKED ∷ []) ∷
    (From 0 1000000 1 ∷ hello 1000 7 [] ⇒ number 1 ∷ GetId user false ⇒ number 3 ∷
    GetId user_session false ⇒ number 4 ∷ join "work" ⇒ number 5 ∷
    search (key 3) "keyring" "_uid.1000" nowhere ⇒ number 3 ∷ Clear (key 5) ⇒ done ∷
    Describe (key 5) ⇒ text "keyring;1000;7;3f130000;work" ∷ Read (key 4) ⇒ hex "03000000" ∷
    Revoke (key 5) ⇒ done ∷
    Add (codes "keyring") (codes "_uid_ses.1000") (bytes_of (codes "f0172f88fb13f3")) (key 4) ⇒ Err EINVAL ∷
    new_ring "r3" (key 3) ⇒ number 6 ∷ restrict (key 5) "" ⇒ Err EKEYREVOKED ∷
    Link (key 3) (key 5) ⇒ Err EKEYREVOKED ∷ Chown (key 5) 4294967295 1001 ⇒ Err EKEYREVOKED ∷ []) ∷
    (From 0 1000000 1 ∷ hello 3000000005 3000000007 (7 ∷ []) ⇒ number 1 ∷ GetId user false ⇒ number 3 ∷
    GetId user_session false ⇒ number 4 ∷ join "third" ⇒ number 5 ∷ Link user session ⇒ done ∷
    Link session (key 3) ⇒ Err EDEADLK ∷ Move (key 3) (key 4) (key 5) 1 ⇒ Err EEXIST ∷
    update (key 5) "s456" ⇒ Err EOPNOTSUPP ∷ request "keyring" "third" nowhere ⇒ number 5 ∷
    new_ring ".dot" (key 3) ⇒ Err EPERM ∷ Read user_session ⇒ hex "03000000" ∷
    update (key 3) "s790" ⇒ Err EOPNOTSUPP ∷ SetPerm (key 5) 0x04043f3f ⇒ done ∷ Invalidate (key 5) ⇒ Err EACCES ∷
    []) ∷
    (From 0 1000000 1 ∷ hello 1000 7 (1001 ∷ []) ⇒ number 1 ∷ GetId user false ⇒ number 3 ∷
    GetId user_session false ⇒ number 4 ∷ join "other" ⇒ number 5 ∷ Chown (key 5) 4294967295 1000 ⇒ Err EACCES ∷
    Move (key 3) (key 4) session 0 ⇒ done ∷ Exec ⇒ done ∷ new_ring "ring" (key 4) ⇒ number 6 ∷
    add "logon" "k:1" "0D" session ⇒ number 7 ∷ Read (key 7) ⇒ Err EOPNOTSUPP ∷
    add "keyring" "other" "s890" (key 5) ⇒ Err EINVAL ∷ Fork ⇒ number 2 ∷
    add "keyring" "_uid.1000" "s342" (key 3) ⇒ Err EINVAL ∷ Revoke (key 5) ⇒ done ∷ []) ∷
    (From 0 1000000 1 ∷ hello 1000 1000 (7 ∷ []) ⇒ number 1 ∷ GetId user false ⇒ number 3 ∷
    GetId user_session false ⇒ number 4 ∷ join "third" ⇒ number 5 ∷ Thread ⇒ number 2 ∷
    request "keyring" "c" nowhere ⇒ Err ENOKEY ∷ Chown (key 5) 1000 4294967295 ⇒ done ∷ Invalidate (key 5) ⇒ done ∷
    search (key 3) "user" "b" nowhere ⇒ Err ENOKEY ∷ Clear session ⇒ Err ENOKEY ∷
    Move (key 3) (key 4) (key 3) 1 ⇒ Err EDEADLK ∷ Read thread_ring ⇒ Err ENOKEY ∷
    add "keyring" "_uid_ses.1000" "s515" (key 3) ⇒ Err EINVAL ∷ Link (key 3) (key 4) ⇒ done ∷ []) ∷
    (From 0 1000000 1 ∷ hello 3000000005 3000000007 (7 ∷ 8 ∷ 9 ∷ 1001 ∷ []) ⇒ number 1 ∷
    GetId user false ⇒ number 3 ∷ GetId user_session false ⇒ number 4 ∷ join "third" ⇒ number 5 ∷
    add "uuuuuuuuuuuuuuuuuuuuuuuuuuuuuuu" "k:1" "s612" (key 3) ⇒ Err ENODEV ∷ Fork ⇒ number 2 ∷
    GetId user_session false ⇒ number 4 ∷ restrict (key 5) "" ⇒ done ∷ Unlink (key 3) (key 4) ⇒ done ∷
    add "keyring" "third" "s134" user ⇒ Err EINVAL ∷ request "user" "b" nowhere ⇒ Err ENOKEY ∷
    new_ring "r7" thread_ring ⇒ number 7 ∷ Describe (key 0) ⇒ Err EINVAL ∷ update (key 3) "s648" ⇒ Err EOPNOTSUPP ∷
    []) ∷
    (From 0 1000000 1 ∷ hello 3000000005 3000000007 (7 ∷ 8 ∷ 9 ∷ 1001 ∷ []) ⇒ number 1 ∷
    GetId user false ⇒ number 3 ∷ GetId user_session false ⇒ number 4 ∷ Move (key 3) (key 4) user 0 ⇒ Err EDEADLK ∷
    Link (key 4) (key 4) ⇒ Err EDEADLK ∷ request "keyring" "_uid_ses.3000000005" nowhere ⇒ number 4 ∷
    Link (key 3) (key 3) ⇒ Err EDEADLK ∷ SetPerm (key 4) 0x3f1f0000 ⇒ done ∷
    Move (key 3) (key 4) (key 4) 1 ⇒ done ∷ Exec ⇒ done ∷ join "work" ⇒ number 5 ∷
    add "logon" "k:1" "s66" (key 4) ⇒ number 6 ∷ GetId (key 0) false ⇒ Err EINVAL ∷
    search (key 5) "keyring" "_uid_ses.3000000005" nowhere ⇒ Err ENOKEY ∷ []) ∷
    (From 0 1000000 1 ∷ hello 1000 7 (7 ∷ 8 ∷ 9 ∷ 1001 ∷ []) ⇒ number 1 ∷ GetId user false ⇒ number 3 ∷
    GetId user_session false ⇒ number 4 ∷ join "third" ⇒ number 5 ∷ Invalidate (key 5) ⇒ done ∷
    add "logon" "k:1" "s360" session ⇒ Err ENOKEY ∷ Move (key 3) (key 4) session 1 ⇒ Err ENOKEY ∷
    Move (key 3) (key 4) (key 4) 1 ⇒ done ∷ SetPerm (key 5) 0x3f3f3f3f ⇒ Err ENOKEY ∷ join "" ⇒ number 6 ∷
    add "logon" "c" "s140" (key 6) ⇒ Err EINVAL ∷ search (key 3) "keyring" "_uid.1000" nowhere ⇒ number 3 ∷
    GetId user_session true ⇒ number 4 ∷ new_ring "r2" (key 3) ⇒ number 7 ∷ []) ∷
    (From 0 1000000 1 ∷ hello 1000 1000 [] ⇒ number 1 ∷ GetId user false ⇒ number 3 ∷
    GetId user_session false ⇒ number 4 ∷ join "work" ⇒ number 5 ∷ join "" ⇒ number 6 ∷
    request "user" "a" nowhere ⇒ Err ENOKEY ∷ Unlink (key 3) (key 4) ⇒ done ∷
    add "user" "c" "s571" (key 6) ⇒ number 7 ∷ Move (key 7) (key 6) session 0 ⇒ done ∷
    Unlink (key 7) (key 6) ⇒ done ∷ Read (key 4) ⇒ hex "" ∷ Move (key 6) (key 3) (key 6) 1 ⇒ Err ENOENT ∷
    SetTimeout (key 7) 1 ⇒ Err ENOKEY ∷ join "" ⇒ number 8 ∷ []) ∷
    (From 0 1000000 1 ∷ hello 1000 7 [] ⇒ number 1 ∷ GetId user false ⇒ number 3 ∷
    GetId user_session false ⇒ number 4 ∷ join "work" ⇒ number 5 ∷ GetId session true ⇒ number 5 ∷
    SetPerm (key 5) 0x3f1f0000 ⇒ done ∷ request "keyring" "_uid_ses.1000" nowhere ⇒ Err ENOKEY ∷
    restrict (key 5) "" ⇒ done ∷ GetId user true ⇒ number 3 ∷ SetPerm (key 5) 0x3f010000 ⇒ done ∷
    Move (key 3) (key 4) session 1 ⇒ Err EPERM ∷
    Update (key 5) (bytes_of (codes "0e0f2061b2b4ed")) ⇒ Err EOPNOTSUPP ∷ update thread_ring "s158" ⇒ Err ENOKEY ∷
    Fork ⇒ number 2 ∷ []) ∷
    (From 0 1000000 1 ∷ hello 3000000005 3000000007 [] ⇒ number 1 ∷ GetId user false ⇒ number 3 ∷
    GetId user_session false ⇒ number 4 ∷ join "other" ⇒ number 5 ∷ Link user session ⇒ done ∷
    Move (key 3) (key 5) (key 5) 0 ⇒ done ∷ add "keyring" "_uid_ses.3000000005" "s40" session ⇒ Err EINVAL ∷
    Revoke (key 5) ⇒ done ∷ search session "keyring" "other" nowhere ⇒ Err EKEYREVOKED ∷
    SetTimeout (key 5) 2 ⇒ Err EKEYREVOKED ∷ search (key 3) "keyring" "_uid.3000000005" nowhere ⇒ number 3 ∷
    Move (key 5) thread_ring user 1 ⇒ Err EKEYREVOKED ∷ add "user" "b" "s766" user_session ⇒ number 6 ∷
    request "keyring" "other" nowhere ⇒ Err EKEYREVOKED ∷ []) ∷
    (From 0 1000000 1 ∷ hello 3000000005 3000000007 [] ⇒ number 1 ∷ GetId user false ⇒ number 3 ∷
    GetId user_session false ⇒ number 4 ∷ join "other" ⇒ number 5 ∷ Fork ⇒ number 2 ∷
    request "keyring" "other" (key 3) ⇒ number 5 ∷ Read (key 3) ⇒ hex "05000000" ∷
    SetPerm (key 5) 0x3f100000 ⇒ done ∷ add "user" "a" "s176" (key 3) ⇒ number 6 ∷
    SetPerm (key 5) 0x40000000 ⇒ Err EINVAL ∷ Move (key 5) (key 3) (key 5) 1 ⇒ Err EDEADLK ∷ Clear (key 5) ⇒ done ∷
    search (key 5) "user" "a" (key 5) ⇒ Err ENOKEY ∷ Exit ⇒ done ∷ []) ∷
    (From 0 1000000 1 ∷ hello 1001 1000 (7 ∷ []) ⇒ number 1 ∷ GetId user false ⇒ number 3 ∷
    GetId user_session false ⇒ number 4 ∷ Link (key 1) (key 4) ⇒ Err ENOKEY ∷ Revoke (key 3) ⇒ done ∷
    Link (key 4) (key 4) ⇒ Err EDEADLK ∷ search (key 4) "keyring" "_uid.1001" nowhere ⇒ Err EKEYREVOKED ∷
    Update (key 3) (bytes_of (codes "98a81d1dfac6d58984c32e00")) ⇒ Err EKEYREVOKED ∷
    SetTimeout (key 4) 4294967295 ⇒ done ∷ Link (key 4) (key 3) ⇒ Err EKEYREVOKED ∷
    add "logon" "c" "s170" (key 4) ⇒ Err EINVAL ∷ search (key 3) "user" "k:2" nowhere ⇒ Err EKEYREVOKED ∷
    Unlink (key 4) process_ring ⇒ Err ENOKEY ∷ search (key 4) "keyring" "_uid.1001" (key 3) ⇒ Err EKEYREVOKED ∷ []) ∷
    (From 0 1000000 1 ∷ hello 1000 1000 (1001 ∷ []) ⇒ number 1 ∷ GetId user false ⇒ number 3 ∷
    GetId user_session false ⇒ number 4 ∷ join "" ⇒ number 5 ∷ Link user session ⇒ done ∷
    search user_session "keyring" "_ses" session ⇒ Err ENOKEY ∷ SetPerm (key 5) 0x3f3f0000 ⇒ done ∷
    SetPerm (key 5) 0x2b2b2b37 ⇒ done ∷ Move (key 3) (key 4) (key 4) 1 ⇒ done ∷
    search user_session "keyring" "_ses" nowhere ⇒ Err ENOKEY ∷ Link (key 3) session ⇒ Err EACCES ∷
    new_ring "r2" (key 4) ⇒ number 6 ∷ SetPerm (key 5) 0x020b3f0b ⇒ done ∷
    request ".user" "b" (key 6) ⇒ Err EPERM ∷ []) ∷
    (From 0 1000000 1 ∷ hello 1002 1002 [] ⇒ number 1 ∷ join "work" ⇒ number 5 ∷
    Describe (key 5) ⇒ text "keyring;1002;1002;3f130000;work" ∷ SetTimeout (key 5) 4294967295 ⇒ done ∷
    Describe session ⇒ text "keyring;1002;1002;3f130000;work" ∷ add "user" "b" "s661" session ⇒ number 6 ∷
    search (key 5) "user" "b" (key 5) ⇒ number 6 ∷ search (key 6) "keyring" "work" (key 5) ⇒ Err ENOTDIR ∷
    Unlink (key 6) (key 5) ⇒ done ∷ search (key 5) "keyring" "work" nowhere ⇒ number 5 ∷
    add "logon" "b" "s963" (key 5) ⇒ Err EINVAL ∷ Describe session ⇒ text "keyring;1002;1002;3f130000;work" ∷
    search (key 5) "keyring" "k:2" nowhere ⇒ Err ENOKEY ∷ Read (key 5) ⇒ hex "" ∷ []) ∷
    (From 0 1000000 1 ∷ hello 1002 1002 [] ⇒ number 1 ∷ GetId user false ⇒ number 3 ∷
    GetId user_session false ⇒ number 4 ∷ join "work" ⇒ number 5 ∷ Thread ⇒ number 2 ∷
    search (key 4) "keyring" "_uid_ses.1002" nowhere ⇒ number 4 ∷ GetId user_session true ⇒ number 4 ∷
    request "keyring" "work" nowhere ⇒ number 5 ∷ search session "keyring" "work" (key 4) ⇒ number 5 ∷
    search user_session "user" "b" nowhere ⇒ Err ENOKEY ∷ add "user" "b" "s999" session ⇒ number 6 ∷
    search process_ring "uuuuuuuuuuuuuuuuuuuuuuuuuuuuuuuu" "_uid.1000" nowhere ⇒ Err EINVAL ∷
    Add (codes "keyring") (codes "work") (bytes_of (codes "5449c928ac478eb9")) (key 3) ⇒ Err EINVAL ∷
    update user "s143" ⇒ Err EOPNOTSUPP ∷ []) ∷
    (From 0 1000000 1 ∷ hello 1000 7 [] ⇒ number 1 ∷ GetId user false ⇒ number 3 ∷
    GetId user_session false ⇒ number 4 ∷ join "third" ⇒ number 5 ∷ new_ring "r4" (key 4) ⇒ number 6 ∷
    Link (key 3) (key 6) ⇒ Err EACCES ∷ search (key 6) "keyring" "_uid.1000" nowhere ⇒ Err EACCES ∷
    request "keyring" "r4" nowhere ⇒ Err ENOKEY ∷ Clear (key 6) ⇒ Err EACCES ∷ Read (key 6) ⇒ Err EACCES ∷
    hello 1000 7 [] ⇒ number 2 ∷ From 0 1000000 2 ∷ join "work" ⇒ number 7 ∷
    request "keyring" "work" nowhere ⇒ number 7 ∷ Move (key 6) (key 4) session 1 ⇒ Err EACCES ∷ []) ∷
    (From 0 1000000 1 ∷ hello 3000000005 3000000007 (7 ∷ 8 ∷ 9 ∷ 1001 ∷ []) ⇒ number 1 ∷
    GetId user false ⇒ number 3 ∷ GetId user_session false ⇒ number 4 ∷ join "work" ⇒ number 5 ∷
    Read (key 1) ⇒ Err ENOKEY ∷ update (key 5) "s428" ⇒ Err EOPNOTSUPP ∷ Invalidate (key 5) ⇒ done ∷
    restrict thread_ring "" ⇒ Err ENOKEY ∷ Read session ⇒ Err ENOKEY ∷ Invalidate thread_ring ⇒ Err ENOKEY ∷
    Link (key 3) (key 3) ⇒ Err EDEADLK ∷ update (key 4) "s156" ⇒ Err EOPNOTSUPP ∷ SetTimeout (key 3) 0 ⇒ done ∷
    new_ring "r7" (key 4) ⇒ number 6 ∷ []) ∷
    (From 0 1000000 1 ∷ hello 1001 1000 (1000 ∷ 1002 ∷ []) ⇒ number 1 ∷ GetId user false ⇒ number 3 ∷
    GetId user_session false ⇒ number 4 ∷ join "work" ⇒ number 5 ∷ SetPerm (key 5) 0x1b083702 ⇒ done ∷
    Unlink (key 3) (key 4) ⇒ done ∷ search user "keyring" "work" nowhere ⇒ Err ENOKEY ∷
    SetPerm (key 5) 0x3f3f3f3f ⇒ Err EACCES ∷ Update (key 5) (bytes_of (codes "37fcbe44cc5c2037f1")) ⇒ Err EACCES ∷
    GetId user_session true ⇒ number 4 ∷ restrict (key 5) "" ⇒ Err EACCES ∷ Fork ⇒ number 2 ∷
    request "user" "k:1" nowhere ⇒ Err ENOKEY ∷ Move (key 3) (key 5) (key 5) 1 ⇒ Err EACCES ∷ []) ∷
    (From 0 1000000 1 ∷ hello 1001 1000 (7 ∷ 8 ∷ 9 ∷ 1001 ∷ []) ⇒ number 1 ∷ GetId user false ⇒ number 3 ∷
    GetId user_session false ⇒ number 4 ∷ Chown (key 4) 1001 4294967295 ⇒ done ∷
    search session "keyring" "_uid_ses.1001" (key 3) ⇒ Err EDEADLK ∷ Chown user 1000 4294967295 ⇒ Err EACCES ∷
    Clear (key 4) ⇒ done ∷ Exec ⇒ done ∷ new_ring "r3" (key 4) ⇒ number 5 ∷ Move (key 5) (key 4) (key 3) 0 ⇒ done ∷
    GetId user false ⇒ number 3 ∷ Move (key 5) (key 3) (key 5) 0 ⇒ Err EACCES ∷
    request "keyring" "r3" (key 5) ⇒ Err EACCES ∷ Move (key 5) (key 3) (key 3) 0 ⇒ Err EACCES ∷ []) ∷
    []

-- traces 81 to 120
abbrev pub traces_from_81 : List (List Line)
traces_from_81 =
    (From 0 1000000 1 ∷ hello 1002 1002 [] ⇒ number 1 ∷ GetId user false ⇒ number 3 ∷
    GetId user_session false ⇒ number 4 ∷ join "" ⇒ number 5 ∷ Revoke (key 5) ⇒ done ∷
    Clear (key 5) ⇒ Err EKEYREVOKED ∷ GetId user false ⇒ number 3 ∷ GetId thread_ring false ⇒ Err ENOKEY ∷
    Read thread_ring ⇒ Err ENOKEY ∷ add "keyring" "_uid_ses.1002" "s314" (key 4) ⇒ Err EINVAL ∷
    request "keyring" "_ses" (key 5) ⇒ Err EKEYREVOKED ∷ Read (key 5) ⇒ Err EKEYREVOKED ∷
    update (key 4) "s332" ⇒ Err EOPNOTSUPP ∷ Read user_session ⇒ hex "03000000" ∷ []) ∷
    (From 0 1000000 1 ∷ hello 1000 1000 [] ⇒ number 1 ∷ GetId user false ⇒ number 3 ∷
    GetId user_session false ⇒ number 4 ∷ join "other" ⇒ number 5 ∷ add "user" "b" "s338" (key 5) ⇒ number 6 ∷
    add "user" "b" "s737" (key 6) ⇒ Err ENOTDIR ∷ add "keyring" "a" "s196" (key 5) ⇒ Err EINVAL ∷
    Describe session ⇒ text "keyring;1000;1000;3f130000;other" ∷
    Describe session ⇒ text "keyring;1000;1000;3f130000;other" ∷ Link (key 3) (key 5) ⇒ done ∷
    update (key 6) "s118" ⇒ done ∷ new_ring "ring" (key 5) ⇒ number 7 ∷ join "work" ⇒ number 8 ∷
    join "" ⇒ number 9 ∷ []) ∷
    (From 0 1000000 1 ∷ hello 1002 1002 [] ⇒ number 1 ∷ GetId user false ⇒ number 3 ∷
    GetId user_session false ⇒ number 4 ∷ join "" ⇒ number 5 ∷ update process_ring "s18" ⇒ Err ENOKEY ∷
    Describe session ⇒ text "keyring;1002;1002;3f030000;_ses" ∷
    hello 1000 1000 (7 ∷ 8 ∷ 9 ∷ 1001 ∷ []) ⇒ number 2 ∷ From 0 1000000 2 ∷ GetId user false ⇒ number 6 ∷
    GetId user_session false ⇒ number 7 ∷ join "third" ⇒ number 8 ∷ From 0 1000000 1 ∷
    Move user_session (key 3) (key 4) 0 ⇒ Err ENOENT ∷ Describe (key 6) ⇒ Err EACCES ∷
    Unlink (key 6) (key 7) ⇒ Err EACCES ∷ update session "s31" ⇒ Err EOPNOTSUPP ∷ []) ∷
    (From 0 1000000 1 ∷ hello 3000000005 3000000007 [] ⇒ number 1 ∷ GetId user false ⇒ number 3 ∷
    GetId user_session false ⇒ number 4 ∷ join "work" ⇒ number 5 ∷
    request "keyring" "work" user_session ⇒ number 5 ∷ Revoke (key 5) ⇒ done ∷
    Invalidate (key 5) ⇒ Err EKEYREVOKED ∷ Fork ⇒ number 2 ∷ Move (key 5) (key 4) (key 3) 1 ⇒ Err EKEYREVOKED ∷
    request "keyring" "_uid_ses.3000000005" nowhere ⇒ Err ENOKEY ∷ Read session ⇒ Err EKEYREVOKED ∷
    new_ring "ring" (key 4) ⇒ number 6 ∷ search (key 3) "keyring" "_uid_ses.3000000005" nowhere ⇒ Err ENOKEY ∷
    search session "keyring" "work" nowhere ⇒ Err EKEYREVOKED ∷ []) ∷
    (From 0 1000000 1 ∷ hello 1000 7 (7 ∷ 8 ∷ 9 ∷ 1001 ∷ []) ⇒ number 1 ∷ GetId user false ⇒ number 3 ∷
    GetId user_session false ⇒ number 4 ∷ join "work" ⇒ number 5 ∷ new_ring "r2" (key 4) ⇒ number 6 ∷
    search (key 5) "keyring" "_uid_ses.1000" user ⇒ Err ENOKEY ∷
    Unlink (key 2147483647) user_session ⇒ Err ENOKEY ∷ Link (key 3) (key 5) ⇒ done ∷
    Read session ⇒ hex "03000000" ∷ update (key 3) "s906" ⇒ Err EOPNOTSUPP ∷ Read (key 6) ⇒ Err EACCES ∷
    new_ring "r3" user_session ⇒ number 7 ∷ Revoke (key 7) ⇒ Err EACCES ∷ SetTimeout (key 6) 0 ⇒ Err EACCES ∷ []) ∷
    (From 0 1000000 1 ∷ hello 1001 1000 (1000 ∷ 1002 ∷ []) ⇒ number 1 ∷ GetId user false ⇒ number 3 ∷
    GetId user_session false ⇒ number 4 ∷ join "other" ⇒ number 5 ∷ Link (key 3) (key 5) ⇒ done ∷
    Unlink user_session (key 4) ⇒ Err ENOENT ∷ add "trusted" "k:1" "s807" session ⇒ Err ENODEV ∷
    Read (key 4) ⇒ hex "03000000" ∷ search (key 4) "keyring" "_uid.1001" nowhere ⇒ number 3 ∷
    update (key 0) "s207" ⇒ Err EINVAL ∷ Thread ⇒ number 2 ∷ Read (key 3) ⇒ hex "" ∷ Thread ⇒ number 3 ∷
    Link (key 4) (key 3) ⇒ Err EDEADLK ∷ []) ∷
    (From 0 1000000 1 ∷ hello 1000 1000 (7 ∷ []) ⇒ number 1 ∷ join ".x" ⇒ Err EPERM ∷
    hello 1001 1000 (7 ∷ []) ⇒ number 2 ∷ From 0 1000000 2 ∷ GetId user false ⇒ number 5 ∷
    GetId user_session false ⇒ number 6 ∷ add "keyring" "_uid_ses.1001" "s788" thread_ring ⇒ Err EINVAL ∷
    Read session ⇒ hex "05000000" ∷ update process_ring "s87" ⇒ Err ENOKEY ∷
    update user_session "s912" ⇒ Err EOPNOTSUPP ∷ hello 1000 1000 (1001 ∷ []) ⇒ number 3 ∷ From 0 1000000 3 ∷
    join "" ⇒ number 7 ∷ Fork ⇒ number 4 ∷ GetId user true ⇒ number 3 ∷ SetPerm (key 7) 0x3f3f3f40 ⇒ Err EINVAL ∷
    []) ∷
    (From 0 1000000 1 ∷ hello 1000 1000 (7 ∷ 8 ∷ 9 ∷ 1001 ∷ []) ⇒ number 1 ∷ GetId user false ⇒ number 3 ∷
    GetId user_session false ⇒ number 4 ∷ join "work" ⇒ number 5 ∷ Describe process_ring ⇒ Err ENOKEY ∷
    join "" ⇒ number 6 ∷ Clear (key 4) ⇒ done ∷ SetPerm (key 5) 0x2b0b1000 ⇒ Err ENOKEY ∷
    Invalidate (key 6) ⇒ done ∷ new_ring "r6" (key 4) ⇒ number 7 ∷ new_ring "r7" session ⇒ Err ENOKEY ∷
    new_ring "r5" user_session ⇒ number 8 ∷ new_ring "r7" (key 7) ⇒ Err EACCES ∷
    Move (key 7) (key 4) (key 4) 1 ⇒ Err EACCES ∷ []) ∷
    (From 0 1000000 1 ∷ hello 1000 1000 (1001 ∷ []) ⇒ number 1 ∷ GetId user false ⇒ number 3 ∷
    GetId user_session false ⇒ number 4 ∷ join "" ⇒ number 5 ∷ Read process_ring ⇒ Err ENOKEY ∷
    Move (key 3) (key 4) (key 4) 0 ⇒ done ∷ Move (key 3) (key 4) user 0 ⇒ Err EDEADLK ∷ join "" ⇒ number 6 ∷
    Read session ⇒ hex "" ∷ Chown (key 3) 4294967295 3000000007 ⇒ Err EACCES ∷ Revoke (key 6) ⇒ done ∷
    Unlink (key 3) session ⇒ Err EKEYREVOKED ∷ SetPerm (key 6) 0x083f0000 ⇒ Err EKEYREVOKED ∷
    Link (key 4) (key 3) ⇒ Err EDEADLK ∷ []) ∷
    (From 0 1000000 1 ∷ hello 1002 1002 [] ⇒ number 1 ∷ GetId user false ⇒ number 3 ∷
    GetId user_session false ⇒ number 4 ∷ join "" ⇒ number 5 ∷ Link user session ⇒ done ∷
    Invalidate (key 5) ⇒ done ∷ Revoke thread_ring ⇒ Err ENOKEY ∷ Invalidate thread_ring ⇒ Err ENOKEY ∷
    Link (key 3) (key 3) ⇒ Err EDEADLK ∷ Read thread_ring ⇒ Err ENOKEY ∷ Link user user_session ⇒ done ∷
    Unlink (key 3) (key 4) ⇒ done ∷ Link session (key 4) ⇒ Err ENOKEY ∷ Fork ⇒ number 2 ∷ []) ∷
    (From 0 1000000 1 ∷ hello 1000 1000 [] ⇒ number 1 ∷ join "" ⇒ number 5 ∷ Thread ⇒ number 2 ∷
    Chown (key 5) 1002 4294967295 ⇒ Err EACCES ∷ search user_session "keyring" "_ses" nowhere ⇒ Err ENOKEY ∷
    update (key 5) "s649" ⇒ Err EOPNOTSUPP ∷ Thread ⇒ number 3 ∷ update (key 5) "s227" ⇒ Err EOPNOTSUPP ∷
    Unlink (key 5) (key 5) ⇒ Err ENOENT ∷ Link (key 5) (key 5) ⇒ Err EDEADLK ∷ From 0 1000000 3 ∷
    update (key 5) "s400" ⇒ Err EOPNOTSUPP ∷ Move user thread_ring (key 5) 0 ⇒ Err ENOKEY ∷
    request "keyring" "_ses" (key 5) ⇒ Err EDEADLK ∷ add "user" "k:2" "s936" (key 5) ⇒ number 6 ∷ []) ∷
    (From 0 1000000 1 ∷ hello 1000 7 (1000 ∷ 1002 ∷ []) ⇒ number 1 ∷ GetId user false ⇒ number 3 ∷
    GetId user_session false ⇒ number 4 ∷ join "work" ⇒ number 5 ∷ Link user session ⇒ done ∷
    search session "keyring" "_uid_ses.1000" nowhere ⇒ Err ENOKEY ∷
    search thread_ring "keyring" "_uid_ses.1000" (key 4) ⇒ Err ENOKEY ∷
    add "keyring" "k:2" "s760" (key 4) ⇒ Err EINVAL ∷ Clear (key 5) ⇒ done ∷
    search user_session "keyring" "_uid.1000" user ⇒ Err EDEADLK ∷
    Add (codes "keyring") (codes "a") (bytes_of (codes "7d25f984fc5d")) session ⇒ Err EINVAL ∷
    request "uuuuuuuuuuuuuuuuuuuuuuuuuuuuuuuu" "a" nowhere ⇒ Err EINVAL ∷ join "work" ⇒ number 6 ∷
    search session "keyring" "work" nowhere ⇒ number 6 ∷ []) ∷
    (From 0 1000000 1 ∷ hello 1000 7 (7 ∷ 8 ∷ 9 ∷ 1001 ∷ []) ⇒ number 1 ∷ join "_tid" ⇒ number 5 ∷
    Link user session ⇒ done ∷ Thread ⇒ number 2 ∷ Chown (key 5) 1000 4294967295 ⇒ done ∷
    search (key 5) "keyring" "_tid" nowhere ⇒ number 5 ∷ Link (key 0) (key 5) ⇒ Err EINVAL ∷
    Unlink (key 5) (key 5) ⇒ Err ENOENT ∷ join "third" ⇒ number 6 ∷ join "work" ⇒ number 7 ∷ Exec ⇒ done ∷
    new_ring "r2" (key 7) ⇒ number 8 ∷ search (key 8) "user" "k:1" (key 7) ⇒ Err ENOKEY ∷ join "" ⇒ number 9 ∷ []) ∷
    (From 0 1000000 1 ∷ hello 1000 7 [] ⇒ number 1 ∷ GetId user false ⇒ number 3 ∷
    GetId user_session false ⇒ number 4 ∷ join "" ⇒ number 5 ∷ Revoke (key 5) ⇒ done ∷
    Link user_session session ⇒ Err EKEYREVOKED ∷ Link (key 5) (key 4) ⇒ Err EKEYREVOKED ∷
    Describe (key 0) ⇒ Err EINVAL ∷
    Add (codes "uuuuuuuuuuuuuuuuuuuuuuuuuuuuuuuu") (codes "c") (bytes_of (codes "33eb0f02")) (key 5) ⇒ Err EINVAL ∷
    search session "user" "a" (key 5) ⇒ Err EKEYREVOKED ∷ Unlink (key 3) (key 4) ⇒ done ∷
    new_ring "r2" session ⇒ Err EKEYREVOKED ∷ Fork ⇒ number 2 ∷ Link (key 5) (key 3) ⇒ Err EKEYREVOKED ∷ []) ∷
    (From 0 1000000 1 ∷ hello 1000 1000 [] ⇒ number 1 ∷ GetId user false ⇒ number 3 ∷
    GetId user_session false ⇒ number 4 ∷ join "third" ⇒ number 5 ∷ new_ring "ring" (key 3) ⇒ number 6 ∷
    search (key 5) "keyring" "ring" (key 3) ⇒ Err ENOKEY ∷ GetId user false ⇒ number 3 ∷ join "work" ⇒ number 7 ∷
    Read (key 7) ⇒ hex "" ∷ Chown (key 7) 4294967295 1002 ⇒ Err EACCES ∷ Fork ⇒ number 2 ∷
    Read (key 3) ⇒ hex "06000000" ∷ Revoke (key 6) ⇒ Err EACCES ∷ Chown (key 5) 4294967295 1002 ⇒ Err ENOKEY ∷ []) ∷
    (From 0 1000000 1 ∷ hello 1000 1000 [] ⇒ number 1 ∷ GetId user false ⇒ number 3 ∷
    GetId user_session false ⇒ number 4 ∷ join "work" ⇒ number 5 ∷ Link user session ⇒ done ∷
    Move (key 4) (key 3) (key 5) 1 ⇒ Err ENOENT ∷ search (key 4) "keyring" "_uid.1000" nowhere ⇒ number 3 ∷
    add "user" "k:1" "s557" (key 5) ⇒ number 6 ∷ SetPerm (key 6) 0x0800083f ⇒ done ∷
    search session "keyring" "_uid_ses.1000" nowhere ⇒ Err ENOKEY ∷
    request "keyring" "_uid.1000" nowhere ⇒ number 3 ∷ Move (key 3) (key 4) (key 5) 1 ⇒ Err EEXIST ∷ Exec ⇒ done ∷
    Move (key 3) (key 4) (key 3) 1 ⇒ Err EDEADLK ∷ []) ∷
    (From 0 1000000 1 ∷ hello 1002 1002 (1000 ∷ 1002 ∷ []) ⇒ number 1 ∷ GetId user false ⇒ number 3 ∷
    GetId user_session false ⇒ number 4 ∷ join "work" ⇒ number 5 ∷
    search (key 5) "keyring" "work" nowhere ⇒ number 5 ∷ Thread ⇒ number 2 ∷ Revoke session ⇒ done ∷
    join "" ⇒ number 6 ∷ SetPerm (key 5) 0x3f1f1f00 ⇒ Err EKEYREVOKED ∷ join "" ⇒ number 7 ∷
    Move (key 3) (key 4) session 0 ⇒ done ∷ Read (key 7) ⇒ hex "03000000" ∷ restrict (key 5) "" ⇒ Err EKEYREVOKED ∷
    update thread_ring "s301" ⇒ Err ENOKEY ∷ []) ∷
    (From 0 1000000 1 ∷ hello 1000 7 (1000 ∷ 1002 ∷ []) ⇒ number 1 ∷ GetId user false ⇒ number 3 ∷
    GetId user_session false ⇒ number 4 ∷ SetTimeout (key 4) 4294967295 ⇒ done ∷ Fork ⇒ number 2 ∷
    request "keyring" "k:1" nowhere ⇒ Err ENOKEY ∷ Unlink (key 3) (key 4) ⇒ done ∷
    new_ring "r5" (key 3) ⇒ number 5 ∷ join "" ⇒ number 6 ∷ GetId user_session false ⇒ number 4 ∷
    From 0 1000000 2 ∷ SetTimeout (key 5) 4294967295 ⇒ Err EACCES ∷ GetId session false ⇒ number 4 ∷
    Unlink (key 3) (key 6) ⇒ Err EACCES ∷ Clear (key 5) ⇒ Err EACCES ∷ []) ∷
    (From 0 1000000 1 ∷ hello 1001 1000 (7 ∷ 8 ∷ 9 ∷ 1001 ∷ []) ⇒ number 1 ∷ GetId user false ⇒ number 3 ∷
    GetId user_session false ⇒ number 4 ∷ join "" ⇒ number 5 ∷ Link user session ⇒ done ∷
    restrict (key 5) "" ⇒ done ∷ Chown (key 5) 4294967295 1001 ⇒ done ∷
    request "keyring" "_ses" nowhere ⇒ number 5 ∷ Move (key 3) (key 4) (key 3) 0 ⇒ Err EDEADLK ∷
    restrict (key 5) "" ⇒ Err EEXIST ∷ Unlink (key 3) (key 4) ⇒ done ∷ Read (key 5) ⇒ hex "03000000" ∷
    Move (key 3) (key 5) (key 4) 1 ⇒ done ∷ hello 1000 7 (1000 ∷ 1002 ∷ []) ⇒ number 2 ∷ []) ∷
    (From 0 1000000 1 ∷ hello 1000 1000 [] ⇒ number 1 ∷ GetId user false ⇒ number 3 ∷
    GetId user_session false ⇒ number 4 ∷ Unlink (key 3) (key 3) ⇒ Err ENOENT ∷ GetId (key 3) true ⇒ number 3 ∷
    search user "user" "k:2" nowhere ⇒ Err ENOKEY ∷ Link (key 3) (key 3) ⇒ Err EDEADLK ∷
    Unlink (key 4) (key 3) ⇒ Err ENOENT ∷ update thread_ring "s626" ⇒ Err ENOKEY ∷ Unlink (key 3) (key 4) ⇒ done ∷
    join "other" ⇒ number 5 ∷ GetId process_ring false ⇒ Err ENOKEY ∷
    search (key 3) ".user" "c" nowhere ⇒ Err EPERM ∷ add "keyring" "_uid.1000" "s400" (key 5) ⇒ Err EINVAL ∷ []) ∷
    (From 0 1000000 1 ∷ hello 3000000005 3000000007 (7 ∷ []) ⇒ number 1 ∷ GetId user false ⇒ number 3 ∷
    GetId user_session false ⇒ number 4 ∷ join "third" ⇒ number 5 ∷ add "logon" "k:1" "s354" session ⇒ number 6 ∷
    update (key 6) "s96" ⇒ done ∷ add "logon" "k:1" "s628" user_session ⇒ number 7 ∷
    GetId (key 7) false ⇒ Err EACCES ∷ search (key 5) "logon" "k:1" nowhere ⇒ number 6 ∷
    GetId thread_ring false ⇒ Err ENOKEY ∷ update session "s887" ⇒ Err EOPNOTSUPP ∷
    new_ring "k:2" (key 5) ⇒ number 8 ∷ add "user" "b" "s643" session ⇒ number 9 ∷
    Move (key 7) (key 4) (key 5) 0 ⇒ Err EACCES ∷ []) ∷
    (From 0 1000000 1 ∷ hello 1002 1002 (1001 ∷ []) ⇒ number 1 ∷ GetId user false ⇒ number 3 ∷
    GetId user_session false ⇒ number 4 ∷ join "" ⇒ number 5 ∷ Link user session ⇒ done ∷
    add "keyring" "_ses" "s576" (key 4) ⇒ Err EINVAL ∷ add "user" "b" "s867" (key 3) ⇒ number 6 ∷
    add "logon" "c" "s953" (key 5) ⇒ Err EINVAL ∷ Clear (key 6) ⇒ Err ENOTDIR ∷ Read process_ring ⇒ Err ENOKEY ∷
    search (key 4) "keyring" "_uid_ses.1002" (key 3) ⇒ Err EDEADLK ∷
    add "keyring" "_ses" "s984" session ⇒ Err EINVAL ∷
    search (key 5) "keyring" "_uid_ses.1002" nowhere ⇒ Err ENOKEY ∷ add "keyring" "a" "s688" (key 3) ⇒ Err EINVAL ∷
    []) ∷
    (From 0 1000000 1 ∷ hello 1000 7 [] ⇒ number 1 ∷ GetId user false ⇒ number 3 ∷
    GetId user_session false ⇒ number 4 ∷ join "work" ⇒ number 5 ∷ update (key 5) "s356" ⇒ Err EOPNOTSUPP ∷
    SetTimeout (key 5) 2 ⇒ done ∷ restrict (key 5) "" ⇒ done ∷ SetTimeout (key 5) 1000 ⇒ done ∷
    search user_session "keyring" "work" nowhere ⇒ Err ENOKEY ∷ Revoke (key 5) ⇒ done ∷
    Describe session ⇒ Err EKEYREVOKED ∷ new_ring "ring" session ⇒ Err EKEYREVOKED ∷
    Link (key 3) (key 3) ⇒ Err EDEADLK ∷ Clear (key 5) ⇒ Err EKEYREVOKED ∷ []) ∷
    (From 0 1000000 1 ∷ hello 1001 1000 (1000 ∷ 1002 ∷ []) ⇒ number 1 ∷ GetId user false ⇒ number 3 ∷
    GetId user_session false ⇒ number 4 ∷ join "third" ⇒ number 5 ∷ GetId session true ⇒ number 5 ∷
    SetTimeout (key 5) 1000 ⇒ done ∷ Describe (key 5) ⇒ text "keyring;1001;1000;3f130000;third" ∷
    Move (key 3) (key 4) (key 5) 0 ⇒ done ∷ SetTimeout (key 5) 1 ⇒ done ∷ new_ring "ring" (key 3) ⇒ number 6 ∷
    Exec ⇒ done ∷
    Add (codes "user") (codes "k:2") (bytes_of (codes "20139f611fb1fd8e1c8234b69667")) (key 6) ⇒ number 7 ∷
    Unlink (key 0) (key 3) ⇒ Err EINVAL ∷ update (key 1) "s173" ⇒ Err ENOKEY ∷ []) ∷
    (From 0 1000000 1 ∷ hello 1000 7 [] ⇒ number 1 ∷ GetId user false ⇒ number 3 ∷
    GetId user_session false ⇒ number 4 ∷ join "" ⇒ number 5 ∷ Link user session ⇒ done ∷
    Update (key 4) (bytes_of (codes "910a")) ⇒ Err EOPNOTSUPP ∷ GetId session true ⇒ number 5 ∷
    Read (key 5) ⇒ hex "03000000" ∷ update thread_ring "s506" ⇒ Err ENOKEY ∷ Revoke (key 5) ⇒ done ∷
    SetTimeout (key 5) 1000 ⇒ Err EKEYREVOKED ∷ new_ring "r2" (key 3) ⇒ number 6 ∷
    GetId session false ⇒ Err EKEYREVOKED ∷ Move (key 3) (key 4) session 1 ⇒ Err EKEYREVOKED ∷ []) ∷
    (From 0 1000000 1 ∷ hello 1002 1002 [] ⇒ number 1 ∷ join "other" ⇒ number 5 ∷
    Unlink (key 5) (key 5) ⇒ Err ENOENT ∷ Fork ⇒ number 2 ∷ Invalidate (key 5) ⇒ done ∷
    new_ring "r8" session ⇒ Err ENOKEY ∷ Read user ⇒ hex "" ∷ new_ring "r8" user ⇒ number 6 ∷ Fork ⇒ number 3 ∷
    search (key 6) "user" "k:1" nowhere ⇒ Err EACCES ∷ update (key 6) "s258" ⇒ Err EACCES ∷
    SetPerm (key 6) 0x083f0000 ⇒ Err EACCES ∷ Fork ⇒ number 4 ∷
    Describe (key 6) ⇒ text "keyring;1002;1002;3f010000;r8" ∷ []) ∷
    (From 0 1000000 1 ∷ hello 1000 1000 [] ⇒ number 1 ∷ GetId user false ⇒ number 3 ∷
    GetId user_session false ⇒ number 4 ∷ join "other" ⇒ number 5 ∷ Link user session ⇒ done ∷
    join "third" ⇒ number 6 ∷ search thread_ring "keyring" "third" (key 6) ⇒ Err ENOKEY ∷
    Link session session ⇒ Err EDEADLK ∷ GetId thread_ring false ⇒ Err ENOKEY ∷ restrict (key 6) "" ⇒ done ∷
    Move (key 3) (key 4) (key 3) 0 ⇒ Err EDEADLK ∷ Unlink (key 3) (key 4) ⇒ done ∷
    Link session session ⇒ Err EPERM ∷ search session "user" "c" nowhere ⇒ Err ENOKEY ∷ []) ∷
    (From 0 1000000 1 ∷ hello 1002 1002 (1001 ∷ []) ⇒ number 1 ∷ join "other" ⇒ number 5 ∷
    Link user session ⇒ done ∷ Unlink session (key 5) ⇒ Err ENOENT ∷ add "user" "a" "s832" (key 5) ⇒ number 6 ∷
    Move (key 6) (key 5) session 0 ⇒ done ∷ SetPerm (key 6) 0x3f1f1f00 ⇒ done ∷
    Move (key 6) (key 5) session 1 ⇒ done ∷ Unlink (key 6) (key 5) ⇒ done ∷ Link user (key 5) ⇒ done ∷
    Clear (key 6) ⇒ Err ENOKEY ∷ join "work" ⇒ number 7 ∷ GetId (key 7) false ⇒ number 7 ∷
    Chown (key 7) 1000 4294967295 ⇒ Err EACCES ∷ []) ∷
    (From 0 1000000 1 ∷ hello 1000 1000 [] ⇒ number 1 ∷ GetId user false ⇒ number 3 ∷
    GetId user_session false ⇒ number 4 ∷ join "work" ⇒ number 5 ∷ Link user session ⇒ done ∷
    request "user" "b" nowhere ⇒ Err ENOKEY ∷ Describe (key 5) ⇒ text "keyring;1000;1000;3f130000;work" ∷
    Unlink (key 3) (key 4) ⇒ done ∷ update (key 4) "s775" ⇒ Err EOPNOTSUPP ∷ Revoke (key 5) ⇒ done ∷
    Revoke (key 5) ⇒ Err EKEYREVOKED ∷ Unlink session (key 5) ⇒ Err EKEYREVOKED ∷ new_ring "r2" user ⇒ number 6 ∷
    request "keyring" "r2" (key 4) ⇒ Err ENOKEY ∷ []) ∷
    (From 0 1000000 1 ∷ hello 1002 1002 [] ⇒ number 1 ∷ Move (key 0) session user 1 ⇒ Err EINVAL ∷ Exec ⇒ done ∷
    add "logon" "a" "s786" user_session ⇒ Err EINVAL ∷ request "user" "a" nowhere ⇒ Err ENOKEY ∷
    Read user ⇒ hex "" ∷ Unlink session session ⇒ Err ENOENT ∷ update session "s40" ⇒ Err EOPNOTSUPP ∷
    request "logon" "c" nowhere ⇒ Err ENOKEY ∷ join "other" ⇒ number 5 ∷ Read (key 5) ⇒ hex "" ∷ Exec ⇒ done ∷
    Link (key 5) (key 5) ⇒ Err EDEADLK ∷
    Add (codes "user") (codes "a") (bytes_of (codes "8563189e1cacbcebe21ab9")) (key 5) ⇒ number 6 ∷ []) ∷
    (From 0 1000000 1 ∷ hello 1001 1000 (1001 ∷ []) ⇒ number 1 ∷ Chown user 1001 4294967295 ⇒ done ∷
    add "user" "k:2" "s141" process_ring ⇒ number 6 ∷ restrict (key 6) "" ⇒ Err ENOTDIR ∷
    Invalidate (key 6) ⇒ done ∷ search user_session "user" "a" user_session ⇒ Err ENOKEY ∷
    Link user process_ring ⇒ done ∷ update process_ring "s663" ⇒ Err EOPNOTSUPP ∷
    Update process_ring (bytes_of (codes "f10ced67")) ⇒ Err EOPNOTSUPP ∷ update session "s492" ⇒ Err EOPNOTSUPP ∷
    Read thread_ring ⇒ Err ENOKEY ∷ add "user" "k:2" "s687" user ⇒ number 7 ∷ Read (key 7) ⇒ text "s687" ∷
    Read (key 6) ⇒ Err ENOKEY ∷ []) ∷
    (From 0 1000000 1 ∷ hello 1001 1000 (7 ∷ 8 ∷ 9 ∷ 1001 ∷ []) ⇒ number 1 ∷ GetId user false ⇒ number 3 ∷
    GetId user_session false ⇒ number 4 ∷ join "work" ⇒ number 5 ∷ Link user session ⇒ done ∷
    Revoke (key 5) ⇒ done ∷ SetPerm (key 5) 0x3f3f3f3f ⇒ Err EKEYREVOKED ∷ Read user ⇒ hex "" ∷
    SetTimeout (key 5) 4294967295 ⇒ Err EKEYREVOKED ∷
    search session "keyring" "_uid.1001" nowhere ⇒ Err EKEYREVOKED ∷ new_ring "ring" user ⇒ number 6 ∷
    new_ring "r2" (key 4) ⇒ number 7 ∷ Describe process_ring ⇒ Err ENOKEY ∷
    Update (key 5) (bytes_of (codes "78ec9647d2a4021bf3329f576352a3eade")) ⇒ Err EKEYREVOKED ∷ []) ∷
    (From 0 1000000 1 ∷ hello 1000 1000 [] ⇒ number 1 ∷ GetId user false ⇒ number 3 ∷
    GetId user_session false ⇒ number 4 ∷ Read session ⇒ hex "03000000" ∷
    add "logon" "k:2" "s126" (key 4) ⇒ number 5 ∷ add "user" "k:1" "s915" user ⇒ number 6 ∷
    Invalidate (key 6) ⇒ done ∷ new_ring "r3" (key 3) ⇒ number 7 ∷ Read (key 5) ⇒ Err EOPNOTSUPP ∷
    Link user_session process_ring ⇒ done ∷ Read thread_ring ⇒ Err ENOKEY ∷
    request "keyring" "_uid_ses.1000" nowhere ⇒ number 4 ∷ GetId user_session false ⇒ number 4 ∷
    update user_session "s639" ⇒ Err EOPNOTSUPP ∷ []) ∷
    (From 0 1000000 1 ∷ hello 1000 1000 (7 ∷ 8 ∷ 9 ∷ 1001 ∷ []) ⇒ number 1 ∷ GetId user false ⇒ number 3 ∷
    GetId user_session false ⇒ number 4 ∷ join "" ⇒ number 5 ∷ SetPerm (key 5) 0x1b0b3f1f ⇒ done ∷
    Link (key 4) (key 3) ⇒ Err EDEADLK ∷ SetPerm (key 5) 0x083f001b ⇒ Err EACCES ∷
    Describe thread_ring ⇒ Err ENOKEY ∷ Read (key 4) ⇒ hex "03000000" ∷ restrict (key 5) "" ⇒ Err EACCES ∷
    request "logon" "k:1" nowhere ⇒ Err ENOKEY ∷ Describe (key 5) ⇒ text "keyring;1000;1000;1b0b3f1f;_ses" ∷
    new_ring "r3" (key 5) ⇒ Err EACCES ∷ Link (key 3) (key 4) ⇒ done ∷ []) ∷
    (From 0 1000000 1 ∷ hello 1000 1000 [] ⇒ number 1 ∷ GetId user false ⇒ number 3 ∷
    GetId user_session false ⇒ number 4 ∷ join "" ⇒ number 5 ∷ Invalidate (key 5) ⇒ done ∷
    search (key 3) "keyring" ":x" nowhere ⇒ Err ENOKEY ∷
    Add (codes "keyring") (codes "_ses") (bytes_of (codes "72a65107cbbd881c09450a")) (key 3) ⇒ Err EINVAL ∷
    SetTimeout (key 4) 0 ⇒ done ∷ SetTimeout session 1000 ⇒ Err ENOKEY ∷ new_ring "r2" (key 3) ⇒ number 6 ∷
    add "keyring" "_uid.1000" "s358" (key 3) ⇒ Err EINVAL ∷ new_ring "r3" (key 4) ⇒ number 7 ∷
    new_ring "r3" (key 3) ⇒ number 8 ∷ add "user" "a" "s351" (key 3) ⇒ number 9 ∷ []) ∷
    (From 0 1000000 1 ∷ hello 1002 1002 (7 ∷ []) ⇒ number 1 ∷ GetId user false ⇒ number 3 ∷
    GetId user_session false ⇒ number 4 ∷ join "work" ⇒ number 5 ∷ Move (key 3) (key 4) user 0 ⇒ Err EDEADLK ∷
    Invalidate (key 5) ⇒ done ∷ add "keyring" "_uid.1002" "s393" (key 3) ⇒ Err EINVAL ∷
    SetPerm session 0x37373737 ⇒ Err ENOKEY ∷ Unlink thread_ring (key 3) ⇒ Err ENOKEY ∷
    Read (key 4) ⇒ hex "03000000" ∷ new_ring "r7" (key 4) ⇒ number 6 ∷
    add "logon" "k:1" "s333" user_session ⇒ number 7 ∷ add "logon" "k:1" "s563" (key 4) ⇒ Err EACCES ∷
    Link session user_session ⇒ Err ENOKEY ∷ []) ∷
    (From 0 1000000 1 ∷ hello 1000 7 (7 ∷ []) ⇒ number 1 ∷ GetId user false ⇒ number 3 ∷
    GetId user_session false ⇒ number 4 ∷ join "work" ⇒ number 5 ∷ GetId (key 4) true ⇒ number 4 ∷
    SetPerm (key 5) 0x0810201f ⇒ done ∷ SetPerm (key 5) 0x3f000000 ⇒ Err EACCES ∷
    Move (key 3) (key 4) session 1 ⇒ Err EACCES ∷ Move (key 3) (key 4) (key 5) 1 ⇒ Err EACCES ∷
    search (key 4) "user" "k:1" nowhere ⇒ Err ENOKEY ∷ request "keyring" "work" (key 5) ⇒ Err EACCES ∷
    SetTimeout (key 5) 4294967295 ⇒ Err EACCES ∷ new_ring "ring" (key 2147483647) ⇒ Err ENOKEY ∷
    Move (key 3) (key 4) (key 4) 1 ⇒ done ∷ []) ∷
    (From 0 1000000 1 ∷ hello 1000 7 [] ⇒ number 1 ∷ GetId user false ⇒ number 3 ∷
    GetId user_session false ⇒ number 4 ∷ Revoke (key 2147483647) ⇒ Err ENOKEY ∷ Link (key 3) (key 4) ⇒ done ∷
    Unlink (key 3) (key 4) ⇒ done ∷ add "keyring" "_uid.1000" "s29" (key 4) ⇒ Err EINVAL ∷
    request "keyring" "_uid_ses.1000" nowhere ⇒ number 4 ∷ Revoke thread_ring ⇒ Err ENOKEY ∷
    new_ring "r3" (key 4) ⇒ number 5 ∷ update (key 1) "s266" ⇒ Err ENOKEY ∷ update (key 0) "s663" ⇒ Err EINVAL ∷
    add "user" "k:" "s489" user ⇒ number 6 ∷ Read process_ring ⇒ Err ENOKEY ∷ []) ∷
    (From 0 1000000 1 ∷ hello 3000000005 3000000007 (7 ∷ 8 ∷ 9 ∷ 1001 ∷ []) ⇒ number 1 ∷
    GetId user false ⇒ number 3 ∷ GetId user_session false ⇒ number 4 ∷ join "third" ⇒ number 5 ∷
    Link user session ⇒ done ∷ hello 1000 7 [] ⇒ number 2 ∷ From 0 1000000 2 ∷ GetId user false ⇒ number 6 ∷
    GetId user_session false ⇒ number 7 ∷ join "other" ⇒ number 8 ∷ Link user session ⇒ done ∷
    Describe (key 4) ⇒ Err EACCES ∷ new_ring "r3" (key 4) ⇒ Err EACCES ∷ update user "s63" ⇒ Err EOPNOTSUPP ∷
    Clear (key 5) ⇒ Err EACCES ∷ []) ∷
    (From 0 1000000 1 ∷ hello 1002 1002 (1000 ∷ 1002 ∷ []) ⇒ number 1 ∷ GetId user false ⇒ number 3 ∷
    GetId user_session false ⇒ number 4 ∷ join "work" ⇒ number 5 ∷ Thread ⇒ number 2 ∷
    add "user" "k:1" "s774" (key 3) ⇒ number 6 ∷ update (key 6) "s405" ⇒ Err EACCES ∷
    Unlink (key 3) (key 4) ⇒ done ∷ join "" ⇒ number 7 ∷ Move (key 6) (key 3) (key 5) 0 ⇒ Err EACCES ∷
    Read (key 6) ⇒ Err EACCES ∷ Link (key 3) (key 5) ⇒ Err EACCES ∷ Revoke (key 6) ⇒ Err EACCES ∷
    Invalidate (key 7) ⇒ done ∷ []) ∷
    []

-- traces 121 to 160
abbrev pub traces_from_121 : List (List Line)
traces_from_121 =
    (From 0 1000000 1 ∷ hello 1000 7 [] ⇒ number 1 ∷ GetId user false ⇒ number 3 ∷
    GetId user_session false ⇒ number 4 ∷ join "third" ⇒ number 5 ∷ Link user session ⇒ done ∷
    add "keyring" "third" "s451" (key 3) ⇒ Err EINVAL ∷ request "user" "c" nowhere ⇒ Err ENOKEY ∷
    Revoke (key 5) ⇒ done ∷ search user "keyring" "_uid_ses.1000" nowhere ⇒ Err ENOKEY ∷
    add "keyring" "_uid.1000" "s936" user_session ⇒ Err EINVAL ∷ Read (key 4) ⇒ hex "03000000" ∷
    Invalidate (key 5) ⇒ Err EKEYREVOKED ∷ search session "keyring" "third" nowhere ⇒ Err EKEYREVOKED ∷
    request "keyring" "third" nowhere ⇒ Err EKEYREVOKED ∷ []) ∷
    (From 0 1000000 1 ∷ hello 1002 1002 [] ⇒ number 1 ∷ GetId user false ⇒ number 3 ∷
    GetId user_session false ⇒ number 4 ∷ Link (key 3) (key 3) ⇒ Err EDEADLK ∷ Link (key 4) (key 4) ⇒ Err EDEADLK ∷
    request "keyring" "_uid.1002" nowhere ⇒ number 3 ∷ Move (key 3) (key 4) (key 4) 1 ⇒ done ∷
    Invalidate thread_ring ⇒ Err ENOKEY ∷ Read (key 4) ⇒ hex "03000000" ∷ restrict thread_ring "" ⇒ Err ENOKEY ∷
    GetId (key 4) true ⇒ number 4 ∷ Move (key 3) (key 4) (key 4) 0 ⇒ done ∷ Invalidate thread_ring ⇒ Err ENOKEY ∷
    request "keyring" "_uid.1002" nowhere ⇒ number 3 ∷ []) ∷
    (From 0 1000000 1 ∷ hello 1000 7 (7 ∷ 8 ∷ 9 ∷ 1001 ∷ []) ⇒ number 1 ∷ GetId user false ⇒ number 3 ∷
    GetId user_session false ⇒ number 4 ∷ join ".x" ⇒ Err EPERM ∷ hello 1000 7 (7 ∷ 8 ∷ 9 ∷ 1001 ∷ []) ⇒ number 2 ∷
    From 0 1000000 2 ∷ join "work" ⇒ number 5 ∷ add "user" "c" "s874" (key 5) ⇒ number 6 ∷
    SetPerm (key 6) 0x3f3f3f3f ⇒ done ∷ hello 1000 7 [] ⇒ number 3 ∷ From 0 1000000 3 ∷
    Unlink (key 6) (key 5) ⇒ Err EACCES ∷ Update session (bytes_of (codes "2c93dc7c405b")) ⇒ Err EOPNOTSUPP ∷
    Chown (key 5) 4294967295 3000000007 ⇒ Err EACCES ∷ Exec ⇒ done ∷ update session "s786" ⇒ Err EOPNOTSUPP ∷ []) ∷
    (From 0 1000000 1 ∷ hello 1002 1002 (1001 ∷ []) ⇒ number 1 ∷ GetId user false ⇒ number 3 ∷
    GetId user_session false ⇒ number 4 ∷ Unlink (key 3) (key 4) ⇒ done ∷ Fork ⇒ number 2 ∷
    add "user" "b" "s135" (key 3) ⇒ number 5 ∷ Exit ⇒ done ∷ From 0 1000000 2 ∷
    SetTimeout (key 5) 1000 ⇒ Err EACCES ∷ Read user_session ⇒ hex "" ∷ SetTimeout (key 5) 2 ⇒ Err EACCES ∷
    GetId thread_ring false ⇒ Err ENOKEY ∷ Read (key 4) ⇒ hex "" ∷ Unlink (key 5) (key 3) ⇒ done ∷
    Move (key 4) (key 4) (key 3) 1 ⇒ Err ENOENT ∷ []) ∷
    (From 0 1000000 1 ∷ hello 1001 1000 (1000 ∷ 1002 ∷ []) ⇒ number 1 ∷ GetId user false ⇒ number 3 ∷
    GetId user_session false ⇒ number 4 ∷ add "keyring" "k:1" "s677" user_session ⇒ Err EINVAL ∷
    Link (key 0) (key 4) ⇒ Err EINVAL ∷ Link (key 4) user_session ⇒ Err EDEADLK ∷ Read (key 4) ⇒ hex "03000000" ∷
    update (key 4) "s914" ⇒ Err EOPNOTSUPP ∷ add "keyring" "_uid.1001" "s539" user_session ⇒ Err EINVAL ∷
    GetId user_session false ⇒ number 4 ∷ new_ring "r2" user ⇒ number 5 ∷ update (key 4) "s810" ⇒ Err EOPNOTSUPP ∷
    request "keyring" "_uid_ses.1001" (key 3) ⇒ Err EDEADLK ∷
    search thread_ring "keyring" "r2" nowhere ⇒ Err ENOKEY ∷ []) ∷
    (From 0 1000000 1 ∷ hello 1000 1000 [] ⇒ number 1 ∷ GetId user false ⇒ number 3 ∷
    GetId user_session false ⇒ number 4 ∷ join "work" ⇒ number 5 ∷ Link user session ⇒ done ∷
    Invalidate (key 5) ⇒ done ∷ Chown (key 2147483647) 4294967295 1000 ⇒ Err ENOKEY ∷
    add "logon" "b" "s127" process_ring ⇒ Err EINVAL ∷ restrict (key 4) "" ⇒ done ∷
    Add (codes "user") (codes "a") (bytes_of (codes "2d3d6f95b7")) (key 4) ⇒ Err EPERM ∷
    add "user" "k:2" "s232" (key 3) ⇒ number 6 ∷ Link (key 3) (key 3) ⇒ Err EDEADLK ∷
    Link (key 3) (key 3) ⇒ Err EDEADLK ∷ join "" ⇒ number 7 ∷ []) ∷
    (From 0 1000000 1 ∷ hello 1001 1000 [] ⇒ number 1 ∷ GetId user false ⇒ number 3 ∷
    GetId user_session false ⇒ number 4 ∷ join "third" ⇒ number 5 ∷ update (key 3) "s990" ⇒ Err EOPNOTSUPP ∷
    Read user ⇒ hex "" ∷ search process_ring "keyring" "third" nowhere ⇒ Err ENOKEY ∷ Link (key 5) (key 3) ⇒ done ∷
    add "user" "_ses" "s425" user_session ⇒ number 6 ∷ GetId (key 6) false ⇒ Err EACCES ∷
    Move session process_ring (key 5) 0 ⇒ Err ENOKEY ∷ add "keyring" "c" "s337" (key 3) ⇒ Err EINVAL ∷
    update thread_ring "s769" ⇒ Err ENOKEY ∷ SetPerm (key 6) 0x0b1f3f3f ⇒ Err EACCES ∷ []) ∷
    (From 0 1000000 1 ∷ hello 1000 7 (1000 ∷ 1002 ∷ []) ⇒ number 1 ∷ GetId user false ⇒ number 3 ∷
    GetId user_session false ⇒ number 4 ∷ join "" ⇒ number 5 ∷ Link user session ⇒ done ∷ join "work" ⇒ number 6 ∷
    update (key 4) "s303" ⇒ Err EOPNOTSUPP ∷ Revoke (key 6) ⇒ done ∷ Link session (key 4) ⇒ Err EKEYREVOKED ∷
    Describe session ⇒ Err EKEYREVOKED ∷ search process_ring "keyring" "_uid.1000" nowhere ⇒ Err ENOKEY ∷
    update session "s676" ⇒ Err EKEYREVOKED ∷ Unlink (key 3) (key 4) ⇒ done ∷
    new_ring "r3" session ⇒ Err EKEYREVOKED ∷ []) ∷
    (From 0 1000000 1 ∷ hello 1000 1000 [] ⇒ number 1 ∷ GetId user false ⇒ number 3 ∷
    GetId user_session false ⇒ number 4 ∷ join "" ⇒ number 5 ∷ Link user_session (key 5) ⇒ done ∷
    Unlink (key 4) (key 5) ⇒ done ∷ search session "keyring" "_ses" nowhere ⇒ number 5 ∷
    Move (key 5) session (key 3) 0 ⇒ Err ENOENT ∷ add "user" "k:1" "s819" (key 4) ⇒ number 6 ∷
    add "logon" "k:2" "s616" (key 5) ⇒ number 7 ∷ new_ring "ring" (key 5) ⇒ number 8 ∷
    Unlink (key 8) (key 8) ⇒ Err ENOENT ∷ new_ring "r2" (key 7) ⇒ Err ENOTDIR ∷ Clear (key 5) ⇒ done ∷ []) ∷
    (From 0 1000000 1 ∷ hello 1002 1002 [] ⇒ number 1 ∷ GetId user false ⇒ number 3 ∷
    GetId user_session false ⇒ number 4 ∷ join "work" ⇒ number 5 ∷ Link user session ⇒ done ∷
    SetPerm (key 5) 0x2b3f0220 ⇒ done ∷ Revoke (key 5) ⇒ done ∷ Move (key 3) (key 4) session 0 ⇒ Err EKEYREVOKED ∷
    GetId process_ring false ⇒ Err ENOKEY ∷ Read (key 5) ⇒ Err EKEYREVOKED ∷ Revoke (key 5) ⇒ Err EKEYREVOKED ∷
    update (key 3) "s938" ⇒ Err EOPNOTSUPP ∷ Read session ⇒ Err EKEYREVOKED ∷
    GetId process_ring false ⇒ Err ENOKEY ∷ []) ∷
    (From 0 1000000 1 ∷ hello 3000000005 3000000007 (1000 ∷ 1002 ∷ []) ⇒ number 1 ∷ GetId user false ⇒ number 3 ∷
    GetId user_session false ⇒ number 4 ∷ join "other" ⇒ number 5 ∷ Link (key 5) user ⇒ done ∷
    hello 1002 1002 [] ⇒ number 2 ∷ From 0 1000000 2 ∷ GetId user false ⇒ number 6 ∷
    GetId user_session false ⇒ number 7 ∷ join "work" ⇒ number 8 ∷ Read (key 4) ⇒ Err EACCES ∷
    new_ring "r2" user_session ⇒ number 9 ∷ search (key 8) "keyring" "_uid.1002" (key 3) ⇒ Err EACCES ∷
    Invalidate (key 5) ⇒ Err EACCES ∷ SetTimeout (key 9) 0 ⇒ Err EACCES ∷ []) ∷
    (From 0 1000000 1 ∷ hello 1002 1002 (7 ∷ 8 ∷ 9 ∷ 1001 ∷ []) ⇒ number 1 ∷ GetId user false ⇒ number 3 ∷
    GetId user_session false ⇒ number 4 ∷ join "" ⇒ number 5 ∷ Link user session ⇒ done ∷
    Describe process_ring ⇒ Err ENOKEY ∷ request "keyring" "_ses" (key 5) ⇒ Err EDEADLK ∷
    Unlink user thread_ring ⇒ Err ENOKEY ∷ search session "keyring" "_uid_ses.1002" nowhere ⇒ Err ENOKEY ∷
    add "keyring" "_uid_ses.1002" "s33" (key 3) ⇒ Err EINVAL ∷ add "trusted" "c" "s550" session ⇒ Err ENODEV ∷
    Add (codes "keyring") (codes "_uid_ses.1002") (bytes_of (codes "9a4f455bf908")) user ⇒ Err EINVAL ∷
    Move (key 3) (key 5) (key 5) 0 ⇒ done ∷ new_ring "r3" thread_ring ⇒ number 7 ∷ []) ∷
    (From 0 1000000 1 ∷ hello 1002 1002 (1001 ∷ []) ⇒ number 1 ∷ GetId user false ⇒ number 3 ∷
    GetId user_session false ⇒ number 4 ∷ join "" ⇒ number 5 ∷ Read (key 5) ⇒ hex "" ∷ Read (key 5) ⇒ hex "" ∷
    Read (key 3) ⇒ hex "" ∷ Revoke (key 5) ⇒ done ∷ Unlink (key 3) (key 4) ⇒ done ∷
    SetPerm (key 5) 0x3f010000 ⇒ Err EKEYREVOKED ∷ restrict (key 5) "" ⇒ Err EKEYREVOKED ∷
    GetId user_session false ⇒ number 4 ∷ search (key 3) "keyring" "_ses" nowhere ⇒ Err ENOKEY ∷
    new_ring "ring" (key 5) ⇒ Err EKEYREVOKED ∷ []) ∷
    (From 0 1000000 1 ∷ hello 1000 1000 (1001 ∷ []) ⇒ number 1 ∷ GetId user false ⇒ number 3 ∷
    GetId user_session false ⇒ number 4 ∷ join "work" ⇒ number 5 ∷ Link user session ⇒ done ∷
    Read (key 5) ⇒ hex "03000000" ∷ GetId user false ⇒ number 3 ∷ Describe (key 0) ⇒ Err EINVAL ∷
    Move (key 5) (key 5) user_session 0 ⇒ Err ENOENT ∷ new_ring "ring" (key 4) ⇒ number 6 ∷
    Invalidate (key 5) ⇒ done ∷ GetId session false ⇒ Err ENOKEY ∷ Move (key 3) (key 4) (key 3) 0 ⇒ Err EDEADLK ∷
    Unlink (key 3) (key 4) ⇒ done ∷ []) ∷
    (From 0 1000000 1 ∷ hello 1000 7 [] ⇒ number 1 ∷ GetId user false ⇒ number 3 ∷
    GetId user_session false ⇒ number 4 ∷ join "third" ⇒ number 5 ∷ SetPerm (key 5) 0x3f3f3f40 ⇒ Err EINVAL ∷
    Revoke (key 5) ⇒ done ∷ SetTimeout (key 5) 0 ⇒ Err EKEYREVOKED ∷ Unlink (key 3) (key 4) ⇒ done ∷
    Chown (key 5) 4294967295 7 ⇒ Err EKEYREVOKED ∷ update (key 3) "s920" ⇒ Err EOPNOTSUPP ∷
    Chown (key 5) 4294967295 7 ⇒ Err EKEYREVOKED ∷ Link (key 3) (key 3) ⇒ Err EDEADLK ∷
    add "keyring" "_uid.1000" "s995" (key 4) ⇒ Err EINVAL ∷ Unlink (key 4) (key 3) ⇒ Err ENOENT ∷ []) ∷
    (From 0 1000000 1 ∷ hello 3000000005 3000000007 (7 ∷ 8 ∷ 9 ∷ 1001 ∷ []) ⇒ number 1 ∷
    GetId user false ⇒ number 3 ∷ GetId user_session false ⇒ number 4 ∷ join "work" ⇒ number 5 ∷
    Link user session ⇒ done ∷ SetPerm (key 5) 0x3f3f3f3f ⇒ done ∷ add "user" "b" "s280" session ⇒ number 6 ∷
    Move (key 3) (key 4) session 1 ⇒ Err EEXIST ∷ add "user" "c" "s608" (key 3) ⇒ number 7 ∷
    Describe thread_ring ⇒ Err ENOKEY ∷ search (key 4) "keyring" "_uid.3000000005" nowhere ⇒ number 3 ∷
    Link session (key 4) ⇒ done ∷ Chown (key 5) 4294967295 3000000007 ⇒ done ∷
    request "user" "c" nowhere ⇒ number 7 ∷ []) ∷
    (From 0 1000000 1 ∷ hello 1002 1002 (7 ∷ []) ⇒ number 1 ∷ join "" ⇒ number 5 ∷ Exec ⇒ done ∷
    Clear (key 5) ⇒ done ∷ add "keyring" "_ses" "s86" (key 5) ⇒ Err EINVAL ∷
    update session "s26" ⇒ Err EOPNOTSUPP ∷ request "keyring" "_ses" nowhere ⇒ number 5 ∷ Fork ⇒ number 2 ∷
    new_ring "ring" (key 5) ⇒ number 6 ∷ Move (key 6) (key 5) user_session 0 ⇒ done ∷
    Update (key 6) (bytes_of (codes "9283ffedac37918153285c1f")) ⇒ Err EACCES ∷ restrict (key 6) "" ⇒ Err EACCES ∷
    Read session ⇒ hex "" ∷ Exec ⇒ done ∷ []) ∷
    (From 0 1000000 1 ∷ hello 1001 1000 (1000 ∷ 1002 ∷ []) ⇒ number 1 ∷ GetId user false ⇒ number 3 ∷
    GetId user_session false ⇒ number 4 ∷ join "work" ⇒ number 5 ∷ Fork ⇒ number 2 ∷ From 0 1000000 2 ∷
    new_ring "r2" (key 5) ⇒ number 6 ∷ request "keyring" "_uid_ses.1001" thread_ring ⇒ Err ENOKEY ∷
    Move (key 6) (key 5) session 0 ⇒ done ∷ restrict (key 6) "" ⇒ done ∷ Link (key 5) (key 3) ⇒ done ∷
    Move (key 3) (key 5) (key 3) 1 ⇒ Err ENOENT ∷ add "logon" "k:1" "s94" session ⇒ number 7 ∷
    Clear (key 7) ⇒ Err ENOTDIR ∷ Move (key 6) (key 5) (key 3) 0 ⇒ done ∷ []) ∷
    (From 0 1000000 1 ∷ hello 1000 7 [] ⇒ number 1 ∷ GetId user false ⇒ number 3 ∷
    GetId user_session false ⇒ number 4 ∷ join "work" ⇒ number 5 ∷ Read (key 4) ⇒ hex "03000000" ∷
    join "third" ⇒ number 6 ∷ request "uuuuuuuuuuuuuuuuuuuuuuuuuuuuuuuu" "k:2" nowhere ⇒ Err EINVAL ∷
    request "keyring" "_uid_ses.1000" nowhere ⇒ Err ENOKEY ∷ GetId user true ⇒ number 3 ∷
    Chown (key 6) 4294967295 1000 ⇒ Err EACCES ∷ GetId session false ⇒ number 6 ∷
    Unlink session (key 6) ⇒ Err ENOENT ∷ search (key 6) "keyring" "third" nowhere ⇒ number 6 ∷
    add "keyring" "_uid_ses.1000" "s5" (key 6) ⇒ Err EINVAL ∷ []) ∷
    (From 0 1000000 1 ∷ hello 1001 1000 (7 ∷ []) ⇒ number 1 ∷ GetId user false ⇒ number 3 ∷
    GetId user_session false ⇒ number 4 ∷ join "" ⇒ number 5 ∷ Exec ⇒ done ∷ SetPerm (key 5) 0x04083f1f ⇒ done ∷
    new_ring "r8" (key 5) ⇒ number 6 ∷ Describe (key 5) ⇒ Err EACCES ∷ Read (key 3) ⇒ hex "" ∷
    Describe (key 6) ⇒ text "keyring;1001;1000;3f010000;r8" ∷ join "work" ⇒ number 7 ∷ join "work" ⇒ number 8 ∷
    SetPerm (key 7) 0x371b000b ⇒ Err ENOKEY ∷ Describe (key 8) ⇒ text "keyring;1001;1000;3f130000;work" ∷ []) ∷
    (From 0 1000000 1 ∷ hello 1000 1000 (7 ∷ 8 ∷ 9 ∷ 1001 ∷ []) ⇒ number 1 ∷ GetId user false ⇒ number 3 ∷
    GetId user_session false ⇒ number 4 ∷ Unlink (key 3) (key 4) ⇒ done ∷ join "" ⇒ number 5 ∷
    search (key 3) "keyring" "_uid_ses.1000" nowhere ⇒ Err ENOKEY ∷ Link session (key 4) ⇒ done ∷
    restrict (key 3) "" ⇒ done ∷ request "logon" "k:1" session ⇒ Err ENOKEY ∷ new_ring "r2" session ⇒ number 6 ∷
    Link session (key 3) ⇒ Err EPERM ∷ Link session session ⇒ Err EDEADLK ∷
    add "keyring" "_ses" "s404" (key 6) ⇒ Err EINVAL ∷ SetTimeout (key 6) 1000 ⇒ done ∷ []) ∷
    (From 0 1000000 1 ∷ hello 1000 7 (7 ∷ []) ⇒ number 1 ∷ GetId user false ⇒ number 3 ∷
    GetId user_session false ⇒ number 4 ∷ join "" ⇒ number 5 ∷ Link user session ⇒ done ∷ Revoke (key 5) ⇒ done ∷
    SetTimeout (key 5) 2 ⇒ Err EKEYREVOKED ∷ request "keyring" "_ses" nowhere ⇒ Err EKEYREVOKED ∷
    From 0 1000001 1 ∷ add "user" "k:2" "s262" (key 3) ⇒ number 6 ∷
    Chown (key 6) 4294967295 3000000007 ⇒ Err EACCES ∷ add "user" "k:2" "s715" user_session ⇒ number 7 ∷
    search (key 5) "user" "a" (key 3) ⇒ Err EKEYREVOKED ∷ new_ring "r2" session ⇒ Err EKEYREVOKED ∷
    SetTimeout (key 7) 0 ⇒ Err EACCES ∷ []) ∷
    (From 0 1000000 1 ∷ hello 1000 1000 (1000 ∷ 1002 ∷ []) ⇒ number 1 ∷ GetId user false ⇒ number 3 ∷
    GetId user_session false ⇒ number 4 ∷ join "third" ⇒ number 5 ∷ Read (key 3) ⇒ hex "" ∷
    add "user" "a" "s558" (key 3) ⇒ number 6 ∷ Clear (key 3) ⇒ done ∷
    search session "keyring" "k:1" session ⇒ Err ENOKEY ∷ add "user" "c" "s159" (key 5) ⇒ number 7 ∷
    Clear (key 6) ⇒ Err ENOKEY ∷ search (key 4) "keyring" "_uid.1000" nowhere ⇒ number 3 ∷
    update session "s178" ⇒ Err EOPNOTSUPP ∷ search (key 4) "keyring" "_uid.1000" nowhere ⇒ number 3 ∷
    add "keyring" "k:2" "s25" (key 3) ⇒ Err EINVAL ∷ []) ∷
    (From 0 1000000 1 ∷ hello 1000 1000 [] ⇒ number 1 ∷ join "work" ⇒ number 5 ∷
    add "user" "b" "s365" (key 5) ⇒ number 6 ∷ hello 1000 1000 (7 ∷ []) ⇒ number 2 ∷ From 0 1000000 2 ∷
    add "user" "b" "s829" (key 5) ⇒ Err EACCES ∷
    Add (codes "user") (codes "k:1") (bytes_of (codes "89d70cfdab0731ab6fe67f3104a7b65789df6f")) (key 5) ⇒ Err EACCES ∷
    add "user" "c" "s537" user ⇒ number 7 ∷ Invalidate (key 6) ⇒ Err EACCES ∷
    request "user" "x.y" nowhere ⇒ Err ENOKEY ∷ Read (key 5) ⇒ hex "06000000" ∷
    search session "user" "b" thread_ring ⇒ Err ENOKEY ∷ Read (key 6) ⇒ Err EACCES ∷
    Unlink (key 6) (key 5) ⇒ Err EACCES ∷ add "user" "c" "s713" (key 5) ⇒ Err EACCES ∷ []) ∷
    (From 0 1000000 1 ∷ hello 1000 1000 [] ⇒ number 1 ∷ GetId user false ⇒ number 3 ∷
    GetId user_session false ⇒ number 4 ∷ GetId (key 3) true ⇒ number 3 ∷ Fork ⇒ number 2 ∷
    add "logon" "a" "s921" (key 3) ⇒ Err EINVAL ∷ add "user" "k:1" "s289" process_ring ⇒ number 6 ∷
    restrict (key 6) "" ⇒ Err ENOTDIR ∷ SetPerm (key 6) 0x3f000000 ⇒ done ∷
    add "user" "k:1" "s424" (key 3) ⇒ number 7 ∷ add "keyring" "a" "s325" (key 3) ⇒ Err EINVAL ∷
    Move (key 3) (key 4) (key 4) 1 ⇒ done ∷ Chown (key 7) 1000 4294967295 ⇒ done ∷
    Link (key 4) (key 4) ⇒ Err EDEADLK ∷ []) ∷
    (From 0 1000000 1 ∷ hello 1002 1002 (1000 ∷ 1002 ∷ []) ⇒ number 1 ∷ GetId user false ⇒ number 3 ∷
    GetId user_session false ⇒ number 4 ∷ join "" ⇒ number 5 ∷ update (key 4) "s346" ⇒ Err EOPNOTSUPP ∷
    Read (key 1) ⇒ Err ENOKEY ∷ update (key 2147483647) "s248" ⇒ Err ENOKEY ∷ SetPerm (key 5) 0x3f370b02 ⇒ done ∷
    search (key 3) "keyring" "_uid_ses.1002" nowhere ⇒ Err ENOKEY ∷ add "logon" "a" "s982" (key 4) ⇒ Err EINVAL ∷
    Update (key 5) (bytes_of (codes "0e9e2fdf56dc5d68573b7af4c9259a")) ⇒ Err EOPNOTSUPP ∷
    update (key 4) "s604" ⇒ Err EOPNOTSUPP ∷ search (key 5) ".user" "_uid_ses.1001" (key 4) ⇒ Err EPERM ∷
    Unlink (key 3) (key 4) ⇒ done ∷ []) ∷
    (From 0 1000000 1 ∷ hello 1002 1002 [] ⇒ number 1 ∷ GetId user false ⇒ number 3 ∷
    GetId user_session false ⇒ number 4 ∷ join "other" ⇒ number 5 ∷
    Describe session ⇒ text "keyring;1002;1002;3f130000;other" ∷ new_ring "r8" user_session ⇒ number 6 ∷
    Move (key 6) (key 4) (key 5) 0 ⇒ Err EACCES ∷ GetId (key 6) true ⇒ Err EACCES ∷
    update thread_ring "s754" ⇒ Err ENOKEY ∷ Link (key 6) session ⇒ Err EACCES ∷ Read session ⇒ hex "" ∷
    Add (codes "user") (codes "b") (bytes_of (codes "5006de8d60607ae1d062e648e0")) (key 3) ⇒ number 7 ∷
    Revoke (key 6) ⇒ Err EACCES ∷ add "logon" "k:1" "s97" user_session ⇒ number 8 ∷ []) ∷
    (From 0 1000000 1 ∷ hello 1001 1000 (1000 ∷ 1002 ∷ []) ⇒ number 1 ∷ GetId user false ⇒ number 3 ∷
    GetId user_session false ⇒ number 4 ∷ join "" ⇒ number 5 ∷ Revoke (key 5) ⇒ done ∷
    Describe session ⇒ Err EKEYREVOKED ∷ Invalidate (key 5) ⇒ Err EKEYREVOKED ∷
    add "logon" "k:" "s839" (key 4) ⇒ number 6 ∷ new_ring "ring" (key 5) ⇒ Err EKEYREVOKED ∷
    Unlink (key 6) (key 4) ⇒ done ∷ Move (key 3) (key 4) thread_ring 0 ⇒ done ∷ GetId user true ⇒ number 3 ∷
    add "user" "c" "s785" (key 4) ⇒ number 8 ∷ new_ring "ring" user_session ⇒ number 9 ∷ []) ∷
    (From 0 1000000 1 ∷ hello 3000000005 3000000007 [] ⇒ number 1 ∷ GetId user false ⇒ number 3 ∷
    GetId user_session false ⇒ number 4 ∷ join "work" ⇒ number 5 ∷
    request "keyring" "_uid_ses.3000000005" nowhere ⇒ Err ENOKEY ∷
    search (key 4) "keyring" "_uid_ses.3000000005" nowhere ⇒ number 4 ∷ join "" ⇒ number 6 ∷
    Move (key 3) (key 4) (key 6) 1 ⇒ done ∷ Revoke (key 6) ⇒ done ∷ SetPerm (key 6) 0x1002003f ⇒ Err EKEYREVOKED ∷
    Unlink process_ring user_session ⇒ Err ENOKEY ∷ Move (key 6) (key 3) (key 3) 1 ⇒ Err EKEYREVOKED ∷
    Link (key 5) (key 3) ⇒ Err ENOKEY ∷ Read (key 4) ⇒ hex "" ∷ []) ∷
    (From 0 1000000 1 ∷ hello 1000 1000 [] ⇒ number 1 ∷ GetId user false ⇒ number 3 ∷
    GetId user_session false ⇒ number 4 ∷ join "work" ⇒ number 5 ∷ Link user session ⇒ done ∷
    Link (key 4) user ⇒ Err EDEADLK ∷ Link (key 5) (key 4) ⇒ done ∷ Link (key 5) (key 4) ⇒ done ∷
    Unlink (key 0) (key 5) ⇒ Err EINVAL ∷ Read (key 3) ⇒ hex "" ∷ Chown (key 5) 1000 4294967295 ⇒ done ∷
    Link (key 3) user ⇒ Err EDEADLK ∷ request "keyring" "work" nowhere ⇒ number 5 ∷
    request "keyring" "work" nowhere ⇒ number 5 ∷ []) ∷
    (From 0 1000000 1 ∷ hello 1001 1000 [] ⇒ number 1 ∷ GetId user false ⇒ number 3 ∷
    GetId user_session false ⇒ number 4 ∷ join "" ⇒ number 5 ∷
    add "keyring" "_uid.1001" "s779" (key 3) ⇒ Err EINVAL ∷ add "logon" "a" "s977" (key 4) ⇒ Err EINVAL ∷
    Describe session ⇒ text "keyring;1001;1000;3f030000;_ses" ∷ Thread ⇒ number 2 ∷
    request "logon" "_tid" nowhere ⇒ Err ENOKEY ∷ add "keyring" "_uid.1001" "s846" (key 3) ⇒ Err EINVAL ∷
    add ".user" "k:2" "/" user ⇒ Err EPERM ∷ request "keyring" "_uid.1001" (key 4) ⇒ Err ENOKEY ∷ Exit ⇒ done ∷
    From 0 1000000 2 ∷ Fork ⇒ number 3 ∷ []) ∷
    (From 0 1000000 1 ∷ hello 1002 1002 [] ⇒ number 1 ∷ join "" ⇒ number 5 ∷
    Describe session ⇒ text "keyring;1002;1002;3f030000;_ses" ∷ Read (key 5) ⇒ hex "" ∷
    search (key 5) "keyring" "_ses" nowhere ⇒ number 5 ∷ Link (key 5) (key 5) ⇒ Err EDEADLK ∷
    Move (key 5) (key 5) user_session 1 ⇒ Err ENOENT ∷ Describe (key 5) ⇒ text "keyring;1002;1002;3f030000;_ses" ∷
    Unlink (key 5) (key 5) ⇒ Err ENOENT ∷ Link session (key 5) ⇒ Err EDEADLK ∷ SetPerm (key 5) 0x00003f3f ⇒ done ∷
    request "keyring" "_ses" nowhere ⇒ Err EACCES ∷ SetPerm (key 5) 0x3f0b0000 ⇒ Err EACCES ∷
    Read (key 5) ⇒ Err EACCES ∷ []) ∷
    (From 0 1000000 1 ∷ hello 1000 1000 (7 ∷ 8 ∷ 9 ∷ 1001 ∷ []) ⇒ number 1 ∷ GetId user false ⇒ number 3 ∷
    GetId user_session false ⇒ number 4 ∷ join "work" ⇒ number 5 ∷ Read (key 1) ⇒ Err ENOKEY ∷
    Revoke (key 5) ⇒ done ∷ request "keyring" "_uid.1000" user ⇒ Err ENOKEY ∷ Exec ⇒ done ∷
    search (key 3) "keyring" "_uid.1000" nowhere ⇒ number 3 ∷ Exec ⇒ done ∷ Clear (key 5) ⇒ Err EKEYREVOKED ∷
    search (key 4) "user" "b" nowhere ⇒ Err ENOKEY ∷ Describe (key 5) ⇒ Err EKEYREVOKED ∷
    search (key 4) "keyring" "_uid_ses.1000" nowhere ⇒ number 4 ∷ []) ∷
    (From 0 1000000 1 ∷ hello 1000 1000 (7 ∷ 8 ∷ 9 ∷ 1001 ∷ []) ⇒ number 1 ∷ GetId user false ⇒ number 3 ∷
    GetId user_session false ⇒ number 4 ∷ join "other" ⇒ number 5 ∷
    request "keyring" "_uid_ses.1000" nowhere ⇒ Err ENOKEY ∷ Read (key 4) ⇒ hex "03000000" ∷
    request "keyring" "other" nowhere ⇒ number 5 ∷ add "keyrings" "a" "s582" (key 4) ⇒ Err ENODEV ∷
    Read (key 4) ⇒ hex "03000000" ∷ Read (key 5) ⇒ hex "" ∷
    Describe (key 5) ⇒ text "keyring;1000;1000;3f130000;other" ∷ Revoke (key 5) ⇒ done ∷
    new_ring "ring" (key 4) ⇒ number 6 ∷ GetId (key 5) true ⇒ Err EKEYREVOKED ∷ []) ∷
    (From 0 1000000 1 ∷ hello 1000 7 [] ⇒ number 1 ∷ GetId user false ⇒ number 3 ∷
    GetId user_session false ⇒ number 4 ∷ join "work" ⇒ number 5 ∷ request "keyring" "k:2" nowhere ⇒ Err ENOKEY ∷
    Move (key 3) (key 4) (key 5) 0 ⇒ done ∷ add "user" "c" "s31" user_session ⇒ number 6 ∷
    Read session ⇒ hex "03000000" ∷ add "logon" "k:2" "s36" (key 5) ⇒ number 7 ∷
    add "user" ".dot" "s506" (key 5) ⇒ number 8 ∷ update session "s41" ⇒ Err EOPNOTSUPP ∷
    Read (key 7) ⇒ Err EOPNOTSUPP ∷ new_ring "r3" session ⇒ number 9 ∷ Read (key 4) ⇒ hex "06000000" ∷ []) ∷
    (From 0 1000000 1 ∷ hello 1000 7 [] ⇒ number 1 ∷ GetId user false ⇒ number 3 ∷
    GetId user_session false ⇒ number 4 ∷ join "r2" ⇒ number 5 ∷ Link user session ⇒ done ∷
    add "user" "k:1" "s779" (key 4) ⇒ number 6 ∷ update (key 1) "s647" ⇒ Err ENOKEY ∷
    add "logon" "c" "s116" (key 5) ⇒ Err EINVAL ∷
    Update (key 5) (bytes_of (codes "7671ca4bbd2253")) ⇒ Err EOPNOTSUPP ∷
    Update (key 6) (bytes_of (codes "7144e221a86150")) ⇒ Err EACCES ∷
    Update (key 4) (bytes_of (codes "097045f9417c45")) ⇒ Err EOPNOTSUPP ∷ Revoke (key 1) ⇒ Err ENOKEY ∷
    Revoke (key 6) ⇒ Err EACCES ∷ request "user" "k:1" nowhere ⇒ Err ENOKEY ∷ []) ∷
    (From 0 1000000 1 ∷ hello 1000 1000 (7 ∷ 8 ∷ 9 ∷ 1001 ∷ []) ⇒ number 1 ∷ GetId user false ⇒ number 3 ∷
    GetId user_session false ⇒ number 4 ∷ join "" ⇒ number 5 ∷ Revoke (key 5) ⇒ done ∷
    new_ring "r5" session ⇒ Err EKEYREVOKED ∷ GetId user_session false ⇒ number 4 ∷
    Link (key 4) user ⇒ Err EDEADLK ∷ GetId thread_ring false ⇒ Err ENOKEY ∷
    SetTimeout (key 5) 4294967295 ⇒ Err EKEYREVOKED ∷ Move (key 3) (key 4) (key 3) 0 ⇒ Err EDEADLK ∷
    Link (key 3) session ⇒ Err EKEYREVOKED ∷ Link (key 4) user_session ⇒ Err EDEADLK ∷
    Revoke (key 5) ⇒ Err EKEYREVOKED ∷ []) ∷
    (From 0 1000000 1 ∷ hello 1000 1000 [] ⇒ number 1 ∷ GetId user false ⇒ number 3 ∷
    GetId user_session false ⇒ number 4 ∷ join "work" ⇒ number 5 ∷ new_ring "r3" (key 5) ⇒ number 6 ∷
    add "logon" "k:1" "s201" (key 4) ⇒ number 7 ∷ Read (key 1) ⇒ Err ENOKEY ∷ Clear (key 7) ⇒ Err EACCES ∷
    Move (key 6) (key 5) user_session 1 ⇒ done ∷ add "keyring" "_uid.1000" "s715" (key 3) ⇒ Err EINVAL ∷
    new_ring "r3" user_session ⇒ number 8 ∷ add "user" "k:1" "s837" (key 6) ⇒ Err ENOKEY ∷
    search user "keyring" "_uid_ses.1000" (key 8) ⇒ Err EACCES ∷
    Describe session ⇒ text "keyring;1000;1000;3f130000;work" ∷ []) ∷
    (From 0 1000000 1 ∷ hello 3000000005 3000000007 [] ⇒ number 1 ∷ GetId user false ⇒ number 3 ∷
    GetId user_session false ⇒ number 4 ∷ add ".user" "c" "s308" (key 3) ⇒ Err EPERM ∷ Clear (key 4) ⇒ done ∷
    Link (key 4) (key 3) ⇒ done ∷ search (key 3) "keyring" "_uid.3000000005" user ⇒ Err EDEADLK ∷
    search (key 3) "keyring" "_uid_ses.3000000005" nowhere ⇒ number 4 ∷ Read (key 4) ⇒ hex "" ∷
    update (key 4) "s150" ⇒ Err EOPNOTSUPP ∷ Revoke (key 3) ⇒ done ∷ Clear (key 4) ⇒ done ∷
    Chown (key 3) 3000000005 4294967295 ⇒ Err EKEYREVOKED ∷ add "user" "k:2" "s155" (key 4) ⇒ number 5 ∷ []) ∷
    (From 0 1000000 1 ∷ hello 1002 1002 [] ⇒ number 1 ∷ join "other" ⇒ number 5 ∷
    SetPerm (key 5) 0xffffffff ⇒ Err EINVAL ∷ join "work" ⇒ number 6 ∷ update (key 6) "s408" ⇒ Err EOPNOTSUPP ∷
    Read (key 6) ⇒ hex "" ∷ SetTimeout (key 6) 1000 ⇒ done ∷ update thread_ring "s815" ⇒ Err ENOKEY ∷
    Read (key 6) ⇒ hex "" ∷ request "keyring" "work" nowhere ⇒ number 6 ∷ Describe (key 1) ⇒ Err ENOKEY ∷
    Unlink (key 2147483647) user_session ⇒ Err ENOKEY ∷ Describe session ⇒ text "keyring;1002;1002;3f130000;work" ∷
    GetId user false ⇒ number 3 ∷ []) ∷
    []

-- traces 161 to 200
abbrev pub traces_from_161 : List (List Line)
traces_from_161 =
    (From 0 1000000 1 ∷ hello 3000000005 3000000007 (7 ∷ []) ⇒ number 1 ∷ GetId user false ⇒ number 3 ∷
    GetId user_session false ⇒ number 4 ∷ join "" ⇒ number 5 ∷ Link user session ⇒ done ∷
    Move (key 3) (key 5) user_session 0 ⇒ done ∷ Thread ⇒ number 2 ∷ Revoke (key 5) ⇒ done ∷
    update (key 0) "s641" ⇒ Err EINVAL ∷ join "other" ⇒ number 6 ∷ Fork ⇒ number 3 ∷
    add "logon" "c" "s100" (key 6) ⇒ Err EINVAL ∷ join "" ⇒ number 7 ∷ update (key 6) "s605" ⇒ Err EACCES ∷ []) ∷
    (From 0 1000000 1 ∷ hello 1002 1002 (7 ∷ 8 ∷ 9 ∷ 1001 ∷ []) ⇒ number 1 ∷ GetId user false ⇒ number 3 ∷
    GetId user_session false ⇒ number 4 ∷ join "third" ⇒ number 5 ∷ Link user session ⇒ done ∷ Fork ⇒ number 2 ∷
    search (key 3) "keyring" "_uid.1002" nowhere ⇒ number 3 ∷ GetId session false ⇒ number 5 ∷
    new_ring "ring" (key 4) ⇒ number 6 ∷ From 0 1000000 2 ∷ Read (key 4) ⇒ hex "0300000006000000" ∷
    Read (key 6) ⇒ Err EACCES ∷ search (key 3) "keyring" "a" (key 3) ⇒ Err ENOKEY ∷
    Chown (key 6) 1000 4294967295 ⇒ Err EACCES ∷ Link (key 0) (key 3) ⇒ Err EINVAL ∷ []) ∷
    (From 0 1000000 1 ∷ hello 1002 1002 [] ⇒ number 1 ∷ GetId user false ⇒ number 3 ∷
    GetId user_session false ⇒ number 4 ∷ join "other" ⇒ number 5 ∷ Invalidate (key 5) ⇒ done ∷
    add "user" "a" "s208" (key 3) ⇒ number 6 ∷ Link (key 4) (key 4) ⇒ Err EDEADLK ∷
    SetPerm (key 6) 0x1f3f0000 ⇒ Err EACCES ∷ Move (key 3) (key 4) (key 3) 1 ⇒ Err EDEADLK ∷
    Link (key 4) session ⇒ Err ENOKEY ∷ SetTimeout (key 6) 1000 ⇒ Err EACCES ∷ Describe process_ring ⇒ Err ENOKEY ∷
    SetTimeout (key 6) 4294967295 ⇒ Err EACCES ∷ search (key 4) "user" "a" (key 3) ⇒ Err EACCES ∷ []) ∷
    (From 0 1000000 1 ∷ hello 1001 1000 [] ⇒ number 1 ∷ GetId user false ⇒ number 3 ∷
    GetId user_session false ⇒ number 4 ∷ join "work" ⇒ number 5 ∷ update (key 4) "s144" ⇒ Err EOPNOTSUPP ∷
    update (key 4) "s816" ⇒ Err EOPNOTSUPP ∷ Revoke (key 5) ⇒ done ∷
    add "keyring" "_uid.1001" "s297" user ⇒ Err EINVAL ∷ Move (key 5) (key 4) session 0 ⇒ Err EKEYREVOKED ∷
    restrict (key 5) "" ⇒ Err EKEYREVOKED ∷ Move (key 3) (key 4) session 0 ⇒ Err EKEYREVOKED ∷
    add "logon" "c" "s332" (key 4) ⇒ Err EINVAL ∷ Read (key 3) ⇒ hex "" ∷ Unlink (key 3) (key 4) ⇒ done ∷ []) ∷
    (From 0 1000000 1 ∷ hello 1000 7 [] ⇒ number 1 ∷ GetId user false ⇒ number 3 ∷
    GetId user_session false ⇒ number 4 ∷ join "" ⇒ number 5 ∷ Link user session ⇒ done ∷
    Move (key 3) (key 5) (key 4) 0 ⇒ done ∷ Move (key 3) (key 4) (key 5) 0 ⇒ done ∷
    update thread_ring "s451" ⇒ Err ENOKEY ∷ hello 1000 7 (7 ∷ 8 ∷ 9 ∷ 1001 ∷ []) ⇒ number 2 ∷ From 0 1000000 2 ∷
    join "work" ⇒ number 6 ∷ Unlink (key 3) (key 5) ⇒ Err EACCES ∷
    Describe session ⇒ text "keyring;1000;7;3f130000;work" ∷ Link (key 5) (key 6) ⇒ Err EACCES ∷
    restrict (key 5) "" ⇒ Err EACCES ∷ []) ∷
    (From 0 1000000 1 ∷ hello 1000 1000 (7 ∷ 8 ∷ 9 ∷ 1001 ∷ []) ⇒ number 1 ∷ GetId user false ⇒ number 3 ∷
    GetId user_session false ⇒ number 4 ∷ join "work" ⇒ number 5 ∷ Link user session ⇒ done ∷
    Link (key 5) (key 4) ⇒ done ∷ add "keyring" "k:2" "s339" (key 4) ⇒ Err EINVAL ∷
    request "user" "a" nowhere ⇒ Err ENOKEY ∷ Invalidate (key 5) ⇒ done ∷
    add "user" "a" "s497" (key 4) ⇒ number 6 ∷ Unlink (key 6) (key 4) ⇒ done ∷ Unlink (key 3) (key 4) ⇒ done ∷
    restrict (key 5) "" ⇒ Err ENOKEY ∷ add "user" "k:2" "s194" session ⇒ Err ENOKEY ∷ []) ∷
    (From 0 1000000 1 ∷ hello 1002 1002 [] ⇒ number 1 ∷ GetId user false ⇒ number 3 ∷
    GetId user_session false ⇒ number 4 ∷ add "user" "b" "s299" (key 4) ⇒ number 5 ∷
    Chown (key 5) 4294967295 7 ⇒ Err EACCES ∷ Read session ⇒ hex "0300000005000000" ∷
    Unlink (key 3) (key 4) ⇒ done ∷ request "user" "b" (key 3) ⇒ number 5 ∷ Read (key 4) ⇒ hex "05000000" ∷
    Link (key 4) (key 3) ⇒ done ∷ search (key 4) "keyring" "_uid_ses.1002" nowhere ⇒ number 4 ∷
    SetTimeout (key 5) 1000 ⇒ done ∷ update (key 5) "s739" ⇒ done ∷ Chown (key 3) 1002 4294967295 ⇒ done ∷ []) ∷
    (From 0 1000000 1 ∷ hello 1000 7 (7 ∷ []) ⇒ number 1 ∷ GetId user false ⇒ number 3 ∷
    GetId user_session false ⇒ number 4 ∷ Unlink (key 3) (key 4) ⇒ done ∷ Unlink (key 4) (key 4) ⇒ Err ENOENT ∷
    Invalidate thread_ring ⇒ Err ENOKEY ∷ Read (key 4) ⇒ hex "" ∷
    request "keyring" "_uid_ses.1000" nowhere ⇒ number 4 ∷ SetPerm (key 4) 0x201f3704 ⇒ done ∷
    add "keyring" "k:2" "s69" (key 3) ⇒ Err EINVAL ∷ Read (key 3) ⇒ hex "" ∷ Unlink (key 3) (key 3) ⇒ Err ENOENT ∷
    Unlink (key 4) (key 3) ⇒ Err ENOENT ∷ Revoke thread_ring ⇒ Err ENOKEY ∷ []) ∷
    (From 0 1000000 1 ∷ hello 1002 1002 (1000 ∷ 1002 ∷ []) ⇒ number 1 ∷ join "other" ⇒ number 5 ∷
    request "keyring" "other" (key 5) ⇒ Err EDEADLK ∷ GetId session false ⇒ number 5 ∷
    Read user_session ⇒ hex "03000000" ∷ SetPerm (key 5) 0x003f0000 ⇒ done ∷ Revoke (key 5) ⇒ done ∷
    search (key 5) "logon" "k:2" nowhere ⇒ Err EKEYREVOKED ∷ new_ring "r2" (key 3) ⇒ number 6 ∷
    SetTimeout (key 5) 4294967295 ⇒ Err EKEYREVOKED ∷ Revoke (key 5) ⇒ Err EKEYREVOKED ∷
    hello 1002 1002 (1001 ∷ []) ⇒ number 2 ∷ From 0 1000000 2 ∷ join "" ⇒ number 7 ∷ Link user session ⇒ done ∷ []) ∷
    (From 0 1000000 1 ∷ hello 1001 1000 [] ⇒ number 1 ∷ GetId user false ⇒ number 3 ∷
    GetId user_session false ⇒ number 4 ∷ join "third" ⇒ number 5 ∷ Link user session ⇒ done ∷
    update session "s542" ⇒ Err EOPNOTSUPP ∷ SetPerm (key 5) 0x3f080000 ⇒ done ∷ Clear (key 5) ⇒ done ∷
    Read thread_ring ⇒ Err ENOKEY ∷ search session "keyring" "_uid_ses.1001" nowhere ⇒ Err ENOKEY ∷
    add "keyrings" "k:2" "s188" (key 3) ⇒ Err ENODEV ∷ Unlink (key 3) (key 4) ⇒ done ∷ Read (key 4) ⇒ hex "" ∷
    Move (key 4) thread_ring (key 3) 1 ⇒ Err ENOKEY ∷ []) ∷
    (From 0 1000000 1 ∷ hello 3000000005 3000000007 (1000 ∷ 1002 ∷ []) ⇒ number 1 ∷ GetId user false ⇒ number 3 ∷
    GetId user_session false ⇒ number 4 ∷ join "other" ⇒ number 5 ∷ GetId process_ring false ⇒ Err ENOKEY ∷
    search (key 3) "keyring" "_uid.3000000005" nowhere ⇒ number 3 ∷
    search (key 3) "keyring" "_uid_ses.3000000005" nowhere ⇒ Err ENOKEY ∷ Link (key 4) session ⇒ done ∷
    hello 1000 7 [] ⇒ number 2 ∷ From 0 1000000 2 ∷ GetId user false ⇒ number 6 ∷
    GetId user_session false ⇒ number 7 ∷ request "keyring" "a" nowhere ⇒ Err ENOKEY ∷
    request "keyring" "_uid.3000000005" (key 5) ⇒ Err EACCES ∷ Describe (key 4) ⇒ Err EACCES ∷ []) ∷
    (From 0 1000000 1 ∷ hello 1000 7 (1001 ∷ []) ⇒ number 1 ∷ GetId user false ⇒ number 3 ∷
    GetId user_session false ⇒ number 4 ∷ search session "keyring" "_uid.1000" nowhere ⇒ number 3 ∷
    SetPerm (key 3) 0x080b040b ⇒ done ∷ GetId user true ⇒ number 3 ∷
    Add (codes "user") (codes ":x") (bytes_of (codes "88fc321b81b573a25136d643904e703357")) (key 4) ⇒ number 5 ∷
    Add (codes "user") (codes "k:1") (bytes_of (codes "be84")) (key 3) ⇒ Err EACCES ∷
    Unlink (key 5) (key 4) ⇒ done ∷ request "keyring" "_uid.1000" nowhere ⇒ number 3 ∷ Read (key 1) ⇒ Err ENOKEY ∷
    Describe (key 0) ⇒ Err EINVAL ∷ new_ring "r2" (key 4) ⇒ number 6 ∷ Link (key 4) (key 6) ⇒ Err EDEADLK ∷ []) ∷
    (From 0 1000000 1 ∷ hello 3000000005 3000000007 (7 ∷ []) ⇒ number 1 ∷ GetId user false ⇒ number 3 ∷
    GetId user_session false ⇒ number 4 ∷ join "other" ⇒ number 5 ∷ Link user session ⇒ done ∷
    add "user" "k:2" "s504" (key 4) ⇒ number 6 ∷
    request "uuuuuuuuuuuuuuuuuuuuuuuuuuuuuuuu" "k:1" nowhere ⇒ Err EINVAL ∷
    Move (key 3) (key 4) (key 3) 1 ⇒ Err EDEADLK ∷ Move (key 3) (key 4) (key 3) 1 ⇒ Err EDEADLK ∷
    join "work" ⇒ number 7 ∷ new_ring "r7" (key 7) ⇒ number 8 ∷ Move (key 6) (key 4) (key 8) 1 ⇒ Err EACCES ∷
    SetPerm (key 8) 0x3f1f0000 ⇒ done ∷ request "keyring" "r7" nowhere ⇒ number 8 ∷ []) ∷
    (From 0 1000000 1 ∷ hello 1001 1000 [] ⇒ number 1 ∷ GetId user false ⇒ number 3 ∷
    GetId user_session false ⇒ number 4 ∷ join "third" ⇒ number 5 ∷
    Describe session ⇒ text "keyring;1001;1000;3f130000;third" ∷ Read (key 3) ⇒ hex "" ∷ Revoke (key 5) ⇒ done ∷
    update (key 4) "s972" ⇒ Err EOPNOTSUPP ∷ update (key 5) "s961" ⇒ Err EKEYREVOKED ∷
    SetTimeout (key 5) 1000 ⇒ Err EKEYREVOKED ∷ GetId process_ring false ⇒ Err ENOKEY ∷
    Read process_ring ⇒ Err ENOKEY ∷ SetPerm (key 5) 0x003f0000 ⇒ Err EKEYREVOKED ∷
    SetPerm (key 5) 0x2b012b1b ⇒ Err EKEYREVOKED ∷ []) ∷
    (From 0 1000000 1 ∷ hello 1000 1000 (1000 ∷ 1002 ∷ []) ⇒ number 1 ∷ GetId user false ⇒ number 3 ∷
    GetId user_session false ⇒ number 4 ∷ join "" ⇒ number 5 ∷ hello 1000 1000 (1001 ∷ []) ⇒ number 2 ∷
    From 0 1000000 2 ∷ join "work" ⇒ number 6 ∷ request "user" "k:2" nowhere ⇒ Err ENOKEY ∷
    add "user" "c" "s651" (key 6) ⇒ number 7 ∷ Read session ⇒ hex "07000000" ∷
    add "logon" "k:2" "s794" (key 6) ⇒ number 8 ∷ request "logon" "k:2" nowhere ⇒ number 8 ∷
    Invalidate (key 5) ⇒ Err EACCES ∷ request "keyring" "_uid.1000" nowhere ⇒ Err ENOKEY ∷ Exit ⇒ done ∷ []) ∷
    (From 0 1000000 1 ∷ hello 1000 1000 [] ⇒ number 1 ∷ Thread ⇒ number 2 ∷ From 0 1000000 2 ∷
    join "third" ⇒ number 5 ∷ add "user" "b" "s745" (key 5) ⇒ number 6 ∷ Link (key 5) (key 5) ⇒ Err EDEADLK ∷
    add "logon" "a" "s10" (key 5) ⇒ Err EINVAL ∷ Describe (key 6) ⇒ text "user;1000;1000;3f010000;b" ∷
    search (key 5) "user" "b" (key 5) ⇒ number 6 ∷ add "user" "b" "s706" (key 5) ⇒ number 6 ∷
    add "user" "k:2" "s570" (key 5) ⇒ number 7 ∷ SetTimeout (key 6) 0 ⇒ done ∷
    add "user" "k:2" "s235" (key 6) ⇒ Err ENOTDIR ∷ search (key 5) "keyring" "third" nowhere ⇒ number 5 ∷
    join "work" ⇒ number 8 ∷ []) ∷
    (From 0 1000000 1 ∷ hello 1002 1002 [] ⇒ number 1 ∷ GetId user false ⇒ number 3 ∷
    GetId user_session false ⇒ number 4 ∷ join "third" ⇒ number 5 ∷ Read (key 5) ⇒ hex "" ∷
    add "user" "a" "s974" (key 5) ⇒ number 6 ∷ Clear (key 6) ⇒ Err ENOTDIR ∷ join "" ⇒ number 7 ∷
    Chown (key 7) 1000 4294967295 ⇒ Err EACCES ∷ Describe session ⇒ text "keyring;1002;1002;3f030000;_ses" ∷
    join "" ⇒ number 8 ∷ Move (key 3) (key 4) session 0 ⇒ done ∷ Read (key 3) ⇒ hex "" ∷
    Move (key 3) (key 8) (key 3) 0 ⇒ Err EDEADLK ∷ []) ∷
    (From 0 1000000 1 ∷ hello 1001 1000 (1001 ∷ []) ⇒ number 1 ∷ GetId user false ⇒ number 3 ∷
    GetId user_session false ⇒ number 4 ∷ join "work" ⇒ number 5 ∷ SetPerm (key 5) 0x3f02373f ⇒ done ∷
    search (key 3) "keyring" "_uid_ses.1001" nowhere ⇒ Err ENOKEY ∷ SetTimeout (key 5) 0 ⇒ done ∷
    SetPerm (key 5) 0x3f0b0000 ⇒ done ∷ Chown (key 5) 1001 4294967295 ⇒ done ∷
    search thread_ring "keyring" "work" session ⇒ Err ENOKEY ∷ join "third" ⇒ number 6 ∷
    Chown (key 5) 4294967295 1001 ⇒ Err ENOKEY ∷ Describe session ⇒ text "keyring;1001;1000;3f130000;third" ∷
    update session "s962" ⇒ Err EOPNOTSUPP ∷ []) ∷
    (From 0 1000000 1 ∷ hello 1000 1000 [] ⇒ number 1 ∷ GetId user false ⇒ number 3 ∷
    GetId user_session false ⇒ number 4 ∷ join "work" ⇒ number 5 ∷
    search (key 4) "keyring" "_uid_ses.1000" nowhere ⇒ number 4 ∷
    search session "keyring" "work" nowhere ⇒ number 5 ∷ Thread ⇒ number 2 ∷ restrict (key 5) "" ⇒ done ∷
    search (key 4) "keyring" "_uid.1000" nowhere ⇒ number 3 ∷
    add "keyring" "_uid_ses.1000" "s452" (key 4) ⇒ Err EINVAL ∷ Link (key 4) (key 5) ⇒ Err EPERM ∷
    SetPerm (key 5) 0x3f1f1f00 ⇒ done ∷ Thread ⇒ number 3 ∷ SetPerm (key 5) 0x3f080000 ⇒ done ∷ []) ∷
    (From 0 1000000 1 ∷ hello 1000 1000 [] ⇒ number 1 ∷ GetId user false ⇒ number 3 ∷
    GetId user_session false ⇒ number 4 ∷ join "work" ⇒ number 5 ∷
    request "keyring" "_uid_ses.1000" nowhere ⇒ Err ENOKEY ∷ Read (key 3) ⇒ hex "" ∷
    add "user" "c" "s183" session ⇒ number 6 ∷ Exec ⇒ done ∷ new_ring "ring" (key 3) ⇒ number 7 ∷
    Revoke (key 5) ⇒ done ∷ GetId session false ⇒ Err EKEYREVOKED ∷ new_ring "r2" user_session ⇒ number 8 ∷
    request "keyring" "ring" nowhere ⇒ Err ENOKEY ∷ Read session ⇒ Err EKEYREVOKED ∷ []) ∷
    (From 0 1000000 1 ∷ hello 1001 1000 (1001 ∷ []) ⇒ number 1 ∷ GetId user false ⇒ number 3 ∷
    GetId user_session false ⇒ number 4 ∷ join "work" ⇒ number 5 ∷ Link user session ⇒ done ∷
    Read (key 5) ⇒ hex "03000000" ∷ add "user" "k:1" "s902" (key 4) ⇒ number 6 ∷
    Add (codes "keyring") (codes "_uid.1001") (bytes_of (codes "7840a587f5")) (key 4) ⇒ Err EINVAL ∷
    add "keyring" "b" "s520" process_ring ⇒ Err EINVAL ∷ Read user_session ⇒ hex "0300000006000000" ∷
    SetPerm (key 6) 0x0804083f ⇒ Err EACCES ∷ add "user" "k:1" "s279" user ⇒ number 7 ∷
    Move (key 3) (key 4) session 1 ⇒ Err EEXIST ∷ Link (key 3) (key 4) ⇒ done ∷ []) ∷
    (From 0 1000000 1 ∷ hello 1001 1000 [] ⇒ number 1 ∷ GetId user false ⇒ number 3 ∷
    GetId user_session false ⇒ number 4 ∷ join ".x" ⇒ Err EPERM ∷ Unlink (key 3) (key 4) ⇒ done ∷
    request "keyring" "_uid_ses.1001" nowhere ⇒ number 4 ∷ add "keyring" "_uid.1001" "s180" (key 3) ⇒ Err EINVAL ∷
    Link (key 3) (key 4) ⇒ done ∷ add "uuuuuuuuuuuuuuuuuuuuuuuuuuuuuuuu" "k:1" "s714" (key 4) ⇒ Err EINVAL ∷
    From 0 1000001 1 ∷ add "keyring" "c" "s830" user ⇒ Err EINVAL ∷ Move (key 3) (key 4) (key 3) 0 ⇒ Err EDEADLK ∷
    Read (key 3) ⇒ hex "" ∷ search (key 3) "keyring" "_uid.1001" nowhere ⇒ number 3 ∷
    add "user" "b" "s315" (key 3) ⇒ number 5 ∷ []) ∷
    (From 0 1000000 1 ∷ hello 1001 1000 (1001 ∷ []) ⇒ number 1 ∷ GetId user false ⇒ number 3 ∷
    GetId user_session false ⇒ number 4 ∷ Fork ⇒ number 2 ∷ Clear (key 2147483647) ⇒ Err ENOKEY ∷
    update session "s45" ⇒ Err EOPNOTSUPP ∷ Unlink (key 4) (key 4) ⇒ Err ENOENT ∷
    add "user" "k:2" "s259" user_session ⇒ number 5 ∷ add "user" "c" "s386" (key 3) ⇒ number 6 ∷
    GetId user_session false ⇒ number 4 ∷ SetPerm (key 6) 0x3f3f0000 ⇒ done ∷ Unlink (key 6) (key 3) ⇒ done ∷
    Unlink session (key 4) ⇒ Err ENOENT ∷ Unlink (key 3) (key 4) ⇒ done ∷ []) ∷
    (From 0 1000000 1 ∷ hello 1001 1000 (1001 ∷ []) ⇒ number 1 ∷ GetId user false ⇒ number 3 ∷
    GetId user_session false ⇒ number 4 ∷ add "user" "b" "s222" (key 3) ⇒ number 5 ∷
    Link (key 4) (key 4) ⇒ Err EDEADLK ∷ Read (key 4) ⇒ hex "03000000" ∷ restrict (key 5) "" ⇒ Err ENOTDIR ∷
    Chown (key 5) 3000000005 4294967295 ⇒ Err EACCES ∷ Link (key 4) (key 4) ⇒ Err EDEADLK ∷
    SetPerm (key 5) 0x1b000204 ⇒ done ∷ Read (key 3) ⇒ hex "05000000" ∷ GetId (key 3) false ⇒ number 3 ∷
    new_ring "r3" (key 3) ⇒ number 6 ∷ new_ring "r2" (key 4) ⇒ number 7 ∷ []) ∷
    (From 0 1000000 1 ∷ hello 1000 1000 [] ⇒ number 1 ∷ GetId user false ⇒ number 3 ∷
    GetId user_session false ⇒ number 4 ∷ join "third" ⇒ number 5 ∷
    request "keyring" "_uid_ses.1000" (key 4) ⇒ Err ENOKEY ∷ Move (key 3) (key 5) (key 4) 1 ⇒ Err ENOENT ∷
    Revoke (key 5) ⇒ done ∷ Chown (key 5) 1001 4294967295 ⇒ Err EKEYREVOKED ∷
    search (key 5) "user" "k:2" nowhere ⇒ Err EKEYREVOKED ∷ add "user" "k:2" "s366" (key 5) ⇒ Err EKEYREVOKED ∷
    SetPerm session 0x1f101f1b ⇒ Err EKEYREVOKED ∷ add "user" "a" "s608" (key 5) ⇒ Err EKEYREVOKED ∷
    GetId user_session false ⇒ number 4 ∷ Link (key 5) session ⇒ Err EKEYREVOKED ∷ []) ∷
    (From 0 1000000 1 ∷ hello 3000000005 3000000007 (1001 ∷ []) ⇒ number 1 ∷ GetId user false ⇒ number 3 ∷
    GetId user_session false ⇒ number 4 ∷ join "" ⇒ number 5 ∷
    add "user" "_uid_ses.1001" "s163" (key 5) ⇒ number 6 ∷ new_ring "r3" (key 3) ⇒ number 7 ∷
    add "user" "a" "s348" (key 3) ⇒ number 8 ∷ new_ring "r2" session ⇒ number 9 ∷
    Link (key 0) (key 4) ⇒ Err EINVAL ∷ add "keyring" "_ses" "s392" (key 4) ⇒ Err EINVAL ∷
    Chown (key 6) 4294967295 1001 ⇒ done ∷ Read session ⇒ hex "0600000009000000" ∷ Revoke (key 8) ⇒ Err EACCES ∷
    add "keyring" "a" "s732" (key 4) ⇒ Err EINVAL ∷ []) ∷
    (From 0 1000000 1 ∷ hello 1000 7 (1000 ∷ 1002 ∷ []) ⇒ number 1 ∷ GetId user false ⇒ number 3 ∷
    GetId user_session false ⇒ number 4 ∷ new_ring "r2" (key 4) ⇒ number 5 ∷
    request "user" "k:2" nowhere ⇒ Err ENOKEY ∷ Revoke (key 5) ⇒ done ∷ SetTimeout (key 5) 1000 ⇒ Err EKEYREVOKED ∷
    Revoke (key 5) ⇒ Err EKEYREVOKED ∷
    Update (key 3) (bytes_of (codes "0619caf764d9d63d2b54062b")) ⇒ Err EOPNOTSUPP ∷
    request "keyring" "r2" nowhere ⇒ Err EKEYREVOKED ∷ Revoke (key 5) ⇒ Err EKEYREVOKED ∷ join "other" ⇒ number 6 ∷
    GetId session true ⇒ number 6 ∷ Revoke (key 5) ⇒ Err EKEYREVOKED ∷ []) ∷
    (From 0 1000000 1 ∷ hello 1002 1002 (7 ∷ 8 ∷ 9 ∷ 1001 ∷ []) ⇒ number 1 ∷
    search user "keyring" "k:2" nowhere ⇒ Err ENOKEY ∷ Read session ⇒ hex "03000000" ∷
    Add (codes "user") (codes "k:2") (bytes_of (codes "767833a8dc132921eda46b55169b4a59ab55de")) (key 3) ⇒ number 5 ∷
    Read (key 5) ⇒ hex "767833a8dc132921eda46b55169b4a59ab55de" ∷
    search (key 3) "keyring" "_uid.1002" user ⇒ Err EDEADLK ∷ Unlink (key 5) (key 3) ⇒ done ∷
    Invalidate thread_ring ⇒ Err ENOKEY ∷ update user "s576" ⇒ Err EOPNOTSUPP ∷
    update (key 3) "s64" ⇒ Err EOPNOTSUPP ∷ add "keyring" "k:2" "s281" (key 3) ⇒ Err EINVAL ∷ Clear user ⇒ done ∷
    add "user" "k:2" "s335" (key 3) ⇒ number 6 ∷ Unlink (key 6) (key 3) ⇒ done ∷ []) ∷
    (From 0 1000000 1 ∷ hello 1000 1000 [] ⇒ number 1 ∷ GetId user false ⇒ number 3 ∷
    GetId user_session false ⇒ number 4 ∷ join "work" ⇒ number 5 ∷ join "other" ⇒ number 6 ∷
    Invalidate (key 6) ⇒ done ∷ add "user" "a" "s964" (key 4) ⇒ number 7 ∷ SetTimeout (key 7) 0 ⇒ Err EACCES ∷
    SetPerm (key 5) 0x003f0000 ⇒ Err ENOKEY ∷ add "user" "k:2" "s732" (key 5) ⇒ Err ENOKEY ∷
    Read session ⇒ Err ENOKEY ∷ Read (key 5) ⇒ Err ENOKEY ∷ add "user" "k:2" "s158" (key 3) ⇒ number 8 ∷
    SetTimeout (key 8) 1 ⇒ Err EACCES ∷ []) ∷
    (From 0 1000000 1 ∷ hello 1000 1000 (7 ∷ 8 ∷ 9 ∷ 1001 ∷ []) ⇒ number 1 ∷ GetId user false ⇒ number 3 ∷
    GetId user_session false ⇒ number 4 ∷ join "work" ⇒ number 5 ∷ new_ring "r7" (key 4) ⇒ number 6 ∷
    new_ring "r4" (key 4) ⇒ number 7 ∷ SetPerm (key 7) 0x3f371b10 ⇒ Err EACCES ∷ join "" ⇒ number 8 ∷
    GetId user_session false ⇒ number 4 ∷ new_ring "r5" (key 8) ⇒ number 9 ∷
    Read user_session ⇒ hex "030000000600000007000000" ∷ Clear (key 7) ⇒ Err EACCES ∷
    search (key 3) "logon" "k:1" nowhere ⇒ Err ENOKEY ∷ request "keyring" "r7" (key 7) ⇒ Err EACCES ∷ []) ∷
    (From 0 1000000 1 ∷ hello 1002 1002 (7 ∷ []) ⇒ number 1 ∷ GetId user false ⇒ number 3 ∷
    GetId user_session false ⇒ number 4 ∷ join "work" ⇒ number 5 ∷ request "keyring" "work" session ⇒ Err EDEADLK ∷
    SetPerm (key 5) 0x003f0000 ⇒ done ∷ SetPerm (key 5) 0x3f0b0000 ⇒ done ∷ restrict (key 5) "" ⇒ done ∷
    add "user" "k:2" "s301" user_session ⇒ number 6 ∷ request "user" "k:2" nowhere ⇒ Err ENOKEY ∷
    search (key 4) "keyring" "_uid_ses.1002" nowhere ⇒ number 4 ∷
    search (key 4) "keyring" "_uid_ses.1002" nowhere ⇒ number 4 ∷ Link session (key 3) ⇒ done ∷
    restrict (key 6) "" ⇒ Err EACCES ∷ []) ∷
    (From 0 1000000 1 ∷ hello 1000 1000 [] ⇒ number 1 ∷ GetId user false ⇒ number 3 ∷
    GetId user_session false ⇒ number 4 ∷ join "third" ⇒ number 5 ∷ new_ring "r3" session ⇒ number 6 ∷
    Link user_session session ⇒ done ∷ request "user" "c" nowhere ⇒ Err ENOKEY ∷
    add "keyring" "_uid_ses.1000" "s829" (key 5) ⇒ Err EINVAL ∷ From 0 1000002 1 ∷ Invalidate (key 5) ⇒ done ∷
    SetPerm (key 4) 0x00013f00 ⇒ done ∷ Unlink (key 3) (key 4) ⇒ Err EACCES ∷ Exec ⇒ done ∷
    SetPerm user 0x40000000 ⇒ Err EINVAL ∷ Update process_ring (bytes_of (codes "ac53240aa6")) ⇒ Err ENOKEY ∷ []) ∷
    (From 0 1000000 1 ∷ hello 1001 1000 [] ⇒ number 1 ∷ GetId user false ⇒ number 3 ∷
    GetId user_session false ⇒ number 4 ∷ join "work" ⇒ number 5 ∷ Unlink (key 3) (key 4) ⇒ done ∷
    Unlink (key 3) process_ring ⇒ Err ENOKEY ∷ Chown (key 5) 1000 4294967295 ⇒ Err EACCES ∷
    Add (codes "user") (codes "a") (bytes_of (codes "df35")) session ⇒ number 6 ∷ Link user session ⇒ done ∷
    update (key 6) "s581" ⇒ done ∷ new_ring "ring" (key 3) ⇒ number 7 ∷
    Add (codes "keyring") (codes "k:1") (bytes_of (codes "fd90d7a7ca8bcc")) user ⇒ Err EINVAL ∷
    add "keyring" "k:1" "s206" session ⇒ Err EINVAL ∷ hello 1000 7 (7 ∷ 8 ∷ 9 ∷ 1001 ∷ []) ⇒ number 2 ∷ []) ∷
    (From 0 1000000 1 ∷ hello 3000000005 3000000007 (1000 ∷ 1002 ∷ []) ⇒ number 1 ∷ GetId user false ⇒ number 3 ∷
    GetId user_session false ⇒ number 4 ∷ join "work" ⇒ number 5 ∷
    hello 3000000005 3000000007 (1000 ∷ 1002 ∷ []) ⇒ number 2 ∷ From 0 1000000 2 ∷
    Update (key 5) (bytes_of (codes "712d4b077e4e112db2d629a715bfc7")) ⇒ Err EACCES ∷
    update user "s984" ⇒ Err EOPNOTSUPP ∷ add "logon" "k:2" "s385" (key 3) ⇒ number 6 ∷
    update (key 0) "s423" ⇒ Err EINVAL ∷ update (key 5) "s516" ⇒ Err EACCES ∷ Thread ⇒ number 3 ∷
    Unlink (key 6) (key 3) ⇒ done ∷ Read (key 3) ⇒ hex "" ∷ update (key 4) "s44" ⇒ Err EOPNOTSUPP ∷ []) ∷
    (From 0 1000000 1 ∷ hello 1000 7 (1001 ∷ []) ⇒ number 1 ∷ GetId user false ⇒ number 3 ∷
    GetId user_session false ⇒ number 4 ∷ join "other" ⇒ number 5 ∷ Revoke (key 5) ⇒ done ∷
    Describe session ⇒ Err EKEYREVOKED ∷ add "user" "c" "s411" (key 5) ⇒ Err EKEYREVOKED ∷
    Move (key 3) (key 4) (key 5) 0 ⇒ Err EKEYREVOKED ∷
    search session "keyring" "_uid_ses.1000" nowhere ⇒ Err EKEYREVOKED ∷ Link session session ⇒ Err EKEYREVOKED ∷
    search process_ring "keyring" "_uid.1000" session ⇒ Err ENOKEY ∷ Read (key 4) ⇒ hex "03000000" ∷
    update user_session "s947" ⇒ Err EOPNOTSUPP ∷ Describe session ⇒ Err EKEYREVOKED ∷ []) ∷
    (From 0 1000000 1 ∷ hello 3000000005 3000000007 (1000 ∷ 1002 ∷ []) ⇒ number 1 ∷ GetId user false ⇒ number 3 ∷
    GetId user_session false ⇒ number 4 ∷ request "keyring" "_uid_ses.3000000005" nowhere ⇒ number 4 ∷
    add "logon" "b" "s237" (key 4) ⇒ Err EINVAL ∷ join "work" ⇒ number 5 ∷ Revoke (key 5) ⇒ done ∷
    Read (key 3) ⇒ hex "" ∷ request "user" "b" nowhere ⇒ Err ENOKEY ∷
    search session "keyring" "_uid.3000000005" nowhere ⇒ Err EKEYREVOKED ∷ Clear (key 3) ⇒ done ∷
    Thread ⇒ number 2 ∷ request "user" "b" nowhere ⇒ Err ENOKEY ∷ Clear (key 5) ⇒ Err EKEYREVOKED ∷ []) ∷
    (From 0 1000000 1 ∷ hello 3000000005 3000000007 [] ⇒ number 1 ∷ GetId user false ⇒ number 3 ∷
    GetId user_session false ⇒ number 4 ∷ join "work" ⇒ number 5 ∷ SetPerm (key 5) 0x3f080000 ⇒ done ∷
    add "user" "k:1" "s795" user_session ⇒ number 6 ∷ GetId user true ⇒ number 3 ∷
    add "keyring" "c" "s53" (key 3) ⇒ Err EINVAL ∷ join "" ⇒ number 7 ∷ new_ring "r3" session ⇒ number 8 ∷
    Move (key 8) (key 7) (key 5) 1 ⇒ Err ENOKEY ∷ add "user" "k:1" "s430" (key 7) ⇒ number 9 ∷
    add ".user" "c" "s383" (key 4) ⇒ Err EPERM ∷ add "user" "k:1" "s74" (key 4) ⇒ Err EACCES ∷ []) ∷
    (From 0 1000000 1 ∷ hello 1000 1000 (1000 ∷ 1002 ∷ []) ⇒ number 1 ∷ GetId user false ⇒ number 3 ∷
    GetId user_session false ⇒ number 4 ∷ join "" ⇒ number 5 ∷
    Update (key 5) (bytes_of (codes "0c3c80a3961a68dc")) ⇒ Err EOPNOTSUPP ∷ new_ring "ring" user ⇒ number 6 ∷
    GetId thread_ring false ⇒ Err ENOKEY ∷ Read (key 4) ⇒ hex "03000000" ∷
    Move (key 6) (key 3) session 0 ⇒ Err EACCES ∷ new_ring "r2" (key 6) ⇒ Err EACCES ∷ Read session ⇒ hex "" ∷
    Invalidate (key 6) ⇒ Err EACCES ∷ update process_ring "s550" ⇒ Err ENOKEY ∷ Link (key 4) (key 6) ⇒ Err EACCES ∷
    []) ∷
    (From 0 1000000 1 ∷ hello 1002 1002 (7 ∷ []) ⇒ number 1 ∷ join "" ⇒ number 5 ∷
    SetPerm (key 5) 0x3f20001b ⇒ done ∷ Unlink (key 5) user_session ⇒ Err ENOENT ∷
    new_ring "ring" (key 5) ⇒ number 6 ∷ GetId user false ⇒ number 3 ∷ SetPerm (key 5) 0x3f1f0000 ⇒ done ∷
    Chown (key 6) 4294967295 1001 ⇒ Err EACCES ∷ Chown (key 5) 4294967295 1002 ⇒ done ∷
    GetId user_session false ⇒ number 4 ∷ GetId user true ⇒ number 3 ∷ SetPerm (key 5) 0x00000000 ⇒ done ∷
    update (key 5) "s22" ⇒ Err EACCES ∷ GetId session false ⇒ Err EACCES ∷ []) ∷
    (From 0 1000000 1 ∷ hello 1000 7 (1001 ∷ []) ⇒ number 1 ∷ GetId user false ⇒ number 3 ∷
    GetId user_session false ⇒ number 4 ∷ GetId process_ring false ⇒ Err ENOKEY ∷
    Move (key 3) (key 4) user_session 0 ⇒ done ∷ Read (key 3) ⇒ hex "" ∷ restrict thread_ring "" ⇒ Err ENOKEY ∷
    Read (key 4) ⇒ hex "03000000" ∷ add "logon" "k:2" "s733" (key 3) ⇒ number 5 ∷
    add "user" "b" "s157" (key 4) ⇒ number 6 ∷ Thread ⇒ number 2 ∷ SetTimeout (key 5) 1 ⇒ done ∷
    Unlink (key 6) (key 4) ⇒ done ∷ request "keyring" "b" (key 3) ⇒ Err ENOKEY ∷ []) ∷
    []
