-- Rows of searches and possession. keyctl(2), KEYCTL_SEARCH; request_key(2); keyrings(7).
use Rattle.std.specs.Prelude.{[], ◌∷◌, Err, List}
use Rattle.krs_types.specs.declared.ask.Op.TheVariants.{Link, Read, Revoke, SetPerm, SetTimeout, Thread, Unlink}
use Rattle.krs_types.specs.declared.errno.Errno.TheVariants.{EPERM, EACCES, ENODEV, ENOTDIR, EINVAL, EDEADLK, ENOKEY}
use Rattle.krs_types.specs.declared.errno.Errno.TheVariants.{EKEYEXPIRED, EKEYREVOKED}
use Rattle.krs_rows.specs.Words.{◌⇒◌, add, done, From, hello, hex, join, key, Line, new_ring, nowhere, number}
use Rattle.krs_rows.specs.Words.{process_ring, request, search, session, text, thread_ring, user}

-- by level, then by place
abbrev pub nearest_match : List Line
nearest_match =
    hello 1000 1000 [] ⇒ number 1 ∷ new_ring "R" user ⇒ number 5 ∷ new_ring "A" (key 5) ⇒ number 6 ∷
    add "user" "k" "deep" (key 6) ⇒ number 7 ∷ add "user" "k" "near" (key 5) ⇒ number 8 ∷
    search (key 5) "user" "k" nowhere ⇒ number 8 ∷ search user "user" "k" nowhere ⇒ number 8 ∷
    search (key 6) "user" "k" nowhere ⇒ number 7 ∷ search user "keyring" "A" nowhere ⇒ number 6 ∷
    search (key 5) "keyring" "R" nowhere ⇒ number 5 ∷ search (key 5) "logon" "k:k" nowhere ⇒ Err ENOKEY ∷ []

-- seven links far
abbrev pub search_depth : List Line
search_depth =
    hello 1000 1000 [] ⇒ number 1 ∷ new_ring "A1" thread_ring ⇒ number 6 ∷ new_ring "A2" (key 6) ⇒ number 7 ∷
    new_ring "A3" (key 7) ⇒ number 8 ∷ new_ring "A4" (key 8) ⇒ number 9 ∷ new_ring "A5" (key 9) ⇒ number 10 ∷
    new_ring "A6" (key 10) ⇒ number 11 ∷ new_ring "A7" (key 11) ⇒ number 12 ∷ add "user" "d6" "x" (key 11) ⇒ number 13 ∷
    add "user" "d7" "x" (key 12) ⇒ number 14 ∷ search thread_ring "user" "d6" nowhere ⇒ number 13 ∷
    search thread_ring "user" "d7" nowhere ⇒ Err ENOKEY ∷ Read (key 14) ⇒ Err EACCES ∷ Read (key 13) ⇒ text "x" ∷
    search (key 6) "user" "d7" nowhere ⇒ Err EACCES ∷ []

-- the thread, the process, the session keyring
abbrev pub requests_in_turn : List Line
requests_in_turn =
    hello 1000 1000 [] ⇒ number 1 ∷ add "user" "k" "one" thread_ring ⇒ number 6 ∷ add "user" "k" "two" user ⇒ number 7 ∷
    request "user" "k" nowhere ⇒ number 6 ∷ Revoke (key 6) ⇒ done ∷ request "user" "k" nowhere ⇒ number 7 ∷
    Revoke (key 7) ⇒ done ∷ request "user" "k" nowhere ⇒ Err EKEYREVOKED ∷ request "user" "z" nowhere ⇒ Err ENOKEY ∷
    new_ring "d" user ⇒ number 8 ∷ add "user" "m" "x" thread_ring ⇒ number 9 ∷ request "user" "m" (key 8) ⇒ number 9 ∷
    Read (key 8) ⇒ hex "09000000" ∷ add "user" "n" "x" process_ring ⇒ number 11 ∷
    add "user" "n" "y" session ⇒ number 12 ∷ request "user" "n" nowhere ⇒ number 11 ∷
    add "user" "n" "z" thread_ring ⇒ number 13 ∷ request "user" "n" nowhere ⇒ number 13 ∷
    request "user" "n" (key 7) ⇒ Err EKEYREVOKED ∷ request "user" "n" (key 9) ⇒ Err ENOTDIR ∷
    request "user" "n" (key 77) ⇒ Err ENOKEY ∷ request ".x" "n" (key 77) ⇒ Err EPERM ∷
    request "usr" "n" (key 77) ⇒ Err ENODEV ∷ request "user" "" (key 77) ⇒ Err EINVAL ∷ []

-- revoked, then expired, then denied, then none
abbrev pub faults_of_a_search : List Line
faults_of_a_search =
    hello 1000 1000 [] ⇒ number 1 ∷ new_ring "A" user ⇒ number 5 ∷ new_ring "B" user ⇒ number 6 ∷
    new_ring "C" user ⇒ number 7 ∷ add "user" "k" "a" (key 5) ⇒ number 8 ∷ add "user" "k" "b" (key 6) ⇒ number 9 ∷
    add "user" "k" "c" (key 7) ⇒ number 10 ∷ SetPerm (key 8) 0x37370000 ⇒ done ∷
    search user "user" "k" nowhere ⇒ number 9 ∷ SetTimeout (key 9) 1 ⇒ done ∷ Revoke (key 10) ⇒ done ∷ From 0 1 1 ∷
    search user "user" "k" nowhere ⇒ Err EKEYREVOKED ∷ Unlink (key 10) (key 7) ⇒ done ∷
    search user "user" "k" nowhere ⇒ Err EKEYEXPIRED ∷ Unlink (key 9) (key 6) ⇒ done ∷
    search user "user" "k" nowhere ⇒ Err EACCES ∷ Unlink (key 8) (key 5) ⇒ done ∷
    search user "user" "k" nowhere ⇒ Err ENOKEY ∷ []

-- expired, revoked, or without SEARCH
abbrev pub keyrings_that_are_not_entered : List Line
keyrings_that_are_not_entered =
    hello 1000 1000 [] ⇒ number 1 ∷ new_ring "A" session ⇒ number 5 ∷ add "user" "k" "x" (key 5) ⇒ number 6 ∷
    SetPerm (key 6) 0x3f000000 ⇒ done ∷ Read (key 6) ⇒ text "x" ∷ SetTimeout (key 5) 9 ⇒ done ∷ From 0 8 1 ∷
    Read (key 6) ⇒ text "x" ∷ search session "user" "k" nowhere ⇒ number 6 ∷ From 0 9 1 ∷ Read (key 6) ⇒ Err EACCES ∷
    search session "user" "k" nowhere ⇒ Err ENOKEY ∷ search (key 5) "user" "k" nowhere ⇒ Err EKEYEXPIRED ∷
    new_ring "B" session ⇒ number 7 ∷ add "user" "m" "x" (key 7) ⇒ number 8 ∷ SetPerm (key 8) 0x3f000000 ⇒ done ∷
    Read (key 8) ⇒ text "x" ∷ SetPerm (key 7) 0x37370000 ⇒ done ∷ Read (key 8) ⇒ Err EACCES ∷
    search session "user" "m" nowhere ⇒ Err ENOKEY ∷ search (key 7) "user" "m" nowhere ⇒ Err EACCES ∷ []

-- what an attached keyring reaches is possessed, whatever rights the key grants
abbrev pub possession : List Line
possession =
    hello 1000 1000 [] ⇒ number 1 ∷ add "user" "k" "x" user ⇒ number 5 ∷ SetPerm (key 5) 0x3f000000 ⇒ done ∷
    Read (key 5) ⇒ text "x" ∷ join "" ⇒ number 6 ∷ Read (key 5) ⇒ Err EACCES ∷ Link user session ⇒ done ∷
    Read (key 5) ⇒ text "x" ∷ SetPerm user 0x00000000 ⇒ done ∷ Read (key 5) ⇒ Err EACCES ∷
    add "user" "l" "x" session ⇒ number 7 ∷ SetPerm (key 7) 0x3f000000 ⇒ done ∷ Read (key 7) ⇒ text "x" ∷
    Thread ⇒ number 2 ∷ From 0 0 2 ∷ Read (key 7) ⇒ text "x" ∷ join "" ⇒ number 8 ∷ Read (key 7) ⇒ Err EACCES ∷ []

-- a destination takes what is found, where it grants LINK
abbrev pub found_and_linked : List Line
found_and_linked =
    hello 1000 1000 [] ⇒ number 1 ∷ new_ring "A" user ⇒ number 5 ∷ new_ring "D" user ⇒ number 6 ∷
    add "user" "k" "x" (key 5) ⇒ number 7 ∷ search (key 5) "user" "k" (key 6) ⇒ number 7 ∷
    Read (key 6) ⇒ hex "07000000" ∷ SetPerm (key 7) 0x2f2f0000 ⇒ done ∷ search (key 5) "user" "k" (key 6) ⇒ Err EACCES ∷
    search (key 5) "user" "k" nowhere ⇒ number 7 ∷ search user "keyring" "A" (key 5) ⇒ Err EDEADLK ∷
    search (key 5) "user" "none" (key 7) ⇒ Err ENOTDIR ∷ search (key 5) "user" "none" (key 88) ⇒ Err ENOKEY ∷
    SetPerm (key 6) 0x3b3b0000 ⇒ done ∷ search (key 5) "user" "none" (key 6) ⇒ Err EACCES ∷
    search (key 77) "user" "none" (key 88) ⇒ Err ENOKEY ∷ search (key 77) "user" "" nowhere ⇒ Err EINVAL ∷
    search (key 77) "usr" "none" nowhere ⇒ Err ENODEV ∷ []
