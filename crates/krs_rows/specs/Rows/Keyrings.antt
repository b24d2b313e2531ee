-- Rows of links: cycles, nesting, displacement, moves and closed keyrings. keyctl(2).
use Rattle.std.specs.Prelude.{[], ◌∷◌, Err, false, List, pos}
use Rattle.krs_types.specs.declared.ask.Op.TheVariants.{Clear, GetId, Link, Move, OpenQueue, Read, ReadQueue, Revoke}
use Rattle.krs_types.specs.declared.ask.Op.TheVariants.{SetPerm, Unlink, Watch}
use Rattle.krs_types.specs.declared.errno.Errno.TheVariants.{EPERM, ENOENT, EACCES, EEXIST, ENOTDIR, EINVAL, EDEADLK}
use Rattle.krs_types.specs.declared.errno.Errno.TheVariants.{ELOOP, EOPNOTSUPP, ENOKEY, EKEYREVOKED}
use Rattle.krs_rows.specs.Words.{◌⇒◌, add, done, hello, hex, key, Line, new_ring, nowhere, number, request, restrict}
use Rattle.krs_rows.specs.Words.{search, text, thread_ring, update, user, user_session}

-- no keyring reaches itself
abbrev pub cycles : List Line
cycles =
    hello 1000 1000 [] ⇒ number 1 ∷ new_ring "C" user ⇒ number 5 ∷ new_ring "B" (key 5) ⇒ number 6 ∷
    new_ring "A" (key 6) ⇒ number 7 ∷ Link (key 5) (key 7) ⇒ Err EDEADLK ∷ Link (key 7) (key 7) ⇒ Err EDEADLK ∷
    Link (key 7) (key 5) ⇒ done ∷ Read (key 5) ⇒ hex "0600000007000000" ∷ []

-- a keyring with a chain of six nested keyrings can't be linked
abbrev pub nesting : List Line
nesting =
    hello 1000 1000 [] ⇒ number 1 ∷ new_ring "K1" user ⇒ number 5 ∷ new_ring "K2" (key 5) ⇒ number 6 ∷
    new_ring "K3" (key 6) ⇒ number 7 ∷ new_ring "K4" (key 7) ⇒ number 8 ∷ new_ring "K5" (key 8) ⇒ number 9 ∷
    new_ring "K6" (key 9) ⇒ number 10 ∷ new_ring "K7" (key 10) ⇒ number 11 ∷ new_ring "X" user ⇒ number 12 ∷
    Link (key 5) (key 12) ⇒ Err ELOOP ∷ Link (key 6) (key 12) ⇒ done ∷ []

-- a link takes the place of one of equal type and description
abbrev pub displacement : List Line
displacement =
    hello 1000 1000 [] ⇒ number 1 ∷ new_ring "a" user ⇒ number 5 ∷ new_ring "b" user ⇒ number 6 ∷
    add "user" "k" "one" (key 5) ⇒ number 7 ∷ add "user" "z" "two" (key 5) ⇒ number 8 ∷
    add "user" "k" "three" (key 6) ⇒ number 9 ∷ Link (key 9) (key 5) ⇒ done ∷ Read (key 5) ⇒ hex "0900000008000000" ∷
    Read (key 7) ⇒ Err ENOKEY ∷ add "logon" "k:x" "w" (key 5) ⇒ number 10 ∷ add "user" "k:x" "v" (key 5) ⇒ number 11 ∷
    Read (key 5) ⇒ hex "09000000080000000a0000000b000000" ∷ Link (key 9) (key 5) ⇒ done ∷
    Read (key 5) ⇒ hex "09000000080000000a0000000b000000" ∷ []

-- what wants a keyring
abbrev pub keyring_refusals : List Line
keyring_refusals =
    hello 1000 1000 [] ⇒ number 1 ∷ new_ring "a" user ⇒ number 5 ∷ add "user" "k" "x" (key 5) ⇒ number 6 ∷
    Unlink (key 6) user ⇒ Err ENOENT ∷ Link (key 5) (key 6) ⇒ Err ENOTDIR ∷ Clear (key 6) ⇒ Err ENOTDIR ∷
    add "user" "q" "x" (key 6) ⇒ Err ENOTDIR ∷ restrict (key 6) "" ⇒ Err ENOTDIR ∷
    search (key 6) "user" "k" nowhere ⇒ Err ENOTDIR ∷ update (key 5) "z" ⇒ Err EOPNOTSUPP ∷
    Unlink (key 5) (key 6) ⇒ Err ENOTDIR ∷ Unlink (key 0) user ⇒ Err EINVAL ∷ Unlink (key 77) user ⇒ Err ENOKEY ∷
    Clear (key 5) ⇒ done ∷ Read (key 6) ⇒ Err ENOKEY ∷ Read (key 5) ⇒ hex "" ∷ []

-- a revoked keyring lets its links go
abbrev pub revoked_keyring : List Line
revoked_keyring =
    hello 1000 1000 [] ⇒ number 1 ∷ new_ring "a" user ⇒ number 5 ∷ add "user" "k" "x" (key 5) ⇒ number 6 ∷
    new_ring "b" (key 5) ⇒ number 7 ∷ add "user" "k" "y" (key 7) ⇒ number 8 ∷ Revoke (key 5) ⇒ done ∷
    Read (key 6) ⇒ Err ENOKEY ∷ Read (key 8) ⇒ Err ENOKEY ∷ Read (key 5) ⇒ Err EKEYREVOKED ∷
    Link user_session (key 5) ⇒ Err EKEYREVOKED ∷ new_ring "a" user ⇒ number 9 ∷ Read user ⇒ hex "09000000" ∷ []

-- the keyring is looked up first, then the key
abbrev pub order_of_a_link : List Line
order_of_a_link =
    hello 1000 1000 [] ⇒ number 1 ∷ add "user" "k" "x" user ⇒ number 5 ∷ new_ring "r" user ⇒ number 6 ∷
    Revoke (key 5) ⇒ done ∷ SetPerm (key 6) 0x3b3b0000 ⇒ done ∷ Link (key 5) (key 6) ⇒ Err EACCES ∷
    SetPerm (key 6) 0x3f3f0000 ⇒ done ∷ Link (key 5) (key 6) ⇒ Err EKEYREVOKED ∷ Link (key 5) (key 77) ⇒ Err ENOKEY ∷
    Link (key 5) (key 0) ⇒ Err EINVAL ∷ Link (key 77) (key 6) ⇒ Err ENOKEY ∷ add "user" "q" "x" user ⇒ number 7 ∷
    SetPerm (key 7) 0x2f2f0000 ⇒ done ∷ Link (key 7) (key 6) ⇒ Err EACCES ∷ Link (key 7) (key 7) ⇒ Err EACCES ∷
    Unlink (key 5) user ⇒ done ∷ Read user ⇒ hex "0600000007000000" ∷ Link (key 6) thread_ring ⇒ done ∷
    GetId thread_ring false ⇒ number 8 ∷ Read (key 8) ⇒ hex "06000000" ∷ []

-- rights on the key don't matter
abbrev pub order_of_an_unlink : List Line
order_of_an_unlink =
    hello 1000 1000 [] ⇒ number 1 ∷ add "user" "k" "x" user ⇒ number 5 ∷ SetPerm (key 5) 0x0 ⇒ done ∷
    Unlink (key 5) user ⇒ done ∷ Read user ⇒ hex "" ∷ new_ring "r" user ⇒ number 6 ∷ SetPerm (key 6) 0x3b3b0000 ⇒ done ∷
    Unlink (key 77) (key 6) ⇒ Err EACCES ∷ Clear (key 6) ⇒ Err EACCES ∷ []

-- a closed keyring takes no link, and lets links go
abbrev pub closed : List Line
closed =
    hello 1000 1000 [] ⇒ number 1 ∷ new_ring "a" user ⇒ number 5 ∷ add "user" "k" "x" (key 5) ⇒ number 6 ∷
    add "user" "m" "x" user ⇒ number 7 ∷ new_ring "b" user ⇒ number 8 ∷ restrict (key 5) "" ⇒ done ∷
    restrict (key 5) "" ⇒ Err EEXIST ∷ restrict (key 8) "user" ⇒ Err EINVAL ∷ restrict (key 77) "user" ⇒ Err EINVAL ∷
    SetPerm (key 8) 0x1f1f0000 ⇒ done ∷ restrict (key 8) "" ⇒ Err EACCES ∷ SetPerm (key 8) 0x3f3f0000 ⇒ Err EACCES ∷
    Link (key 7) (key 5) ⇒ Err EPERM ∷ Link (key 6) (key 5) ⇒ Err EPERM ∷ add "user" "z" "x" (key 5) ⇒ Err EPERM ∷
    add "user" "k" "y" (key 5) ⇒ number 6 ∷ Read (key 6) ⇒ text "y" ∷ Move (key 7) user (key 5) 0 ⇒ Err EPERM ∷
    search user "user" "m" (key 5) ⇒ Err EPERM ∷ request "user" "m" (key 5) ⇒ Err EPERM ∷
    Move (key 6) (key 5) user 0 ⇒ done ∷ Read (key 5) ⇒ hex "" ∷ Read user ⇒ hex "05000000070000000800000006000000" ∷
    Unlink (key 7) (key 5) ⇒ Err ENOENT ∷ Clear (key 5) ⇒ done ∷ []

-- out of one keyring and into another
abbrev pub moves : List Line
moves =
    hello 1000 1000 [] ⇒ number 1 ∷ new_ring "a" user ⇒ number 5 ∷ new_ring "b" user ⇒ number 6 ∷
    add "user" "k" "one" (key 5) ⇒ number 7 ∷ add "user" "k" "two" (key 6) ⇒ number 8 ∷ OpenQueue 8 ⇒ number 1 ∷
    Watch (key 5) 1 (pos 1) ⇒ done ∷ Watch (key 6) 1 (pos 2) ⇒ done ∷ Watch (key 8) 1 (pos 3) ⇒ done ∷
    Move (key 7) (key 5) (key 6) 1 ⇒ Err EEXIST ∷ Move (key 7) (key 5) (key 6) 0 ⇒ done ∷
    Read (key 6) ⇒ hex "07000000" ∷
    ReadQueue 1 32 ⇒ hex "0100000310010000050000000700000001000002100200000600000007000000" ∷
    ReadQueue 1 16 ⇒ hex "00000000100300000800000000000000" ∷ Move (key 7) (key 5) (key 6) 0 ⇒ Err ENOENT ∷
    restrict (key 5) "" ⇒ done ∷ restrict (key 5) "" ⇒ Err EEXIST ∷ Link (key 7) (key 5) ⇒ Err EPERM ∷
    Move (key 7) (key 6) (key 5) 0 ⇒ Err EPERM ∷ add "user" "z" "x" (key 5) ⇒ Err EPERM ∷
    restrict (key 7) "" ⇒ Err ENOTDIR ∷ []

-- flags, the key, the first keyring, the second
abbrev pub order_of_a_move : List Line
order_of_a_move =
    hello 1000 1000 [] ⇒ number 1 ∷ new_ring "a" user ⇒ number 5 ∷ new_ring "b" user ⇒ number 6 ∷
    add "user" "k" "x" (key 5) ⇒ number 7 ∷ Move (key 77) (key 5) (key 6) 2 ⇒ Err EINVAL ∷
    Move (key 77) (key 5) (key 6) 0 ⇒ Err ENOKEY ∷ Move (key 7) (key 88) (key 99) 0 ⇒ Err ENOKEY ∷
    Move (key 7) (key 7) (key 6) 0 ⇒ Err ENOTDIR ∷ Move (key 7) (key 5) (key 7) 0 ⇒ Err ENOTDIR ∷
    Move (key 7) (key 6) (key 5) 0 ⇒ Err ENOENT ∷ Move (key 7) (key 5) (key 5) 1 ⇒ done ∷
    Read (key 5) ⇒ hex "07000000" ∷ Move (key 5) user (key 5) 0 ⇒ Err EDEADLK ∷
    Move (key 7) (key 5) thread_ring 0 ⇒ done ∷ GetId thread_ring false ⇒ number 8 ∷ Read (key 8) ⇒ hex "07000000" ∷
    Read (key 5) ⇒ hex "" ∷ []
