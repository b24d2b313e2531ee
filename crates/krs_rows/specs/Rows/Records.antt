-- Rows of watches, queues, filters and records. core-api/watch_queue.rst.
use Rattle.std.specs.Prelude.{[], ◌++◌, ◌∷◌, Err, List, negsuc, pos, replicate}
use Rattle.krs_types.specs.declared.ask.Op.TheVariants.{Chown, Clear, CloseQueue, Describe, Invalidate, Link, OpenQueue}
use Rattle.krs_types.specs.declared.ask.Op.TheVariants.{Read, ReadQueue, Revoke, SetFilter, SetPerm, SetTimeout, Unlink}
use Rattle.krs_types.specs.declared.ask.Op.TheVariants.{Watch}
use Rattle.krs_types.specs.declared.errno.Errno.TheVariants.{EBADF, EAGAIN, EACCES, EBUSY, EINVAL, ENFILE, EBADSLT}
use Rattle.krs_types.specs.declared.errno.Errno.TheVariants.{EOPNOTSUPP, ENOBUFS, ENOKEY}
use Rattle.krs_rows.specs.Words.{◌⇒◌, add, done, From, hello, hex, key, Line, new_ring, number, numbers_from, passes}
use Rattle.krs_rows.specs.Words.{restrict, search, text, update, user}

-- the key that a displacement lets go
abbrev pub removals : List Line
removals =
    hello 1000 1000 [] ⇒ number 1 ∷ OpenQueue 8 ⇒ number 1 ∷ add "user" "alpha" "a" user ⇒ number 5 ∷
    Watch (key 5) 1 (pos 5) ⇒ done ∷ add "user" "alpha" "b" user ⇒ number 5 ∷
    ReadQueue 1 64 ⇒ hex "01000001100500000500000000000000" ∷ new_ring "box" user ⇒ number 6 ∷
    Watch (key 6) 1 (pos 7) ⇒ done ∷ new_ring "box" user ⇒ number 7 ∷
    ReadQueue 1 64 ⇒ hex "00000000100700000600000000000000" ∷ Read user ⇒ hex "0500000007000000" ∷ []

-- 0 to 255, or -1 for the end of a watch
abbrev pub watch_ids : List Line
watch_ids =
    hello 1000 1000 [] ⇒ number 1 ∷ add "user" "k7" "x" user ⇒ number 5 ∷ OpenQueue 4 ⇒ number 1 ∷
    Watch (key 5) 1 (pos 255) ⇒ done ∷ update (key 5) "z" ⇒ done ∷
    ReadQueue 1 16 ⇒ hex "0100000110ff00000500000000000000" ∷ Watch (key 5) 1 (pos 256) ⇒ Err EINVAL ∷
    Watch (key 77) 9 (negsuc 1) ⇒ Err EINVAL ∷ Watch (key 77) 9 (pos 6) ⇒ Err ENOKEY ∷
    Watch (key 5) 9 (pos 6) ⇒ Err EBADF ∷ Watch (key 5) 1 (pos 6) ⇒ Err EBUSY ∷ Watch (key 5) 1 (negsuc 0) ⇒ done ∷
    ReadQueue 1 16 ⇒ hex "0000000010ff00000500000000000000" ∷ Watch (key 5) 1 (negsuc 0) ⇒ Err EBADSLT ∷
    SetPerm (key 5) 0x3e3e0000 ⇒ done ∷ Watch (key 5) 9 (pos 6) ⇒ Err EACCES ∷ []

-- one record of a loss, however many were dropped
abbrev pub loss : List Line
loss =
    hello 1000 1000 [] ⇒ number 1 ∷ add "user" "n" "x" user ⇒ number 5 ∷ OpenQueue 1 ⇒ number 1 ∷
    Watch (key 5) 1 (pos 0) ⇒ done ∷ update (key 5) "a" ⇒ done ∷ update (key 5) "b" ⇒ done ∷
    SetTimeout (key 5) 0 ⇒ done ∷ ReadQueue 1 8 ⇒ Err ENOBUFS ∷
    ReadQueue 1 16 ⇒ hex "01000001100000000500000000000000" ∷ ReadQueue 1 16 ⇒ hex "0000000108000000" ∷
    ReadQueue 1 16 ⇒ Err EAGAIN ∷ []

-- a record and a loss in one reply
abbrev pub loss_in_one_read : List Line
loss_in_one_read =
    hello 1000 1000 [] ⇒ number 1 ∷ add "user" "n" "x" user ⇒ number 5 ∷ OpenQueue 1 ⇒ number 1 ∷
    Watch (key 5) 1 (pos 0) ⇒ done ∷ update (key 5) "a" ⇒ done ∷ update (key 5) "b" ⇒ done ∷
    SetTimeout (key 5) 0 ⇒ done ∷ ReadQueue 1 24 ⇒ hex "010000011000000005000000000000000000000108000000" ∷
    update (key 5) "c" ⇒ done ∷ ReadQueue 1 7 ⇒ Err ENOBUFS ∷ ReadQueue 1 40 ⇒ hex "01000001100000000500000000000000" ∷
    []

-- the note first, then the removal
abbrev pub invalidation : List Line
invalidation =
    hello 1000 1000 [] ⇒ number 1 ∷ new_ring "box" user ⇒ number 5 ∷ add "user" "k" "x" (key 5) ⇒ number 6 ∷
    Link (key 6) user ⇒ done ∷ OpenQueue 4 ⇒ number 1 ∷ Watch (key 6) 1 (pos 1) ⇒ done ∷ Invalidate (key 6) ⇒ done ∷
    ReadQueue 1 64 ⇒ hex "0100000610010000060000000000000000000000100100000600000000000000" ∷ Read (key 5) ⇒ hex "" ∷
    Read user ⇒ hex "05000000" ∷ []

-- a record passes where an entry has its type and subtype, and its masked words
abbrev pub filters : List Line
filters =
    hello 1000 1000 [] ⇒ number 1 ∷ add "user" "f" "x" user ⇒ number 5 ∷ OpenQueue 4 ⇒ number 1 ∷
    SetFilter 1 (passes 0x1 0x0 0x0 0x2 ∷ []) ⇒ done ∷ Watch (key 5) 1 (pos 9) ⇒ done ∷ SetTimeout (key 5) 60 ⇒ done ∷
    update (key 5) "y" ⇒ done ∷ ReadQueue 1 64 ⇒ hex "01000001100900000500000000000000" ∷
    Watch (key 5) 1 (negsuc 0) ⇒ done ∷ ReadQueue 1 64 ⇒ hex "00000000100900000500000000000000" ∷
    SetFilter 1 (passes 0x1 0x100 0x0 0x2 ∷ []) ⇒ Err EINVAL ∷ SetFilter 1 (passes 0x1 0x0 0x7f 0x2 ∷ []) ⇒ Err EINVAL ∷
    SetFilter 1 [] ⇒ Err EINVAL ∷ SetFilter 1 (replicate 17 (passes 1 0 0 2)) ⇒ Err EINVAL ∷
    SetFilter 1 (replicate 16 (passes 1 0 0 2)) ⇒ done ∷ SetFilter 2 (passes 0x1 0x0 0x0 0x2 ∷ []) ⇒ Err EBADF ∷
    OpenQueue 0 ⇒ Err EINVAL ∷ OpenQueue 513 ⇒ number 2 ∷ OpenQueue 4096 ⇒ number 3 ∷ OpenQueue 4097 ⇒ Err EINVAL ∷
    Watch (key 5) 2 (pos 16) ⇒ done ∷ Watch (key 5) 1 (pos 17) ⇒ done ∷
    SetFilter 2 (passes 0x1 0x1000 0xff00 0x80 ∷ passes 0x1 0x0 0x0 0x2 ∷ []) ⇒ done ∷
    SetFilter 1 (passes 0x1 0x1000 0xff00 0x80 ∷ passes 0x0 0x0 0x0 0xff ∷ []) ⇒ done ∷ SetTimeout (key 5) 60 ⇒ done ∷
    update (key 5) "y" ⇒ done ∷ ReadQueue 1 64 ⇒ Err EAGAIN ∷
    ReadQueue 2 64 ⇒ hex "0100000710100000050000000000000001000001101000000500000000000000" ∷
    SetFilter 1 (passes 0x1 0x1100 0xff00 0x80 ∷ []) ⇒ done ∷ SetTimeout (key 5) 60 ⇒ done ∷
    ReadQueue 1 64 ⇒ hex "01000007101100000500000000000000" ∷ []

-- links, unlinks and clearings
abbrev pub keyring_notes : List Line
keyring_notes =
    hello 1000 1000 [] ⇒ number 1 ∷ OpenQueue 8 ⇒ number 1 ∷ Watch user 1 (pos 3) ⇒ done ∷
    add "user" "k" "x" user ⇒ number 5 ∷ new_ring "b" user ⇒ number 6 ∷ Link (key 5) (key 6) ⇒ done ∷
    Unlink (key 5) user ⇒ done ∷ Clear user ⇒ done ∷
    ReadQueue 1 32 ⇒ hex "0100000210030000030000000500000001000002100300000300000006000000" ∷
    ReadQueue 1 32 ⇒ hex "0100000310030000030000000500000001000004100300000300000000000000" ∷
    ReadQueue 1 64 ⇒ Err EAGAIN ∷ CloseQueue 1 ⇒ done ∷ ReadQueue 1 64 ⇒ Err EBADF ∷ []

-- what is told, and what is not
abbrev pub notes_of_each_ask : List Line
notes_of_each_ask =
    hello 1000 1000 [] ⇒ number 1 ∷ OpenQueue 32 ⇒ number 1 ∷ new_ring "r" user ⇒ number 5 ∷
    add "user" "k" "x" (key 5) ⇒ number 6 ∷ Watch (key 5) 1 (pos 1) ⇒ done ∷ Watch (key 6) 1 (pos 2) ⇒ done ∷
    SetPerm (key 6) 0x3f3f0000 ⇒ done ∷ Chown (key 6) 1000 4294967295 ⇒ done ∷ SetTimeout (key 6) 9 ⇒ done ∷
    update (key 6) "y" ⇒ done ∷ add "user" "k" "z" (key 5) ⇒ number 6 ∷ search user "user" "k" (key 5) ⇒ number 6 ∷
    Link (key 6) (key 5) ⇒ done ∷ Read (key 6) ⇒ text "z" ∷ Describe (key 6) ⇒ text "user;1000;1000;3f3f0000;k" ∷
    restrict (key 5) "" ⇒ done ∷ update (key 5) "x" ⇒ Err EOPNOTSUPP ∷
    ReadQueue 1 32 ⇒ hex "0100000710020000060000000000000001000007100200000600000000000000" ∷
    ReadQueue 1 16 ⇒ hex "01000007100200000600000000000000" ∷
    ReadQueue 1 32 ⇒ hex "0100000110020000060000000000000001000001100200000600000000000000" ∷
    ReadQueue 1 32 ⇒ hex "0100000210010000050000000600000001000002100100000500000006000000" ∷
    new_ring "q" user ⇒ number 7 ∷ []

-- a revocation is told, and then what it lets go
abbrev pub revocation_notes : List Line
revocation_notes =
    hello 1000 1000 [] ⇒ number 1 ∷ OpenQueue 32 ⇒ number 1 ∷ new_ring "r" user ⇒ number 5 ∷
    add "user" "k" "x" (key 5) ⇒ number 6 ∷ Watch (key 6) 1 (pos 2) ⇒ done ∷ Watch (key 5) 1 (pos 1) ⇒ done ∷
    Revoke (key 5) ⇒ done ∷ ReadQueue 1 64 ⇒ hex "0100000510010000050000000000000000000000100200000600000000000000" ∷
    Unlink (key 5) user ⇒ done ∷ ReadQueue 1 64 ⇒ hex "00000000100100000500000000000000" ∷ []

-- by rising key, each to its own queue
abbrev pub removals_by_key : List Line
removals_by_key =
    hello 1000 1000 [] ⇒ number 1 ∷ OpenQueue 4 ⇒ number 1 ∷ OpenQueue 4 ⇒ number 2 ∷ new_ring "r" user ⇒ number 5 ∷
    add "user" "k" "x" (key 5) ⇒ number 6 ∷ Watch (key 6) 2 (pos 62) ⇒ done ∷ Watch (key 5) 1 (pos 51) ⇒ done ∷
    Watch (key 6) 1 (pos 61) ⇒ done ∷ Watch (key 5) 2 (pos 52) ⇒ done ∷ Unlink (key 5) user ⇒ done ∷
    ReadQueue 2 64 ⇒ hex "0000000010340000050000000000000000000000103e00000600000000000000" ∷
    ReadQueue 1 64 ⇒ hex "0000000010330000050000000000000000000000103d00000600000000000000" ∷ From 1 0 1 ∷
    hello 1000 1000 [] ⇒ number 2 ∷ From 1 0 2 ∷ ReadQueue 1 64 ⇒ Err EBADF ∷ Watch user 1 (pos 1) ⇒ Err EBADF ∷
    CloseQueue 1 ⇒ Err EBADF ∷ []

-- 256, by numbers that are not given again
abbrev pub queues_at_most : List Line
queues_at_most =
    numbers_from 1 256 (OpenQueue 1) ++ OpenQueue 1 ⇒ Err ENFILE ∷ OpenQueue 0 ⇒ Err EINVAL ∷ CloseQueue 7 ⇒ done ∷
    OpenQueue 1 ⇒ number 257 ∷ ReadQueue 7 16 ⇒ Err EBADF ∷ CloseQueue 7 ⇒ Err EBADF ∷ []
