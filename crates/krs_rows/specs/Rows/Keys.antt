-- Rows of keys: types, texts, masks, times and owners. add_key(2), keyctl(2), keyrings(7).
use Rattle.std.specs.Prelude.{[], ◌∷◌, codes, Err, false, List, negsuc, replicate}
use Rattle.krs_types.specs.declared.ask.Op.TheVariants.{Add, Chown, Describe, GetId, Read, Revoke, SetPerm, SetTimeout}
use Rattle.krs_types.specs.declared.ask.Op.TheVariants.{Unlink, Update}
use Rattle.krs_types.specs.declared.errno.Errno.TheVariants.{EPERM, ESRCH, EACCES, ENODEV, EINVAL, EOPNOTSUPP, ENOKEY}
use Rattle.krs_types.specs.declared.errno.Errno.TheVariants.{EKEYEXPIRED, EKEYREVOKED}
use Rattle.krs_rows.specs.Words.{◌⇒◌, add, done, From, hello, hex, join, key, Line, new_ring, number, session, text}
use Rattle.krs_rows.specs.Words.{thread_ring, update, user, user_session}

-- a key of a user in its user keyring
abbrev pub alpha : List Line
alpha =
    hello 1000 1000 [] ⇒ number 1 ∷ add "user" "alpha" "s3" user ⇒ number 5 ∷ Read (key 5) ⇒ text "s3" ∷
    Describe (key 5) ⇒ text "user;1000;1000;3f010000;alpha" ∷ GetId user false ⇒ number 3 ∷
    GetId user_session false ⇒ number 4 ∷ Describe user ⇒ text "keyring;1000;1000;1f3f0000;_uid.1000" ∷
    Describe user_session ⇒ text "keyring;1000;1000;1f3f0000;_uid_ses.1000" ∷ Read user_session ⇒ hex "03000000" ∷
    Read user ⇒ hex "05000000" ∷ []

-- the longest payload, description and type name, and what is longer or empty
abbrev pub longest_texts : List Line
longest_texts =
    hello 1000 1000 [] ⇒ number 1 ∷ Add (codes "user") (codes "k") (replicate 32767 120) user ⇒ number 5 ∷
    Add (codes "user") (codes "k") (replicate 32768 120) user ⇒ Err EINVAL ∷ add "user" "k" "" user ⇒ Err EINVAL ∷
    Add (codes "user") (replicate 4095 120) (codes "x") user ⇒ number 6 ∷
    Add (codes "user") (replicate 4096 120) (codes "x") user ⇒ Err EINVAL ∷ add "user" "" "x" user ⇒ Err EINVAL ∷
    Add (codes "user") (107 ∷ 0 ∷ []) (codes "x") user ⇒ Err EINVAL ∷
    Add (replicate 31 97) (codes "k") (codes "x") user ⇒ Err ENODEV ∷
    Add (replicate 32 97) (codes "k") (codes "x") user ⇒ Err EINVAL ∷ add "" "k" "x" user ⇒ Err EINVAL ∷
    add ".x" "k" "x" user ⇒ Err EPERM ∷ update (key 5) "" ⇒ Err EINVAL ∷
    Update (key 5) (replicate 32768 120) ⇒ Err EINVAL ∷ Update (key 5) (replicate 32767 121) ⇒ done ∷
    Read (key 6) ⇒ text "x" ∷ []

-- a logon key names a service, and nobody reads it
abbrev pub logon_keys : List Line
logon_keys =
    hello 1000 1000 [] ⇒ number 1 ∷ add "logon" "afs:k" "x" user ⇒ number 5 ∷ add "logon" "afs" "x" user ⇒ Err EINVAL ∷
    add "logon" ":k" "x" user ⇒ Err EINVAL ∷ Read (key 5) ⇒ Err EOPNOTSUPP ∷
    Describe (key 5) ⇒ text "logon;1000;1000;3d010000;afs:k" ∷ update (key 5) "y" ⇒ done ∷
    add "logon" "afs:k" "z" user ⇒ number 5 ∷ []

-- exactly one of the bytes of user, group and others counts
abbrev pub one_class_byte : List Line
one_class_byte =
    hello 1000 100 [] ⇒ number 1 ∷ add "user" "alpha" "s" user ⇒ number 5 ∷ hello 2000 200 [] ⇒ number 2 ∷ From 0 0 2 ∷
    Read (key 5) ⇒ Err EACCES ∷ From 0 0 1 ∷ SetPerm (key 5) 0x3f010001 ⇒ done ∷ hello 3000 100 [] ⇒ number 3 ∷
    From 0 0 3 ∷ Describe (key 5) ⇒ Err EACCES ∷ From 0 0 2 ∷ Describe (key 5) ⇒ text "user;1000;100;3f010001;alpha" ∷
    hello 4000 400 (300 ∷ 100 ∷ []) ⇒ number 4 ∷ From 0 0 4 ∷ Describe (key 5) ⇒ Err EACCES ∷ From 0 0 1 ∷
    SetPerm (key 5) 0x3f010100 ⇒ done ∷ From 0 0 4 ∷ Describe (key 5) ⇒ text "user;1000;100;3f010100;alpha" ∷
    From 0 0 2 ∷ Describe (key 5) ⇒ Err EACCES ∷ hello 0 0 [] ⇒ number 5 ∷ From 0 0 5 ∷ Describe (key 5) ⇒ Err EACCES ∷
    []

-- from the moment of the ask on, and the clock never goes back
abbrev pub timeouts : List Line
timeouts =
    From 0 100 1 ∷ hello 1000 1000 [] ⇒ number 1 ∷ add "user" "t" "x" user ⇒ number 5 ∷ SetTimeout (key 5) 10 ⇒ done ∷
    From 0 109 1 ∷ Read (key 5) ⇒ text "x" ∷ From 0 110 1 ∷ Read (key 5) ⇒ Err EKEYEXPIRED ∷ From 0 50 1 ∷
    Read (key 5) ⇒ Err EKEYEXPIRED ∷ From 0 18446744073709551615 1 ∷ add "user" "u" "y" user ⇒ number 6 ∷
    SetTimeout (key 6) 1 ⇒ done ∷ Read (key 6) ⇒ Err EKEYEXPIRED ∷ []

-- a revoked key stays where it is linked, and is nobody's any more
abbrev pub revoked_keys : List Line
revoked_keys =
    hello 1000 1000 [] ⇒ number 1 ∷ add "user" "r" "x" user ⇒ number 5 ∷ Revoke (key 5) ⇒ done ∷
    Read (key 5) ⇒ Err EKEYREVOKED ∷ Revoke (key 5) ⇒ Err EKEYREVOKED ∷ Read user ⇒ hex "05000000" ∷
    Unlink (key 5) user ⇒ done ∷ Read (key 5) ⇒ Err ENOKEY ∷ []

-- what SETATTR is for
abbrev pub timeouts_owners_masks : List Line
timeouts_owners_masks =
    hello 1000 1000 [] ⇒ number 1 ∷ add "user" "a" "x" user ⇒ number 5 ∷ SetTimeout (key 5) 4294967295 ⇒ done ∷
    SetTimeout (key 5) 0 ⇒ done ∷ From 0 9 1 ∷ Read (key 5) ⇒ text "x" ∷ SetTimeout (key 5) 1 ⇒ done ∷
    update (key 5) "x" ⇒ done ∷ From 0 10 1 ∷ Read (key 5) ⇒ text "x" ∷ Chown (key 5) 1000 4294967295 ⇒ done ∷
    Chown (key 5) 7 4294967295 ⇒ Err EACCES ∷ Chown (key 5) 4294967295 1000 ⇒ done ∷
    Chown (key 5) 4294967295 8 ⇒ Err EACCES ∷ SetPerm (key 5) 0x40000000 ⇒ Err EINVAL ∷ Revoke (key 5) ⇒ done ∷
    add "user" "a" "y" user ⇒ number 6 ∷ Read (key 5) ⇒ Err ENOKEY ∷ Read (key 6) ⇒ text "y" ∷ []

-- the order of a look-up
abbrev pub revoked_before_expired : List Line
revoked_before_expired =
    hello 1000 1000 [] ⇒ number 1 ∷ add "user" "a" "x" user ⇒ number 5 ∷ add "user" "b" "x" user ⇒ number 6 ∷
    SetTimeout (key 5) 5 ⇒ done ∷ SetTimeout (key 6) 5 ⇒ done ∷ Revoke (key 5) ⇒ done ∷ SetPerm (key 6) 0x0 ⇒ done ∷
    From 0 5 1 ∷ Read (key 5) ⇒ Err EKEYREVOKED ∷ Read (key 6) ⇒ Err EKEYEXPIRED ∷ Read (key 0) ⇒ Err EINVAL ∷
    Read (negsuc 5) ⇒ Err EINVAL ∷ Read (key 7) ⇒ Err ENOKEY ∷ GetId thread_ring false ⇒ Err ENOKEY ∷ From 1 5 1 ∷
    Read (key 0) ⇒ Err ESRCH ∷ []

-- who sets a mask, an owner, a group
abbrev pub owners : List Line
owners =
    hello 1000 100 (300 ∷ []) ⇒ number 1 ∷ add "user" "k" "x" user ⇒ number 5 ∷ SetPerm (key 5) 0x3f3f3f3f ⇒ done ∷
    Chown (key 5) 4294967295 300 ⇒ done ∷ Describe (key 5) ⇒ text "user;1000;300;3f3f3f3f;k" ∷
    hello 2000 200 [] ⇒ number 2 ∷ From 0 0 2 ∷ SetPerm (key 5) 0x3f010000 ⇒ Err EACCES ∷
    Chown (key 5) 4294967295 200 ⇒ done ∷ Chown (key 5) 2000 4294967295 ⇒ Err EACCES ∷ hello 0 0 [] ⇒ number 3 ∷
    From 0 0 3 ∷ Chown (key 5) 2000 4294967295 ⇒ done ∷ Describe (key 5) ⇒ text "user;2000;200;3f3f3f3f;k" ∷
    SetPerm (key 5) 0x00200000 ⇒ done ∷ SetPerm (key 5) 0x3f3f3f3f ⇒ Err EACCES ∷ From 0 0 2 ∷
    SetPerm (key 5) 0x3f3f3f3f ⇒ done ∷ Chown (key 5) 4294967295 77 ⇒ Err EACCES ∷
    Chown (key 5) 4294967295 4294967295 ⇒ done ∷ Describe (key 5) ⇒ text "user;2000;200;3f3f3f3f;k" ∷ []

-- SEARCH will do for what is possessed, and READ for what isn't
abbrev pub reading_by_possession : List Line
reading_by_possession =
    hello 1000 1000 [] ⇒ number 1 ∷ add "user" "k" "x" thread_ring ⇒ number 6 ∷ SetPerm (key 6) 0x28000000 ⇒ done ∷
    Read (key 6) ⇒ text "x" ∷ Describe (key 6) ⇒ Err EACCES ∷ SetPerm (key 6) 0x20000000 ⇒ done ∷
    Read (key 6) ⇒ Err EACCES ∷ add "user" "q" "x" user ⇒ number 7 ∷ SetPerm (key 7) 0x00280000 ⇒ done ∷
    Read (key 7) ⇒ text "x" ∷ join "" ⇒ number 8 ∷ Read (key 7) ⇒ Err EACCES ∷ GetId session false ⇒ number 8 ∷
    SetPerm (key 7) 0x00220000 ⇒ done ∷ Read (key 7) ⇒ text "x" ∷ []

-- which match is updated, and which is displaced
abbrev pub adding_over : List Line
adding_over =
    hello 1000 1000 [] ⇒ number 1 ∷ add "user" "a" "x" user ⇒ number 5 ∷ add "user" "b" "x" user ⇒ number 6 ∷
    add "user" "a" "y" user ⇒ number 5 ∷ Read (key 5) ⇒ text "y" ∷ SetTimeout (key 5) 7 ⇒ done ∷
    add "user" "a" "z" user ⇒ number 5 ∷ From 0 7 1 ∷ Read (key 5) ⇒ text "z" ∷ SetTimeout (key 5) 1 ⇒ done ∷
    From 0 8 1 ∷ add "user" "a" "w" user ⇒ number 7 ∷ Read user ⇒ hex "0700000006000000" ∷ Revoke (key 6) ⇒ done ∷
    add "user" "b" "v" user ⇒ number 8 ∷ Read user ⇒ hex "0700000008000000" ∷ SetPerm (key 8) 0x3b3b0000 ⇒ done ∷
    add "user" "b" "u" user ⇒ Err EACCES ∷ new_ring "b" user ⇒ number 9 ∷ new_ring "b" user ⇒ number 10 ∷
    Read user ⇒ hex "07000000080000000a000000" ∷ update (key 10) "x" ⇒ Err EOPNOTSUPP ∷
    add "keyring" "c" "x" user ⇒ Err EINVAL ∷ new_ring ".c" user ⇒ Err EPERM ∷ add "usr" "c" "x" user ⇒ Err ENODEV ∷ []
