-- Whom a client says that it is: credentials(7).
use Rattle.std.specs.{Prelude.{◌==◌, ◌||◌, Bool, Err, if◌then◌else◌, length, nat_lt, Ok, Result, ℕ}, List.list_any}
use Rattle.krs_types.specs.declared.{caller.Caller.Caller, errno.Errno.{Errno, TheVariants.EINVAL}}

-- the gid is the caller's, or one of its groups
abbrev pub is_of_group : Caller → ℕ → Bool
is_of_group caller gid = (gid == caller.gid) || list_any (λ g. g == gid) caller.groups

-- a uid or gid that CHOWN leaves as it is: keyctl(2), KEYCTL_CHOWN
abbrev pub unchanged : ℕ
unchanged = 4294967295

-- stands for no uid and no gid
abbrev pub no_id : ℕ
no_id = 4294967295

-- at most 32 groups (profile, limits), and neither the uid nor the gid nor a group is 4294967295: profile, believed
-- caller
abbrev pub caller_check : Caller → Result (Unit {0}) Errno
caller_check c =
    if nat_lt 32 (length c.groups) ||
    ((c.uid == no_id) || ((c.gid == no_id) || list_any (λ g. g == no_id) c.groups))
    then Err EINVAL
    else Ok tt
