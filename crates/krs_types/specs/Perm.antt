-- What a permission mask grants: keyrings(7), "Access rights"; keyctl(2), KEYCTL_SETPERM.
use Rattle.std.specs.Prelude.{◌%◌, ◌/◌, ◌==◌, bit_and, bit_or, Bool, Err, if◌then◌else◌, Ok, Result, ℕ}
use Rattle.krs_types.specs.Caller.{is_of_group}
use Rattle.krs_types.specs.declared.{caller.Caller.Caller, errno.Errno.{Errno, TheVariants.EINVAL}}

-- each right in each of the four bytes
abbrev pub all_rights : ℕ
all_rights = 0x3f3f_3f3f

-- of a new `user` key or keyring, and of a thread or process keyring: profile, masks of new keys
abbrev pub key_mask : ℕ
key_mask = 0x3f01_0000

-- of a new `logon` key, which nobody may read: profile, masks of new keys
abbrev pub logon_mask : ℕ
logon_mask = 0x3d01_0000

-- of the user and user-session keyrings of a uid: profile, masks of new keys
abbrev pub uid_mask : ℕ
uid_mask = 0x1f3f_0000

-- of a session keyring without a name: profile, masks of new keys
abbrev pub session_mask : ℕ
session_mask = 0x3f03_0000

-- of a session keyring with a name: profile, masks of new keys
abbrev pub named_session_mask : ℕ
named_session_mask = 0x3f13_0000

-- a mask has no bit outside those of all rights: profile, mask bits
abbrev pub perm_of : ℕ → Result ℕ Errno
perm_of mask = if bit_and mask all_rights == mask then Ok mask else Err EINVAL

-- what a mask grants to who possesses the key: the first of its four bytes, from the top
abbrev pub possessor_byte : ℕ → ℕ
possessor_byte mask = mask / 0x100_0000 % 0x100

-- what it grants to the key's owner: the second
abbrev pub user_byte : ℕ → ℕ
user_byte mask = mask / 0x1_0000 % 0x100

-- what it grants to the key's group: the third
abbrev pub group_byte : ℕ → ℕ
group_byte mask = mask / 0x100 % 0x100

-- what it grants to the others: the last
abbrev pub other_byte : ℕ → ℕ
other_byte mask = mask % 0x100

-- exactly one of the three: the user's where the uids are equal, else the group's where the key's gid is the caller's
-- or one of its groups, even where it grants nothing, else the others': profile, group byte counts alone
abbrev pub class_byte : ℕ → ℕ → ℕ → Caller → ℕ
class_byte mask uid gid caller =
    if uid == caller.uid then user_byte mask
    else if is_of_group caller gid then group_byte mask
    else other_byte mask

-- the rights on a key of this mask, uid and gid: the possessor's byte where it is possessed, and that one byte:
-- keyrings(7), "Access rights"
abbrev pub granted : ℕ → ℕ → ℕ → Caller → Bool → ℕ
granted mask uid gid caller possessed =
    bit_or (if possessed then possessor_byte mask else 0) (class_byte mask uid gid caller)
