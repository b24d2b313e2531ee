-- Why an ask is refused: the names and numbers of errno(3).
use Rattle.std.specs.Prelude.{[], ◌∷◌, codes, List, ℕ}
use Rattle.krs_types.specs.declared.errno.Errno.{Errno, TheVariants.{EACCES, EAGAIN, EBADF, EBADSLT, EBUSY, EDEADLK}}
use Rattle.krs_types.specs.declared.errno.Errno.TheVariants.{EEXIST, EINVAL, EKEYEXPIRED, EKEYREVOKED, ELOOP, ENFILE}
use Rattle.krs_types.specs.declared.errno.Errno.TheVariants.{ENOBUFS, ENODEV, ENOENT, ENOKEY, ENOMEM, ENOSPC, ENOTDIR}
use Rattle.krs_types.specs.declared.errno.Errno.TheVariants.{EOPNOTSUPP, EPERM, ESRCH}

-- the number of an error: uapi asm-generic/errno-base.h and errno.h
abbrev pub number_of : Errno → ℕ
number_of EPERM = 1
number_of ENOENT = 2
number_of ESRCH = 3
number_of EBADF = 9
number_of EAGAIN = 11
number_of ENOMEM = 12
number_of EACCES = 13
number_of EBUSY = 16
number_of EEXIST = 17
number_of ENODEV = 19
number_of ENOTDIR = 20
number_of EINVAL = 22
number_of ENFILE = 23
number_of ENOSPC = 28
number_of EDEADLK = 35
number_of ELOOP = 40
number_of EBADSLT = 57
number_of EOPNOTSUPP = 95
number_of ENOBUFS = 105
number_of ENOKEY = 126
number_of EKEYEXPIRED = 127
number_of EKEYREVOKED = 128

-- its name
abbrev pub name_of : Errno → List ℕ
name_of EPERM = codes "EPERM"
name_of ENOENT = codes "ENOENT"
name_of ESRCH = codes "ESRCH"
name_of EBADF = codes "EBADF"
name_of EAGAIN = codes "EAGAIN"
name_of ENOMEM = codes "ENOMEM"
name_of EACCES = codes "EACCES"
name_of EBUSY = codes "EBUSY"
name_of EEXIST = codes "EEXIST"
name_of ENODEV = codes "ENODEV"
name_of ENOTDIR = codes "ENOTDIR"
name_of EINVAL = codes "EINVAL"
name_of ENFILE = codes "ENFILE"
name_of ENOSPC = codes "ENOSPC"
name_of EDEADLK = codes "EDEADLK"
name_of ELOOP = codes "ELOOP"
name_of EBADSLT = codes "EBADSLT"
name_of EOPNOTSUPP = codes "EOPNOTSUPP"
name_of ENOBUFS = codes "ENOBUFS"
name_of ENOKEY = codes "ENOKEY"
name_of EKEYEXPIRED = codes "EKEYEXPIRED"
name_of EKEYREVOKED = codes "EKEYREVOKED"

-- all errors, by rising number
abbrev pub errnos : List Errno
errnos =
    EPERM ∷ ENOENT ∷ ESRCH ∷ EBADF ∷ EAGAIN ∷ ENOMEM ∷ EACCES ∷ EBUSY ∷ EEXIST ∷ ENODEV ∷ ENOTDIR
    ∷ EINVAL ∷ ENFILE ∷ ENOSPC ∷ EDEADLK ∷ ELOOP ∷ EBADSLT ∷ EOPNOTSUPP ∷ ENOBUFS ∷ ENOKEY
    ∷ EKEYEXPIRED ∷ EKEYREVOKED ∷ []
