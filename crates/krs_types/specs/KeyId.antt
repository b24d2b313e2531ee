-- What a key id names: keyctl(2), keyrings(7).
use Rattle.std.specs.Prelude.{Err, negsuc, Ok, pos, Result, suc, zero, ℤ}
use Rattle.krs_types.specs.declared.{errno.Errno.{Errno, TheVariants.EINVAL}, key_id.KeyId.KeyId}
use Rattle.krs_types.specs.declared.key_id.KeyId.TheVariants.{Process, Serial, Session, Thread, User, UserSession}

-- a number above 0 is a serial, and -1 to -5 are the special keyrings, in the order of uapi linux/keyctl.h; `negsuc n`
-- is -1 - n: profile, known special ids
abbrev pub key_id_of : ℤ → Result KeyId Errno
key_id_of (pos zero) = Err EINVAL
key_id_of (pos (suc n)) = Ok (Serial (suc n))
key_id_of (negsuc zero) = Ok Thread
key_id_of (negsuc (suc zero)) = Ok Process
key_id_of (negsuc (suc (suc zero))) = Ok Session
key_id_of (negsuc (suc (suc (suc zero)))) = Ok User
key_id_of (negsuc (suc (suc (suc (suc zero))))) = Ok UserSession
key_id_of (negsuc (suc (suc (suc (suc (suc n)))))) = Err EINVAL
