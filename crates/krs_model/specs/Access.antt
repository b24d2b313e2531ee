-- What a caller may do with a key: keyrings(7), "Possession" and "Access rights".
use Rattle.std.specs.Prelude.{◌&&◌, Bool, false, nat_le, None, not, Option, Some, ℕ}
use Rattle.krs_types.specs.{Perm.granted, declared.caller.Caller.Caller}
use Rattle.krs_model.specs.State.{Key}

-- the time is over: from its second on. Profile, at the moment itself
abbrev pub is_over : ℕ → Option ℕ → Bool
is_over clock None = false
is_over clock (Some end) = nat_le end clock

-- neither revoked nor expired: keyctl(2), "ERRORS", EKEYREVOKED and EKEYEXPIRED
abbrev pub is_alive : ℕ → Key → Bool
is_alive clock key = not key.revoked && not (is_over clock key.expiry)

-- the rights on a key, which is possessed or not
abbrev pub rights_on : Key → Caller → Bool → ℕ
rights_on key caller possessed = granted key.perm key.uid key.gid caller possessed
