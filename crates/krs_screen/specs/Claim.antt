-- Whom a HELLO names, and whether its peer may: profile, believed caller.
use Rattle.std.specs.{Prelude.{◌&&◌, ◌*◌, ◌+◌, ◌==◌, ◌||◌, Bool, false, List, not, suc, true, zero, ℕ}, List.list_any}
use Rattle.krs_types.specs.Caller.{no_id}
use Rattle.krs_screen.specs.{Front.{le32, with_le32}, declared.claim.Peer.Peer}

-- the gid is the peer's or one of its groups, and no number that stands for unknown ones
unfoldable pub is_group : Peer → List ℕ → ℕ → Bool
is_group peer groups gid = not (gid == peer.unknown) && (gid == peer.gid || list_any (λ g. g == gid) groups)

-- the first so many numbers at a place are groups of the peer
abbrev pub are_groups : Peer → List ℕ → List ℕ → (at count : ℕ) → Bool
are_groups peer groups bytes at zero = true
are_groups peer groups bytes at (suc k) =
    are_groups peer groups bytes at k && is_group peer groups (le32 bytes (at + 4 * k))

-- a HELLO whose uid stands at a place names the peer: its uid, its gid or groups, and groups of its own
unfoldable pub is_own : Peer → List ℕ → List ℕ → (at count : ℕ) → Bool
is_own peer groups bytes at count =
    le32 bytes at == peer.uid
    && (is_group peer groups (le32 bytes (at + 4)) && are_groups peer groups bytes (at + 12) count)

-- its peer may make it
abbrev pub may_name : Peer → List ℕ → List ℕ → (at count : ℕ) → Bool
may_name peer groups bytes at count = peer.is_trusted || is_own peer groups bytes at count

-- one of the first so many numbers at a place stands for nobody
abbrev pub some_nobody : List ℕ → (at count : ℕ) → Bool
some_nobody bytes at zero = false
some_nobody bytes at (suc k) = some_nobody bytes at k || le32 bytes (at + 4 * k) == no_id

-- a HELLO that names nobody
unfoldable pub is_void : List ℕ → (at count : ℕ) → Bool
is_void bytes at count =
    le32 bytes at == no_id || (le32 bytes (at + 4) == no_id || some_nobody bytes (at + 12) count)

-- a HELLO whose uid stands at a place, made void: its uid is then nobody's
unfoldable pub voided : List ℕ → ℕ → List ℕ
voided bytes at = with_le32 bytes at no_id
