-- Which session a process comes into, as it is computed.
use Rattle.std.specs.Prelude.{◌&&◌, ◌==◌, ◌||◌, Bool, if◌then◌else◌, nat_le, nat_lt, not, ℕ}
use Rattle.krs_admission.specs.declared.admitting.Place.{Place, TheVariants.{Above, Held, Joined, Lost}}
use Rattle.krs_admission.specs.declared.admitting.Place.TheVariants.{Tagged, UserSession}
use Rattle.krs_admission.specs.declared.facts.Arrival.{Arrival}
use Rattle.krs_admission.specs.declared.{facts.{Ids.Ids, Process.Process, Session.Session}, giving.Parent.Parent}

-- stands for no uid; and so many uids there are
abbrev pub no_uid : ℕ
no_uid = 4294967295

-- it is the number of one user: not of all who have none in the user namespace
abbrev pub is_told : Process → ℕ → Bool
is_told p uid = not (uid == no_uid) && (not (uid == p.unknown) || p.mapped == no_uid)

abbrev pub are_all : Ids → ℕ → Bool
are_all i id = i.real == id && (i.effective == id && (i.saved == id && i.files == id))

-- one user alone runs it: no other uid is its own, nor has another user executed it set-uid
abbrev pub is_one : Process → Bool
is_one p =
    are_all p.uids p.uids.real && (is_told p p.uids.real
    && (p.has_auxv && (not p.is_secure || p.starter == p.uids.real)))

-- this user could trace it, as far as is told; a set-uid program that it has executed it can't
abbrev pub is_open : Process → ℕ → Bool
is_open p uid =
    p.owner == p.uids.effective && (p.has_auxv && (not p.is_secure || (is_told p p.starter && not (p.starter == uid))))

-- its user could have traced who began it, and can
abbrev pub is_shared : Session → Bool
is_shared s =
    is_open s.begun s.begun.uids.real && (not s.has_beginner || is_open s.beginner s.begun.uids.real)

abbrev pub is_of : Process → Session → Bool
is_of p s = s.begun.uids.real == p.uids.real

-- it may be in the session, where it is known to have come into it
abbrev pub may_have : Process → Session → Bool
may_have p s = is_one p && (is_of p s && s.is_there)

-- it may come into the session, which its tag or the process above names
abbrev pub may_enter : Process → Session → Bool
may_enter p s = may_have p s && is_shared s

abbrev pub is_tag : ℕ → Bool
is_tag n = nat_le 4611686018427387904 n && nat_lt n 6917529027641081856

-- its limit is the tag of this session
abbrev pub has_tag_of : Arrival → Session → Bool
has_tag_of a s = a.has_limit && (is_tag a.soft && s.tag == a.soft)

-- the session of the nearest process above, where that is its own uid's; else that uid's user-session keyring
unfoldable pub place_above : Arrival → Place
place_above a =
    if a.has_above && is_of a.process a.above then (if may_enter a.process a.above then Above else Lost)
    else if a.has_limit && a.knows_above then UserSession else Lost

-- the session of the tag, where that is its own uid's; one that no session has any more is that of an ended one
unfoldable pub place_tagged : Arrival → Place
place_tagged a =
    if not (a.has_tagged && has_tag_of a a.tagged) then Lost
    else if is_of a.process a.tagged then (if may_enter a.process a.tagged then Tagged else Lost)
    else place_above a

unfoldable pub place_found : Arrival → Place
place_found a =
    if not (is_one a.process) then Lost
    else if a.has_held && is_of a.process a.held then (if may_have a.process a.held then Held else Lost)
    else if a.has_limit && is_tag a.soft then place_tagged a
    else place_above a

-- it is in the session still that it has joined itself as this uid; to revoke that, while this uid counts for access
abbrev pub stays : Process → ℕ → Bool → Bool
stays p uid revokes = p.uids.real == uid || (revokes && p.uids.files == uid)

-- it is in the session that it has joined itself, as whose user it asks
abbrev pub is_in_joined : Arrival → Bool
is_in_joined a =
    a.has_joined && (a.has_held && (a.held.is_there && (a.held.begun.uids.real == a.uid
    && stays a.process a.uid a.revokes)))

unfoldable pub place_of : Arrival → Place
place_of a = if is_in_joined a then Joined else place_found a

-- it would come into the session that it holds by its tag
abbrev pub knows_again : Arrival → Bool
knows_again a = a.has_held && (has_tag_of a a.held && may_enter a.process a.held)

abbrev pub may_be_given : Parent → (uids gids : Ids) → Session → Bool
may_be_given p uids gids s =
    nat_lt 1 p.number && (not (p.number == p.supervisor) && (p.threads == 1 && (p.seccomp == 2
    && (may_have p.process s && (p.process.uids.real == uids.effective && (are_all p.gids gids.effective
    && (not p.has_held || is_of p.process p.held)))))))

abbrev pub asks_as : Ids → Bool → ℕ
asks_as i is_of_user = if is_of_user then i.real else i.files

-- a session that it begins is its alone: its user couldn't trace it, and it gives no name or may be set-uid
abbrev pub begins_alone : Process → (has_name : Bool) → Bool
begins_alone p has_name =
    not (is_told p p.uids.real && is_open p p.uids.real) && (not has_name || (p.is_secure || not p.has_auxv))

-- as C has it
abbrev pub number_of : Place → ℕ
number_of Lost = 0
number_of UserSession = 1
number_of Held = 2
number_of Tagged = 3
number_of Above = 4
number_of Joined = 5
