-- JOIN: another session keyring. keyctl(2), KEYCTL_JOIN_SESSION_KEYRING; session-keyring(7).
use Rattle.std.specs.Prelude.{◌&&◌, ◌==◌, ◌||◌, Bool, bytes_eq, codes, Err, false, find, if◌then◌else◌, length, List}
use Rattle.std.specs.{Prelude.{nat_lt, None, Ok, Option, Result, Some, true, ℕ}, List.list_any}
use Rattle.krs_types.specs.Kind.{begins_with, same_kind}
use Rattle.krs_types.specs.{Perm.{named_session_mask, session_mask}, Refusing.◌>>=◌, Rights.{has_all, SEARCH}}
use Rattle.krs_types.specs.declared.{ask.Answer.TheVariants.Number, caller.Caller.Caller, context.Context.Context}
use Rattle.krs_types.specs.declared.{errno.Errno.{Errno, TheVariants.{EINVAL, EPERM}}, kind.Kind.TheVariants.Keyring}
use Rattle.krs_model.specs.Access.{is_alive, rights_on}
use Rattle.krs_model.specs.{Lookup.context_of, Making.{own_ring, with_new, within_serials}, Outcome.Outcome}
use Rattle.krs_model.specs.{State.{Key, State}, Table.alter}

-- none, or a description that a keyring may have: keyctl(2), KEYCTL_JOIN_SESSION_KEYRING; profile, limits
abbrev pub session_named : List ℕ → Result (Unit {0}) Errno
session_named name =
    if nat_lt 4095 (length name) || list_any (λ b. b == 0) name then Err EINVAL
    else if begins_with name 46 then Err EPERM
    else Ok tt

-- a keyring of that description which JOIN made, which is alive, and which grants SEARCH without possession: profile,
-- joining by name
abbrev pub is_joinable : ℕ → Caller → List ℕ → Key → Bool
is_joinable clock c name key =
    (same_kind key.kind Keyring && key.joined)
    && (bytes_eq key.desc name && (is_alive clock key && has_all (rights_on key c false) SEARCH))

-- where a name is given, the one of the least serial
abbrev pub joinable : State → Caller → List ℕ → Option (ℕ × Key)
joinable s c name = if length name == 0 then None else find (λ e. is_joinable s.clock c name e.1) s.keys

-- a new session keyring: `_ses` with the mask 3f030000, or of that name with 3f130000: profile, masks of new keys.
-- Either was made by JOIN and may be joined by its name later: profile, anonymous sessions
abbrev pub session_ring : List ℕ → Caller → Key
session_ring name c =
    if length name == 0 then own_ring (codes "_ses") session_mask true c else own_ring name named_session_mask true c

-- the context with this session keyring
abbrev pub session_to : ℕ → Context → Context
session_to ring c = record c { session = Some ring }

-- this one context has another session keyring: profile, session of one context
abbrev pub joined_to : State → ℕ → ℕ → State
joined_to s number ring = record s { contexts = alter s.contexts number (session_to ring) }

-- the keyring that is found, or a new one, is the session keyring of the context
abbrev pub session_joined : State → ℕ → Context → List ℕ → Option (ℕ × Key) → Outcome
session_joined s number c name (Some found) = Ok (joined_to s number found.0, Number found.0)
session_joined s number c name None =
    Ok (joined_to (with_new s (session_ring name c.caller)) number s.next_serial, Number s.next_serial)

-- another session keyring for a context, found by its name or made: KEYCTL_JOIN_SESSION_KEYRING
unfoldable pub join : State → ℕ → ℕ → List ℕ → Outcome
join s client context name = do
  c ← context_of s client context
  fit ← session_named name
  within_serials s (session_joined s context c name (joinable s c.caller name))
