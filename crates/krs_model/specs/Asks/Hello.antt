-- HELLO: a new context of a client, and the keyrings of a uid that has none. user-keyring(7), user-session-keyring(7).
use Rattle.std.specs.Prelude.{[], ◌&&◌, ◌++◌, ◌+◌, ◌==◌, ◌||◌, ◌∷◌, codes, count_by, decimal, Err, false, if◌then◌else◌}
use Rattle.std.specs.{Prelude.{is_none, List, nat_le, nat_lt, None, Ok, Option, Result, Some, ℕ}, Map.values_of}
use Rattle.krs_types.specs.{Caller.caller_check, Perm.uid_mask, Refusing.◌>>=◌, declared.ask.Answer.TheVariants.Number}
use Rattle.krs_types.specs.declared.{caller.Caller.Caller, context.{Context.Context, UidRings.UidRings}}
use Rattle.krs_types.specs.declared.{errno.Errno.{Errno, TheVariants.{EINVAL, ENOSPC}}, kind.Kind.TheVariants.Keyring}
use Rattle.krs_model.specs.{Outcome.Outcome, State.{Key, Links, State}, Table.{at, put, Table}}

-- how many contexts a client has
abbrev pub context_count : ℕ → Table Context → ℕ
context_count client contexts = count_by (λ c. c.client == client) (values_of contexts)

-- a client has at most 64 contexts: profile, contexts per client
abbrev pub has_context_left : State → ℕ → Result (Unit {0}) Errno
has_context_left s client = if nat_le 64 (context_count client s.contexts) then Err EINVAL else Ok tt

-- the context and the two serials that are needed have numbers left: profile, serials run out;
-- profile, context numbers
abbrev pub has_numbers : State → Option UidRings → Result (Unit {0}) Errno
has_numbers s rings =
    if nat_lt 4294967295 s.next_context || (is_none rings && nat_lt 2147483646 s.next_serial) then Err ENOSPC
    else Ok tt

-- a keyring of a uid, by the beginning of its description; its mask is 1f3f0000: profile, masks of new keys
abbrev pub uid_ring : List ℕ → List ℕ → Caller → Key
uid_ring prefix links c = record {
  kind = Keyring;
  desc = prefix ++ decimal c.uid;
  uid = c.uid;
  gid = c.gid;
  perm = uid_mask;
  expiry = None;
  revoked = false;
  joined = false;
  closed = false;
  content = Links links;
}

-- the first context of a uid makes its user keyring, then its user-session keyring, which links it:
-- user-keyring(7), user-session-keyring(7)
abbrev pub with_uid : State → Caller → Option UidRings → State
with_uid s c (Some rings) = s
with_uid s c None = record s {
  keys = put (put s.keys s.next_serial (uid_ring (codes "_uid.") [] c)) (s.next_serial + 1)
      (uid_ring (codes "_uid_ses.") (s.next_serial ∷ []) c);
  uids = put s.uids c.uid (record { user = Some s.next_serial; session = Some (s.next_serial + 1) });
  next_serial = s.next_serial + 2;
}

-- a context's first session keyring is its uid's user-session keyring: profile, first session keyring
abbrev pub first_session : ℕ → Option UidRings → Option ℕ
first_session next None = Some (next + 1)
first_session next (Some rings) = rings.session

-- a context in a process of its own
abbrev pub with_context : State → ℕ → Caller → Option ℕ → State
with_context s client c session = record s {
  contexts = put s.contexts s.next_context
      (record { client = client; process = s.next_context; caller = c; thread = None; session = session });
  processes = put s.processes s.next_context None;
  next_context = s.next_context + 1;
}

-- a new context of the caller that a client names, in a process of its own: profile, believed caller
unfoldable pub hello : State → ℕ → Caller → Outcome
hello s client c = do
  known ← caller_check c
  room ← has_context_left s client
  left ← has_numbers s (at s.uids c.uid)
  Ok (
    with_context (with_uid s c (at s.uids c.uid)) client c (first_session s.next_serial (at s.uids c.uid)),
    Number s.next_context,
  )
