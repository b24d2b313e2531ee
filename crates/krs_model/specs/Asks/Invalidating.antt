-- INVALIDATE: a key goes out of every keyring and every attachment at once. keyctl(2), KEYCTL_INVALIDATE; profile,
-- invalidated at once.
use Rattle.std.specs.Prelude.{◌==◌, if◌then◌else◌, None, Ok, Option, Some, ℕ, ℤ}
use Rattle.krs_types.specs.{Refusing.◌>>=◌, Rights.SEARCH, declared.ask.Answer.TheVariants.Nothing}
use Rattle.krs_types.specs.declared.{context.{Context.Context, UidRings.UidRings}, rights.Want.TheVariants.Granted}
use Rattle.krs_model.specs.Asks.Linked.{without_link}
use Rattle.krs_model.specs.{Lookup.{context_of, look_up}, Outcome.Outcome, State.State, Table.map_values}

-- an attachment, where it is not of that key
abbrev pub detached : ℕ → Option ℕ → Option ℕ
detached serial None = None
detached serial (Some k) = if k == serial then None else Some k

-- a context that does not attach the key
abbrev pub context_without : ℕ → Context → Context
context_without serial c = record c { thread = detached serial c.thread; session = detached serial c.session }

-- the keyrings of a uid without the key
abbrev pub rings_without : ℕ → UidRings → UidRings
rings_without serial rings = record { user = detached serial rings.user; session = detached serial rings.session }

-- no keyring links the key, and nothing attaches it: the sweep takes it, and what it alone held. Profile, invalidated
-- at once
abbrev pub invalidated : State → ℕ → State
invalidated s serial = record s {
  keys = map_values (without_link serial) s.keys;
  contexts = map_values (context_without serial) s.contexts;
  processes = map_values (detached serial) s.processes;
  uids = map_values (rings_without serial) s.uids;
}

-- the end of a key that grants SEARCH: KEYCTL_INVALIDATE
unfoldable pub invalidate : State → ℕ → ℕ → ℤ → Outcome
invalidate s client context id = do
  c ← context_of s client context
  found ← look_up s c id (Granted SEARCH)
  Ok (invalidated s found.0, Nothing)
