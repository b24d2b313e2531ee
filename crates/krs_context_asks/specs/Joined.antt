-- The session keyrings of JOIN.
use Rattle.std.specs.Prelude.{[], ◌==◌, ◌≡◌, codes, false, if◌then◌else◌, length, List, None, Ok, Option, option_map}
use Rattle.std.specs.Prelude.{true, ℕ}
use Rattle.krs_types.specs.Perm.{named_session_mask, session_mask}
use Rattle.krs_types.specs.declared.{ask.Answer.TheVariants.Number, caller.Caller.Caller, kind.Kind.TheVariants.Keyring}
use Rattle.krs_model.specs.{Asks.Joining.joined_to, Making.{with_new, within_serials}, Outcome.Outcome, Table.at}
use Rattle.krs_keys.specs.declared.key.{Content.TheVariants.Links, Key.Key}
use Rattle.krs_model.specs.State as model

-- an empty keyring that JOIN makes
abbrev pub joined_ring : List ℕ → ℕ → Caller → Key
joined_ring desc perm c = record {
  name = record { kind = Keyring; desc = desc };
  uid = c.uid;
  gid = c.gid;
  perm = perm;
  expiry = None;
  revoked = false;
  joined = true;
  closed = false;
  content = Links [];
}

-- `_ses`, or one of this name: profile, masks of new keys
abbrev pub session_key : List ℕ → Caller → Key
session_key name c =
    if length name == 0 then joined_ring (codes "_ses") session_mask c else joined_ring name named_session_mask c

-- a keyring that links nothing
abbrev pub IsEmptyRing : Key → Type 0
IsEmptyRing key = (key.name.kind ≡ Keyring) × (key.content ≡ Links [])

-- the session keyring of a context that is there, if it has one
abbrev pub session_in : model.State → ℕ → Option (Option ℕ)
session_in s number = option_map (λ c. c.session) (at s.contexts number)

-- a new key is the session keyring of a context
abbrev pub joined_anew : model.State → ℕ → model.Key → Outcome
joined_anew s number key =
    within_serials s (Ok (joined_to (with_new s key) number s.next_serial, Number s.next_serial))
