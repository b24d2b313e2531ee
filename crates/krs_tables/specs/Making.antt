-- The keys that asks make.
use Rattle.std.specs.Prelude.{[], ◌++◌, decimal, false, if◌then◌else◌, List, None, ℕ, ℤ}
use Rattle.krs_types.specs.{Kind.same_kind, Perm.uid_mask, Refusing.◌>>=◌, declared.caller.Caller.Caller}
use Rattle.krs_types.specs.declared.{kind.Kind.{Kind, TheVariants.Keyring}, name.Name.Name}
use Rattle.krs_model.specs.{Asks.Adding.{added_in, first_perm}, Lookup.context_of, Outcome.Outcome, State.State}
use Rattle.krs_links.specs.Links.{LinkList}
use Rattle.krs_keys.specs.declared.key.{Content.{Content, TheVariants.{Links, Payload}}, Key.Key}

-- a keyring of a uid
abbrev pub named_uid_key : Name → LinkList → Caller → Key
named_uid_key name links c = record {
  name = name;
  uid = c.uid;
  gid = c.gid;
  perm = uid_mask;
  expiry = None;
  revoked = false;
  joined = false;
  closed = false;
  content = Links links;
}

-- `_uid.N` or `_uid_ses.N`, by its beginning
abbrev pub uid_name : List ℕ → ℕ → Name
uid_name prefix uid = record { kind = Keyring; desc = prefix ++ decimal uid }

abbrev pub uid_key : List ℕ → LinkList → Caller → Key
uid_key prefix links c = named_uid_key (uid_name prefix c.uid) links c

-- a keyring is made empty
abbrev pub first_content : Kind → List ℕ → Content
first_content kind payload = if same_kind kind Keyring then Links [] else Payload payload

-- a new key of its maker
abbrev pub maker_key : Name → List ℕ → ℕ → ℕ → Key
maker_key name payload uid gid = record {
  name = name;
  uid = uid;
  gid = gid;
  perm = first_perm name.kind;
  expiry = None;
  revoked = false;
  joined = false;
  closed = false;
  content = first_content name.kind payload;
}

-- a key of this name in a keyring that is there
abbrev pub adding_in : State → ℕ → ℕ → Name → List ℕ → ℤ → Outcome
adding_in s client number name payload ring = do
  c ← context_of s client number
  added_in s c name payload ring
