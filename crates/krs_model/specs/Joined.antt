-- Which keyring JOIN with a name makes a context's session keyring: keyctl(2), KEYCTL_JOIN_SESSION_KEYRING; profile,
-- joining by name.
use Rattle.std.specs.Prelude.{◌≡◌, ◌≤◌, ◌⊎◌, false, List, Some, true, ℕ}
use Rattle.krs_types.specs.{Rights.{has_all, SEARCH}, declared.ask.Answer.{Answer, TheVariants.Number}}
use Rattle.krs_types.specs.declared.{context.Context.Context, kind.Kind.TheVariants.Keyring}
use Rattle.krs_model.specs.Access.{is_alive, rights_on}
use Rattle.krs_model.specs.{Asks.Joining.{session_ring, session_to}, State.{Key, State}, Table.{alter, at, put, Table}}

-- an alive keyring of that description, which JOIN made, and which grants SEARCH by the user, group or other byte
pub record MayBeJoined (s : State) (c : Context) (name : List ℕ) (serial : ℕ) : Type 0 where
  pub key : Key
  pub there : at s.keys serial ≡ Some key
  pub ring : key.kind ≡ Keyring
  pub named : key.desc ≡ name
  pub made : key.joined ≡ true
  pub alive : is_alive s.clock key ≡ true
  pub granted : has_all (rights_on key c.caller false) SEARCH ≡ true

-- it may be joined, no keyring of a lesser serial may, and no key is made
pub record TakesLeast (s : State) (c : Context) (name : List ℕ) (serial : ℕ) (keys : Table Key) : Type 0 where
  pub one : MayBeJoined s c name serial
  pub least : (other : ℕ) → MayBeJoined s c name other → serial ≤ other
  pub same : keys ≡ s.keys

-- no keyring may be joined, and a new one of that name has the next serial
pub record MakesOne (s : State) (c : Context) (name : List ℕ) (serial : ℕ) (keys : Table Key) : Type 0 where
  pub none : (other : ℕ) → MayBeJoined s c name other → ⊥
  pub next : serial ≡ s.next_serial
  pub made : keys ≡ put s.keys s.next_serial (session_ring name c.caller)

-- the session keyring of the context is the one of the least serial that may be joined, else a new one; its serial is
-- the answer
pub record JoinsLeast (s : State) (number : ℕ) (c : Context) (name : List ℕ) (new : State) (answer : Answer) : Type 0
  where
    pub serial : ℕ
    pub gave : answer ≡ Number serial
    pub session : new.contexts ≡ alter s.contexts number (session_to serial)
    pub how : (TakesLeast s c name serial new.keys) ⊎ (MakesOne s c name serial new.keys)
