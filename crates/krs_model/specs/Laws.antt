-- What the laws say of the definitions, in a form of this project's own: keyrings(7), "Possession", "Access rights"
-- and "Searching for keys"; request_key(2); keyctl(2), KEYCTL_LINK, "EDEADLK"; profile, whole records.
use Rattle.std.specs.Prelude.{[], ◌<◌, ◌∷◌, ◌≡◌, ◌≢◌, ◌≤◌, ◌⊎◌, Bool, Err, false, List, Ok, Result, slice_get, Some}
use Rattle.std.specs.Prelude.{true, ℕ}
use Rattle.krs_types.specs.{Caller.is_of_group, Perm.{group_byte, other_byte, user_byte}, declared.ask.Answer.Answer}
use Rattle.krs_types.specs.declared.{ask.Answer.TheVariants.Bytes, caller.Caller.Caller, context.Context.Context}
use Rattle.krs_types.specs.declared.errno.Errno.{Errno, TheVariants.{EACCES, EKEYEXPIRED, EKEYREVOKED, ENOKEY}}
use Rattle.krs_types.specs.declared.{name.Name.Name, note.Record.Record}
use Rattle.krs_model.specs.{Levels.{is_in, level, search_depth}, Notes.{Bytes.bytes_of_all, Front.IsLongestFront}}
use Rattle.krs_model.specs.{Possession.{attached, followed_in, possessed}, Queues.queue_of, Reach.Reaches}
use Rattle.krs_model.specs.Search.{entered, is_answer, is_denied, is_expired, is_revoked, or_next, Searcher}
use Rattle.krs_model.specs.{State.{Queue, State}, Table.at}

-- it is attached, or linked by a possessed keyring that is alive and may be searched
abbrev pub ComesByLinks : State → Context → ℕ → Type 0
ComesByLinks s c k =
    (is_in k (attached s c) ≡ true) ⊎ ((j : ℕ) × (possessed s c j ≡ true) × (is_in k (followed_in s c j) ≡ true))

-- it is in one of the levels 0 to `search_depth` of what is attached and of the links that are followed: profile,
-- search depth
abbrev pub IsWithinReach : State → Context → ℕ → Type 0
IsWithinReach s c k = (n : ℕ) × (n ≤ search_depth) × (is_in k (level (followed_in s c) (attached s c) n) ≡ true)

-- the user's byte for the owner, else the group's for one of its group, else the others'
pub record IsOneByte (mask uid gid : ℕ) (caller : Caller) (rights : ℕ) : Type 0 where
  pub user : uid ≡ caller.uid → rights ≡ user_byte mask
  pub group : uid ≢ caller.uid → is_of_group caller gid ≡ true → rights ≡ group_byte mask
  pub other : uid ≢ caller.uid → is_of_group caller gid ≡ false → rights ≡ other_byte mask

-- a link from the keyring to the key would close a cycle: they are one, or the keyring is reached from the key
abbrev pub ClosesCycle : (ℕ → List ℕ) → ℕ → ℕ → Type 0
ClosesCycle links key ring = (key ≡ ring) ⊎ Reaches links key ring

-- at this place of this level of a search stands the key
abbrev pub StandsAt : Searcher → ℕ → ℕ → ℕ → ℕ → Type 0
StandsAt by head depth place serial = slice_get (level (entered by) (head ∷ []) depth) place ≡ Some serial

-- of a lesser level, or earlier in the same
abbrev pub IsBefore : ℕ → ℕ → ℕ → ℕ → Type 0
IsBefore n i depth place = (n < depth) ⊎ ((n ≡ depth) × (i < place))

-- an answer of the levels 0 to `search_depth`, and what stands before it is none
pub record IsFirstAnswer (by : Searcher) (head : ℕ) (name : Name) (serial : ℕ) : Type 0 where
  pub answer : is_answer by name serial ≡ true
  pub depth : ℕ
  pub place : ℕ
  pub bound : depth ≤ search_depth
  pub stands : StandsAt by head depth place serial
  pub first : (n i other : ℕ) → IsBefore n i depth place → StandsAt by head n i other → is_answer by name other ≡ false

-- nothing in the levels 0 to `search_depth` is an answer
abbrev pub HasNoAnswer : Searcher → ℕ → Name → Type 0
HasNoAnswer by head name = (n i other : ℕ) → n ≤ search_depth → StandsAt by head n i other
    → is_answer by name other ≡ false

-- some key of the levels 0 to `search_depth` meets this test
abbrev pub IsMet : Searcher → ℕ → (ℕ → Bool) → Type 0
IsMet by head test =
    (depth : ℕ) × (place : ℕ) × (serial : ℕ) × (depth ≤ search_depth) × StandsAt by head depth place serial
    × (test serial ≡ true)

-- of the faults that the matches of the levels 0 to `search_depth` call for, the first: one was revoked, one has
-- expired, one lacks SEARCH; or there is none. Profile, fault of a search
pub record IsFault (by : Searcher) (head : ℕ) (name : Name) (error : Errno) : Type 0 where
  pub revoked : IsMet by head (is_revoked by name) → error ≡ EKEYREVOKED
  pub expired : ¬ IsMet by head (is_revoked by name) → IsMet by head (is_expired by name) → error ≡ EKEYEXPIRED
  pub denied : ¬ IsMet by head (is_revoked by name) → ¬ IsMet by head (is_expired by name)
      → IsMet by head (is_denied by name) → error ≡ EACCES
  pub none : ¬ IsMet by head (is_revoked by name) → ¬ IsMet by head (is_expired by name)
      → ¬ IsMet by head (is_denied by name) → error ≡ ENOKEY

-- the searches from these heads, one after the other
abbrev pub in_turn : (ℕ → Result ℕ Errno) → List ℕ → Result ℕ Errno
in_turn search [] = Err ENOKEY
in_turn search (head ∷ heads) = or_next (search head) (in_turn search heads)

-- an accepted READ_QUEUE of the client's queue gives the longest front of what waits that fits the room, which has
-- some record; that front is taken out, and nothing else changes
pub record ReadsFront (s : State) (client number room : ℕ) (new : State) (answer : Answer) : Type 0 where
  pub queue : Queue
  pub own : queue_of s.queues client number ≡ Ok queue
  pub taken : List Record
  pub left : List Record
  pub longest : IsLongestFront room queue.waiting taken left
  pub some : taken ≢ []
  pub gave : answer ≡ Bytes (bytes_of_all taken)
  pub leaves : at new.queues number ≡ Some (record queue { waiting = left })
  pub others : (n : ℕ) → n ≢ number → at new.queues n ≡ at s.queues n
  pub rest : new ≡ record s { queues = new.queues }
