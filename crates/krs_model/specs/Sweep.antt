-- Which keys stay at the end of an ask: those that an attachment reaches.
-- keyrings(7), "Anchoring keys"; profile, dropped at once.
use Rattle.std.specs.Prelude.{[], ◌++◌, ◌≡◌, Bool, filter, flat_map, is_some, IsSome, List, None, Option}
use Rattle.std.specs.Prelude.{option_to_list, Some, true, ℕ}
use Rattle.krs_types.specs.declared.context.{Context.Context, UidRings.UidRings}
use Rattle.krs_model.specs.{Levels.is_in, Possession.links_of_content, State.{Key, State}, Table.{at, Table}}

-- the thread and session keyrings of contexts: thread-keyring(7), session-keyring(7)
abbrev pub context_roots : Table Context → List ℕ
context_roots es = flat_map (λ e. option_to_list e.1.thread ++ option_to_list e.1.session) es

-- the process keyrings of processes: process-keyring(7)
abbrev pub process_roots : Table (Option ℕ) → List ℕ
process_roots es = flat_map (λ e. option_to_list e.1) es

-- the user and user-session keyrings of uids: user-keyring(7), user-session-keyring(7)
abbrev pub uid_roots : Table UidRings → List ℕ
uid_roots es = flat_map (λ e. option_to_list e.1.user ++ option_to_list e.1.session) es

-- all attachments
abbrev pub roots : State → List ℕ
roots s = context_roots s.contexts ++ (process_roots s.processes ++ uid_roots s.uids)

-- what a key links, where there is one
abbrev pub links_of_key : Option Key → List ℕ
links_of_key None = []
links_of_key (Some key) = links_of_content key.content

-- attached, or linked by a held key: keyrings(7), "Anchoring keys"
pub data IsHeld (keys : Table Key) (attached : List ℕ) : ℕ → Type 0 where
  Attached : (k : ℕ) → is_in k attached ≡ true → IsHeld keys attached k
  Linked : (j k : ℕ) → IsHeld keys attached j → is_in k (links_of_key (at keys j)) ≡ true → IsHeld keys attached k

-- a test of serials that picks just the held ones of the keys that are there
pub record PicksHeld (keys : Table Key) (attached : List ℕ) (kept : ℕ → Bool) : Type 0 where
  pub only : (k : ℕ) → IsSome (at keys k) → kept k ≡ true → IsHeld keys attached k
  pub each : (k : ℕ) → IsHeld keys attached k → IsSome (at keys k) → kept k ≡ true

-- every key is held
abbrev pub AllHeld : State → Type 0
AllHeld s = (k : ℕ) → IsSome (at s.keys k) → IsHeld s.keys (roots s) k

-- the watches at keys that are there
abbrev pub live_watches : Table Key → List ((ℕ × ℕ) × ℕ) → List ((ℕ × ℕ) × ℕ)
live_watches keys watches = filter (λ w. is_some (at keys w.0.0)) watches

-- new is the sweep of old: the held keys stay, and the watches at them. Profile, dropped at once
pub record IsSweep (old new : State) : Type 0 where
  pub kept : ℕ → Bool
  pub picks : PicksHeld old.keys (roots old) kept
  pub keys : new.keys ≡ filter (λ e. kept e.0) old.keys
  pub rest : new ≡ record old { keys = new.keys; watches = live_watches new.keys old.watches }

-- a state that has been swept: every key is held, and every watch is at a key
pub record IsSwept (s : State) : Type 0 where
  pub keys : AllHeld s
  pub watches : live_watches s.keys s.watches ≡ s.watches
