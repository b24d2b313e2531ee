-- A key that is looked for: keyrings(7), "Possession".
use Rattle.std.specs.{Prelude.{Bool, List, ℕ}, List.list_any}
use Rattle.krs_model.specs.Possession.{attached_with, possessed_with}
use Rattle.krs_keys.specs.Keys.{shown}
use Rattle.krs_walk.specs.Walks.{followed_rings, follows_link_to, HangsBelow, is_linked, is_linked_within}
use Rattle.krs_walk.specs.declared.possession.Sought.{Sought}

-- the attached keyrings
abbrev pub heads : Sought → List ℕ
heads s = attached_with s.context.now s.process_ring

-- the links to keyrings among those that the possessor of a keyring follows
abbrev pub nested : Sought → ℕ → List ℕ
nested s = followed_rings (shown s.keys.now.keys) s.clock s.context.now.caller

-- a keyring whose possessor follows a link to the key
abbrev pub links_it : Sought → ℕ → Bool
links_it s = follows_link_to (shown s.keys.now.keys) s.clock s.context.now.caller s.serial

-- one of the first levels of followed keyrings from this one links it
abbrev pub links_within : Sought → ℕ → ℕ → Bool
links_within s = is_linked_within (shown s.keys.now.keys) s.clock s.context.now.caller s.serial

-- one of the first levels from one of these does
abbrev pub one_links : Sought → ℕ → List ℕ → Bool
one_links s depth rings = list_any (links_within s depth) rings

-- what links it below a keyring does so below one of these, above which there are so many levels more
abbrev pub Hangs : Sought → ℕ → ℕ → List ℕ → Type 0
Hangs s = HangsBelow (shown s.keys.now.keys) s.clock s.context.now.caller s.serial

-- a followed keyring of all levels from the attached ones links it
abbrev pub is_linked_anywhere : Sought → Bool
is_linked_anywhere s = is_linked (shown s.keys.now.keys) s.clock s.context.now s.process_ring s.serial

-- its context possesses it
abbrev pub is_possessed : Sought → Bool
is_possessed s = possessed_with (shown s.keys.now.keys) s.clock s.context.now s.process_ring s.serial
