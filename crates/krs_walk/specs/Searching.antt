-- What the search goes by, over the keys of the definitions.
use Rattle.std.specs.Prelude.{[], ◌-◌, ◌∷◌, ◌≡◌, ◌≤◌, Bool, Err, filter, flat_map, IfSome, if◌then◌else◌, length, List}
use Rattle.std.specs.Prelude.{None, Ok, Option, option_to_list, Result, Some, suc, take, ℕ}
use Rattle.krs_types.specs.declared.{caller.Caller.Caller, errno.Errno.Errno, name.Name.Name}
use Rattle.krs_model.specs.{Levels.{is_in, level, levels, search_depth}, Possession.{attached_with, is_followed}}
use Rattle.krs_model.specs.Search.{entered, or_next, searched, Searcher, searcher_with, sought}
use Rattle.krs_model.specs.{Reach.is_ring, Table.at}
use Rattle.krs_links.specs.Links.{serial_named}
use Rattle.krs_keys.specs.{Keys.{name_at, named_links_of_content, seen, shown}, declared.key.Key.Key}
use Rattle.krs_walk.specs.{Lists.join, Walks.{followed_rings, is_linked}}
use Rattle.krs_walk.specs.declared.{held.HeldRings.HeldRings, possessed.Possessed.Possessed, search.Search.Search}

-- the context that searches
abbrev pub searcher_for : Search → Searcher
searcher_for s = searcher_with (shown s.keys.now.keys) s.clock s.context.now s.process_ring

-- what these keys come to in a search
abbrev pub sought_in : Search → List ℕ → Result ℕ Errno
sought_in s serials = sought (searcher_for s) s.name.now serials

-- what searches from these heads come to
abbrev pub searched_from : Search → List ℕ → List ℕ
searched_from s heads = flat_map (searched (searcher_for s)) heads

-- what they come to behind others, which have this fault
abbrev pub sought_behind : Search → Errno → List ℕ → Result ℕ Errno
sought_behind s e serials = or_next (Err e) (sought_in s serials)

-- the links of a keyring that is entered, and of some
abbrev pub entered_links : Search → ℕ → List ℕ
entered_links s ring = entered (searcher_for s) ring

abbrev pub entered_links_of : Search → List ℕ → List ℕ
entered_links_of s rings = flat_map (entered (searcher_for s)) rings

-- those to keyrings
abbrev pub entered_rings : Searcher → ℕ → List ℕ
entered_rings by serial = filter (λ k. is_ring (at by.keys k)) (entered by serial)

abbrev pub rings_by : Search → ℕ → List ℕ
rings_by s ring = entered_rings (searcher_for s) ring

abbrev pub rings_from : Search → List ℕ → List ℕ
rings_from s rings = flat_map (entered_rings (searcher_for s)) rings

-- the links of the keyrings at a level below a keyring
abbrev pub links_at : Searcher → ℕ → ℕ → List ℕ
links_at by depth ring = flat_map (entered by) (level (entered_rings by) (ring ∷ []) depth)

abbrev pub links_below : Search → ℕ → ℕ → List ℕ
links_below s depth ring = links_at (searcher_for s) depth ring

-- whether the context possesses a key
abbrev pub is_held : Search → ℕ → Bool
is_held s serial = (searcher_for s).possesses serial

-- the keyrings of the first levels of possession
abbrev pub held_to : Search → ℕ → List ℕ
held_to s n =
    levels (followed_rings (shown s.keys.now.keys) s.clock s.context.now.caller)
    (attached_with s.context.now s.process_ring) n

-- as many levels were walked as it says, the last of them from `start` on
pub record AreHeld (s : Search) (h : HeldRings) : Type 0 where
  pub bound : h.levels ≤ suc search_depth
  pub within : h.start ≤ length h.seen
  pub walked : h.seen ≡ join [] (held_to s h.levels)
  pub before : take h.start h.seen ≡ join [] (held_to s (h.levels - 1))

-- before this place are the keyrings whose links are possessed
pub record AreFirst (s : Search) (place : ℕ) (rings : List ℕ) : Type 0 where
  pub within : place ≤ length rings
  pub whole : take place rings ≡ join [] (held_to s search_depth)

-- the key of a name that a key links, where its possessor follows that
abbrev pub match_followed : ℕ → Caller → Name → Option Key → Option ℕ
match_followed clock caller name None = None
match_followed clock caller name (Some key) =
    if is_followed clock caller (seen key) then serial_named (named_links_of_content key.content) name else None

-- the one of the search's name that a keyring links so
abbrev pub match_by : Search → ℕ → Option ℕ
match_by s ring = match_followed s.clock s.context.now.caller s.name.now (at s.keys.now.keys ring)

abbrev pub matches_by : Search → ℕ → List ℕ
matches_by s ring = option_to_list (match_by s ring)

-- of the keys of the name these are linked by followed keyrings
abbrev pub AreMatches : Search → List ℕ → Type 0
AreMatches s found = (serial : ℕ) → name_at s.keys.now.keys serial ≡ Some s.name.now →
    is_in serial found ≡ is_linked (shown s.keys.now.keys) s.clock s.context.now s.process_ring serial

-- the keyrings that are possessed as far as they were walked, and once that was asked, the keys of the name
pub record ArePossessed (s : Search) (p : Possessed) : Type 0 where
  pub rings : AreHeld s p.rings
  pub matches : IfSome p.matches (AreMatches s)

-- where there is no answer these have joined the list of a walk
abbrev pub Joins : Result ℕ Errno → List ℕ → List ℕ → List ℕ → Type 0
Joins (Ok serial) all serials next = Unit {0}
Joins (Err e) all serials next = next ≡ join all serials
