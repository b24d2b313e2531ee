-- Which keys a context possesses: keyrings(7), "Possession".
use Rattle.std.specs.Prelude.{[], ◌&&◌, ◌++◌, Bool, if◌then◌else◌, List, None, Option, option_to_list, Some, suc, true}
use Rattle.std.specs.Prelude.{unwrap_or, ℕ}
use Rattle.krs_types.specs.{Rights.{has_all, SEARCH}, declared.{caller.Caller.Caller, context.Context.Context}}
use Rattle.krs_model.specs.{Access.{is_alive, rights_on}, Levels.{is_in, levels, search_depth}}
use Rattle.krs_model.specs.{State.{Content, Key, Links, Payload, State}, Table.{at, Table}}

-- the process keyring of a process
abbrev pub process_ring : State → ℕ → Option ℕ
process_ring s process = unwrap_or (at s.processes process) None

-- the thread, process and session keyring of a context whose process has this keyring, where there are any:
-- keyrings(7), "Possession", (2)
abbrev pub attached_with : Context → Option ℕ → List ℕ
attached_with c ring = option_to_list c.thread ++ (option_to_list ring ++ option_to_list c.session)

-- the thread, process and session keyring of a context, where it has them
abbrev pub attached : State → Context → List ℕ
attached s c = attached_with c (process_ring s c.process)

-- the serials that a key links
abbrev pub links_of_content : Content → List ℕ
links_of_content (Payload bytes) = []
links_of_content (Links serials) = serials

-- a key whose links its possessor follows: it is alive, and grants SEARCH with the possessor's byte counted. Profile,
-- possessor byte; profile, expired keyrings are not followed
abbrev pub is_followed : ℕ → Caller → Key → Bool
is_followed clock caller key = is_alive clock key && has_all (rights_on key caller true) SEARCH

-- the links that the possessor of a keyring follows: keyrings(7), "Possession", (3) and (4)
abbrev pub followed : ℕ → Caller → Option Key → List ℕ
followed clock caller None = []
followed clock caller (Some key) = if is_followed clock caller key then links_of_content key.content else []

-- the links that are followed from the key at a serial
abbrev pub followed_at : Table Key → ℕ → Caller → ℕ → List ℕ
followed_at keys clock caller serial = followed clock caller (at keys serial)

-- the links that a context follows from the key at a serial
abbrev pub followed_in : State → Context → ℕ → List ℕ
followed_in s c serial = followed_at s.keys s.clock c.caller serial

-- possessed among these keys, at this time, by a context whose process has this keyring: attached, or linked along at
-- most `search_depth` followed keyrings, whatever rights the key itself grants. Profile, search depth; profile,
-- possession without rights
abbrev pub possessed_with : Table Key → ℕ → Context → Option ℕ → ℕ → Bool
possessed_with keys clock c ring serial =
    is_in serial (levels (followed_at keys clock c.caller) (attached_with c ring) (suc search_depth))

-- possessed by a context of a store: keyrings(7), "Possession"
unfoldable pub possessed : State → Context → ℕ → Bool
possessed s c serial = possessed_with s.keys s.clock c (process_ring s c.process) serial
