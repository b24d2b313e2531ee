-- Which key a search finds: keyctl(2), KEYCTL_SEARCH; request_key(2); keyrings(7), "Searching for keys".
use Rattle.std.specs.Prelude.{[], ◌&&◌, ◌∷◌, Bool, Err, false, find, flat_map, if◌then◌else◌, List, nat_lt, None, not}
use Rattle.std.specs.{Prelude.{Ok, Option, Result, Some, suc, ℕ}, List.list_any}
use Rattle.krs_types.specs.{Refusing.or_refuse, Rights.{has_all, SEARCH}, declared.caller.Caller.Caller}
use Rattle.krs_types.specs.declared.{context.Context.Context, errno.Errno.Errno}
use Rattle.krs_types.specs.declared.{errno.Errno.TheVariants.{EACCES, EKEYEXPIRED, EKEYREVOKED, ENOKEY}, name.Name.Name}
use Rattle.krs_model.specs.{Access.{is_alive, is_over, rights_on}, Levels.{levels, search_depth}, Linking.is_named}
use Rattle.krs_model.specs.Possession.{attached_with, links_of_content, possessed, possessed_with, process_ring}
use Rattle.krs_model.specs.{State.{Key, State}, Table.{at, Table}}

-- who searches, and where: the keys and the clock of a store, a caller, and which keys its context possesses
pub record Searcher : Type 0 where
  pub keys : Table Key
  pub clock : ℕ
  pub caller : Caller
  pub possesses : ℕ → Bool

-- a context as one who searches these keys at this time, where its process has this keyring
abbrev pub searcher_with : Table Key → ℕ → Context → Option ℕ → Searcher
searcher_with keys clock c ring = record {
  keys = keys;
  clock = clock;
  caller = c.caller;
  possesses = possessed_with keys clock c ring;
}

-- a context of a store as one who searches: its caller, and what it possesses
abbrev pub searcher_of : State → Context → Searcher
searcher_of s c = record { keys = s.keys; clock = s.clock; caller = c.caller; possesses = possessed s c }

-- the key grants SEARCH; the possessor's byte counts where it is possessed: keyrings(7), "Access rights"
abbrev pub grants_search : Searcher → ℕ → Key → Bool
grants_search by serial key = has_all (rights_on key by.caller (by.possesses serial)) SEARCH

-- the key may be entered, if it is a keyring, and may be found: it is alive, and grants SEARCH
abbrev pub is_open : Searcher → ℕ → Key → Bool
is_open by serial key = is_alive by.clock key && grants_search by serial key

-- the links of a key that is there and may be entered
abbrev pub open_links : Searcher → ℕ → Option Key → List ℕ
open_links by serial None = []
open_links by serial (Some key) = if is_open by serial key then links_of_content key.content else []

-- the links of a keyring that is entered: request_key(2); profile, expired keyrings are not followed
abbrev pub entered : Searcher → ℕ → List ℕ
entered by serial = open_links by serial (at by.keys serial)

-- the keys that a search comes to, level by level, with their repeats: the head, and what is linked along at most
-- `search_depth` entered keyrings. Profile, search depth; profile, head may be the answer
unfoldable pub searched : Searcher → ℕ → List ℕ
searched by head = levels (entered by) (head ∷ []) (suc search_depth)

-- a key of that name, its type and its description, of which this holds
abbrev pub is_match : Name → (Key → Bool) → Option Key → Bool
is_match name holds None = false
is_match name holds (Some key) = is_named name (Some key) && holds key

-- a match that a search may answer with: it is alive, and grants SEARCH. Profile, order of a search
abbrev pub is_answer : Searcher → Name → ℕ → Bool
is_answer by name serial = is_match name (is_open by serial) (at by.keys serial)

-- a match that was revoked
abbrev pub is_revoked : Searcher → Name → ℕ → Bool
is_revoked by name serial = is_match name (λ key. key.revoked) (at by.keys serial)

-- a match whose time is over
abbrev pub is_expired : Searcher → Name → ℕ → Bool
is_expired by name serial = is_match name (λ key. is_over by.clock key.expiry) (at by.keys serial)

-- a match that does not grant SEARCH
abbrev pub is_denied : Searcher → Name → ℕ → Bool
is_denied by name serial = is_match name (λ key. not (grants_search by serial key)) (at by.keys serial)

-- the refusal of a search, by whether a match was revoked, expired or lacked SEARCH: profile, fault of a search
abbrev pub fault : Bool → Bool → Bool → Errno
fault revoked expired denied =
    if revoked then EKEYREVOKED else if expired then EKEYEXPIRED else if denied then EACCES else ENOKEY

-- the fault of a search: a match was revoked, else one was expired, else one lacked SEARCH, else there was none:
-- request_key(2), "ERRORS"; profile, fault of a search
abbrev pub fault_among : Searcher → Name → List ℕ → Errno
fault_among by name serials =
    fault (list_any (is_revoked by name) serials) (list_any (is_expired by name) serials)
    (list_any (is_denied by name) serials)

-- the first of these keys that is an answer, else their fault: profile, order of a search
abbrev pub sought : Searcher → Name → List ℕ → Result ℕ Errno
sought by name serials = or_refuse (fault_among by name serials) (find (is_answer by name) serials)

-- what a search from this head comes to: keyctl(2), KEYCTL_SEARCH
abbrev pub found_by : Searcher → ℕ → Name → Result ℕ Errno
found_by by head name = sought by name (searched by head)

-- what a search of such a context from this head comes to: keyctl(2), KEYCTL_SEARCH
abbrev pub found_with : Table Key → ℕ → Context → Option ℕ → ℕ → Name → Result ℕ Errno
found_with keys clock c ring head name = found_by (searcher_with keys clock c ring) head name

-- what a search of a context of a store comes to: keyctl(2), KEYCTL_SEARCH
unfoldable pub found : State → Context → ℕ → Name → Result ℕ Errno
found s c head name = found_with s.keys s.clock c (process_ring s c.process) head name

-- what searches from these heads come to, one after the other
abbrev pub requested_by : Searcher → List ℕ → Name → Result ℕ Errno
requested_by by heads name = sought by name (flat_map (searched by) heads)

-- what a request of a context whose process has this keyring comes to, which searches the attached thread, process
-- and session keyring: request_key(2); profile, three keyrings of a request
abbrev pub requested_with : Table Key → ℕ → Context → Option ℕ → Name → Result ℕ Errno
requested_with keys clock c ring name = requested_by (searcher_with keys clock c ring) (attached_with c ring) name

-- what a request of a context of a store comes to: request_key(2)
unfoldable pub requested : State → Context → Name → Result ℕ Errno
requested s c name = requested_with s.keys s.clock c (process_ring s c.process) name

-- how much a fault of a search weighs
abbrev pub weight : Errno → ℕ
weight EKEYREVOKED = 3
weight EKEYEXPIRED = 2
weight EACCES = 1
weight e = 0

-- of two faults the one that weighs more
abbrev pub weightier : Errno → Errno → Errno
weightier e f = if nat_lt (weight e) (weight f) then f else e

-- of two searches one after the other, the first answer, else the weightier fault
abbrev pub or_next : Result ℕ Errno → Result ℕ Errno → Result ℕ Errno
or_next (Ok serial) next = Ok serial
or_next (Err e) (Ok serial) = Ok serial
or_next (Err e) (Err f) = Err (weightier e f)
