-- What each accepted ask tells of, and which watch it ends: uapi linux/watch_queue.h, enum key_notification_subtype;
-- their order: profile, order of notes; what is not told: profile, quiet unlinks.
use Rattle.std.specs.Prelude.{[], ◌++◌, ◌==◌, ◌∷◌, Bool, Err, false, if◌then◌else◌, is_some, List, None, Ok, Option}
use Rattle.std.specs.Prelude.{Result, Some, true, ℕ, ℤ}
use Rattle.krs_types.specs.Growth.{has_destination}
use Rattle.krs_types.specs.{Refusing.◌>>=◌, declared.ask.Answer.{Answer, TheVariants.{Bytes, Nothing, Number}}}
use Rattle.krs_types.specs.declared.ask.Op.{Op, TheVariants.{Add, Chown, Clear, Invalidate, Link, Move, Request}}
use Rattle.krs_types.specs.declared.ask.Op.TheVariants.{Revoke, Search, SetPerm, SetTimeout, Unlink, Update, Watch}
use Rattle.krs_types.specs.declared.{errno.Errno.Errno, note.KeyEvent.{KeyEvent, TheVariants.Cleared}}
use Rattle.krs_types.specs.declared.note.KeyEvent.TheVariants.{Invalidated, Linked, Revoked, Setattr, Unlinked, Updated}
use Rattle.krs_model.specs.{Asks.Watching.watch_id_of, Lookup.{context_of, serial_of}}
use Rattle.krs_model.specs.{Notes.Posting.{Note, watch_there}, State.{Key, State}, Table.{at, Table}}
use Rattle.krs_model.specs.Queues as queues

-- the serial that an id stands for in a context; a keyring that the ask makes has none yet, and nothing watches it
abbrev pub named : State → ℕ → ℕ → ℤ → Result ℕ Errno
named s client context id = do
  c ← context_of s client context
  serial_of s c id

-- a note of one key: profile, key and aux
abbrev pub about : KeyEvent → Result ℕ Errno → List Note
about event (Err e) = []
about event (Ok key) = record { event = event; key = key; aux = 0 } ∷ []

-- a note of a keyring and the key of its link: profile, key and aux
abbrev pub about_link : KeyEvent → Result ℕ Errno → Result ℕ Errno → List Note
about_link event (Err e) key = []
about_link event (Ok ring) (Err e) = []
about_link event (Ok ring) (Ok key) = record { event = event; key = ring; aux = key } ∷ []

-- the same keyring twice
abbrev pub is_one_ring : Result ℕ Errno → Result ℕ Errno → Bool
is_one_ring from (Err e) = false
is_one_ring (Err e) (Ok into) = false
is_one_ring (Ok from) (Ok into) = from == into

-- a link out of one keyring, and then into another; nothing where both are one: profile, moves in place
abbrev pub about_moved : Result ℕ Errno → Result ℕ Errno → Result ℕ Errno → List Note
about_moved from into key =
    if is_one_ring from into then [] else about_link Unlinked from key ++ about_link Linked into key

-- an added key whose serial was there is the updated match; another one is new, and linked
abbrev pub about_added : Table Key → Result ℕ Errno → Answer → List Note
about_added keys ring Nothing = []
about_added keys ring (Bytes bytes) = []
about_added keys ring (Number serial) =
    if is_some (at keys serial) then about Updated (Ok serial) else about_link Linked ring (Ok serial)

-- what was found is linked in a destination, where one is wanted
abbrev pub about_found : Bool → Result ℕ Errno → Answer → List Note
about_found false ring answer = []
about_found true ring Nothing = []
about_found true ring (Bytes bytes) = []
about_found true ring (Number serial) = about_link Linked ring (Ok serial)

-- what an accepted ask tells of, in order, by the state before it and its answer; never that a key was instantiated:
-- profile, no note of instantiation
abbrev pub notes_of : State → ℕ → ℕ → Op → Answer → List Note
notes_of s client context (Add type_name desc payload ring) answer =
    about_added s.keys (named s client context ring) answer
notes_of s client context (Search head type_name desc dest) answer =
    about_found (has_destination dest) (named s client context dest) answer
notes_of s client context (Request type_name desc dest) answer =
    about_found (has_destination dest) (named s client context dest) answer
notes_of s client context (Invalidate id) answer = about Invalidated (named s client context id)
notes_of s client context (Update id payload) answer = about Updated (named s client context id)
notes_of s client context (Revoke id) answer = about Revoked (named s client context id)
notes_of s client context (Chown id uid gid) answer = about Setattr (named s client context id)
notes_of s client context (SetPerm id mask) answer = about Setattr (named s client context id)
notes_of s client context (SetTimeout id seconds) answer = about Setattr (named s client context id)
notes_of s client context (Link key ring) answer =
    about_link Linked (named s client context ring) (named s client context key)
notes_of s client context (Unlink key ring) answer =
    about_link Unlinked (named s client context ring) (named s client context key)
notes_of s client context (Move key from to flags) answer =
    about_moved (named s client context from) (named s client context to) (named s client context key)
notes_of s client context (Clear id) answer = about Cleared (named s client context id)
notes_of s client context op answer = []

-- the watch that WATCH with -1 ends
abbrev pub ended_where : List queues.Watch → Result ℕ Errno → ℕ → Result (Option ℕ) Errno → List queues.Watch
ended_where watches (Err e) queue asked = []
ended_where watches (Ok key) queue (Err e) = []
ended_where watches (Ok key) queue (Ok (Some id)) = []
ended_where watches (Ok key) queue (Ok None) = watch_there watches key queue

-- the watches that an accepted ask ends though its key and its queue stay
abbrev pub ended_by : State → ℕ → ℕ → Op → List queues.Watch
ended_by s client context (Watch id queue watch) =
    ended_where s.watches (named s client context id) queue (watch_id_of watch)
ended_by s client context op = []
