-- The commands of a client, a row each: keyretain(1), "Commands".
use Rattle.std.specs.Prelude.{[], ◌++◌, ◌||◌, ◌∷◌, ◌≡◌, Bool, bytes_eq, codes, false, find, if◌then◌else◌, List, map}
use Rattle.std.specs.Prelude.{None, Option, pos, Some, true, ℕ, ℤ}
use Rattle.krs_types.specs.{Caller.unchanged, declared.ask.Op.Op}
use Rattle.krs_words.specs.Number.{data_of, hexadecimal_of, key_of, u32_of, u32s_of, u64_of, watch_id_of}
use Rattle.krs_words.specs.Parsed.{◌>>=◌}
use Rattle.krs_commands.specs.{Entry.entries_of, declared.command.Command.Command}
use Rattle.krs_commands.specs.declared.command.Command.TheVariants as command
use Rattle.krs_types.specs.declared.ask.Op.TheVariants as op

-- `add` and `update` have a payload among their words
abbrev pub has_payload : List ℕ → Bool
has_payload first = bytes_eq first (codes "add") || bytes_eq first (codes "update")

-- what one word says, read so
abbrev pub one_of : {A : Type 0} → (List ℕ → Option A) → List (List ℕ) → Option A
one_of reads (word ∷ []) = reads word
one_of reads _ = None

-- what two words say
abbrev pub two_of : {A B : Type 0} → (List ℕ → Option A) → (List ℕ → Option B) → List (List ℕ) → Option (A × B)
two_of reads follows (word ∷ (other ∷ [])) = do
  a ← reads word
  b ← follows other
  Some (a, b)
two_of reads follows _ = None

-- `hello UID GID [GROUP ..]`
abbrev pub hello_of : List (List ℕ) → Option Command
hello_of (uid ∷ (gid ∷ groups)) = do
  u ← u32_of uid
  g ← u32_of gid
  gs ← u32s_of groups
  Some (command.Ask (op.Hello (record { uid = u; gid = g; groups = gs })))
hello_of _ = None

-- `context N`
abbrev pub context_of : List (List ℕ) → Option Command
context_of words = one_of u32_of words >>= (λ n. Some (command.Context n))

-- `moment N`
abbrev pub moment_of : List (List ℕ) → Option Command
moment_of words = one_of u64_of words >>= (λ n. Some (command.Moment n))

-- `thread`, `fork`, `exec`, `exit`, `leave`: an ask, without words
abbrev pub alone_of : Op → List (List ℕ) → Option Command
alone_of asked [] = Some (command.Ask asked)
alone_of asked _ = None

-- `add TYPE DESC DATA RING`
abbrev pub add_of : List (List ℕ) → Option Command
add_of (type_name ∷ (desc ∷ (payload ∷ (ring ∷ [])))) = do
  bytes ← data_of payload
  id ← key_of ring
  Some (command.Ask (op.Add type_name desc bytes id))
add_of _ = None

-- `newring DESC RING`: a keyring is made without bytes
abbrev pub newring_of : List (List ℕ) → Option Command
newring_of (desc ∷ (ring ∷ [])) = do
  id ← key_of ring
  Some (command.Ask (op.Add (codes "keyring") desc [] id))
newring_of _ = None

-- whether a keyring is made where it is wanted: the word `create`, or no word
abbrev pub create_of : List (List ℕ) → Option Bool
create_of [] = Some false
create_of (word ∷ []) = if bytes_eq word (codes "create") then Some true else None
create_of _ = None

-- `id KEY [create]`
abbrev pub id_of : List (List ℕ) → Option Command
id_of (key ∷ words) = do
  id ← key_of key
  create ← create_of words
  Some (command.Ask (op.GetId id create))
id_of _ = None

-- `join [NAME]`: no bytes are no name
abbrev pub join_of : List (List ℕ) → Option Command
join_of [] = Some (command.Ask (op.Join []))
join_of (name ∷ []) = Some (command.Ask (op.Join name))
join_of _ = None

-- `update KEY DATA`
abbrev pub update_of : List (List ℕ) → Option Command
update_of (key ∷ (payload ∷ [])) = do
  bytes ← data_of payload
  id ← key_of key
  Some (command.Ask (op.Update id bytes))
update_of _ = None

-- `print KEY`
abbrev pub print_of : List (List ℕ) → Option Command
print_of words = one_of key_of words >>= (λ id. Some (command.Ask (op.Read id)))

-- `rlist KEY`
abbrev pub rlist_of : List (List ℕ) → Option Command
rlist_of words = one_of key_of words >>= (λ id. Some (command.Rlist id))

-- `rdescribe KEY`
abbrev pub rdescribe_of : List (List ℕ) → Option Command
rdescribe_of words = one_of key_of words >>= (λ id. Some (command.Ask (op.Describe id)))

-- `revoke KEY`
abbrev pub revoke_of : List (List ℕ) → Option Command
revoke_of words = one_of key_of words >>= (λ id. Some (command.Ask (op.Revoke id)))

-- `invalidate KEY`
abbrev pub invalidate_of : List (List ℕ) → Option Command
invalidate_of words = one_of key_of words >>= (λ id. Some (command.Ask (op.Invalidate id)))

-- `clear RING`
abbrev pub clear_of : List (List ℕ) → Option Command
clear_of words = one_of key_of words >>= (λ id. Some (command.Ask (op.Clear id)))

-- `chown KEY UID`
abbrev pub chown_of : List (List ℕ) → Option Command
chown_of words = two_of key_of u32_of words >>= (λ t. Some (command.Ask (op.Chown t.0 t.1 unchanged)))

-- `chgrp KEY GID`
abbrev pub chgrp_of : List (List ℕ) → Option Command
chgrp_of words = two_of key_of u32_of words >>= (λ t. Some (command.Ask (op.Chown t.0 unchanged t.1)))

-- `setperm KEY MASK`
abbrev pub setperm_of : List (List ℕ) → Option Command
setperm_of (key ∷ (mask ∷ [])) = do
  id ← key_of key
  m ← hexadecimal_of mask
  Some (command.Ask (op.SetPerm id m))
setperm_of _ = None

-- `timeout KEY SECONDS`
abbrev pub timeout_of : List (List ℕ) → Option Command
timeout_of words = two_of key_of u32_of words >>= (λ t. Some (command.Ask (op.SetTimeout t.0 t.1)))

-- `link KEY RING`
abbrev pub link_of : List (List ℕ) → Option Command
link_of words = two_of key_of key_of words >>= (λ t. Some (command.Ask (op.Link t.0 t.1)))

-- `unlink KEY RING`
abbrev pub unlink_of : List (List ℕ) → Option Command
unlink_of words = two_of key_of key_of words >>= (λ t. Some (command.Ask (op.Unlink t.0 t.1)))

-- the flags of a move: the word `excl`, or no word
abbrev pub flags_of : List (List ℕ) → Option ℕ
flags_of [] = Some 0
flags_of (word ∷ []) = if bytes_eq word (codes "excl") then Some 1 else None
flags_of _ = None

-- `move KEY FROM TO [excl]`
abbrev pub move_of : List (List ℕ) → Option Command
move_of (key ∷ (first ∷ (second ∷ words))) = do
  id ← key_of key
  from ← key_of first
  into ← key_of second
  flags ← flags_of words
  Some (command.Ask (op.Move id from into flags))
move_of _ = None

-- `restrict RING`: without a type
abbrev pub restrict_of : List (List ℕ) → Option Command
restrict_of words = one_of key_of words >>= (λ id. Some (command.Ask (op.RestrictKeyring id [])))

-- a destination: the keyring of the last word, or 0, for none, where that word is left out
abbrev pub dest_of : List (List ℕ) → Option ℤ
dest_of [] = Some (pos 0)
dest_of (ring ∷ []) = key_of ring
dest_of _ = None

-- `search RING TYPE DESC [RING]`
abbrev pub search_of : List (List ℕ) → Option Command
search_of (ring ∷ (type_name ∷ (desc ∷ words))) = do
  head ← key_of ring
  dest ← dest_of words
  Some (command.Ask (op.Search head type_name desc dest))
search_of _ = None

-- `request TYPE DESC [RING]`
abbrev pub request_of : List (List ℕ) → Option Command
request_of (type_name ∷ (desc ∷ words)) = do
  dest ← dest_of words
  Some (command.Ask (op.Request type_name desc dest))
request_of _ = None

-- `open CAPACITY`
abbrev pub open_of : List (List ℕ) → Option Command
open_of words = one_of u32_of words >>= (λ capacity. Some (command.Ask (op.OpenQueue capacity)))

-- `closeq QUEUE`
abbrev pub closeq_of : List (List ℕ) → Option Command
closeq_of words = one_of u32_of words >>= (λ queue. Some (command.Ask (op.CloseQueue queue)))

-- `watch KEY QUEUE ID`
abbrev pub watch_of : List (List ℕ) → Option Command
watch_of (key ∷ (number ∷ (watch ∷ []))) = do
  id ← key_of key
  queue ← u32_of number
  w ← watch_id_of watch
  Some (command.Ask (op.Watch id queue w))
watch_of _ = None

-- `filter QUEUE ENTRY ..`: one entry or more
abbrev pub filter_of : List (List ℕ) → Option Command
filter_of (number ∷ (first ∷ others)) = do
  queue ← u32_of number
  entries ← entries_of (first ∷ others)
  Some (command.Ask (op.SetFilter queue entries))
filter_of _ = None

-- `readq QUEUE ROOM`
abbrev pub readq_of : List (List ℕ) → Option Command
readq_of (number ∷ (bytes ∷ [])) = do
  queue ← u32_of number
  room ← u32_of bytes
  Some (command.Readq queue room)
readq_of _ = None

-- a command: its first word, and what the words behind it make of it
pub record Row : Type 0 where
  pub word : List ℕ
  pub reads : List (List ℕ) → Option Command

abbrev pub row : List ℕ → (List (List ℕ) → Option Command) → Row
row word reads = record { word = word; reads = reads }

-- the commands of contexts, and of the time
unfoldable pub context_commands : List Row
context_commands =
    row (codes "hello") hello_of
    ∷ row (codes "context") context_of
    ∷ row (codes "moment") moment_of
    ∷ row (codes "thread") (alone_of op.Thread)
    ∷ row (codes "fork") (alone_of op.Fork)
    ∷ row (codes "exec") (alone_of op.Exec)
    ∷ row (codes "exit") (alone_of op.Exit)
    ∷ []

-- the commands that make keys and keyrings, and that read them
unfoldable pub key_commands : List Row
key_commands =
    row (codes "add") add_of
    ∷ row (codes "newring") newring_of
    ∷ row (codes "id") id_of
    ∷ row (codes "join") join_of
    ∷ row (codes "update") update_of
    ∷ row (codes "print") print_of
    ∷ row (codes "rlist") rlist_of
    ∷ row (codes "rdescribe") rdescribe_of
    ∷ []

-- the commands that change keys, and that end them
unfoldable pub change_commands : List Row
change_commands =
    row (codes "revoke") revoke_of
    ∷ row (codes "invalidate") invalidate_of
    ∷ row (codes "clear") clear_of
    ∷ row (codes "chown") chown_of
    ∷ row (codes "chgrp") chgrp_of
    ∷ row (codes "setperm") setperm_of
    ∷ row (codes "timeout") timeout_of
    ∷ []

-- the commands of links, and of searches
unfoldable pub link_commands : List Row
link_commands =
    row (codes "link") link_of
    ∷ row (codes "unlink") unlink_of
    ∷ row (codes "move") move_of
    ∷ row (codes "restrict") restrict_of
    ∷ row (codes "search") search_of
    ∷ row (codes "request") request_of
    ∷ []

-- the commands of queues, and the last of all
unfoldable pub queue_commands : List Row
queue_commands =
    row (codes "open") open_of
    ∷ row (codes "closeq") closeq_of
    ∷ row (codes "watch") watch_of
    ∷ row (codes "filter") filter_of
    ∷ row (codes "readq") readq_of
    ∷ row (codes "leave") (alone_of op.Leave)
    ∷ []

-- the commands from those of links on, from those that change keys on, and from those that make keys on
abbrev pub commands_from_links : List Row
commands_from_links = link_commands ++ queue_commands

abbrev pub commands_from_changes : List Row
commands_from_changes = change_commands ++ commands_from_links

abbrev pub commands_from_keys : List Row
commands_from_keys = key_commands ++ commands_from_changes

-- all commands
abbrev pub commands : List Row
commands = context_commands ++ commands_from_keys

-- of these commands the one of a first word
abbrev pub row_in : List Row → List ℕ → Option Row
row_in rows word = find (λ r. bytes_eq word r.word) rows

-- the command of a first word
abbrev pub row_of : List ℕ → Option Row
row_of word = row_in commands word

-- each command is that of its first word: no two have one word
abbrev pub HaveTheirWords : Type 0
HaveTheirWords = map (λ r. row_of r.word) commands ≡ map Some commands

-- of these commands the one of a first word, with those behind it
abbrev pub read_in : List Row → List ℕ → List (List ℕ) → Option Command
read_in rows word args = do
  r ← row_in rows word
  r.reads args

-- the command of a first word with those behind it
abbrev pub command_behind : List ℕ → List (List ℕ) → Option Command
command_behind word args = read_in commands word args

-- the command that a line's words are: none where they are no command, or more or less than it takes
abbrev pub command_of : List (List ℕ) → Option Command
command_of [] = None
command_of (word ∷ args) = command_behind word args
