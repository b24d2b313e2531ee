-- The thread and process keyrings that the store makes.
use Rattle.std.specs.Prelude.{[], ◌+◌, ◌==◌, ◌∷◌, ◌≡◌, Bool, codes, Err, false, List, nat_lt, None, Ok, Option, Result}
use Rattle.std.specs.Prelude.{Some, true, ℕ, ℤ}
use Rattle.krs_types.specs.{KeyId.key_id_of, Perm.key_mask, Refusing.{◌>>=◌, or_refuse}, declared.ask.Answer.Answer}
use Rattle.krs_types.specs.declared.ask.Answer.TheVariants.{Number}
use Rattle.krs_types.specs.declared.{context.Context.Context, errno.Errno.{Errno, TheVariants.{ELOOP, ENOKEY, ENOSPC}}}
use Rattle.krs_types.specs.declared.{key_id.KeyId.KeyId, kind.Kind.TheVariants.Keyring, name.Name.Name}
use Rattle.krs_model.specs.Asks.Adding.{made, new_key}
use Rattle.krs_model.specs.{Asks.{Changing.changed, Linked.{name_of, unless}}, Linking.linking, Lookup.context_of}
use Rattle.krs_model.specs.Making.{made_for, thread_to, with_new, with_process, with_thread, within_serials}
use Rattle.krs_model.specs.Outcome.{Outcome}
use Rattle.krs_model.specs.{Possession.process_ring, Reach.{has_chain, nesting_depth}, State.State, Table.at}
use Rattle.krs_ctx.specs.Anchors.{anchored, Anchors, anchors_of}
use Rattle.krs_links.specs.Links.{LinkList}
use Rattle.krs_keys.specs.{Keys.seen, declared.key.{Content.TheVariants.Links, Key.Key}}
use Rattle.krs_tables.specs.Linked.{name_in}
use Rattle.krs_tables.specs.declared.making.{Maker.Maker, Special.{Special, TheVariants.{Process, Thread}}}
use Rattle.krs_ctx.specs.Told as anchors
use Rattle.krs_model.specs.State as model
use Rattle.krs_types.specs.declared.key_id.KeyId.TheVariants as id

-- the state and the context of the definitions, where this keyring is made
abbrev pub made_as : Option Special → State → ℕ → Context → State × Context
made_as None s number c = (s, c)
made_as (Some Thread) s number c = (with_thread s number c, thread_to s.next_serial c)
made_as (Some Process) s number c = (with_process s c, c)

abbrev pub special_name : Special → Name
special_name Thread = record { kind = Keyring; desc = codes "_tid" }
special_name Process = record { kind = Keyring; desc = codes "_pid" }

-- it, with these links
abbrev pub ring_key : Special → Maker → LinkList → Key
ring_key special maker links = record {
  name = special_name special;
  uid = maker.uid;
  gid = maker.gid;
  perm = key_mask;
  expiry = None;
  revoked = false;
  joined = false;
  closed = false;
  content = Links links;
}

-- the store of the definitions, where this keyring is made
abbrev pub with_ring : Special → State → ℕ → Context → State
with_ring Thread s number c = with_thread s number c
with_ring Process s number c = with_process s c

-- there is none yet
abbrev pub IsMissing : Special → State → Context → Type 0
IsMissing Thread s c = c.thread ≡ None
IsMissing Process s c = process_ring s c.process ≡ None

-- the id that stands for it
abbrev pub id_of : Special → KeyId
id_of Thread = id.Thread
id_of Process = id.Process

-- for an id this keyring is to be made, or none
abbrev pub Makes : Option Special → State → ℕ → Context → ℤ → Type 0
Makes None s number c id = made_for s number c id ≡ (s, c)
Makes (Some special) s number c id = (key_id_of id ≡ Ok (id_of special)) × IsMissing special s c

-- it is made alone
abbrev pub ring_made : Special → State → ℕ → ℕ → Outcome
ring_made special s client number = do
  c ← context_of s client number
  within_serials s (Ok (with_ring special s number c, Number s.next_serial))

-- it is made, and links this key, which nests no keyring too deep
abbrev pub linking_made : Special → State → ℕ → ℕ → ℕ → Answer → Outcome
linking_made special s client number serial answer = do
  c ← context_of s client number
  key ← or_refuse ENOKEY (at s.keys serial)
  nests ← unless (has_chain s.keys serial nesting_depth) ELOOP
  within_serials s (Ok (
    changed (with_ring special s number c) s.next_serial
        (linking (with_ring special s number c).keys (name_of key) serial),
    answer,
  ))

-- it is made with a new key, where two serials are left
abbrev pub adding_made : Special → State → ℕ → ℕ → Name → List ℕ → Outcome
adding_made special s client number name payload = do
  c ← context_of s client number
  room ← unless (nat_lt 2147483647 (s.next_serial + 1)) ENOSPC
  Ok (
    made (with_ring special s number c) s.next_serial name (new_key name payload c.caller.uid c.caller.gid),
    Number (s.next_serial + 1),
  )

-- the id stands for the keyring that is made
abbrev pub is_coming_as : Special → ℕ → Result KeyId Errno → Bool
is_coming_as special next (Err e) = false
is_coming_as special next (Ok (id.Serial n)) = n == next
is_coming_as Thread next (Ok id.Thread) = true
is_coming_as Process next (Ok id.Thread) = false
is_coming_as Thread next (Ok id.Process) = false
is_coming_as Process next (Ok id.Process) = true
is_coming_as special next (Ok id.Session) = false
is_coming_as special next (Ok id.User) = false
is_coming_as special next (Ok id.UserSession) = false

abbrev pub is_coming : Special → ℕ → ℤ → Bool
is_coming special next id = is_coming_as special next (key_id_of id)

-- the context or the process is there, and has no such keyring
abbrev pub HasPlace : Special → Maker → State → Type 0
HasPlace Thread maker s = (c : Context) × (at s.contexts maker.number ≡ Some c) × (c.thread ≡ None)
HasPlace Process maker s = at s.processes maker.process ≡ Some None

abbrev pub attached_as : Special → Maker → ℕ → Anchors → Anchors
attached_as Thread maker ring t = anchors.changed t maker.number (thread_to ring)
attached_as Process maker ring t = anchors.with_ring t maker.process ring

-- no link, or one to this key under its name
abbrev pub AreLinksTo : State → LinkList → Option ℕ → Type 0
AreLinksTo s links None = links ≡ []
AreLinksTo s links (Some serial) = (name : Name) × (name_in s serial ≡ Some name) × (links ≡ (name, serial) ∷ [])

-- the keyring under the next serial, attached, which links these keys
abbrev pub ring_at : Special → Maker → List ℕ → State → State
ring_at special maker serials s =
    anchored (with_new s (record (seen (ring_key special maker [])) { content = model.Links serials }))
    (attached_as special maker s.next_serial (anchors_of s))

abbrev pub maker_of : ℕ → Context → Maker
maker_of number c = record { number = number; process = c.process; uid = c.caller.uid; gid = c.caller.gid }
