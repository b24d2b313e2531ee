-- What the store makes of a move, once the key and the first keyring were looked up.
use Rattle.std.specs.Prelude.{◌==◌, ◌≡◌, Err, Ok, Result, ℕ, ℤ}
use Rattle.krs_types.specs.{Refusing.{◌>>=◌, or_refuse}, declared.ask.Answer.TheVariants.Nothing}
use Rattle.krs_types.specs.declared.{errno.Errno.TheVariants.ENOKEY, fault.Fault.Fault, name.Name.Name}
use Rattle.krs_model.specs.Asks.Changing.{changed}
use Rattle.krs_model.specs.{Asks.{Linked.{if_linked, without_link}, Moving.moved_to}, Linking.{linking, ring_links}}
use Rattle.krs_model.specs.{Lookup.context_of, Outcome.{Fails, Outcome}, State.State, Table.at}
use Rattle.krs_tables.specs.{Linked.room_in, Specials.linking_made, declared.making.Special.Special}

-- into a keyring that is there
abbrev pub moved_at : State → ℕ → ℕ → ℕ → ℕ → ℤ → ℕ → Outcome
moved_at s client number serial from to flags = do
  c ← context_of s client number
  key ← or_refuse ENOKEY (at s.keys serial)
  source ← or_refuse ENOKEY (at s.keys from)
  moved_to s c (flags == 1) (serial, key) (from, source) to

-- into a keyring that is made for it
abbrev pub moved_new : Special → State → ℕ → ℕ → ℕ → ℕ → Outcome
moved_new special s client number serial from = do
  source ← or_refuse ENOKEY (at s.keys from)
  links ← ring_links source.content
  there ← if_linked serial links
  made ← linking_made special s client number serial Nothing
  Ok (changed made.0 from (without_link serial), made.1)

-- with the link to a key of this name out of the first keyring and in the second
abbrev pub moved_links : State → ℕ → ℕ → Name → ℕ → State
moved_links s from into name serial =
    changed (changed s into (linking s.keys name serial)) from (without_link serial)

-- the link goes over, where there is room, and then memory; else nothing has changed
abbrev pub Moves : State → Result (Unit {0}) Fault → State → ℕ → ℕ → Name → ℕ → Type 0
Moves old (Ok done) new from into name serial =
    (room_in old.keys into name ≡ Ok tt) × (new ≡ moved_links old from into name serial)
Moves old (Err e) new from into name serial = Fails e (room_in old.keys into name) × (new ≡ old)
