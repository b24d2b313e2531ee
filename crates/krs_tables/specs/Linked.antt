-- What the store tells of one link more, or one less.
use Rattle.std.specs.Prelude.{◌≡◌, Err, false, Ok, Option, option_map, Result, true, ℕ}
use Rattle.krs_types.specs.declared.{errno.Errno.{Errno, TheVariants.ENOENT}, fault.Fault.Fault, name.Name.Name}
use Rattle.krs_model.specs.Asks.Changing.{changed}
use Rattle.krs_model.specs.{Asks.Linked.{name_of, without_link}, Levels.is_in, Linking.{has_room, link_named, linking}}
use Rattle.krs_model.specs.{Outcome.Fails, Reach.links_of_key_at, State.{Key, State}, Table.{at, Table}}

-- the name of the key at a serial
abbrev pub name_in : State → ℕ → Option Name
name_in s serial = option_map name_of (at s.keys serial)

-- the keyring has room for a link of that name
abbrev pub room_in : Table Key → ℕ → Name → Result (Unit {0}) Errno
room_in keys ring name = has_room (links_of_key_at keys ring) (link_named keys name (links_of_key_at keys ring))

-- what a link of that name in the keyring would displace: profile, place of a link
abbrev pub displaced_in : Table Key → ℕ → Name → Option ℕ
displaced_in keys ring name = link_named keys name (links_of_key_at keys ring)

-- the keyring links the key, where there is room, and then memory; else nothing has changed
abbrev pub Puts : State → Result (Unit {0}) Fault → State → ℕ → Name → ℕ → Type 0
Puts old (Ok done) new ring name serial =
    (room_in old.keys ring name ≡ Ok tt) × (new ≡ changed old ring (linking old.keys name serial))
Puts old (Err e) new ring name serial = Fails e (room_in old.keys ring name) × (new ≡ old)

-- the keyring does not link the key any more, where it did; else nothing has changed
abbrev pub Takes : State → Result (Unit {0}) Errno → State → ℕ → ℕ → Type 0
Takes old (Ok done) new ring serial =
    (is_in serial (links_of_key_at old.keys ring) ≡ true) × (new ≡ changed old ring (without_link serial))
Takes old (Err e) new ring serial = (is_in serial (links_of_key_at old.keys ring) ≡ false)
    × ((e ≡ ENOENT) × (new ≡ old))
