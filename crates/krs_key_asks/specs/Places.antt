-- Where an added key goes, as the store tells it.
use Rattle.std.specs.Prelude.{◌≤◌, ℕ}
use Rattle.krs_key_asks.specs.declared.adding.Place.{Place, TheVariants.{Make, Update}}
use Rattle.krs_model.specs.Asks.Adding as model

-- the place of the definitions
abbrev pub meant : Place → model.Place
meant (Update serial) = model.Updated serial
meant (Make ring) = model.Made ring

-- where a serial is needed, one is left
abbrev pub HasSerial : ℕ → Place → Type 0
HasSerial next (Update serial) = Unit {0}
HasSerial next (Make ring) = next ≤ 2147483647
